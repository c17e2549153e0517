-- What asks have in them is told by its bytes.
use Rattle.std.proofs.Common.{◌≡◌, ◌∙◌, ◌++◌, if◌then◌else◌, ◌==◌, List, ◌∷◌, ℕ, length, take, drop, refl, ap, sym}
use Rattle.std.proofs.Math.Seq.{take-append_seam, drop-append_seam}
use Rattle.record_fields.specs.Numbers.{byte, number, long_number, IsLong}
use Rattle.record_fields.specs.Texts.{text}
use Rattle.record_fields.specs.Lists.{option_before}
use Rattle.record_fields.specs.Values.{sum_before, SumFits, who_before, WhoFits, job_before, JobFits, item_before, ItemFits, wanted_before, WantedFits, fault_before, FaultFits}
use Rattle.record_fields.proofs.ToldNumbers.{told_byte, byte_told, told_number, number_told, told_long, long_told, told_text, text_told, told_front, front_told}
use Rattle.record_fields.proofs.ToldLists.{told_option, option_told}
use Rattle.blob.specs.declared.sum.Sum256.{Sum256}
use Rattle.cta_model.specs.declared.asks.Who.{Who}
use Rattle.cta_model.specs.declared.asks.Job.{Job}
use Rattle.cta_model.specs.declared.asks.Item.{Item}
use Rattle.cta_model.specs.declared.asks.Wanted.{Wanted}
use Rattle.cta_model.specs.declared.asks.Fault.{Fault}
use Rattle.cta_model.specs.declared.asks.Fault.TheVariants as fault

pub told_sum : List ℕ → Sum256 × List ℕ
told_sum bytes =
    let len_at = told_long bytes in
    let digest_at = told_front (32, len_at.1) in
    (record { len = len_at.0; digest = digest_at.0 }, digest_at.1)

digest_told : (n : ℕ) (digest rest : List ℕ) → length digest ≡ n → told_front (n, digest ++ rest) ≡ (digest, rest)
digest_told n digest rest size = ap (λ m. told_front (m, digest ++ rest)) (sym size) ∙ front_told digest rest

pub sum_told : (v : Sum256) (rest : List ℕ) → SumFits v → told_sum (sum_before v rest) ≡ (v, rest)
unfolding told_sum
sum_told v rest fit =
    rw (long_told v.len (v.digest ++ rest) fit.0) (ap (λ p. (record { len = v.len; digest = p.0 }, p.1)) (digest_told 32 v.digest rest fit.1))

pub told_who : List ℕ → Who × List ℕ
told_who bytes =
    let requester_at = told_text bytes in
    let group_at = told_text requester_at.1 in
    (record { requester = requester_at.0; group = group_at.0 }, group_at.1)

pub who_told : (v : Who) (rest : List ℕ) → WhoFits v → told_who (who_before v rest) ≡ (v, rest)
unfolding told_who
who_told v rest fit =
    rw (text_told v.requester (text v.group rest) fit.0, text_told v.group rest fit.1) refl

pub told_job : List ℕ → Job × List ℕ
told_job bytes =
    let birth_at = told_number bytes in
    let file_at = told_number birth_at.1 in
    let copy_at = told_byte file_at.1 in
    (record { birth = birth_at.0; file = file_at.0; copy = copy_at.0 }, copy_at.1)

pub job_told : (v : Job) (rest : List ℕ) → JobFits v → told_job (job_before v rest) ≡ (v, rest)
unfolding told_job
job_told v rest fit =
    rw (number_told v.birth (number v.file (byte v.copy rest)) fit.0, number_told v.file (byte v.copy rest) fit.1) refl

pub told_item : List ℕ → Item × List ℕ
told_item bytes =
    let job_at = told_job bytes in
    let fseq_at = told_number job_at.1 in
    let sum_at = told_sum fseq_at.1 in
    (record { job = job_at.0; fseq = fseq_at.0; sum = sum_at.0 }, sum_at.1)

pub item_told : (v : Item) (rest : List ℕ) → ItemFits v → told_item (item_before v rest) ≡ (v, rest)
unfolding told_item
item_told v rest fit =
    rw (job_told v.job (number v.fseq (sum_before v.sum rest)) fit.0, number_told v.fseq (sum_before v.sum rest) fit.1, sum_told v.sum rest fit.2) refl

pub told_wanted : List ℕ → Wanted × List ℕ
told_wanted bytes =
    let path_at = told_text bytes in
    let lifetime_at = told_option told_long path_at.1 in
    (record { path = path_at.0; lifetime = lifetime_at.0 }, lifetime_at.1)

pub wanted_told : (v : Wanted) (rest : List ℕ) → WantedFits v → told_wanted (wanted_before v rest) ≡ (v, rest)
unfolding told_wanted
wanted_told v rest fit =
    rw (text_told v.path (option_before long_number v.lifetime rest) fit.0, option_told long_number IsLong told_long long_told v.lifetime rest fit.1) refl

told_mismatch : List ℕ → Fault × List ℕ
told_mismatch bytes =
    let found_at = told_sum bytes in
    let wanted_at = told_sum found_at.1 in
    (fault.Mismatch found_at.0 wanted_at.0, wanted_at.1)

abbrev fault_at : ℕ → List ℕ → Fault × List ℕ
fault_at n bytes = if n == 0 then (fault.Load, bytes) else if n == 1 then (fault.Write, bytes) else if n == 2 then (fault.Flush, bytes) else if n == 3 then (fault.Read, bytes) else if n == 4 then (fault.Unload, bytes) else told_mismatch bytes

pub told_fault : List ℕ → Fault × List ℕ
told_fault bytes = fault_at (told_byte bytes).0 (told_byte bytes).1

pub fault_told : (v : Fault) (rest : List ℕ) → FaultFits v → told_fault (fault_before v rest) ≡ (v, rest)
unfolding told_fault told_mismatch
fault_told fault.Load rest fit = refl
fault_told fault.Write rest fit = refl
fault_told fault.Flush rest fit = refl
fault_told fault.Read rest fit = refl
fault_told fault.Unload rest fit = refl
fault_told (fault.Mismatch found wanted) rest fit =
    rw (sum_told found (sum_before wanted rest) fit.0, sum_told wanted rest fit.1) refl
