-- An accepted Put, and the calls for it.
use Rattle.std.proofs.Common.{◌≡◌, ◌∙◌, ℕ, ◌+◌, ◌*◌, ◌≤◌, ◌<◌, ◌^◌, List, [], ◌∷◌, Bool, true, false, ◌||◌, not, refl, sym, ap, subst, arith, length}
use Rattle.std.specs.Prelude.{None, is_some, ◌==◌, if◌then◌else◌, map}
use Rattle.blob.specs.declared.sum.Sum256.{Sum256}
use Rattle.cta_site.specs.declared.site.Site.{Site}
use Rattle.cta_site.specs.Listed.{rows}
use Rattle.cta_site.specs.Lookups.{copies_of}
use Rattle.cta_site.specs.WellFormed.{IsWellFormed}
use Rattle.cta_model.specs.declared.asks.Ask.TheVariants as ask
use Rattle.cta_model.specs.declared.asks.Direction.{Direction}
use Rattle.cta_model.specs.declared.asks.Direction.TheVariants as direction
use Rattle.cta_model.specs.declared.asks.Job.{Job}
use Rattle.cta_model.specs.declared.asks.Who.{Who}
use Rattle.cta_model.specs.declared.answers.Answer.TheVariants as answer
use Rattle.cta_model.specs.declared.entries.Entry.{Entry}
use Rattle.cta_model.specs.Answers.{answer_of, is_accepted}
use Rattle.cta_model.specs.Buffer.{is_resident, last_arrival}
use Rattle.cta_model.specs.Files.{copies_of_file, is_live, path_in, size_of}
use Rattle.cta_model.specs.History.{History, entry_of, has_number, last_moment, moment_of}
use Rattle.cta_model.specs.Jobs.{is_live_job}
use Rattle.cta_model.specs.Legal.{IsLegal, IsNext, greatest_moment, new_entry}
use Rattle.cta_model.specs.Mounts.{has_job, job_of}
use Rattle.cta_model.specs.Queues.{is_queued, queue_of}
use Rattle.cta_model.specs.Space.{bytes_to_read, resident_files, size_of_files}
use Rattle.cta_model.specs.Space as space
use Rattle.cta_model.proofs.Appends.{is_next}
use Rattle.cta_laws.specs.Asks.{AnswerIs}
use Rattle.cta_laws.specs.Space.{BufferHasRoom}
use Rattle.cta_laws.proofs.Accepted.{answer_is}
use Rattle.cta_laws.proofs.BufferLaw.{newest_size}
use Rattle.cta_laws.proofs.Paths.{newest_entry}
use Rattle.cta_laws.proofs.RangeLaw.{newest_path}
use Rattle.part_model.specs.declared.jobs.Line.{Line}
use Rattle.part_model.specs.declared.space.Resident.{Resident}
use Rattle.part_model.specs.Held.{Held, HeldAgree, bytes_of, evict, evicted_for, is_held, numbers, without}
use Rattle.part_model.specs.Queues.{Lines}
use Rattle.part_laws.proofs.Members.{queue_members}
use Rattle.part_laws.specs.Lines.{AreLines, line_of}
use Rattle.part_laws.proofs.PutSteps.{not_live_yet}
use Rattle.part_laws.specs.Held.{IsHeld}
use Rattle.part_laws.proofs.Places.{new_dead}
use Rattle.part_laws.proofs.Told.{bytes_is, evicted_is, held_is}
use Rattle.kept_history.specs.Puts.{is_put, puts_file}
use Rattle.job_queues.specs.Waiting.{jobs_of}
use Rattle.part_laws.specs.Laws.{AreSmall, FilesFitBuffer}
use Rattle.part_moves.proofs.NewJobs.{jobs_of_lines, lines_have}
use Rattle.part_moves.proofs.Charged.{later_of}

-- ---- the entry

-- the entry of a Put that evicts these files
abbrev pub put_entry : History → ℕ → Who → List ℕ → Sum256 → List ℕ → Entry
put_entry h t who path sum gone = new_entry h t (ask.Put who path sum) (answer.Stored (rows gone))

-- what an accepted Put is answered, where the buffer would evict these files, and that its entry may follow
pub record PutHolds (site : Site) (h : History) (t : ℕ) (who : Who) (path : List ℕ) (sum : Sum256) (gone : List ℕ) : Type 0 where
  pub answered : answer.Stored (rows gone) ≡ answer_of site h t (ask.Put who path sum)
  pub next : IsNext site h (put_entry h t who path sum gone)
  pub legal : IsLegal site (put_entry h t who path sum gone ∷ h)

pub put_holds : (site : Site) (h : History) (t : ℕ) (who : Who) (path : List ℕ) (sum : Sum256) (v : Held) → t ≤ greatest_moment → IsLegal site h → IsHeld site h v → is_accepted (answer_of site h t (ask.Put who path sum)) ≡ true
    → PutHolds site h t who path sum (evicted_for v (moment_of h t) sum.len)
put_holds site h t who path sum v low legal held accepted =
    let told : AnswerIs site h (moment_of h t) (ask.Put who path sum) (answer_of site h t (ask.Put who path sum)) = answer_is site h t (ask.Put who path sum) (answer_of site h t (ask.Put who path sum)) refl accepted in
    let some : IsNext site h (new_entry h t (ask.Put who path sum) (answer_of site h t (ask.Put who path sum))) = is_next site h t (ask.Put who path sum) (answer_of site h t (ask.Put who path sum)) legal low tt refl accepted in
    let gone : evicted_for v (moment_of h t) sum.len ≡ space.evicted_for site h (moment_of h t) sum.len = evicted_is site h v (moment_of h t) sum.len held (later_of h t) some.within in
    let is : answer.Stored (rows (evicted_for v (moment_of h t) sum.len)) ≡ answer_of site h t (ask.Put who path sum) = ap (λ (fs : List ℕ). answer.Stored (rows fs)) gone ∙ sym told.0 in
    let next : IsNext site h (put_entry h t who path sum (evicted_for v (moment_of h t) sum.len)) = is_next site h t (ask.Put who path sum) (answer.Stored (rows (evicted_for v (moment_of h t) sum.len))) legal low tt is refl in
    record { answered = is; next = next; legal = (legal, next) }

-- ---- the new file

pub put_is_there : (e : Entry) (h : History) → puts_file e.ask ≡ true → is_put (entry_of (e ∷ h) (length h + 1)) ≡ true
put_is_there e h puts = ap is_put (newest_entry e h) ∙ puts

pub put_copies : (site : Site) (e : Entry) (h : History) → copies_of_file site (e ∷ h) (length h + 1) ≡ copies_of site (path_in e.ask)
put_copies site e h = ap (copies_of site) (newest_path e h)

pub put_size : (site : Site) (h : History) (t : ℕ) (who : Who) (path : List ℕ) (sum : Sum256) (gone : List ℕ) → FilesFitBuffer → IsLegal site (put_entry h t who path sum gone ∷ h) → sum.len ≤ site.limits.buffer
put_size site h t who path sum gone fits legal =
    let e : Entry = put_entry h t who path sum gone in
    subst (λ (n : ℕ). n ≤ site.limits.buffer) (newest_size e h) (fits site (e ∷ h) legal (length h + 1))

pub new_size : (site : Site) (h : History) (t : ℕ) (who : Who) (path : List ℕ) (sum : Sum256) (gone : List ℕ) (f : ℕ) → FilesFitBuffer → IsWellFormed site → IsLegal site (put_entry h t who path sum gone ∷ h) → f ≡ length h + 1
    → size_of (put_entry h t who path sum gone ∷ h) f ≤ 2147483648
new_size site h t who path sum gone f fits formed legal is =
    let a : size_of (put_entry h t who path sum gone ∷ h) f ≤ site.limits.buffer = fits site (put_entry h t who path sum gone ∷ h) legal f in
    let b : site.limits.buffer ≤ 2147483648 = formed.limits.buffer_to in
    omega arith

-- ---- the buffer

not_resident_yet : (h : History) → is_resident h (length h + 1) ≡ false
not_resident_yet h = (let dead : is_live h (length h + 1) ≡ false = new_dead h (length h + 1) (omega arith) in ap (λ (b : Bool). is_some (if b then last_arrival h (length h + 1) else None)) dead)

lacks_without : (f : ℕ) (gone : List ℕ) (rs : List Resident) → has_number f (numbers rs) ≡ false → has_number f (numbers (without gone rs)) ≡ false
lacks_without f gone [] none = refl
lacks_without f gone (r ∷ rs) none = by (has_number r.file gone) (f == r.file) refl none (λ x. lacks_without f gone rs x)
  where
    by : (a b : Bool) → (f == r.file) ≡ b → (b || has_number f (numbers rs)) ≡ false → (has_number f (numbers rs) ≡ false → has_number f (numbers (without gone rs)) ≡ false) → has_number f (numbers (if not a then r ∷ without gone rs else without gone rs)) ≡ false
    by a true is x rest = absurd (cc)
    by true false is x rest = rest x
    by false false is x rest = rw is (rest x)

bytes_without : (gone : List ℕ) (rs : List Resident) → bytes_of (without gone rs) ≤ bytes_of rs
bytes_without gone [] = omega arith
bytes_without gone (r ∷ rs) =
    elim (has_number r.file gone) as (λ b. bytes_of (if not b then r ∷ without gone rs else without gone rs) ≤ r.len + bytes_of rs) [ true ↦ omega (arith, bytes_without gone rs) | false ↦ omega (arith, bytes_without gone rs) ]

-- the new file is not there yet
pub lacks_new : (site : Site) (h : History) (v w : Held) (t need : ℕ) → IsHeld site h v → HeldAgree w (evict v t need) → is_held w (length h + 1) ≡ false
lacks_new site h v w t need held agree =
    ap (λ (rs : List Resident). has_number (length h + 1) (numbers rs)) agree.files
    ∙ lacks_without (length h + 1) (evicted_for v t need) v.files (held_is site h v (length h + 1) held ∙ not_resident_yet h)

few_bytes : (bytes was aside reads total buffer len : ℕ) → bytes ≤ was → was ≡ total → aside ≡ reads → total + reads ≤ buffer → len ≤ buffer → buffer ≤ 2147483648 → bytes + aside + len < 2 ^ 64
few_bytes bytes was aside reads total buffer len a b c d e f = omega arith

pub fits_new : (site : Site) (h : History) (v w : Held) (t need len : ℕ) → BufferHasRoom → IsLegal site h → IsWellFormed site → IsHeld site h v → HeldAgree w (evict v t need) → len ≤ site.limits.buffer → bytes_of w.files + w.aside + len < 2 ^ 64
fits_new site h v w t need len room legal formed held agree low =
    let less : bytes_of w.files ≤ bytes_of v.files = subst (λ (n : ℕ). n ≤ bytes_of v.files) (sym (ap bytes_of agree.files)) (bytes_without (evicted_for v t need) v.files) in
    few_bytes (bytes_of w.files) (bytes_of v.files) w.aside (bytes_to_read h) (size_of_files h (resident_files h)) site.limits.buffer len less
    (ap bytes_of held.files ∙ bytes_is site h (resident_files h)) (agree.aside ∙ held.aside) (room site h legal) low formed.limits.buffer_to

-- ---- the queues

pub lacks_jobs : (site : Site) (h : History) (lines : Lines) (n c k : ℕ) → IsLegal site h → AreLines site h direction.Archive lines → n ≡ length h + 1 → has_job (job_of n n c) (jobs_of (lines k)) ≡ false
lacks_jobs site h lines n c k legal are is =
    let dead : is_live_job site h (job_of n n c) ≡ false = not_live_yet site h (job_of n n c) legal is in
    lines_have site h direction.Archive lines k (job_of n n c) legal are ∙ rw dead refl

pub room_for_copies : (site : Site) (bytes copies : ℕ) → AreSmall site bytes → copies ≤ 4 → bytes + 2147483648 * copies < 2 ^ 64
room_for_copies site bytes copies small few = (let low : bytes ≤ 36028797018963968 = small.low in omega arith)
