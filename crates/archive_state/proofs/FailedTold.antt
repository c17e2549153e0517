-- What is told of failed copies, copy by copy, and of the jobs that a Retry bears.
use Rattle.std.proofs.Common.{◌≡◌, ◌∙◌, ◌+◌, ◌<◌, ℕ, zero, suc, List, [], ◌∷◌, ◌++◌, Bool, false, length, refl, sym, ap, arith, take, append-nil, append_assoc}
use Rattle.std.specs.Prelude.{Option, Some, None, Result, Ok, Err, IfOk, is_none, map, slice_get}
use Rattle.std.specs.List.{list_any}
use Rattle.std.proofs.Math.Seq.{take-length}
use Rattle.std.proofs.lemmas.List.{map-append}
use Rattle.cta_site.specs.declared.site.Site.{Site}
use Rattle.cta_site.specs.Listed.{Listed, rows}
use Rattle.cta_model.specs.declared.asks.Job.{Job}
use Rattle.cta_model.specs.declared.answers.Answer.TheVariants as answer
use Rattle.cta_model.specs.declared.reports.FailedCopy.{FailedCopy}
use Rattle.cta_model.specs.declared.states.Charge.{Charge}
use Rattle.cta_model.specs.declared.answers.Refusal.TheVariants as refusal
use Rattle.cta_model.specs.Answers.{refuse, retried_jobs}
use Rattle.cta_model.specs.Bare.{bare_copy}
use Rattle.cta_model.specs.Files.{live_file}
use Rattle.cta_model.specs.History.{History, next_number}
use Rattle.cta_model.specs.Legal.{IsLegal}
use Rattle.cta_model.specs.Mounts.{job_of}
use Rattle.cta_model.specs.Reports.{failed_copies}
use Rattle.cta_model.specs.Stages.{charge_text}
use Rattle.cta_laws.proofs.JobFiles.{retried_is}
use Rattle.part_model.specs.JobRows.{JobRows, charges_in}
use Rattle.part_model.specs.Names.{file_in}
use Rattle.part_model.specs.Order.{first_job, next_job, walk_at}
use Rattle.part_laws.proofs.Walks.{walk_starts}
use Rattle.part_laws.specs.AnswerLaws.{PartsTellLooks, PartsTellOperators}
use Rattle.part_laws.specs.Files.{Files, files_of}
use Rattle.part_laws.specs.Operators.{retried_told}
use Rattle.part_laws.specs.Reports.{errors_told, failed_copy_told}
use Rattle.archive_parts.specs.declared.parts.ArchiveParts.{ArchiveParts}
use Rattle.archive_parts.specs.PartsKept.{ArePartsKept, values_of}
use Rattle.fault_asks.specs.Retrying.{AreCopies}
use Rattle.fault_asks.proofs.FailedWalks.{first_birth, goes_on, next_birth}
use Rattle.fault_asks.proofs.ChargeTexts.{charge_there, get_there}

-- ---- the errors of a copy

take_get : (xs : List Charge) (i : ℕ) (x : Charge) → slice_get xs i ≡ Some x → take (suc i) xs ≡ take i xs ++ x ∷ []
take_get [] i x e = absurd (cc)
take_get (y ∷ xs) zero x e = (let same : y ≡ x = cc in ap (λ (z : Charge). z ∷ []) same)
take_get (y ∷ xs) (suc i) x e = ap (λ (ys : List Charge). y ∷ ys) (take_get xs i x e)

-- one error more
pub error_more : (site : Site) (xs : List Charge) (i : ℕ) (x : Charge) (was now : List (List ℕ)) (text : List ℕ) → slice_get xs i ≡ Some x → was ≡ map (charge_text site) (take i xs) → text ≡ charge_text site x → now ≡ was ++ text ∷ []
    → now ≡ map (charge_text site) (take (i + 1) xs)
error_more site xs i x was now text at before is added =
    let next : suc i ≡ i + 1 = omega arith in
    added ∙ ap (λ (ts : List (List ℕ)). ts ++ text ∷ []) before ∙ ap (λ (t : List ℕ). map (charge_text site) (take i xs) ++ t ∷ []) is
    ∙ sym (map-append (charge_text site) (take i xs) (x ∷ []))
    ∙ ap (map (charge_text site)) (sym (take_get xs i x at))
    ∙ ap (λ (n : ℕ). map (charge_text site) (take n xs)) next

pub errors_all : (site : Site) (b : JobRows) (f c birth n : ℕ) (o : Option ℕ) (errors : List (List ℕ)) → o ≡ Some birth → n ≡ length (charges_in b.charges (job_of birth f c)) → errors ≡ map (charge_text site) (take n (charges_in b.charges (job_of birth f c)))
    → errors ≡ errors_told site b f c o
errors_all site b f c birth n o errors found count made =
    made
    ∙ ap (map (charge_text site)) (ap (λ (k : ℕ). take k (charges_in b.charges (job_of birth f c))) count ∙ take-length (charges_in b.charges (job_of birth f c)))
    ∙ sym (ap (errors_told site b f c) found)

pub errors_none : (site : Site) (b : JobRows) (f c : ℕ) (o : Option ℕ) (errors : List (List ℕ)) → o ≡ None → errors ≡ [] → errors ≡ errors_told site b f c o
errors_none site b f c o errors none empty = empty ∙ sym (ap (errors_told site b f c) none)

-- ---- all failed copies

-- the job that a walk has come to has birth 0
abbrev pub IsCopy : Option Job → Type 0
IsCopy None = Unit {0}
IsCopy (Some j) = j.birth ≡ 0

is_copy : (o : Option Job) → ((j : Job) → o ≡ Some j → j.birth ≡ 0) → IsCopy o
is_copy None each = tt
is_copy (Some j) each = each j refl

pub copies_begin : (site : Site) (b : JobRows) (files : Files) (q : List Job) (o : Option Job) (told : List FailedCopy) → AreCopies q → o ≡ first_job q → told ≡ []
    → map bare_copy told ++ map (failed_copy_told site b files) (walk_at o q) ≡ map (failed_copy_told site b files) q
copies_begin site b files q o told are is none =
    ap (λ (xs : List FailedCopy). map bare_copy xs ++ map (failed_copy_told site b files) (walk_at o q)) none
    ∙ ap (λ (x : Option Job). map (failed_copy_told site b files) (walk_at x q)) is
    ∙ ap (map (failed_copy_told site b files)) (walk_starts q are.order)

pub copy_first : (q : List Job) (o : Option Job) → AreCopies q → o ≡ first_job q → IsCopy o
copy_first q o are is = is_copy o (λ j found. first_birth q j are (sym is ∙ found))

pub copies_step : (site : Site) (b : JobRows) (files : Files) (q : List Job) (j : Job) (o : Option Job) (x : FailedCopy) (told told' : List FailedCopy) (all : List FailedCopy) → AreCopies q → j.birth ≡ 0 → o ≡ next_job (job_of 0 j.file j.copy) q
    → bare_copy x ≡ failed_copy_told site b files j → told' ≡ told ++ x ∷ [] → map bare_copy told ++ map (failed_copy_told site b files) (walk_at (Some j) q) ≡ all → map bare_copy told' ++ map (failed_copy_told site b files) (walk_at o q) ≡ all
copies_step site b files q j o x told told' all are birth is same pushed was =
    ap (λ (xs : List FailedCopy). map bare_copy xs ++ map (failed_copy_told site b files) (walk_at o q)) pushed
    ∙ ap (λ (xs : List FailedCopy). xs ++ map (failed_copy_told site b files) (walk_at o q)) (map-append bare_copy told (x ∷ []))
    ∙ append_assoc (map bare_copy told) (bare_copy x ∷ []) (map (failed_copy_told site b files) (walk_at o q))
    ∙ ap (λ (y : FailedCopy). map bare_copy told ++ (y ∷ map (failed_copy_told site b files) (walk_at o q))) same
    ∙ ap (λ (xs : List Job). map bare_copy told ++ (failed_copy_told site b files j ∷ map (failed_copy_told site b files) xs)) (goes_on q j o are birth is)
    ∙ was

pub copy_next : (q : List Job) (j : Job) (o : Option Job) → AreCopies q → o ≡ next_job (job_of 0 j.file j.copy) q → IsCopy o
copy_next q j o are is = is_copy o (λ k found. next_birth q (job_of 0 j.file j.copy) k are (sym is ∙ found))

pub copies_end : (site : Site) (b : JobRows) (files : Files) (q : List Job) (o : Option Job) (told all : List FailedCopy) → o ≡ None → map bare_copy told ++ map (failed_copy_told site b files) (walk_at o q) ≡ all → map bare_copy told ≡ all
copies_end site b files q o told all none was =
    sym (append-nil (map bare_copy told)) ∙ sym (ap (λ (x : Option Job). map bare_copy told ++ map (failed_copy_told site b files) (walk_at x q)) none) ∙ was

-- what is told of them is what the history says
pub list_now : {E : Type 0} (site s : Site) (h : History) (p : ArchiveParts) (r : Result (Listed FailedCopy) E) → PartsTellLooks → IsLegal site h → ArePartsKept site h p → s ≡ site
    → IfOk r (λ copies. map bare_copy copies.items ≡ map (failed_copy_told s p.book.value (files_of h)) p.failed.value) → IfOk r (λ copies. map bare_copy copies.items ≡ failed_copies site h)
list_now site s h p (Ok copies) law legal kept same told = told ∙ ap (λ (x : Site). map (failed_copy_told x p.book.value (files_of h)) p.failed.value) same ∙ sym (law site h (values_of p) 0 legal kept.stand).failed
list_now site s h p (Err e) law legal kept same told = tt

-- ---- the jobs of a Retry

pub count_now : (site : Site) (h : History) (p : ArchiveParts) (n count : ℕ) (ps : List (List ℕ)) (jobs : List Job) → PartsTellOperators → IsLegal site h → ArePartsKept site h p → list_any (λ path. is_none (live_file h path)) ps ≡ false → n ≡ next_number h
    → jobs ≡ retried_told p.names p.failed.value n [] ps → count ≡ length jobs → count ≡ length (retried_jobs site h [] ps)
count_now site h p n count ps jobs law legal kept named number found counted =
    counted
    ∙ ap length (found
    ∙ ap (λ (m : ℕ). retried_told p.names p.failed.value m [] ps) number
    ∙ sym (retried_is false (list_any (λ path. is_none (file_in p.names path)) ps) (retried_told p.names p.failed.value (next_number h) [] ps) (rows (retried_jobs site h [] ps)) (light (list_any (λ path. is_none (live_file h path)) ps) named ∙ (law site h (values_of p) legal kept.stand).retry ps)))
  where
    light : (none : Bool) → none ≡ false → answer.Retried (rows (retried_jobs site h [] ps)) ≡ refuse refusal.NoFile none (answer.Retried (rows (retried_jobs site h [] ps)))
    light none is = sym (ap (λ (b : Bool). refuse refusal.NoFile b (answer.Retried (rows (retried_jobs site h [] ps)))) is)
