-- The jobs that a Failed ends, as the job book tells them before it, and the book behind it.
use Rattle.std.proofs.Common.{◌≡◌, ◌∙◌, ◌+◌, ℕ, List, [], ◌∷◌, ◌++◌, length, Bool, true, false, ◌||◌, refl, sym, ap, subst, arith}
use Rattle.std.specs.Prelude.{if◌then◌else◌, ◌==◌, ◌&&◌, filter, nat_le}
use Rattle.std.proofs.lemmas.Bool.{and_parts}
use Rattle.cta_site.specs.declared.site.Site.{Site}
use Rattle.cta_site.specs.Listed.{rows}
use Rattle.cta_model.specs.declared.asks.Fault.{Fault}
use Rattle.cta_model.specs.declared.asks.Job.{Job}
use Rattle.cta_model.specs.declared.states.Charge.{Charge}
use Rattle.cta_model.specs.Charges.{charges_of, is_last_charge}
use Rattle.cta_model.specs.History.{History, has_number}
use Rattle.cta_model.specs.Jobs.{is_live_job}
use Rattle.cta_model.specs.Mounts.{drive_of_mount, has_job, same_job, tape_of_mount}
use Rattle.cta_laws.proofs.Bools.{eq_flip}
use Rattle.cta_laws.proofs.OnceLaw.{same_job_eq}
use Rattle.cta_laws.proofs.Tests.{or_left, or_right}
use Rattle.part_model.specs.JobBook.{TellSame, charge_jobs, end_jobs, give_back_jobs}
use Rattle.part_model.specs.JobRows.{JobRows, book_in}
use Rattle.part_laws.specs.QueueBooks.{IsBook, book_of}
use Rattle.part_laws.specs.JobParts.{JobParts, JobPartsStand, charged_out}
use Rattle.part_laws.proofs.BookSteps.{tell_chain}
use Rattle.part_laws.proofs.PartSteps.{parts_failed}
use Rattle.part_laws.specs.BookCalls.{jobs_failed}
use Rattle.part_laws.specs.Buffer.{is_file_of}
use Rattle.part_moves.specs.Flags.{job_files}
use Rattle.fault_asks.specs.Failing.{is_last_in, jobs_ended}
use Rattle.fault_asks.proofs.FailFacts.{IsFailure, failed, failed_entry, longer}
use Rattle.part_moves.proofs.Charged.{lives_is}

-- ---- lists

-- tests that agree on a list leave the same of it
pub filter_on : (p q : Job → Bool) (xs : List Job) → ((j : Job) → has_job j xs ≡ true → p j ≡ q j) → filter p xs ≡ filter q xs
filter_on p q [] same = refl
filter_on p q (x ∷ xs) same =
    ap (λ (b : Bool). if b then x ∷ filter p xs else filter p xs) (same x (or_left (same_job x x) (has_job x xs) (grind arith)))
    ∙ ap (λ (ys : List Job). if q x then x ∷ ys else ys) (filter_on p q xs (λ j there. same j (or_right (same_job j x) (has_job j xs) there)))

-- one test behind the other
pub filter_both : (p q : Job → Bool) (xs : List Job) → filter p (filter q xs) ≡ filter (λ j. p j && q j) xs
filter_both p q [] = refl
filter_both p q (x ∷ xs) = by (q x) refl (p x) (filter_both p q xs)
  where
    by : (b : Bool) → q x ≡ b → (a : Bool) → filter p (filter q xs) ≡ filter (λ j. p j && q j) xs → filter p (if b then x ∷ filter q xs else filter q xs) ≡ (if p x && b then x ∷ filter (λ j. p j && q j) xs else filter (λ j. p j && q j) xs)
    by true e a rest = ap (λ (ys : List Job). if p x then x ∷ ys else ys) rest ∙ one (p x)
      where
        one : (c : Bool) → (if c then x ∷ filter (λ j. p j && q j) xs else filter (λ j. p j && q j) xs) ≡ (if c && true then x ∷ filter (λ j. p j && q j) xs else filter (λ j. p j && q j) xs)
        one true = refl
        one false = refl
    by false e a rest = rest ∙ none (p x)
      where
        none : (c : Bool) → filter (λ j. p j && q j) xs ≡ (if c && false then x ∷ filter (λ j. p j && q j) xs else filter (λ j. p j && q j) xs)
        none true = refl
        none false = refl

-- what passes a test passes it
pub filter_has : (p : Job → Bool) (j : Job) (xs : List Job) → has_job j (filter p xs) ≡ true → (has_job j xs ≡ true) × (p j ≡ true)
filter_has p j [] e = absurd (cc)
filter_has p j (x ∷ xs) e = by (p x) refl e (λ more. filter_has p j xs more)
  where
    here : (b : Bool) → same_job j x ≡ b → p x ≡ true → (b || has_job j (filter p xs)) ≡ true → (has_job j (filter p xs) ≡ true → (has_job j xs ≡ true) × (p j ≡ true)) → ((same_job j x || has_job j xs) ≡ true) × (p j ≡ true)
    here true is on e rest = (or_left (same_job j x) (has_job j xs) is, (let same : j ≡ x = same_job_eq j x is in ap p same ∙ on))
    here false is on e rest = (let r = rest e in (or_right (same_job j x) (has_job j xs) r.0, r.1))

    by : (b : Bool) → p x ≡ b → has_job j (if b then x ∷ filter p xs else filter p xs) ≡ true → (has_job j (filter p xs) ≡ true → (has_job j xs ≡ true) × (p j ≡ true)) → ((same_job j x || has_job j xs) ≡ true) × (p j ≡ true)
    by true on e rest = here (same_job j x) refl on e rest
    by false off e rest = (let r = rest e in (or_right (same_job j x) (has_job j xs) r.0, r.1))

-- the files of jobs
pub files_are : (f : ℕ) (js : List Job) → has_number f (job_files js) ≡ is_file_of f js
files_are f [] = refl
files_are f (j ∷ js) = rw (eq_flip f j.file) (ap (λ (b : Bool). (j.file == f) || b) (files_are f js))

-- ---- the jobs that end

module _ (site : Site) (h : History) (t m : ℕ) (fault : Fault) (charged returned : List Job) (b : JobRows) (f : IsFailure site h t m fault charged returned) (is : IsBook site h (book_in b)) where
  last_is : (j : Job) → has_job j charged ≡ true → is_last_in site.limits.tries (book_in b) j ≡ (is_live_job site h j && is_last_charge site h (failed m fault charged returned) j)
  last_is j there =
      ap (λ (x : Bool). x && nat_le site.limits.tries (length ((book_in b).charges j) + 1)) (lives_is site h b j is)
      ∙ ap (λ (cs : List Charge). is_live_job site h j && nat_le site.limits.tries (length cs + 1)) (is.charges j)
      ∙ ap (λ (x : Bool). is_live_job site h j && (x && nat_le site.limits.tries (length (charges_of h j) + 1))) (sym there)

  -- they are those whose last charge it is
  pub ended_are : jobs_ended site.limits.tries (book_in b) charged ≡ jobs_failed site h (failed m fault charged returned)
  ended_are = filter_on (is_last_in site.limits.tries (book_in b)) (λ j. is_live_job site h j && is_last_charge site h (failed m fault charged returned) j) charged last_is

  pub out_are : charged_out site h (failed m fault charged returned) charged ≡ jobs_ended site.limits.tries (book_in b) charged
  out_are = filter_both (is_live_job site h) (is_last_charge site h (failed m fault charged returned)) charged ∙ sym ended_are

  -- what is known of one
  pub ended_has : (j : Job) → has_job j (jobs_ended site.limits.tries (book_in b) charged) ≡ true → (has_job j charged ≡ true) × (is_live_job site h j ≡ true)
  ended_has j there =
      let both = filter_has (is_last_in site.limits.tries (book_in b)) j charged there in
      (both.0, (and_parts (is_live_job site h j) _ (sym (last_is j both.0) ∙ both.1)).0)

-- ---- the book

-- the charge of a Failed
abbrev pub charge_by : History → ℕ → Fault → Charge
charge_by h m fault = record { drive = drive_of_mount h m; tape = tape_of_mount h m; fault = fault }

module _ (site : Site) (h : History) (t m : ℕ) (fault : Fault) (charged returned ended : List Job) (p : JobParts) (b b' : JobRows) (f : IsFailure site h t m fault charged returned) (stands : JobPartsStand site h (record p { book = book_in b }))
    (is : ended ≡ jobs_ended site.limits.tries (book_in b) charged) (resolved : TellSame (book_in b') (end_jobs ended (charge_jobs charged (charge_by h m fault) (give_back_jobs (charged ++ returned) (book_in b))))) where
  pub book_called : TellSame (book_in b') (end_jobs (charged_out site h (failed m fault charged returned) charged) (charge_jobs charged (charge_by h m fault) (give_back_jobs (charged ++ returned) (book_in b))))
  book_called =
      subst (λ (js : List Job). TellSame (book_in b') (end_jobs js (charge_jobs charged (charge_by h m fault) (give_back_jobs (charged ++ returned) (book_in b))))) (is ∙ sym (out_are site h t m fault charged returned b f stands.book)) resolved

  pub book_behind : IsBook site (failed_entry h t m fault charged returned ∷ h) (book_in b')
  book_behind =
      tell_chain (book_in b') _ (book_of site (failed_entry h t m fault charged returned ∷ h)) book_called
      (parts_failed site h (failed_entry h t m fault charged returned) m fault (rows charged) (rows returned) (record p { book = book_in b }) (longer site h t m fault charged returned f) refl stands).book
