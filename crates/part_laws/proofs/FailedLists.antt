-- How the list of failed copies moves where they do.
use Rattle.std.proofs.Common.{◌≡◌, ◌∙◌, ℕ, ◌+◌, List, [], ◌∷◌, Bool, true, false, ◌&&◌, ◌||◌, refl, sym, ap}
use Rattle.std.specs.Prelude.{◌==◌, nat_le, nat_lt, filter}
use Rattle.std.proofs.lemmas.Bool.{and_parts}
use Rattle.cta_site.specs.declared.site.Site.{Site}
use Rattle.cta_model.specs.declared.entries.Entry.{Entry}
use Rattle.cta_model.specs.declared.asks.Job.{Job}
use Rattle.cta_model.specs.History.{History}
use Rattle.cta_model.specs.Files.{copies_of_file, is_live}
use Rattle.cta_model.specs.Mounts.{has_copy, has_job}
use Rattle.cta_model.specs.Answers.{is_failed, names_twice}
use Rattle.cta_laws.proofs.Claims.{AllOf}
use Rattle.part_model.specs.Failed.{added_copies, copies_of_jobs}
use Rattle.part_model.specs.Order.{insert_jobs}
use Rattle.part_laws.proofs.QueueMoves.{has_inserted, order_inserted}
use Rattle.part_laws.proofs.Orders.{has_filter, one_order, order_filter}
use Rattle.part_laws.specs.Failed.{failed_jobs}
use Rattle.part_laws.proofs.FailedMembers.{born_has, failed_members, failed_order, has_failed}

-- the list behind an entry is that of before, less what a test takes out
pub list_keeps : (site : Site) (h : History) (e : Entry) (keep : ℕ → ℕ → Bool) → ((f c : ℕ) → has_failed site (e ∷ h) f c ≡ (has_failed site h f c && keep f c)) → failed_jobs site (e ∷ h) ≡ filter (λ (j : Job). keep j.file j.copy) (failed_jobs site h)
list_keeps site h e keep point =
    one_order (failed_jobs site (e ∷ h)) (filter (λ (j : Job). keep j.file j.copy) (failed_jobs site h)) (failed_order site (e ∷ h)) (order_filter (λ (j : Job). keep j.file j.copy) (failed_jobs site h) (failed_order site h))
    (λ j. failed_members site (e ∷ h) j ∙ ap (λ (b : Bool). (j.birth == 0) && b) (point j.file j.copy) ∙ regroup (j.birth == 0) (has_failed site h j.file j.copy) (keep j.file j.copy)
    ∙ sym (has_filter (λ (j : Job). keep j.file j.copy) j (failed_jobs site h) ∙ ap (λ (b : Bool). b && keep j.file j.copy) (failed_members site h j)))
  where
    regroup : (a b c : Bool) → (a && (b && c)) ≡ ((a && b) && c)
    regroup true b c = refl
    regroup false b c = refl

pub list_stays : (site : Site) (h : History) (e : Entry) → ((f c : ℕ) → has_failed site (e ∷ h) f c ≡ has_failed site h f c) → failed_jobs site (e ∷ h) ≡ failed_jobs site h
list_stays site h e point =
    one_order (failed_jobs site (e ∷ h)) (failed_jobs site h) (failed_order site (e ∷ h)) (failed_order site h)
    (λ j. failed_members site (e ∷ h) j ∙ ap (λ (b : Bool). (j.birth == 0) && b) (point j.file j.copy) ∙ sym (failed_members site h j))

copies_has : (f c : ℕ) (js : List Job) → has_copy f c (copies_of_jobs js) ≡ has_copy f c js
copies_has f c [] = refl
copies_has f c (j ∷ js) = ap (λ (b : Bool). (j.file == f && j.copy == c) || b) (copies_has f c js)

copies_births : (js : List Job) → AllOf (λ (j : Job). j.birth ≡ 0) (copies_of_jobs js)
copies_births [] = tt
copies_births (j ∷ js) = (refl, copies_births js)

pub copies_members : (j : Job) (js : List Job) → has_job j (copies_of_jobs js) ≡ ((j.birth == 0) && has_copy j.file j.copy js)
copies_members j js = born_has 0 j (copies_of_jobs js) (copies_births js) ∙ ap (λ (b : Bool). (j.birth == 0) && b) (copies_has j.file j.copy js)

-- the list behind an entry is that of before, with these copies more
pub list_grows : (site : Site) (h : History) (e : Entry) (new : List Job) → names_twice (copies_of_jobs new) ≡ false → ((f c : ℕ) → has_copy f c new ≡ true → has_failed site h f c ≡ false) → ((f c : ℕ) → has_failed site (e ∷ h) f c ≡ (has_copy f c new || has_failed site h f c))
    → failed_jobs site (e ∷ h) ≡ added_copies new (failed_jobs site h)
list_grows site h e new once apart point =
    one_order (failed_jobs site (e ∷ h)) (insert_jobs (copies_of_jobs new) (failed_jobs site h)) (failed_order site (e ∷ h)) (order_inserted (copies_of_jobs new) (failed_jobs site h) (failed_order site h) once (λ j there. not_before j there))
    (λ j. failed_members site (e ∷ h) j ∙ ap (λ (b : Bool). (j.birth == 0) && b) (point j.file j.copy) ∙ spread (j.birth == 0) (has_copy j.file j.copy new) (has_failed site h j.file j.copy)
    ∙ sym (has_inserted j (copies_of_jobs new) (failed_jobs site h) ∙ ap (λ (b : Bool). b || has_job j (failed_jobs site h)) (copies_members j new) ∙ ap (λ (b : Bool). ((j.birth == 0) && has_copy j.file j.copy new) || b) (failed_members site h j)))
  where
    spread : (a b c : Bool) → (a && (b || c)) ≡ ((a && b) || (a && c))
    spread true b c = refl
    spread false b c = refl

    none : (a b : Bool) → b ≡ false → (a && b) ≡ false
    none true b x = x
    none false b x = refl

    not_before : (j : Job) → has_job j (copies_of_jobs new) ≡ true → has_job j (failed_jobs site h) ≡ false
    not_before j there = failed_members site h j ∙ none (j.birth == 0) (has_failed site h j.file j.copy) (apart j.file j.copy (and_parts (j.birth == 0) (has_copy j.file j.copy new) (sym (copies_members j new) ∙ there)).1)

-- no recall is a failed copy
pub zero_no : (site : Site) (g : History) (f : ℕ) → has_failed site g f 0 ≡ false
zero_no site g f = by (is_live g f) (is_failed site g f 0)
  where
    by : (a b : Bool) → (a && (b && (nat_le 1 0 && nat_lt 0 (1 + copies_of_file site g f)))) ≡ false
    by true true = refl
    by true false = refl
    by false b = refl
