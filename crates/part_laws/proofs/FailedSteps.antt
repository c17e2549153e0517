-- How an entry moves the list of failed copies.
use Rattle.std.proofs.Common.{◌≡◌, ◌∙◌, ℕ, zero, suc, ◌+◌, inl, inr, List, [], ◌∷◌, Bool, true, false, ◌&&◌, not, refl, sym, ap, length}
use Rattle.std.specs.Prelude.{Option, Some, None, is_none, is_some, if◌then◌else◌, ◌==◌, nat_le, nat_lt, bytes_eq}
use Rattle.std.proofs.lemmas.Bool.{eqb-true, cases_lt}
use Rattle.std.proofs.lemmas.Slice.Eq.{bytes_eq-Decides}
use Rattle.cta_site.specs.declared.site.Site.{Site}
use Rattle.cta_site.specs.Listed.{Listed, rows}
use Rattle.cta_model.specs.declared.entries.Entry.{Entry}
use Rattle.cta_model.specs.declared.asks.Ask.{Ask}
use Rattle.cta_model.specs.declared.asks.Ask.TheVariants as ask
use Rattle.cta_model.specs.declared.asks.Job.{Job}
use Rattle.cta_model.specs.declared.asks.Who.{Who}
use Rattle.cta_model.specs.declared.answers.Answer.{Answer}
use Rattle.cta_model.specs.declared.answers.Answer.TheVariants as answer
use Rattle.cta_model.specs.declared.states.Place.{Place}
use Rattle.cta_model.specs.History.{History, is_number, moment_of}
use Rattle.cta_model.specs.Files.{copies_of_file, is_live, live_after, live_file, path_of}
use Rattle.cta_model.specs.Mounts.{has_copy}
use Rattle.cta_model.specs.Places.{was_flushed}
use Rattle.cta_model.specs.Jobs.{archive_after, archive_birth}
use Rattle.cta_model.specs.Answers.{retried_jobs, is_failed}
use Rattle.cta_model.specs.Legal.{IsLegal}
use Rattle.cta_laws.specs.Changes.{may_change_files, may_flush}
use Rattle.cta_laws.proofs.Accepted.{answer_is, some_file}
use Rattle.cta_laws.specs.Asks.{AnswerIs}
use Rattle.cta_laws.proofs.Frames.{flushed_same, is_live_same}
use Rattle.cta_laws.proofs.JobFiles.{live_kept, live_path}
use Rattle.cta_laws.proofs.PlaceLaw.{path_older}
use Rattle.cta_laws.proofs.Tests.{bool_cases}
use Rattle.part_model.specs.Failed.{removed_file}
use Rattle.part_laws.specs.Failed.{failed_after, failed_jobs}
use Rattle.part_laws.specs.FailedLaws.{FailedMove, FailedStartEmpty}
use Rattle.part_laws.proofs.FailedMembers.{has_failed}
use Rattle.part_laws.proofs.Charged.{failed_list}
use Rattle.part_laws.proofs.FailedLists.{list_keeps, list_stays, zero_no}
use Rattle.part_laws.proofs.Failures.{has_failed_same, high_failed, low_failed, may_change_failed}

pub failed_start_empty : FailedStartEmpty
failed_start_empty site = refl

-- ---- Delete

delete_point : (site : Site) (h : History) (e : Entry) (who : Who) (path : List ℕ) (g f c : ℕ) → IsLegal site (e ∷ h) → e.ask ≡ ask.Delete who path → live_file h path ≡ Some g → has_failed site (e ∷ h) f c ≡ (has_failed site h f c && not (f == g))
delete_point site h e who path g f zero legal ek is = zero_no site (e ∷ h) f ∙ sym (ap (λ (b : Bool). b && not (f == g)) (zero_no site h f))
delete_point site h e who path g f (suc c) legal ek is =
    elim (cases_lt (length h) f) [
      | inl high ↦ (let both = high_failed site h e f (suc c) legal.0 high in both.0 ∙ sym (ap (λ (b : Bool). b && not (f == g)) both.1))
      | inr low ↦ elim (bool_cases (bytes_eq path (path_of h f))) [
        | inl same ↦
            (let names : path ≡ path_of h f = (bytes_eq-Decides path (path_of h f)).0 same in
            let gone : is_live (e ∷ h) f ≡ false = ap (λ (p : List ℕ). is_number f (live_file (e ∷ h) p)) (path_older e h f low) ∙ ap (λ (k : Ask). is_number f (live_after k (length h + 1) (path_of h f) (live_file h (path_of h f)))) ek ∙ rw same refl in
            let was : is_live h f ≡ (f == g) = ap (λ (p : List ℕ). is_number f (live_file h p)) (sym names) ∙ ap (is_number f) is in
            dead (is_live (e ∷ h) f) _ gone ∙ sym (out (f == g) (is_failed site h f (suc c) && (nat_le 1 (suc c) && nat_lt (suc c) (1 + copies_of_file site h f))) (is_live h f) was))
        | inr other ↦
            (let live : is_live (e ∷ h) f ≡ is_live h f = live_kept site h e f legal.1 low (λ w p x. ap (λ (q : List ℕ). bytes_eq q (path_of h f)) (path_is p (sym x ∙ ek)) ∙ other) in
            let failed : is_failed site (e ∷ h) f (suc c) ≡ is_failed site h f (suc c) = by (archive_birth site h f (suc c)) other in
            low_failed site h e f (suc c) (is_live h f) (is_failed site h f (suc c)) low live failed ∙ keeps (is_live h f) _ (f == g) (λ on. not_this on other))
      ]
    ]
  where
    dead : (a b : Bool) → a ≡ false → (a && b) ≡ false
    dead true b x = absurd (cc)
    dead false b x = refl

    out : (t r a : Bool) → a ≡ t → ((a && r) && not t) ≡ false
    out true true true x = refl
    out true false true x = refl
    out true r false x = absurd (cc)
    out false r true x = absurd (cc)
    out false r false x = refl

    keeps : (a r t : Bool) → (a ≡ true → t ≡ false) → (a && r) ≡ ((a && r) && not t)
    keeps true true t x = sym (ap not (x refl))
    keeps true false t x = refl
    keeps false r t x = refl

    path_in_ask : Ask → List ℕ
    path_in_ask (ask.Delete w p) = p
    path_in_ask _ = path

    path_is : {w : Who} (p : List ℕ) → ask.Delete w p ≡ ask.Delete who path → p ≡ path
    path_is p x = ap path_in_ask x

    not_this : is_live h f ≡ true → bytes_eq path (path_of h f) ≡ false → (f == g) ≡ false
    not_this on other =
        elim (bool_cases (f == g)) [
          | inr miss ↦ miss
          | inl hit ↦
              (let same : path ≡ path_of h f = sym (live_path h path g is) ∙ ap (path_of h) (sym (eqb-true f g hit)) in
              let bad : bytes_eq path (path_of h f) ≡ true = (bytes_eq-Decides path (path_of h f)).1 same in
              absurd (cc))
        ]

    archive : (o : Option ℕ) → bytes_eq path (path_of h f) ≡ false → archive_after site h e f (suc c) o ≡ o
    archive None other = rw ek refl
    archive (Some b) other = rw ek (rw other refl)

    by : (o : Option ℕ) → bytes_eq path (path_of h f) ≡ false → is_failed site (e ∷ h) f (suc c) ≡ is_failed site h f (suc c)
    by o other = ap (λ (x : Option Place). not (is_some x) && is_none (archive_birth site (e ∷ h) f (suc c))) (flushed_same e h f (suc c) (ap may_flush ek)) ∙ ap (λ (x : Option ℕ). not (was_flushed h f (suc c)) && is_none x) (archive (archive_birth site h f (suc c)) other)

-- ---- Retry

retry_point : (site : Site) (h : History) (e : Entry) (who : Who) (paths : Listed (List ℕ)) (jobs : Listed Job) (f c : ℕ) → IsLegal site (e ∷ h) → e.ask ≡ ask.Retry who paths → e.answer ≡ answer.Retried jobs → has_failed site (e ∷ h) f c ≡ (has_failed site h f c && not (has_copy f c jobs.items))
retry_point site h e who paths jobs f zero legal ek ea = zero_no site (e ∷ h) f ∙ sym (ap (λ (b : Bool). b && not (has_copy f 0 jobs.items)) (zero_no site h f))
retry_point site h e who paths jobs f (suc c) legal ek ea =
    elim (cases_lt (length h) f) [
      | inl high ↦ (let both = high_failed site h e f (suc c) legal.0 high in both.0 ∙ sym (ap (λ (b : Bool). b && not (has_copy f (suc c) jobs.items)) both.1))
      | inr low ↦
          low_failed site h e f (suc c) (is_live h f) (is_failed site h f (suc c) && not (has_copy f (suc c) jobs.items)) low (is_live_same e h f low (ap may_change_files ek)) failed
          ∙ regroup (is_live h f) (is_failed site h f (suc c)) (not (has_copy f (suc c) jobs.items)) (nat_le 1 (suc c) && nat_lt (suc c) (1 + copies_of_file site h f))
    ]
  where
    regroup : (a b t r : Bool) → (a && ((b && t) && r)) ≡ ((a && (b && r)) && t)
    regroup true true true true = refl
    regroup true true true false = refl
    regroup true true false true = refl
    regroup true true false false = refl
    regroup true false t r = refl
    regroup false b t r = refl

    archive : (o : Option ℕ) → is_none (archive_after site h e f (suc c) o) ≡ (is_none o && not (has_copy f (suc c) jobs.items))
    archive None = rw (ek, ea) (by (has_copy f (suc c) jobs.items))
      where
        by : (t : Bool) → is_none (if t then Some (length h + 1) else None) ≡ not t
        by true = refl
        by false = refl
    archive (Some b) = rw ek refl

    and_more : (x y t : Bool) → (x && (y && t)) ≡ ((x && y) && t)
    and_more true y t = refl
    and_more false y t = refl

    failed : is_failed site (e ∷ h) f (suc c) ≡ (is_failed site h f (suc c) && not (has_copy f (suc c) jobs.items))
    failed =
        ap (λ (x : Option Place). not (is_some x) && is_none (archive_birth site (e ∷ h) f (suc c))) (flushed_same e h f (suc c) (ap may_flush ek)) ∙ ap (λ (b : Bool). not (was_flushed h f (suc c)) && b) (archive (archive_birth site h f (suc c)))
        ∙ and_more (not (was_flushed h f (suc c))) (is_none (archive_birth site h f (suc c))) (not (has_copy f (suc c) jobs.items))

-- ---- all asks

failed_by : (site : Site) (h : History) (e : Entry) (k : Ask) (a : Answer) → IsLegal site (e ∷ h) → e.ask ≡ k → e.answer ≡ a → AnswerIs site h (moment_of h e.at) k a → failed_jobs site (e ∷ h) ≡ failed_after site h k a (failed_jobs site h)
failed_by site h e (ask.Delete who path) a legal ek ea is =
    (let g = some_file (live_file h path) is.1 in
    list_keeps site h e (λ f c. not (f == g.0)) (λ f c. delete_point site h e who path g.0 f c legal ek g.1) ∙ sym (ap (λ (o : Option ℕ). removed_file o (failed_jobs site h)) g.1))
failed_by site h e (ask.Failed m fault charged returned) a legal ek ea is = failed_list site h e m fault charged returned legal ek
failed_by site h e (ask.Retry who paths) a legal ek ea is =
    list_keeps site h e (λ f c. not (has_copy f c (retried_jobs site h [] paths.items))) (λ f c. retry_point site h e who paths (rows (retried_jobs site h [] paths.items)) f c legal ek (ea ∙ is))
    ∙ ap (λ (x : Answer). failed_after site h (ask.Retry who paths) x (failed_jobs site h)) (sym is)
failed_by site h e k a legal ek ea is = list_stays site h e (λ f c. has_failed_same site h e f c legal (ap may_change_failed ek))

pub failed_move : FailedMove
failed_move site h e legal = failed_by site h e e.ask e.answer legal refl refl (answer_is site h e.at e.ask e.answer legal.1.answered legal.1.accepted)
