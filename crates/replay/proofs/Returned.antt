-- Jobs that a Failed names stand in their queues again.
use Rattle.std.proofs.Common.{◌≡◌, ℕ, inl, inr, Bool, true, false, ◌==◌, List, [], ◌∷◌, ◌++◌, refl, sym, ap, ◌∙◌, subst}
use Rattle.std.specs.Prelude.{Option, Some, None, find}
use Rattle.std.proofs.lemmas.Bool.{cases_Bool, eqb-true}
use Rattle.std.proofs.lemmas.Option.{none-some}
use Rattle.cta_site.specs.declared.site.Site.{Site}
use Rattle.cta_site.specs.Listed.{Listed}
use Rattle.cta_model.specs.declared.answers.Answer.{Answer}
use Rattle.cta_model.specs.declared.asks.Ask.{Ask}
use Rattle.cta_model.specs.declared.asks.Ask.TheVariants as ask
use Rattle.cta_model.specs.declared.asks.Fault.{Fault}
use Rattle.cta_model.specs.declared.asks.Job.{Job}
use Rattle.cta_model.specs.declared.entries.Entry.{Entry}
use Rattle.cta_model.specs.History.{History, has_number}
use Rattle.cta_model.specs.Legal.{IsLegal}
use Rattle.cta_model.specs.Mounts.{claimer_of, claims, has_job, is_open, open_mounts}
use Rattle.cta_laws.specs.Claims.{claimer_after}
use Rattle.cta_laws.specs.Jobs.{ClaimerMoves, IsQueuedOrClaimed}
use Rattle.cta_laws.specs.Mounts.{ClaimsNothingAfterEnd}
use Rattle.cta_laws.proofs.Held.{legal_histories_hold}
use Rattle.replay.specs.Outcome.{AreMade}
use Rattle.replay.specs.Promises.{KeepsPromises, LeavesNoJob, ReturnsJobs}
use Rattle.replay.specs.Steps.{Made}
use Rattle.replay.proofs.TrueMedia.{first_have_media}

legal_behind : (site : Site) (newer h : History) → IsLegal site (newer ++ h) → IsLegal site h
legal_behind site [] h legal = legal
legal_behind site (e ∷ newer) h legal = legal_behind site newer h legal.0

-- what is found nowhere isn't there
found_none : (test : ℕ → Bool) (m : ℕ) (ms : List ℕ) → find test ms ≡ None → has_number m ms ≡ true → test m ≡ true → ⊥
found_none test m [] none here is = let no : false ≡ true = here in cc
found_none test m (k ∷ ms) none here is =
    elim (cases_Bool (test k)) [
      | inl hit ↦ (let no : None ≡ Some k = sym (rw hit at none) in none-some k no)
      | inr miss ↦
          elim (cases_Bool (m == k)) [
            | inl same ↦ (let no : true ≡ false = sym is ∙ ap test (eqb-true m k same) ∙ miss in cc)
            | inr other ↦ found_none test m ms (rw miss at none) (rw other at here) is
          ]
    ]

named_free : (k : Ask) (a : Answer) (j : Job) (o : Option ℕ) (m : ℕ) (fault : Fault) (charged returned : Listed Job) → k ≡ ask.Failed m fault charged returned → has_job j (charged.items ++ returned.items) ≡ true → claimer_after k a j o ≡ None
named_free k a j o m fault charged returned is named = rw is (rw named refl)

module _ (queued : IsQueuedOrClaimed) (moves : ClaimerMoves) where
  pub returns_jobs : (site : Site) (h : History) → IsLegal site h → ReturnsJobs site h
  returns_jobs site h legal newer older e m fault charged returned j cut asked named live =
      let here : IsLegal site (e ∷ older) = legal_behind site newer (e ∷ older) (subst (IsLegal site) cut legal) in
      elim (queued site (e ∷ older) here j live) [
        | inl is ↦ is
        | inr claimed ↦ absurd (found_none (λ n. claims (e ∷ older) n j) claimed.mount (open_mounts (e ∷ older))
            (moves site older e here j ∙ named_free e.ask e.answer j (claimer_of older j) m fault charged returned asked named) claimed.is_open_mount claimed.claimed)
      ]

-- ---- mounts that have ended

pub leaves_none : ClaimsNothingAfterEnd → IsQueuedOrClaimed → (site : Site) (h : History) → IsLegal site h → LeavesNoJob site h
leaves_none closed queued site h legal newer older e m fault j cut asked live =
    let here : IsLegal site (e ∷ older) = legal_behind site newer (e ∷ older) (subst (IsLegal site) cut legal) in
    elim (queued site (e ∷ older) here j live) [
      | inl is ↦ inl is
      | inr claimed ↦
          inr (
            claimed,
            λ same. let still : is_open (e ∷ older) m ≡ true = subst (λ n. is_open (e ∷ older) n ≡ true) same claimed.is_open_mount in
                let no : true ≡ false = sym still ∙ (closed site [] older e m fault here asked).0 in
                cc,
          )
    ]

-- ---- nothing has happened

no_cut : (newer older : History) (e : Entry) → [] ≡ newer ++ e ∷ older → ⊥
no_cut [] older e cut = let no : [] ≡ e ∷ older = cut in cc
no_cut (x ∷ newer) older e cut = let no : [] ≡ x ∷ (newer ++ e ∷ older) = cut in cc

pub none_kept : (tells : Bool) (site : Site) (made : Made) → AreMade tells site made → KeepsPromises tells site made []
none_kept tells site made new = record {
  legal = tt;
  laws = legal_histories_hold site [] tt;
  media = first_have_media tells site made new.media;
  returned = λ newer older e m fault charged returned j cut asked named live. absurd (no_cut newer older e cut);
  left = λ newer older e m fault j cut asked live. absurd (no_cut newer older e cut);
  honest = λ tells d v is honest. tt;
}
