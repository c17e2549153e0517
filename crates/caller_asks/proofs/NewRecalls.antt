-- Recalls that are born by the next entry.
use Rattle.std.proofs.Common.{◌≡◌, ◌∙◌, ℕ, ◌+◌, ◌%◌, ◌≤◌, ◌<◌, List, [], ◌∷◌, ◌++◌, Bool, true, false, ◌||◌, refl, sym, ap, arith, length}
use Rattle.std.specs.Prelude.{None, option_map, if◌then◌else◌, slice_get}
use Rattle.std.specs.List.{list_all}
use Rattle.std.proofs.Math.Nat.{zero-mod}
use Rattle.std.proofs.lemmas.Bool.{and_parts}
use Rattle.cta_site.specs.declared.site.Site.{Site}
use Rattle.cta_model.specs.declared.answers.Answer.TheVariants as answer
use Rattle.cta_model.specs.declared.asks.Ask.{Ask}
use Rattle.cta_model.specs.declared.asks.Ask.TheVariants as ask
use Rattle.cta_model.specs.declared.asks.Direction.TheVariants as direction
use Rattle.cta_model.specs.declared.asks.Job.{Job}
use Rattle.cta_model.specs.declared.entries.Entry.{Entry}
use Rattle.cta_model.specs.declared.states.Charge.{Charge}
use Rattle.cta_model.specs.declared.states.Place.{Place}
use Rattle.cta_model.specs.Answers.{answer_of, claims_all, is_known}
use Rattle.cta_model.specs.Charges.{charges_after, charges_of}
use Rattle.cta_model.specs.History.{History, is_number}
use Rattle.cta_model.specs.Jobs.{is_live_job}
use Rattle.cta_model.specs.Legal.{IsLegal}
use Rattle.cta_model.specs.Mounts.{asked_mount, claim_names, claimer_of, drive_of_mount, has_job, is_open, same_job, tape_of_mount, was_claimed}
use Rattle.cta_model.specs.Queues.{key_of, sources_of}
use Rattle.cta_model.specs.Recalls.{recall_job}
use Rattle.cta_laws.specs.Changes.{may_change_keys}
use Rattle.cta_laws.proofs.EndLaw.{claim_live, live_before}
use Rattle.cta_laws.proofs.Frames.{key_same}
use Rattle.cta_laws.proofs.JobLaw.{not_true}
use Rattle.cta_laws.proofs.Known.{claims_all_by}
use Rattle.cta_laws.proofs.LengthLaw.{not_unknown}
use Rattle.cta_laws.proofs.OnceLaw.{same_job_eq}
use Rattle.part_model.specs.Queues.{Lines}
use Rattle.part_laws.specs.Lines.{AreLines}
use Rattle.part_laws.proofs.Births.{has_both, new_unclaimed}
use Rattle.job_queues.specs.Waiting.{jobs_of}
use Rattle.part_moves.proofs.NewJobs.{lines_have, not_live}

-- ---- a job that is not born yet

-- no Claim has named it
pub not_named : (site : Site) (h : History) (j : Job) → IsLegal site h → length h < j.birth → was_claimed h j ≡ false
not_named site [] j legal high = refl
not_named site (e ∷ h) j legal high =
    let less : length h < j.birth = omega arith in
    let none : claim_names e.ask e.answer j ≡ false =
    not_true _ (λ named. (let live : is_live_job site h j ≡ true = claim_live site h e.at e.ask e.answer j legal.1.answered named in let dead : is_live_job site h j ≡ false = not_live site h j less in absurd (cc))) in
    rw none (not_named site h j legal.0 less)

-- nobody claims it, so that no Failed charges it
some_claims : (site : Site) (h : History) (m : ℕ) (j : Job) (js : List Job) → list_all (λ i. is_number m (claimer_of h i)) js ≡ true → has_job j js ≡ true → is_number m (claimer_of h j) ≡ true
some_claims site h m j [] all there = absurd (cc)
some_claims site h m j (i ∷ js) all there =
    let parts = and_parts (is_number m (claimer_of h i)) _ all in
    by (same_job j i) refl there parts.0 (λ x. some_claims site h m j js parts.1 x)
  where
    by : (b : Bool) → same_job j i ≡ b → (b || has_job j js) ≡ true → is_number m (claimer_of h i) ≡ true → (has_job j js ≡ true → is_number m (claimer_of h j) ≡ true) → is_number m (claimer_of h j) ≡ true
    by true e x here rest = ap (λ (k : Job). is_number m (claimer_of h k)) (same_job_eq j i e) ∙ here
    by false e x here rest = rest x

not_charged_by : (site : Site) (h : History) (m : ℕ) (charged returned : List Job) (j : Job) → IsLegal site h → length h < j.birth → is_known h m (charged ++ returned) ≡ true → has_job j charged ≡ false
not_charged_by site h m charged returned j legal high known =
    let open_parts = and_parts (is_open h m) _ known in
    let claim_parts = and_parts (claims_all h m (charged ++ returned)) _ open_parts.1 in
    let all : list_all (λ i. is_number m (claimer_of h i)) (charged ++ returned) ≡ true = sym (claims_all_by site h legal m (charged ++ returned) open_parts.0) ∙ claim_parts.0 in
    let none : claimer_of h j ≡ None = new_unclaimed site h legal j high in
    not_true _ (λ there. (
    let among : has_job j (charged ++ returned) ≡ true = has_both j charged returned ∙ ap (λ (b : Bool). b || has_job j returned) there in
    let claims : is_number m (claimer_of h j) ≡ true = some_claims site h m j (charged ++ returned) all among in
    let bad : false ≡ true = sym (ap (is_number m) none) ∙ claims in
    absurd (cc)))

pub not_charged : (site : Site) (h : History) (j : Job) → IsLegal site h → length h < j.birth → charges_of h j ≡ []
not_charged site [] j legal high = refl
not_charged site (e ∷ h) j legal high =
    let less : length h < j.birth = omega arith in
    by e.ask refl (not_charged site h j legal.0 less) less (drive_of_mount h (asked_mount e.ask)) (tape_of_mount h (asked_mount e.ask))
  where
    by : (k : Ask) → e.ask ≡ k → charges_of h j ≡ [] → length h < j.birth → (d v : ℕ) → charges_after k j d v (charges_of h j) ≡ []
    by (ask.Failed m fault charged returned) ek before less d v =
        (let known : is_known h m (charged.items ++ returned.items) ≡ true = not_unknown _ answer.Done e.answer (legal.1.answered ∙ ap (answer_of site h e.at) ek) legal.1.accepted in
        let none : has_job j charged.items ≡ false = not_charged_by site h m charged.items returned.items j legal.0 less known in
        ap (λ (b : Bool). if b then charges_of h j ++ record { drive = d; tape = v; fault = fault } ∷ [] else charges_of h j) none ∙ before)
    by _ ek before less d v = before

-- ---- a recall that the next entry bears

above : (n m : ℕ) → m ≡ n + 1 → n < m
above n m is = omega arith

-- it is in no queue yet
pub not_queued : (site : Site) (h : History) (lines : Lines) (n f k : ℕ) → IsLegal site h → AreLines site h direction.Retrieve lines → n ≡ length h + 1 → has_job (recall_job n f) (jobs_of (lines k)) ≡ false
not_queued site h lines n f k legal are is =
    let dead : is_live_job site h (recall_job n f) ≡ false = not_live site h (recall_job n f) (above (length h) n is) in
    lines_have site h direction.Retrieve lines k (recall_job n f) legal are ∙ rw dead refl

-- its tape is the first source of its file
pub first_source : (site : Site) (e : Entry) (h : History) (n f : ℕ) → IsLegal site h → n ≡ length h + 1 → f ≤ length h → may_change_keys e.ask ≡ false
    → key_of site (e ∷ h) (recall_job n f) ≡ option_map (λ (p : Place). p.tape) (slice_get (sources_of site h f) 0)
first_source site e h n f legal is low keys =
    key_same site e h (recall_job n f) low keys
    ∙ ap (λ (cs : List Charge). option_map (λ (p : Place). p.tape) (slice_get (sources_of site h f) (length cs % length (sources_of site h f)))) (not_charged site h (recall_job n f) legal (above (length h) n is))
    ∙ ap (λ (i : ℕ). option_map (λ (p : Place). p.tape) (slice_get (sources_of site h f) i)) (zero-mod (length (sources_of site h f)))
