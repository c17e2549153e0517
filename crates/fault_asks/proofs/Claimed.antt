-- What is known of jobs that a mount claims: their files have their Puts, and one charge more does not pass the last.
use Rattle.std.proofs.Common.{◌≡◌, ◌∙◌, ◌+◌, ◌<◌, ◌≤◌, ℕ, inl, inr, List, [], ◌∷◌, ◌++◌, length, Bool, true, false, not, refl, sym, ap, arith}
use Rattle.std.specs.Prelude.{Some, None, is_none, if◌then◌else◌, ◌==◌, ◌&&◌, nat_le}
use Rattle.std.proofs.lemmas.List.{length-append}
use Rattle.cta_site.specs.declared.site.Site.{Site}
use Rattle.cta_site.specs.Listed.{Listed}
use Rattle.cta_model.specs.declared.asks.Ask.{Ask}
use Rattle.cta_model.specs.declared.asks.Ask.TheVariants as ask
use Rattle.cta_model.specs.declared.asks.Fault.{Fault}
use Rattle.cta_model.specs.declared.asks.Job.{Job}
use Rattle.cta_model.specs.declared.answers.Answer.{Answer}
use Rattle.cta_model.specs.declared.answers.Answer.TheVariants as answer
use Rattle.cta_model.specs.declared.entries.Entry.{Entry}
use Rattle.cta_model.specs.declared.states.Charge.{Charge}
use Rattle.cta_model.specs.Charges.{charges_after, charges_of, is_last_charge}
use Rattle.cta_model.specs.Files.{path_of}
use Rattle.cta_model.specs.History.{History, entry_of}
use Rattle.cta_model.specs.Jobs.{is_live_job}
use Rattle.cta_model.specs.Mounts.{asked_mount, claimer_of, drive_of_mount, has_job, item_jobs, tape_of_mount}
use Rattle.cta_model.specs.Answers.{answer_of, is_accepted, is_known}
use Rattle.cta_model.specs.Legal.{IsLegal}
use Rattle.cta_laws.specs.Claims.{claimer_after}
use Rattle.cta_laws.specs.Jobs.{HasPut, IsPutOf}
use Rattle.cta_laws.proofs.Claimers.{claimer_step, ends_known}
use Rattle.cta_laws.proofs.EndLaw.{claim_live, live_before}
use Rattle.cta_laws.proofs.JobFiles.{job_file_live, older_live}
use Rattle.cta_laws.proofs.LengthLaw.{not_unknown}
use Rattle.cta_laws.proofs.PutLaw.{job_file_has_put}
use Rattle.cta_laws.proofs.StandLaw.{born_by}
use Rattle.cta_laws.proofs.Tests.{bool_cases}
use Rattle.kept_history.specs.Puts.{is_put, puts_file}
use Rattle.part_laws.proofs.Births.{new_unclaimed}
use Rattle.part_laws.proofs.EndSteps.{named_claimed}
use Rattle.part_laws.proofs.FailSteps.{failed_live, has_pair}
use Rattle.part_moves.proofs.Charged.{asked_put}
use Rattle.part_moves.proofs.NewJobs.{not_newest}

-- ---- charges

-- whether an ask charges the job
abbrev pub charges_it : Ask → Job → Bool
charges_it (ask.Failed m fault charged returned) j = has_job j charged.items
charges_it _ j = false

charge_same : (k : Ask) (j : Job) (d v : ℕ) (xs : List Charge) → charges_it k j ≡ false → charges_after k j d v xs ≡ xs
charge_same (ask.Failed m fault charged returned) j d v xs none = rw none refl
charge_same _ j d v xs none = refl

-- an ask that charges the job is a Failed
record IsCharge (k : Ask) (j : Job) : Type 0 where
  mount : ℕ
  fault : Fault
  charged : Listed Job
  returned : Listed Job
  is : k ≡ ask.Failed mount fault charged returned
  there : has_job j charged.items ≡ true

a_charge : (k : Ask) (j : Job) → charges_it k j ≡ true → IsCharge k j
a_charge (ask.Failed m fault charged returned) j on = record { mount = m; fault = fault; charged = charged; returned = returned; is = refl; there = on }
a_charge _ j on = absurd (cc)

older_charges : (e : Entry) (h : History) (j : Job) → charges_it e.ask j ≡ false → charges_of (e ∷ h) j ≡ charges_of h j
older_charges e h j none = charge_same e.ask j (drive_of_mount h (asked_mount e.ask)) (tape_of_mount h (asked_mount e.ask)) (charges_of h j) none

-- a Failed is of an open mount that claims what it names
pub failed_known : (site : Site) (h : History) (t m : ℕ) (fault : Fault) (charged returned : Listed Job) (a : Answer) → a ≡ answer_of site h t (ask.Failed m fault charged returned) → is_accepted a ≡ true → is_known h m (charged.items ++ returned.items) ≡ true
failed_known site h t m fault charged returned a is accepted = not_unknown _ _ a is accepted

pub in_front : (j : Job) (xs ys : List Job) → has_job j xs ≡ true → has_job j (xs ++ ys) ≡ true
in_front j xs ys on =
    elim (bool_cases (has_job j (xs ++ ys))) [
      | inl there ↦ there
      | inr none ↦ (let bad : has_job j xs ≡ false = has_pair j xs ys none in absurd (cc))
    ]

-- a job that is not born yet has no charge
unborn : (site : Site) (h : History) → IsLegal site h → (j : Job) → length h < j.birth → charges_of h j ≡ []
unborn site [] legal j high = refl
unborn site (e ∷ h) legal j high =
    let later : length h < j.birth = omega (arith, high) in
    let rest : charges_of h j ≡ [] = unborn site h legal.0 j later in
    elim (bool_cases (charges_it e.ask j)) [
      | inr none ↦ older_charges e h j none ∙ rest
      | inl on ↦
          (let x : IsCharge e.ask j = a_charge e.ask j on in
          let known : is_known h x.mount (x.charged.items ++ x.returned.items) ≡ true = failed_known site h e.at x.mount x.fault x.charged x.returned e.answer (legal.1.answered ∙ ap (answer_of site h e.at) x.is) legal.1.accepted in
          let claimed : is_none (claimer_of h j) ≡ false = named_claimed site h x.mount (x.charged.items ++ x.returned.items) j legal.0 (ends_known site h x.mount (x.charged.items ++ x.returned.items) known) (in_front j x.charged.items x.returned.items x.there) in
          let none : is_none (claimer_of h j) ≡ true = ap is_none (new_unclaimed site h legal.0 j later) in
          absurd (cc))
    ]

not_yet : (last : Bool) (live : Bool) → true ≡ (live && not last) → last ≡ false
not_yet true true e = absurd (cc)
not_yet true false e = absurd (cc)
not_yet false live e = refl

more_than : (tries n : ℕ) → nat_le tries n ≡ false → n + 1 ≤ tries
more_than tries n less = grind (arith, less)

-- a job that is live has fewer charges than end a job
pub live_few : (site : Site) (h : History) → 1 ≤ site.limits.tries → IsLegal site h → (j : Job) → is_live_job site h j ≡ true → length (charges_of h j) + 1 ≤ site.limits.tries
live_few site [] some legal j live = omega (arith, some)
live_few site (e ∷ h) some legal j live =
    elim (bool_cases (charges_it e.ask j)) [
      | inl on ↦
          (let x : IsCharge e.ask j = a_charge e.ask j on in
          let after : true ≡ (is_live_job site h j && not (is_last_charge site h (ask.Failed x.mount x.fault x.charged x.returned) j)) = sym live ∙ failed_live site h e x.mount x.fault x.charged x.returned j x.is in
          let last : is_last_charge site h (ask.Failed x.mount x.fault x.charged x.returned) j ≡ false = not_yet _ _ after in
          let below : nat_le site.limits.tries (length (charges_of h j) + 1) ≡ false = sym (ap (λ (b : Bool). b && nat_le site.limits.tries (length (charges_of h j) + 1)) x.there) ∙ last in
          let less : length (charges_of h j) + 1 + 1 ≤ site.limits.tries = more_than site.limits.tries (length (charges_of h j) + 1) below in
          let charge : Charge = record { drive = drive_of_mount h x.mount; tape = tape_of_mount h x.mount; fault = x.fault } in
          let more : charges_of (e ∷ h) j ≡ charges_of h j ++ charge ∷ [] =
          ap (λ (k : Ask). charges_after k j (drive_of_mount h (asked_mount k)) (tape_of_mount h (asked_mount k)) (charges_of h j)) x.is
          ∙ ap (λ (b : Bool). if b then charges_of h j ++ charge ∷ [] else charges_of h j) x.there in
          let count : length (charges_of (e ∷ h) j) ≡ length (charges_of h j) + 1 = ap length more ∙ length-append (charges_of h j) (charge ∷ []) in
          omega (arith, count, less))
      | inr none ↦
          (let same : length (charges_of (e ∷ h) j) ≡ length (charges_of h j) = ap length (older_charges e h j none) in
          elim (bool_cases (is_live_job site h j)) [
            | inl was ↦ (let few : length (charges_of h j) + 1 ≤ site.limits.tries = live_few site h some legal.0 j was in omega (arith, same, few))
            | inr new ↦
                (let birth : j.birth ≡ length h + 1 = born_by site h e j legal new live in
                let nothing : length (charges_of h j) ≡ 0 = ap length (unborn site h legal.0 j (omega (arith, birth))) in
                omega (arith, same, nothing, some))
          ])
    ]

-- ---- claimed jobs

-- what is known of a job that is claimed
pub record IsClaimable (site : Site) (h : History) (j : Job) : Type 0 where
  pub low : j.file ≤ length h
  pub birth : j.birth ≤ length h
  pub put : is_put (entry_of h j.file) ≡ true
  pub few : length (charges_of h j) + 1 ≤ site.limits.tries

pub live_claimable : (site : Site) (h : History) → 1 ≤ site.limits.tries → IsLegal site h → (j : Job) → is_live_job site h j ≡ true → IsClaimable site h j
live_claimable site h some legal j live = (
    let put : HasPut h j.file (path_of h j.file) = job_file_has_put site h legal j live in
    record {
      low = older_live h j.file (job_file_live site h legal j live);
      birth = live_before site h j live;
      put = ap is_put put.1 ∙ asked_put put.0 put.0.ask (path_of h j.file) refl put.2;
      few = live_few site h some legal j live;
    })

older : (site : Site) (h : History) (e : Entry) (j : Job) → IsClaimable site h j → charges_it e.ask j ≡ false → IsClaimable site (e ∷ h) j
older site h e j x none = record {
  low = (let low = x.low in omega (arith, low));
  birth = (let low = x.birth in omega (arith, low));
  put = rw (not_newest j.file (length h) x.low) x.put;
  few = (let few = x.few in let same : length (charges_of (e ∷ h) j) ≡ length (charges_of h j) = ap length (older_charges e h j none) in omega (arith, few, same));
}

pub claimable : (site : Site) (h : History) → 1 ≤ site.limits.tries → IsLegal site h → (j : Job) (m : ℕ) → claimer_of h j ≡ Some m → IsClaimable site h j
claimable site [] some legal j m is = absurd (cc)
claimable site (e ∷ h) some legal j m is =
    by e.ask e.answer refl refl (sym (claimer_step site h e legal j) ∙ is) (λ was. claimable site h some legal.0 j m was)
  where
    by : (k : Ask) (a : Answer) → e.ask ≡ k → e.answer ≡ a → claimer_after k a j (claimer_of h j) ≡ Some m → (claimer_of h j ≡ Some m → IsClaimable site h j) → IsClaimable site (e ∷ h) j
    by (ask.Claim n) (answer.Batch items evicted) ek ea now before =
        elim (bool_cases (has_job j (item_jobs items.items))) [
          | inl there ↦
              older site h e j
              (live_claimable site h some legal.0 j (claim_live site h e.at (ask.Claim n) (answer.Batch items evicted) j (sym ea ∙ legal.1.answered ∙ ap (answer_of site h e.at) ek) there))
              (ap (λ (k : Ask). charges_it k j) ek)
          | inr none ↦ older site h e j (before (sym (ap (λ (b : Bool). if b then Some n else claimer_of h j) none) ∙ now)) (ap (λ (k : Ask). charges_it k j) ek)
        ]
    by (ask.Flushed n items) a ek ea now before =
        elim (bool_cases (has_job j (item_jobs items.items))) [
          | inl there ↦ (let bad : None ≡ Some m = sym (ap (λ (b : Bool). if b then None else claimer_of h j) there) ∙ now in absurd (cc))
          | inr none ↦ older site h e j (before (sym (ap (λ (b : Bool). if b then None else claimer_of h j) none) ∙ now)) (ap (λ (k : Ask). charges_it k j) ek)
        ]
    by (ask.Recalled n job) a ek ea now before =
        elim (bool_cases (has_job j (job ∷ []))) [
          | inl there ↦ (let bad : None ≡ Some m = sym (ap (λ (b : Bool). if b then None else claimer_of h j) there) ∙ now in absurd (cc))
          | inr none ↦ older site h e j (before (sym (ap (λ (b : Bool). if b then None else claimer_of h j) none) ∙ now)) (ap (λ (k : Ask). charges_it k j) ek)
        ]
    by (ask.Failed n fault charged returned) a ek ea now before =
        elim (bool_cases (has_job j (charged.items ++ returned.items))) [
          | inl there ↦ (let bad : None ≡ Some m = sym (ap (λ (b : Bool). if b then None else claimer_of h j) there) ∙ now in absurd (cc))
          | inr none ↦
              older site h e j (before (sym (ap (λ (b : Bool). if b then None else claimer_of h j) none) ∙ now))
              (ap (λ (k : Ask). charges_it k j) ek ∙ has_pair j charged.items returned.items none)
        ]
    by _ a ek ea now before = older site h e j (before now) (ap (λ (k : Ask). charges_it k j) ek)
