-- A live job is in one queue, once, or one open mount claims it.
use Rattle.std.proofs.Common.{◌≡◌, ℕ, ◌⊎◌, inl, inr, List, [], ◌∷◌, Bool, true, false, ◌&&◌, refl, sym, ap, subst}
use Rattle.std.specs.Prelude.{Option, Some, None, is_some, is_none, if◌then◌else◌}
use Rattle.std.proofs.lemmas.Bool.{and_parts, and_from, eqb-true, eq-eqb}
use Rattle.cta_site.specs.declared.site.Site.{Site}
use Rattle.cta_model.specs.declared.asks.Direction.{Direction}
use Rattle.cta_model.specs.declared.asks.Direction.TheVariants as direction
use Rattle.cta_model.specs.declared.asks.Job.{Job}
use Rattle.cta_model.specs.History.{History, is_number}
use Rattle.cta_model.specs.Mounts.{same_job, has_job, claimer_of, is_open, same_direction, claims}
use Rattle.cta_model.specs.Jobs.{is_live_job, jobs_born}
use Rattle.cta_model.specs.Queues.{queue_of, is_queued, key_of, direction_of}
use Rattle.cta_model.specs.Legal.{IsLegal}
use Rattle.cta_laws.specs.Jobs.{count_job, IsQueued, IsClaimed, IsQueuedOrClaimed}
use Rattle.cta_laws.proofs.Tests.{bool_cases}
use Rattle.cta_laws.proofs.Claims.{AllOf, all_pass}
use Rattle.cta_laws.proofs.OnceLaw.{same_job_eq}
use Rattle.cta_laws.proofs.QuotaLaw.{same_way}
use Rattle.cta_laws.proofs.ClaimLaw.{claimed_once, unclaimed_by}
use Rattle.cta_laws.proofs.StandLaw.{claimer_is_open, stands_once}
use Rattle.cta_laws.proofs.KeyLaw.{live_job_has_key}

pub among : (P : Job → Type 0) (js : List Job) → AllOf P js → (j : Job) → has_job j js ≡ true → P j
among P [] all j e = absurd (cc)
among P (k ∷ js) all j e =
    elim (bool_cases (same_job j k)) [ inl hit ↦ subst P (sym (same_job_eq j k hit)) all.0 | inr miss ↦ among P js all.1 j (rw miss at e) ]

-- what is in a queue stands in it
pub queued_stands : (site : Site) (h : History) (way : Direction) (key : ℕ) (j : Job) → has_job j (queue_of site h way key) ≡ true → is_queued site h way key j ≡ true
queued_stands site h way key j e = among (λ k. is_queued site h way key k ≡ true) (queue_of site h way key) (all_pass (is_queued site h way key) (jobs_born site h)) j e

pub same_self : (way : Direction) → same_direction way way ≡ true
same_self direction.Archive = refl
same_self direction.Retrieve = refl

pub not_true : (b : Bool) → (b ≡ true → ⊥) → b ≡ false
not_true true no_way = absurd (no_way refl)
not_true false no_way = refl

pub some_key : (o : Option ℕ) → is_some o ≡ true → (key : ℕ) × (o ≡ Some key)
some_key None e = absurd (cc)
some_key (Some key) e = (key, refl)

pub once_by : (b : Bool) (n : ℕ) → n ≡ (if b then 1 else 0) → b ≡ true → n ≡ 1
once_by true n e t = e
once_by false n e t = absurd (cc)

pub queued : (site : Site) (h : History) → IsLegal site h → (j : Job) → is_live_job site h j ≡ true → claimer_of h j ≡ None → IsQueued site h j
queued site h legal j live none =
    let key : (key : ℕ) × (key_of site h j ≡ Some key) = some_key (key_of site h j) (live_job_has_key site h legal j live) in
    let number : is_number key.0 (key_of site h j) ≡ true = subst (λ (o : Option ℕ). is_number key.0 o ≡ true) (sym key.1) (eq-eqb key.0 key.0 refl) in
    let free : is_none (claimer_of h j) ≡ true = ap is_none none in
    let stands : is_queued site h (direction_of j) key.0 j ≡ true = and_from _ _ live (and_from _ _ (same_self (direction_of j)) (and_from _ _ free number)) in
    record {
      key = key.0;
      is_key = key.1;
      once = once_by (is_queued site h (direction_of j) key.0 j) (count_job j (queue_of site h (direction_of j) key.0)) (stands_once site h legal j live (direction_of j) key.0) stands;
      in_no_other = λ way k there.
          (let parts : (same_direction way (direction_of j) ≡ true) × ((is_none (claimer_of h j) && is_number k (key_of site h j)) ≡ true) = and_parts _ _ (and_parts (is_live_job site h j) _ (queued_stands site h way k j there)).1 in
          let same : is_number k (Some key.0) ≡ true = subst (λ (o : Option ℕ). is_number k o ≡ true) key.1 (and_parts (is_none (claimer_of h j)) _ parts.1).1 in
          (same_way way (direction_of j) parts.0, eqb-true k key.0 same));
      unclaimed = λ m op. not_true (claims h m j) (λ c. unclaimed_by h j m free op c);
    }

pub claimed : (site : Site) (h : History) → IsLegal site h → (j : Job) (m : ℕ) → claimer_of h j ≡ Some m → IsClaimed site h j
claimed site h legal j m is =
    let x : (is_open h m ≡ true) × (claims h m j ≡ true) = claimer_is_open h j m is in
    record {
      mount = m;
      is_open_mount = x.0;
      claimed = x.1;
      by_no_other = λ n op c. claimed_once site h legal j n m op c x.0 x.1;
      in_no_queue = λ way k. not_true (has_job j (queue_of site h way k)) (λ there. taken (is_none (claimer_of h j)) (ap is_none is) (and_parts (is_none (claimer_of h j)) _ (and_parts (same_direction way (direction_of j)) _ (and_parts (is_live_job site h j) _ (queued_stands site h way k j there)).1).1).0);
    }
  where
    taken : (b : Bool) → b ≡ false → b ≡ true → ⊥
    taken true d e = absurd (cc)
    taken false d e = absurd (cc)

pub by_claimer : (site : Site) (h : History) → IsLegal site h → (j : Job) → is_live_job site h j ≡ true → (o : Option ℕ) → claimer_of h j ≡ o → IsQueued site h j ⊎ IsClaimed site h j
by_claimer site h legal j live None is = inl (queued site h legal j live is)
by_claimer site h legal j live (Some m) is = inr (claimed site h legal j m is)

pub is_queued_or_claimed : IsQueuedOrClaimed
is_queued_or_claimed site h legal j live = by_claimer site h legal j live (claimer_of h j) refl
