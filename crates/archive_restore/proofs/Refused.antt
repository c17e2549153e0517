-- Asks of mounts that are not open, and of jobs whose files were not put, are refused.
use Rattle.std.proofs.Common.{◌≡◌, ℕ, inl, inr, [], ◌∷◌, ◌++◌, Bool, true, false, not, ◌&&◌, refl}
use Rattle.std.specs.Prelude.{Option, Some, None, map}
use Rattle.std.proofs.lemmas.Bool.{and_parts}
use Rattle.cta_site.specs.Listed.{Listed, rows}
use Rattle.cta_site.specs.declared.site.Site.{Site}
use Rattle.cta_model.specs.declared.asks.Ask.{Ask}
use Rattle.cta_model.specs.declared.asks.Ask.TheVariants as ask
use Rattle.cta_model.specs.declared.asks.Fault.{Fault}
use Rattle.cta_model.specs.declared.asks.Item.{Item}
use Rattle.cta_model.specs.declared.asks.Job.{Job}
use Rattle.cta_model.specs.declared.answers.Answer.{Answer}
use Rattle.cta_model.specs.declared.answers.Answer.TheVariants as answer
use Rattle.cta_model.specs.declared.answers.Refusal.TheVariants as refusal
use Rattle.cta_model.specs.Answers.{claim_by, fate_of, is_accepted, is_known, is_last_batch, is_too_heavy, claims_all, light_answer, names_twice, refuse}
use Rattle.cta_model.specs.Bare.{bare_ask}
use Rattle.cta_model.specs.History.{History, entry_of, is_empty, moment_of}
use Rattle.cta_model.specs.Legal.{IsLegal}
use Rattle.cta_model.specs.Mounts.{claimed_items, claims, is_open, item_jobs, last_batch, mount_of}
use Rattle.cta_laws.proofs.Tests.{bool_cases}
use Rattle.archive_restore.specs.Asked.{IsRefused}
use Rattle.archive_restore.specs.Contents.{IsOfUnput, put_sum_by}
use Rattle.archive_restore.proofs.Puts.{claimed_put}

unknown : (heavy known : Bool) (a : Answer) → known ≡ false → is_accepted (refuse refusal.HistoryFull heavy (refuse refusal.Unknown (not known) a)) ≡ false
unknown true true a is = absurd (cc)
unknown false true a is = absurd (cc)
unknown true false a is = refl
unknown false false a is = refl

-- whether the history would weigh too much with the entry of an ask
abbrev heavy : Site → History → ℕ → Ask → Bool
heavy site h t k = is_too_heavy site h (bare_ask k) (light_answer site h (moment_of h t) (bare_ask k))

no_and : (a b : Bool) → a ≡ false → (a && b) ≡ false
no_and true b is = absurd (cc)
no_and false b is = refl

pub closed_claim : (site : Site) (h : History) (m : ℕ) → is_open h m ≡ false → IsRefused site h (ask.Claim m)
closed_claim site h m closed = λ t. unknown (heavy site h t (ask.Claim m)) (is_open h m) (claim_by site h (moment_of h t) (mount_of h m)) closed

pub closed_flushed : (site : Site) (h : History) (m : ℕ) (items : Listed Item) → is_open h m ≡ false → IsRefused site h (ask.Flushed m items)
closed_flushed site h m items closed = λ t.
    unknown (heavy site h t (ask.Flushed m items)) (is_known h m (item_jobs items.items) && is_last_batch (last_batch h m) items.items)
    (answer.Told (rows (map (λ (i : Item). fate_of site h i.job) items.items)))
    (no_and (is_known h m (item_jobs items.items)) _ (no_and (is_open h m) _ closed))

pub unknown_recalled : (site : Site) (h : History) (m : ℕ) (j : Job) → is_known h m (j ∷ []) ≡ false → IsRefused site h (ask.Recalled m j)
unknown_recalled site h m j not_known = λ t. unknown (heavy site h t (ask.Recalled m j)) (is_known h m (j ∷ [])) (answer.Arrived (fate_of site h j)) not_known

pub closed_recalled : (site : Site) (h : History) (m : ℕ) (j : Job) → is_open h m ≡ false → IsRefused site h (ask.Recalled m j)
closed_recalled site h m j closed = unknown_recalled site h m j (no_and (is_open h m) _ closed)

pub closed_failed : (site : Site) (h : History) (m : ℕ) (fault : Fault) (charged returned : Listed Job) → is_open h m ≡ false → IsRefused site h (ask.Failed m fault charged returned)
closed_failed site h m fault charged returned closed = λ t. unknown (heavy site h t (ask.Failed m fault charged returned)) (is_known h m (charged.items ++ returned.items)) answer.Done (no_and (is_open h m) _ closed)

pub closed_end : (site : Site) (h : History) (m : ℕ) (fault : Option Fault) → is_open h m ≡ false → IsRefused site h (ask.End m fault)
closed_end site h m fault closed = λ t. unknown (heavy site h t (ask.End m fault)) (is_open h m && is_empty (claimed_items h m)) answer.Done (no_and (is_open h m) _ closed)

-- a Recalled of a job whose file was not put
pub recalled_unput : (site : Site) (h : History) (m : ℕ) (j : Job) → IsLegal site h → put_sum_by (entry_of h j.file) ≡ None → IsRefused site h (ask.Recalled m j)
recalled_unput site h m j legal none =
    elim (bool_cases (is_known h m (j ∷ []))) [
      | inl known ↦
          (let parts = and_parts (is_open h m) (claims_all h m (j ∷ []) && not (names_twice (j ∷ []))) known in
          let all = and_parts (claims_all h m (j ∷ [])) (not (names_twice (j ∷ []))) parts.1 in
          let one = and_parts (claims h m j) true all.0 in
          let put = claimed_put site h legal m j one.0 in
          absurd (differ (put_sum_by (entry_of h j.file)) put.0 put.1 none))
      | inr not_known ↦ unknown_recalled site h m j not_known
    ]
  where
    differ : {A : Type 0} (o : Option A) (s : A) → o ≡ Some s → o ≡ None → ⊥
    differ None s is none = absurd (cc)
    differ (Some x) s is none = absurd (cc)

pub unput_refused : (site : Site) (h : History) (k : Ask) → IsLegal site h → IsOfUnput h k → IsRefused site h k
unput_refused site h (ask.Recalled m j) legal none = recalled_unput site h m j legal none
unput_refused site h _ legal none = absurd none
