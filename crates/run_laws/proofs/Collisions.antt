-- An altered read is told, or a content is known that has the same SHA-256 when it is altered.
use Rattle.std.proofs.Common.{◌≡◌, ◌≢◌, ◌∙◌, ◌⊎◌, inl, inr, ℕ, List, [], ◌∷◌, Bool, true, false, length, not, refl, sym, ap, subst}
use Rattle.std.specs.Prelude.{Option, Some, None, IsSome, IfSome, slice_get, ◌==◌}
use Rattle.std.proofs.lemmas.Bool.{and_parts, cases_Bool, eq-eqb}
use Rattle.std.proofs.lemmas.Option.{none-some, same_Some}
use Rattle.blob.specs.declared.sum.Sum256.{Sum256}
use Rattle.blob.specs.Records.{MediumView}
use Rattle.blob.specs.Sums.{sum_of}
use Rattle.cta_site.specs.declared.site.CallKind.TheVariants as kind
use Rattle.cta_site.specs.declared.site.Site.{Site}
use Rattle.cta_model.specs.declared.asks.Item.{Item}
use Rattle.drive_session.specs.declared.reports.Call.TheVariants as call
use Rattle.drive_session.specs.declared.reports.Done.{Done}
use Rattle.drive_session.specs.declared.reports.Done.TheVariants as done
use Rattle.drive_session.specs.Steps.{HasGiven, WasRead}
use Rattle.media.specs.Drives.{DriveView, Plan, alters_at}
use Rattle.media.specs.Reads.{IsReadOf}
use Rattle.tape_routes.specs.Callers.{CallersAsk}
use Rattle.replay.specs.Outcome.{AreMade}
use Rattle.replay.specs.Output.{FitsHappening, HaveContents, run_behind}
use Rattle.replay.specs.Promises.{AreSound, IsSound, IsSoundStep, IsTelling, item_at, item_in}
use Rattle.replay.specs.Run.{Answered, Happening, Stepped}
use Rattle.replay.specs.Steps.{DriveState, IsStepOf, Made, RunState, begun_with}
use Rattle.run_laws.specs.Changed.{AreChangesTold, Collides, IsChangeTold, TellsChange, is_changed, plan_at}
use Rattle.run_laws.proofs.Steady.{IsReady, IsSteady, first_steady, given_of, reads_held, steady_behind, the_plan, there_is}
use Rattle.replay.proofs.Rightly.{all_got}

-- ---- one read

-- a content with the sum of an item that isn't empty
some_bytes : (sum : Sum256) (was : List ℕ) → sum_of was ≡ sum → not (sum.len == 0) ≡ true → was ≢ []
some_bytes sum was is some none =
    let size : sum.len ≡ 0 = sym (ap (λ (s : Sum256). s.len) is) ∙ ap length none in
    let empty : (sum.len == 0) ≡ true = eq-eqb sum.len 0 size in
    let no : false ≡ true = rw empty at some in
    cc

collide : (b : Bool) (sum : Sum256) (bytes : List ℕ) → b ≡ true → not (sum.len == 0) ≡ true → sum_of bytes ≡ sum → IsReadOf b sum bytes → Collides
collide false sum bytes on some same is = absurd (let no : false ≡ true = on in cc)
collide true sum bytes on some same is = record { content = is.0; some = some_bytes sum is.0 is.1 some; same = ap sum_of (sym is.2) ∙ same ∙ sym is.1 }

read_well : (m : MediumView) (old : DriveView) (i : Item) (q : Plan) → old.plan ≡ Some q → IsSome m.records → is_changed i q ≡ true → WasRead m old i i.sum → Collides
read_well m old i q plan tells changed read =
    let parts = and_parts (alters_at kind.Read q.entries q.made) (not (i.sum.len == 0)) changed in
    let by : IsReadOf (alters_at kind.Read q.entries q.made) i.sum read.0 = subst (λ (o : Option Plan). IfSome o (λ (p : Plan). IsReadOf (alters_at kind.Read p.entries p.made) i.sum read.0)) plan (read.2 tells).planned in
    collide (alters_at kind.Read q.entries q.made) i.sum read.0 parts.0 parts.1 read.1 by

-- what a read of an item that is changed tells
Tells : Option Item → Plan → Option Done → Type 0
Tells o q heard = (i : Item) (n : ℕ) → o ≡ Some i → is_changed i q ≡ true → heard ≢ Some (done.Ok (call.Read n))

other_answer : (heard : Option Done) → ((n : ℕ) → heard ≡ Some (done.Ok (call.Read n)) → ⊥) ⊎ ((n : ℕ) × (heard ≡ Some (done.Ok (call.Read n))))
other_answer (Some (done.Ok (call.Read s))) = inr (s, refl)
other_answer _ = inl (λ n e. cc)

given_read : (m : MediumView) (old : DriveView) (i : Item) (heard : Option Done) (n : ℕ) → heard ≡ Some (done.Ok (call.Read n)) → HasGiven m old (Some i) heard → WasRead m old i i.sum
given_read m old i heard n is given = (subst (HasGiven m old (Some i)) is given).1

item_told : (old : DriveView) (q : Plan) (heard : Option Done) (o : Option Item) (m : Option MediumView) → old.plan ≡ Some q → ((i : Item) → o ≡ Some i → IsSome m) → IsTelling m
    → ((x : MediumView) → m ≡ Some x → HasGiven x old o heard) → Tells o q heard ⊎ Collides
unfolding Tells
item_told old q heard None m plan some tells given = inl (λ i n is. absurd (none-some i is))
item_told old q heard (Some i) None plan some tells given = absurd (let no : false ≡ true = some i refl in cc)
item_told old q heard (Some i) (Some x) plan some tells given =
    elim (other_answer heard) [
      | inl other ↦ inl (λ j n is changed. other n)
      | inr well ↦
          elim (cases_Bool (is_changed i q)) [
            | inl hit ↦ inr (read_well x old i q plan tells hit (given_read x old i heard well.0 well.1 (given x refl)))
            | inr miss ↦ inl (λ j n is changed at. (let same : is_changed i q ≡ true = ap (λ k. is_changed k q) (same_Some i j is) ∙ changed in let no : false ≡ true = sym miss ∙ same in cc))
          ]
    ]

-- ---- one step

step_told : (s : RunState) (drive moment : ℕ) (heard : Option Done) (seen : DriveView) (left : Option MediumView) → IsStepOf s drive moment heard seen left → IsSoundStep s drive moment heard seen left → IsSteady s
    → TellsChange s drive heard ⊎ Collides
unfolding Tells
step_told s drive moment heard seen left step sound steady =
    let here = there_is (slice_get s.drives drive) heard seen step.device in
    let d : DriveState = here.0 in
    let ready : IsReady d = all_got IsReady s.drives drive d here.1 steady.drives in
    let q = the_plan d.seen.plan ready.plan in
    elim (item_told d.seen q.0 heard (item_in d.phase) d.medium q.1 (λ i is. reads_held d.phase d.medium i is ready.has) ready.tells (λ x at. given_of d d.medium heard x (sound.given d here.1) at)) [
      | inl told ↦ inl (λ i p n item plan changed.
          let same : p ≡ q.0 = same_Some p q.0 (sym plan ∙ ap plan_at here.1 ∙ q.1) in
          told i n (sym (ap item_at here.1) ∙ item) (subst (λ x. is_changed i x ≡ true) same changed))
      | inr collides ↦ inr collides
    ]

-- ---- a run

change_told : (s : RunState) (h : Happening) → FitsHappening s h → IsSound s h → IsSteady s → IsChangeTold s h ⊎ Collides
change_told s (Answered link moment exchange) fits sound steady = inl tt
change_told s (Stepped drive moment heard seen left) fits sound steady = step_told s drive moment heard seen left fits sound steady

both : {A B C : Type 0} → A ⊎ C → B ⊎ C → (A × B) ⊎ C
both (inl a) (inl b) = inl (a, b)
both (inl a) (inr c) = inr c
both (inr c) o = inr c

all_told : CallersAsk → (s : RunState) (hs : List Happening) → HaveContents s hs → AreSound s hs → IsSteady s → AreChangesTold s hs ⊎ Collides
all_told callers s [] contents sound steady = inl tt
all_told callers s (h ∷ hs) contents sound steady =
    both (change_told s h contents.0 sound.0 steady) (all_told callers (run_behind s h) hs contents.1 sound.1 (steady_behind callers s h contents.0 sound.0 steady))

-- in a run from its start over what a bench that tells has made
pub run_told : CallersAsk → (site : Site) (made : Made) (hs : List Happening) → AreMade true site made → HaveContents (begun_with site made) hs → AreSound (begun_with site made) hs
    → AreChangesTold (begun_with site made) hs ⊎ Collides
run_told callers site made hs new contents sound = all_told callers (begun_with site made) hs contents sound (first_steady site made new)
