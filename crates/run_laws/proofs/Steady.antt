-- In a run over a bench that tells, each drive answers what is due.
use Rattle.std.proofs.Common.{◌≡◌, ◌≢◌, ◌∙◌, ℕ, ◌<◌, Bool, true, false, ◌==◌, List, [], ◌∷◌, length, refl, sym, ap, ap₂, subst}
use Rattle.std.specs.Prelude.{Option, Some, None, IsSome, slice_get, if◌then◌else◌}
use Rattle.std.specs.List.{AllByRecursion}
use Rattle.std.proofs.lemmas.Option.{none-some, same_Some}
use Rattle.blob.specs.Records.{MediumView}
use Rattle.cta_site.specs.declared.site.Site.{Site}
use Rattle.cta_model.specs.declared.answers.Answer.{Answer}
use Rattle.cta_model.specs.declared.answers.Answer.TheVariants as answer
use Rattle.cta_model.specs.declared.asks.Ask.TheVariants as ask
use Rattle.cta_model.specs.declared.asks.Direction.{Direction}
use Rattle.cta_model.specs.declared.asks.Direction.TheVariants as direction
use Rattle.cta_model.specs.declared.asks.Item.{Item}
use Rattle.cta_model.specs.Answers.{answer_of}
use Rattle.drive_session.specs.declared.reports.Call.TheVariants as call
use Rattle.drive_session.specs.declared.reports.Done.{Done}
use Rattle.drive_session.specs.declared.reports.Done.TheVariants as done
use Rattle.drive_session.specs.Steps.{HasDone, HasGiven, LeavesMedium, item_written}
use Rattle.drive_session.specs.Table.{Free, Held, HeldMount, Leaving, Phase, Reading, Ready, Row, Writing, batch_phase, claim_phase, flush_row, free_row, held_row, leaving_row, ready_row, next_phase, read_row, reading_row, row_of, write_row, writing_row}
use Rattle.media.specs.Drives.{DriveView, Plan}
use Rattle.tape_routes.specs.Callers.{CallersAsk}
use Rattle.replay.specs.Outcome.{AreMade}
use Rattle.replay.specs.Output.{FitsHappening, HaveContents, event_keeps, run_behind}
use Rattle.replay.specs.Promises.{AreSound, HasGivenNext, IsSound, IsSoundStep, IsTelling, item_at, item_in}
use Rattle.replay.specs.Run.{Answered, Happening, Stepped}
use Rattle.replay.specs.Steps.{DriveState, HasAnsweredSo, HasCarriedOut, HasLeftSo, IsStepOf, Made, RunState, answer_to, begun_with, behind_row, free_drive, kept_in, medium_behind, phase_behind, row_at, row_in}
use Rattle.run_laws.specs.Changed.{AreChangesTold, IsChangeTold, TellsChange, is_changed, plan_at}
use Rattle.run_laws.proofs.Due.{IsReadTrue, due, heard_alone, is_due, plan_is, plan_then, plan_told, read_true}
use Rattle.run_laws.proofs.MountedTape.{mounted_free}
use Rattle.run_laws.proofs.Shelved.{IsShelved, event_shelved, event_site, first_shelved, row_shelved}
use Rattle.replay.proofs.Rightly.{all_got, all_map, all_put, drive_tells}

-- ---- what a step hears is due

-- what a step hears of its drive is due to the drive's phase and plan, and so is the plan behind it
pub record IsDue (d : DriveState) (heard : Option Done) (seen : DriveView) : Type 0 where
  pub plan : Plan
  pub tells : d.seen.plan ≡ Some plan
  pub answer : heard_alone heard ≡ due d.phase plan
  pub behind : seen.plan ≡ plan_then (due d.phase plan) (Some plan)

-- there is a drive, and what is heard of it is due
pub record IsDueAt (s : RunState) (drive : ℕ) (heard : Option Done) (seen : DriveView) : Type 0 where
  pub state : DriveState
  pub at : slice_get s.drives drive ≡ Some state
  pub due_so : IsDue state heard seen

abbrev pub IsDueIn : RunState → Happening → Type 0
IsDueIn s (Answered link moment exchange) = Unit {0}
IsDueIn s (Stepped drive moment heard seen left) = IsDueAt s drive heard seen

abbrev pub AreDue : RunState → List Happening → Type 0
AreDue s [] = Unit {0}
AreDue s (h ∷ hs) = IsDueIn s h × AreDue (run_behind s h) hs

-- ---- drives of a bench that tells

-- a session that isn't free has a medium
abbrev pub HasMount : Phase → Option MediumView → Type 0
HasMount Free m = Unit {0}
HasMount _ m = IsSome m

-- a drive whose plan is told, and whose medium, which it has where it isn't free, tells its records
pub record IsReady (d : DriveState) : Type 0 where
  pub plan : IsSome d.seen.plan
  pub has : HasMount d.phase d.medium
  pub tells : IsTelling d.medium

pub record IsSteady (s : RunState) : Type 0 where
  pub shelf : IsShelved (kept_in s)
  pub drives : AllByRecursion IsReady s.drives

-- ---- reads

pub the_plan : (o : Option Plan) → IsSome o → (q : Plan) × (o ≡ Some q)
the_plan None is = absurd (let no : false ≡ true = is in cc)
the_plan (Some q) is = (q, refl)

read_item : (d : DriveState) (seen : DriveView) (q : Plan) (heard : Option Done) (o : Option Item) (m : Option MediumView) → d.seen.plan ≡ Some q → IsSome m → IsTelling m → HasDone d.seen seen heard
    → ((x : MediumView) → m ≡ Some x → HasGiven x d.seen o heard) → ((i : Item) (n : ℕ) → o ≡ Some i → is_changed i q ≡ true → heard ≢ Some (done.Ok (call.Read n))) → IsReadTrue o q heard
read_item d seen q heard None m plan some tells a given told = tt
read_item d seen q heard (Some i) None plan some tells a given told = absurd (let no : false ≡ true = some in cc)
read_item d seen q heard (Some i) (Some x) plan some tells a given told = read_true x d.seen seen i q heard plan tells a (given x refl) (λ n changed. told i n refl changed)

pub given_of : (d : DriveState) (m : Option MediumView) (heard : Option Done) (x : MediumView) → HasGivenNext d m heard → m ≡ Some x → HasGiven x d.seen (item_in d.phase) heard
given_of d None heard x given is = absurd (none-some x is)
given_of d (Some y) heard x given is = subst (λ (z : MediumView). HasGiven z d.seen (item_in d.phase) heard) (same_Some y x is) given

-- a phase in which something is read isn't free
pub reads_held : (p : Phase) (m : Option MediumView) (i : Item) → item_in p ≡ Some i → HasMount p m → IsSome m
reads_held Free m i is has = absurd (none-some i is)
reads_held (Held x) m i is has = has
reads_held (Ready x) m i is has = has
reads_held (Writing x items at) m i is has = has
reads_held (Reading x items at) m i is has = has
reads_held (Leaving x) m i is has = has

item_cases : (o : Option Item) (q : Plan) (heard : Option Done) → ((i : Item) → o ≡ Some i → IsReadTrue o q heard) → IsReadTrue o q heard
item_cases None q heard each = tt
item_cases (Some i) q heard each = each i refl

read_truly : (d : DriveState) (seen : DriveView) (q : Plan) (heard : Option Done) → d.seen.plan ≡ Some q → IsReady d → HasDone d.seen seen heard → HasGivenNext d d.medium heard
    → ((i : Item) (n : ℕ) → item_in d.phase ≡ Some i → is_changed i q ≡ true → heard ≢ Some (done.Ok (call.Read n))) → IsReadTrue (item_in d.phase) q heard
read_truly d seen q heard plan ready a given told =
    item_cases (item_in d.phase) q heard (λ i is. read_item d seen q heard (item_in d.phase) d.medium plan (reads_held d.phase d.medium i is ready.has) ready.tells a (λ x at. given_of d d.medium heard x given at) told)

-- ---- one step

module _ (s : RunState) (drive moment : ℕ) (heard : Option Done) (seen : DriveView) (left : Option MediumView) (d : DriveState) (at : slice_get s.drives drive ≡ Some d) (step : IsStepOf s drive moment heard seen left) where
  device : HasDone d.seen seen heard
  device = subst (λ o. HasAnsweredSo o heard seen) at step.device

  left_so : LeavesMedium heard (item_written d.phase) d.medium left
  left_so = subst (λ o. HasLeftSo o heard left) at step.medium

  carried : HasCarriedOut (kept_in s) moment (row_of drive d.phase heard)
  carried = subst (λ o. HasCarriedOut (kept_in s) moment (row_in drive heard o)) at step.row

  step_due : IsReady d → HasGivenNext d d.medium heard → TellsChange s drive heard → IsDue d heard seen
  step_due ready given told =
      let q = the_plan d.seen.plan ready.plan in
      let changes : (i : Item) (n : ℕ) → item_in d.phase ≡ Some i → is_changed i q.0 ≡ true → heard ≢ Some (done.Ok (call.Read n)) =
      λ i n is changed. told i q.0 n (ap item_at at ∙ is) (ap plan_at at ∙ q.1) changed in
      let answer : heard_alone heard ≡ due d.phase q.0 = is_due (kept_in s) moment d.seen seen q.0 q.1 drive d.phase heard device carried (read_truly d seen q.0 heard q.1 ready device given changes) in
      record {
        plan = q.0;
        tells = q.1;
        answer = answer;
        behind = plan_is d.seen seen heard device ∙ ap₂ plan_then answer q.1;
      }

-- ---- media of sessions

left_there : (heard : Option Done) (o : Option Item) (m left : Option MediumView) → LeavesMedium heard o m left → IsSome m → IsSome left
left_there heard o None left is some = absurd (let no : false ≡ true = some in cc)
left_there heard o (Some x) None is some = absurd is
left_there heard o (Some x) (Some y) is some = refl

batch_has : (way : Direction) (x : HeldMount) (items : List Item) (m : Option MediumView) → IsSome m → HasMount (batch_phase way x items) m
batch_has way x [] m some = some
batch_has direction.Archive x (i ∷ is) m some = some
batch_has direction.Retrieve x (i ∷ is) m some = some

claim_has : (x : HeldMount) (a : Answer) (m : Option MediumView) → IsSome m → HasMount (claim_phase x a) m
claim_has x (answer.Batch items evicted) m some = batch_has x.direction x items.items m some
claim_has x _ m some = some

next_has : (s : RunState) (d moment : ℕ) (left : Option MediumView) (a : Answer) → a ≡ answer_of s.site s.history moment (ask.Next d) → IsShelved (kept_in s)
    → HasMount (next_phase a) (medium_behind s.shelf left (Some (ask.Next d)) (Some a))
next_has s d moment left (answer.Mounted m way v) e is =
    let free = mounted_free s.site s.history moment d m way v e in
    is.there v free.0 free.1
next_has s d moment left _ e is = tt

-- behind a row its session has a medium, where it isn't free
abbrev HasBehind : RunState → ℕ → Option MediumView → Option Row → Type 0
HasBehind s moment left None = Unit {0}
HasBehind s moment left (Some r) = HasMount (phase_behind r (answer_to (kept_in s) moment r)) (medium_behind s.shelf left r.ask (answer_to (kept_in s) moment r))

module _ (s : RunState) (moment : ℕ) (left : Option MediumView) (some : IsSome left) where
  if_has : (b : Bool) (o : Option Row) → HasBehind s moment left o → HasBehind s moment left (if b then o else None)
  if_has true o has = has
  if_has false o has = tt

  ready_has : (x : HeldMount) (heard : Option Done) → HasBehind s moment left (ready_row x heard)
  ready_has x None = claim_has x (answer_of s.site s.history moment (ask.Claim x.mount)) left some
  ready_has x (Some e) = tt

  write_has : (x : HeldMount) (items : List Item) (at : ℕ) (i : Item) (heard : Option Done) → HasBehind s moment left (write_row x items at i heard)
  write_has x items at i (Some (done.Ok (call.Write n))) = if_has (n == i.fseq) _ some
  write_has x items at i (Some (done.Fault (call.Write n))) = if_has (n == i.fseq) _ some
  write_has x items at i (Some (done.NoMemory (call.Write n))) = if_has (n == i.fseq) _ some
  write_has x items at i None = if_has (at == 0) _ some
  write_has x items at i _ = tt

  flush_has : (x : HeldMount) (items : List Item) (heard : Option Done) → HasBehind s moment left (flush_row x items heard)
  flush_has x items (Some (done.Ok call.Flush)) = some
  flush_has x items (Some (done.Fault call.Flush)) = some
  flush_has x items _ = tt

  writing_has : (x : HeldMount) (items : List Item) (at : ℕ) (o : Option Item) (heard : Option Done) → HasBehind s moment left (writing_row x items at o heard)
  writing_has x items at (Some i) heard = write_has x items at i heard
  writing_has x items at None heard = flush_has x items heard

  read_has : (x : HeldMount) (items : List Item) (at : ℕ) (i : Item) (heard : Option Done) → HasBehind s moment left (read_row x items at i heard)
  read_has x items at i (Some (done.Ok (call.Read n))) = if_has (n == i.fseq) _ some
  read_has x items at i (Some (done.Fault (call.Read n))) = if_has (n == i.fseq) _ some
  read_has x items at i (Some (done.Mismatch found wanted)) = some
  read_has x items at i (Some (done.NoMemory (call.Read n))) = if_has (n == i.fseq) _ some
  read_has x items at i None = some
  read_has x items at i _ = tt

  reading_has : (x : HeldMount) (items : List Item) (at : ℕ) (o : Option Item) (heard : Option Done) → HasBehind s moment left (reading_row x items at o heard)
  reading_has x items at (Some i) heard = read_has x items at i heard
  reading_has x items at None heard = ready_has x heard

  held_has : (x : HeldMount) (heard : Option Done) → HasBehind s moment left (held_row x heard)
  held_has x (Some (done.Ok call.Load)) = some
  held_has x (Some (done.Fault call.Load)) = tt
  held_has x _ = tt

  leaving_has : (x : HeldMount) (heard : Option Done) → HasBehind s moment left (leaving_row x heard)
  leaving_has x (Some (done.Ok call.Unload)) = tt
  leaving_has x (Some (done.Fault call.Unload)) = tt
  leaving_has x _ = tt

free_has : (s : RunState) (drive moment : ℕ) (left : Option MediumView) (heard : Option Done) → IsShelved (kept_in s) → HasBehind s moment left (free_row drive heard)
free_has s drive moment left None is = next_has s drive moment left (answer_of s.site s.history moment (ask.Next drive)) refl is
free_has s drive moment left (Some e) is = tt

row_has : (s : RunState) (drive moment : ℕ) (p : Phase) (heard : Option Done) (m left : Option MediumView) → IsShelved (kept_in s) → HasMount p m → (IsSome m → IsSome left) → HasBehind s moment left (row_of drive p heard)
row_has s drive moment Free heard m left is has lefts = free_has s drive moment left heard is
row_has s drive moment (Held x) heard m left is has lefts = held_has s moment left (lefts has) x heard
row_has s drive moment (Ready x) heard m left is has lefts = ready_has s moment left (lefts has) x heard
row_has s drive moment (Writing x items at) heard m left is has lefts = writing_has s moment left (lefts has) x items at (slice_get items at) heard
row_has s drive moment (Reading x items at) heard m left is has lefts = reading_has s moment left (lefts has) x items at (slice_get items at) heard
row_has s drive moment (Leaving x) heard m left is has lefts = leaving_has s moment left (lefts has) x heard

-- ---- behind a step

drives_ready : (s : RunState) (drive moment : ℕ) (seen : DriveView) (left : Option MediumView) (o : Option Row) → IsSome seen.plan → IsTelling left → HasBehind s moment left o → IsSteady s
    → AllByRecursion IsReady (behind_row s drive moment seen left o).drives
drives_ready s drive moment seen left None plan tells has steady = steady.drives
drives_ready s drive moment seen left (Some r) plan tells has steady =
    let a = answer_to (kept_in s) moment r in
    let d : DriveState = record { phase = phase_behind r a; seen = seen; medium = medium_behind s.shelf left r.ask a } in
    all_put IsReady s.drives drive d (record { plan = plan; has = has; tells = drive_tells r.ask a left s.shelf tells steady.shelf.tells }) steady.drives

pub there_is : (o : Option DriveState) (heard : Option Done) (seen : DriveView) → HasAnsweredSo o heard seen → (d : DriveState) × (o ≡ Some d)
there_is None heard seen is = absurd is
there_is (Some d) heard seen is = (d, refl)

module _ (s : RunState) (drive moment : ℕ) (heard : Option Done) (seen : DriveView) (left : Option MediumView) (step : IsStepOf s drive moment heard seen left) (sound : IsSoundStep s drive moment heard seen left) (steady : IsSteady s) where
  abbrev here : (d : DriveState) × (slice_get s.drives drive ≡ Some d)
  here = there_is (slice_get s.drives drive) heard seen step.device

  ready : IsReady here.0
  ready = all_got IsReady s.drives drive here.0 here.1 steady.drives

  due_here : TellsChange s drive heard → IsDueAt s drive heard seen
  due_here told = record { state = here.0; at = here.1; due_so = step_due s drive moment heard seen left here.0 here.1 step ready (sound.given here.0 here.1) told }

  steady_here : IsSteady (behind_row s drive moment seen left (row_at s drive heard))
  steady_here =
      let d = here.0 in
      let tells : IsTelling left = sound.tells d here.1 ready.tells in
      let plan : IsSome seen.plan = subst IsSome (sym (plan_is d.seen seen heard (device s drive moment heard seen left d here.1 step))) (plan_told (heard_alone heard) d.seen.plan ready.plan) in
      let has : HasBehind s moment left (row_at s drive heard) =
      subst (λ o. HasBehind s moment left (row_in drive heard o)) (sym here.1)
      (row_has s drive moment d.phase heard d.medium left steady.shelf ready.has (left_there heard (item_written d.phase) d.medium left (left_so s drive moment heard seen left d here.1 step))) in
      record {
        shelf = row_shelved s drive moment seen left (row_at s drive heard) sound.media tells steady.shelf;
        drives = drives_ready s drive moment seen left (row_at s drive heard) plan tells has steady;
      }

-- ---- a run

due_in : (s : RunState) (h : Happening) → FitsHappening s h → IsSound s h → IsChangeTold s h → IsSteady s → IsDueIn s h
due_in s (Answered link moment exchange) fits sound told steady = tt
due_in s (Stepped drive moment heard seen left) fits sound told steady = due_here s drive moment heard seen left fits sound steady told

pub steady_behind : CallersAsk → (s : RunState) (h : Happening) → FitsHappening s h → IsSound s h → IsSteady s → IsSteady (run_behind s h)
steady_behind callers s (Answered link moment exchange) fits sound steady =
    let is : IsShelved (event_keeps (kept_in s) moment exchange.event) = event_shelved callers (kept_in s) moment exchange.event steady.shelf in
    record {
      shelf = record { there = λ v low free. is.there v (subst (λ (u : Site). v < length u.tapes.items) (sym (event_site (kept_in s) moment exchange.event)) low) free; tells = is.tells };
      drives = steady.drives;
    }
steady_behind callers s (Stepped drive moment heard seen left) fits sound steady = steady_here s drive moment heard seen left fits sound steady

all_due : CallersAsk → (s : RunState) (hs : List Happening) → HaveContents s hs → AreSound s hs → AreChangesTold s hs → IsSteady s → AreDue s hs
all_due callers s [] contents sound told steady = tt
all_due callers s (h ∷ hs) contents sound told steady =
    (due_in s h contents.0 sound.0 told.0 steady, all_due callers (run_behind s h) hs contents.1 sound.1 told.1 (steady_behind callers s h contents.0 sound.0 steady))

pub first_steady : (site : Site) (made : Made) → AreMade true site made → IsSteady (begun_with site made)
first_steady site made new = record {
  shelf = first_shelved site made new.media;
  drives = all_map IsReady free_drive made.drives (λ d v is. record { plan = (new.drives.each d v is).told refl; has = tt; tells = tt });
}

-- in a run from its start over what a bench that tells has made
pub run_due : CallersAsk → (site : Site) (made : Made) (hs : List Happening) → AreMade true site made → HaveContents (begun_with site made) hs → AreSound (begun_with site made) hs → AreChangesTold (begun_with site made) hs
    → AreDue (begun_with site made) hs
run_due callers site made hs new contents sound told = all_due callers (begun_with site made) hs contents sound told (first_steady site made new)
