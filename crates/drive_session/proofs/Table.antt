-- The rows of the table that steps make.
use Rattle.std.proofs.Common.{◌≡◌, ℕ, ◌+◌, ◌<◌, List, [], ◌∷◌, refl, sym, ◌∙◌, ap, arith, length, true}
use Rattle.std.specs.Prelude.{Option, Some, None, option_map, slice_get}
use Rattle.std.proofs.lemmas.Bool.{eq-eqb}
use Rattle.std.proofs.lemmas.Option.{slice_get_past}
use Rattle.cta_site.specs.Listed.{rows}
use Rattle.cta_model.specs.declared.asks.Ask.TheVariants as ask
use Rattle.cta_model.specs.declared.asks.Fault.{Fault}
use Rattle.cta_model.specs.declared.asks.Fault.TheVariants as fault
use Rattle.cta_model.specs.declared.asks.Item.{Item}
use Rattle.cta_model.specs.declared.asks.Job.{Job}
use Rattle.cta_model.specs.Mounts.{item_jobs}
use Rattle.drive_session.specs.declared.reports.Call.TheVariants as call
use Rattle.drive_session.specs.declared.reports.Done.{Done}
use Rattle.drive_session.specs.declared.reports.Done.TheVariants as done
use Rattle.drive_session.specs.declared.reports.StepLine.TheVariants as line
use Rattle.drive_session.specs.declared.states.Asked.TheVariants as asked
use Rattle.drive_session.specs.declared.states.Outcome.{Outcome}
use Rattle.drive_session.specs.declared.states.Outcome.TheVariants as outcome
use Rattle.drive_session.specs.Steps.{batch_charges}
use Rattle.drive_session.specs.Table.{HeldMount, Leaving, Reading, Ready, Row, Writing, asks, only_at, others_at, read_row, reading_row, says, writing_row}
use Rattle.drive_session.proofs.Lists.{one_map}

pub only_same : (n : ℕ) (row : Option Row) → only_at n n row ≡ row
only_same n row = rw (eq-eqb n n refl) refl

-- ---- Writing

-- before the first write there is an item, and no call may come of a want of memory
pub unbegun_row : (x : HeldMount) (items : List Item) → 0 < length items → writing_row x items 0 (slice_get items 0) None ≡ says line.Memory (Writing x items 0)
unbegun_row x [] low = absurd (omega (arith, low))
unbegun_row x (i ∷ is) low = refl

pub written_row : (x : HeldMount) (items : List Item) (at : ℕ) (i : Item) → slice_get items at ≡ Some i
    → writing_row x items at (slice_get items at) (Some (done.Ok (call.Write i.fseq))) ≡ says (line.Write i.fseq true) (Writing x items (at + 1))
written_row x items at i there = ap (λ o. writing_row x items at o (Some (done.Ok (call.Write i.fseq)))) there ∙ only_same i.fseq _

pub unwritten_row : (x : HeldMount) (items : List Item) (at : ℕ) (i : Item) → slice_get items at ≡ Some i
    → writing_row x items at (slice_get items at) (Some (done.NoMemory (call.Write i.fseq))) ≡ says line.Memory (Writing x items at)
unwritten_row x items at i there = ap (λ o. writing_row x items at o (Some (done.NoMemory (call.Write i.fseq)))) there ∙ only_same i.fseq _

-- the row of a fault that charges some jobs and returns others
failed_row : HeldMount → Fault → Outcome → List Job × List Job → Row
failed_row x f o jobs = record { ask = Some (ask.Failed x.mount f (rows jobs.0) (rows jobs.1)); asked = asked.Known o; phase = Leaving x }

failed_same : (x : HeldMount) (f : Fault) (o : Outcome) (a b c d : List Job) → ◌≡◌ {A = Option (List Job × List Job)} (Some (a, b)) (Some (c, d))
    → asks (ask.Failed x.mount f (rows a) (rows b)) (asked.Known o) (Leaving x) ≡ asks (ask.Failed x.mount f (rows c) (rows d)) (asked.Known o) (Leaving x)
unfolding failed_row
failed_same x f o a b c d same = ap (λ jobs. option_map (failed_row x f o) jobs) same

pub write_failed_row : (x : HeldMount) (items : List Item) (at : ℕ) (i : Item) (charged returned : List Job) → slice_get items at ≡ Some i → batch_charges (item_jobs items) at fault.Write ≡ Some (charged, returned)
    → writing_row x items at (slice_get items at) (Some (done.Fault (call.Write i.fseq))) ≡ asks (ask.Failed x.mount fault.Write (rows charged) (rows returned)) (asked.Known (outcome.Write i.fseq)) (Leaving x)
write_failed_row x items at i charged returned there charges =
    ap (λ o. writing_row x items at o (Some (done.Fault (call.Write i.fseq)))) there
    ∙ only_same i.fseq _
    ∙ ap (λ js. asks (ask.Failed x.mount fault.Write (rows js) (rows (others_at (item_jobs items) at))) (asked.Known (outcome.Write i.fseq)) (Leaving x)) (sym (one_map (λ (i : Item). i.job) items at i there))
    ∙ failed_same x fault.Write (outcome.Write i.fseq) _ _ charged returned charges

pub flushed_row : (x : HeldMount) (items : List Item) (at : ℕ) → at ≡ length items
    → writing_row x items at (slice_get items at) (Some (done.Ok call.Flush)) ≡ asks (ask.Flushed x.mount (rows items)) asked.Flushed (Ready x)
flushed_row x items at all = ap (λ o. writing_row x items at o (Some (done.Ok call.Flush))) (slice_get_past items at (omega (arith, all)))

pub flush_failed_row : (x : HeldMount) (items : List Item) (at : ℕ) (charged returned : List Job) → at ≡ length items → batch_charges (item_jobs items) at fault.Flush ≡ Some (charged, returned)
    → writing_row x items at (slice_get items at) (Some (done.Fault call.Flush)) ≡ asks (ask.Failed x.mount fault.Flush (rows charged) (rows returned)) (asked.Known outcome.Flush) (Leaving x)
flush_failed_row x items at charged returned all charges =
    ap (λ o. writing_row x items at o (Some (done.Fault call.Flush))) (slice_get_past items at (omega (arith, all))) ∙ failed_same x fault.Flush outcome.Flush _ _ charged returned charges

-- ---- Reading

pub read_out_row : (x : HeldMount) (items : List Item) (at : ℕ) → slice_get items at ≡ None → reading_row x items at (slice_get items at) None ≡ asks (ask.Claim x.mount) asked.Claim (Ready x)
read_out_row x items at none = ap (λ o. reading_row x items at o None) none

-- the row of a state with an item left to read
pub read_there : (x : HeldMount) (items : List Item) (at : ℕ) (i : Item) (e : Option Done) → slice_get items at ≡ Some i → reading_row x items at (slice_get items at) e ≡ read_row x items at i e
read_there x items at i e there = ap (λ o. reading_row x items at o e) there

-- an item that was not read is charged alone
pub read_failed_row : (x : HeldMount) (items : List Item) (at : ℕ) (i : Item) (f : Fault) (o : Outcome) (jobs charged returned : List Job) → jobs ≡ i.job ∷ [] → charged ≡ jobs → returned ≡ []
    → asks (ask.Failed x.mount f (rows (i.job ∷ [])) (rows [])) (asked.Known o) (Reading x items (at + 1)) ≡ asks (ask.Failed x.mount f (rows charged) (rows returned)) (asked.Known o) (Reading x items (at + 1))
read_failed_row x items at i f o jobs charged returned one ec er =
    ap (λ js. asks (ask.Failed x.mount f (rows js) (rows [])) (asked.Known o) (Reading x items (at + 1))) (sym one ∙ sym ec) ∙ ap (λ js. asks (ask.Failed x.mount f (rows charged) (rows js)) (asked.Known o) (Reading x items (at + 1))) (sym er)
