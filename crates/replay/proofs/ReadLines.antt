-- What is read of a live job is done, where the device neither fails nor gives other bytes.
use Rattle.std.proofs.Common.{◌≡◌, ◌≢◌, ℕ, ◌==◌, Bool, true, false, not, List, [], ◌∷◌, refl, ap, ◌∙◌, subst}
use Rattle.std.specs.Prelude.{Option, Some, None, if◌then◌else◌, slice_get}
use Rattle.std.proofs.lemmas.Option.{none-some}
use Rattle.blob.specs.declared.sum.Sum256.{Sum256}
use Rattle.cta_site.specs.declared.site.Site.{Site}
use Rattle.cta_model.specs.declared.answers.Answer.{Answer}
use Rattle.cta_model.specs.declared.answers.Answer.TheVariants as answer
use Rattle.cta_model.specs.declared.answers.Refusal.TheVariants as refusal
use Rattle.cta_model.specs.declared.asks.Ask.TheVariants as ask
use Rattle.cta_model.specs.declared.asks.Fate.TheVariants as fate
use Rattle.cta_model.specs.declared.asks.Item.{Item}
use Rattle.cta_model.specs.declared.asks.Job.{Job}
use Rattle.cta_model.specs.Answers.{answer_of, fate_of, is_known, refuse}
use Rattle.cta_model.specs.History.{History}
use Rattle.cta_model.specs.Jobs.{is_live_job}
use Rattle.cta_model.specs.Kept.{Kept}
use Rattle.drive_session.specs.declared.reports.Call.TheVariants as call
use Rattle.drive_session.specs.declared.reports.Done.{Done}
use Rattle.drive_session.specs.declared.reports.Done.TheVariants as done
use Rattle.drive_session.specs.declared.reports.ReadEnd.TheVariants as end
use Rattle.drive_session.specs.declared.reports.StepLine.{StepLine}
use Rattle.drive_session.specs.declared.reports.StepLine.TheVariants as line
use Rattle.drive_session.specs.declared.states.Asked.TheVariants as asked
use Rattle.drive_session.specs.Answers.{recalled_line}
use Rattle.drive_session.specs.Lawful.{IsSaid}
use Rattle.drive_session.specs.Steps.{NoMismatch}
use Rattle.drive_session.specs.Table.{Free, Held, HeldMount, Leaving, Phase, Reading, Ready, Row, Writing, only_at, read_row, reading_row, row_of}
use Rattle.replay.specs.Promises.{NoFault, ReadsDone, item_at, item_in, says_mismatch}
use Rattle.replay.specs.Steps.{DriveState, HasCarriedOut, RunState, kept_in, line_by_row, row_in}

-- ---- a line says mismatch only where the device gave one

no_such : (heard : Option Done) (found wanted : Sum256) → heard ≡ Some (done.Mismatch found wanted) → NoMismatch heard → ⊥
no_such heard found wanted is none = subst NoMismatch is none

pub silent : (l : StepLine) (heard : Option Done) → IsSaid l heard → NoMismatch heard → says_mismatch l ≡ false
silent (line.Read s end.Mismatch) heard said none = absurd (no_such heard said.0 said.1.0 said.1.1 none)
silent _ heard said none = refl

-- ---- a content that was handed in

known_arrives : (t : Bool) (a : Answer) → refuse refusal.Unknown t a ≢ answer.Refused refusal.Unknown → refuse refusal.Unknown t a ≡ a
known_arrives true a known = absurd (known refl)
known_arrives false a known = refl

arrives : (site : Site) (h : History) (t m : ℕ) (j : Job) → answer_of site h t (ask.Recalled m j) ≢ answer.Refused refusal.Unknown → is_live_job site h j ≡ true → answer_of site h t (ask.Recalled m j) ≡ answer.Arrived fate.Done
arrives site h t m j known live =
    let told : answer_of site h t (ask.Recalled m j) ≡ answer.Arrived (fate_of site h j) = known_arrives (not (is_known h m (j ∷ []))) (answer.Arrived (fate_of site h j)) known in
    told ∙ ap answer.Arrived (ap (λ b. if b then fate.Done else fate.Stale) live)

module _ (kept : Kept) (moment : ℕ) (i : Item) (live : is_live_job kept.site kept.history i.job ≡ true) where
  abbrev IsDone : Option Row → Type 0
  IsDone r = HasCarriedOut kept moment r → line_by_row kept moment r ≡ Some (line.Read i.fseq end.Done)

  only_done : (n s : ℕ) (r : Option Row) → IsDone r → IsDone (only_at n s r)
  only_done n s r is = elim (s == n) as (λ b. IsDone (if b then r else None)) [ true ↦ is | false ↦ λ no_row. absurd no_row ]

  read_done : (x : HeldMount) (items : List Item) (at : ℕ) (heard : Option Done) → NoMismatch heard → NoFault heard → IsDone (read_row x items at i heard)
  read_done x items at (Some (done.Ok (call.Read s))) none well =
      only_done i.fseq s (Some (record { ask = Some (ask.Recalled x.mount i.job); asked = asked.Recalled i.fseq; phase = _ }))
      (λ out. ap (λ a. Some (recalled_line i.fseq a)) (arrives kept.site kept.history moment x.mount i.job out.known live))
  read_done x items at (Some (done.Fault c)) none well = absurd well
  read_done x items at (Some (done.Mismatch found wanted)) none well = absurd none
  read_done x items at (Some (done.NoMemory (call.Read s))) none well =
      only_done i.fseq s (Some (record { ask = None; asked = asked.Nothing line.Memory; phase = _ })) (λ out. absurd (let no : true ≡ false = out.told in cc))
  read_done x items at None none well = λ out. absurd (let no : true ≡ false = out.told in cc)
  read_done x items at _ none well = λ no_row. absurd no_row

  at_item : (x : HeldMount) (items : List Item) (at : ℕ) (o : Option Item) (heard : Option Done) → o ≡ Some i → NoMismatch heard → NoFault heard → IsDone (reading_row x items at o heard)
  at_item x items at o heard is none well = rw is (read_done x items at heard none well)

  in_phase : (d : ℕ) (p : Phase) (heard : Option Done) → item_in p ≡ Some i → NoMismatch heard → NoFault heard → IsDone (row_of d p heard)
  in_phase d (Reading x items at) heard is none well = at_item x items at (slice_get items at) heard is none well
  in_phase d Free heard is none well = absurd (none-some i is)
  in_phase d (Held x) heard is none well = absurd (none-some i is)
  in_phase d (Ready x) heard is none well = absurd (none-some i is)
  in_phase d (Writing x items at) heard is none well = absurd (none-some i is)
  in_phase d (Leaving x) heard is none well = absurd (none-some i is)

  in_drive : (d : ℕ) (o : Option DriveState) (heard : Option Done) → item_at o ≡ Some i → NoMismatch heard → NoFault heard → IsDone (row_in d heard o)
  in_drive d None heard is none well = absurd (none-some i is)
  in_drive d (Some x) heard is none well = in_phase d x.phase heard is none well

pub reads_done : (s : RunState) (drive moment : ℕ) (heard : Option Done) → NoMismatch heard → ReadsDone s drive moment heard
reads_done s drive moment heard none i is live well out = in_drive (kept_in s) moment i live drive (slice_get s.drives drive) heard is none well out
