-- What a `step` record comes to, by the step and by the writing of its line.
use Rattle.std.proofs.Common.{◌≡◌, ℕ, inl, inr, refl, sym, ap, ◌∙◌, subst}
use Rattle.std.specs.Io.KnownBytes.{Appends}
use Rattle.drive_session.specs.declared.reports.StepLine.{StepLine}
use Rattle.replay.specs.Desk.{StepsOn}
use Rattle.replay.specs.RecordTurns.{unwritten_status}
use Rattle.replay.specs.Output.{written_for}
use Rattle.replay.specs.Run.{Stepped}
use Rattle.replay.specs.Seen.{SinkView}
use Rattle.replay.specs.StepRecords.{EndsInStep, IsWrittenStep, NotPut}
use Rattle.replay.specs.Steps.{RunState, step_line, written_by}
use Rattle.replay.specs.declared.output.Unwritten.{Unwritten}
use Rattle.replay.specs.declared.output.Unwritten.TheVariants.{Broken, Wanting}
use Rattle.replay.proofs.Running.{run_behind-site}

module _ (old new : RunState) (drive moment : ℕ) (a b : SinkView) (l : StepLine) (x : StepsOn old new drive moment l) where
  same_site : new.site ≡ old.site
  same_site = ap (λ (r : RunState). r.site) x.keeps ∙ run_behind-site old (Stepped drive moment x.done x.seen x.left)

  -- the line is what is written for the step
  line_is : step_line new.site drive l ≡ written_for old (Stepped drive moment x.done x.seen x.left)
  line_is = ap (λ s. step_line s drive l) same_site ∙ ap (step_line old.site drive) x.line ∙ sym (ap (written_by old drive moment) x.at)

  pub line_put : Appends a.written b.written (step_line new.site drive l) → IsWrittenStep old new drive moment a b
  line_put put = record { done = x.done; seen = x.seen; left = x.left; is = x.is; sound = x.sound; keeps = x.keeps; wrote = subst (Appends a.written b.written) line_is put }

  pub line_not_put : (why : Unwritten) → NotPut why a b (step_line new.site drive l) → EndsInStep (unwritten_status why) old drive moment a b
  line_not_put Broken put = inr (inl (refl, record { done = x.done; seen = x.seen; left = x.left; is = x.is; sound = x.sound; not_put = subst (NotPut Broken a b) line_is put }))
  line_not_put Wanting put = inr (inr (refl, record { done = x.done; seen = x.seen; left = x.left; is = x.is; sound = x.sound; not_put = subst (NotPut Wanting a b) line_is put }))
