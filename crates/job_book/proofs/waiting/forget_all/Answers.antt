use Rattle.std.proofs.Common.{arith, ◌∙◌, ap}
use Rattle.std.specs.Prelude.{Bool, ◌&&◌, if◌then◌else◌, None, ◌==◌}
use Rattle.job_book.specs.Maps.{waits_at}
use Rattle.job_book.proofs.waiting.forget_all.Goals as goal

pub loop-at-preserved : goal.loop-at-preserved
loop-at-preserved c = record {
  waits = λ f i miss. c.take_out.ensures.values (f, i) ∙ ap (λ (b : Bool). if b && (c.loop-at.at == i) then None else waits_at c.loop-at.waiting.entries f i) miss ∙ c.loop-at.invariant.waits f i miss;
  room = omega arith;
}
