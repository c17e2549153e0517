use Rattle.std.proofs.Common.{◌∙◌, refl}
use Rattle.repack_book.specs.NamedRepacks.{repacks_of}
use Rattle.tape_asks.proofs.BirthLoops.{written_more}
use Rattle.tape_asks.proofs.writing.write_all.Goals as goal

pub loop-job-init : goal.loop-job-init
loop-job-init c = record { states = λ k. refl; named = λ k. refl }

pub loop-job-preserved : goal.loop-job-preserved
loop-job-preserved c = record {
  states = written_more c.args.number c.args.jobs.now c.loop-job.job-index _ (repacks_of c.args.repacks.now) (repacks_of c.loop-job.repacks) (repacks_of c.set.new.self) c.loop-job-test.true c.loop-job.invariant.states c.set.ensures.repacks;
  named = λ k. c.set.ensures.names k ∙ c.loop-job.invariant.named k;
}
