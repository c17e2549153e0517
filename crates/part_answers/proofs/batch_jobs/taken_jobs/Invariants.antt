-- What was taken, with what is still to take, is what is to be taken.
use Rattle.part_model.specs.Queues.{lines_in}
use Rattle.part_answers.proofs.Walks.{IsWalked}
use Rattle.part_answers.proofs.batch_jobs.taken_jobs.Given as goal

abbrev pub invariant-loop : goal.invariant-loop
invariant-loop l = IsWalked (lines_in l.queues.value l.key) l.count l.room l.counter l.jobs.items l.last l.bytes
