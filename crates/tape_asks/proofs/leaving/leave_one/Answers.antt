use Rattle.std.proofs.Common.{◌∙◌, sym}
use Rattle.part_model.specs.Queues.{lines_in}
use Rattle.tape_asks.proofs.LeftReads.{key_left, none_left}
use Rattle.tape_asks.proofs.leaving.leave_one.Goals as goal

pub returns-in_default-clause-lines : goal.returns-in_default-clause-lines
returns-in_default-clause-lines c = λ k. none_left c.args.job (lines_in c.args.recalls.now.value) k _ (c.requires.stands k) (sym c.in_default.is ∙ c.source_of.ensures.tape)

pub returns-clause-lines : goal.returns-clause-lines
returns-clause-lines c = λ k. key_left c.args.job (lines_in c.args.recalls.now.value) (lines_in c.take-there.new.self.value) c.in-Some.key k _ (c.take-there.ensures.lines k) (c.requires.stands k) c.in-Some.ensures.tape
