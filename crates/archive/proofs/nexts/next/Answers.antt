use Rattle.std.proofs.Common.{◌∙◌, sym}
use Rattle.archive.proofs.Answered.{next_busy, next_down}
use Rattle.archive.proofs.nexts.next.Goals as goal

pub returns-then-is_down-clause-answer : goal.returns-then-is_down-clause-answer
returns-then-is_down-clause-answer g c = next_down c.args.state.now.site c.args.state.now.history c.args.at c.args.drive c.requires.fit (sym c.is_down.ensures ∙ c.if-is_down.true)

pub returns-then-is_busy-clause-answer : goal.returns-then-is_busy-clause-answer
returns-then-is_busy-clause-answer g c = next_busy c.args.state.now.site c.args.state.now.history c.args.at c.args.drive c.requires.fit (sym c.is_down.ensures ∙ c.if-is_down.false) (sym c.is_busy.ensures ∙ c.if-is_busy.true)
