use Rattle.std.proofs.Common.{refl, arith}
use Rattle.conn.proofs.Bodies.{sized_more, sized_whole}
use Rattle.conn.proofs.body_state.step_sized.Goals as goal

pub returns-then-left-eq0-clause-steps : goal.returns-then-left-eq0-clause-steps
returns-then-left-eq0-clause-steps c = λ limit h p inb. sized_whole limit h p _ _ _ c.requires inb (omega arith)

pub returns-clause-steps : goal.returns-clause-steps
returns-clause-steps c = λ limit h p inb. sized_more limit h p _ _ _ _ _ c.requires inb c.few-n.ensures.left c.few-n.ensures.there refl
