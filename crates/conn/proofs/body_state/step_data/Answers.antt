use Rattle.std.proofs.Common.{◌≡◌, refl, ap, ◌∙◌, arith}
use Rattle.conn.proofs.Bodies.{data_end, data_more}
use Rattle.conn.specs.declared.body_state.Phase.TheVariants as phase
use Rattle.conn.proofs.body_state.step_data.Goals as goal

pub returns-in-Whole-clause-steps : goal.returns-in-Whole-clause-steps
returns-in-Whole-clause-steps c = λ limit h p inb.
    let zero : c.args.left ≡ 0 = omega arith in
    data_end limit h p _ _ _ (c.requires ∙ ap phase.Data zero) inb c.in-Whole.ensures refl refl

pub returns-clause-steps : goal.returns-clause-steps
returns-clause-steps c = λ limit h p inb. data_more limit h p _ _ _ _ _ c.requires inb c.few-n.ensures.left c.few-n.ensures.there refl refl
