use Rattle.std.proofs.Common.{refl, arith}
use Rattle.conn.proofs.Walks.{walk_step, walk_open, walk_whole, walk_fails, others_within}
use Rattle.conn.proofs.walk.body_end.Goals as goal

pub steps-init : goal.steps-init
steps-init c = record { within = omega arith; walked = λ limit h p inb. record { now = p; place = inb; text = refl } }

pub steps-preserved-in-Moved : goal.steps-preserved-in-Moved
steps-preserved-in-Moved c = record {
  within = others_within c.args.rest.now _ _ c.steps.invariant.within c.in-Moved.ensures.within.0;
  walked = λ limit h p inb.
      let w = c.steps.invariant.walked limit h p inb in
      walk_step limit h p c.args.rest.now _ _ _ _ _ w (c.in-Moved.ensures.steps limit h w.now w.place);
}

pub steps-preserved : goal.steps-preserved
steps-preserved c = record {
  within = others_within c.args.rest.now _ _ c.steps.invariant.within c.in-Taken.ensures.within.0;
  walked = λ limit h p inb.
      let w = c.steps.invariant.walked limit h p inb in
      walk_step limit h p c.args.rest.now _ _ _ _ _ w (c.in-Taken.ensures.steps limit h w.now w.place);
}

pub returns-in-Need-clause-ends : goal.returns-in-Need-clause-ends
returns-in-Need-clause-ends c = λ limit h p inb.
    let w = c.steps.invariant.walked limit h p inb in
    walk_open limit h p c.args.rest.now _ _ w (c.in-Need.ensures.steps limit h w.now w.place)

pub returns-in-Whole-clause-ends : goal.returns-in-Whole-clause-ends
returns-in-Whole-clause-ends c = λ limit h p inb.
    let w = c.steps.invariant.walked limit h p inb in
    walk_whole limit h p c.args.rest.now _ _ _ w (c.in-Whole.ensures.steps limit h w.now w.place)

pub returns-in-Whole-clause-within : goal.returns-in-Whole-clause-within
returns-in-Whole-clause-within c = others_within c.args.rest.now _ _ c.steps.invariant.within c.in-Whole.ensures.within

pub returns-in-Refused-clause-ends : goal.returns-in-Refused-clause-ends
returns-in-Refused-clause-ends c = λ limit h p inb.
    let w = c.steps.invariant.walked limit h p inb in
    walk_fails limit h p c.args.rest.now _ _ _ w (c.in-Refused.ensures.steps limit h w.now w.place)
