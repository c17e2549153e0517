use Rattle.std.proofs.Common.{refl, arith, inl, inr}
use Rattle.conn.proofs.Lines.{line_last, line_more, line_large, line_bad, line_need, never_line, line_positive, front_within}
use Rattle.conn.proofs.body_state.step_line.Goals as goal

pub returns-in-Err-clause-steps : goal.returns-in-Err-clause-steps
returns-in-Err-clause-steps c = λ limit h p inb.
    line_bad limit h p _ _ c.requires inb (inl (never_line 256 c.args.rest.now (rw c.front.ensures at c.in-Err.ensures.invalid)))

pub returns-then-rest-gt-MOST_LINE-clause-steps : goal.returns-then-rest-gt-MOST_LINE-clause-steps
returns-then-rest-gt-MOST_LINE-clause-steps c = λ limit h p inb.
    line_bad limit h p _ _ c.requires inb (inr (omega arith, rw c.front.ensures at (rw c.in-Ok-Partial.field-0-is at c.in-Ok-Partial.ensures.partial)))

pub returns-else-rest-gt-MOST_LINE-clause-steps : goal.returns-else-rest-gt-MOST_LINE-clause-steps
returns-else-rest-gt-MOST_LINE-clause-steps c = λ limit h p inb.
    line_need limit h p _ _ c.requires inb (omega arith) (rw c.front.ensures at (rw c.in-Ok-Partial.field-0-is at c.in-Ok-Partial.ensures.partial)) (rw c.front.ensures at (rw c.in-Ok-Partial.field-0-is at c.in-Ok-Partial.ensures.unfinished))

pub returns-in-Ok-Complete-default-eq0-clause-steps : goal.returns-in-Ok-Complete-default-eq0-clause-steps
returns-in-Ok-Complete-default-eq0-clause-steps c = λ limit h p inb.
    let found = rw (c.in-Ok-Complete-default-eq0.field-0-is, c.front.ensures) at c.in-Ok-Complete-default-eq0.ensures.complete in
    line_last limit h p _ _ _ found.0 _ _ c.requires inb found.1 c.in-Ok-Complete-default-eq0.field-0-0-1-test refl

pub returns-then-size-place-clause-steps : goal.returns-then-size-place-clause-steps
returns-then-size-place-clause-steps c = λ limit h p inb.
    let found = rw (c.in-Ok-Complete.field-0-is, c.front.ensures) at c.in-Ok-Complete.ensures.complete in
    line_large limit h p _ _ _ found.0 _ c.requires inb found.1 (omega arith)

pub returns-else-size-place-clause-steps : goal.returns-else-size-place-clause-steps
returns-else-size-place-clause-steps c = λ limit h p inb.
    let found = rw (c.in-Ok-Complete.field-0-is, c.front.ensures) at c.in-Ok-Complete.ensures.complete in
    line_more limit h p _ _ _ found.0 _ _ c.requires inb found.1 (omega (arith, c.in-Ok-Complete.size-test)) (omega arith) refl refl

pub returns-in-Ok-Complete-default-eq0-clause-within :
    goal.returns-in-Ok-Complete-default-eq0-clause-within
returns-in-Ok-Complete-default-eq0-clause-within c =
    let found = rw (c.in-Ok-Complete-default-eq0.field-0-is, c.front.ensures) at c.in-Ok-Complete-default-eq0.ensures.complete in
    ((front_within 256 _ c.args.rest.now _ _ found.1.reads.1 found.1.len_is).0, omega (arith, found.1.len_is, line_positive found.0 found.1.reads.0))

pub returns-else-size-place-clause-within :
    goal.returns-else-size-place-clause-within
returns-else-size-place-clause-within c =
    let found = rw (c.in-Ok-Complete.field-0-is, c.front.ensures) at c.in-Ok-Complete.ensures.complete in
    ((front_within 256 _ c.args.rest.now _ _ found.1.reads.1 found.1.len_is).0, omega (arith, found.1.len_is, line_positive found.0 found.1.reads.0))
