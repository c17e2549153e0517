use Rattle.std.proofs.Common.{refl, arith, inl, inr}
use Rattle.std.specs.Prelude.{Err}
use Rattle.std.proofs.lemmas.List.{length-take}
use Rattle.wire_http.specs.Errors.{by_error}
use Rattle.conn.proofs.Lines.{never_section, exceeds_section, trailer_bad, trailer_need, trailer_whole}
use Rattle.conn.proofs.body_state.step_trailer.Goals as goal

pub returns-in-Err-clause-steps : goal.returns-in-Err-clause-steps
returns-in-Err-clause-steps c = λ limit h p inb.
    trailer_bad limit h p _ _ c.requires inb (elim (by_error c.in-Err.field-0 (Err c.in-Err.field-0) refl c.in-Err.ensures.invalid c.in-Err.ensures.too_many) [
      | inl never ↦ inl (never_section 16384 c.args.rest.now (rw c.front.ensures at never))
      | inr exceeds ↦ inr (inl (exceeds_section 64 16384 c.args.rest.now (rw c.front.ensures at exceeds)))
    ])

pub returns-then-rest-gt-MOST_TRAILER-clause-steps : goal.returns-then-rest-gt-MOST_TRAILER-clause-steps
returns-then-rest-gt-MOST_TRAILER-clause-steps c = λ limit h p inb.
    trailer_bad limit h p _ _ c.requires inb (inr (inr (omega arith, rw c.front.ensures at (rw c.in-Ok-Partial.field-0-is at c.in-Ok-Partial.ensures.partial))))

pub returns-else-rest-gt-MOST_TRAILER-clause-steps : goal.returns-else-rest-gt-MOST_TRAILER-clause-steps
returns-else-rest-gt-MOST_TRAILER-clause-steps c = λ limit h p inb.
    trailer_need limit h p _ 16384 _ refl c.requires inb (omega arith) (rw c.front.ensures at (rw c.in-Ok-Partial.field-0-is at c.in-Ok-Partial.ensures.partial)) (rw c.front.ensures at (rw c.in-Ok-Partial.field-0-is at c.in-Ok-Partial.ensures.unfinished))

pub returns-in-Ok-Complete-clause-steps : goal.returns-in-Ok-Complete-clause-steps
returns-in-Ok-Complete-clause-steps c = λ limit h p inb.
    let within = rw (c.in-Ok-Complete.field-0-is, c.front.ensures) at c.in-Ok-Complete.ensures.within in
    let found = rw (c.in-Ok-Complete.field-0-is, c.front.ensures) at c.in-Ok-Complete.ensures.complete in
    trailer_whole limit h p _ 16384 _ _ _ found.0 found.1 _ refl c.requires inb (omega arith) within found.2

pub returns-in-Ok-Complete-clause-within : goal.returns-in-Ok-Complete-clause-within
returns-in-Ok-Complete-clause-within c =
    let within = rw (c.in-Ok-Complete.field-0-is, c.front.ensures) at c.in-Ok-Complete.ensures.within in
    omega (arith, within.len_fits, length-take 16384 c.args.rest.now)
