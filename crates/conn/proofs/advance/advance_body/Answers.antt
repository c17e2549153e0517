use Rattle.std.proofs.Common.{refl, sym}
use Rattle.std.proofs.lemmas.List.{append-nil}
use Rattle.conn.proofs.Advancing.{body_need, body_kept, body_moved, body_fails, body_finished}
use Rattle.conn.proofs.advance.advance_body.Goals as goal

pub returns-in-Moved-clause-steps : goal.returns-in-Moved-clause-steps
returns-in-Moved-clause-steps c = λ limit fed given s.
    let r = c.in-Moved.ensures.steps limit s.head s.part s.in_body.place in
    (r.within, c.in-Moved.ensures.within.1, body_moved limit _ _ _ _ _ fed given s r refl (sym (append-nil _)))

pub returns-in-Ok-clause-steps : goal.returns-in-Ok-clause-steps
returns-in-Ok-clause-steps c = λ limit fed given s.
    let r = c.in-Taken.ensures.steps limit s.head s.part s.in_body.place in
    (r.within, c.in-Taken.ensures.within.1, body_moved limit _ _ _ _ _ fed given s r refl c.in-Ok.ensures)

pub returns-in-Err-clause-steps : goal.returns-in-Err-clause-steps
returns-in-Err-clause-steps c = λ limit fed given s. body_kept limit _ _ _ fed given s refl c.in-Err.ensures refl

pub returns-in-Need-clause-steps : goal.returns-in-Need-clause-steps
returns-in-Need-clause-steps c = λ limit fed given s. body_need limit _ _ fed given s (c.in-Need.ensures.steps limit s.head s.part s.in_body.place)

pub returns-in-Refused-clause-steps : goal.returns-in-Refused-clause-steps
returns-in-Refused-clause-steps c = λ limit fed given s. body_fails limit _ _ fed given _ s (c.in-Refused.ensures.steps limit s.head s.part s.in_body.place)

pub returns-in-Whole-clause-steps : goal.returns-in-Whole-clause-steps
returns-in-Whole-clause-steps c = λ limit fed given s.
    body_finished limit _ _ _ _ fed given s (c.in-Whole.ensures.steps limit s.head s.part s.in_body.place) c.finished.ensures
