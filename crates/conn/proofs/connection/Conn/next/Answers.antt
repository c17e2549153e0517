use Rattle.std.proofs.Common.{sym, subst, ap, ◌∙◌, drop}
use Rattle.conn.specs.Stands.{StandsAt, Gives}
use Rattle.conn.specs.Waiting.{RestsWith}
use Rattle.conn.proofs.Waitings.{waits_behind}
use Rattle.conn.proofs.connection.Conn.next.Goals as goal

pub returns-in-Ok-Gives-clause-waits : goal.returns-in-Ok-Gives-clause-waits
returns-in-Ok-Gives-clause-waits c = λ fed given s.
    let limit = c.steps.self.limit in
    let state = c.advance.new.state in
    let next = c.in-Ok-Gives.next in
    let left = sym (c.pass-in-Ok-Gives.ensures.unread ∙ ap (drop c.in-Ok-Gives.used) (sym c.unread.ensures)) in
    let stands = subst (λ xs. StandsAt limit c.steps.self.state xs fed given) (sym c.unread.ensures) (c.steps.invariant.stands fed given s) in
    let steps = rw c.in-Ok-Gives.field-0-is at (c.in-Ok-Gives.ensures.steps fed given stands) in
    let rests = rw c.in-Ok-Gives.field-0-is at c.in-Ok-Gives.ensures.rests in
    let gives = subst (λ xs. Gives limit next state xs fed given) left steps.1 in
    let rest = subst (λ xs. RestsWith next limit state xs) left rests in
    waits_behind next (record { limit = limit; buffer = c.let_go.new.buffer; state = state; over = _ }) fed given (c.let_go.ensures.gives limit fed given gives) (c.let_go.ensures.rests limit rest) c.let_go.ensures.holds
