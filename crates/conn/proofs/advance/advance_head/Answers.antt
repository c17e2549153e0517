use Rattle.std.proofs.Common.{refl, sym, ap, ap₂, ◌∙◌, arith, inl, inr}
use Rattle.wire_http.specs.Rules.{longest_body}
use Rattle.conn.specs.Reading.{start_of}
use Rattle.conn.specs.Stands.{Between}
use Rattle.conn.proofs.Advancing.{head_need, head_bad, head_breaks, head_whole, head_room, head_less, head_goes_on, told_yes}
use Rattle.conn.proofs.advance.advance_head.Goals as goal

pub returns-in-Need-clause-steps : goal.returns-in-Need-clause-steps
returns-in-Need-clause-steps c = λ fed given s.
    (omega arith, (s, head_need _ _ _ _ (rw c.requires at s) (rw c.in-Need.is at c.in_ok-read_head.ensures)))

pub returns-in-Refused-clause-steps : goal.returns-in-Refused-clause-steps
returns-in-Refused-clause-steps c = λ fed given s.
    let between : Between c.args.limit c.args.rest.now fed given = rw c.requires at s in (
      omega arith,
      elim (rw c.in-Refused.is at c.in_ok-read_head.ensures) [
        | inl bad ↦ rw bad.0 (head_bad _ _ _ _ between bad.1)
        | inr breaks ↦ head_breaks _ _ _ _ _ between breaks
      ],
    )

pub returns-then-expects-clause-steps : goal.returns-then-expects-clause-steps
returns-then-expects-clause-steps c = λ fed given s.
    let reads = rw c.in-Head.is at c.in_ok-read_head.ensures in
    let place = c.start_of-place.ensures ∙ ap (λ m. start_of m c.in-Head.head.body) (c.longest_body-most.ensures ∙ ap₂ (λ x y. longest_body c.args.limit x y) c.as_bytes.ensures c.as_bytes-in-Head.ensures) in
    ((head_room _ _ _ reads).0, head_whole _ _ _ _ c.in-Head.head _ (rw c.requires at s) reads refl c.new.ensures place _ (λ h e. told_yes h (sym c.if-expects.true ∙ e)))

pub returns-else-expects-clause-steps : goal.returns-else-expects-clause-steps
returns-else-expects-clause-steps c = λ fed given s.
    let reads = rw c.in-Head.is at c.in_ok-read_head.ensures in
    let room = head_room _ _ _ reads in
    let place = c.start_of-place.ensures ∙ ap (λ m. start_of m c.in-Head.head.body) (c.longest_body-most.ensures ∙ ap₂ (λ x y. longest_body c.args.limit x y) c.as_bytes.ensures c.as_bytes-in-Head.ensures) in
    (room.0, room.1, head_goes_on _ _ _ _ c.in-Head.head _ (rw c.requires at s) reads refl c.new.ensures place c.if-expects.false)

pub returns-else-expects-clause-within : goal.returns-else-expects-clause-within
returns-else-expects-clause-within c =
    let reads = rw c.in-Head.is at c.in_ok-read_head.ensures in
    head_room _ _ _ reads

pub returns-then-expects-clause-less : goal.returns-then-expects-clause-less
returns-then-expects-clause-less c =
    let reads = rw c.in-Head.is at c.in_ok-read_head.ensures in
    head_less c.args.rest.now c.in-Head.head.len c.args.state.now c.requires (head_room _ _ _ reads)

pub returns-else-expects-clause-less : goal.returns-else-expects-clause-less
returns-else-expects-clause-less c =
    let reads = rw c.in-Head.is at c.in_ok-read_head.ensures in
    head_less c.args.rest.now c.in-Head.head.len c.args.state.now c.requires (head_room _ _ _ reads)
