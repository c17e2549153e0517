use Rattle.std.proofs.Common.{[], ◌∷◌, ◌++◌}
use Rattle.conn.specs.Stands.{Settled, given_by}
use Rattle.links.specs.Run.{bytes_on, events_on}
use Rattle.links.specs.Standing.{behind, turn_of}
use Rattle.links.proofs.Elements.{behind_same}
use Rattle.links.proofs.Standing.{given_none, same_stands, stand_joined, run_goes_on, joined_goes_on}
use Rattle.links.proofs.Runs.{bytes_behind, events_behind, run_both}
use Rattle.links.proofs.links.Links.turn.Goals as goal

pub returns-in-Err-clause-first : goal.returns-in-Err-clause-first
returns-in-Err-clause-first c = λ limit turns moment h room.
    let at = c.args.link in
    let piece = c.args.piece.now in
    let bytes = λ (l : _). bytes_on l turns in
    let events = λ (l : _). events_on l turns in
    let some = given_by c.next_all.new.out.items in
    let fed = c.in_ok-feed.ensures.fed limit bytes events h.0 in
    let before = given_none c.feed.new.self.conns.items limit (behind bytes at piece) events at c.new-events.result.items c.new-events.ensures.items fed in
    let after = c.in-Err.ensures.given limit (behind bytes at piece) events before in
    run_goes_on limit turns at moment piece some h.1 (c.has_completion.ensures limit (behind bytes at piece) (behind events at some) after.0)

pub returns-in-Err-clause-further : goal.returns-in-Err-clause-further
returns-in-Err-clause-further c = λ limit turns begun e h room.
    joined_goes_on limit turns begun c.args.link c.args.piece.now e (returns-in-Err-clause-first c limit (turns ++ begun ∷ []) begun.moment h room)

pub returns-clause-first : goal.returns-clause-first
returns-clause-first c = λ limit turns moment h.
    let at = c.args.link in
    let piece = c.args.piece.now in
    let bytes = λ (l : _). bytes_on l turns in
    let events = λ (l : _). events_on l turns in
    let fed = c.in_ok-feed.ensures.fed limit bytes events h.0 in
    let before = given_none c.feed.new.self.conns.items limit (behind bytes at piece) events at c.new-events.result.items c.new-events.ensures.items fed in
    let after = c.in_default.ensures.given limit (behind bytes at piece) events before in
    let t = turn_of at moment piece c.next_all.new.out.items in
    let settled : Settled limit (bytes_on at turns ++ piece) (events_on at turns ++ t.events) = rw (← behind_same bytes at piece) after.1 in (
      same_stands c.next_all.new.self.conns.items limit _ _ _ _ (bytes_behind turns t) (events_behind turns t) after.0,
      run_both limit [] turns (t ∷ []) h.1 (settled, tt),
    )

pub returns-clause-further : goal.returns-clause-further
returns-clause-further c = λ limit turns begun e h.
    let more = returns-clause-first c limit (turns ++ begun ∷ []) begun.moment h in
    stand_joined c.next_all.new.self.conns.items limit turns begun (turn_of c.args.link begun.moment c.args.piece.now c.next_all.new.out.items) e more
