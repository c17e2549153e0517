use Rattle.std.specs.Prelude.{Some}
use Rattle.turn_hall.specs.Rule.{IsRightValue}
use Rattle.std.proofs.Common.{rules, ◌≡◌, ap, sym, ◌∙◌}
use Rattle.turn_hall.proofs.Tellings.{played_carries, turn_told, unasked, began, right_after}
use Rattle.turn_hall.proofs.Sites.{right_at}
use Rattle.turn_hall.proofs.turn.Hall+T.take_turn.Goals as goal

pub play_in_turn-back-requires-clause-in_hand : goal.play_in_turn-back-requires-clause-in_hand
play_in_turn-back-requires-clause-in_hand g c = let e = c.enter.ensures.entered in (e.0, ap (λ m. m.1) e.1, sym (ap (λ m. m.0.seen) e.1), (right_at g.T.Keeps.site g.T.Keeps.legal g.T.Keeps.history c.args.seat.now.me.0.site (g.T.Keeps.site c.args.self.now.table.shared.key.first.value) e.0.value c.requires.site e.5).0)

pub pass_on-requires-clause-played : goal.pass_on-requires-clause-played
pass_on-requires-clause-played g c = played_carries g.T.Keeps.history (IsRightValue g.T.Keeps.site g.T.Keeps.legal g.T.Keeps.history) (g.T.Keeps.plays (g.T.Keeps.site c.args.self.now.table.shared.key.first.value)) g.T.Keeps.topic g.T.Keeps.adds ((IsRightValue g.T.Keeps.site g.T.Keeps.legal g.T.Keeps.history) (Some (g.T.Keeps.site c.args.self.now.table.shared.key.first.value))) g.T.Keeps.asks c.args.call c.play_in_turn-back.result c.play_in_turn-back.new.seat.me
    (began g.T.Keeps.history (IsRightValue g.T.Keeps.site g.T.Keeps.legal g.T.Keeps.history) (g.T.Keeps.plays (g.T.Keeps.site c.args.self.now.table.shared.key.first.value)) g.T.Keeps.topic g.T.Keeps.adds (g.T.Keeps.asks c.args.call) c.args.seat.now.me.0 c.enter.result c.enter.new.seat.me c.play_in_turn-back.new.seat.me c.requires.asked c.enter.ensures.entered c.play_in_turn-back.ensures.same.2)
    (λ k is. ((g.T.Keeps.site c.args.self.now.table.shared.key.first.value), Rattle.std.proofs.Common.refl, c.play_in_turn-back.ensures.site k is, right_after g.T.Keeps.history (IsRightValue g.T.Keeps.site g.T.Keeps.legal g.T.Keeps.history) (g.T.Keeps.plays (g.T.Keeps.site c.args.self.now.table.shared.key.first.value)) g.T.Keeps.topic g.T.Keeps.adds (g.T.Keeps.legal (g.T.Keeps.site c.args.self.now.table.shared.key.first.value)) (c.keeps_laws.ensures.sounds (g.T.Keeps.site c.args.self.now.table.shared.key.first.value)) c.args.seat.now.me.0 c.enter.result c.enter.new.seat.me c.play_in_turn-back.new.seat.me c.args.call c.play_in_turn-back.result (λ k r. (right_at g.T.Keeps.site g.T.Keeps.legal g.T.Keeps.history c.args.seat.now.me.0.site (g.T.Keeps.site c.args.self.now.table.shared.key.first.value) k.value c.requires.site r).1) c.enter.ensures.entered c.play_in_turn-back.ensures.same.2 c.play_in_turn-back.ensures.played k is))
    c.play_in_turn-back.ensures.played

pub play_in_turn-back-requires-clause-can : goal.play_in_turn-back-requires-clause-can
play_in_turn-back-requires-clause-can g c = let e = c.enter.ensures.entered in
    c.keeps_laws.ensures.stays (g.T.Keeps.site c.args.self.now.table.shared.key.first.value) c.args.seat.now.me.0.seen c.args.call c.enter.new.seat.me.0.seen c.requires.fits (rw (ap (λ m. m.0.seen) e.1) (right_at g.T.Keeps.site g.T.Keeps.legal g.T.Keeps.history c.args.seat.now.me.0.site (g.T.Keeps.site c.args.self.now.table.shared.key.first.value) e.0.value c.requires.site e.5).1) (rw (ap (λ m. m.0.seen) e.1) e.2)
    (unasked g.T.Keeps.history (IsRightValue g.T.Keeps.site g.T.Keeps.legal g.T.Keeps.history) (g.T.Keeps.plays (g.T.Keeps.site c.args.self.now.table.shared.key.first.value)) g.T.Keeps.topic g.T.Keeps.adds (g.T.Keeps.asks c.args.call) c.args.seat.now.me.0 c.enter.result c.enter.new.seat.me c.requires.asked e)

pub returns : goal.returns
returns g c =
    let t = turn_told g.T.Keeps.history (IsRightValue g.T.Keeps.site g.T.Keeps.legal g.T.Keeps.history) (g.T.Keeps.plays (g.T.Keeps.site c.args.self.now.table.shared.key.first.value)) g.T.Keeps.topic g.T.Keeps.adds (c.keeps_laws.ensures.grows (g.T.Keeps.site c.args.self.now.table.shared.key.first.value)) (g.T.Keeps.legal (g.T.Keeps.site c.args.self.now.table.shared.key.first.value)) (c.keeps_laws.ensures.sounds (g.T.Keeps.site c.args.self.now.table.shared.key.first.value)) c.args.seat.now.me.0 c.enter.result c.pass_on.result c.enter.new.seat.me c.play_in_turn-back.new.seat.me c.pass_on.new.seat.me
    c.args.call c.play_in_turn-back.result c.requires.rest.3 c.enter.ensures.low (λ k r. (right_at g.T.Keeps.site g.T.Keeps.legal g.T.Keeps.history c.args.seat.now.me.0.site (g.T.Keeps.site c.args.self.now.table.shared.key.first.value) k.value c.requires.site r).1) c.enter.ensures.entered c.play_in_turn-back.ensures.same.2 c.play_in_turn-back.ensures.played c.pass_on.ensures.was c.pass_on.ensures.gone in
    record {
      same = (c.pass_on.ensures.same.0 ∙ (c.play_in_turn-back.ensures.same.0 ∙ c.enter.ensures.same.0), c.pass_on.ensures.same.1 ∙ (c.play_in_turn-back.ensures.same.1 ∙ c.enter.ensures.same.1));
      rest = t.0;
      turn = t.1;
      rises = c.pass_on.ensures.rises;
    }
