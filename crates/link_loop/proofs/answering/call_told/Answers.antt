use Rattle.std.proofs.Common.{refl, sym, subst, length}
use Rattle.turn_hall.specs.Handles.{view}
use Rattle.turn_hall.specs.Calls.{made_in}
use Rattle.link_loop.proofs.Lists.{begins_itself}
use Rattle.link_loop.proofs.Handling.{says_so}
use Rattle.link_loop.proofs.answering.call_told.Goals as goal

pub told-requires : goal.told-requires
told-requires g c =
    let t = c.turn-back.ensures.turn in
    c.requires.free.told t.before (view c.turn-back.new.pass).seen c.turn-back.result (subst (λ x. g.T.Keeps.legal x t.before) (sym c.requires.site) t.was_legal)
    (subst (λ x. g.T.Keeps.plays x t.before c.args.call c.turn-back.result (view c.turn-back.new.pass).seen) (sym c.requires.site) t.played)

pub returns-clause-made : goal.returns-clause-made
returns-clause-made g c =
    let t = c.turn-back.ensures.turn in (
      made_in t.turn (length t.before) c.args.call c.turn-back.result,
      refl,
      t.mine,
      record {
        before = t.before;
        later = (view c.turn-back.new.pass).seen;
        was_legal = subst (λ x. g.T.Keeps.legal x t.before) (sym c.requires.site) t.was_legal;
        place = refl;
        played = subst (λ x. g.T.Keeps.plays x t.before c.args.call c.turn-back.result (view c.turn-back.new.pass).seen) (sym c.requires.site) t.played;
        onward = t.onward;
        known = begins_itself (view c.turn-back.new.pass).seen;
      },
      says_so (g.F.Front.says (g.F.Front.site c.args.front.now) c.turn-back.result c.args.close) c.told.result c.told.ensures.told c.told.ensures.stop,
    )
