use Rattle.std.proofs.Common.{◌≡◌, ◌<◌, length, arith, refl, ◌∙◌}
use Rattle.std.specs.Prelude.{Some, slice_get}
use Rattle.std.proofs.lemmas.Option.{slice_get_read}
use Rattle.links.proofs.Elements.{got_same, got_other}
use Rattle.links.proofs.Standing.{same_after, roomy_after}
use Rattle.links.proofs.links.Links.reserve.Goals as goal

pub returns-clause-stands : goal.returns-clause-stands
returns-clause-stands c = λ limit fed given stand.
    let links = c.args.self.now in
    let at = c.args.link in
    let within : at < length links.conns.items = omega (arith, links.count, links.conns.ok.0) in
    let was : slice_get links.conns.items at ≡ Some c.index_mut.result.now = slice_get_read _ _ _ _ refl within c.index_mut.ensures.value in
    let old = stand at c.index_mut.result.now was in
    same_after links.conns.items at c.reserve.new.self limit fed given within stand
    (record { limit_is = c.reserve.ensures.limit ∙ old.limit_is; stands = c.reserve.ensures.stands (fed at) (given at) old.stands })

pub returns-clause-room : goal.returns-clause-room
returns-clause-room c =
    let links = c.args.self.now in
    let at = c.args.link in
    let within : at < length links.conns.items = omega (arith, links.count, links.conns.ok.0) in
    roomy_after c.reserve.result _ c.reserve.new.self c.args.more (got_same links.conns.items at c.reserve.new.self within) c.reserve.ensures.room

pub returns-clause-others : goal.returns-clause-others
returns-clause-others c = λ other apart. got_other c.args.self.now.conns.items c.args.link other c.reserve.new.self apart
