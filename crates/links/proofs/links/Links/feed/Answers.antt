use Rattle.std.proofs.Common.{◌≡◌, ◌<◌, length, arith, refl, ◌∙◌}
use Rattle.std.specs.Prelude.{Some, slice_get}
use Rattle.std.proofs.lemmas.Option.{slice_get_read}
use Rattle.links.proofs.Elements.{got_other, each_result}
use Rattle.links.proofs.Standing.{fed_after, same_after, roomy}
use Rattle.links.proofs.links.Links.feed.Goals as goal

pub returns-clause-fed : goal.returns-clause-fed
returns-clause-fed c = λ limit fed given stand.
    let links = c.args.self.now in
    let at = c.args.link in
    let new = c.feed.new.self in
    let within : at < length links.conns.items = omega (arith, links.count, links.conns.ok.0) in
    let was : slice_get links.conns.items at ≡ Some c.index_mut.result.now = slice_get_read _ _ _ _ refl within c.index_mut.ensures.value in
    let old = stand at c.index_mut.result.now was in
    let same = c.feed.ensures.limit ∙ old.limit_is in
    each_result c.feed.result (c.feed.ensures.fed (fed at) (given at) old.stands)
    (λ h. fed_after links.conns.items at new limit fed given c.args.piece.now within stand (record { limit_is = same; stands = h }))
    (λ h. same_after links.conns.items at new limit fed given within stand (record { limit_is = same; stands = h }))

pub returns-clause-fits : goal.returns-clause-fits
returns-clause-fits c = λ room.
    let links = c.args.self.now in
    let at = c.args.link in
    let within : at < length links.conns.items = omega (arith, links.count, links.conns.ok.0) in
    let was : slice_get links.conns.items at ≡ Some c.index_mut.result.now = slice_get_read _ _ _ _ refl within c.index_mut.ensures.value in
    c.feed.ensures.fits (roomy _ c.index_mut.result.now (length c.args.piece.now) was room)

pub returns-clause-others : goal.returns-clause-others
returns-clause-others c = λ other apart. got_other c.args.self.now.conns.items c.args.link other c.feed.new.self apart
