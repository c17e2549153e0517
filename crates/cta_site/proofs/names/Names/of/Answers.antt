use Rattle.std.proofs.Common.{◌≡◌, ◌<◌, length}
use Rattle.cta_site.proofs.Sets.{set_more}
use Rattle.cta_site.proofs.names.Names.of.Goals as goal

pub loop-name-preserved : goal.loop-name-preserved
loop-name-preserved c =
    let same : c.deref-name-items.result.now ≡ c.args.names.items = c.deref-name-items.ensures.value in
    let low : c.loop-name.name-index < length c.args.names.items = rw same at c.loop-name-test.true in
    let updates = rw same at c.in_ok-insert.ensures.updates in
    set_more c.args.names.items c.loop-name.name-index c.loop-name.known c.insert.new.self low updates c.loop-name.invariant
