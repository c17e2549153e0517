use Rattle.std.proofs.Common.{◌≡◌, ◌<◌, length, arith}
use Rattle.sum_trees.specs.Searches.{entries_at}
use Rattle.sum_trees.proofs.Grown.{none_spare, found_spare, found_new}
use Rattle.sum_trees.proofs.grove.find_place.Goals as goal

pub overflow_cast-place : goal.overflow_cast-place
overflow_cast-place g c =
    let none : length (entries_at c.args.nodes.now.items c.args.spares.root) ≡ 0 = none_spare g.T.Summed.sums c.args.nodes.now.items c.cut_spare.new.nodes.items c.args.spares.root c.requires.tree c.in-None.ensures.cut in
    omega (arith, c.in-None.ensures.len)

pub unreachable-requires : goal.unreachable-requires
unreachable-requires g c =
    let none : length (entries_at c.args.nodes.now.items c.args.spares.root) ≡ 0 = none_spare g.T.Summed.sums c.args.nodes.now.items c.cut_spare.new.nodes.items c.args.spares.root c.requires.tree c.in-None.ensures.cut in
    omega (arith, c.in-None.ensures.len, c.in-None.ensures.capacity, c.in-Err.ensures.full)

pub returns-in-Some-clause-found : goal.returns-in-Some-clause-found
returns-in-Some-clause-found g c = found_spare g.T.Summed.sums c.args.nodes.now.items c.cut_spare.new.nodes.items c.args.spares.root c.args.spares.count c.saturating_sub.result c.in-Some.cut c.in-Some.ensures.length c.saturating_sub.ensures c.in-Some.ensures.cut

pub returns-in-Ok-clause-found : goal.returns-in-Ok-clause-found
returns-in-Ok-clause-found g c =
    let none : length (entries_at c.args.nodes.now.items c.args.spares.root) ≡ 0 = none_spare g.T.Summed.sums c.args.nodes.now.items c.cut_spare.new.nodes.items c.args.spares.root c.requires.tree c.in-None.ensures.cut in
    let few : length c.args.nodes.now.items < 4294967295 = omega (arith, c.in-None.ensures.len, c.in-None.ensures.length, c.in-None.ensures.items) in
    let at : c.len-place.result ≡ length c.args.nodes.now.items = omega (arith, c.in-None.ensures.len, c.in-None.ensures.length, c.in-None.ensures.items) in
    found_new g.T.Summed.sums c.args.nodes.now.items c.cut_spare.new.nodes.items c.push.new.self.items _ c.args.spares.root c.args.spares.count c.len-place.result few at c.in-Ok.ensures.items c.in-None.ensures.cut
