use Rattle.std.proofs.Common.{◌≡◌, ◌+◌, length, arith}
use Rattle.sum_trees.proofs.Grown.{spare_root, can_put, was_put, found_one}
use Rattle.sum_trees.proofs.grove.put_in.Goals as goal

pub find_place-found-requires : goal.find_place-found-requires
find_place-found-requires g c = record {
  tree = spare_root g.T.Summed.sums g.T.Summed.before c.args.nodes.now.items c.args.roots.now c.args.spares c.requires.grove;
  room = omega (arith, c.requires.grove.counted, c.requires.room);
}

pub enter_tree-root-requires : goal.enter_tree-root-requires
enter_tree-root-requires g c = can_put g.T.Summed.sums g.T.Summed.before c.args.nodes.now.items c.find_place-found.new.nodes.items c.args.roots.now c.args.spares c.find_place-found.result c.args.tree c.args.item c.requires.grove c.requires.tree c.find_place-found.ensures.found

pub returns-clause-grove : goal.returns-clause-grove
returns-clause-grove g c = was_put g.T.Summed.sums (record { one_way = g.met.T.Summed.one_way; splits = g.met.T.Summed.splits }) c.args.nodes.now.items c.find_place-found.new.nodes.items c.enter_tree-root.new.nodes.items c.args.roots.now c.args.spares c.find_place-found.result c.args.tree c.args.item c.enter_tree-root.result c.requires.grove c.requires.tree c.find_place-found.ensures.found c.requires.lacks c.enter_tree-root.ensures.length c.enter_tree-root.ensures.entered

pub returns-clause-room : goal.returns-clause-room
returns-clause-room g c =
    let one : c.args.spares.count + length c.find_place-found.new.nodes.items ≡ c.find_place-found.result.spares.count + length c.args.nodes.now.items + 1 = found_one g.T.Summed.sums g.T.Summed.before c.args.nodes.now.items c.find_place-found.new.nodes.items c.args.roots.now c.args.spares c.find_place-found.result c.requires.grove c.find_place-found.ensures.found in
    omega arith
