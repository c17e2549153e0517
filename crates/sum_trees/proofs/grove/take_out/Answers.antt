use Rattle.std.proofs.Common.{◌<◌, ◌+◌, ◌^◌, refl, arith}
use Rattle.sum_trees.proofs.Grown.{grove_root, taken_fits, can_spare, was_taken, had_like, had_none, was_not_taken}
use Rattle.sum_trees.proofs.grove.take_out.Goals as goal

pub cut_like-requires : goal.cut_like-requires
cut_like-requires g c = grove_root g.T.Summed.sums g.T.Summed.before c.args.nodes.now c.args.roots.now c.args.spares c.args.tree c.requires.grove c.requires.tree

pub lay-requires : goal.lay-requires
lay-requires g c = can_spare g.T.Summed.sums g.T.Summed.before c.args.nodes.now c.cut_like.new.nodes c.args.roots.now c.args.spares c.args.tree c.args.like c.in-Some.cut c.requires.grove c.requires.tree c.cut_like.auto.nodes c.in-Some.ensures

pub overflow_add-result : goal.overflow_add-result
overflow_add-result g c = let fits : c.args.spares.count + 1 < 2 ^ 32 = taken_fits g.T.Summed.sums g.T.Summed.before c.args.nodes.now c.cut_like.new.nodes c.args.roots.now c.args.spares c.args.tree c.args.like c.in-Some.cut c.requires.grove c.requires.tree c.cut_like.auto.nodes c.in-Some.ensures in omega arith

pub returns-in-None-clause-grove : goal.returns-in-None-clause-grove
returns-in-None-clause-grove g c = was_not_taken g.T.Summed.sums g.T.Summed.before c.args.nodes.now c.cut_like.new.nodes c.args.roots.now c.args.spares c.args.tree c.args.like c.requires.grove c.requires.tree c.in-None.ensures

pub returns-in-None-clause-had : goal.returns-in-None-clause-had
returns-in-None-clause-had g c = had_none g.T.Summed.sums g.T.Summed.before c.args.nodes.now c.cut_like.new.nodes c.args.roots.now c.args.spares c.args.tree c.args.like c.requires.grove c.requires.tree c.in-None.ensures

pub returns-in-Some-clause-grove : goal.returns-in-Some-clause-grove
returns-in-Some-clause-grove g c = was_taken g.T.Summed.sums (record { one_way = g.met.T.Summed.one_way; splits = g.met.T.Summed.splits }) c.args.nodes.now c.cut_like.new.nodes c.lay.new.nodes c.args.roots.now c.args.spares.root c.args.spares.count (c.args.spares.count + 1) c.args.tree c.args.like c.in-Some.cut c.requires.grove c.requires.tree c.cut_like.auto.nodes c.in-Some.ensures c.lay.auto.nodes c.lay.ensures refl

pub returns-in-Some-clause-had : goal.returns-in-Some-clause-had
returns-in-Some-clause-had g c = had_like g.T.Summed.sums g.T.Summed.before c.args.nodes.now c.cut_like.new.nodes c.args.roots.now c.args.spares c.args.tree c.args.like c.in-Some.cut c.requires.grove c.requires.tree c.in-Some.ensures
