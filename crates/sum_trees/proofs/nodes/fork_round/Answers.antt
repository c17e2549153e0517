use Rattle.std.proofs.Common.{◌≡◌, ◌+◌, ◌≤◌, ◌∷◌, ap, length, arith, length-append}
use Rattle.std.specs.Prelude.{max, option_map}
use Rattle.sum_trees.specs.Nodes.{height_at, height_in, sum_at}
use Rattle.sum_trees.specs.Around.{around}
use Rattle.sum_trees.proofs.Places.{place_within}
use Rattle.sum_trees.proofs.Standing.{height_is_most}
use Rattle.sum_trees.proofs.Forks.{forked}
use Rattle.sum_trees.proofs.nodes.fork_round.Goals as goal

pub overflow_add-height : goal.overflow_add-height
overflow_add-height g c =
    let low = c.requires.fork.0 in
    let high = c.requires.fork.1 in
    let p = c.requires.fork.2 in
    let l : height_at c.args.nodes.now c.args.left ≤ length low = height_is_most p.left_tree in
    let r : height_at c.args.nodes.now c.args.right ≤ length high = height_is_most p.right_tree in
    let before : height_in c.args.before.now ≡ height_at c.args.nodes.now c.args.left = ap height_in c.requires.left in
    let after : height_in c.args.after.now ≡ height_at c.args.nodes.now c.args.right = ap height_in c.requires.right in
    omega (arith, length-append low ((c.args.at, c.args.item) ∷ high))

pub put-requires : goal.put-requires
put-requires g c = place_within _ _ c.requires.fork.2.is_place

pub returns : goal.returns
returns g c =
    let low : height_in c.args.before.now ≡ height_at c.args.nodes.now c.args.left = ap height_in c.requires.left in
    let high : height_in c.args.after.now ≡ height_at c.args.nodes.now c.args.right = ap height_in c.requires.right in
    let first : option_map (λ n. n.sum) c.args.before.now ≡ sum_at c.args.nodes.now c.args.left = ap (option_map (λ n. n.sum)) c.requires.left in
    let last : option_map (λ n. n.sum) c.args.after.now ≡ sum_at c.args.nodes.now c.args.right = ap (option_map (λ n. n.sum)) c.requires.right in
    let h : c.max-height.result + 1 ≡ max (height_at c.args.nodes.now c.args.left) (height_at c.args.nodes.now c.args.right) + 1 = cc in
    let s : c.sum_around-sum.result ≡ around g.T.Summed.sums (sum_at c.args.nodes.now c.args.left) c.args.item (sum_at c.args.nodes.now c.args.right) = cc in
    forked g.T.Summed.sums g.met.T.Summed.joins c.args.nodes.now c.put.new.nodes c.args.at c.args.item c.args.left c.args.right (c.max-height.result + 1) c.sum_around-sum.result c.put.ensures h s
