use Rattle.std.proofs.Common.{◌≡◌, ◌+◌, ◌∷◌, [], List, ℕ, length, length-append, arith, subst, sym}
use Rattle.sum_trees.specs.Forests.{AreNowhere}
use Rattle.sum_trees.proofs.Grown.{nowhere_more}
use Rattle.sum_trees.proofs.forest.empty_roots.Goals as goal

pub loop-preserved : goal.loop-preserved
loop-preserved c =
    let many : length c.loop.roots.items ≡ c.loop.counter = c.loop.invariant.many in
    subst (λ (l : List ℕ). AreNowhere (c.loop.counter + 1) l) (sym c.in_ok-push.ensures.items) (record {
      many = omega (arith, length-append c.loop.roots.items (4294967295 ∷ []));
      nowhere = nowhere_more c.loop.roots.items c.loop.invariant.nowhere;
    })
