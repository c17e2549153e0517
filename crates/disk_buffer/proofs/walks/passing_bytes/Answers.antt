use Rattle.std.proofs.Common.{◌≡◌, ◌∙◌, ◌+◌, ◌<◌, ◌∷◌, [], ◌&&◌, length, ap, arith}
use Rattle.std.specs.Prelude.{filter}
use Rattle.part_model.specs.Held.{bytes_of}
use Rattle.sum_trees.specs.Forests.{items_in}
use Rattle.disk_buffer.specs.declared.row.Row.{Row}
use Rattle.disk_buffer.specs.Rows.{has_wanted, own_readiness, row_before}
use Rattle.disk_buffer.specs.Walks.{ended_by, rest_from, sought}
use Rattle.disk_buffer.proofs.Walked.{first_rest, sought_fits, rest_at, bytes_step}
use Rattle.disk_buffer.proofs.walks.passing_bytes.Goals as goal

pub loop-next-init : goal.loop-next-init
loop-next-init c =
    let e : bytes_of (ended_by c.args.wanted.at (sought c.args.wanted (items_in c.args.forest.now.trees 0))) ≡ bytes_of (ended_by c.args.wanted.at (rest_from c.args.wanted (items_in c.args.forest.now.trees 0) c.first_passing-next.result)) = ap (λ l. bytes_of (ended_by c.args.wanted.at l)) (first_rest c.args.wanted (items_in c.args.forest.now.trees 0) c.first_passing-next.result c.first_passing-next.ensures.sorted c.first_passing-next.ensures.first) in
    omega arith

pub overflow_add-total : goal.overflow_add-total
overflow_add-total c =
    let e : bytes_of (ended_by c.args.wanted.at (rest_from c.args.wanted (items_in c.args.forest.now.trees 0) c.loop-next.next)) ≡ bytes_of (ended_by c.args.wanted.at (c.in-Some.row ∷ [])) + bytes_of (ended_by c.args.wanted.at (filter (λ (z : Row). row_before c.in-Some.row z && has_wanted c.args.wanted (own_readiness z)) (items_in c.args.forest.now.trees 0))) = ap (λ o. bytes_of (ended_by c.args.wanted.at (rest_from c.args.wanted (items_in c.args.forest.now.trees 0) o))) c.in-Some.is ∙ bytes_step c.args.wanted.at c.in-Some.row (filter (λ (z : Row). row_before c.in-Some.row z && has_wanted c.args.wanted (own_readiness z)) (items_in c.args.forest.now.trees 0)) in
    let most = sought_fits c.args.wanted c.args.wanted.at (items_in c.args.forest.now.trees 0) in
    let whole : c.loop-next.total + bytes_of (ended_by c.args.wanted.at (rest_from c.args.wanted (items_in c.args.forest.now.trees 0) c.loop-next.next)) ≡ bytes_of (ended_by c.args.wanted.at (sought c.args.wanted (items_in c.args.forest.now.trees 0))) = c.loop-next.invariant in
    let one : c.len_by-total.result ≡ bytes_of (ended_by c.args.wanted.at (c.in-Some.row ∷ [])) = c.len_by-total.ensures in
    omega (arith, c.requires.fits)

pub loop-next-smaller : goal.loop-next-smaller
loop-next-smaller c =
    let e : length (rest_from c.args.wanted (items_in c.args.forest.now.trees 0) c.loop-next.next) ≡ length (c.in-Some.row ∷ rest_from c.args.wanted (items_in c.args.forest.now.trees 0) c.next_passing-next.result) = ap length (rest_at c.args.wanted (items_in c.args.forest.now.trees 0) c.in-Some.row c.loop-next.next c.next_passing-next.result c.in-Some.is c.next_passing-next.ensures.sorted c.next_passing-next.ensures.next) in
    let less : length (rest_from c.args.wanted (items_in c.args.forest.now.trees 0) c.next_passing-next.result) < length (rest_from c.args.wanted (items_in c.args.forest.now.trees 0) c.loop-next.next) = omega arith in
    less

pub loop-next-preserved : goal.loop-next-preserved
loop-next-preserved c =
    let e : bytes_of (ended_by c.args.wanted.at (rest_from c.args.wanted (items_in c.args.forest.now.trees 0) c.loop-next.next)) ≡ bytes_of (ended_by c.args.wanted.at (c.in-Some.row ∷ [])) + bytes_of (ended_by c.args.wanted.at (rest_from c.args.wanted (items_in c.args.forest.now.trees 0) c.next_passing-next.result)) =
    ap (λ l. bytes_of (ended_by c.args.wanted.at l)) (rest_at c.args.wanted (items_in c.args.forest.now.trees 0) c.in-Some.row c.loop-next.next c.next_passing-next.result c.in-Some.is c.next_passing-next.ensures.sorted c.next_passing-next.ensures.next) ∙ bytes_step c.args.wanted.at c.in-Some.row (rest_from c.args.wanted (items_in c.args.forest.now.trees 0) c.next_passing-next.result) in
    let whole : c.loop-next.total + bytes_of (ended_by c.args.wanted.at (rest_from c.args.wanted (items_in c.args.forest.now.trees 0) c.loop-next.next)) ≡ bytes_of (ended_by c.args.wanted.at (sought c.args.wanted (items_in c.args.forest.now.trees 0))) = c.loop-next.invariant in
    let one : c.len_by-total.result ≡ bytes_of (ended_by c.args.wanted.at (c.in-Some.row ∷ [])) = c.len_by-total.ensures in
    omega arith
