use Rattle.std.proofs.Common.{◌≡◌, ◌∙◌, ◌+◌, ◌<◌, ◌∷◌, [], ◌&&◌, length, ap, arith}
use Rattle.std.specs.Prelude.{filter}
use Rattle.part_model.specs.Held.{prefix_of}
use Rattle.sum_trees.specs.Forests.{items_in}
use Rattle.disk_buffer.specs.declared.row.Row.{Row}
use Rattle.disk_buffer.specs.Rows.{has_wanted, own_readiness, row_before}
use Rattle.disk_buffer.specs.Walks.{ended_by, lacking_behind, rest_from, sought}
use Rattle.disk_buffer.proofs.Walked.{first_rest, counted_step, none_taken, none_rest, taken_fits, rest_at, wanted_at}
use Rattle.disk_buffer.proofs.walks.count_passing.Goals as goal

pub returns-in_default : goal.returns-in_default
returns-in_default c =
    let none : length (prefix_of c.loop-taken.taken.lacking (ended_by c.args.at (rest_from (wanted_at c.args.at) (items_in c.args.forest.now.trees 0) c.loop-taken.next))) ≡ 0 = ap length (none_rest c.loop-taken.taken.lacking c.args.at (wanted_at c.args.at) (items_in c.args.forest.now.trees 0) c.loop-taken.next c.in_default.is) in
    let e : length (prefix_of c.args.lacking (ended_by c.args.at (sought (wanted_at c.args.at) (items_in c.args.forest.now.trees 0)))) ≡ length (prefix_of c.args.lacking (ended_by c.args.at (rest_from (wanted_at c.args.at) (items_in c.args.forest.now.trees 0) c.first_passing-next.result))) = ap (λ l. length (prefix_of c.args.lacking (ended_by c.args.at l))) (first_rest (wanted_at c.args.at) (items_in c.args.forest.now.trees 0) c.first_passing-next.result c.first_passing-next.ensures.sorted c.first_passing-next.ensures.first) in
    omega (arith, c.loop-taken.invariant)

pub count_one-taken-requires-clause-fits : goal.count_one-taken-requires-clause-fits
count_one-taken-requires-clause-fits c =
    let e : length (prefix_of c.loop-taken.taken.lacking (ended_by c.args.at (rest_from (wanted_at c.args.at) (items_in c.args.forest.now.trees 0) c.loop-taken.next))) ≡ length (prefix_of c.loop-taken.taken.lacking (ended_by c.args.at (c.in-Some.row ∷ []))) + length (prefix_of (lacking_behind c.args.at c.in-Some.row c.loop-taken.taken.lacking) (ended_by c.args.at (filter (λ (z : Row). row_before c.in-Some.row z && has_wanted (wanted_at c.args.at) (own_readiness z)) (items_in c.args.forest.now.trees 0)))) =
    ap (λ o. length (prefix_of c.loop-taken.taken.lacking (ended_by c.args.at (rest_from (wanted_at c.args.at) (items_in c.args.forest.now.trees 0) o)))) c.in-Some.is ∙ counted_step c.args.at c.loop-taken.taken.lacking c.in-Some.row (filter (λ (z : Row). row_before c.in-Some.row z && has_wanted (wanted_at c.args.at) (own_readiness z)) (items_in c.args.forest.now.trees 0)) c.loop-taken-test.true in
    let f : length (prefix_of c.args.lacking (ended_by c.args.at (sought (wanted_at c.args.at) (items_in c.args.forest.now.trees 0)))) ≡ length (prefix_of c.args.lacking (ended_by c.args.at (rest_from (wanted_at c.args.at) (items_in c.args.forest.now.trees 0) c.first_passing-next.result))) = ap (λ l. length (prefix_of c.args.lacking (ended_by c.args.at l))) (first_rest (wanted_at c.args.at) (items_in c.args.forest.now.trees 0) c.first_passing-next.result c.first_passing-next.ensures.sorted c.first_passing-next.ensures.first) in
    let most = taken_fits (wanted_at c.args.at) c.args.at c.args.lacking (items_in c.args.forest.now.trees 0) c.sum-sum.ensures.few in
    omega (arith, c.loop-taken.invariant)

pub loop-taken-smaller : goal.loop-taken-smaller
loop-taken-smaller c =
    let e : length (rest_from (wanted_at c.args.at) (items_in c.args.forest.now.trees 0) c.loop-taken.next) ≡ length (c.in-Some.row ∷ (rest_from (wanted_at c.args.at) (items_in c.args.forest.now.trees 0) c.next_passing-next.result)) = ap length (rest_at (wanted_at c.args.at) (items_in c.args.forest.now.trees 0) c.in-Some.row c.loop-taken.next c.next_passing-next.result c.in-Some.is c.next_passing-next.ensures.sorted c.next_passing-next.ensures.next) in
    let less : length (rest_from (wanted_at c.args.at) (items_in c.args.forest.now.trees 0) c.next_passing-next.result) < length (rest_from (wanted_at c.args.at) (items_in c.args.forest.now.trees 0) c.loop-taken.next) = omega arith in
    less

pub loop-taken-preserved : goal.loop-taken-preserved
loop-taken-preserved c =
    let e : length (prefix_of c.loop-taken.taken.lacking (ended_by c.args.at (rest_from (wanted_at c.args.at) (items_in c.args.forest.now.trees 0) c.loop-taken.next))) ≡ length (prefix_of c.loop-taken.taken.lacking (ended_by c.args.at (c.in-Some.row ∷ []))) + length (prefix_of (lacking_behind c.args.at c.in-Some.row c.loop-taken.taken.lacking) (ended_by c.args.at (rest_from (wanted_at c.args.at) (items_in c.args.forest.now.trees 0) c.next_passing-next.result))) =
    ap (λ l. length (prefix_of c.loop-taken.taken.lacking (ended_by c.args.at l))) (rest_at (wanted_at c.args.at) (items_in c.args.forest.now.trees 0) c.in-Some.row c.loop-taken.next c.next_passing-next.result c.in-Some.is c.next_passing-next.ensures.sorted c.next_passing-next.ensures.next) ∙ counted_step c.args.at c.loop-taken.taken.lacking c.in-Some.row (rest_from (wanted_at c.args.at) (items_in c.args.forest.now.trees 0) c.next_passing-next.result) c.loop-taken-test.true in
    let n : length (prefix_of c.count_one-taken.result.lacking (ended_by c.args.at (rest_from (wanted_at c.args.at) (items_in c.args.forest.now.trees 0) c.next_passing-next.result))) ≡ length (prefix_of (lacking_behind c.args.at c.in-Some.row c.loop-taken.taken.lacking) (ended_by c.args.at (rest_from (wanted_at c.args.at) (items_in c.args.forest.now.trees 0) c.next_passing-next.result))) = ap (λ m. length (prefix_of m (ended_by c.args.at (rest_from (wanted_at c.args.at) (items_in c.args.forest.now.trees 0) c.next_passing-next.result)))) c.count_one-taken.ensures.lacking in
    omega (arith, c.loop-taken.invariant, c.count_one-taken.ensures.count)

pub returns : goal.returns
returns c =
    let none : length (prefix_of c.loop-taken.taken.lacking (ended_by c.args.at (rest_from (wanted_at c.args.at) (items_in c.args.forest.now.trees 0) c.loop-taken.next))) ≡ 0 = ap length (none_taken c.loop-taken.taken.lacking c.args.at (rest_from (wanted_at c.args.at) (items_in c.args.forest.now.trees 0) c.loop-taken.next) c.loop-taken-test.false) in
    let e : length (prefix_of c.args.lacking (ended_by c.args.at (sought (wanted_at c.args.at) (items_in c.args.forest.now.trees 0)))) ≡ length (prefix_of c.args.lacking (ended_by c.args.at (rest_from (wanted_at c.args.at) (items_in c.args.forest.now.trees 0) c.first_passing-next.result))) = ap (λ l. length (prefix_of c.args.lacking (ended_by c.args.at l))) (first_rest (wanted_at c.args.at) (items_in c.args.forest.now.trees 0) c.first_passing-next.result c.first_passing-next.ensures.sorted c.first_passing-next.ensures.first) in
    omega (arith, c.loop-taken.invariant)
