use Rattle.std.proofs.Common.{◌≡◌, ◌∙◌, ◌+◌, ◌<◌, ◌++◌, ◌∷◌, [], ◌&&◌, length, refl, sym, ap, arith, append-nil}
use Rattle.std.specs.Prelude.{filter}
use Rattle.part_model.specs.Held.{numbers, prefix_of}
use Rattle.sum_trees.specs.Forests.{items_in}
use Rattle.disk_buffer.specs.declared.row.Row.{Row}
use Rattle.disk_buffer.specs.Rows.{has_wanted, own_readiness, row_before}
use Rattle.disk_buffer.specs.Walks.{ended_by, lacking_behind, rest_from, sought}
use Rattle.disk_buffer.proofs.Walked.{first_rest, listed_step, counted_step, none_taken, none_rest, rest_at, wanted_at}
use Rattle.disk_buffer.proofs.walks.list_passing.Goals as goal

pub loop-lacking-init : goal.loop-lacking-init
loop-lacking-init c = (
  refl,
  (let e : length (prefix_of c.args.lacking (ended_by c.args.at (sought (wanted_at c.args.at) (items_in c.args.forest.now.trees 0)))) ≡ length (prefix_of c.args.lacking (ended_by c.args.at (rest_from (wanted_at c.args.at) (items_in c.args.forest.now.trees 0) c.first_passing-next.result))) = ap (λ l. length (prefix_of c.args.lacking (ended_by c.args.at l))) (first_rest (wanted_at c.args.at) (items_in c.args.forest.now.trees 0) c.first_passing-next.result c.first_passing-next.ensures.sorted c.first_passing-next.ensures.first) in
      omega (arith, c.requires.room)),
)

pub returns-in_default : goal.returns-in_default
returns-in_default c =
    sym (append-nil c.loop-lacking.out.items)
    ∙ ap (λ p. c.loop-lacking.out.items ++ numbers p) (sym (none_rest c.loop-lacking.lacking c.args.at (wanted_at c.args.at) (items_in c.args.forest.now.trees 0) c.loop-lacking.next c.in_default.is))
    ∙ c.loop-lacking.invariant.0
    ∙ ap (λ l. c.args.out.now.items ++ numbers (prefix_of c.args.lacking (ended_by c.args.at l))) (sym (first_rest (wanted_at c.args.at) (items_in c.args.forest.now.trees 0) c.first_passing-next.result c.first_passing-next.ensures.sorted c.first_passing-next.ensures.first))

pub list_one-requires-clause-room : goal.list_one-requires-clause-room
list_one-requires-clause-room c =
    let e : length (prefix_of c.loop-lacking.lacking (ended_by c.args.at (rest_from (wanted_at c.args.at) (items_in c.args.forest.now.trees 0) c.loop-lacking.next))) ≡ length (prefix_of c.loop-lacking.lacking (ended_by c.args.at (c.in-Some.row ∷ []))) + length (prefix_of (lacking_behind c.args.at c.in-Some.row c.loop-lacking.lacking) (ended_by c.args.at (filter (λ (z : Row). row_before c.in-Some.row z && has_wanted (wanted_at c.args.at) (own_readiness z)) (items_in c.args.forest.now.trees 0)))) =
    ap (λ o. length (prefix_of c.loop-lacking.lacking (ended_by c.args.at (rest_from (wanted_at c.args.at) (items_in c.args.forest.now.trees 0) o)))) c.in-Some.is ∙ counted_step c.args.at c.loop-lacking.lacking c.in-Some.row (filter (λ (z : Row). row_before c.in-Some.row z && has_wanted (wanted_at c.args.at) (own_readiness z)) (items_in c.args.forest.now.trees 0)) c.loop-lacking-test.true in
    omega (arith, c.loop-lacking.invariant.1)

pub loop-lacking-smaller : goal.loop-lacking-smaller
loop-lacking-smaller c =
    let e : length (rest_from (wanted_at c.args.at) (items_in c.args.forest.now.trees 0) c.loop-lacking.next) ≡ length (c.in-Some.row ∷ (rest_from (wanted_at c.args.at) (items_in c.args.forest.now.trees 0) c.next_passing-next.result)) = ap length (rest_at (wanted_at c.args.at) (items_in c.args.forest.now.trees 0) c.in-Some.row c.loop-lacking.next c.next_passing-next.result c.in-Some.is c.next_passing-next.ensures.sorted c.next_passing-next.ensures.next) in
    let less : length (rest_from (wanted_at c.args.at) (items_in c.args.forest.now.trees 0) c.next_passing-next.result) < length (rest_from (wanted_at c.args.at) (items_in c.args.forest.now.trees 0) c.loop-lacking.next) = omega arith in
    less

pub loop-lacking-preserved : goal.loop-lacking-preserved
loop-lacking-preserved c = (
  ap (λ n. c.list_one.new.out.items ++ numbers (prefix_of n (ended_by c.args.at (rest_from (wanted_at c.args.at) (items_in c.args.forest.now.trees 0) c.next_passing-next.result)))) c.lacking_behind-lacking.ensures
      ∙ listed_step c.args.at c.loop-lacking.lacking c.in-Some.row (rest_from (wanted_at c.args.at) (items_in c.args.forest.now.trees 0) c.next_passing-next.result) c.loop-lacking.out.items c.list_one.new.out.items c.loop-lacking-test.true c.list_one.ensures.out
      ∙ ap (λ l. c.loop-lacking.out.items ++ numbers (prefix_of c.loop-lacking.lacking (ended_by c.args.at l))) (sym (rest_at (wanted_at c.args.at) (items_in c.args.forest.now.trees 0) c.in-Some.row c.loop-lacking.next c.next_passing-next.result c.in-Some.is c.next_passing-next.ensures.sorted c.next_passing-next.ensures.next))
      ∙ c.loop-lacking.invariant.0,
  (let e : length (prefix_of c.loop-lacking.lacking (ended_by c.args.at (rest_from (wanted_at c.args.at) (items_in c.args.forest.now.trees 0) c.loop-lacking.next))) ≡ length (prefix_of c.loop-lacking.lacking (ended_by c.args.at (c.in-Some.row ∷ []))) + length (prefix_of (lacking_behind c.args.at c.in-Some.row c.loop-lacking.lacking) (ended_by c.args.at (rest_from (wanted_at c.args.at) (items_in c.args.forest.now.trees 0) c.next_passing-next.result))) =
      ap (λ l. length (prefix_of c.loop-lacking.lacking (ended_by c.args.at l))) (rest_at (wanted_at c.args.at) (items_in c.args.forest.now.trees 0) c.in-Some.row c.loop-lacking.next c.next_passing-next.result c.in-Some.is c.next_passing-next.ensures.sorted c.next_passing-next.ensures.next) ∙ counted_step c.args.at c.loop-lacking.lacking c.in-Some.row (rest_from (wanted_at c.args.at) (items_in c.args.forest.now.trees 0) c.next_passing-next.result) c.loop-lacking-test.true in
      let n : length (prefix_of c.lacking_behind-lacking.result (ended_by c.args.at (rest_from (wanted_at c.args.at) (items_in c.args.forest.now.trees 0) c.next_passing-next.result))) ≡ length (prefix_of (lacking_behind c.args.at c.in-Some.row c.loop-lacking.lacking) (ended_by c.args.at (rest_from (wanted_at c.args.at) (items_in c.args.forest.now.trees 0) c.next_passing-next.result))) = ap (λ m. length (prefix_of m (ended_by c.args.at (rest_from (wanted_at c.args.at) (items_in c.args.forest.now.trees 0) c.next_passing-next.result)))) c.lacking_behind-lacking.ensures in
      omega (arith, c.loop-lacking.invariant.1, c.list_one.ensures.room)),
)

pub returns : goal.returns
returns c =
    sym (append-nil c.loop-lacking.out.items)
    ∙ ap (λ p. c.loop-lacking.out.items ++ numbers p) (sym (none_taken c.loop-lacking.lacking c.args.at (rest_from (wanted_at c.args.at) (items_in c.args.forest.now.trees 0) c.loop-lacking.next) c.loop-lacking-test.false))
    ∙ c.loop-lacking.invariant.0
    ∙ ap (λ l. c.args.out.now.items ++ numbers (prefix_of c.args.lacking (ended_by c.args.at l))) (sym (first_rest (wanted_at c.args.at) (items_in c.args.forest.now.trees 0) c.first_passing-next.result c.first_passing-next.ensures.sorted c.first_passing-next.ensures.first))
