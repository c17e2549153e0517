use Rattle.std.proofs.Common.{◌≡◌, ◌∙◌, sym, true, false}
use Rattle.cta_site.proofs.Sets.{holds, item, set_more, found_again, not_yet_again, true_from_not, false_from_not}
use Rattle.cta_site.proofs.names.first_repeat.Goals as goal

pub returns-then-not-branch-clause-value : goal.returns-then-not-branch-clause-value
returns-then-not-branch-clause-value c =
    let hit : holds c.loop-place.seen (item c.args.names.now c.loop-place.place).now ≡ true = true_from_not _ (sym c.in_ok-insert.ensures.added ∙ c.if-not-branch.true) in
    sym (found_again c.args.names.now c.loop-place.place c.loop-place.seen c.loop-place-test.true hit c.loop-place.invariant.seen) ∙ c.loop-place.invariant.left

pub loop-place-preserved : goal.loop-place-preserved
loop-place-preserved c =
    let miss : holds c.loop-place.seen (item c.args.names.now c.loop-place.place).now ≡ false = false_from_not _ (sym c.in_ok-insert.ensures.added ∙ c.if-not-branch.false) in
    record {
      seen = set_more c.args.names.now c.loop-place.place c.loop-place.seen c.insert.new.self c.loop-place-test.true c.in_ok-insert.ensures.updates c.loop-place.invariant.seen;
      left = sym (not_yet_again c.args.names.now c.loop-place.place c.loop-place.seen c.loop-place-test.true miss c.loop-place.invariant.seen) ∙ c.loop-place.invariant.left;
    }
