use Rattle.std.proofs.Common.{◌∙◌, sym}
use Rattle.archive_state.proofs.Claimed.{all_passed, none_passed, one_other, other_lengths, same_more}
use Rattle.archive_state.proofs.claims.are_same_items.Goals as goal

pub returns-then-items-last : goal.returns-then-items-last
returns-then-items-last c = sym (other_lengths _ _ c.if-items-last.true)

pub loop-at-init : goal.loop-at-init
loop-at-init c = none_passed c.args.items.now c.args.last.now

pub loop-at-preserved : goal.loop-at-preserved
loop-at-preserved c = same_more c.args.items.now c.args.last.now c.loop-at.at _ _ c.if-items-last.false c.loop-at-test.true c.loop-at.invariant (sym c.is_same_item.ensures ∙ c.if-not-is_same_item.false)

pub returns-then-not-is_same_item : goal.returns-then-not-is_same_item
returns-then-not-is_same_item c = sym (one_other c.args.items.now c.args.last.now c.loop-at.at _ _ c.loop-at-test.true c.if-items-last.false (sym c.is_same_item.ensures ∙ c.if-not-is_same_item.true))

pub returns : goal.returns
returns c = sym (all_passed c.args.items.now c.args.last.now c.loop-at.at c.if-items-last.false c.loop-at-test.false c.loop-at.invariant)
