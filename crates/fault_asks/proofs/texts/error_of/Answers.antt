use Rattle.std.proofs.Common.{◌∙◌, ◌≡◌, arith, sym}
use Rattle.part_model.specs.JobRows.{book_in}
use Rattle.fault_asks.proofs.ChargeTexts.{charge_there, error_some, front_more, front_none}
use Rattle.fault_asks.proofs.texts.error_of.Goals as goal

pub loop-place-init : goal.loop-place-init
loop-place-init c = c.new-text.ensures.bytes ∙ front_none c.args.site.now

pub unreachable-requires : goal.unreachable-requires
unreachable-requires c = charge_there _ c.loop-place.place _ _ c.loop-place-test.true c.charge_count-place-end.ensures c.charge_at.ensures c.in_default-charge_at.is

pub loop-place-preserved : goal.loop-place-preserved
loop-place-preserved c = front_more c.args.site.now _ c.loop-place.place c.in-Some-charge_at.charge _ _ (sym c.charge_at.ensures ∙ c.in-Some-charge_at.is) c.loop-place.invariant c.in_ok-add_place.ensures

pub returns : goal.returns
returns c =
    let stop : c.loop-place.place ≡ c.charge_count-place-end.result = (let high = c.loop-place-test.false in let low = c.loop-place.auto.place-end in omega (arith, high, low)) in
    c.of-2.ensures
    ∙ error_some c.args.site.now (book_in c.args.book.now.value) c.args.charge c.args.file c.in-Some.birth c.loop-place.place _ _ (sym c.in-Some.is ∙ c.live_recall.ensures) (stop ∙ c.charge_count-place-end.ensures) c.loop-place.invariant c.in_ok-add_charge.ensures
