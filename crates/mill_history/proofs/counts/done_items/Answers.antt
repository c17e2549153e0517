use Rattle.std.specs.Prelude.{◌≡◌, ◌+◌, ◌<◌, length, take, filter}
use Rattle.std.proofs.Common.{rules, arith, ap, ◌∙◌}
use Rattle.cta_model.specs.Bare.{bare_answer, bare_ask, bare_entry}
use Rattle.cta_model.specs.History.{History}
use Rattle.cta_model.specs.Newest.{history_in}
use Rattle.cta_model.specs.Places.{flushed_in}
use Rattle.cta_model.proofs.Newest.{history_in-read}
use Rattle.mill_history.specs.Counts.{done_items, is_done_of}
use Rattle.mill_history.proofs.Done.{done_first}
use Rattle.mill_history.proofs.counts.done_items.Goals as goal

pub loop-entry-preserved : goal.loop-entry-preserved
loop-entry-preserved c files marked =
    let within : c.loop-entry.entry-index < length c.args.entries.now = omega (arith, c.loop-entry-test.true) in
    let more : length (done_items files (history_in (take (c.loop-entry.entry-index + 1) c.args.entries.now))) ≡ length (done_items files (history_in (take c.loop-entry.entry-index c.args.entries.now))) + length (filter (is_done_of files) (flushed_in (bare_ask c.entry-item.result.ask) (bare_answer c.entry-item.result.answer))) =
    ap (λ (h : History). length (done_items files h)) (history_in-read c.args.entries.now c.loop-entry.entry-index c.entry-item.result within c.entry-item.is)
    ∙ done_first files (bare_entry c.entry-item.result) (history_in (take c.loop-entry.entry-index c.args.entries.now)) in
    let added : c.in_ok-count.count ≡ c.loop-entry.count + c.done_in.result = search rules in
    let before = c.loop-entry.invariant files marked in
    let one = c.done_in.ensures files marked in
    omega (arith, more, added, before, one)
