use Rattle.std.proofs.Common.{◌≡◌, ap, arith, sym, ◌∙◌}
use Rattle.load_mill.specs.Files.{file_len}
use Rattle.load_mill.specs.Numbers.{length_by, number_after}
use Rattle.mill_crew.proofs.Listing.{bytes_more, number_more}
use Rattle.mill_crew.proofs.lists.total_len.Goals as goal

pub loop-file-preserved : goal.loop-file-preserved
loop-file-preserved c =
    let seed = c.args.seed in
    let at = c.loop-file._file in
    let number = c.next.ensures ∙ ap number_after c.loop-file.invariant.number in
    let one : c.file_len-total.result ≡ file_len seed at = c.file_len-total.ensures.len ∙ ap length_by number in
    let more = bytes_more seed at in
    let before = c.loop-file.invariant.total in
    record {
      number = number ∙ sym (number_more seed at);
      total = omega (arith, one, more, before);
      few = omega (arith, c.loop-file.invariant.few, c.file_len-total.ensures.few);
      within = omega (arith, c.loop-file-test.true);
    }
