use Rattle.std.proofs.Common.{ap, arith, sym, ◌∙◌}
use Rattle.blob.specs.Sums.{sum_of}
use Rattle.load_mill.specs.Numbers.{bytes_by, length_by, number_after}
use Rattle.mill_crew.proofs.Listing.{number_more, sums_more}
use Rattle.mill_crew.proofs.puts.put_share.Goals as goal

pub loop-index-preserved : goal.loop-index-preserved
loop-index-preserved g c =
    let seed = c.args.seed in
    let number = c.next.ensures ∙ ap number_after c.loop-index.invariant.number in
    record {
      here = c.put_file.ensures.here;
      seats = c.put_file.ensures.seats ∙ c.loop-index.invariant.seats;
      from = omega (arith, c.loop-index.invariant.from);
      number = number ∙ sym (number_more seed c.loop-index.index);
      sums = sums_more seed c.args.share.from c.loop-index.index _ _ _ c.loop-index.invariant.from c.loop-index.invariant.sums c.in_ok-add_sum.ensures
          (c.in_ok-sum.ensures.sum ∙ ap (λ x. sum_of (bytes_by x (length_by x))) number);
    }
