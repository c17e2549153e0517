use Rattle.std.proofs.Common.{◌≤◌, ◌∙◌, refl, ap, subst, arith}
use Rattle.part_model.specs.Repacks.{has_item_by}
use Rattle.repack_book.specs.NamedRepacks.{repacks_of}
use Rattle.part_moves.proofs.Unpinning.{left_none, left_steps, writer_pins}
use Rattle.part_moves.proofs.Writing.{AreEndedBelow, is_written, walk_begins, walk_steps}
use Rattle.part_moves.proofs.copies.end_copy.Goals as goal

pub loop-next-init : goal.loop-next-init
loop-next-init c = record {
  done = walk_begins c.args.state (repacks_of c.args.repacks.now) c.args.job c.first_writer-next.result c.first_writer-next.ensures;
  names = λ id. refl;
  left = left_none _ _;
  contents = refl;
}

pub loop-next-preserved : goal.loop-next-preserved
loop-next-preserved c =
    let done = subst (λ o. AreEndedBelow c.args.state (repacks_of c.args.repacks.now) (repacks_of c.loop-next.repacks) c.args.job o) c.in-Some.is c.loop-next.invariant.done in
    let here : c.in-Some.id ≤ c.in-Some.id = omega arith in
    let on = writer_pins (repacks_of c.loop-next.repacks) c.args.job.file c.args.job.copy c.in-Some.id (ap (has_item_by (is_written c.args.job.file c.args.job.copy)) (done.1 c.in-Some.id here) ∙ done.2) in
    record {
      done = walk_steps c.args.state (repacks_of c.args.repacks.now) (repacks_of c.loop-next.repacks) (repacks_of c.end_item.new.repacks) c.args.job c.in-Some.id c.next_writer-next.result done c.end_item.ensures.repacks c.next_writer-next.ensures;
      names = λ id. c.end_item.ensures.names id ∙ c.loop-next.invariant.names id;
      left = left_steps c.args.state (repacks_of c.args.repacks.now) (repacks_of c.loop-next.repacks) (repacks_of c.end_item.new.repacks) c.in-Some.id c.args.job.file c.args.job.copy _ _ _ c.loop-next.invariant.left on c.end_item.ensures.repacks c.end_item.ensures.held;
      contents = c.end_item.ensures.contents ∙ c.loop-next.invariant.contents;
    }
