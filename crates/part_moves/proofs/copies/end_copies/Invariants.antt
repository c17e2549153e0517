-- The copies that the loop has passed have ended in all repacks, and the pins are taken off that were the last.
use Rattle.std.proofs.Common.{◌≡◌, take}
use Rattle.part_model.specs.Repacks.{RepacksAgree, set_states}
use Rattle.part_laws.specs.BookCalls.{writers}
use Rattle.repack_book.specs.NamedRepacks.{NamesAgree, repacks_of}
use Rattle.part_moves.proofs.Unpinning.{AreLeft}
use Rattle.part_moves.proofs.copies.end_copies.Given as goal

abbrev pub invariant-loop-job : goal.invariant-loop-job
invariant-loop-job l = record {
  finished : RepacksAgree (repacks_of l.repacks) (set_states l.state (writers (repacks_of l.initial.repacks) (take l.job-index l.jobs)) (repacks_of l.initial.repacks));
  names : NamesAgree l.repacks l.initial.repacks;
  left : AreLeft (repacks_of l.initial.repacks) (repacks_of l.repacks) l.initial.buffer.held.value l.buffer.held.value;
  contents : l.buffer.contents ≡ l.initial.buffer.contents;
}
