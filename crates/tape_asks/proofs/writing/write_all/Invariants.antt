-- The items that the loop has passed are WRITING.
use Rattle.std.proofs.Common.{take}
use Rattle.cta_model.specs.declared.reports.ItemState.TheVariants as item
use Rattle.part_model.specs.Repacks.{RepacksAgree, set_states}
use Rattle.repack_book.specs.NamedRepacks.{NamesAgree, repacks_of}
use Rattle.tape_asks.specs.Lists.{targets_of}
use Rattle.tape_asks.proofs.writing.write_all.Given as goal

abbrev pub invariant-loop-job : goal.invariant-loop-job
invariant-loop-job l = record {
  states : RepacksAgree (repacks_of l.repacks) (set_states item.Writing (targets_of l.number (take l.job-index l.jobs)) (repacks_of l.initial.repacks));
  named : NamesAgree l.repacks l.initial.repacks;
}
