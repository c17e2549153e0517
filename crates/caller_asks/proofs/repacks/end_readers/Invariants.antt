-- The items of the file are GONE in the repacks that the loop has passed.
use Rattle.std.proofs.Common.{take}
use Rattle.std.specs.Prelude.{◌&&◌}
use Rattle.cta_model.specs.History.{has_number}
use Rattle.repack_book.specs.NamedRepacks.{NamesAgree, repacks_of}
use Rattle.caller_asks.specs.Gone.{AreGone, is_copy_to}
use Rattle.caller_asks.proofs.repacks.end_readers.Given as goal

abbrev pub invariant-loop-id : goal.invariant-loop-id
invariant-loop-id l = AreGone (λ k g c. has_number k (take l.id-index l.ids) && is_copy_to l.file l.copies g c) (repacks_of l.initial.repacks) (repacks_of l.repacks) × NamesAgree l.repacks l.initial.repacks
