-- No place before this one is that of the last dot of a record's name.
use Rattle.std.proofs.Common.{◌≢◌, ◌<◌, ◌≤◌, ℕ, List, length}
use Rattle.file_media.specs.Names.{greatest_fseq, record_name}
use Rattle.file_media.proofs.names.parts_of.Given as goal

abbrev pub invariant-loop-i : goal.invariant-loop-i
invariant-loop-i l = (v : List ℕ) (s : ℕ) → s ≤ greatest_fseq → length v < l.i → record_name v s ≢ l.name
