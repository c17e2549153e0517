-- The sizes of the files before the loop's place are added up.
use Rattle.std.specs.Prelude.{◌≡◌, ◌*◌, ◌≤◌}
use Rattle.load_mill.specs.Numbers.{number_behind}
use Rattle.mill_crew.specs.Contents.{bytes_of}
use Rattle.mill_crew.proofs.lists.total_len.Given as goal

abbrev pub invariant-loop-file : goal.invariant-loop-file
invariant-loop-file l = record {
  number : l.numbers.x ≡ number_behind l.seed l._file;
  total : l.total ≡ bytes_of l.seed l._file;
  few : l.total ≤ 4096 * l._file;
  within : l._file ≤ l.files;
}
