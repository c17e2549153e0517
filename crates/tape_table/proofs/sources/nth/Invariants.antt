-- What is looked for among the rest is what was looked for among all.
use Rattle.std.proofs.Common.{◌≡◌, drop}
use Rattle.std.specs.Prelude.{slice_get}
use Rattle.tape_table.specs.Sources.{somes}
use Rattle.tape_table.proofs.sources.nth.Given as goal

abbrev pub invariant-loop-place : goal.invariant-loop-place
invariant-loop-place l = slice_get (somes (drop l.place-index l.places)) l.left ≡ slice_get (somes l.places) l.index
