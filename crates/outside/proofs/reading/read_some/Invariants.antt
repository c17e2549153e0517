-- A read that was cut off left the reader as it was.
use Rattle.std.specs.Io.KnownBytes.{Keeps}
use Rattle.outside.proofs.reading.read_some.Given as goal

abbrev pub invariant-loop : goal.invariant-loop
invariant-loop g l = Keeps (g.R.Read.remaining l.initial.from) (g.R.Read.remaining l.from)
