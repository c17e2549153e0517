use Rattle.std.proofs.Common.{take}
use Rattle.cta_site.specs.Bytes.{Without}
use Rattle.replay.proofs.bytes.first_part.Given as goal

abbrev pub invariant-loop-i : goal.invariant-loop-i
invariant-loop-i l = Without l.end (take l.i l.bytes)
