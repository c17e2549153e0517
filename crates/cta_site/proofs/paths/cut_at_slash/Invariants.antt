use Rattle.std.proofs.Common.{take}
use Rattle.cta_site.specs.Bytes.{Without}
use Rattle.cta_site.proofs.paths.cut_at_slash.Given as goal

abbrev pub invariant-loop-place : goal.invariant-loop-place
invariant-loop-place l = Without 47 (take l.place l.bytes)
