use Rattle.cta_site.proofs.Fronts.{NoneFrom}
use Rattle.cta_site.proofs.lookups.directory_of.Given as goal

abbrev pub invariant-loop-end : goal.invariant-loop-end
invariant-loop-end l = NoneFrom l.directories l.path l.end
