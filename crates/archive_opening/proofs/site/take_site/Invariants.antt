use Rattle.std.proofs.Common.{◌+◌, ◌-◌, ◌≤◌, length, vec_len}
use Rattle.std.specs.Io.KnownBytes.{Consumes}
use Rattle.archive_opening.specs.SiteFile.{site_limit}
use Rattle.archive_opening.proofs.site.take_site.Given as goal

abbrev pub invariant-loop-piece : goal.invariant-loop-piece
invariant-loop-piece g l = record {
  took : Consumes (g.A.Source.left l.initial.site) (g.A.Source.left l.site) l.bytes.items;
  fits : length l.bytes.items ≤ site_limit + 1;
  later : g.A.Source.faults l.initial.site ≤ g.A.Source.faults l.site;
}

abbrev pub decreases-loop-piece : goal.decreases-loop-piece
decreases-loop-piece g l = site_limit + 1 - vec_len l.bytes
