use Rattle.cta_site.proofs.Numbered.{well_formed, counts-bare}
use Rattle.cta_site.proofs.valid_site.ValidSite.of.Goals as goal

pub of-requires : goal.of-requires
of-requires c = counts-bare c.args.site (well_formed _ c.requires).counts

pub invariant_of-result : goal.invariant_of-result
invariant_of-result c = (c.requires, well_formed _ c.requires, c.in_ok-index.ensures)
