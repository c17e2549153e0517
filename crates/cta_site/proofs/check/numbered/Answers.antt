use Rattle.cta_site.proofs.Numbered.{numbered_is_valid}
use Rattle.cta_site.proofs.check.numbered.Goals as goal

pub of-requires : goal.of-requires
of-requires c = numbered_is_valid c.args.site c.sort_site.new.site c.requires c.in_ok-sort_site.ensures.rearranged c.in_ok-sort_site.ensures.sorted
