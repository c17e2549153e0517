use Rattle.cta_site.proofs.Kept.{keeps_sizes, counts_are}
use Rattle.cta_site.proofs.forms.counts_kept.Goals as goal

pub returns : goal.returns
returns c = counts_are c.args.site.now (keeps_sizes c.args.site.now c.requires).counts
