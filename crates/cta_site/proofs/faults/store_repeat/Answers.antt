use Rattle.cta_site.proofs.faults.store_repeat.Goals as goal

pub returns : goal.returns
returns c = cc (c.in_ok-vos.ensures, c.in_ok-classes.ensures, c.in_ok-pools.ensures, c.in_ok-policies.ensures)
