use Rattle.cta_site.proofs.Moved.{joined}
use Rattle.cta_site.proofs.faults.element_fault.Goals as goal

pub returns : goal.returns
returns c = joined _ _ _ _ _ _ _ _ _ _ _ _ _ _ _ _ _ _ _ _ c.form_fault-forms.ensures c.in_ok-stores.ensures c.in_ok-devices.ensures c.in_ok-classes.ensures c.in_ok-routes.ensures c.in_ok-policies.ensures c.in_ok-tapes.ensures c.or.ensures c.or-2.ensures c.or-3.ensures c.or-4.ensures c.or-5.ensures c.or-6.ensures
