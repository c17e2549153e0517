use Rattle.cta_site.proofs.valid_site.ValidSite.policy_of.Goals as goal

pub returns : goal.returns
returns c = rw (c.number_of.ensures, c.policy_name-name.ensures, c.as_slice-2.ensures, c.as_slice.ensures, c.as_bytes.ensures, ← c.self.view_is)
