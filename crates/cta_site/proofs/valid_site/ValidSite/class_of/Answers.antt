use Rattle.cta_site.proofs.valid_site.ValidSite.class_of.Goals as goal

pub returns-in-Some : goal.returns-in-Some
returns-in-Some c =
    let found = rw c.as_slice-directories.ensures at c.in-Some.ensures in
    rw (c.number_of.ensures, c.as_slice-classes.ensures, c.as_bytes-class.ensures, ← c.self.view_is, ← found)

pub returns-in-None : goal.returns-in-None
returns-in-None c =
    let missing = rw c.as_slice-directories.ensures at c.in-None.ensures in
    rw (← c.self.view_is, ← missing)
