-- How one more entry moves all parts.
use Rattle.std.specs.Prelude.{◌∷◌, []}
use Rattle.cta_site.specs.declared.site.Site.{Site}
use Rattle.cta_model.specs.declared.entries.Entry.{Entry}
use Rattle.cta_model.specs.History.{History}
use Rattle.cta_model.specs.Legal.{IsLegal}
use Rattle.part_laws.specs.AllParts.{AllParts, empty_parts}
use Rattle.part_laws.specs.Stands.{AreCalled, Stands}

-- the empty parts stand for the empty history
abbrev pub EmptyPartsStand : Type 0
EmptyPartsStand = (site : Site) → Stands site [] (empty_parts site)

-- parts that stand for a legal history stand for it with one entry more once the calls for the entry are made, whichever of the eighteen
-- asks it is
abbrev pub CallsMoveAllParts : Type 0
CallsMoveAllParts = (site : Site) (h : History) (e : Entry) (v v' : AllParts) → IsLegal site (e ∷ h) → Stands site h v → AreCalled site h e v v' → Stands site (e ∷ h) v'
