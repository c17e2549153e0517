-- How all parts are kept.
use Rattle.std.specs.Prelude.{◌∷◌}
use Rattle.cta_site.specs.declared.site.Site.{Site}
use Rattle.cta_model.specs.declared.entries.Entry.{Entry}
use Rattle.cta_model.specs.History.{History}
use Rattle.cta_model.specs.Legal.{IsLegal, IsNext}
use Rattle.archive_parts.specs.Called.{AreKeptCalled}
use Rattle.archive_parts.specs.PartsKept.{ArePartsKept}
use Rattle.archive_parts.specs.Same.{TellSameParts}
use Rattle.archive_parts.specs.declared.parts.ArchiveParts.{ArchiveParts}

-- parts that tell what kept ones tell are kept for the same history
abbrev pub SamePartsAreKept : Type 0
SamePartsAreKept = (site : Site) (h : History) (p p' : ArchiveParts) → TellSameParts p' p → ArePartsKept site h p → ArePartsKept site h p'

-- parts that are kept for a legal history are kept for it with one entry more that may follow it, once the calls for the entry are made
abbrev pub KeptPartsMove : Type 0
KeptPartsMove =
    (site : Site) (h : History) (e : Entry) (p p' : ArchiveParts) → IsLegal site h → IsNext site h e → ArePartsKept site h p → AreKeptCalled site h e p p'
    → ArePartsKept site (e ∷ h) p'
