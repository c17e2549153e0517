-- What a reader of a site file took, and what came of it.
use Rattle.cta_site.specs.Faults.{first_fault}
use Rattle.cta_site.specs.Numbering.{IsNumberedFrom}
use Rattle.cta_site.specs.declared.site.Site.{Site}
use Rattle.outside.specs.Causes.{Rose}
use Rattle.archive_opening.specs.Seen.{SourceView}
use Rattle.archive_opening.specs.declared.status.Status.{Status}
use Rattle.archive_opening.specs.declared.status.Status.TheVariants.{NoMemory, Site as SiteRule, ReadFault}
use Rattle.site_json.specs.File.{file_fault, site_of}
use Rattle.std.specs.Io.KnownBytes.{Consumes, IsAtEnd}
use Rattle.std.specs.Option.{option_or}
use Rattle.std.specs.Prelude.{◌≡◌, ℕ, ◌⊎◌, List, Option, Some, length, None, ◌+◌, ◌≤◌}

-- the most bytes of a site file
abbrev pub site_limit : ℕ
site_limit = 16777216

-- the first of the thirty rules that the bytes of a site file break, and the item that breaks it: the first of rules 1 to 7, which speak of the file, else the first of all others that the site breaks which it tells
abbrev pub site_fault : List ℕ → Option (ℕ × ℕ)
site_fault bytes = option_or (file_fault bytes) (first_fault (site_of bytes))

-- the bytes break no rule, and the site is what they tell, its numbered lists in order
pub record IsSiteOf (bytes : List ℕ) (site : Site) : Type 0 where
  pub kept : site_fault bytes ≡ None
  pub numbered : IsNumberedFrom (site_of bytes) site

-- all bytes of a site file were taken, no more than it may have, or one more than that
abbrev pub IsTakenSite : List ℕ → SourceView → Type 0
IsTakenSite bytes b = (length bytes ≡ site_limit + 1) ⊎ (IsAtEnd b.left × (length bytes ≤ site_limit))

-- when each status comes for a site file
abbrev pub NoSite : Status → SourceView → SourceView → Type 0
NoSite (SiteRule rule item) a b = (bytes : List ℕ) × Consumes a.left b.left bytes × IsTakenSite bytes b × (site_fault bytes ≡ Some (rule, item))
NoSite ReadFault a b = (bytes : List ℕ) × Consumes a.left b.left bytes × (length bytes ≤ site_limit) × Rose a.faults b.faults
NoSite NoMemory a b = Unit {0}
NoSite _ a b = ⊥

-- why bytes tell no site: the first rule that they break, or memory was wanted
abbrev pub TellsNoSite : Status → List ℕ → Type 0
TellsNoSite (SiteRule rule item) bytes = site_fault bytes ≡ Some (rule, item)
TellsNoSite NoMemory bytes = Unit {0}
TellsNoSite _ bytes = ⊥

-- the whole site file was read, and tells this site
abbrev pub ReadsSite : SourceView → SourceView → Site → Type 0
ReadsSite a b site = (bytes : List ℕ) × Consumes a.left b.left bytes × IsAtEnd b.left × IsSiteOf bytes site
