-- When a server ends with which status.
use Rattle.std.specs.Prelude.{◌≡◌, ⊤, ℕ, Bool, true, List}
use Rattle.cta_site.specs.declared.site.Site.{Site}
use Rattle.cta_words.specs.Serving.{SpellsServer}
use Rattle.cta_words.specs.declared.serving.ServeWords.{ServeWords}
use Rattle.outside.specs.Causes.{Rose}
use Rattle.archive_opening.specs.Seen.{SourceView}
use Rattle.archive_opening.specs.SiteFile.{NoSite, ReadsSite}
use Rattle.archive_opening.specs.declared.status.Status.{Status}
use Rattle.archive_opening.specs.declared.status.Status.TheVariants as status

-- the words `serve SITE ADDR MEDIA WORKERS`, with 1 to 64 workers
abbrev pub IsServeForm : List (List ℕ) → Type 0
IsServeForm words = (s : ServeWords) × SpellsServer words s

-- the whole site file was read, and tells a site that keeps the rules
abbrev pub ReadsSomeSite : SourceView → SourceView → Type 0
ReadsSomeSite a b = (site : Site) × ReadsSite a b site

-- When each status comes, by the words, the site file before and after, the listener's count of faults before and after, and whether it has ended. Want of memory may come at any time
abbrev pub Ends : Status → List (List ℕ) → SourceView → SourceView → ℕ → ℕ → Bool → Type 0
Ends status.Ok words a b before after ended = IsServeForm words × ReadsSomeSite a b × (ended ≡ true)
Ends status.Usage words a b before after ended = ¬ (IsServeForm words) × (b ≡ a) × (after ≡ before)
Ends (status.Site rule item) words a b before after ended = IsServeForm words × NoSite (status.Site rule item) a b × (after ≡ before)
Ends status.ReadFault words a b before after ended = IsServeForm words × NoSite status.ReadFault a b × (after ≡ before)
Ends status.ListenFault words a b before after ended = IsServeForm words × ReadsSomeSite a b × Rose before after
Ends status.NoMemory words a b before after ended = ⊤
Ends _ words a b before after ended = ⊥
