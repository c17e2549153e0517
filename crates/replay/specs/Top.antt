-- What a run of `cta replay` says.
use Rattle.std.specs.Prelude.{◌≡◌, ℕ, ◌⊎◌, Bool, List, Option, Some}
use Rattle.outside.specs.Causes.{Rose}
use Rattle.cta_site.specs.declared.site.Site.{Site}
use Rattle.archive_opening.specs.Seen.{SourceView, source_view}
use Rattle.archive_opening.specs.SiteFile.{IsSiteOf, NoSite, ReadsSite}
use Rattle.archive_opening.specs.declared.status.Status.{Status}
use Rattle.archive_opening.specs.declared.status.Status.TheVariants.{Ok, Usage, NoMemory}
use Rattle.replay.specs.Words.{IsReplayForm}
use Rattle.replay.specs.Seen.{SinkView, sink_view}
use Rattle.replay.specs.Script.{Record}
use Rattle.replay.specs.Outcome.{Replays, ReachesEnd, IsReadWhole}

-- what is seen, at a moment, of the objects that a run is handed: the site file, the script, and what is written for it
pub record Handed : Type 0 where
  pub site : SourceView
  pub script : SourceView
  pub out : SinkView

-- that, by what each object tells: what the sources still give and the sink was written, and their counts of faults
abbrev pub handed : Option (List ℕ) → ℕ → Option (List ℕ) → ℕ → Option (List ℕ) → ℕ → Handed
handed site site_faults script script_faults written out_faults = record {
  site = source_view site site_faults;
  script = source_view script script_faults;
  out = sink_view written out_faults;
}

-- the script and what is written for it are as before
abbrev pub IsUntouched : Handed → Handed → Type 0
IsUntouched a b = (b.script ≡ a.script) × (b.out ≡ a.out)

-- the words are of another form, or memory was wanted to read them, and nothing was touched
abbrev pub EndsAtWords : Status → List (List ℕ) → Handed → Handed → Type 0
EndsAtWords status words a b = ((¬ (IsReplayForm words) × (status ≡ Usage)) ⊎ (status ≡ NoMemory)) × (b ≡ a)

-- no site was read, and the script and the output were not touched
abbrev pub EndsAtSite : Status → Handed → Handed → Type 0
EndsAtSite status a b = NoSite status a.site b.site × IsUntouched a b

-- the site was read, and the script was run for it
abbrev pub EndsInScript : Bool → Status → Handed → Handed → Type 0
EndsInScript tells status a b = (site : Site) × ReadsSite a.site b.site site × Replays tells status site a.script b.script a.out b.out

-- in this order: the words, the site, the script; `tells` says whether the bench's drives and media tell
abbrev pub Runs : Bool → Status → List (List ℕ) → Handed → Handed → Type 0
Runs tells status words a b = EndsAtWords status words a b ⊎ (IsReplayForm words × (EndsAtSite status a b ⊎ EndsInScript tells status a b))

-- words of the form, a site file that keeps the rules, and a script of whole records up to `end`, with no fault, are run to the end with the whole output
-- written, or memory is wanted
abbrev pub RunsWhole : Bool → Status → List (List ℕ) → Handed → Handed → Type 0
RunsWhole tells status words a b =
    (bytes : List ℕ) (site : Site) (records : List Record) (rest : List ℕ) → IsReplayForm words → a.site.left ≡ Some bytes → IsSiteOf bytes site
    → ReachesEnd site a.script.left records rest
    → ¬ (Rose a.site.faults b.site.faults) → ¬ (Rose a.script.faults b.script.faults) → ¬ (Rose a.out.faults b.out.faults)
    → ((status ≡ Ok) × IsReadWhole tells site records rest b.script a.out b.out) ⊎ (status ≡ NoMemory)

-- a run: which status comes when, what was taken then and what was written; and a whole script is run to its end, unless something fails or memory is wanted
pub record HasReplayed (tells : Bool) (status : Status) (words : List (List ℕ)) (a b : Handed) : Type 0 where
  pub runs : Runs tells status words a b
  pub whole : RunsWhole tells status words a b
