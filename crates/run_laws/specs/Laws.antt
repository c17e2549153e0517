-- Laws of two runs of one script.
use Rattle.std.specs.Prelude.{◌≡◌, ◌⊎◌, ℕ, List, Some, true}
use Rattle.std.specs.List.{flat_map}
use Rattle.cta_site.specs.declared.site.Site.{Site}
use Rattle.links.specs.Laws.{MayDiffer}
use Rattle.mismatch_laws.specs.Alike.{AreAlike}
use Rattle.archive_opening.specs.Seen.{SourceView}
use Rattle.archive_opening.specs.declared.status.Status.TheVariants.{Ok}
use Rattle.replay.specs.Laws.{history_of_run, output_of}
use Rattle.replay.specs.Outcome.{AreMade, Replays}
use Rattle.replay.specs.Output.{HaveContents}
use Rattle.replay.specs.Promises.{AreSound}
use Rattle.replay.specs.Run.{IsScriptRun, ScriptTurn, all_happenings, links_turns}
use Rattle.replay.specs.Script.{ScriptCut, IsScriptCut, cut_bytes, cut_records}
use Rattle.replay.specs.Seen.{SinkView}
use Rattle.replay.specs.Steps.{Made, begun_with}
use Rattle.run_laws.specs.Changed.{AreChangesTold, Collides}
use Rattle.run_laws.specs.Texts.{EachAlike, texts_of}
use Rattle.run_laws.specs.Told.{IsToldRun}

-- two runs are alike: their histories are the same but for what mismatches have found, and their lines and replies are the same but for the bytes of files, which have the
-- same length and SHA-256
pub record AreAlikeRuns (site : Site) (made more : Made) (xs ys : List ScriptTurn) : Type 0 where
  pub histories : AreAlike (history_of_run site made xs) (history_of_run site more ys)
  pub texts : EachAlike (texts_of site made xs) (texts_of site more ys)

-- two runs of the same script bytes, over benches that tell and on which an altered read is told, are alike, but for the two exceptions of the wire, in which a cut of a link may
-- wait where another refuses
abbrev pub HasAlikeRuns : Site → Type 0
HasAlikeRuns site =
    (made more : Made) (c d : ScriptCut) (xs ys : List ScriptTurn) → IsScriptCut site c → IsScriptCut site d → cut_bytes site c ≡ cut_bytes site d
    → IsScriptRun site (cut_records c) xs → IsScriptRun site (cut_records d) ys → IsToldRun site made xs → IsToldRun site more ys
    → AreAlikeRuns site made more xs ys ⊎ MayDiffer site.limits.file (links_turns xs)

-- two runs of one script, both ended with status 0, over benches that tell and on which an altered read is told, are alike, but for these two exceptions
abbrev pub HasAlikeEnds : Type 0
HasAlikeEnds =
    (site : Site) (script : List ℕ) (from to more rest : SourceView) (a b c d : SinkView) (one : Replays true Ok site from to a b) (other : Replays true Ok site more rest c d)
    → from.left ≡ Some script → more.left ≡ Some script
    → AreChangesTold (begun_with site one.made) (all_happenings one.finishes.turns) → AreChangesTold (begun_with site other.made) (all_happenings other.finishes.turns)
    → AreAlikeRuns site one.made other.made one.finishes.turns other.finishes.turns ⊎ MayDiffer site.limits.file (links_turns one.finishes.turns)

-- in a run over a bench that tells an altered read is told, or a content is known that has the same SHA-256 when it is altered
abbrev pub ChangesAreTold : Type 0
ChangesAreTold =
    (site : Site) (made : Made) (turns : List ScriptTurn) → AreMade true site made → HaveContents (begun_with site made) (all_happenings turns) → AreSound (begun_with site made) (all_happenings turns)
    → AreChangesTold (begun_with site made) (all_happenings turns) ⊎ Collides

-- the output of a run is its texts, one after the other
abbrev pub TextsAreOutput : Type 0
TextsAreOutput = (site : Site) (made : Made) (turns : List ScriptTurn) → flat_map (λ text. text) (texts_of site made turns) ≡ output_of site made turns
