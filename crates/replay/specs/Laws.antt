-- Laws of scripts and of what is written for them.
use Rattle.cta_model.specs.History.{History}
use Rattle.cta_model.specs.Legal.{IsLegal}
use Rattle.cta_site.specs.declared.site.Site.{Site}
use Rattle.drive_session.specs.Steps.{NoMismatch}
use Rattle.drive_session.specs.declared.reports.Done.{Done}
use Rattle.links.specs.Laws.{MayDiffer}
use Rattle.replay.specs.Outcome.{AreMade}
use Rattle.replay.specs.Output.{run_behind, after, output_on, event_text}
use Rattle.replay.specs.Promises.{AreSound, KeepsPromises, ReadsDone}
use Rattle.replay.specs.Run.{ScriptTurn, Happening, Answered, Stepped, all_happenings, IsScriptRun, links_turns, from_outside, happenings_on}
use Rattle.replay.specs.Script.{Record, ScriptCut, IsScriptCut, IsRecord, cut_bytes, cut_records}
use Rattle.replay.specs.Steps.{IsRowFit, Made, RunState, begun_with, kept_in, row_at}
use Rattle.std.specs.List.{AllByRecursion}
use Rattle.std.specs.Prelude.{◌≡◌, ℕ, ◌⊎◌, Bool, List, Option, [], ◌∷◌, ◌++◌, ◌==◌, map, if◌then◌else◌}

-- ---- what laws speak of

-- its step, if it is one, asks what a session may ask
abbrev pub AsksFit : RunState → Happening → Type 0
AsksFit s (Answered link moment exchange) = Unit {0}
AsksFit s (Stepped drive moment done seen left) = IsRowFit (kept_in s) (row_at s drive done)

-- each step asks what a session may ask
abbrev pub AskFitly : RunState → List Happening → Type 0
AskFitly s [] = Unit {0}
AskFitly s (h ∷ hs) = AsksFit s h × AskFitly (run_behind s h) hs

-- the texts of the replies on a link
abbrev pub reply_on : ℕ → RunState → Happening → List (List ℕ)
reply_on link s (Answered l moment exchange) = if l == link then event_text (kept_in s) moment exchange.content exchange.event ∷ [] else []
reply_on link s (Stepped _ _ _ _ _) = []

-- the same, of all that happens
abbrev pub replies_on : ℕ → RunState → List Happening → List (List ℕ)
replies_on link s [] = []
replies_on link s (h ∷ hs) = reply_on link s h ++ replies_on link (run_behind s h) hs

-- all that is written for a run from its start, over drives and media that a bench has made so
abbrev pub output_of : Site → Made → List ScriptTurn → List ℕ
output_of site made turns = output_on (begun_with site made) (all_happenings turns)

-- the history that an archive has kept behind such a run
abbrev pub history_of_run : Site → Made → List ScriptTurn → History
history_of_run site made turns = (after (begun_with site made) (all_happenings turns)).history

-- ---- laws

-- the bytes of a script, what its devices have answered, and the contents that go out, tell what is written for it, but for the two exceptions of the wire, in which a cut of a link may wait where another refuses
abbrev pub HasOneOutput : Site → Type 0
HasOneOutput site =
    (made : Made) (c d : ScriptCut) (xs ys : List ScriptTurn) → IsScriptCut site c → IsScriptCut site d → cut_bytes site c ≡ cut_bytes site d
    → IsScriptRun site (cut_records c) xs → IsScriptRun site (cut_records d) ys → map from_outside xs ≡ map from_outside ys
    → (output_of site made xs ≡ output_of site made ys) ⊎ MayDiffer site.limits.file (links_turns xs)

-- what happens leaves the run as it is: so does all that doesn't ask the archive to change, and each ask of a caller that is refused
abbrev pub LeavesRun : RunState → Happening → Type 0
LeavesRun s h = run_behind s h ≡ s

-- as long as nothing changes the run, the replies on a link are those to its own events alone
abbrev pub HasLinksApart : Type 0
HasLinksApart =
    (s : RunState) (happened : List Happening) (link : ℕ) → AllByRecursion (LeavesRun s) happened
    → replies_on link s happened ≡ replies_on link s (happenings_on link happened)

-- what is written for what happens first, and then for more, is what is written for the first, and then for the others on the run behind the first
abbrev pub OutputsFollow : Type 0
OutputsFollow =
    (s : RunState) (first more : List Happening)
    → (output_on s (first ++ more) ≡ output_on s first ++ output_on (after s first) more)
    × (after s (first ++ more) ≡ after (after s first) more)

-- the history that is kept behind a run of records, in which each step asks what a session may ask, is legal for the site
abbrev pub KeepsLegalHistories : Type 0
KeepsLegalHistories =
    (site : Site) (made : Made) (records : List Record) (turns : List ScriptTurn) → AllByRecursion (IsRecord site) records → IsScriptRun site records turns
    → AskFitly (begun_with site made) (all_happenings turns) → IsLegal site (history_of_run site made turns)

-- a run of records over drives and media that a bench has made, in which each step is sound, keeps what a run keeps whichever calls of devices fail
abbrev pub RunsKeepPromises : Type 0
RunsKeepPromises =
    (tells : Bool) (site : Site) (made : Made) (records : List Record) (turns : List ScriptTurn) → AllByRecursion (IsRecord site) records → IsScriptRun site records turns
    → AreMade tells site made → AreSound (begun_with site made) (all_happenings turns) → KeepsPromises tells site made turns

-- what is read of a live job is done, where the device neither fails nor gives other bytes than the file's
abbrev pub LiveReadsAreDone : Type 0
LiveReadsAreDone = (s : RunState) (drive moment : ℕ) (heard : Option Done) → NoMismatch heard → ReadsDone s drive moment heard
