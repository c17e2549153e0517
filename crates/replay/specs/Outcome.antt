-- How a script ends, and what was written for it then.
use Rattle.cta_site.specs.WellFormed.{IsWellFormed}
use Rattle.cta_site.specs.declared.site.Site.{Site}
use Rattle.links.specs.Run.{Turn, IsRunBehind}
use Rattle.outside.specs.Causes.{Rose}
use Rattle.outside.specs.Streams.{AppendsFront}
use Rattle.archive_opening.specs.Made.{AreNewDrives, AreNewMedia}
use Rattle.archive_opening.specs.Seen.{SourceView}
use Rattle.archive_opening.specs.declared.status.Status.{Status}
use Rattle.archive_opening.specs.declared.status.Status.TheVariants.{Ok, NoMemory, Script, ReadFault, WriteFault, TooLong}
use Rattle.replay.specs.Intake.{Took, budget}
use Rattle.replay.specs.Output.{HaveContents, output_on}
use Rattle.replay.specs.Promises.{AreSound, KeepsPromises}
use Rattle.replay.specs.Run.{ScriptTurn, Happening, all_happenings, IsScriptRun, record_of, links_turns}
use Rattle.replay.specs.Script.{Record, ScriptCut, Ended, MayGoOn, IsRefusedAt, IsScriptCut, IsRecord, cut_bytes, cut_records, whole_bytes, ended}
use Rattle.replay.specs.Seen.{SinkView, ScriptView, World, world, unread}
use Rattle.replay.specs.Steps.{Made, RunState, begun_with}
use Rattle.std.specs.Io.KnownBytes.{IsAtEnd, Appends}
use Rattle.std.specs.List.{AllByRecursion}
use Rattle.std.specs.Prelude.{◌≡◌, ℕ, ◌⊎◌, Bool, List, Option, Some, [], ◌++◌, length, codes, map, ◌+◌, ◌<◌, ◌≤◌}

-- ---- what is written

-- all that is due for what happened was written, on what was s before it, with contents that the answers say
pub record Wrote (s : RunState) (a b : SinkView) (happened : List Happening) : Type 0 where
  pub contents : HaveContents s happened
  pub bytes : Appends a.written b.written (output_on s happened)

-- all that is due for the first of what happened was written, and nothing else
pub record WritesFirst (s : RunState) (a b : SinkView) (happened : List Happening) : Type 0 where
  pub first : List Happening
  pub later : List Happening
  pub parts : happened ≡ first ++ later
  pub wrote : Wrote s a b first

-- a front was written of what is due for the first of what happened
pub record WritesFront (s : RunState) (a b : SinkView) (happened : List Happening) : Type 0 where
  pub first : List Happening
  pub later : List Happening
  pub parts : happened ≡ first ++ later
  pub contents : HaveContents s first
  pub bytes : AppendsFront a.written b.written (output_on s first)

-- ---- how a script ends

-- where the fault of a script stands: no record goes on there, or the source ended before the line `end`
abbrev pub IsScriptFault : ℕ → Site → ScriptView → ScriptView → ScriptCut → Type 0
IsScriptFault offset site a b c =
    ((at : ℕ) × IsRefusedAt c.tail at × (offset ≡ a.taken + length (whole_bytes site c.whole) + at)) ⊎ (MayGoOn c.tail × IsAtEnd b.left × (b.taken < budget) × (offset ≡ b.taken))

-- when each status comes, and what was written then
abbrev pub EndsScript : Status → RunState → World → World → ScriptCut → List Happening → Type 0
EndsScript Ok s a b c happened = (c.tail ≡ Ended) × Wrote s a.out b.out happened
EndsScript (Script offset) s a b c happened = IsScriptFault offset s.site a.script b.script c × Wrote s a.out b.out happened
EndsScript ReadFault s a b c happened = MayGoOn c.tail × Rose a.script.faults b.script.faults × (b.script.taken < budget) × Wrote s a.out b.out happened
EndsScript WriteFault s a b c happened = MayGoOn c.tail × Rose a.out.faults b.out.faults × WritesFront s a.out b.out happened
EndsScript NoMemory s a b c happened = MayGoOn c.tail × WritesFirst s a.out b.out happened
EndsScript TooLong s a b c happened = MayGoOn c.tail × (b.script.taken ≡ budget) × Wrote s a.out b.out happened
EndsScript _ s a b c happened = ⊥

-- behind earlier turns of the links the script was read up to some place, these are the turns of all that it brought, and it ended there with this status
pub record Finishes (s : RunState) (before : List Turn) (a b : World) (status : Status) : Type 0 where
  pub cut : ScriptCut
  pub is_cut : IsScriptCut s.site cut
  pub took : Took a.script b.script (cut_bytes s.site cut)
  pub turns : List ScriptTurn
  pub brought : map record_of turns ≡ cut_records cut
  pub run : IsRunBehind s.site.limits.file before (links_turns turns)
  pub sound : AreSound s (all_happenings turns)
  pub ends : EndsScript status s a b cut (all_happenings turns)

-- ---- the bytes of a record

-- ---- whole runs

-- what a bench has made for a site
pub record AreMade (tells : Bool) (site : Site) (made : Made) : Type 0 where
  pub media : AreNewMedia tells site made.media
  pub drives : AreNewDrives tells site made.drives

-- a run from the front of a script, for an archive of the site, which is valid, that has kept nothing yet, over drives and media that a bench has made: what status it ends with,
-- when, what it took and wrote then, and what it keeps whichever calls of devices fail
pub record Replays (tells : Bool) (status : Status) (site : Site) (from to : SourceView) (a b : SinkView) : Type 0 where
  pub valid : IsWellFormed site
  pub made : Made
  pub new : AreMade tells site made
  pub taken : ℕ
  pub within : taken ≤ budget
  pub finishes : Finishes (begun_with site made) [] (world (unread from) a) (world (record { left = to.left; taken = taken; faults = to.faults }) b) status
  pub promises : KeepsPromises tells site made finishes.turns

-- the source has these whole records left, then the line `end` within the budget, then rest
pub record ReachesEnd (site : Site) (left : Option (List ℕ)) (records : List Record) (rest : List ℕ) : Type 0 where
  pub each : AllByRecursion (IsRecord site) records
  pub spelled : left ≡ Some (whole_bytes site records ++ (ended (codes "end") ++ rest))
  pub within : length (whole_bytes site records) + 4 ≤ budget

-- what follows the line `end` is left, and the whole output of a run of the records was written, which keeps what a run keeps whichever calls of devices fail
pub record IsReadWhole (tells : Bool) (site : Site) (records : List Record) (rest : List ℕ) (to : SourceView) (a b : SinkView) : Type 0 where
  pub left : to.left ≡ Some rest
  pub made : Made
  pub new : AreMade tells site made
  pub turns : List ScriptTurn
  pub run : IsScriptRun site records turns
  pub wrote : Wrote (begun_with site made) a b (all_happenings turns)
  pub promises : KeepsPromises tells site made turns
