-- How one record is carried out, as the clauses of private functions say it.
use Rattle.conn.specs.Cut.{Event}
use Rattle.cta_site.specs.declared.site.Site.{Site}
use Rattle.links.specs.Run.{Turn, IsRun, IsRunBehind}
use Rattle.links.specs.Standing.{StandFor}
use Rattle.links.specs.declared.links.Links.{Links}
use Rattle.outside.specs.Causes.{Rose}
use Rattle.outside.specs.Streams.{AppendsFront}
use Rattle.archive_opening.specs.Seen.{SourceView}
use Rattle.archive_opening.specs.declared.status.Status.{Status}
use Rattle.archive_opening.specs.declared.status.Status.TheVariants.{Ok, NoMemory, Script, ReadFault, WriteFault, TooLong}
use Rattle.replay.specs.Intake.{Took, HasStopped}
use Rattle.replay.specs.Outcome.{ReachesEnd, IsReadWhole, Wrote, WritesFirst, WritesFront, EndsScript, Finishes}
use Rattle.replay.specs.Output.{Reply, after, frame}
use Rattle.replay.specs.Promises.{AreSound}
use Rattle.replay.specs.Run.{ScriptTurn, Happening, all_happenings, Exchange, record_of, links_turn, links_turns, turn_with, events_of, answered_on, happenings_of}
use Rattle.replay.specs.Script.{Record, ScriptCut, IsScriptCut, IsRecord, cut_bytes, cut_records, spelling}
use Rattle.replay.specs.Seen.{SinkView, ScriptView, World, begun}
use Rattle.replay.specs.Steps.{RunState}
use Rattle.replay.specs.declared.feeding.FeedEnd.{FeedEnd}
use Rattle.replay.specs.declared.feeding.FeedEnd.TheVariants.{All, Part, Unanswered}
use Rattle.replay.specs.declared.intake.Stop.{Stop}
use Rattle.replay.specs.declared.intake.Stop.TheVariants.{End, Fault, Full, Memory}
use Rattle.replay.specs.declared.output.Unwritten.{Unwritten}
use Rattle.replay.specs.declared.output.Unwritten.TheVariants.{Broken, Wanting}
use Rattle.std.specs.Io.KnownBytes.{Appends}
use Rattle.std.specs.Prelude.{◌≡◌, ℕ, ◌⊎◌, Bool, List, Option, Some, [], ◌∷◌, ◌++◌, length, map, None, ◌≢◌, ◌≤◌, Result, MatchResult, OnOk}

-- why not all was written: the sink has failed and took a front of it; or memory was wanted, and it took whole frames
abbrev pub IsUnwritten : Unwritten → RunState → SinkView → SinkView → List Happening → Type 0
IsUnwritten Broken s a b happened = WritesFront s a b happened × Rose a.faults b.faults
IsUnwritten Wanting s a b happened = WritesFirst s a b happened

-- all was written, or not and why
abbrev pub IsWritten : {T : Type 0} → Result T Unwritten → RunState → SinkView → SinkView → List Happening → Type 0
IsWritten r s a b happened = MatchResult r (λ _. Wrote s a b happened) (λ why. IsUnwritten why s a b happened)

-- why a frame was not written, and what was
abbrev pub NotFramed : Unwritten → SinkView → SinkView → Reply → Type 0
NotFramed Broken a b reply = AppendsFront a.written b.written (frame reply) × Rose a.faults b.faults
NotFramed Wanting a b reply = Appends a.written b.written []

-- the frame of a reply was written; or the sink has failed and took a front of it; or memory was wanted, and it took nothing
abbrev pub IsFramed : {T : Type 0} → Result T Unwritten → SinkView → SinkView → Reply → Type 0
IsFramed r a b reply = MatchResult r (λ _. Appends a.written b.written (frame reply)) (λ why. NotFramed why a b reply)

-- the events of a link were answered in order, and this is kept now; or not all replies were written and why
pub record AnswersEvents {T : Type 0} (result : Result T Unwritten) (s now : RunState) (link moment : ℕ) (events : List Event) (a b : SinkView) : Type 0 where
  pub exchanges : List Exchange
  pub of_events : events_of exchanges ≡ events
  pub written : IsWritten result s a b (answered_on link moment exchanges)
  pub keeps : OnOk result (now ≡ after s (answered_on link moment exchanges))

-- these are the turns of a run of the links, of which the last is one of these bytes with these events and further ones, whose replies were written, or not and why
pub record Feeds {T : Type 0} (result : Result T Unwritten) (links' : Links) (limit : ℕ) (s now : RunState) (before : List Turn) (link moment : ℕ) (bytes : List ℕ) (events : List Event)
    (a b : SinkView) : Type 0 where
  pub more : List Exchange
  pub run : IsRun limit (before ++ turn_with link moment bytes (events ++ events_of more) ∷ [])
  pub stands : OnOk result (StandFor links' limit (before ++ turn_with link moment bytes (events ++ events_of more) ∷ []))
  pub written : IsWritten result s a b (answered_on link moment more)
  pub keeps : OnOk result (now ≡ after s (answered_on link moment more))

-- one more record was read, and answered, and this is kept now
pub record AnswersRecord (links' : Links) (s now : RunState) (before : List Turn) (a b : World) : Type 0 where
  pub turn : ScriptTurn
  pub is_record : IsRecord s.site (record_of turn)
  pub took : Took a.script b.script (spelling s.site (record_of turn))
  pub stands : StandFor links' s.site.limits.file (before ++ links_turn turn)
  pub sound : AreSound s (happenings_of turn)
  pub wrote : Wrote s a.out b.out (happenings_of turn)
  pub keeps : now ≡ after s (happenings_of turn)

-- a record was answered, or the script ended
abbrev pub Turns : Option Status → Links → RunState → RunState → List Turn → World → World → Type 0
Turns None links' s now before a b = AnswersRecord links' s now before a b
Turns (Some status) links' s now before a b = Finishes s before a b status

-- the same, where the record had begun with front before a
pub record FinishesAfter (s : RunState) (before : List Turn) (front : List ℕ) (a b : World) (status : Status) : Type 0 where
  pub cut : ScriptCut
  pub is_cut : IsScriptCut s.site cut
  pub rest : List ℕ
  pub spelled : cut_bytes s.site cut ≡ front ++ rest
  pub took : Took a.script b.script rest
  pub turns : List ScriptTurn
  pub brought : map record_of turns ≡ cut_records cut
  pub run : IsRunBehind s.site.limits.file before (links_turns turns)
  pub sound : AreSound s (all_happenings turns)
  pub ends : EndsScript status s (begun a front) b cut (all_happenings turns)

-- the record had begun with front before a, and was answered
pub record AnswersAfter (links' : Links) (s now : RunState) (before : List Turn) (front : List ℕ) (a b : World) : Type 0 where
  pub turn : ScriptTurn
  pub is_record : IsRecord s.site (record_of turn)
  pub rest : List ℕ
  pub spelled : spelling s.site (record_of turn) ≡ front ++ rest
  pub took : Took a.script b.script rest
  pub stands : StandFor links' s.site.limits.file (before ++ links_turn turn)
  pub sound : AreSound s (happenings_of turn)
  pub wrote : Wrote s a.out b.out (happenings_of turn)
  pub keeps : now ≡ after s (happenings_of turn)

-- either of the two
abbrev pub TurnsAfter : Option Status → Links → RunState → RunState → List Turn → List ℕ → World → World → Type 0
TurnsAfter None links' s now before front a b = AnswersAfter links' s now before front a b
TurnsAfter (Some status) links' s now before front a b = FinishesAfter s before front a b status

-- the status that a stop gives
abbrev pub stop_status : Stop → ℕ → Status
stop_status End taken = Script taken
stop_status Fault taken = ReadFault
stop_status Full taken = TooLong
stop_status Memory taken = NoMemory

-- the status where replies were not written
abbrev pub unwritten_status : Unwritten → Status
unwritten_status Broken = WriteFault
unwritten_status Wanting = NoMemory

-- how the feeding of a record's bytes ended: all came, or some and why no more did, with all replies written; or not all replies were written
abbrev pub FedTo : FeedEnd → ℕ → List ℕ → List Happening → RunState → World → World → Type 0
FedTo All len bytes happened s a b = (length bytes ≡ len) × Wrote s a.out b.out happened
FedTo (Part why) len bytes happened s a b = HasStopped why a.script b.script × Wrote s a.out b.out happened
FedTo (Unanswered why) len bytes happened s a b = IsUnwritten why s a.out b.out happened

-- where all replies were written
abbrev pub WhereAnswered : FeedEnd → Type 0 → Type 0
WhereAnswered All P = P
WhereAnswered (Part why) P = P
WhereAnswered (Unanswered why) P = Unit {0}

-- bytes of a record of this length were taken, and fed to its link as they came
pub record Delivers (end : FeedEnd) (links' : Links) (s now : RunState) (before : List Turn) (link moment len : ℕ) (a b : World) : Type 0 where
  pub bytes : List ℕ
  pub exchanges : List Exchange
  pub took : Took a.script b.script bytes
  pub fits : length bytes ≤ len
  pub run : IsRun s.site.limits.file (before ++ turn_with link moment bytes (events_of exchanges) ∷ [])
  pub answered : FedTo end len bytes (answered_on link moment exchanges) s a b
  pub stands : WhereAnswered end (StandFor links' s.site.limits.file (before ++ turn_with link moment bytes (events_of exchanges) ∷ []))
  pub keeps : WhereAnswered end (now ≡ after s (answered_on link moment exchanges))

-- the last LF of a record was taken; or another byte, or none
abbrev pub TookLf : Option Status → ScriptView → ScriptView → Type 0
TookLf None a b = Took a b (10 ∷ [])
TookLf (Some status) a b =
    ((byte : ℕ) × (byte ≢ 10) × Took a b (byte ∷ []) × (status ≡ Script a.taken))
    ⊎ ((why : Stop) × Took a b [] × HasStopped why a b × (status ≡ stop_status why b.taken))

-- such a script, with no fault of the source or the sink, is read to its line `end`, or memory is wanted
abbrev pub RunsToEnd : Bool → Status → Site → SourceView → SourceView → SinkView → SinkView → Type 0
RunsToEnd tells status site from to a b =
    (records : List Record) (rest : List ℕ) → ReachesEnd site from.left records rest → ¬ (Rose from.faults to.faults) → ¬ (Rose a.faults b.faults)
    → ((status ≡ Ok) × IsReadWhole tells site records rest to a b) ⊎ (status ≡ NoMemory)
