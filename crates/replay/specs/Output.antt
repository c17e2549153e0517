-- What is written for what happens in a run, each on what is kept behind what happened before it.
use Rattle.conn.specs.Cut.{Event, Continues, Requests, Refuses, continue_text}
use Rattle.cta_model.specs.Kept.{Kept}
use Rattle.replay.specs.Run.{Happening, Answered, Stepped}
use Rattle.replay.specs.Steps.{IsStepOf, RunState, behind_row, kept_in, row_at, with_kept, written_by}
use Rattle.std.specs.Prelude.{◌≡◌, ℕ, List, Option, [], ◌∷◌, ◌++◌, length, codes, decimal, None}
use Rattle.tape_routes.specs.Answering.{request_reply, request_keeps, FitsRequest}
use Rattle.wire_http.specs.Reply.{reply_text, refusal_reply}

-- ---- an event of a link

-- the text of the reply to an event, with this content: a 100 Continue and a refusal have their own
abbrev pub event_text : Kept → ℕ → Option (List ℕ) → Event → List ℕ
event_text kept moment content Continues = continue_text
event_text kept moment content (Requests request) = request_reply kept moment request content
event_text kept moment content (Refuses refusal) = reply_text (refusal_reply refusal)

-- the content that goes out with the reply to an event: of the length and SHA-256 that the archive's answer says, and none with any other reply
abbrev pub FitsEvent : Kept → ℕ → Option (List ℕ) → Event → Type 0
FitsEvent kept moment content Continues = content ≡ None
FitsEvent kept moment content (Requests request) = FitsRequest kept moment request content
FitsEvent kept moment content (Refuses refusal) = content ≡ None

-- what is kept behind an event: a 100 Continue and a refusal change nothing
abbrev pub event_keeps : Kept → ℕ → Event → Kept
event_keeps kept moment Continues = kept
event_keeps kept moment (Requests request) = request_keeps kept moment request
event_keeps kept moment (Refuses refusal) = kept

-- ---- what happens

-- a reply on a link
pub record Reply : Type 0 where
  pub link : ℕ
  pub text : List ℕ

-- the frame of a reply: a line with its link and length, its text and an LF
unfoldable pub frame : Reply → List ℕ
frame r = codes "reply " ++ decimal r.link ++ codes " " ++ decimal (length r.text) ++ codes "\n" ++ r.text ++ codes "\n"

-- what is written for it: the frame of the reply to an event, or the line of a step
abbrev pub written_for : RunState → Happening → List ℕ
written_for s (Answered link moment exchange) = frame (record { link = link; text = event_text (kept_in s) moment exchange.content exchange.event })
written_for s (Stepped drive moment done seen left) = written_by s drive moment (row_at s drive done)

-- the run behind it
abbrev pub run_behind : RunState → Happening → RunState
run_behind s (Answered link moment exchange) = with_kept s (event_keeps (kept_in s) moment exchange.event)
run_behind s (Stepped drive moment done seen left) = behind_row s drive moment seen left (row_at s drive done)

-- the content of its reply fits the answer; a step is one of the drive's table
abbrev pub FitsHappening : RunState → Happening → Type 0
FitsHappening s (Answered link moment exchange) = FitsEvent (kept_in s) moment exchange.content exchange.event
FitsHappening s (Stepped drive moment done seen left) = IsStepOf s drive moment done seen left

-- ---- all that happens

-- the run behind it all
abbrev pub after : RunState → List Happening → RunState
after s [] = s
after s (h ∷ hs) = after (run_behind s h) hs

-- all that is written
abbrev pub output_on : RunState → List Happening → List ℕ
output_on s [] = []
output_on s (h ∷ hs) = written_for s h ++ output_on (run_behind s h) hs

-- each reply has the content that its answer says, and each step is one of its drive's table
abbrev pub HaveContents : RunState → List Happening → Type 0
HaveContents s [] = Unit {0}
HaveContents s (h ∷ hs) = FitsHappening s h × HaveContents (run_behind s h) hs
