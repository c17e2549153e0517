-- What is written for a run hangs on no medium, and not on how its drives are seen.
use Rattle.std.proofs.Common.{◌≡◌, ℕ, zero, suc, false, inl, inr, List, [], ◌∷◌, ◌++◌, refl, sym, ap, ap₂, ◌∙◌}
use Rattle.std.specs.Prelude.{Option, Some, None, map, option_map, slice_get, slice_set}
use Rattle.std.proofs.lemmas.Bool.{cases_Bool}
use Rattle.std.proofs.lemmas.List.{map-append}
use Rattle.blob.specs.Records.{MediumView}
use Rattle.cta_model.specs.declared.answers.Answer.{Answer}
use Rattle.cta_model.specs.declared.answers.Answer.TheVariants as answer
use Rattle.cta_model.specs.declared.asks.Ask.{Ask}
use Rattle.cta_model.specs.declared.asks.Ask.TheVariants as ask
use Rattle.cta_model.specs.Answers.{answer_of, is_accepted}
use Rattle.cta_model.specs.Kept.{Kept, kept_after, shelf_after}
use Rattle.conn.specs.Cut.{Event, Continues, Requests, Refuses}
use Rattle.drive_session.specs.declared.reports.Done.{Done}
use Rattle.drive_session.specs.Table.{Row}
use Rattle.media.specs.Counted.{no_counts}
use Rattle.media.specs.Drives.{DriveView}
use Rattle.tape_routes.specs.Asked.{Asked, Asks, Looks, Replies, asked}
use Rattle.tape_routes.specs.Answering.{kept_then, reply_to, request_keeps, request_reply}
use Rattle.wire_http.specs.declared.request.Request.{Request}
use Rattle.wire_http.specs.Reply.{view_text}
use Rattle.replay.specs.Output.{event_keeps, event_text, frame, output_on, run_behind, written_for}
use Rattle.replay.specs.Run.{Answered, Exchange, Happening, OnDrive, OnLink, ScriptTurn, Stepped, all_happenings, answered_on, happenings_of}
use Rattle.replay.specs.Steps.{DriveState, RunState, answer_to, behind_row, kept_by, kept_in, medium_behind, phase_behind, row_at, row_in, written_by}

-- ---- without media

-- nothing is seen of a drive
abbrev unseen : DriveView
unseen = record { loaded = false; honest = false; calls = 0; faults = no_counts; plan = None }

abbrev plain_drive : DriveState → DriveState
plain_drive d = record { phase = d.phase; seen = unseen; medium = None }

abbrev plain_kept : Kept → Kept
plain_kept k = record k { shelf = [] }

abbrev plain_run : RunState → RunState
plain_run s = record { site = s.site; history = s.history; shelf = []; drives = map plain_drive s.drives }

abbrev plain : Happening → Happening
plain (Answered link moment exchange) = Answered link moment exchange
plain (Stepped drive moment done seen left) = Stepped drive moment done unseen None

abbrev pub plain_turn : ScriptTurn → ScriptTurn
plain_turn (OnLink link moment bytes exchanges) = OnLink link moment bytes exchanges
plain_turn (OnDrive drive moment done seen left) = OnDrive drive moment done unseen None

-- ---- what is kept

no_shelf : (k : Ask) (a : Answer) (brought : Option MediumView) → shelf_after k a brought [] ≡ []
no_shelf (ask.Next d) (answer.Mounted m way v) brought = refl
no_shelf (ask.End m fault) a None = refl
no_shelf (ask.End m fault) a (Some x) = refl
no_shelf _ a brought = refl

plain_after : (k : Kept) (t : ℕ) (x : Ask) (a : Answer) (brought other : Option MediumView) → kept_after (plain_kept k) t x a other ≡ plain_kept (kept_after k t x a brought)
plain_after k t x a brought other =
    elim (cases_Bool (is_accepted a)) [
      | inl hit ↦ rw (hit, no_shelf x a other) refl
      | inr miss ↦ rw miss refl
    ]

plain_then : (k : Kept) (t : ℕ) (x : Asked) → kept_then (plain_kept k) t x ≡ plain_kept (kept_then k t x)
unfolding kept_then
plain_then k t (Asks x sent) = plain_after k t x (answer_of k.site k.history t x) None None
plain_then k t (Looks look) = refl
plain_then k t (Replies reply) = refl

plain_keeps : (k : Kept) (t : ℕ) (e : Event) → event_keeps (plain_kept k) t e ≡ plain_kept (event_keeps k t e)
unfolding request_keeps
plain_keeps k t Continues = refl
plain_keeps k t (Requests request) = plain_then k t (asked k.site request)
plain_keeps k t (Refuses refusal) = refl

plain_by : (k : Kept) (t : ℕ) (left : Option MediumView) (x : Option Ask) → kept_by (plain_kept k) t None x ≡ plain_kept (kept_by k t left x)
plain_by k t left None = refl
plain_by k t left (Some x) = plain_after k t x (answer_of k.site k.history t x) left None

-- ---- what is written

plain_reply : (k : Kept) (t : ℕ) (request : Request) (x : Asked) (content : Option (List ℕ)) → reply_to (plain_kept k) t request.close x content ≡ reply_to k t request.close x content
unfolding reply_to
plain_reply k t request (Asks x sent) content = refl
plain_reply k t request (Looks look) content = refl
plain_reply k t request (Replies reply) content = refl

plain_text : (k : Kept) (t : ℕ) (content : Option (List ℕ)) (e : Event) → event_text (plain_kept k) t content e ≡ event_text k t content e
unfolding request_reply
plain_text k t content Continues = refl
plain_text k t content (Requests request) = ap view_text (plain_reply k t request (asked k.site request) content)
plain_text k t content (Refuses refusal) = refl

got_plain : (ds : List DriveState) (d : ℕ) → slice_get (map plain_drive ds) d ≡ option_map plain_drive (slice_get ds d)
got_plain [] d = refl
got_plain (x ∷ ds) zero = refl
got_plain (x ∷ ds) (suc d) = got_plain ds d

plain_row : (drive : ℕ) (heard : Option Done) (o : Option DriveState) → row_in drive heard (option_map plain_drive o) ≡ row_in drive heard o
plain_row drive heard None = refl
plain_row drive heard (Some d) = refl

same_row : (s : RunState) (drive : ℕ) (done : Option Done) → row_at (plain_run s) drive done ≡ row_at s drive done
same_row s drive done = ap (row_in drive done) (got_plain s.drives drive) ∙ plain_row drive done (slice_get s.drives drive)

plain_line : (s : RunState) (drive moment : ℕ) (o : Option Row) → written_by (plain_run s) drive moment o ≡ written_by s drive moment o
plain_line s drive moment None = refl
plain_line s drive moment (Some r) = refl

same_written : (s : RunState) (h : Happening) → written_for (plain_run s) (plain h) ≡ written_for s h
same_written s (Answered link moment exchange) = ap (λ text. frame (record { link = link; text = text })) (plain_text (kept_in s) moment exchange.content exchange.event)
same_written s (Stepped drive moment done seen left) = ap (written_by (plain_run s) drive moment) (same_row s drive done) ∙ plain_line s drive moment (row_at s drive done)

-- ---- the run behind it

abbrev with_all : RunState → Kept → List DriveState → RunState
with_all s k ds = record { site = s.site; history = k.history; shelf = k.shelf; drives = ds }

no_medium : (k : Option Ask) (a : Option Answer) → medium_behind [] None k a ≡ None
no_medium None a = refl
no_medium (Some (ask.Next d)) None = refl
no_medium (Some (ask.Next d)) (Some (answer.Mounted m way v)) = refl
no_medium (Some (ask.Next d)) (Some a) = refl
no_medium (Some (ask.End m fault)) a = refl
no_medium (Some k) a = refl

put_plain : (ds : List DriveState) (d : ℕ) (x : DriveState) → slice_set (map plain_drive ds) d (plain_drive x) ≡ map plain_drive (slice_set ds d x)
put_plain [] d x = refl
put_plain (y ∷ ds) zero x = refl
put_plain (y ∷ ds) (suc d) x = ap (λ rest. plain_drive y ∷ rest) (put_plain ds d x)

plain_behind : (s : RunState) (drive moment : ℕ) (seen : DriveView) (left : Option MediumView) (o : Option Row) → behind_row (plain_run s) drive moment unseen None o ≡ plain_run (behind_row s drive moment seen left o)
plain_behind s drive moment seen left None = refl
plain_behind s drive moment seen left (Some r) =
    let a = answer_to (kept_in s) moment r in
    let state : DriveState = record { phase = phase_behind r a; seen = seen; medium = medium_behind s.shelf left r.ask a } in
    let none : DriveState = record { phase = phase_behind r a; seen = unseen; medium = medium_behind [] None r.ask a } in
    let here : none ≡ plain_drive state = ap (λ (m : Option MediumView). record { phase = phase_behind r a; seen = unseen; medium = m }) (no_medium r.ask a) in
    let drives = ap (slice_set (map plain_drive s.drives) drive) here ∙ put_plain s.drives drive state in
    ap₂ (with_all s) (plain_by (kept_in s) moment left r.ask) drives

same_run : (s : RunState) (h : Happening) → run_behind (plain_run s) (plain h) ≡ plain_run (run_behind s h)
same_run s (Answered link moment exchange) = ap (λ k. with_all s k (map plain_drive s.drives)) (plain_keeps (kept_in s) moment exchange.event)
same_run s (Stepped drive moment done seen left) = ap (behind_row (plain_run s) drive moment unseen None) (same_row s drive done) ∙ plain_behind s drive moment seen left (row_at s drive done)

same_output : (s : RunState) (hs : List Happening) → output_on (plain_run s) (map plain hs) ≡ output_on s hs
same_output s [] = refl
same_output s (h ∷ hs) =
    ap₂ (λ text rest. text ++ rest) (same_written s h) (ap (λ t. output_on t (map plain hs)) (same_run s h) ∙ same_output (run_behind s h) hs)

-- ---- turns

plain_answers : (link moment : ℕ) (xs : List Exchange) → map plain (answered_on link moment xs) ≡ answered_on link moment xs
plain_answers link moment [] = refl
plain_answers link moment (x ∷ xs) = ap (λ hs. Answered link moment x ∷ hs) (plain_answers link moment xs)

plain_turns_of : (t : ScriptTurn) → map plain (happenings_of t) ≡ happenings_of (plain_turn t)
plain_turns_of (OnLink link moment bytes exchanges) = plain_answers link moment exchanges
plain_turns_of (OnDrive drive moment heard seen left) = refl

plain_all : (ts : List ScriptTurn) → map plain (all_happenings ts) ≡ all_happenings (map plain_turn ts)
plain_all [] = refl
plain_all (t ∷ ts) = map-append plain (happenings_of t) (all_happenings ts) ∙ ap₂ (λ xs ys. xs ++ ys) (plain_turns_of t) (plain_all ts)

-- turns that differ in media, and in how drives are seen, have one output
pub one_plain_output : (s : RunState) (xs ys : List ScriptTurn) → map plain_turn xs ≡ map plain_turn ys → output_on s (all_happenings xs) ≡ output_on s (all_happenings ys)
one_plain_output s xs ys same =
    let all = plain_all xs ∙ ap all_happenings same ∙ sym (plain_all ys) in
    sym (same_output s (all_happenings xs)) ∙ ap (output_on (plain_run s)) all ∙ same_output s (all_happenings ys)
