-- How a script ends in a record's bytes: what the parts of a reading make of it.
use Rattle.std.proofs.Common.{◌≡◌, ℕ, ◌+◌, ◌-◌, ◌≤◌, inl, inr, List, [], ◌∷◌, ◌++◌, length, Option, None, Some, refl, sym, subst, arith, append-nil, append_assoc, length-append}
use Rattle.archive_opening.specs.declared.status.Status.{Status}
use Rattle.replay.specs.Steps.{RunState}
use Rattle.links.specs.Run.{Turn, IsRun, IsRunBehind}
use Rattle.links.specs.Laws.{RunsFollow}
use Rattle.links.specs.Standing.{StandFor}
use Rattle.links.specs.declared.links.Links.{Links}
use Rattle.replay.specs.Seen.{World, begun}
use Rattle.replay.specs.Line.{http_text, IsHttp}
use Rattle.replay.specs.Script.{ScriptCut, InBytes, NoLf, MayGoOn, ended}
use Rattle.replay.specs.Run.{Exchange, Happening, Answered, OnLink, all_happenings, answered_on, events_of, turn_with}
use Rattle.replay.specs.Output.{after, run_behind}
use Rattle.replay.specs.Promises.{AreSound}
use Rattle.replay.specs.Intake.{Took, HasStopped}
use Rattle.replay.specs.Outcome.{Wrote, EndsScript}
use Rattle.replay.specs.RecordTurns.{IsUnwritten, FinishesAfter, TurnsAfter, TookLf, stop_status, unwritten_status}
use Rattle.replay.specs.declared.intake.Stop.{Stop}
use Rattle.replay.specs.declared.intake.Stop.TheVariants.{End, Fault, Full, Memory}
use Rattle.replay.specs.declared.output.Unwritten.{Unwritten}
use Rattle.replay.specs.declared.output.Unwritten.TheVariants.{Broken, Wanting}
use Rattle.replay.proofs.Taking.{Took-trans}
use Rattle.replay.proofs.Delivering.{stopped_since}
use Rattle.replay.proofs.Writing.{first_all}

pub EndsScript-stopped : (why : Stop) (k : RunState) (a b : World) (c : ScriptCut) (happened : List Happening) → MayGoOn c.tail → HasStopped why a.script b.script → Wrote k a.out b.out happened
    → EndsScript (stop_status why b.script.taken) k a b c happened
EndsScript-stopped End k a b c happened more stop wrote = (inr (more, stop.0, stop.1, refl), wrote)
EndsScript-stopped Fault k a b c happened more stop wrote = (more, stop.0, stop.1, wrote)
EndsScript-stopped Full k a b c happened more stop wrote = (more, stop, wrote)
EndsScript-stopped Memory k a b c happened more stop wrote = (more, first_all k a.out b.out happened wrote)

EndsScript-unwritten : (why : Unwritten) (k : RunState) (a b : World) (c : ScriptCut) (happened : List Happening) → MayGoOn c.tail → IsUnwritten why k a.out b.out happened → EndsScript (unwritten_status why) k a b c happened
EndsScript-unwritten Broken k a b c happened more h = (more, h.1, h.0)
EndsScript-unwritten Wanting k a b c happened more h = (more, h)

abbrev pub http_line : ℕ → ℕ → ℕ → List ℕ
http_line link moment len = ended (http_text link moment len)

-- what is answered on a link is no step
pub exchanges_sound : (k : RunState) (link moment : ℕ) (exchanges : List Exchange) → AreSound k (answered_on link moment exchanges)
exchanges_sound k link moment [] = tt
exchanges_sound k link moment (x ∷ xs) = (tt, exchanges_sound (run_behind k (Answered link moment x)) link moment xs)

-- the one turn of a record
one_happened : (link moment : ℕ) (bytes : List ℕ) (exchanges : List Exchange) → all_happenings (OnLink link moment bytes exchanges ∷ []) ≡ answered_on link moment exchanges
one_happened link moment bytes exchanges = append-nil (answered_on link moment exchanges)

answers_sound : (k : RunState) (link moment : ℕ) (bytes : List ℕ) (exchanges : List Exchange) → AreSound k (all_happenings (OnLink link moment bytes exchanges ∷ []))
answers_sound k link moment bytes exchanges = subst (AreSound k) (sym (one_happened link moment bytes exchanges)) (exchanges_sound k link moment exchanges)

module _ (follow : RunsFollow) (k : RunState) (before : List Turn) (link moment : ℕ) (bytes : List ℕ) (exchanges : List Exchange)
    (run : IsRun k.site.limits.file (before ++ turn_with link moment bytes (events_of exchanges) ∷ [])) where
  abbrev happened : List Happening
  happened = answered_on link moment exchanges

  this_turn : IsRunBehind k.site.limits.file before (turn_with link moment bytes (events_of exchanges) ∷ [])
  this_turn = ((follow k.site.limits.file [] before (turn_with link moment bytes (events_of exchanges) ∷ [])).0 run).1

  short : (a b : World) (len : ℕ) (status : Status) → IsHttp link moment len → length bytes ≤ len → Took a.script b.script bytes
      → EndsScript status k (begun a (http_line link moment len)) b (record { whole = []; tail = InBytes link moment len bytes }) happened → FinishesAfter k before (http_line link moment len) a b status
  short a b len status http fits took ends =
      let c : ScriptCut = record { whole = []; tail = InBytes link moment len bytes } in
      record {
        cut = c;
        is_cut = (tt, (http, fits));
        rest = bytes;
        spelled = refl;
        took = took;
        turns = OnLink link moment bytes exchanges ∷ [];
        brought = refl;
        run = this_turn;
        sound = answers_sound k link moment bytes exchanges;
        ends = subst (EndsScript status k (begun a (http_line link moment len)) b c) (sym (one_happened link moment bytes exchanges)) ends;
      }

  pub short_stopped : (a b : World) (len : ℕ) (why : Stop) → IsHttp link moment len → length bytes ≤ len → Took a.script b.script bytes
      → HasStopped why a.script b.script → Wrote k a.out b.out happened
      → FinishesAfter k before (http_line link moment len) a b (stop_status why b.script.taken)
  short_stopped a b len why http fits took stop wrote =
      short a b len (stop_status why b.script.taken) http fits took
      (EndsScript-stopped why k (begun a (http_line link moment len)) b (record { whole = []; tail = InBytes link moment len bytes }) happened tt (stopped_begun why stop) wrote)
    where
      stopped_begun : (why : Stop) → HasStopped why a.script b.script → HasStopped why (begun a (http_line link moment len)).script b.script
      stopped_begun End h = h
      stopped_begun Fault h = h
      stopped_begun Full h = h
      stopped_begun Memory h = h

  pub short_unwritten : (a b : World) (len : ℕ) (why : Unwritten) → IsHttp link moment len → length bytes ≤ len → Took a.script b.script bytes
      → IsUnwritten why k a.out b.out happened
      → FinishesAfter k before (http_line link moment len) a b (unwritten_status why)
  short_unwritten a b len why http fits took h =
      short a b len (unwritten_status why) http fits took
      (EndsScript-unwritten why k (begun a (http_line link moment len)) b (record { whole = []; tail = InBytes link moment len bytes }) happened tt h)

  -- another byte than the last LF, or none
  no_lf : (status : Status) (a m b : World) → IsHttp link moment (length bytes) → length (http_line link moment (length bytes)) ≤ a.script.taken
      → Took a.script m.script bytes → Wrote k a.out b.out happened → a.script.faults ≤ m.script.faults
      → TookLf (Some status) m.script b.script → FinishesAfter k before (http_line link moment (length bytes)) a b status
  no_lf status a m b http room took wrote later (inl (byte, other, lf, e)) =
      let line = http_line link moment (length bytes) in
      let whole : length (line ++ bytes) ≡ length line + length bytes = length-append line bytes in
      let at : m.script.taken ≡ a.script.taken - length line + 0 + length (line ++ bytes) = omega (arith, took.count) in
      let c : ScriptCut = record { whole = []; tail = NoLf link moment bytes byte } in
      let ends : EndsScript status k (begun a line) b c happened = rw e (inl (length (line ++ bytes), refl, at), wrote) in
      record {
        cut = c;
        is_cut = (tt, (http, other));
        rest = bytes ++ byte ∷ [];
        spelled = append_assoc line bytes (byte ∷ []);
        took = Took-trans took lf;
        turns = OnLink link moment bytes exchanges ∷ [];
        brought = refl;
        run = this_turn;
        sound = answers_sound k link moment bytes exchanges;
        ends = subst (EndsScript status k (begun a line) b c) (sym (one_happened link moment bytes exchanges)) ends;
      }
  no_lf status a m b http room took wrote later (inr (why, lf, stop, e)) =
      let same = rw (append-nil bytes) at (Took-trans took lf) in
      rw e (short_stopped a b (length bytes) why http (omega arith) same (stopped_since why a.script m.script b.script later stop) wrote)

  -- the last LF behind all bytes of a record
  last_lf : (r : Option Status) (links' : Links) (now : RunState) (a m b : World) → IsHttp link moment (length bytes) → length (http_line link moment (length bytes)) ≤ a.script.taken
      → Took a.script m.script bytes → Wrote k a.out b.out happened → StandFor links' k.site.limits.file (before ++ turn_with link moment bytes (events_of exchanges) ∷ []) → now ≡ after k happened
      → a.script.faults ≤ m.script.faults → TookLf r m.script b.script → TurnsAfter r links' k now before (http_line link moment (length bytes)) a b
  last_lf None links' now a m b http room took wrote stands keeps later lf = record {
    turn = OnLink link moment bytes exchanges;
    is_record = http;
    rest = bytes ++ 10 ∷ [];
    spelled = append_assoc (http_line link moment (length bytes)) bytes (10 ∷ []);
    took = Took-trans took lf;
    stands = stands;
    sound = exchanges_sound k link moment exchanges;
    wrote = wrote;
    keeps = keeps;
  }
  last_lf (Some status) links' now a m b http room took wrote stands keeps later lf = no_lf status a m b http room took wrote later lf

  -- the same, where the length is known by an equation
  pub last_lf_len : (r : Option Status) (links' : Links) (now : RunState) (a m b : World) (len : ℕ) → length bytes ≡ len → IsHttp link moment len → length (http_line link moment len) ≤ a.script.taken
      → Took a.script m.script bytes → Wrote k a.out b.out happened → StandFor links' k.site.limits.file (before ++ turn_with link moment bytes (events_of exchanges) ∷ []) → now ≡ after k happened
      → a.script.faults ≤ m.script.faults → TookLf r m.script b.script → TurnsAfter r links' k now before (http_line link moment len) a b
  last_lf_len r links' now a m b len e http room took wrote stands keeps later lf =
      subst (λ n. IsHttp link moment n → length (http_line link moment n) ≤ a.script.taken → TurnsAfter r links' k now before (http_line link moment n) a b) e
      (λ h d. last_lf r links' now a m b h d took wrote stands keeps later lf) http room
