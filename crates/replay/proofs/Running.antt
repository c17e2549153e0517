-- A run over whole records, and its end.
use Rattle.std.proofs.Common.{◌≡◌, ℕ, ◌<◌, ◌≤◌, Bool, true, false, List, [], ◌∷◌, ◌++◌, length, Option, None, Some, refl, sym, ap, ◌∙◌, subst, arith, append-nil, append_assoc}
use Rattle.std.specs.Prelude.{map}
use Rattle.std.specs.List.{AllByRecursion}
use Rattle.std.proofs.lemmas.List.{map-append}
use Rattle.std.proofs.lemmas.List.Concat.{flat_map-append}
use Rattle.blob.specs.Records.{MediumView}
use Rattle.cta_site.specs.declared.site.Site.{Site}
use Rattle.cta_site.specs.WellFormed.{IsWellFormed}
use Rattle.cta_model.specs.Kept.{Kept, kept_after}
use Rattle.drive_session.specs.Table.{Row}
use Rattle.media.specs.Drives.{DriveView}
use Rattle.cta_model.specs.Answers.{is_accepted}
use Rattle.cta_model.specs.declared.asks.Ask.{Ask}
use Rattle.cta_model.specs.declared.answers.Answer.{Answer}
use Rattle.conn.specs.Cut.{Event, Continues, Requests, Refuses}
use Rattle.wire_http.specs.declared.request.Request.{Request}
use Rattle.tape_routes.specs.Asked.{Asked, Asks, Looks, Replies, asked}
use Rattle.tape_routes.specs.Answering.{kept_then, request_keeps}
use Rattle.links.specs.Run.{IsRunBehind}
use Rattle.links.specs.Laws.{RunsFollow}
use Rattle.links.specs.Standing.{StandFor, LinksStand}
use Rattle.links.specs.declared.links.Links.{Links}
use Rattle.archive_opening.specs.Seen.{SourceView}
use Rattle.archive_opening.specs.declared.status.Status.{Status}
use Rattle.archive_opening.specs.declared.status.Status.TheVariants.{NoMemory}
use Rattle.replay.specs.Seen.{SinkView, World, unread}
use Rattle.replay.specs.Script.{Record, OfLink, OfDrive, IsRecord, IsScriptCut, InLine, cut_bytes, whole_bytes, tail_bytes, tail_records, spelling}
use Rattle.replay.specs.Run.{ScriptTurn, Happening, Answered, Stepped, record_of, links_turn, links_turns, happenings_of, all_happenings}
use Rattle.replay.specs.Output.{after, event_keeps, run_behind}
use Rattle.replay.specs.Promises.{AreSound}
use Rattle.replay.specs.Steps.{Made, RunState, begun_with, behind_row, row_at}
use Rattle.replay.specs.Intake.{Took}
use Rattle.replay.specs.Outcome.{AreMade, Wrote, EndsScript, Finishes, Replays}
use Rattle.replay.specs.RecordTurns.{AnswersRecord}
use Rattle.replay.proofs.Taking.{Took-trans, Took-none}
use Rattle.replay.proofs.Writing.{after-behind, wrote_behind, wrote_none, first_none}
use Rattle.replay.proofs.Returned.{none_kept}
use Rattle.replay.proofs.Behind.{EndsScript-behind, IsBefore, behind, whole_bytes-append}

-- ---- the site stays

pub kept_after-site : (k : Kept) (t : ℕ) (asks : Ask) (a : Answer) (brought : Option MediumView) → (kept_after k t asks a brought).site ≡ k.site
kept_after-site k t asks a brought = by_cases (is_accepted a) refl
  where
    by_cases : (b : Bool) → b ≡ is_accepted a → (kept_after k t asks a brought).site ≡ k.site
    by_cases true e = rw (← e) refl
    by_cases false e = rw (← e) refl

pub kept_then-site : (k : Kept) (t : ℕ) (x : Asked) → (kept_then k t x).site ≡ k.site
unfolding kept_then
kept_then-site k t (Asks ask content) = kept_after-site k t ask _ None
kept_then-site k t (Looks look) = refl
kept_then-site k t (Replies reply) = refl

pub request_keeps-site : (k : Kept) (t : ℕ) (request : Request) → (request_keeps k t request).site ≡ k.site
unfolding request_keeps
request_keeps-site k t request = kept_then-site k t (asked k.site request)

pub event_keeps-site : (k : Kept) (t : ℕ) (e : Event) → (event_keeps k t e).site ≡ k.site
event_keeps-site k t Continues = refl
event_keeps-site k t (Requests request) = request_keeps-site k t request
event_keeps-site k t (Refuses refusal) = refl

behind_row-site : (k : RunState) (drive moment : ℕ) (seen : DriveView) (left : Option MediumView) (r : Option Row) → (behind_row k drive moment seen left r).site ≡ k.site
behind_row-site k drive moment seen left None = refl
behind_row-site k drive moment seen left (Some r) = refl

pub run_behind-site : (k : RunState) (h : Happening) → (run_behind k h).site ≡ k.site
run_behind-site k (Answered link moment exchange) = refl
run_behind-site k (Stepped drive moment done seen left) = behind_row-site k drive moment seen left (row_at k drive done)

pub after-site : (k : RunState) (hs : List Happening) → (after k hs).site ≡ k.site
after-site k [] = refl
after-site k (h ∷ hs) = after-site (run_behind k h) hs ∙ run_behind-site k h

-- ---- what steps keep

sound-append : (k : RunState) (xs ys : List Happening) → AreSound k xs → AreSound (after k xs) ys → AreSound k (xs ++ ys)
sound-append k [] ys p q = q
sound-append k (x ∷ xs) ys p q = (p.0, sound-append (run_behind k x) xs ys p.1 q)

pub sound_behind : (k n : RunState) (xs ys : List Happening) → n ≡ after k xs → AreSound k xs → AreSound n ys → AreSound k (xs ++ ys)
sound_behind k n xs ys e p q = sound-append k xs ys p (subst (λ j. AreSound j ys) e q)

-- ---- a run

-- from a to m so many whole records were read and answered, n is kept now, and the links stand for these records
pub record Ran (links : Links) (k n : RunState) (a m : World) : Type 0 where
  pub turns : List ScriptTurn
  pub each : AllByRecursion (IsRecord k.site) (map record_of turns)
  pub took : Took a.script m.script (whole_bytes k.site (map record_of turns))
  pub stands : StandFor links k.site.limits.file (links_turns turns)
  pub sound : AreSound k (all_happenings turns)
  pub wrote : Wrote k a.out m.out (all_happenings turns)
  pub keeps : n ≡ after k (all_happenings turns)

pub Ran-none : (links : Links) (k : RunState) (a : World) → LinksStand links k.site.limits.file (λ link. []) (λ link. []) → Ran links k k a a
Ran-none links k a stands = record { turns = []; each = tt; took = Took-none a.script; stands = (stands, tt); sound = tt; wrote = wrote_none k a.out; keeps = refl }

pub AllByRecursion-append : {X : Type 0} (P : X → Type 0) (xs ys : List X) → AllByRecursion P xs → AllByRecursion P ys → AllByRecursion P (xs ++ ys)
AllByRecursion-append P [] ys p q = q
AllByRecursion-append P (x ∷ xs) ys p q = (p.0, AllByRecursion-append P xs ys p.1 q)

pub same_site : {links : Links} {k n : RunState} {a m : World} (r : Ran links k n a m) → n.site ≡ k.site
same_site {links} {k} r = ap (λ (j : RunState). j.site) r.keeps ∙ after-site k (all_happenings r.turns)

records-push : (ts : List ScriptTurn) (t : ScriptTurn) → map record_of (ts ++ t ∷ []) ≡ map record_of ts ++ record_of t ∷ []
records-push ts t = map-append record_of ts (t ∷ [])

whole_bytes-push : (site : Site) (records : List Record) (r : Record) → whole_bytes site (records ++ r ∷ []) ≡ whole_bytes site records ++ spelling site r
whole_bytes-push site records r = whole_bytes-append site records (r ∷ []) ∙ ap (λ l. whole_bytes site records ++ l) (append-nil (spelling site r))

happened-push : (ts : List ScriptTurn) (t : ScriptTurn) → all_happenings (ts ++ t ∷ []) ≡ all_happenings ts ++ happenings_of t
happened-push ts t = flat_map-append happenings_of ts (t ∷ []) ∙ ap (λ l. all_happenings ts ++ l) (append-nil (happenings_of t))

turns-push : (ts : List ScriptTurn) (t : ScriptTurn) → links_turns (ts ++ t ∷ []) ≡ links_turns ts ++ links_turn t
turns-push ts t = flat_map-append links_turn ts (t ∷ []) ∙ ap (λ l. links_turns ts ++ l) (append-nil (links_turn t))

pub Ran-more : (links links' : Links) (k n now : RunState) (a m b : World) (r : Ran links k n a m) → AnswersRecord links' n now (links_turns r.turns) m b → Ran links' k now a b
Ran-more links links' k n now a m b r x =
    let site = same_site r in
    let records = map record_of r.turns in
    let bytes = ap (whole_bytes k.site) (records-push r.turns x.turn) ∙ whole_bytes-push k.site records (record_of x.turn) in
    let is_record = subst (λ s. IsRecord s (record_of x.turn)) site x.is_record in
    let took = subst (λ s. Took m.script b.script (spelling s (record_of x.turn))) site x.took in
    let happened = happened-push r.turns x.turn in
    record {
      turns = r.turns ++ x.turn ∷ [];
      each = subst (AllByRecursion (IsRecord k.site)) (sym (records-push r.turns x.turn))
          (AllByRecursion-append (IsRecord k.site) records (record_of x.turn ∷ []) r.each (is_record, tt));
      took = subst (Took a.script b.script) (sym bytes) (Took-trans r.took took);
      stands = subst (StandFor links' k.site.limits.file) (sym (turns-push r.turns x.turn)) (subst (λ s. StandFor links' s.limits.file (links_turns r.turns ++ links_turn x.turn)) site x.stands);
      sound = subst (AreSound k) (sym happened) (sound_behind k n (all_happenings r.turns) (happenings_of x.turn) r.keeps r.sound x.sound);
      wrote = subst (Wrote k a.out b.out) (sym happened) (wrote_behind k n a.out m.out b.out (all_happenings r.turns) (happenings_of x.turn) r.keeps r.wrote x.wrote);
      keeps = after-behind k n now (all_happenings r.turns) (happenings_of x.turn) r.keeps x.keeps ∙ ap (after k) (sym happened);
    }

-- each record takes a byte
pub spelling_positive : (site : Site) (r : Record) → 0 < length (spelling site r)
spelling_positive site (OfLink f) = omega arith
spelling_positive site (OfDrive drive moment) = omega arith

module _ (follow : RunsFollow) where
  pub Ran-ends : (links : Links) (k n : RunState) (a m b : World) (status : Status) (r : Ran links k n a m) → a.script.faults ≤ m.script.faults → a.out.faults ≤ m.out.faults
      → Finishes n (links_turns r.turns) m b status → Finishes k [] a b status
  Ran-ends links k n a m b status r reads writes f =
      let site = same_site r in
      let records = map record_of r.turns in
      let tail = tail_bytes k.site f.cut.tail in
      let bytes : whole_bytes k.site (records ++ f.cut.whole) ++ tail ≡ whole_bytes k.site records ++ cut_bytes k.site f.cut =
      ap (λ l. l ++ tail) (whole_bytes-append k.site records f.cut.whole) ∙ append_assoc (whole_bytes k.site records) (whole_bytes k.site f.cut.whole) tail in
      let took = subst (λ s. Took m.script b.script (cut_bytes s f.cut)) site f.took in
      let is_cut = subst (λ s. IsScriptCut s f.cut) site f.is_cut in
      let run = subst (λ s. IsRunBehind s.limits.file (links_turns r.turns) (links_turns f.turns)) site f.run in
      let before : IsBefore k n records (all_happenings r.turns) a m = record {
        keeps = r.keeps;
        same = site;
        taken = r.took.count;
        read_later = reads;
        write_later = writes;
        wrote = r.wrote;
      } in
      record {
        cut = behind records f.cut;
        is_cut = (AllByRecursion-append (IsRecord k.site) records f.cut.whole r.each is_cut.0, is_cut.1);
        took = subst (Took a.script b.script) (sym bytes) (Took-trans r.took took);
        turns = r.turns ++ f.turns;
        brought = map-append record_of r.turns f.turns ∙ ap (λ l. records ++ l) f.brought ∙ sym (append_assoc records f.cut.whole (tail_records f.cut.tail));
        run = subst (IsRunBehind k.site.limits.file []) (sym (flat_map-append links_turn r.turns f.turns))
            ((follow k.site.limits.file [] (links_turns r.turns) (links_turns f.turns)).1 (r.stands.1, run));
        sound = subst (AreSound k) (sym (flat_map-append happenings_of r.turns f.turns)) (sound_behind k n (all_happenings r.turns) (all_happenings f.turns) r.keeps r.sound f.sound);
        ends = subst (EndsScript status k a b (behind records f.cut)) (sym (flat_map-append happenings_of r.turns f.turns))
            (EndsScript-behind k n records (all_happenings r.turns) (all_happenings f.turns) a m b f.cut before status f.ends);
      }

-- memory was wanted before a byte was taken
pub wanted_first : (tells : Bool) (site : Site) (made : Made) (from : SourceView) (a : SinkView) → IsWellFormed site → AreMade tells site made → Replays tells NoMemory site from from a a
wanted_first tells site made from a valid new = record {
  valid = valid;
  made = made;
  new = new;
  taken = 0;
  within = omega arith;
  finishes = record {
    cut = record { whole = []; tail = InLine [] };
    is_cut = (tt, (tt, omega arith));
    took = Took-none (unread from);
    turns = [];
    brought = refl;
    run = tt;
    sound = tt;
    ends = (tt, first_none (begun_with site made) a []);
  };
  promises = none_kept tells site made new;
}
