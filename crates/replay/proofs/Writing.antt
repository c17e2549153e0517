-- What is written for what happens, one after the other.
use Rattle.std.proofs.Common.{◌≡◌, ℕ, ◌≤◌, List, [], ◌∷◌, ◌++◌, length, Option, Result, Ok, Err, OnOk, refl, sym, ap, ◌∙◌, subst, arith, append-nil, append_assoc}
use Rattle.std.specs.Prelude.{reverse}
use Rattle.std.specs.Io.KnownBytes.{Appends}
use Rattle.std.proofs.KnownBytes.{Appends-trans, Appends-nil}
use Rattle.std.proofs.lemmas.List.{map-append, reverse-append, reverse-reverse}
use Rattle.outside.specs.Streams.{AppendsFront}
use Rattle.replay.specs.Steps.{RunState, kept_in, with_kept}
use Rattle.conn.specs.Cut.{Event}
use Rattle.conn.specs.Stands.{given_by, next_events}
use Rattle.conn.specs.declared.next.Next.{Next}
use Rattle.replay.specs.Seen.{SinkView}
use Rattle.replay.specs.Run.{Exchange, Happening, Answered, event_of, events_of, bare_exchanges, answered_on}
use Rattle.replay.specs.Output.{HaveContents, FitsEvent, after, event_keeps, event_text, frame, run_behind, output_on, written_for}
use Rattle.replay.specs.Outcome.{Wrote, WritesFirst, WritesFront}
use Rattle.replay.specs.RecordTurns.{IsUnwritten, IsFramed, AnswersEvents}
use Rattle.replay.specs.declared.output.Unwritten.{Unwritten}
use Rattle.replay.specs.declared.output.Unwritten.TheVariants.{Broken, Wanting}

pub output_on-append : (k : RunState) (xs ys : List Happening) → output_on k (xs ++ ys) ≡ output_on k xs ++ output_on (after k xs) ys
output_on-append k [] ys = refl
output_on-append k (x ∷ xs) ys =
    ap (λ l. written_for k x ++ l) (output_on-append (run_behind k x) xs ys)
    ∙ sym (append_assoc (written_for k x) (output_on (run_behind k x) xs) (output_on (after (run_behind k x) xs) ys))

pub after-append : (k : RunState) (xs ys : List Happening) → after k (xs ++ ys) ≡ after (after k xs) ys
after-append k [] ys = refl
after-append k (x ∷ xs) ys = after-append (run_behind k x) xs ys

contents-append : (k : RunState) (xs ys : List Happening) → HaveContents k xs → HaveContents (after k xs) ys → HaveContents k (xs ++ ys)
contents-append k [] ys p q = q
contents-append k (x ∷ xs) ys p q = (p.0, contents-append (run_behind k x) xs ys p.1 q)

pub output_on-behind : (k n : RunState) (xs ys : List Happening) → n ≡ after k xs → output_on k xs ++ output_on n ys ≡ output_on k (xs ++ ys)
output_on-behind k n xs ys e = ap (λ j. output_on k xs ++ output_on j ys) e ∙ sym (output_on-append k xs ys)

contents-behind : (k n : RunState) (xs ys : List Happening) → n ≡ after k xs → HaveContents k xs → HaveContents n ys → HaveContents k (xs ++ ys)
contents-behind k n xs ys e p q = contents-append k xs ys p (subst (λ j. HaveContents j ys) e q)

pub after-behind : (k n now : RunState) (xs ys : List Happening) → n ≡ after k xs → now ≡ after n ys → now ≡ after k (xs ++ ys)
after-behind k n now xs ys e f = f ∙ ap (λ j. after j ys) e ∙ sym (after-append k xs ys)

pub answered_on-append : (link moment : ℕ) (xs ys : List Exchange) → answered_on link moment (xs ++ ys) ≡ answered_on link moment xs ++ answered_on link moment ys
answered_on-append link moment xs ys = map-append _ xs ys

pub events_of-append : (xs ys : List Exchange) → events_of (xs ++ ys) ≡ events_of xs ++ events_of ys
events_of-append xs ys = map-append event_of xs ys

pub events_of-bare : (events : List Event) → events_of (bare_exchanges events) ≡ events
events_of-bare [] = refl
events_of-bare (e ∷ events) = ap (λ es. e ∷ es) (events_of-bare events)

-- ---- what was written, and then more

pub wrote_none : (k : RunState) (a : SinkView) → Wrote k a a []
wrote_none k a = record { contents = tt; bytes = Appends-nil a.written }

pub wrote_behind : (k n : RunState) (a m b : SinkView) (xs ys : List Happening) → n ≡ after k xs → Wrote k a m xs → Wrote n m b ys → Wrote k a b (xs ++ ys)
wrote_behind k n a m b xs ys e p q = record {
  contents = contents-behind k n xs ys e p.contents q.contents;
  bytes = subst (λ bs. Appends a.written b.written bs) (output_on-behind k n xs ys e)
      (Appends-trans a.written m.written b.written (output_on k xs) (output_on n ys) p.bytes q.bytes);
}

-- the same, where nothing changed in the counts of a sink that tells the same
pub wrote_seen : (k : RunState) (a a' b : SinkView) (xs : List Happening) → a.written ≡ a'.written → Wrote k a b xs → Wrote k a' b xs
wrote_seen k a a' b xs e p = record { contents = p.contents; bytes = subst (λ w. Appends w b.written (output_on k xs)) e p.bytes }

-- ---- what was written, and then what was not

AppendsFront-after : (a m b : Option (List ℕ)) (xs ys : List ℕ) → Appends a m xs → AppendsFront m b ys → AppendsFront a b (xs ++ ys)
AppendsFront-after a m b xs ys p q =
    (xs ++ q.0, Appends-trans a m b xs q.0 p q.1, (q.2.0, ap (λ l. xs ++ l) q.2.1 ∙ sym (append_assoc xs q.0 q.2.0)))

pub first_behind : (k n : RunState) (a m b : SinkView) (xs ys : List Happening) → n ≡ after k xs → Wrote k a m xs → WritesFirst n m b ys → WritesFirst k a b (xs ++ ys)
first_behind k n a m b xs ys e p q = record {
  first = xs ++ q.first;
  later = q.later;
  parts = ap (λ l. xs ++ l) q.parts ∙ sym (append_assoc xs q.first q.later);
  wrote = wrote_behind k n a m b xs q.first e p q.wrote;
}

pub front_behind : (k n : RunState) (a m b : SinkView) (xs ys : List Happening) → n ≡ after k xs → Wrote k a m xs → WritesFront n m b ys → WritesFront k a b (xs ++ ys)
front_behind k n a m b xs ys e p q = record {
  first = xs ++ q.first;
  later = q.later;
  parts = ap (λ l. xs ++ l) q.parts ∙ sym (append_assoc xs q.first q.later);
  contents = contents-behind k n xs q.first e p.contents q.contents;
  bytes = subst (λ bs. AppendsFront a.written b.written bs) (output_on-behind k n xs q.first e)
      (AppendsFront-after a.written m.written b.written (output_on k xs) (output_on n q.first) p.bytes q.bytes);
}

-- behind what was written
pub unwritten_behind : (why : Unwritten) (k n : RunState) (a m b : SinkView) (xs ys : List Happening) → n ≡ after k xs → Wrote k a m xs → a.faults ≤ m.faults
    → IsUnwritten why n m b ys → IsUnwritten why k a b (xs ++ ys)
unwritten_behind Broken k n a m b xs ys e p le u = (front_behind k n a m b xs ys e p u.0, omega (arith, u.1))
unwritten_behind Wanting k n a m b xs ys e p le u = first_behind k n a m b xs ys e p u

-- before what was to come
pub unwritten_before : (why : Unwritten) (k : RunState) (a b : SinkView) (xs ys : List Happening) → IsUnwritten why k a b xs → IsUnwritten why k a b (xs ++ ys)
unwritten_before Broken k a b xs ys (u, rose) = (
  record {
    first = u.first;
    later = u.later ++ ys;
    parts = ap (λ l. l ++ ys) u.parts ∙ append_assoc u.first u.later ys;
    contents = u.contents;
    bytes = u.bytes;
  },
  rose,
)
unwritten_before Wanting k a b xs ys u = record {
  first = u.first;
  later = u.later ++ ys;
  parts = ap (λ l. l ++ ys) u.parts ∙ append_assoc u.first u.later ys;
  wrote = u.wrote;
}

-- nothing was written yet
pub first_none : (k : RunState) (a : SinkView) (happened : List Happening) → WritesFirst k a a happened
first_none k a happened = record { first = []; later = happened; parts = refl; wrote = wrote_none k a }

-- all was written
pub first_all : (k : RunState) (a b : SinkView) (happened : List Happening) → Wrote k a b happened → WritesFirst k a b happened
first_all k a b happened p = record { first = happened; later = []; parts = sym (append-nil happened); wrote = p }

-- ---- one event

abbrev one_exchange : Event → Option (List ℕ) → Exchange
one_exchange event content = record { event = event; content = content }

-- the reply to an event was framed, with a content that fits, or not and why
pub answers_one : {T : Type 0} (r : Result T Unwritten) (k now : RunState) (link moment : ℕ) (event : Event) (content : Option (List ℕ)) (a b : SinkView) → FitsEvent (kept_in k) moment content event
    → IsFramed r a b (record { link = link; text = event_text (kept_in k) moment content event }) → OnOk r (now ≡ with_kept k (event_keeps (kept_in k) moment event)) → AnswersEvents r k now link moment (event ∷ []) a b
answers_one (Ok u) k now link moment event content a b fits framed keeps = record {
  exchanges = one_exchange event content ∷ [];
  of_events = refl;
  written = record { contents = (fits, tt); bytes = subst (λ bs. Appends a.written b.written bs) (sym (append-nil (frame (record { link = link; text = event_text (kept_in k) moment content event })))) framed };
  keeps = keeps;
}
answers_one (Err Broken) k now link moment event content a b fits framed keeps = record {
  exchanges = one_exchange event content ∷ [];
  of_events = refl;
  written = (
    record {
      first = Answered link moment (one_exchange event content) ∷ [];
      later = [];
      parts = refl;
      contents = (fits, tt);
      bytes = subst (λ bs. AppendsFront a.written b.written bs) (sym (append-nil (frame (record { link = link; text = event_text (kept_in k) moment content event })))) framed.0;
    },
    framed.1,
  );
  keeps = tt;
}
answers_one (Err Wanting) k now link moment event content a b fits framed keeps = record {
  exchanges = one_exchange event content ∷ [];
  of_events = refl;
  written = record { first = []; later = Answered link moment (one_exchange event content) ∷ []; parts = refl; wrote = record { contents = tt; bytes = framed } };
  keeps = tt;
}

-- no event was answered, and nothing written
pub answers_none : {T : Type 0} (u : T) (k : RunState) (link moment : ℕ) (a : SinkView) → AnswersEvents {T = T} (Ok u) k k link moment [] a a
answers_none u k link moment a = record { exchanges = []; of_events = refl; written = wrote_none k a; keeps = refl }

-- the reply to an event was wanting before anything was written of it
pub answers_wanting : {T : Type 0} (k now : RunState) (link moment : ℕ) (events : List Event) (a : SinkView) → AnswersEvents {T = T} (Err Wanting) k now link moment events a a
answers_wanting k now link moment events a = record {
  exchanges = bare_exchanges events;
  of_events = events_of-bare events;
  written = first_none k a (answered_on link moment (bare_exchanges events));
  keeps = tt;
}

-- ---- events of a link, taken from the end of a list that was turned around

pub given_next : (left rest : List Next) (x : Next) → left ≡ rest ++ x ∷ [] → given_by (reverse left) ≡ next_events x ++ given_by (reverse rest)
given_next left rest x e = ap (λ l. given_by (reverse l)) e ∙ ap given_by (reverse-append rest (x ∷ []))

pub given_none : (left : List Next) → length left ≡ 0 → given_by (reverse left) ≡ []
given_none [] e = refl
given_none (x ∷ xs) e = absurd (omega arith)

pub given_all : (all left : List Next) → left ≡ reverse all → given_by all ≡ given_by (reverse left)
given_all all left e = ap given_by (sym (ap reverse e ∙ reverse-reverse all))

-- ---- events of a link, answered one after the other

-- of all events those before the rest were answered
pub record AnsweredSoFar (k now : RunState) (link moment : ℕ) (all rest : List Event) (a b : SinkView) : Type 0 where
  pub done : List Exchange
  pub parts : all ≡ events_of done ++ rest
  pub wrote : Wrote k a b (answered_on link moment done)
  pub keeps : now ≡ after k (answered_on link moment done)

pub none_so_far : (k : RunState) (link moment : ℕ) (all rest : List Event) (a : SinkView) → all ≡ rest → AnsweredSoFar k k link moment all rest a a
none_so_far k link moment all rest a e = record { done = []; parts = e; wrote = wrote_none k a; keeps = refl }

module _ {T : Type 0} (k n now : RunState) (link moment : ℕ) (all es rest : List Event) (a m b : SinkView) (s : AnsweredSoFar k n link moment all (es ++ rest) a m) where
  pub more_so_far : (u : T) → AnswersEvents {T = T} (Ok u) n now link moment es m b → AnsweredSoFar k now link moment all rest a b
  more_so_far u x =
      let done = answered_on link moment s.done in
      let more = answered_on link moment x.exchanges in
      let joined = answered_on-append link moment s.done x.exchanges in
      record {
        done = s.done ++ x.exchanges;
        parts = s.parts ∙ ap (λ l. events_of s.done ++ (l ++ rest)) (sym x.of_events) ∙ sym (append_assoc (events_of s.done) (events_of x.exchanges) rest)
            ∙ ap (λ l. l ++ rest) (sym (events_of-append s.done x.exchanges));
        wrote = subst (Wrote k a b) (sym joined) (wrote_behind k n a m b done more s.keeps s.wrote x.written);
        keeps = after-behind k n now done more s.keeps x.keeps ∙ ap (after k) (sym joined);
      }

  -- where the replies to the next ones were not written
  pub not_so_far : (why : Unwritten) → a.faults ≤ m.faults → AnswersEvents {T = T} (Err why) n now link moment es m b → AnswersEvents {T = T} (Err why) k now link moment all a b
  not_so_far why le x =
      let unread = bare_exchanges rest in
      let done = answered_on link moment s.done in
      let more = answered_on link moment x.exchanges in
      let late = answered_on link moment unread in
      let joined : answered_on link moment (s.done ++ (x.exchanges ++ unread)) ≡ done ++ (more ++ late) =
      answered_on-append link moment s.done (x.exchanges ++ unread) ∙ ap (λ l. done ++ l) (answered_on-append link moment x.exchanges unread) in
      let events : events_of (x.exchanges ++ unread) ≡ es ++ rest =
      events_of-append x.exchanges unread ∙ ap (λ l. l ++ events_of unread) x.of_events ∙ ap (λ l. es ++ l) (events_of-bare rest) in
      record {
        exchanges = s.done ++ (x.exchanges ++ unread);
        of_events = events_of-append s.done (x.exchanges ++ unread) ∙ ap (λ l. events_of s.done ++ l) events ∙ sym s.parts;
        written = subst (IsUnwritten why k a b) (sym joined)
            (unwritten_behind why k n a m b done (more ++ late) s.keeps s.wrote le (unwritten_before why n m b more late x.written));
        keeps = tt;
      }

pub all_answered : {T : Type 0} (u : T) (k now : RunState) (link moment : ℕ) (all : List Event) (a b : SinkView) → AnsweredSoFar k now link moment all [] a b → AnswersEvents {T = T} (Ok u) k now link moment all a b
all_answered u k now link moment all a b s = record { exchanges = s.done; of_events = sym (s.parts ∙ append-nil (events_of s.done)); written = s.wrote; keeps = s.keeps }
