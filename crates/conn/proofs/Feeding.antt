-- What a connection stands for when a piece more has come.
use Rattle.std.proofs.Common.{◌≡◌, ℕ, List, [], ◌∷◌, ◌++◌, take, refl, sym, ap, ◌∙◌, append_assoc, arith, inl, inr, length-append}
use Rattle.std.specs.Prelude.{Result, Ok, Err, MatchResult}
use Rattle.std.proofs.lemmas.List.{take-append-le}
use Rattle.httparse.specs.Grammar.{RequestHead, print_request, print_chunk_line}
use Rattle.wire_http.specs.Head.{IsBadHead}
use Rattle.conn.specs.Message.{message_text, messages_text}
use Rattle.conn.specs.Cut.{BodyPart, InPlain, AtLine, InData, AtTrailer, part_text, Event, IsBadLine, IsBadEnd, IsBadTrailer, IsBadPart, Tail, tail_text, tail_events, messages_events, IsTail, OpenHead, OpenBody, NoHead, Breaks, NoBody, Closing, IsOpen}
use Rattle.conn.specs.Held.{IsOver}
use Rattle.conn.specs.Stands.{Ended, Gives, StandsAt}
use Rattle.wire_http.specs.declared.refusal.WireRefusal.{WireRefusal}
use Rattle.conn.specs.declared.state.State.{State}
use Rattle.conn.specs.declared.state.State.TheVariants as state
use Rattle.conn.specs.declared.next.Next.{Next}
use Rattle.conn.specs.declared.next.Next.TheVariants as next

-- what no first bytes are, no longer ones are
bad_head_more : (n : ℕ) (rest more : List ℕ) → n ≡ 16384 → IsBadHead rest → IsBadHead (rest ++ more)
bad_head_more n rest more m (inl never) = inl (λ further h after reads. never (more ++ further) h after (reads.0, sym (append_assoc rest more further) ∙ reads.1))
bad_head_more n rest more m (inr (inl e)) = inr (inl (e.0, e.1 ++ more, ap (λ xs. xs ++ more) e.2 ∙ append_assoc e.0 e.1 more, e.3, e.4, e.5))
bad_head_more n rest more m (inr (inr (long, none))) =
    let same : take 16384 (rest ++ more) ≡ take 16384 rest = take-append-le 16384 rest more long in
    inr (inr (omega (arith, length-append rest more), rw same none))

bad_line_more : (rest more : List ℕ) → IsBadLine rest → IsBadLine (rest ++ more)
bad_line_more rest more (inl never) = inl (λ further l after reads. never (more ++ further) l after (reads.0, sym (append_assoc rest more further) ∙ reads.1))
bad_line_more rest more (inr (long, none)) =
    let same : take 256 (rest ++ more) ≡ take 256 rest = take-append-le 256 rest more (omega arith) in
    inr (omega (arith, length-append rest more), rw same none)

bad_end_more : (rest more : List ℕ) → IsBadEnd rest → IsBadEnd (rest ++ more)
bad_end_more [] more bad = absurd bad
bad_end_more (x ∷ []) [] bad = bad
bad_end_more (x ∷ []) (y ∷ more) bad = inl bad
bad_end_more (x ∷ y ∷ rest) more bad = bad

bad_trailer_more : (rest more : List ℕ) → IsBadTrailer rest → IsBadTrailer (rest ++ more)
bad_trailer_more rest more (inl never) = inl (λ further fields last after reads. never (more ++ further) fields last after (reads.0, sym (append_assoc rest more further) ∙ reads.1))
bad_trailer_more rest more (inr (inl e)) = inr (inl (e.0, e.1 ++ more, ap (λ xs. xs ++ more) e.2 ∙ append_assoc e.0 e.1 more, e.3, e.4, e.5))
bad_trailer_more rest more (inr (inr (long, none))) =
    let same : take 16384 (rest ++ more) ≡ take 16384 rest = take-append-le 16384 rest more (omega arith) in
    inr (inr (omega (arith, length-append rest more), rw same none))

bad_part_more : (limit : ℕ) (h : RequestHead) (p : BodyPart) (rest more : List ℕ) (r : WireRefusal) → IsBadPart limit h p rest r → IsBadPart limit h p (rest ++ more) r
bad_part_more limit h (InPlain bytes) rest more r bad = bad
bad_part_more limit h (AtLine chunks) rest more r (inl (is, bad)) = inl (is, bad_line_more rest more bad)
bad_part_more limit h (AtLine chunks) rest more r (inr (is, large)) = inr (
  is,
  record {
    line = large.line;
    after = large.after ++ more;
    is_line = large.is_line;
    short = large.short;
    reads = ap (λ xs. xs ++ more) large.reads ∙ append_assoc (print_chunk_line large.line) large.after more;
    passes = large.passes;
  },
)
bad_part_more limit h (InData chunks line bytes) rest more r bad = (bad.0, bad.1, bad_end_more rest more bad.2)
bad_part_more limit h (AtTrailer chunks last) rest more r bad = (bad.0, bad_trailer_more rest more bad.1)

-- a tail after which nothing is read, with more behind it
pub record More (limit : ℕ) (t : Tail) (more : List ℕ) : Type 0 where
  pub tail : Tail
  pub is_tail : IsTail limit tail
  pub final : ¬ (IsOpen tail)
  pub text : tail_text t ++ more ≡ tail_text tail
  pub events : tail_events t ≡ tail_events tail

pub tail_more : (limit : ℕ) (t : Tail) (more : List ℕ) → IsTail limit t → ¬ (IsOpen t) → More limit t more
tail_more limit (OpenHead part) more is final = absurd (final tt)
tail_more limit (OpenBody head part rest) more is final = absurd (final tt)
tail_more limit (NoHead rest) more is final = record { tail = NoHead (rest ++ more); is_tail = bad_head_more 16384 rest more refl is; final = λ h. h; text = refl; events = refl }
tail_more limit (Breaks head rest refusal) more is final = record {
  tail = Breaks head (rest ++ more) refusal;
  is_tail = (record { reads = (is.0.reads.0, refl); fields = is.0.fields; within = is.0.within }, is.1);
  final = λ h. h;
  text = append_assoc (print_request head) rest more;
  events = refl;
}
tail_more limit (NoBody head part rest refusal) more is final = record {
  tail = NoBody head part (rest ++ more) refusal;
  is_tail = (is.0, is.1, bad_part_more limit head part rest more refusal is.2);
  final = λ h. h;
  text = append_assoc (print_request head) (part_text part ++ rest) more ∙ ap (λ xs. print_request head ++ xs) (append_assoc (part_text part) rest more);
  events = refl;
}
tail_more limit (Closing message rest) more is final = record { tail = Closing message (rest ++ more); is_tail = is; final = λ h. h; text = append_assoc (message_text message) rest more; events = refl }

pub ended_more : (limit : ℕ) (fed more : List ℕ) (given : List Event) → Ended limit fed given → Ended limit (fed ++ more) given
ended_more limit fed more given e =
    let t = tail_more limit e.cut.tail more e.link.tail e.final in
    record {
      cut = record { whole = e.cut.whole; tail = t.tail };
      link = record {
        whole = e.link.whole;
        tail = t.is_tail;
        text = ap (λ xs. xs ++ more) e.link.text ∙ append_assoc (messages_text e.cut.whole) (tail_text e.cut.tail) more ∙ ap (λ xs. messages_text e.cut.whole ++ xs) t.text;
      };
      final = t.final;
      events = e.events ∙ ap (λ xs. messages_events e.cut.whole ++ xs) t.events;
    }

-- the rest grows by the piece
pub stands_more : (limit : ℕ) (s : State) (rest more fed : List ℕ) (given : List Event) → StandsAt limit s rest fed given → StandsAt limit s (rest ++ more) (fed ++ more) given
stands_more limit state.AtHead rest more fed given h = record {
  whole = h.whole;
  each = h.each;
  text = ap (λ xs. xs ++ more) h.text ∙ append_assoc (messages_text h.whole) rest more;
  events = h.events;
}
stands_more limit (state.InBody b) rest more fed given h = record {
  whole = h.whole;
  each = h.each;
  head = h.head;
  part = h.part;
  in_body = h.in_body;
  text = ap (λ xs. xs ++ more) h.text ∙ simp append_assoc;
  events = h.events;
}
stands_more limit state.Over rest more fed given h = ended_more limit fed more given h
stands_more limit state.Shut rest more fed given h = h

pub over_more : (limit : ℕ) (s : State) (rest more fed : List ℕ) (given : List Event) → IsOver s → StandsAt limit s rest fed given → StandsAt limit s rest (fed ++ more) given
over_more limit state.AtHead rest more fed given over h = absurd over
over_more limit (state.InBody b) rest more fed given over h = absurd over
over_more limit state.Over rest more fed given over h = ended_more limit fed more given h
over_more limit state.Shut rest more fed given over h = h

-- the bytes that are kept grow by the piece, or stay
pub piece_more : {A E : Type 0} (r : Result A E) (limit : ℕ) (s : State) (rest new more fed : List ℕ) (given : List Event) → MatchResult r (λ _. new ≡ rest ++ more) (λ _. new ≡ rest)
    → StandsAt limit s rest fed given → MatchResult r (λ _. StandsAt limit s new (fed ++ more) given) (λ _. StandsAt limit s new fed given)
piece_more (Ok x) limit s rest new more fed given is h = rw is (stands_more limit s rest more fed given h)
piece_more (Err e) limit s rest new more fed given is h = rw is h

-- where nothing is read any more, the rest says nothing
over_stands : (limit : ℕ) (s : State) (rest rest' fed : List ℕ) (given : List Event) → IsOver s → StandsAt limit s rest fed given → StandsAt limit s rest' fed given
over_stands limit state.AtHead rest rest' fed given over h = absurd over
over_stands limit (state.InBody b) rest rest' fed given over h = absurd over
over_stands limit state.Over rest rest' fed given over h = h
over_stands limit state.Shut rest rest' fed given over h = h

pub over_gives : (limit : ℕ) (n : Next) (s : State) (rest rest' fed : List ℕ) (given : List Event) → IsOver s → Gives limit n s rest fed given → Gives limit n s rest' fed given
over_gives limit next.Need s rest rest' fed given over h = (over_stands limit s rest rest' fed given over h.0, h.1)
over_gives limit next.Continue s rest rest' fed given over h = over_stands limit s rest rest' fed _ over h
over_gives limit (next.Request r) s rest rest' fed given over h = over_stands limit s rest rest' fed _ over h
over_gives limit (next.Refused r) s rest rest' fed given over h = over_stands limit s rest rest' fed _ over h
over_gives limit next.Closed s rest rest' fed given over h = (over_stands limit s rest rest' fed given over h.0, h.1)
