-- What the bytes of a connection still give, behind what was given.
use Rattle.std.proofs.Common.{◌≡◌, ℕ, true, false, List, [], ◌∷◌, ◌++◌, drop, sym, ap, ◌∙◌, append_assoc, append-nil}
use Rattle.std.proofs.lemmas.Grind.{flat_map-append}
use Rattle.httparse.specs.Grammar.{print_request}
use Rattle.wire_http.specs.declared.refusal.WireRefusal.{WireRefusal}
use Rattle.conn.specs.Message.{Message, message_text, messages_text, body_text, body_bytes}
use Rattle.conn.specs.Cut.{Event, Requests, Refuses, message_request, told, message_events, messages_events, OpenBody, Closing, tail_text, tail_events, IsKept, Cut, IsLinkCut, cut_events}
use Rattle.conn.specs.Reading.{Fails}
use Rattle.conn.specs.Stands.{Between, Within, Ended, HasCompletion}
use Rattle.conn.specs.Walking.{WholeBody, OpenEnd}
use Rattle.conn.specs.declared.state.Collected.{Collected}
use Rattle.conn.proofs.Advancing.{body_fails}
use Rattle.conn.proofs.Bodies.{push, each_push}
use Rattle.conn.proofs.Cuts.{each_append}

-- the events at the end are further ones
pub fewer : (limit : ℕ) (fed : List ℕ) (given last : List Event) → HasCompletion limit fed (given ++ last) → HasCompletion limit fed given
fewer limit fed given last (more, s) =
    (last ++ more, record { cut = s.cut; link = s.link; events = sym (append_assoc given last more) ∙ s.events })

-- nothing more comes
pub ended_completion : (limit : ℕ) (fed : List ℕ) (given : List Event) → Ended limit fed given → HasCompletion limit fed given
ended_completion limit fed given s = ([], record { cut = s.cut; link = s.link; events = append-nil given ∙ s.events })

-- behind whole messages, a cut of the rest gives the further events
pub between_completion : (limit : ℕ) (rest more fed : List ℕ) (given : List Event) → Between limit rest fed given → more ≡ rest → (c : Cut) × IsLinkCut limit more c
    → HasCompletion limit fed given
between_completion limit rest more fed given s same (c, link) = (
  cut_events c,
  record {
    cut = record { whole = s.whole ++ c.whole; tail = c.tail };
    link = record {
      whole = each_append (IsKept limit) s.whole c.whole s.each link.whole;
      tail = link.tail;
      text = s.text ∙ ap (λ xs. messages_text s.whole ++ xs) (sym same ∙ link.text) ∙ sym (append_assoc (messages_text s.whole) (messages_text c.whole) (tail_text c.tail))
          ∙ ap (λ xs. xs ++ tail_text c.tail) (sym (flat_map-append message_text s.whole c.whole));
    };
    events = ap (λ es. es ++ cut_events c) s.events ∙ sym (append_assoc (messages_events s.whole) (messages_events c.whole) (tail_events c.tail))
        ∙ ap (λ es. es ++ tail_events c.tail) (sym (flat_map-append message_events s.whole c.whole));
  },
)

-- the body is unfinished
pub open_completion : (limit : ℕ) (b : Collected) (rest fed : List ℕ) (given : List Event) (s : Within limit b rest fed given)
    → OpenEnd limit s.head s.part rest → HasCompletion limit fed given
open_completion limit b rest fed given s o = (
  [],
  record {
    cut = record { whole = s.whole; tail = OpenBody s.head o.now o.after };
    link = record { whole = s.each; tail = (s.in_body.head, o.part, o.open_part); text = s.text ∙ ap (λ xs. messages_text s.whole ++ (print_request s.head ++ xs)) o.text };
    events = append-nil given ∙ s.events;
  },
)

-- the body is refused
pub fails_completion : (limit : ℕ) (b : Collected) (rest fed : List ℕ) (given : List Event) (r : WireRefusal) (s : Within limit b rest fed given)
    → Fails limit s.head s.part rest r → HasCompletion limit fed given
fails_completion limit b rest fed given r s f =
    fewer limit fed given (Refuses r ∷ []) (ended_completion limit fed (given ++ Refuses r ∷ []) (body_fails limit b rest fed given r s f))

-- the body is whole, and its request closes the connection
pub closing_completion : (limit : ℕ) (b : Collected) (rest : List ℕ) (used : ℕ) (fed : List ℕ) (given : List Event) (s : Within limit b rest fed given)
    → WholeBody limit s.head s.part rest used → b.head.close ≡ true → HasCompletion limit fed given
closing_completion limit b rest used fed given s w ends =
    let m : Message = record { head = s.head; body = w.body } in (
      Requests (message_request s.head (body_bytes w.body)) ∷ [],
      record {
        cut = record { whole = s.whole; tail = Closing m (drop used rest) };
        link = record {
          whole = s.each;
          tail = ((s.in_body.head, w.is_body), sym s.in_body.parts.close ∙ ends);
          text = s.text ∙ ap (λ xs. messages_text s.whole ++ (print_request s.head ++ xs)) w.text
              ∙ ap (λ xs. messages_text s.whole ++ xs) (sym (append_assoc (print_request s.head) (body_text w.body) (drop used rest)));
        };
        events = ap (λ es. es ++ Requests (message_request s.head (body_bytes w.body)) ∷ []) s.events
            ∙ append_assoc (messages_events s.whole) (told s.head) (Requests (message_request s.head (body_bytes w.body)) ∷ []);
      },
    )

-- the body is whole, and its request stands behind the others
whole_between : (limit : ℕ) (b : Collected) (rest : List ℕ) (used : ℕ) (fed : List ℕ) (given : List Event) (s : Within limit b rest fed given)
    → (w : WholeBody limit s.head s.part rest used) → b.head.close ≡ false
    → Between limit (drop used rest) fed (given ++ Requests (message_request s.head (body_bytes w.body)) ∷ [])
whole_between limit b rest used fed given s w stays =
    let m : Message = record { head = s.head; body = w.body } in
    record {
      whole = s.whole ++ m ∷ [];
      each = each_push (IsKept limit) s.whole m s.each ((s.in_body.head, w.is_body), sym s.in_body.parts.close ∙ stays);
      text = s.text ∙ ap (λ xs. messages_text s.whole ++ (print_request s.head ++ xs)) w.text ∙ sym (ap (λ xs. xs ++ drop used rest) (push message_text s.whole m) ∙ simp append_assoc);
      events = ap (λ es. es ++ Requests (message_request s.head (body_bytes w.body)) ∷ []) s.events
          ∙ append_assoc (messages_events s.whole) (told s.head) (Requests (message_request s.head (body_bytes w.body)) ∷ []) ∙ sym (push message_events s.whole m);
    }

-- the body is whole, and a cut of the rest gives the events behind its request
pub whole_completion : (limit : ℕ) (b : Collected) (rest more : List ℕ) (used : ℕ) (fed : List ℕ) (given : List Event) (s : Within limit b rest fed given)
    → WholeBody limit s.head s.part rest used → b.head.close ≡ false → more ≡ drop used rest → (c : Cut) × IsLinkCut limit more c
    → HasCompletion limit fed given
whole_completion limit b rest more used fed given s w stays same cut =
    let last : List Event = Requests (message_request s.head (body_bytes w.body)) ∷ [] in
    fewer limit fed given last (between_completion limit (drop used rest) more fed (given ++ last) (whole_between limit b rest used fed given s w stays) same cut)
