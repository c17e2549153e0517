-- Steps of a connection, over what it stands for.
use Rattle.std.proofs.Common.{◌≡◌, ◌<◌, ◌≤◌, ◌+◌, ◌*◌, ℕ, true, false, List, [], ◌∷◌, ◌++◌, length, drop, refl, sym, ap, ap₂, ◌∙◌, append_assoc, arith, length-append}
use Rattle.std.specs.List.{flat_map}
use Rattle.std.proofs.lemmas.List.{append-nil, length-drop}
use Rattle.std.proofs.lemmas.Bool.{cond-true, cond-false}
use Rattle.std.proofs.Math.Seq.{drop-append_seam}
use Rattle.httparse.specs.Grammar.{RequestHead, print_request, LineEnd, crlf, lf, print_end, print_section, print_field, print_blank, print_version}
use Rattle.wire_http.specs.Rules.{longest_body}
use Rattle.wire_http.specs.Head.{framing, most_body, expects, IsOpenHead, IsBadHead, ReadsHead, BreaksRule, IsHeadOf}
use Rattle.conn.specs.Message.{Message, message_text, messages_text, body_text, body_bytes}
use Rattle.conn.specs.Cut.{BodyPart, InPlain, AtLine, part_text, part_bytes, IsOpenPart, Event, Continues, Requests, Refuses, message_request, told, message_events, messages_events, OpenHead, OpenBody, NoHead, Breaks, NoBody, Closing, IsKept}
use Rattle.conn.specs.Reading.{start_of, IsAt, Reached, Ends, Fails}
use Rattle.wire_http.specs.declared.request.Request.{Request}
use Rattle.conn.specs.Stands.{Between, Within, Ended, Unfinished, left_at, collected_request, IsFinished, BodySteps, BodyStepWithin}
use Rattle.conn.specs.declared.state.State.{State}
use Rattle.conn.specs.declared.state.State.TheVariants as state
use Rattle.wire_http.specs.declared.head.BodyLen.{BodyLen}
use Rattle.wire_http.specs.declared.head.BodyLen.TheVariants.{Sized, Chunked}
use Rattle.wire_http.specs.declared.head.Head.{Head}
use Rattle.wire_http.specs.declared.refusal.WireRefusal.{WireRefusal}
use Rattle.wire_http.specs.declared.refusal.WireRefusal.TheVariants.{BadHead}
use Rattle.conn.specs.declared.state.Collected.{Collected}
use Rattle.conn.specs.declared.body_state.BodyState.{BodyState}
use Rattle.conn.specs.declared.state.BodyStep.{BodyStep}
use Rattle.conn.specs.declared.state.BodyStep.TheVariants as step
use Rattle.conn.proofs.Bodies.{push, each_push}

pub head_need : (limit : ℕ) (rest fed : List ℕ) (given : List Event) → Between limit rest fed given → IsOpenHead rest → Unfinished limit fed given
head_need limit rest fed given s open_head = record {
  cut = record { whole = s.whole; tail = OpenHead rest };
  link = record { whole = s.each; tail = open_head; text = s.text };
  is_open = tt;
  events = s.events ∙ sym (append-nil (messages_events s.whole));
}

pub head_bad : (limit : ℕ) (rest fed : List ℕ) (given : List Event) → Between limit rest fed given → IsBadHead rest → Ended limit fed (given ++ Refuses BadHead ∷ [])
head_bad limit rest fed given s bad = record {
  cut = record { whole = s.whole; tail = NoHead rest };
  link = record { whole = s.each; tail = bad; text = s.text };
  final = λ h. h;
  events = ap (λ xs. xs ++ Refuses BadHead ∷ []) s.events;
}

pub head_breaks : (limit : ℕ) (rest fed : List ℕ) (given : List Event) (r : WireRefusal) → Between limit rest fed given → BreaksRule limit rest r → Ended limit fed (given ++ Refuses r ∷ [])
head_breaks limit rest fed given r s b = record {
  cut = record { whole = s.whole; tail = Breaks b.tree b.rest r };
  link = record {
    whole = s.each;
    tail = (record { reads = (b.begins.reads.0, refl); fields = b.begins.fields; within = b.begins.within }, b.breaks);
    text = s.text ∙ ap (λ xs. messages_text s.whole ++ xs) b.begins.reads.1;
  };
  final = λ h. h;
  events = ap (λ xs. xs ++ Refuses r ∷ []) s.events;
}

-- the part with which a body begins
pub record Starts (limit : ℕ) (h : RequestHead) (q : BodyState) : Type 0 where
  pub part : BodyPart
  pub place : IsAt limit h part q
  pub text : part_text part ≡ []
  pub bytes : part_bytes part ≡ []

pub starts : (limit : ℕ) (h : RequestHead) (most : ℕ) (len : BodyLen) → framing h ≡ len → most ≡ most_body limit h → Starts limit h (start_of most len)
starts limit h most (Sized n) e m = record { part = InPlain []; place = record { part = (n, e, omega arith); room = tt; at = e ∙ ap Sized (omega arith) }; text = refl; bytes = refl }
starts limit h most Chunked e m = record { part = AtLine []; place = record { part = (e, tt, omega arith); room = omega (arith, m); at = tt }; text = refl; bytes = refl }

pub head_whole : (limit : ℕ) (rest fed : List ℕ) (given : List Event) (head : Head) (b : Collected) → Between limit rest fed given → ReadsHead limit rest head
    → b.head ≡ head → b.maker ≡ [] → b.place ≡ start_of (longest_body limit head.method head.target) head.body
    → (events : List Event) → ((h : RequestHead) → head.expects ≡ expects h → told h ≡ events)
    → Within limit b (drop head.len rest) fed (given ++ events)
head_whole limit rest fed given head b s reads is_head none is_place events tells =
    let h = reads.tree in
    let parts = reads.parts in
    let st = starts limit h (longest_body limit head.method head.target) head.body (sym parts.body) (ap₂ (λ x y. longest_body limit x y) parts.method parts.target) in
    let others : drop head.len rest ≡ reads.rest = ap (λ k. drop k rest) parts.len ∙ ap (drop (length (print_request h))) reads.begins.reads.1 ∙ drop-append_seam (print_request h) reads.rest in
    record {
      whole = s.whole;
      each = s.each;
      head = h;
      part = st.part;
      in_body = record {
        head = record { head = reads.begins.reads.0; few = reads.begins.fields; short = reads.begins.within; passes = reads.passes };
        parts = rw is_head parts;
        bytes = none ∙ sym st.bytes;
        place = rw is_place st.place;
      };
      text = s.text ∙ ap (λ xs. messages_text s.whole ++ xs) (reads.begins.reads.1 ∙ ap (λ xs. print_request h ++ xs) (sym (ap₂ (λ xs ys. xs ++ ys) st.text others)));
      events = ap₂ (λ xs ys. xs ++ ys) s.events (sym (tells h parts.expects));
    }

end_positive : (e : LineEnd) → 0 < length (print_end e)
end_positive crlf = omega arith
end_positive lf = omega arith

pub told_yes : (h : RequestHead) → true ≡ expects h → told h ≡ Continues ∷ []
told_yes h e = cond-true (expects h) (Continues ∷ []) [] (sym e)

pub told_no : (h : RequestHead) → false ≡ expects h → told h ≡ []
told_no h e = cond-false (expects h) (Continues ∷ []) [] (sym e)

pub body_moved : (limit : ℕ) (b b' : Collected) (rest : List ℕ) (used : ℕ) (taken fed : List ℕ) (given : List Event) (s : Within limit b rest fed given)
    → Reached limit s.head s.part rest used taken b'.place → b'.head ≡ b.head → b'.maker ≡ b.maker ++ taken → Within limit b' (drop used rest) fed given
body_moved limit b b' rest used taken fed given s r head bytes = record {
  whole = s.whole;
  each = s.each;
  head = s.head;
  part = r.now;
  in_body = record {
    head = s.in_body.head;
    parts = rw head s.in_body.parts;
    bytes = bytes ∙ ap (λ xs. xs ++ taken) s.in_body.bytes ∙ sym r.bytes;
    place = r.place;
  };
  text = s.text ∙ ap (λ xs. messages_text s.whole ++ (print_request s.head ++ xs)) r.text;
  events = s.events;
}

pub body_kept : (limit : ℕ) (b b' : Collected) (rest fed : List ℕ) (given : List Event) → Within limit b rest fed given
    → b'.head ≡ b.head → b'.maker ≡ b.maker → b'.place ≡ b.place → Within limit b' rest fed given
body_kept limit b b' rest fed given s head maker place = record {
  whole = s.whole;
  each = s.each;
  head = s.head;
  part = s.part;
  in_body = record { head = s.in_body.head; parts = rw head s.in_body.parts; bytes = maker ∙ s.in_body.bytes; place = rw place s.in_body.place };
  text = s.text;
  events = s.events;
}

pub body_need : (limit : ℕ) (b : Collected) (rest fed : List ℕ) (given : List Event) (s : Within limit b rest fed given)
    → IsOpenPart s.head s.part rest → Within limit b rest fed given × Unfinished limit fed given
body_need limit b rest fed given s r = (
  s,
  record {
    cut = record { whole = s.whole; tail = OpenBody s.head s.part rest };
    link = record { whole = s.each; tail = (s.in_body.head, s.in_body.place.part, r); text = s.text };
    is_open = tt;
    events = s.events;
  },
)

pub body_fails : (limit : ℕ) (b : Collected) (rest fed : List ℕ) (given : List Event) (refusal : WireRefusal) (s : Within limit b rest fed given)
    → Fails limit s.head s.part rest refusal → Ended limit fed (given ++ Refuses refusal ∷ [])
body_fails limit b rest fed given refusal s r = record {
  cut = record { whole = s.whole; tail = NoBody s.head r.now r.after refusal };
  link = record { whole = s.each; tail = (s.in_body.head, r.part, r.bad); text = s.text ∙ ap (λ xs. messages_text s.whole ++ (print_request s.head ++ xs)) r.text };
  final = λ h. h;
  events = ap (λ xs. xs ++ Refuses refusal ∷ []) s.events ∙ append_assoc (messages_events s.whole) (told s.head) (Refuses refusal ∷ []);
}

-- a whole request, and what is said of it
request_is : (h : RequestHead) (body : List ℕ) (b : Collected) (q : Request) → IsHeadOf h b.head → b.maker ≡ body → q ≡ collected_request b → q ≡ message_request h body
request_is h body b q parts bytes is = is ∙ rw (parts.method, parts.target, parts.who, bytes, parts.close) refl

pub body_ends : (limit : ℕ) (b : Collected) (rest : List ℕ) (used : ℕ) (fed : List ℕ) (given : List Event) (q : Request) (s : Within limit b rest fed given)
    → Ends limit s.head s.part rest used → q ≡ collected_request b
    → b.head.close ≡ false → Between limit (drop used rest) fed (given ++ Requests q ∷ [])
body_ends limit b rest used fed given q s r is stays =
    let m : Message = record { head = s.head; body = r.body } in
    let same = request_is s.head (body_bytes r.body) b q s.in_body.parts (s.in_body.bytes ∙ r.bytes) is in
    record {
      whole = s.whole ++ m ∷ [];
      each = each_push (IsKept limit) s.whole m s.each ((s.in_body.head, r.is_body), sym s.in_body.parts.close ∙ stays);
      text = s.text ∙ ap (λ xs. messages_text s.whole ++ (print_request s.head ++ xs)) r.text ∙ sym (ap (λ xs. xs ++ drop used rest) (push message_text s.whole m) ∙ simp append_assoc);
      events = ap₂ (λ xs x. xs ++ Requests x ∷ []) s.events same ∙ append_assoc (messages_events s.whole) (told s.head) (Requests (message_request s.head (body_bytes r.body)) ∷ []) ∙ sym (push message_events s.whole m);
    }

pub body_closes : (limit : ℕ) (b : Collected) (rest : List ℕ) (used : ℕ) (fed : List ℕ) (given : List Event) (q : Request) (s : Within limit b rest fed given)
    → Ends limit s.head s.part rest used → q ≡ collected_request b
    → b.head.close ≡ true → Ended limit fed (given ++ Requests q ∷ [])
body_closes limit b rest used fed given q s r is ends =
    let m : Message = record { head = s.head; body = r.body } in
    let same = request_is s.head (body_bytes r.body) b q s.in_body.parts (s.in_body.bytes ∙ r.bytes) is in
    record {
      cut = record { whole = s.whole; tail = Closing m (drop used rest) };
      link = record {
        whole = s.each;
        tail = ((s.in_body.head, r.is_body), sym s.in_body.parts.close ∙ ends);
        text = s.text ∙ ap (λ xs. messages_text s.whole ++ (print_request s.head ++ xs)) r.text ∙ ap (λ xs. messages_text s.whole ++ xs) (sym (append_assoc (print_request s.head) (body_text r.body) (drop used rest)));
      };
      final = λ h. h;
      events = ap₂ (λ xs x. xs ++ Requests x ∷ []) s.events same ∙ append_assoc (messages_events s.whole) (told s.head) (Requests (message_request s.head (body_bytes r.body)) ∷ []);
    }

-- a body that is whole, as a request or kept for want of memory
pub body_finished : (limit : ℕ) (b : Collected) (rest : List ℕ) (used : ℕ) (r : BodyStep) (fed : List ℕ) (given : List Event) (s : Within limit b rest fed given)
    → Ends limit s.head s.part rest used → IsFinished used b r → BodySteps limit rest r fed given
body_finished limit b rest used (step.Moved n c) fed given s e is = absurd is
body_finished limit b rest used (step.Need c) fed given s e is = absurd is
body_finished limit b rest used (step.Refused refusal) fed given s e is = absurd is
body_finished limit b rest used (step.NoMemory c) fed given s e is = rw is s
body_finished limit b rest used (step.Whole n r) fed given s e is =
    let same : r.close ≡ b.head.close = ap (λ (a : Request). a.close) is.1 in
    rw is.0 (e.within, λ stays. body_ends limit b rest used fed given r s e is.1 (sym same ∙ stays), λ ends. body_closes limit b rest used fed given r s e is.1 (sym same ∙ ends))

pub finished_within : (rest : List ℕ) (used : ℕ) (b : Collected) (r : BodyStep) → used ≤ length rest → IsFinished used b r → BodyStepWithin rest r
finished_within rest used b (step.Moved n c) within is = absurd is
finished_within rest used b (step.Need c) within is = absurd is
finished_within rest used b (step.Refused refusal) within is = tt
finished_within rest used b (step.NoMemory c) within is = tt
finished_within rest used b (step.Whole n r) within is = rw is.0 within

pub request_positive : (h : RequestHead) → 0 < length (print_request h)
unfolding print_request
request_positive h =
    let front : List ℕ = print_blank h.blank ++ h.method ++ 32 ∷ h.target ++ 32 ∷ print_version h.minor ++ print_end h.line_end in
    let e : length (print_request h) ≡ length front + length (print_section h.fields h.last) = length-append front (print_section h.fields h.last) in
    let f : length (print_section h.fields h.last) ≡ length (flat_map print_field h.fields) + length (print_end h.last) = length-append (flat_map print_field h.fields) (print_end h.last) in
    omega (arith, e, f, end_positive h.last)

pub head_room : (limit : ℕ) (rest : List ℕ) (head : Head) → ReadsHead limit rest head → (head.len ≤ length rest) × (0 < head.len)
head_room limit rest head reads =
    (omega (arith, reads.parts.len, ap length reads.begins.reads.1, length-append (print_request reads.tree) reads.rest), omega (arith, reads.parts.len, request_positive reads.tree))

pub head_goes_on : (limit : ℕ) (rest fed : List ℕ) (given : List Event) (head : Head) (b : Collected) → Between limit rest fed given → ReadsHead limit rest head
    → b.head ≡ head → b.maker ≡ [] → b.place ≡ start_of (longest_body limit head.method head.target) head.body → head.expects ≡ false → Within limit b (drop head.len rest) fed given
head_goes_on limit rest fed given head b s reads is_head none is_place no_wish =
    rw append-nil at (head_whole limit rest fed given head b s reads is_head none is_place [] (λ h e. told_no h (sym no_wish ∙ e)))

pub head_less : (rest : List ℕ) (len : ℕ) (s : State) → s ≡ state.AtHead → (len ≤ length rest) × (0 < len) → 3 * length (drop len rest) + 2 < left_at rest s
head_less rest len s e room = rw e (omega (arith, length-drop len rest, room.0, room.1))
