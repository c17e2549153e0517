-- Walks over the bytes of a body, of a message and of a connection.
use Rattle.std.proofs.Common.{◌≡◌, ◌⊎◌, ◌<◌, ◌≤◌, ◌+◌, ◌-◌, ℕ, true, false, List, [], ◌∷◌, ◌++◌, length, take, drop, refl, sym, ap, ◌∙◌, append_assoc, arith, inl, inr, length-append}
use Rattle.std.specs.List.{AllByRecursion}
use Rattle.std.proofs.Math.Seq.{drop-append_seam, drop-drop}
use Rattle.std.proofs.lemmas.List.{take_rest, length-drop}
use Rattle.httparse.specs.Grammar.{RequestHead, print_request}
use Rattle.wire_http.specs.Head.{IsOpenHead, IsBadHead, BreaksRule, PassesHead, closes}
use Rattle.wire_http.specs.declared.head.Frame.{Frame}
use Rattle.wire_http.specs.declared.refusal.WireRefusal.{WireRefusal}
use Rattle.wire_http.specs.declared.refusal.WireRefusal.TheVariants.{BadHead}
use Rattle.conn.specs.Message.{Message, message_text, messages_text, body_text, IsHead}
use Rattle.conn.specs.Cut.{BodyPart, part_text, IsOpenPart, OpenHead, OpenBody, NoHead, Breaks, NoBody, Closing, IsKept, Cut, IsLinkCut}
use Rattle.conn.specs.Reading.{start_of, IsAt, Reached, Ends, Fails}
use Rattle.conn.specs.Walking.{WholeBody, OpenEnd, EndsThere, BeginsMessage}
use Rattle.conn.specs.declared.body_state.BodyState.{BodyState}
use Rattle.conn.proofs.Bodies.{push, each_push}
use Rattle.conn.proofs.Advancing.{Starts, starts, request_positive}

-- the walk through a body came so far
pub record Walked (limit : ℕ) (h : RequestHead) (p : BodyPart) (rest : List ℕ) (at : ℕ) (q : BodyState) : Type 0 where
  pub now : BodyPart
  pub place : IsAt limit h now q
  pub text : part_text p ++ rest ≡ part_text now ++ drop at rest

pub walk_on : (limit : ℕ) (h : RequestHead) (p : BodyPart) (rest : List ℕ) (at used : ℕ) (taken more : List ℕ) (q q' : BodyState) (w : Walked limit h p rest at q)
    → more ≡ drop at rest → Reached limit h w.now more used taken q' → drop used more ≡ drop (at + used) rest → Walked limit h p rest (at + used) q'
walk_on limit h p rest at used taken more q q' w same r others = record {
  now = r.now;
  place = r.place;
  text = w.text ∙ ap (λ xs. part_text w.now ++ xs) (sym same) ∙ r.text ∙ ap (λ xs. part_text r.now ++ xs) others;
}

-- the bytes from a place on
pub others : (xs : List ℕ) (a b : ℕ) → drop b (take (length xs - a) (drop a xs)) ≡ drop (a + b) xs
others xs a b = ap (drop b) (take_rest xs a) ∙ drop-drop b a xs

pub others_within : (xs : List ℕ) (a b : ℕ) → a ≤ length xs → b ≤ length (take (length xs - a) (drop a xs)) → a + b ≤ length xs
others_within xs a b inside few = omega (arith, few, ap length (take_rest xs a), length-drop a xs, inside)

pub walk_step : (limit : ℕ) (h : RequestHead) (p : BodyPart) (rest : List ℕ) (at used : ℕ) (taken : List ℕ) (q q' : BodyState) (w : Walked limit h p rest at q)
    → Reached limit h w.now (take (length rest - at) (drop at rest)) used taken q' → Walked limit h p rest (at + used) q'
walk_step limit h p rest at used taken q q' w r = walk_on limit h p rest at used taken (take (length rest - at) (drop at rest)) q q' w (take_rest rest at) r (others rest at used)

pub walk_open : (limit : ℕ) (h : RequestHead) (p : BodyPart) (rest : List ℕ) (at : ℕ) (q : BodyState) (w : Walked limit h p rest at q)
    → IsOpenPart h w.now (take (length rest - at) (drop at rest)) → OpenEnd limit h p rest
walk_open limit h p rest at q w is = record {
  now = w.now;
  after = take (length rest - at) (drop at rest);
  part = w.place.part;
  text = w.text ∙ ap (λ xs. part_text w.now ++ xs) (sym (take_rest rest at));
  open_part = is;
}

pub walk_whole : (limit : ℕ) (h : RequestHead) (p : BodyPart) (rest : List ℕ) (at used : ℕ) (q : BodyState) (w : Walked limit h p rest at q)
    → Ends limit h w.now (take (length rest - at) (drop at rest)) used → WholeBody limit h p rest (at + used)
walk_whole limit h p rest at used q w e = record {
  body = e.body;
  is_body = e.is_body;
  text = w.text ∙ ap (λ xs. part_text w.now ++ xs) (sym (take_rest rest at)) ∙ e.text ∙ ap (λ xs. body_text e.body ++ xs) (others rest at used);
}

pub walk_fails : (limit : ℕ) (h : RequestHead) (p : BodyPart) (rest : List ℕ) (at : ℕ) (r : WireRefusal) (q : BodyState) (w : Walked limit h p rest at q)
    → Fails limit h w.now (take (length rest - at) (drop at rest)) r → Fails limit h p rest r
walk_fails limit h p rest at r q w f = record {
  now = f.now;
  after = f.after;
  part = f.part;
  text = w.text ∙ ap (λ xs. part_text w.now ++ xs) (sym (take_rest rest at)) ∙ f.text;
  bad = f.bad;
}

-- a head that passes, in front of the others
pub record Framed (limit : ℕ) (rest : List ℕ) (f : Frame) : Type 0 where
  pub tree : RequestHead
  pub is_head : IsHead limit tree
  pub text : rest ≡ print_request tree ++ drop f.len rest
  pub within : f.len ≤ length rest
  pub some : 0 < f.len
  pub begins : Starts limit tree (start_of f.most f.body)
  pub close : f.close ≡ closes tree

pub framed : (limit : ℕ) (rest : List ℕ) (f : Frame) → PassesHead limit rest f → Framed limit rest f
framed limit rest f reads =
    let h = reads.tree in
    let others : drop f.len rest ≡ reads.rest = ap (λ k. drop k rest) reads.parts.len ∙ ap (drop (length (print_request h))) reads.begins.reads.1 ∙ drop-append_seam (print_request h) reads.rest in
    record {
      tree = h;
      is_head = record { head = reads.begins.reads.0; few = reads.begins.fields; short = reads.begins.within; passes = reads.passes };
      text = reads.begins.reads.1 ∙ ap (λ xs. print_request h ++ xs) (sym others);
      within = omega (arith, reads.parts.len, ap length reads.begins.reads.1, length-append (print_request h) reads.rest);
      some = omega (arith, reads.parts.len, request_positive h);
      begins = starts limit h f.most f.body (sym reads.parts.body) reads.parts.most;
      close = reads.parts.close;
    }

pub ends_open_head : (limit : ℕ) (rest : List ℕ) → IsOpenHead rest → EndsThere limit rest
ends_open_head limit rest is = (OpenHead rest, (is, refl))

pub ends_refused : (limit : ℕ) (rest : List ℕ) (r : WireRefusal) → ((r ≡ BadHead) × IsBadHead rest) ⊎ BreaksRule limit rest r → EndsThere limit rest
ends_refused limit rest r (inl bad) = (NoHead rest, (bad.1, refl))
ends_refused limit rest r (inr b) =
    (Breaks b.tree b.rest r, ((record { reads = (b.begins.reads.0, refl); fields = b.begins.fields; within = b.begins.within }, b.breaks), b.begins.reads.1))

-- the text of a part that a body begins with is empty
begun : (limit : ℕ) (h : RequestHead) (q : BodyState) (st : Starts limit h q) (xs ys : List ℕ) → part_text st.part ++ xs ≡ ys → xs ≡ ys
begun limit h q st xs ys e = ap (λ zs. zs ++ xs) (sym st.text) ∙ e

pub ends_open_body : (limit : ℕ) (rest more : List ℕ) (f : Frame) (fr : Framed limit rest f) → more ≡ drop f.len rest → OpenEnd limit fr.tree fr.begins.part more → EndsThere limit rest
ends_open_body limit rest more f fr same o = (
  OpenBody fr.tree o.now o.after,
  (
    (fr.is_head, o.part, o.open_part),
    fr.text ∙ ap (λ xs. print_request fr.tree ++ xs) (sym same ∙ begun limit fr.tree _ fr.begins more (part_text o.now ++ o.after) o.text),
  ),
)

pub ends_no_body : (limit : ℕ) (rest more : List ℕ) (f : Frame) (fr : Framed limit rest f) (r : WireRefusal) → more ≡ drop f.len rest → Fails limit fr.tree fr.begins.part more r → EndsThere limit rest
ends_no_body limit rest more f fr r same o = (
  NoBody fr.tree o.now o.after r,
  (
    (fr.is_head, o.part, o.bad),
    fr.text ∙ ap (λ xs. print_request fr.tree ++ xs) (sym same ∙ begun limit fr.tree _ fr.begins more (part_text o.now ++ o.after) o.text),
  ),
)

-- a whole message in front of the others
whole_text : (limit : ℕ) (rest more : List ℕ) (f : Frame) (fr : Framed limit rest f) (used : ℕ) → more ≡ drop f.len rest → (w : WholeBody limit fr.tree fr.begins.part more used)
    → rest ≡ message_text (record { head = fr.tree; body = w.body }) ++ drop used more
whole_text limit rest more f fr used same w =
    fr.text ∙ ap (λ xs. print_request fr.tree ++ xs) (sym same ∙ begun limit fr.tree _ fr.begins more (body_text w.body ++ drop used more) w.text)
    ∙ sym (append_assoc (print_request fr.tree) (body_text w.body) (drop used more))

pub ends_closing : (limit : ℕ) (rest more : List ℕ) (f : Frame) (fr : Framed limit rest f) (used : ℕ) → more ≡ drop f.len rest → WholeBody limit fr.tree fr.begins.part more used
    → f.close ≡ true → EndsThere limit rest
ends_closing limit rest more f fr used same w closed =
    let m : Message = record { head = fr.tree; body = w.body } in
    (Closing m (drop used more), (((fr.is_head, w.is_body), sym fr.close ∙ closed), whole_text limit rest more f fr used same w))

pub begins_message : (limit : ℕ) (rest more : List ℕ) (f : Frame) (fr : Framed limit rest f) (used : ℕ) → more ≡ drop f.len rest → WholeBody limit fr.tree fr.begins.part more used
    → f.close ≡ false → drop used more ≡ drop (f.len + used) rest → BeginsMessage limit rest (f.len + used)
begins_message limit rest more f fr used same w stays others =
    let m : Message = record { head = fr.tree; body = w.body } in
    (m, (((fr.is_head, w.is_body), sym fr.close ∙ stays), whole_text limit rest more f fr used same w ∙ ap (λ xs. message_text m ++ xs) others))

-- the messages that were walked over
pub record Passed (limit : ℕ) (bytes : List ℕ) (at : ℕ) : Type 0 where
  pub whole : List Message
  pub each : AllByRecursion (IsKept limit) whole
  pub text : bytes ≡ messages_text whole ++ drop at bytes

pub passed_none : (limit : ℕ) (bytes : List ℕ) → Passed limit bytes 0
passed_none limit bytes = record { whole = []; each = tt; text = refl }

pub pass_on : (limit : ℕ) (bytes more : List ℕ) (at used : ℕ) → Passed limit bytes at → more ≡ drop at bytes → BeginsMessage limit more used
    → drop used more ≡ drop (at + used) bytes → Passed limit bytes (at + used)
pass_on limit bytes more at used p same m others = record {
  whole = p.whole ++ m.0 ∷ [];
  each = each_push (IsKept limit) p.whole m.0 p.each m.1.0;
  text = p.text ∙ ap (λ xs. messages_text p.whole ++ xs) (sym same ∙ m.1.1 ∙ ap (λ xs. message_text m.0 ++ xs) others)
      ∙ sym (append_assoc (messages_text p.whole) (message_text m.0) (drop (at + used) bytes)) ∙ ap (λ xs. xs ++ drop (at + used) bytes) (sym (push message_text p.whole m.0));
}

pub pass_end : (limit : ℕ) (bytes more : List ℕ) (at : ℕ) → Passed limit bytes at → more ≡ drop at bytes → EndsThere limit more → (c : Cut) × IsLinkCut limit bytes c
pass_end limit bytes more at p same t = (
  record { whole = p.whole; tail = t.0 },
  record { whole = p.each; tail = t.1.0; text = p.text ∙ ap (λ xs. messages_text p.whole ++ xs) (sym same ∙ t.1.1) },
)
