-- Two tails of one text give the same, but for what may still wait.
use Rattle.std.proofs.Common.{◌≡◌, ◌⊎◌, ◌≤◌, ◌-◌, ℕ, List, [], ◌∷◌, ◌++◌, length, take, refl, sym, ap, ap₂, ◌∙◌, append_assoc, arith, inl, inr}
use Rattle.std.specs.Prelude.{Some, None}
use Rattle.std.proofs.lemmas.List.{append-nil}
use Rattle.httparse.specs.Grammar.{RequestHead, IsRequestHead, print_request, EndsInTarget, NeverHasRequest}
use Rattle.httparse.specs.Spans.{RequestExceeds}
use Rattle.httparse.proofs.GrammarLemmas.{request_unique}
use Rattle.wire_http.specs.Head.{refusal_of, IsOpenHead, IsBadHead}
use Rattle.wire_http.specs.declared.refusal.WireRefusal.{WireRefusal}
use Rattle.conn.specs.Message.{Message, body_text, IsHead}
use Rattle.conn.specs.Cut.{BodyPart, part_text, Refuses, told, message_events, messages_events, IsBadPart, IsPart, Tail, tail_text, tail_events, IsTail, OpenHead, OpenBody, NoHead, Breaks, NoBody, Closing}
use Rattle.conn.specs.Unique.{MayWait, HasOneOutcome}
use Rattle.conn.proofs.Cuts.{in_front, not_body, one_cut}
use Rattle.conn.proofs.Few.{few_trailers}
use Rattle.conn.proofs.FewHeads.{few_heads}
use Rattle.conn.proofs.Outcomes.{same_part, open_or_bad, one_refusal}
use Rattle.conn.proofs.Uniqueness.{message_unique}

-- a head at the front is no bad head
no_bad : (h : RequestHead) (rest more : List ℕ) → IsRequestHead h → length h.fields ≤ 64 → length (print_request h) ≤ 16384 → rest ≡ print_request h ++ more → IsBadHead rest → ⊥
no_bad h rest more is few short e (inl never) = never [] h more (is, append-nil rest ∙ e)
no_bad h rest more is few short e (inr (inl exceeds)) = few_heads rest h more exceeds (is, e) few
no_bad h rest more is few short e (inr (inr (long, none))) =
    none h (take (16384 - length (print_request h)) more) (is, ap (take 16384) e ∙ in_front 16384 (print_request h) more short)

-- what a head that no rule refuses is in a tail
abbrev HasHead : RequestHead → List ℕ → Tail → Type 0
HasHead h more (OpenHead part) = ⊥
HasHead h more (OpenBody head part rest) = (h ≡ head) × (more ≡ part_text part ++ rest)
HasHead h more (NoHead rest) = ⊥
HasHead h more (Breaks head rest refusal) = ⊥
HasHead h more (NoBody head part rest refusal) = (h ≡ head) × (more ≡ part_text part ++ rest)
HasHead h more (Closing message rest) = (h ≡ message.head) × (more ≡ body_text message.body ++ rest)

has_head : (limit : ℕ) (h : RequestHead) (more : List ℕ) (t : Tail) → IsHead limit h → IsTail limit t → print_request h ++ more ≡ tail_text t → HasHead h more t
has_head limit h more (OpenHead part) ih it e = it.not_yet h more (ih.head, sym e)
has_head limit h more (OpenBody head part rest) ih it e = request_unique (print_request h ++ more) h head more (part_text part ++ rest) (ih.head, refl) (it.0.head, e)
has_head limit h more (NoHead rest) ih it e = no_bad h rest more ih.head ih.few ih.short (sym e) it
has_head limit h more (Breaks head rest refusal) ih it e =
    let same = request_unique (print_request h ++ more) h head more rest (ih.head, refl) (it.0.reads.0, e) in
    let none : None ≡ Some refusal = sym ih.passes ∙ ap (refusal_of limit) same.0 ∙ it.1 in
    absurd (cc)
has_head limit h more (NoBody head part rest refusal) ih it e = request_unique (print_request h ++ more) h head more (part_text part ++ rest) (ih.head, refl) (it.0.head, e)
has_head limit h more (Closing message rest) ih it e =
    request_unique (print_request h ++ more) h message.head more (body_text message.body ++ rest) (ih.head, refl) (it.0.0.head, e ∙ append_assoc (print_request message.head) (body_text message.body) rest)

abbrev Agree : Tail → Tail → Type 0
Agree s t = (tail_events s ≡ tail_events t) ⊎ (MayWait s ⊎ MayWait t)

-- an open head against a bad one
open_or_no_head : (part : List ℕ) → IsOpenHead part → IsBadHead part → (EndsInTarget part × NeverHasRequest part) ⊎ RequestExceeds 64 part
open_or_no_head part is (inl never) = elim is.may [
  | inl comes ↦ absurd (never comes.0 comes.1 [] comes.2)
  | inr target ↦ inl (target, never)
]
open_or_no_head part is (inr (inl exceeds)) = inr exceeds
open_or_no_head part is (inr (inr (long, none))) = absurd (omega (arith, long, is.within))

module _ (limit : ℕ) where
  -- a body that waits, against each tail
  wait_agrees : (h : RequestHead) (p : BodyPart) (x : List ℕ) (t : Tail) → IsTail limit (OpenBody h p x) → IsTail limit t → tail_text (OpenBody h p x) ≡ tail_text t → Agree (OpenBody h p x) t
  wait_agrees h p x (OpenHead part) is it e = absurd (has_head limit h (part_text p ++ x) (OpenHead part) is.0 it e)
  wait_agrees h p x (OpenBody head part rest) is it e = inl (ap told (has_head limit h (part_text p ++ x) (OpenBody head part rest) is.0 it e).0)
  wait_agrees h p x (NoHead rest) is it e = absurd (has_head limit h (part_text p ++ x) (NoHead rest) is.0 it e)
  wait_agrees h p x (Breaks head rest refusal) is it e = absurd (has_head limit h (part_text p ++ x) (Breaks head rest refusal) is.0 it e)
  wait_agrees h p x (NoBody head part rest refusal) is it e =
      let same = has_head limit h (part_text p ++ x) (NoBody head part rest refusal) is.0 it e in
      let ip : IsPart limit h part = rw same.0 it.1 in
      let bad : IsBadPart limit h part rest refusal = rw same.0 it.2 in
      let here = same_part limit h p part x rest is.1 ip (inl is.2) (inr (refusal, bad)) same.1 in
      inr (inl (open_or_bad limit h p x refusal is.2 (rw (here.0, here.1) bad)))
  wait_agrees h p x (Closing message rest) is it e =
      let same = has_head limit h (part_text p ++ x) (Closing message rest) is.0 it e in
      absurd (not_body few_trailers limit h message.body p rest x (rw same.0 it.0.1) is.1 (sym same.1) (inl is.2))

  -- a body that is refused, against a further refused one and a whole one
  refused_agrees : (h : RequestHead) (p : BodyPart) (x : List ℕ) (r : WireRefusal) (t : Tail) → IsTail limit (NoBody h p x r) → IsTail limit t → tail_text (NoBody h p x r) ≡ tail_text t → Agree (NoBody h p x r) t
  refused_agrees h p x r (OpenHead part) is it e = absurd (has_head limit h (part_text p ++ x) (OpenHead part) is.0 it e)
  refused_agrees h p x r (OpenBody head part rest) is it e = turned (wait_agrees head part rest (NoBody h p x r) it is (sym e))
    where
      turned : Agree (OpenBody head part rest) (NoBody h p x r) → Agree (NoBody h p x r) (OpenBody head part rest)
      turned (inl same) = inl (sym same)
      turned (inr (inl w)) = inr (inr w)
      turned (inr (inr w)) = inr (inl w)
  refused_agrees h p x r (NoHead rest) is it e = absurd (has_head limit h (part_text p ++ x) (NoHead rest) is.0 it e)
  refused_agrees h p x r (Breaks head rest refusal) is it e = absurd (has_head limit h (part_text p ++ x) (Breaks head rest refusal) is.0 it e)
  refused_agrees h p x r (NoBody head part rest refusal) is it e =
      let same = has_head limit h (part_text p ++ x) (NoBody head part rest refusal) is.0 it e in
      let ip : IsPart limit h part = rw same.0 it.1 in
      let bad : IsBadPart limit h part rest refusal = rw same.0 it.2 in
      let here = same_part limit h p part x rest is.1 ip (inr (r, is.2)) (inr (refusal, bad)) same.1 in
      let one : r ≡ refusal = one_refusal limit h p x r refusal is.2 (rw (here.0, here.1) bad) in
      inl (ap₂ (λ g q. told g ++ Refuses q ∷ []) same.0 one)
  refused_agrees h p x r (Closing message rest) is it e =
      let same = has_head limit h (part_text p ++ x) (Closing message rest) is.0 it e in
      absurd (not_body few_trailers limit h message.body p rest x (rw same.0 it.0.1) is.1 (sym same.1) (inr (r, is.2)))

  -- a closing request, against each tail
  closing_agrees : (m : Message) (x : List ℕ) (t : Tail) → IsTail limit (Closing m x) → IsTail limit t → tail_text (Closing m x) ≡ tail_text t → Agree (Closing m x) t
  closing_agrees m x (OpenHead part) is it e = absurd (has_head limit m.head (body_text m.body ++ x) (OpenHead part) is.0.0 it (sym (append_assoc (print_request m.head) (body_text m.body) x) ∙ e))
  closing_agrees m x (OpenBody head part rest) is it e =
      let same = has_head limit m.head (body_text m.body ++ x) (OpenBody head part rest) is.0.0 it (sym (append_assoc (print_request m.head) (body_text m.body) x) ∙ e) in
      absurd (not_body few_trailers limit head m.body part x rest (rw same.0 at is.0.1) it.1 same.1 (inl it.2))
  closing_agrees m x (NoHead rest) is it e = absurd (has_head limit m.head (body_text m.body ++ x) (NoHead rest) is.0.0 it (sym (append_assoc (print_request m.head) (body_text m.body) x) ∙ e))
  closing_agrees m x (Breaks head rest refusal) is it e = absurd (has_head limit m.head (body_text m.body ++ x) (Breaks head rest refusal) is.0.0 it (sym (append_assoc (print_request m.head) (body_text m.body) x) ∙ e))
  closing_agrees m x (NoBody head part rest refusal) is it e =
      let same = has_head limit m.head (body_text m.body ++ x) (NoBody head part rest refusal) is.0.0 it (sym (append_assoc (print_request m.head) (body_text m.body) x) ∙ e) in
      absurd (not_body few_trailers limit head m.body part x rest (rw same.0 at is.0.1) it.1 same.1 (inr (refusal, it.2)))
  closing_agrees m x (Closing n rest) is it e = inl (ap message_events (message_unique limit m n x rest is.0 it.0 e).0)

  turn : (s t : Tail) → Agree s t → Agree t s
  turn s t (inl same) = inl (sym same)
  turn s t (inr (inl w)) = inr (inr w)
  turn s t (inr (inr w)) = inr (inl w)

  agree : (s t : Tail) → IsTail limit s → IsTail limit t → tail_text s ≡ tail_text t → Agree s t
  agree (OpenBody h p x) t is it e = wait_agrees h p x t is it e
  agree (NoBody h p x r) t is it e = refused_agrees h p x r t is it e
  agree (Closing m x) t is it e = closing_agrees m x t is it e
  agree (OpenHead part) (OpenHead other) is it e = inl refl
  agree (OpenHead part) (OpenBody head p x) is it e = turn (OpenBody head p x) (OpenHead part) (wait_agrees head p x (OpenHead part) it is (sym e))
  agree (OpenHead part) (NoHead rest) is it e = inr (inl (open_or_no_head part is (rw e it)))
  agree (OpenHead part) (Breaks head rest refusal) is it e = absurd (is.not_yet head rest (it.0.reads.0, e))
  agree (OpenHead part) (NoBody head p x r) is it e = turn (NoBody head p x r) (OpenHead part) (refused_agrees head p x r (OpenHead part) it is (sym e))
  agree (OpenHead part) (Closing m x) is it e = turn (Closing m x) (OpenHead part) (closing_agrees m x (OpenHead part) it is (sym e))
  agree (NoHead rest) (OpenHead part) is it e = inr (inr (open_or_no_head part it (rw (sym e) is)))
  agree (NoHead rest) (OpenBody head p x) is it e = turn (OpenBody head p x) (NoHead rest) (wait_agrees head p x (NoHead rest) it is (sym e))
  agree (NoHead rest) (NoHead other) is it e = inl refl
  agree (NoHead rest) (Breaks head x refusal) is it e = absurd (no_bad head rest x it.0.reads.0 it.0.fields it.0.within e is)
  agree (NoHead rest) (NoBody head p x r) is it e = turn (NoBody head p x r) (NoHead rest) (refused_agrees head p x r (NoHead rest) it is (sym e))
  agree (NoHead rest) (Closing m x) is it e = turn (Closing m x) (NoHead rest) (closing_agrees m x (NoHead rest) it is (sym e))
  agree (Breaks h rest r) (OpenHead part) is it e = absurd (it.not_yet h rest (is.0.reads.0, sym e))
  agree (Breaks h rest r) (OpenBody head p x) is it e = turn (OpenBody head p x) (Breaks h rest r) (wait_agrees head p x (Breaks h rest r) it is (sym e))
  agree (Breaks h rest r) (NoHead other) is it e = absurd (no_bad h other rest is.0.reads.0 is.0.fields is.0.within (sym e) it)
  agree (Breaks h rest r) (Breaks head other refusal) is it e =
      let same = request_unique (print_request h ++ rest) h head rest other (is.0.reads.0, refl) (it.0.reads.0, e) in
      let both : Some r ≡ Some refusal = sym is.1 ∙ ap (refusal_of limit) same.0 ∙ it.1 in
      let one : r ≡ refusal = cc in
      inl (ap (λ q. Refuses q ∷ []) one)
  agree (Breaks h rest r) (NoBody head p x q) is it e = turn (NoBody head p x q) (Breaks h rest r) (refused_agrees head p x q (Breaks h rest r) it is (sym e))
  agree (Breaks h rest r) (Closing m x) is it e = turn (Closing m x) (Breaks h rest r) (closing_agrees m x (Breaks h rest r) it is (sym e))

pub one_outcome : HasOneOutcome
one_outcome limit bytes c d ic id = by_tails (agree limit c.tail d.tail ic.tail id.tail same.1)
  where
    same : (c.whole ≡ d.whole) × (tail_text c.tail ≡ tail_text d.tail)
    same = one_cut limit bytes c d ic id

    by_tails : Agree c.tail d.tail → ((messages_events c.whole ++ tail_events c.tail) ≡ (messages_events d.whole ++ tail_events d.tail)) ⊎ (MayWait c.tail ⊎ MayWait d.tail)
    by_tails (inl events) = inl (ap₂ (λ ms es. messages_events ms ++ es) same.0 events)
    by_tails (inr wait) = inr wait
