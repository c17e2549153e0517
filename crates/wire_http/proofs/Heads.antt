-- A head in the first bytes is a head at the front of all of them.
use Rattle.std.proofs.Common.{◌≡◌, ◌⊎◌, ℕ, Bool, true, false, not, cond, refl, List, ◌++◌, length, take, drop, sym, ap, ap₂, ◌∙◌, append_assoc, arith, inl, inr}
use Rattle.std.specs.Prelude.{Option, Some, None}
use Rattle.std.specs.List.{list_all}
use Rattle.std.proofs.lemmas.List.{take-append-drop, length-take, length-map}
use Rattle.std.proofs.lemmas.Bool.{or_parts}
use Rattle.httparse.specs.Grammar.{RequestHead, IsRequestHead, print_request, NeverHasRequest}
use Rattle.httparse.specs.Spans.{RequestExceeds, IsRequestAt, IsRequestWithin, header_bytes, name_and_value}
use Rattle.httparse.specs.declared.spans.HeaderSpan.{HeaderSpan}
use Rattle.httparse.specs.declared.spans.RequestSpans.{RequestSpans}
use Rattle.wire_http.specs.Fields.{Pair, is_length, lengths}
use Rattle.wire_http.specs.Rules.{first_broken, longest_body, body_len, is_expecting, is_closing, breaks_target, breaks_host, breaks_two_lengths, breaks_coding, breaks_length}
use Rattle.wire_http.specs.declared.refusal.WireRefusal.TheVariants.{BadTarget, BadHost, TwoLengths, Coding, BadLength}
use Rattle.wire_http.specs.declared.head.HeadRead.{HeadRead}
use Rattle.wire_http.specs.declared.head.HeadRead.TheVariants as read
use Rattle.wire_http.specs.Callers.{text_or_none, who_of}
use Rattle.wire_http.specs.declared.head.Head.{Head}
use Rattle.wire_http.specs.declared.head.Frame.{Frame}
use Rattle.wire_http.specs.declared.head.Judged.{Judged}
use Rattle.wire_http.specs.declared.head.Judged.TheVariants as judged
use Rattle.wire_http.specs.Head.{target_of, pairs, refusal_of, IsHeadOf, IsFrameOf, BeginsWith, IsReading, IsReadingOf, IsJudged, IsJudgmentOf}
use Rattle.wire_http.proofs.Queries.{query_text, text_is, token_text}

-- all bytes are the first ones and the others
behind : (n : ℕ) (bs more : List ℕ) → bs ++ more ≡ take n bs ++ (drop n bs ++ more)
behind n bs more = ap (λ xs. xs ++ more) (sym (take-append-drop n bs)) ∙ append_assoc (take n bs) (drop n bs) more

pub never_of_front : (n : ℕ) (bs : List ℕ) → NeverHasRequest (take n bs) → NeverHasRequest bs
never_of_front n bs never more h rest reads = never (drop n bs ++ more) h rest (reads.0, sym (behind n bs more) ∙ reads.1)

pub exceeds_of_front : (room n : ℕ) (bs : List ℕ) → RequestExceeds room (take n bs) → RequestExceeds room bs
exceeds_of_front room n bs e =
    (e.0, e.1 ++ drop n bs, sym (take-append-drop n bs) ∙ ap (λ xs. xs ++ drop n bs) e.2 ∙ append_assoc e.0 e.1 (drop n bs), e.3, e.4, e.5)

pub begins_of_front : (n : ℕ) (bs : List ℕ) (hs : List HeaderSpan) (r : RequestSpans) (h : RequestHead) → n ≡ 16384 → length hs ≡ 64
    → IsRequestWithin (take n bs) hs r → IsRequestAt (take n bs) hs r h → BeginsWith bs h (drop r.len (take n bs) ++ drop n bs)
begins_of_front n bs hs r h limit room within at =
    let count : length (take r.headers hs) ≡ length h.fields =
    sym (length-map (take r.headers hs) (header_bytes (take n bs))) ∙ ap length at.fields ∙ length-map h.fields name_and_value in
    record {
      reads = (at.reads.0, sym (take-append-drop n bs) ∙ ap (λ xs. xs ++ drop n bs) at.reads.1 ∙ append_assoc (print_request h) (drop r.len (take n bs)) (drop n bs));
      fields = omega (arith, length-take r.headers hs, within.section.count_fits);
      within = omega (arith, at.len, within.section.len_fits, length-take n bs);
    }

none_parts : {A : Type 0} (b : Bool) (x : A) (o : Option A) → cond b (Some x) o ≡ None → (b ≡ false) × (o ≡ None)
none_parts true x o e = absurd (cc)
none_parts false x o e = (refl, e)

true_of_not : (b : Bool) → not b ≡ false → b ≡ true
true_of_not true e = refl
true_of_not false e = absurd (cc)

pub lengths_of_none : (limit : ℕ) (method target : List ℕ) (minor : ℕ) (fs : List Pair) → first_broken limit method target minor fs ≡ None
    → list_all is_length (lengths fs) ≡ true
unfolding first_broken
lengths_of_none limit method target minor fs e =
    let a = none_parts (breaks_target target) BadTarget _ e in
    let b = none_parts (breaks_host minor fs) BadHost _ a.1 in
    let c = none_parts (breaks_two_lengths fs) TwoLengths _ b.1 in
    let d = none_parts (breaks_coding fs) Coding _ c.1 in
    let f = none_parts (breaks_length minor fs) BadLength _ d.1 in
    true_of_not _ (or_parts _ _ (or_parts _ _ f.0).1).0

-- what was found at the places of a head's parts is what the head says of its message
pub frame_of : (limit : ℕ) (method target : List ℕ) (minor : ℕ) (fs : List Pair) (h : RequestHead) (f : Frame)
    → method ≡ h.method → target ≡ target_of h → minor ≡ h.minor → fs ≡ pairs h → first_broken limit method target minor fs ≡ None
    → f.body ≡ body_len fs → f.most ≡ longest_body limit method target → f.expects ≡ is_expecting minor fs → f.close ≡ is_closing minor fs
    → f.len ≡ length (print_request h) → (refusal_of limit h ≡ None) × IsFrameOf limit h f
frame_of limit method target minor fs h f m t v s none hb hm he hc hl = (
  ap₂ (λ x y. first_broken limit x y h.minor (pairs h)) (sym m) (sym t) ∙ ap₂ (λ x y. first_broken limit method target x y) (sym v) (sym s) ∙ none,
  record {
    body = hb ∙ ap body_len s;
    most = hm ∙ ap₂ (λ x y. longest_body limit x y) m t;
    expects = he ∙ ap₂ (λ x y. is_expecting x y) v s;
    close = hc ∙ ap₂ (λ x y. is_closing x y) v s;
    len = hl;
  },
)

-- the texts of a head, and what it says of its message, are what the head says
pub head_of : (limit : ℕ) (method target : List ℕ) (fs : List Pair) (h : RequestHead) (f : Frame) (head : Head) → IsRequestHead h
    → method ≡ h.method → target ≡ target_of h → fs ≡ pairs h → IsFrameOf limit h f
    → head.method ≡ text_or_none method → head.target ≡ text_or_none target → head.who ≡ who_of fs → head.body ≡ f.body
    → head.expects ≡ f.expects → head.close ≡ f.close → head.len ≡ f.len → IsHeadOf h head
head_of limit method target fs h f head is m t s of hm ht hw hb he hc hl = record {
  method = hm ∙ ap text_or_none m ∙ token_text h.method is.method;
  target = ht ∙ ap text_or_none t ∙ text_is (target_of h) (query_text h.target is.target_text);
  who = hw ∙ ap who_of s;
  body = hb ∙ of.body;
  expects = he ∙ of.expects;
  close = hc ∙ of.close;
  len = hl ∙ of.len;
}

-- what a whole head is judged as is a judgment of the bytes
pub judged_of : (limit : ℕ) (bs rest : List ℕ) (h : RequestHead) (j : Judged) → BeginsWith bs h rest → IsJudgmentOf limit h j → IsJudged limit bs j
judged_of limit bs rest h judged.Need b k = absurd k
judged_of limit bs rest h (judged.Passes f) b k = record { tree = h; rest = rest; begins = b; passes = k.0; parts = k.1 }
judged_of limit bs rest h (judged.Refused refusal) b k = inr (record { tree = h; rest = rest; begins = b; breaks = k })

-- what a whole head is read as is a reading of the bytes
pub reading_of : (limit : ℕ) (bs rest : List ℕ) (h : RequestHead) (r : HeadRead) → BeginsWith bs h rest → IsReadingOf limit h r → IsReading limit bs r
reading_of limit bs rest h read.Need b k = absurd k
reading_of limit bs rest h (read.Head head) b k = record { tree = h; rest = rest; begins = b; passes = k.0; parts = k.1 }
reading_of limit bs rest h (read.Refused refusal) b k = inr (record { tree = h; rest = rest; begins = b; breaks = k })
