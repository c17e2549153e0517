-- What a connection holds that waits.
use Rattle.std.proofs.Common.{◌≡◌, ℕ, ◌+◌, ◌≤◌, max, Bool, true, false, cond, List, length, Option, Some, None, nat_lt, refl, sym, ap, ◌∙◌, arith, length-append}
use Rattle.std.proofs.lemmas.Bool.Decides.{nat_tests}
use Rattle.std.proofs.lemmas.List.{append-nil}
use Rattle.httparse.specs.Grammar.{RequestHead}
use Rattle.wire_http.specs.Fields.{Pair, lengths, number}
use Rattle.wire_http.specs.Rules.{first_broken, body_len, longest_body, is_file_put, breaks_target, breaks_host, breaks_two_lengths, breaks_coding, breaks_length}
use Rattle.wire_http.specs.Head.{refusal_of, most_body, pairs, target_of}
use Rattle.wire_http.specs.declared.head.BodyLen.TheVariants.{Sized, Chunked}
use Rattle.wire_http.specs.declared.refusal.WireRefusal.TheVariants.{BadTarget, BadHost, TwoLengths, Coding, BadLength, TooLarge}
use Rattle.conn.specs.Message.{content}
use Rattle.conn.specs.Cut.{BodyPart, InPlain, AtLine, InData, AtTrailer, part_bytes, IsPart, OpenHead, OpenBody, Event, messages_events}
use Rattle.conn.specs.Held.{HoldsWith}
use Rattle.conn.specs.Stands.{StandsAt, Gives, rest_of}
use Rattle.conn.specs.Waiting.{held_at, Waits, WaitsWith, IsAtRest, RestsWith}
use Rattle.conn.specs.declared.state.State.{State}
use Rattle.conn.specs.declared.state.State.TheVariants as state
use Rattle.conn.specs.declared.connection.Conn.{Conn}
use Rattle.conn.specs.declared.next.Next.{Next}
use Rattle.conn.specs.declared.next.Next.TheVariants as next

none_parts : {A : Type 0} (b : Bool) (x : A) (o : Option A) → cond b (Some x) o ≡ None → (b ≡ false) × (o ≡ None)
none_parts true x o e = absurd (cc)
none_parts false x o e = (refl, e)

sized_is : (b : Bool) (m n : ℕ) → cond b (Sized m) Chunked ≡ Sized n → n ≡ m
sized_is true m n e = cc
sized_is false m n e = absurd (cc)

not_less : (a b : ℕ) → nat_lt a b ≡ false → b ≤ a
not_less a b e = grind (arith, nat_tests)

-- a length that no rule refuses is within the longest body
stated_few : (limit : ℕ) (method target : List ℕ) (minor : ℕ) (fs : List Pair) (n : ℕ) → first_broken limit method target minor fs ≡ None
    → body_len fs ≡ Sized n → n ≤ longest_body limit method target
unfolding first_broken body_len
stated_few limit method target minor fs n e sized =
    let a = none_parts (breaks_target target) BadTarget _ e in
    let b = none_parts (breaks_host minor fs) BadHost _ a.1 in
    let c = none_parts (breaks_two_lengths fs) TwoLengths _ b.1 in
    let d = none_parts (breaks_coding fs) Coding _ c.1 in
    let f = none_parts (breaks_length minor fs) BadLength _ d.1 in
    let g = none_parts (nat_lt (longest_body limit method target) (number (lengths fs))) TooLarge _ f.1 in
    let same = sized_is _ (number (lengths fs)) n sized in
    let most = not_less _ _ g.0 in
    omega (arith, same, most)

-- a part of a body is within the longest body
part_few : (limit : ℕ) (h : RequestHead) (p : BodyPart) → refusal_of limit h ≡ None → IsPart limit h p → length (part_bytes p) ≤ most_body limit h
part_few limit h (InPlain bytes) passes (n, sized, few) = let most = stated_few limit h.method (target_of h) h.minor (pairs h) n passes sized in omega (arith, few, most)
part_few limit h (AtLine chunks) passes (chunked, each, few) = omega (arith, few)
part_few limit h (InData chunks line bytes) passes ((chunked, each, few), more, some) = let both = length-append (content chunks) bytes in omega (arith, few, some, both)
part_few limit h (AtTrailer chunks last) passes ((chunked, each, few), is_last) = omega (arith, few)

longest_few : (b : Bool) (limit : ℕ) → cond b limit 4194304 ≤ max limit 4194304
longest_few true limit = omega (arith)
longest_few false limit = omega (arith)

at_rest : (limit : ℕ) (s : State) (rest fed : List ℕ) (given : List Event) → StandsAt limit s rest fed given → IsAtRest limit s rest → length rest ≤ 16384
    → Waits limit fed given (held_at s rest)
at_rest limit state.AtHead rest fed given s open_head few = record {
  cut = record { whole = s.whole; tail = OpenHead rest };
  link = record { whole = s.each; tail = open_head; text = s.text };
  is_open = tt;
  events = s.events ∙ sym (append-nil (messages_events s.whole));
  held = refl;
  few = omega (arith, few);
}
at_rest limit (state.InBody b) rest fed given s open_part few =
    let bytes : length b.maker ≡ length (part_bytes s.part) = ap length s.in_body.bytes in
    let part = part_few limit s.head s.part s.in_body.head.passes s.in_body.place.part in
    let most = longest_few (is_file_put s.head.method (target_of s.head)) limit in
    record {
      cut = record { whole = s.whole; tail = OpenBody s.head s.part rest };
      link = record { whole = s.each; tail = (s.in_body.head, s.in_body.place.part, open_part s.head s.part s.in_body); text = s.text };
      is_open = tt;
      events = s.events;
      held = ap (λ n. n + length rest) bytes;
      few = omega (arith, few, bytes, part, most);
    }
at_rest limit state.Over rest fed given s r few = absurd r
at_rest limit state.Shut rest fed given s r few = absurd r

-- an answer of a connection that stands for its bytes says that it waits, where it is Need
pub waits_behind : (n : Next) (conn : Conn) (fed : List ℕ) (given : List Event) → Gives conn.limit n conn.state (rest_of conn) fed given
    → RestsWith n conn.limit conn.state (rest_of conn) → HoldsWith n conn.buffer → WaitsWith n conn fed given
waits_behind next.Need conn fed given g r h = let few = h.1 in let same = h.0 in at_rest conn.limit conn.state (rest_of conn) fed given g.0 r (omega (arith, few, same))
waits_behind next.Continue conn fed given g r h = tt
waits_behind (next.Request q) conn fed given g r h = tt
waits_behind (next.Refused q) conn fed given g r h = tt
waits_behind next.Closed conn fed given g r h = tt
