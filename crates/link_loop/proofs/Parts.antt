-- Texts that are written in parts.
use Rattle.std.proofs.Common.{◌≡◌, ℕ, ◌+◌, ◌≤◌, List, ◌++◌, append_assoc, arith, length, take, drop, Option, Result, Ok, Err, sym, ap, ◌∙◌, subst}
use Rattle.std.proofs.lemmas.List.{length-take-le, take-append-drop}
use Rattle.std.proofs.Math.Seq.{take-add, take-append_seam}
use Rattle.outside.specs.Causes.{HasCause}
use Rattle.outside.specs.Streams.{SendsWhole, StillAppends, StillAppendsFront}
use Rattle.link_loop.proofs.Lists.{rose_later, still_front, still_more}

-- behind a text that was written, further text is written or breaks off
pub sends_next : {T E : Type 0} (a b c : Option (List ℕ)) (x y : List ℕ) (r : Result T E) → StillAppends a b x → SendsWhole b c r y → SendsWhole a c r (x ++ y)
sends_next a b c x y (Ok t) h k = still_more a b c x y h k
sends_next a b c x y (Err e) h k = still_front a b c x y h k

-- where a text breaks off, so does one that goes on behind it
pub front_of_both : (a b : Option (List ℕ)) (x y : List ℕ) → StillAppendsFront a b x → StillAppendsFront a b (x ++ y)
front_of_both a b x y k = (k.0, k.1, (k.2.0 ++ y, ap (λ l. l ++ y) k.2.1 ∙ append_assoc k.0 k.2.0 y))

-- the cause of a later call is that of both
pub cause_next : {T E : Type 0} (a b c : ℕ) (r : Result T E) → a ≤ b → HasCause b c r → HasCause a c r
cause_next a b c (Ok t) low h = record { later = (let high = h.later in omega arith); failed = tt }
cause_next a b c (Err e) low h = record { later = (let high = h.later in omega arith); failed = rose_later a b c low h.failed }

-- the first bytes, and behind them the next ones
pub piece_written : (a b c : Option (List ℕ)) (from count : ℕ) (bytes : List ℕ) → StillAppends a b (take from bytes) → StillAppends b c (take count (drop from bytes)) → StillAppends a c (take (from + count) bytes)
piece_written a b c from count bytes h k = subst (StillAppends a c) (sym (take-add from count bytes)) (still_more a b c (take from bytes) (take count (drop from bytes)) h k)

-- the first bytes, and behind them a front of the next ones
pub piece_breaks : (a b c : Option (List ℕ)) (from count : ℕ) (bytes : List ℕ) → StillAppends a b (take from bytes) → StillAppendsFront b c (take count (drop from bytes)) → StillAppendsFront a c bytes
piece_breaks a b c from count bytes h k =
    subst (StillAppendsFront a c) (take-append-drop (from + count) bytes)
    (front_of_both a c (take (from + count) bytes) (drop (from + count) bytes)
    (subst (StillAppendsFront a c) (sym (take-add from count bytes)) (still_front a b c (take from bytes) (take count (drop from bytes)) h k)))

-- the front of a list that begins with the first bytes
pub front_is : (count : ℕ) (bytes behind to : List ℕ) → to ≡ take count bytes ++ behind → count ≤ length bytes → take count to ≡ take count bytes
front_is count bytes behind to e few =
    ap (take count) e ∙ ap (λ k. take k (take count bytes ++ behind)) (sym (length-take-le count bytes few)) ∙ take-append_seam (take count bytes) behind
