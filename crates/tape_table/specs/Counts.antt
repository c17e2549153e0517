-- The order of the copies of a tape, and how they are counted, with their laws.
use Rattle.std.specs.Prelude.{ℕ, ◌≡◌, ◌+◌, Bool, true, false, ◌||◌, min, nat_lt, refl}
use Rattle.std.proofs.Common.{arith}
use Rattle.std.proofs.lemmas.Bool.Decides.{nat_tests}
use Rattle.tape_table.specs.declared.live.LiveCopy.{LiveCopy}

-- a copy comes before another where its fSeq is lower
abbrev pub live_before : LiveCopy → LiveCopy → Bool
live_before a b = nat_lt a.fseq b.fseq

-- two counts together, standing still at the greatest number
abbrev pub count_joined : ℕ → ℕ → ℕ
count_joined a b = min (a + b) 4294967295

-- counts are the same in any grouping
pub counts_join : (a b c : ℕ) → count_joined (count_joined a b) c ≡ count_joined a (count_joined b c)
counts_join a b c = omega arith

-- of two copies one at most comes first
pub live_one_way : (a b : LiveCopy) → live_before a b ≡ true → live_before b a ≡ false
live_one_way a b e = grind (arith, nat_tests)

below_or : (x y z : ℕ) (a b : Bool) → nat_lt x z ≡ true → nat_lt x y ≡ a → nat_lt y z ≡ b → (a || b) ≡ true
below_or x y z true b e f g = refl
below_or x y z false true e f g = refl
below_or x y z false false e f g = grind (arith, nat_tests)

-- a copy between two others comes behind the first or before the second
pub live_splits : (a b c : LiveCopy) → live_before a c ≡ true → (live_before a b || live_before b c) ≡ true
live_splits a b c e = below_or a.fseq b.fseq c.fseq _ _ e refl refl
