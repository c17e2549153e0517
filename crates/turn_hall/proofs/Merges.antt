-- What holds of two lists of calls holds of both in one.
use Rattle.std.proofs.Common.{◌≡◌, ℕ, zero, suc, ◌+◌, ◌==◌, ◌<◌, ◌≤◌, ◌⊎◌, Bool, true, false, cond, List, [], ◌∷◌, length, refl, sym, ap, subst, ⊎_elim, arith, le_trans, zero-le, nat_lt}
use Rattle.std.proofs.lemmas.Bool.{eq-eqb}
use Rattle.std.proofs.lemmas.Bool.Decides.{nat_tests}
use native.Mathlib.Decide.{dec_lt}
use mathlib.Core.Logic.{dite}
use mathlib.Core.List.{IsPrefix}
use mathlib.Core.Option.{some, some-injective, some-ne-none}
use lib.ListN.{get_elem?}
use Rattle.turn_hall.specs.declared.view.Made.{Made}
use Rattle.turn_hall.specs.Lists.{one_if, count_if, longer, shorter}
use Rattle.turn_hall.specs.Calls.{insert, merged, is_turn, RisesFrom}
use Rattle.turn_hall.proofs.Prefixes.{prefix_self, prefix_whole, prefix_length, prefix_shorter}

next_above : (n : ℕ) → n ≤ n + 1
next_above n = omega arith

pick : {X : Type 0} (Q : X → Type 0) (b : Bool) (x y : X) → (b ≡ true → Q x) → (b ≡ false → Q y) → Q (cond b x y)
pick Q true x y p q = p refl
pick Q false x y p q = q refl

-- each element of the list meets P
abbrev pub Each : {A : Type 0} → (A → Type 0) → List A → Type 0
Each {A} P xs = (j : ℕ) (x : A) → get_elem? xs j ≡ some x → P x

each_cons : {A : Type 0} (P : A → Type 0) (m : A) (xs : List A) → P m → Each P xs → Each P (m ∷ xs)
each_cons P m xs here all zero x e = subst P (some-injective m x e) here
each_cons P m xs here all (suc j) x e = all j x e

each_none : {A : Type 0} (P : A → Type 0) → Each P []
each_none P j x e = absurd (some-ne-none x (sym e))

module _ {C B : Type 0} where
  -- each call of the list meets P
  pub each_insert : (P : Made C B → Type 0) (m : Made C B) (xs : List (Made C B)) → P m → Each P xs → Each P (insert m xs)
  each_insert P m [] here all = each_cons P m [] here (each_none P)
  each_insert P m (y ∷ ys) here all =
      let r = each_insert P m ys here (λ i u a. all (suc i) u a) in
      pick (Each P) (nat_lt m.turn y.turn) (m ∷ y ∷ ys) (y ∷ insert m ys) (λ _. each_cons P m (y ∷ ys) here all) (λ _. each_cons P y (insert m ys) (all 0 y refl) r)

  pub each_merged : (P : Made C B → Type 0) (xs ys : List (Made C B)) → Each P xs → Each P ys → Each P (merged xs ys)
  each_merged P [] ys left right = right
  each_merged P (x ∷ xs) ys left right = each_insert P x (merged xs ys) (left 0 x refl) (each_merged P xs ys (λ j u e. left (suc j) u e) right)

  -- no call is of an earlier turn than n, or than one before it
  abbrev NeverFalls : ℕ → List (Made C B) → Type 0
  NeverFalls n [] = Unit {0}
  NeverFalls n (x ∷ xs) = (n ≤ x.turn) × NeverFalls x.turn xs

  rises_lower : (n k : ℕ) (xs : List (Made C B)) → n ≤ k → NeverFalls k xs → NeverFalls n xs
  rises_lower n k [] le r = tt
  rises_lower n k (x ∷ xs) le r = (le_trans le r.0, r.1)

  rises_never_falls : (n : ℕ) (xs : List (Made C B)) → RisesFrom n xs → NeverFalls n xs
  rises_never_falls n [] r = tt
  rises_never_falls n (x ∷ xs) r = (r.0, rises_lower x.turn (x.turn + 1) xs (next_above x.turn) (rises_never_falls (x.turn + 1) xs r.1))

  -- behind a call that has its turn alone all turns are later
  all_later : (x : Made C B) (xs : List (Made C B)) → NeverFalls x.turn xs → count_if (is_turn x.turn) (x ∷ xs) ≤ 1 → NeverFalls (x.turn + 1) xs
  all_later x [] r one = tt
  all_later x (y ∷ ys) r one = (later, r.1)
    where
      later : x.turn + 1 ≤ y.turn
      later = dite (dec_lt x.turn y.turn) (λ lt. omega (arith, lt))
          (λ ge.
          let first = r.0 in
          let same : y.turn ≡ x.turn = omega (arith, ge) in
          let a : one_if (x.turn == x.turn) ≡ 1 = ap one_if (eq-eqb x.turn x.turn refl) in
          let b : one_if (y.turn == x.turn) ≡ 1 = ap one_if (eq-eqb y.turn x.turn same) in
          let two = one in
          absurd (omega arith))

  one_fewer : (f : Made C B → Bool) (x : Made C B) (xs : List (Made C B)) → count_if f (x ∷ xs) ≤ 1 → count_if f xs ≤ 1
  one_fewer f x xs one = omega (arith, one)

  -- turn numbers that never fall, each of one call, rise
  each_once_rises : (n : ℕ) (xs : List (Made C B)) → NeverFalls n xs → ((t : ℕ) → count_if (is_turn t) xs ≤ 1) → RisesFrom n xs
  each_once_rises n [] r one = tt
  each_once_rises n (x ∷ xs) r one = (r.0, each_once_rises (x.turn + 1) xs (all_later x xs r.1 (one x.turn)) (λ t. one_fewer (is_turn t) x xs (one t)))

  rises_insert : (n : ℕ) (m : Made C B) (xs : List (Made C B)) → n ≤ m.turn → NeverFalls n xs → NeverFalls n (insert m xs)
  rises_insert n m [] le r = (le, tt)
  rises_insert n m (x ∷ xs) le r =
      let later : x.turn ≤ m.turn → NeverFalls x.turn (insert m xs) = λ ge. rises_insert x.turn m xs ge r.1 in
      pick (NeverFalls n) (nat_lt m.turn x.turn) (m ∷ x ∷ xs) (x ∷ insert m xs) (λ is. (le, (below m.turn x.turn is, r.1))) (λ is. (r.0, later (above m.turn x.turn is)))
    where
      below : (a b : ℕ) → nat_lt a b ≡ true → a ≤ b
      below a b is = let lt : a < b = grind (arith, nat_tests) in omega arith

      above : (a b : ℕ) → nat_lt a b ≡ false → b ≤ a
      above a b is = grind (arith, nat_tests)

  falls_merged : (xs ys : List (Made C B)) → NeverFalls 0 xs → NeverFalls 0 ys → NeverFalls 0 (merged xs ys)
  falls_merged [] ys left right = right
  falls_merged (x ∷ xs) ys left right = rises_insert 0 x (merged xs ys) zero-le (falls_merged xs ys (rises_lower 0 x.turn xs zero-le left.1) right)

  pub rises_merged : (xs ys : List (Made C B)) → RisesFrom 0 xs → RisesFrom 0 ys → ((t : ℕ) → count_if (is_turn t) (merged xs ys) ≤ 1) → RisesFrom 0 (merged xs ys)
  rises_merged xs ys left right one = each_once_rises 0 (merged xs ys) (falls_merged xs ys (rises_never_falls 0 xs left) (rises_never_falls 0 ys right)) one

module _ {A : Type 0} where
  -- both are beginnings, so the longer one and the shorter one are
  pub longer_saw : (P : List A → Type 0) (xs ys : List A) → P xs → P ys → P (longer xs ys)
  longer_saw P xs ys p q = go (nat_lt (length ys) (length xs))
    where
      go : (b : Bool) → P (cond b xs ys)
      go true = p
      go false = q

  pub shorter_saw : (P : List A → Type 0) (xs ys : List A) → P xs → P ys → P (shorter xs ys)
  shorter_saw P xs ys p q = go (nat_lt (length ys) (length xs))
    where
      go : (b : Bool) → P (cond b ys xs)
      go true = q
      go false = p

  -- of two beginnings one of which is the whole, the longer is the whole
  pub longer_whole : (xs ys log : List A) → IsPrefix xs log → IsPrefix ys log → (xs ≡ log) ⊎ (ys ≡ log) → longer xs ys ≡ log
  longer_whole xs ys log p q w = go (nat_lt (length ys) (length xs)) refl
    where
      go : (b : Bool) → nat_lt (length ys) (length xs) ≡ b → cond b xs ys ≡ log
      go true is = let lt : length ys < length xs = grind (arith, nat_tests) in
          ⊎_elim (λ (e : xs ≡ log). e) (λ (e : ys ≡ log). let l = prefix_length xs log p in let s : length ys ≡ length log = ap length e in absurd (omega arith)) w
      go false is = let ge : length xs ≤ length ys = grind (arith, nat_tests) in
          ⊎_elim (λ (e : xs ≡ log). let s : length xs ≡ length log = ap length e in prefix_whole ys log q (omega arith)) (λ (e : ys ≡ log). e) w

  pub longer_length : (p : ℕ) (xs ys : List A) → (p < length xs) ⊎ (p < length ys) → p < length (longer xs ys)
  longer_length p xs ys h = go (nat_lt (length ys) (length xs)) refl
    where
      go : (b : Bool) → nat_lt (length ys) (length xs) ≡ b → p < length (cond b xs ys)
      go true is = let lt : length ys < length xs = grind (arith, nat_tests) in ⊎_elim (λ a. a) (λ (a : p < length ys). omega arith) h
      go false is = let ge : length xs ≤ length ys = grind (arith, nat_tests) in ⊎_elim (λ (a : p < length xs). omega arith) (λ a. a) h

  -- of two beginnings of one list each begins the longer
  pub both_begin : (xs ys log : List A) → IsPrefix (longer xs ys) log → IsPrefix (shorter xs ys) log → IsPrefix xs (longer xs ys) × IsPrefix ys (longer xs ys)
  both_begin xs ys log p q = go (nat_lt (length ys) (length xs)) refl p q
    where
      go : (b : Bool) → nat_lt (length ys) (length xs) ≡ b → IsPrefix (cond b xs ys) log → IsPrefix (cond b ys xs) log → IsPrefix xs (cond b xs ys) × IsPrefix ys (cond b xs ys)
      go true is p q = let lt : length ys < length xs = grind (arith, nat_tests) in (prefix_self xs, prefix_shorter ys xs log q p (omega arith))
      go false is p q = let ge : length xs ≤ length ys = grind (arith, nat_tests) in (prefix_shorter xs ys log q p ge, prefix_self ys)

  -- of two beginnings of one list the shorter begins the longer
  pub shorter_begins : (xs ys log : List A) → IsPrefix (longer xs ys) log → IsPrefix (shorter xs ys) log → IsPrefix (shorter xs ys) (longer xs ys)
  shorter_begins xs ys log p q = go (nat_lt (length ys) (length xs)) refl p q
    where
      go : (b : Bool) → nat_lt (length ys) (length xs) ≡ b → IsPrefix (cond b xs ys) log → IsPrefix (cond b ys xs) log → IsPrefix (cond b ys xs) (cond b xs ys)
      go true is p q = let lt : length ys < length xs = grind (arith, nat_tests) in prefix_shorter ys xs log q p (omega arith)
      go false is p q = let ge : length xs ≤ length ys = grind (arith, nat_tests) in prefix_shorter xs ys log q p ge
