-- Facts about numbered links.
use Rattle.std.proofs.Common.{◌≡◌, ◌≢◌, ℕ, zero, suc, ◌+◌, ◌<◌, ◌≤◌, ◌==◌, Bool, true, false, cond, List, [], ◌∷◌, ◌++◌, length, refl, sym, ap, ◌∙◌, subst, arith, le_trans, nat_lt}
use Rattle.std.proofs.lemmas.Bool.Decides.{nat_tests}
use mathlib.Core.Option.{some, some-injective, some-ne-none}
use lib.ListN.{get_elem?}
use Rattle.link_pool.specs.declared.views.Passed.{Passed}
use Rattle.link_pool.specs.Entries.{one_if, passed, numbered, RisesFrom, count_of, insert, merged}

pub pick : {X : Type 0} (Q : X → Type 0) (b : Bool) (x y : X) → (b ≡ true → Q x) → (b ≡ false → Q y) → Q (cond b x y)
pick Q true x y p q = p refl
pick Q false x y p q = q refl

pub pick_bool : {X : Type 0} (Q : Bool → X) (b : Bool) (P : X → Type 0) → (b ≡ true → P (Q true)) → (b ≡ false → P (Q false)) → P (Q b)
pick_bool Q true P p q = p refl
pick_bool Q false P p q = q refl

-- each element of the list meets P
abbrev pub Each : {A : Type 0} → (A → Type 0) → List A → Type 0
Each {A} P xs = (j : ℕ) (x : A) → get_elem? xs j ≡ some x → P x

each_cons : {A : Type 0} (P : A → Type 0) (m : A) (xs : List A) → P m → Each P xs → Each P (m ∷ xs)
each_cons P m xs here all zero x e = subst P (some-injective m x e) here
each_cons P m xs here all (suc j) x e = all j x e

each_none : {A : Type 0} (P : A → Type 0) → Each P []
each_none P j x e = absurd (some-ne-none x (sym e))

pub one_here : (n : ℕ) → one_if (n == n) ≡ 1
one_here n = grind (arith, nat_tests)

pub one_else : (m n : ℕ) → m ≢ n → one_if (m == n) ≡ 0
one_else m n ne = pick_bool one_if (m == n) (λ k. k ≡ 0) (λ is. absurd (ne (same m n is))) (λ _. refl)
  where
    same : (a b : ℕ) → (a == b) ≡ true → a ≡ b
    same a b is = grind (arith, nat_tests)

one_then : (m n : ℕ) → one_if (m == n) ≡ 1 → m ≡ n
one_then m n o = pick_bool (λ b. one_if b) (m == n) (λ k. k ≡ 1 → m ≡ n) (λ is _. same m n is) (λ _ z. absurd (omega (arith, z))) o
  where
    same : (a b : ℕ) → (a == b) ≡ true → a ≡ b
    same a b is = grind (arith, nat_tests)

not_one : (n : ℕ) → n ≡ 0 → n ≡ 1 → ⊥
not_one n z o = omega arith

starts : (k n : ℕ) → k < k + suc n
starts k n = omega arith

module _ {L : Type 0} where
  pub each_insert : (P : Passed L → Type 0) (m : Passed L) (xs : List (Passed L)) → P m → Each P xs → Each P (insert m xs)
  each_insert P m [] here all = each_cons P m [] here (each_none P)
  each_insert P m (y ∷ ys) here all =
      let r = each_insert P m ys here (λ i u a. all (suc i) u a) in
      pick (Each P) (nat_lt m.number y.number) (m ∷ y ∷ ys) (y ∷ insert m ys) (λ _. each_cons P m (y ∷ ys) here all) (λ _. each_cons P y (insert m ys) (all 0 y refl) r)

  pub each_merged : (P : Passed L → Type 0) (xs ys : List (Passed L)) → Each P xs → Each P ys → Each P (merged xs ys)
  each_merged P [] ys left right = right
  each_merged P (x ∷ xs) ys left right = each_insert P x (merged xs ys) (left 0 x refl) (each_merged P xs ys (λ j u e. left (suc j) u e) right)

  pub each_snoc : (P : Passed L → Type 0) (xs : List (Passed L)) (m : Passed L) → Each P xs → P m → Each P (xs ++ m ∷ [])
  each_snoc P [] m all here = each_cons P m [] here (each_none P)
  each_snoc P (x ∷ xs) m all here = each_cons P x (xs ++ m ∷ []) (all 0 x refl) (each_snoc P xs m (λ j u e. all (suc j) u e) here)

  -- ---- counts
  pub count_insert : (n : ℕ) (m : Passed L) (xs : List (Passed L)) → count_of n (insert m xs) ≡ one_if (m.number == n) + count_of n xs
  count_insert n m [] = refl
  count_insert n m (y ∷ ys) =
      let r = count_insert n m ys in
      pick (λ l. count_of n l ≡ one_if (m.number == n) + (one_if (y.number == n) + count_of n ys)) (nat_lt m.number y.number) (m ∷ y ∷ ys) (y ∷ insert m ys) (λ _. refl) (λ _. omega arith)

  pub count_merged : (n : ℕ) (xs ys : List (Passed L)) → count_of n (merged xs ys) ≡ count_of n xs + count_of n ys
  count_merged n [] ys = omega arith
  count_merged n (x ∷ xs) ys = let r = count_merged n xs ys in let i = count_insert n x (merged xs ys) in omega arith

  pub count_snoc : (n : ℕ) (xs : List (Passed L)) (m : Passed L) → count_of n (xs ++ m ∷ []) ≡ count_of n xs + one_if (m.number == n)
  count_snoc n [] m = omega arith
  count_snoc n (x ∷ xs) m = let r = count_snoc n xs m in omega arith

  -- ---- rising numbers
  pub rises_lower : (n k : ℕ) (xs : List (Passed L)) → n ≤ k → RisesFrom k xs → RisesFrom n xs
  rises_lower n k [] le r = tt
  rises_lower n k (x ∷ xs) le r = (le_trans le r.0, r.1)

  -- no number below the first one is there
  pub count_below : (n k : ℕ) (xs : List (Passed L)) → n < k → RisesFrom k xs → count_of n xs ≡ 0
  count_below n k [] lt r = refl
  count_below n k (x ∷ xs) lt r =
      let le : k ≤ x.number = r.0 in
      let z = one_else x.number n (λ e. omega arith) in
      let c = count_below n (x.number + 1) xs (omega arith) r.1 in omega arith

  rises_insert : (k : ℕ) (m : Passed L) (xs : List (Passed L)) → k ≤ m.number → count_of m.number xs ≡ 0 → RisesFrom k xs → RisesFrom k (insert m xs)
  rises_insert k m [] le none r = (le, tt)
  rises_insert k m (x ∷ xs) le none r =
      pick (RisesFrom k) (nat_lt m.number x.number) (m ∷ x ∷ xs) (x ∷ insert m xs) (λ is. (le, (below m.number x.number is, r.1)))
      (λ is. (r.0, rises_insert (x.number + 1) m xs (above m.number x.number (other none) is) (rest none) r.1))
    where
      below : (a b : ℕ) → nat_lt a b ≡ true → a + 1 ≤ b
      below a b is = let lt : a < b = grind (arith, nat_tests) in omega arith

      above : (a b : ℕ) → a ≢ b → nat_lt a b ≡ false → b + 1 ≤ a
      above a b ne is = let ge : b ≤ a = grind (arith, nat_tests) in omega (arith, ne)

      other : one_if (x.number == m.number) + count_of m.number xs ≡ 0 → m.number ≢ x.number
      other z e = let h : one_if (x.number == m.number) ≡ 1 = subst (λ y. one_if (x.number == y) ≡ 1) (sym e) (one_here x.number) in omega arith

      rest : one_if (x.number == m.number) + count_of m.number xs ≡ 0 → count_of m.number xs ≡ 0
      rest z = omega arith

  -- where no number is in both
  pub rises_merged : (xs ys : List (Passed L)) → ((n : ℕ) → count_of n xs + count_of n ys ≤ 1) → RisesFrom 1 xs → RisesFrom 1 ys → RisesFrom 1 (merged xs ys)
  rises_merged [] ys once left right = right
  rises_merged (x ∷ xs) ys once left right =
      let rest = rises_merged xs ys (λ n. let o : one_if (x.number == n) + count_of n xs + count_of n ys ≤ 1 = once n in omega arith) (rises_lower 1 (x.number + 1) xs (let l : 1 ≤ x.number = left.0 in omega arith) left.1) right in
      let one = one_here x.number in
      let o : one_if (x.number == x.number) + count_of x.number xs + count_of x.number ys ≤ 1 = once x.number in
      let c = count_merged x.number xs ys in
      rises_insert 1 x (merged xs ys) left.0 (omega arith) rest

  pub rises_snoc : (k n : ℕ) (xs : List (Passed L)) (link : L) → k ≤ n → Each (λ e. e.number < n) xs → RisesFrom k xs → RisesFrom k (xs ++ passed n link ∷ [])
  rises_snoc k n [] link le all r = (le, tt)
  rises_snoc k n (x ∷ xs) link le all r = let lt : x.number < n = all 0 x refl in (r.0, rises_snoc (x.number + 1) n xs link (omega arith) (λ j u e. all (suc j) u e) r.1)

  -- rising numbers between two bounds are few
  pub rises_few : (k n : ℕ) (xs : List (Passed L)) → k ≤ n → Each (λ e. e.number < n) xs → RisesFrom k xs → k + length xs ≤ n
  rises_few k n [] le all r = omega arith
  rises_few k n (x ∷ xs) le all r =
      let low : k ≤ x.number = r.0 in
      let high : x.number < n = all 0 x refl in
      let rest : x.number + 1 + length xs ≤ n = rises_few (x.number + 1) n xs (omega arith) (λ j u e. all (suc j) u e) r.1 in omega arith

  -- ---- numbering
  pub numbered_snoc : (n : ℕ) (xs : List L) (x : L) → numbered n (xs ++ x ∷ []) ≡ numbered n xs ++ passed (n + length xs) x ∷ []
  numbered_snoc n [] x = ap (λ k. passed k x ∷ []) (nothing n)
    where
      nothing : (n : ℕ) → n ≡ n + 0
      nothing n = omega arith
  numbered_snoc n (y ∷ ys) x = ap (λ l. passed n y ∷ l) (numbered_snoc (n + 1) ys x ∙ ap (λ k. numbered (n + 1) ys ++ passed k x ∷ []) (further n (length ys)))
    where
      further : (n k : ℕ) → n + 1 + k ≡ n + suc k
      further n k = omega arith

  pub numbered_length : (n : ℕ) (xs : List L) → length (numbered n xs) ≡ length xs
  numbered_length n [] = refl
  numbered_length n (x ∷ xs) = ap suc (numbered_length (n + 1) xs)

  pub rises_each : (k : ℕ) (xs : List (Passed L)) → RisesFrom k xs → Each (λ e. k ≤ e.number) xs
  rises_each k [] r j e at = absurd (some-ne-none e (sym at))
  rises_each k (x ∷ xs) r zero e at = subst (λ y. k ≤ y.number) (some-injective x e at) r.0
  rises_each k (x ∷ xs) r (suc j) e at = let le : k ≤ x.number = r.0 in let h = rises_each (x.number + 1) xs r.1 j e at in omega arith

  abbrev pub Placed : ℕ → List L → Passed L → Type 0
  Placed k log e = (m : ℕ) × (e.number ≡ k + m) × (get_elem? log m ≡ some e.link)

  placed_rest : (k : ℕ) (l : L) (ls : List L) (e : Passed L) → k + 1 ≤ e.number → Placed k (l ∷ ls) e → Placed (k + 1) ls e
  placed_rest k l ls e le (zero, is, at) = absurd (omega (arith, is))
  placed_rest k l ls e le (suc m, is, at) = (m, omega (arith, is), at)

  placed_first : (k : ℕ) (l : L) (ls : List L) (e : Passed L) → e.number ≡ k → Placed k (l ∷ ls) e → l ≡ e.link
  placed_first k l ls e is (zero, n, at) = some-injective l e.link at
  placed_first k l ls e is (suc m, n, at) = absurd (omega (arith, n))

  -- entries with rising numbers, of which each of these is there once and no other, are the numbered links
  pub all_numbered : (k : ℕ) (log : List L) (xs : List (Passed L)) → RisesFrom k xs → ((n : ℕ) → k ≤ n → n < k + length log → count_of n xs ≡ 1) → ((n : ℕ) → k + length log ≤ n → count_of n xs ≡ 0)
      → Each (Placed k log) xs → xs ≡ numbered k log
  all_numbered k [] [] r one none each = refl
  all_numbered k [] (x ∷ xs) r one none each = let m = each 0 x refl in absurd (some-ne-none x.link (sym m.2))
  all_numbered k (l ∷ ls) [] r one none each = let lt : k < k + length (l ∷ ls) = starts k (length ls) in absurd (not_one 0 refl (one k (omega arith) lt))
  all_numbered k (l ∷ ls) (x ∷ xs) r one none each =
      let le : k ≤ x.number = r.0 in
      let nothing = count_below k (x.number + 1) xs (omega arith) r.1 in
      let c : one_if (x.number == k) + count_of k xs ≡ 1 = one k (omega arith) (omega arith) in
      let first : x.number ≡ k = one_then x.number k (omega arith) in
      let rises : RisesFrom (k + 1) xs = subst (λ n. RisesFrom (n + 1) xs) first r.1 in
      let rest : xs ≡ numbered (k + 1) ls = all_numbered (k + 1) ls xs rises
      (λ n low lt. let c' : one_if (x.number == n) + count_of n xs ≡ 1 = one n (omega arith) (omega arith) in let z = one_else x.number n (λ h. omega arith) in omega arith)
      (λ n low. let c' : one_if (x.number == n) + count_of n xs ≡ 0 = none n (omega arith) in omega arith)
      (λ j e at. placed_rest k l ls e (rises_each (k + 1) xs rises j e at) (each (suc j) e at)) in
      let link : l ≡ x.link = placed_first k l ls x first (each 0 x refl) in
      λ i. record { number = first i; link = sym link i } ∷ rest i
