-- Numbered links, and sums over lists.
use Rattle.std.specs.Prelude.{ℕ, ◌+◌, ◌<◌, ◌≤◌, ◌≡◌, ◌==◌, Bool, true, false, List, [], ◌∷◌, map, nat_lt, cond}
use Rattle.link_pool.specs.declared.views.Passed.{Passed}

abbrev pub total : {A : Type 0} → (A → ℕ) → List A → ℕ
total f [] = 0
total f (x ∷ xs) = f x + total f xs

abbrev pub one_if : Bool → ℕ
one_if true = 1
one_if false = 0

-- 1 between the bounds, and 0 elsewhere
abbrev pub Between : ℕ → ℕ → ℕ → ℕ → Type 0
Between n low high k = (n < low → k ≡ 0) × (low ≤ n → n < high → k ≡ 1) × (high ≤ n → k ≡ 0)

module _ {L : Type 0} where
  abbrev pub passed : ℕ → L → Passed L
  passed n link = record { number = n; link = link }

  -- the links, numbered in turn from n on
  abbrev pub numbered : ℕ → List L → List (Passed L)
  numbered n [] = []
  numbered n (x ∷ xs) = passed n x ∷ numbered (n + 1) xs

  -- the links alone
  abbrev pub links_of : List (Passed L) → List L
  links_of entries = map (λ e. e.link) entries

  -- the numbers rise, from n or a later one on
  abbrev pub RisesFrom : ℕ → List (Passed L) → Type 0
  RisesFrom n [] = Unit {0}
  RisesFrom n (e ∷ es) = (n ≤ e.number) × RisesFrom (e.number + 1) es

  -- how many have the number n
  abbrev pub count_of : ℕ → List (Passed L) → ℕ
  count_of n [] = 0
  count_of n (e ∷ es) = one_if (e.number == n) + count_of n es

  -- the entry in its place by number
  abbrev pub insert : Passed L → List (Passed L) → List (Passed L)
  insert e [] = e ∷ []
  insert e (x ∷ xs) = cond (nat_lt e.number x.number) (e ∷ x ∷ xs) (x ∷ insert e xs)

  -- the entries of both, in order of number
  abbrev pub merged : List (Passed L) → List (Passed L) → List (Passed L)
  merged [] ys = ys
  merged (x ∷ xs) ys = insert x (merged xs ys)
