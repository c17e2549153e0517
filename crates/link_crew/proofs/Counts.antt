-- How often something stands in lists.
use Rattle.std.proofs.Common.{◌≡◌, ℕ, ◌+◌, Bool, true, false, List, [], ◌∷◌, ◌++◌, refl, arith, map}
use Rattle.std.specs.Prelude.{cond, count_by, filter, nat_lt, sum_by}
use Rattle.std.proofs.lemmas.List.Sums.{sum_by-append, sum_by-cons}
use Rattle.turn_hall.specs.declared.view.Made.{Made}
use Rattle.turn_hall.specs.Calls as calls
use Rattle.link_pool.specs.declared.views.Passed.{Passed}
use Rattle.link_pool.specs.Entries as entries

module _ {X : Type 0} (p : X → Bool) where
  pub count-append : (xs ys : List X) → count_by p (xs ++ ys) ≡ count_by p xs + count_by p ys
  count-append xs ys = sum_by-append (λ x. cond (p x) 1 0) xs ys

  pub count-cons : (x : X) (xs : List X) → count_by p (x ∷ xs) ≡ cond (p x) 1 0 + count_by p xs
  count-cons x xs = sum_by-cons (λ y. cond (p y) 1 0) x xs

-- what is counted of a list whose elements were replaced
pub count-map : {X Y : Type 0} (g : X → Y) (p : Y → Bool) (xs : List X) → count_by p (map g xs) ≡ count_by (λ x. p (g x)) xs
count-map g p [] = refl
count-map g p (x ∷ xs) = let a = count-cons p (g x) (map g xs) in let b = count-cons (λ y. p (g y)) x xs in let c = count-map g p xs in omega (arith, a, b, c)

module _ {C B : Type 0} (f : Made C B → ℕ) where
  put : (b : Bool) (m x : Made C B) (xs ys : List (Made C B)) → sum_by f ys ≡ f m + sum_by f xs → sum_by f (cond b (m ∷ x ∷ xs) (x ∷ ys)) ≡ f m + sum_by f (x ∷ xs)
  put true m x xs ys e = sum_by-cons f m (x ∷ xs)
  put false m x xs ys e = let a = sum_by-cons f x ys in let c = sum_by-cons f x xs in omega (arith, a, c, e)

  inserted : (m : Made C B) (xs : List (Made C B)) → sum_by f (calls.insert m xs) ≡ f m + sum_by f xs
  inserted m [] = sum_by-cons f m []
  inserted m (x ∷ xs) = put (nat_lt m.turn x.turn) m x xs (calls.insert m xs) (inserted m xs)

  -- the calls of two passes that are joined
  pub sum-merged : (xs ys : List (Made C B)) → sum_by f (calls.merged xs ys) ≡ sum_by f xs + sum_by f ys
  sum-merged [] ys = omega arith
  sum-merged (x ∷ xs) ys = let a = inserted x (calls.merged xs ys) in let b = sum-merged xs ys in let c = sum_by-cons f x xs in omega (arith, a, b, c)

module _ {L : Type 0} (f : Passed L → ℕ) where
  put_link : (b : Bool) (m x : Passed L) (xs ys : List (Passed L)) → sum_by f ys ≡ f m + sum_by f xs → sum_by f (cond b (m ∷ x ∷ xs) (x ∷ ys)) ≡ f m + sum_by f (x ∷ xs)
  put_link true m x xs ys e = sum_by-cons f m (x ∷ xs)
  put_link false m x xs ys e = let a = sum_by-cons f x ys in let c = sum_by-cons f x xs in omega (arith, a, c, e)

  inserted_link : (m : Passed L) (xs : List (Passed L)) → sum_by f (entries.insert m xs) ≡ f m + sum_by f xs
  inserted_link m [] = sum_by-cons f m []
  inserted_link m (x ∷ xs) = put_link (nat_lt m.number x.number) m x xs (entries.insert m xs) (inserted_link m xs)

  -- the links of two passes that are joined
  pub sum-merged_links : (xs ys : List (Passed L)) → sum_by f (entries.merged xs ys) ≡ sum_by f xs + sum_by f ys
  sum-merged_links [] ys = omega arith
  sum-merged_links (x ∷ xs) ys = let a = inserted_link x (entries.merged xs ys) in let b = sum-merged_links xs ys in let c = sum_by-cons f x xs in omega (arith, a, b, c)

module _ {A K : Type 0} (g : A → K) (q p : K → Bool) where
  -- 1 where what it stands for passes both
  abbrev pub weight : A → ℕ
  weight x = cond (q (g x)) (cond (p (g x)) 1 0) 0

  one : (b : Bool) (k : K) (ks : List K) → count_by p (cond b (k ∷ ks) ks) ≡ cond b (cond (p k) 1 0) 0 + count_by p ks
  one true k ks = count-cons p k ks
  one false k ks = omega arith

  -- what is counted of what is left of a list
  pub count-left : (xs : List A) → count_by p (filter q (map g xs)) ≡ sum_by weight xs
  count-left [] = refl
  count-left (x ∷ xs) = let a = one (q (g x)) (g x) (filter q (map g xs)) in let b = count-left xs in let c = sum_by-cons weight x xs in omega (arith, a, b, c)
