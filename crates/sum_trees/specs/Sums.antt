-- Orders and sums of items.
use Rattle.std.specs.Prelude.{List, [], ◌∷◌, Option, Some, None, Bool, ◌&&◌, filter}
use Rattle.sum_trees.specs.Order.{first_of}

-- how items are summed: the sum of one, and the sum of the items of two sums, the first before the second
pub record Sums (T S : Type 0) : Type 0 where
  pub own : T → S
  pub joined : S → S → S

-- a sum behind another one
abbrev pub led : {T S : Type 0} → Sums T S → S → Option S → S
led m s None = s
led m s (Some t) = m.joined s t

-- the sum of items in their order, none where there is no item
abbrev pub sum_of : {T S : Type 0} → Sums T S → List T → Option S
sum_of m [] = None
sum_of m (x ∷ xs) = Some (led m (m.own x) (sum_of m xs))

-- whether the sum of an item alone passes a test
abbrev pub own_passes : {T S : Type 0} → Sums T S → (S → Bool) → T → Bool
own_passes m t x = t (m.own x)

-- the first item whose own sum passes
abbrev pub first_passing : {T S : Type 0} → Sums T S → (S → Bool) → List T → Option T
first_passing m t xs = first_of (filter (own_passes m t) xs)

-- the first item that this one comes before and whose own sum passes
abbrev pub next_passing : {T S : Type 0} → Sums T S → (T → T → Bool) → (S → Bool) → T → List T → Option T
next_passing m b t x xs = first_of (filter (λ y. b x y && own_passes m t y) xs)
