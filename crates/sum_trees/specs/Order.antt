-- Items in order.
use Rattle.std.specs.Prelude.{◌≡◌, List, [], ◌∷◌, Option, Some, None, Bool, true, false, not, ◌&&◌, ◌||◌, if◌then◌else◌, filter, map}
use Rattle.sum_trees.specs.Nodes.{Entry}

-- an item comes before each of these
abbrev pub GoesFirst : {T : Type 0} → (T → T → Bool) → T → List T → Type 0
GoesFirst b x [] = Unit {0}
GoesFirst b x (y ∷ ys) = (b x y ≡ true) × GoesFirst b x ys

-- items in order
abbrev pub IsSorted : {T : Type 0} → (T → T → Bool) → List T → Type 0
IsSorted b [] = Unit {0}
IsSorted b (x ∷ xs) = GoesFirst b x xs × IsSorted b xs

-- items in order with one more among them, at its place
abbrev pub inserted : {T : Type 0} → (T → T → Bool) → T → List T → List T
inserted b x [] = x ∷ []
inserted b x (y ∷ ys) = if b x y then x ∷ y ∷ ys else y ∷ inserted b x ys

-- entries in order with one more among them, at its place
abbrev pub placed : {T : Type 0} → (T → T → Bool) → Entry T → List (Entry T) → List (Entry T)
placed b e [] = e ∷ []
placed b e (f ∷ fs) = if b e.1 f.1 then e ∷ f ∷ fs else f ∷ placed b e fs

-- whether neither of two items comes before the other
abbrev pub is_like : {T : Type 0} → (T → T → Bool) → T → T → Bool
is_like b x y = not (b x y || b y x)

-- those that are not like this item
abbrev pub unlike : {T : Type 0} → (T → T → Bool) → T → List T → List T
unlike b x ys = filter (λ y. not (is_like b x y)) ys

-- these, with this item in the place of those that are like it
abbrev pub replaced : {T : Type 0} → (T → T → Bool) → T → List T → List T
replaced b x ys = map (λ y. if is_like b x y then x else y) ys

-- entries, with this item in the place of those that are like it
abbrev pub replaced_in : {T : Type 0} → (T → T → Bool) → T → List (Entry T) → List (Entry T)
replaced_in b x es = map (λ e. (e.0, if is_like b x e.1 then x else e.1)) es

-- whether one of these is like this item
abbrev pub has_like : {T : Type 0} → (T → T → Bool) → T → List T → Bool
has_like b x [] = false
has_like b x (y ∷ ys) = is_like b x y || has_like b x ys

-- the first item
abbrev pub first_of : {T : Type 0} → List T → Option T
first_of [] = None
first_of (x ∷ xs) = Some x

-- the first item that this one comes before
abbrev pub first_after : {T : Type 0} → (T → T → Bool) → T → List T → Option T
first_after b x ys = first_of (filter (b x) ys)

-- the first item that does not come before this one
abbrev pub first_from : {T : Type 0} → (T → T → Bool) → T → List T → Option T
first_from b x ys = first_of (filter (λ y. not (b y x)) ys)

-- the item that is like this one
abbrev pub first_like : {T : Type 0} → (T → T → Bool) → T → List T → Option T
first_like b x ys = first_of (filter (is_like b x) ys)

-- the items that do not come before the first of these two and come before the second
abbrev pub between : {T : Type 0} → (T → T → Bool) → T → T → List T → List T
between b low high ys = filter (λ y. not (b y low) && b y high) ys
