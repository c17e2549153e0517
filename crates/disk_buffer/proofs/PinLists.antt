-- Pins after the calls of their tree.
use Rattle.std.proofs.Common.{◌≡◌, ◌∙◌, ◌<◌, ◌≤◌, ◌+◌, ℕ, suc, List, [], ◌∷◌, length, Option, Some, None, Bool, true, false, ◌||◌, ◌&&◌, refl, sym, ap, subst, arith}
use Rattle.std.specs.Prelude.{◌==◌, not, filter, is_some, max, nat_lt, if◌then◌else◌}
use Rattle.std.proofs.Math.ListN.{set}
use Rattle.part_model.specs.declared.space.HeldPin.{HeldPin}
use Rattle.part_model.specs.Held.{pins_in, pins_without}
use Rattle.sum_trees.specs.Sums.{Sums, led, sum_of}
use Rattle.sum_trees.specs.Order.{GoesFirst, IsSorted, between, first_from, first_like, first_of, has_like, inserted, is_like, replaced, unlike}
use Rattle.sum_trees.specs.Forests.{items_in}
use Rattle.sum_trees.proofs.Stands.{set_here, set_length}
use Rattle.sum_trees.proofs.Orders.{IsOrder, clash, high_not_like, unpicked}
use Rattle.disk_buffer.specs.declared.pin_row.PinRow.{PinRow}
use Rattle.disk_buffer.specs.PinRows.{TellsPin, end_in, later_end, pin_before, pin_of, pins_of}
use Rattle.disk_buffer.specs.Laws.{pins_one_way, pins_split}

pub pin_order : IsOrder pin_before
pin_order = record { one_way = pins_one_way; splits = pins_split }

-- ---- lists that tell the same pins

pub record TellSamePins (ps qs : List HeldPin) : Type 0 where
  pub pins : (t f id : ℕ) → pins_in ps t f id ≡ pins_in qs t f id
  pub ends : (f : ℕ) → end_in ps f ≡ end_in qs f

pub same_as : (ps qs : List HeldPin) → ps ≡ qs → TellSamePins ps qs
same_as ps qs e = record { pins = λ t f id. ap (λ l. pins_in l t f id) e; ends = λ f. ap (λ l. end_in l f) e }

pub same_then : (ps qs rs : List HeldPin) → TellSamePins ps qs → TellSamePins qs rs → TellSamePins ps rs
same_then ps qs rs a b = record { pins = λ t f id. a.pins t f id ∙ b.pins t f id; ends = λ f. a.ends f ∙ b.ends f }

pub same_behind : (p : HeldPin) (ps qs : List HeldPin) → TellSamePins ps qs → TellSamePins (p ∷ ps) (p ∷ qs)
same_behind p ps qs a = record {
  pins = λ t f id. ap (λ b. (p.owner == id && (p.file == f && nat_lt t p.until)) || b) (a.pins t f id);
  ends = λ f. ap (λ n. if p.file == f then max p.until n else n) (a.ends f);
}

swap_or : (a b c : Bool) → (a || (b || c)) ≡ (b || (a || c))
swap_or true true c = refl
swap_or true false c = refl
swap_or false b c = refl

swap_max : (m n k : ℕ) → max m (max n k) ≡ max n (max m k)
swap_max m n k = omega arith

swap_ends : (a b : Bool) (m n k : ℕ) → (if a then max m (if b then max n k else k) else (if b then max n k else k)) ≡ (if b then max n (if a then max m k else k) else (if a then max m k else k))
swap_ends true true m n k = swap_max m n k
swap_ends true false m n k = refl
swap_ends false b m n k = refl

pub same_swapped : (p q : HeldPin) (ps : List HeldPin) → TellSamePins (p ∷ q ∷ ps) (q ∷ p ∷ ps)
same_swapped p q ps = record {
  pins = λ t f id. swap_or (p.owner == id && (p.file == f && nat_lt t p.until)) (q.owner == id && (q.file == f && nat_lt t q.until)) (pins_in ps t f id);
  ends = λ f. swap_ends (p.file == f) (q.file == f) p.until q.until (end_in ps f);
}

-- a row that is put in tells what it tells in front
pub same_inserted : (r : PinRow) (rs : List PinRow) → TellSamePins (pins_of (inserted pin_before r rs)) (pin_of r ∷ pins_of rs)
same_inserted r [] = same_as _ _ refl
same_inserted r (x ∷ rs) =
    elim (pin_before r x) as (λ c. TellSamePins (pins_of (if c then r ∷ x ∷ rs else x ∷ inserted pin_before r rs)) (pin_of r ∷ pin_of x ∷ pins_of rs)) [
      | true ↦ same_as _ _ refl
      | false ↦ same_then (pin_of x ∷ pins_of (inserted pin_before r rs)) (pin_of x ∷ pin_of r ∷ pins_of rs) (pin_of r ∷ pin_of x ∷ pins_of rs) (same_behind (pin_of x) (pins_of (inserted pin_before r rs)) (pin_of r ∷ pins_of rs) (same_inserted r rs)) (same_swapped (pin_of x) (pin_of r) (pins_of rs))
    ]

-- ---- a pin and its like

lt_max : (t m n : ℕ) → nat_lt t (max m n) ≡ (nat_lt t n || nat_lt t m)
lt_max t m n = grind arith

two_pins : (a b : Bool) (m n t : ℕ) (c : Bool) → ((a && (b && nat_lt t (max m n))) || c) ≡ ((a && (b && nat_lt t n)) || ((a && (b && nat_lt t m)) || c))
two_pins true true m n t c = ap (λ d. d || c) (lt_max t m n) ∙ three (nat_lt t n) (nat_lt t m) c
  where
    three : (x y z : Bool) → ((x || y) || z) ≡ (x || (y || z))
    three true y z = refl
    three false y z = refl
two_pins true false m n t c = refl
two_pins false b m n t c = refl

max_three : (m n k : ℕ) → max (max m n) k ≡ max n (max m k)
max_three m n k = omega arith

two_ends : (b : Bool) (m n k : ℕ) → (if b then max (max m n) k else k) ≡ (if b then max n (if b then max m k else k) else (if b then max m k else k))
two_ends true m n k = max_three m n k
two_ends false m n k = refl

-- two pins of one owner tell what the later one tells
same_merged : (f o m n : ℕ) (ps : List HeldPin) → TellSamePins (record { file = f; owner = o; until = max m n } ∷ ps) (record { file = f; owner = o; until = n } ∷ record { file = f; owner = o; until = m } ∷ ps)
same_merged f o m n ps = record {
  pins = λ t g id. two_pins (o == id) (f == g) m n t (pins_in ps t g id);
  ends = λ g. two_ends (f == g) m n (end_in ps g);
}

flip_nat : (x y : ℕ) → (x == y) ≡ (y == x)
flip_nat x y = grind arith

-- rows are alike where they have one file and one owner
pub like_pin : (r x : PinRow) → is_like pin_before r x ≡ (x.file == r.file && x.owner == r.owner)
like_pin r x = grind arith

both_parts : (a b : Bool) → (a && b) ≡ true → (a ≡ true) × (b ≡ true)
both_parts true b e = (refl, e)
both_parts false b e = absurd (clash refl e)

is_same : (m n : ℕ) → (m == n) ≡ true → m ≡ n
is_same m n e = grind arith

pub like_file : (r x : PinRow) → is_like pin_before r x ≡ true → x.file ≡ r.file
like_file r x e = is_same _ _ (both_parts _ _ (sym (like_pin r x) ∙ e)).0

pub like_owner : (r x : PinRow) → is_like pin_before r x ≡ true → x.owner ≡ r.owner
like_owner r x e = is_same _ _ (both_parts _ _ (sym (like_pin r x) ∙ e)).1

-- ---- a pin that is set

-- a row that is put in the place of its only like
replaced_first : (x y : PinRow) (zs : List PinRow) → is_like pin_before x y ≡ true → GoesFirst pin_before y zs → replaced pin_before x zs ≡ zs
replaced_first x y [] l g = refl
replaced_first x y (z ∷ zs) l g = (λ i. unpicked (is_like pin_before x z) (high_not_like pin_order x y z l g.0) x z i ∷ replaced_first x y zs l g.1 i)

-- a row with the later end of two tells them both, the one that it replaces and another one in front
same_later : (r y : PinRow) (u : ℕ) (zs : List PinRow) → is_like pin_before r y ≡ true → r.until ≡ max y.until u → TellSamePins (pin_of r ∷ pins_of zs) (record { file = r.file; owner = r.owner; until = u } ∷ pin_of y ∷ pins_of zs)
same_later r y u zs l e =
    let rest = pins_of zs in
    let new : HeldPin = record { file = r.file; owner = r.owner; until = u } in
    let old : HeldPin = record { file = r.file; owner = r.owner; until = y.until } in
    let both : HeldPin = record { file = r.file; owner = r.owner; until = max y.until u } in
    let later : pin_of r ≡ both = (λ i. record { file = r.file; owner = r.owner; until = e i }) in
    let was : old ≡ pin_of y = (λ i. record { file = sym (like_file r y l) i; owner = sym (like_owner r y l) i; until = y.until }) in
    same_then (pin_of r ∷ rest) (both ∷ rest) (new ∷ pin_of y ∷ rest) (same_as _ _ (ap (λ p. p ∷ rest) later))
    (same_then (both ∷ rest) (new ∷ old ∷ rest) (new ∷ pin_of y ∷ rest) (same_merged r.file r.owner y.until u rest) (same_as _ _ (ap (λ p. new ∷ p ∷ rest) was)))

-- a pin whose end is put off to the later one, among pins in order
same_replaced : (r y : PinRow) (u : ℕ) (rs : List PinRow) → IsSorted pin_before rs → first_like pin_before r rs ≡ Some y → r.until ≡ max y.until u
    → TellSamePins (pins_of (replaced pin_before r rs)) (record { file = r.file; owner = r.owner; until = u } ∷ pins_of rs)
same_replaced r y u [] s h e = absurd (cc)
same_replaced r y u (z ∷ zs) s h e = step (is_like pin_before r z) refl h (λ k. same_replaced r y u zs s.1 k e)
  where
    step : (c : Bool) → is_like pin_before r z ≡ c → first_of (if c then z ∷ filter (is_like pin_before r) zs else filter (is_like pin_before r) zs) ≡ Some y
        → (first_like pin_before r zs ≡ Some y → TellSamePins (pins_of (replaced pin_before r zs)) (record { file = r.file; owner = r.owner; until = u } ∷ pins_of zs))
        → TellSamePins (pins_of ((if c then r else z) ∷ replaced pin_before r zs)) (record { file = r.file; owner = r.owner; until = u } ∷ pin_of z ∷ pins_of zs)
    step true l k below =
        let same : z ≡ y = cc in
        let end : r.until ≡ max z.until u = e ∙ ap (λ (q : PinRow). max q.until u) (sym same) in
        same_then (pin_of r ∷ pins_of (replaced pin_before r zs)) (pin_of r ∷ pins_of zs) _ (same_as _ _ (ap (λ l. pin_of r ∷ pins_of l) (replaced_first r z zs l s.0))) (same_later r z u zs l end)
    step false l k below =
        let new : HeldPin = record { file = r.file; owner = r.owner; until = u } in
        same_then (pin_of z ∷ pins_of (replaced pin_before r zs)) (pin_of z ∷ new ∷ pins_of zs) (new ∷ pin_of z ∷ pins_of zs) (same_behind (pin_of z) (pins_of (replaced pin_before r zs)) (new ∷ pins_of zs) (below k)) (same_swapped (pin_of z) new (pins_of zs))

-- pins of one file and owner have the same likes
abbrev pub AreOne : PinRow → PinRow → Type 0
AreOne x r = (r.file ≡ x.file) × (r.owner ≡ x.owner)

pub one_pin : (x : PinRow) (m g h o : ℕ) → x ≡ record { until = 0; file = g; owner = o } → h ≡ g → AreOne x (record { until = m; file = h; owner = o })
one_pin x m g h o e k = (k ∙ sym (ap (λ (q : PinRow). q.file) e), sym (ap (λ (q : PinRow). q.owner) e))

same_test : (x r z : PinRow) → AreOne x r → is_like pin_before r z ≡ is_like pin_before x z
same_test x r z e = like_pin r z ∙ (λ i. (z.file == e.0 i) && (z.owner == e.1 i)) ∙ sym (like_pin x z)

pub same_has : (x r : PinRow) (rs : List PinRow) → AreOne x r → has_like pin_before r rs ≡ has_like pin_before x rs
same_has x r [] e = refl
same_has x r (z ∷ zs) e = (λ i. same_test x r z e i || same_has x r zs e i)

same_filter : {T : Type 0} (p q : T → Bool) (xs : List T) → ((x : T) → p x ≡ q x) → filter p xs ≡ filter q xs
same_filter p q [] h = refl
same_filter p q (x ∷ xs) h = (λ i. if h x i then x ∷ same_filter p q xs h i else same_filter p q xs h i)

same_like : (x r : PinRow) (rs : List PinRow) → AreOne x r → first_like pin_before r rs ≡ first_like pin_before x rs
same_like x r rs e = ap first_of (same_filter (is_like pin_before r) (is_like pin_before x) rs (λ z. same_test x r z e))

-- ---- the one tree

one_tree : {T : Type 0} (trees : List (List T)) → length trees ≡ 1 → 0 < length trees
one_tree trees one = omega arith

pub first_set : {T : Type 0} (trees now : List (List T)) (xs : List T) → length trees ≡ 1 → now ≡ set trees 0 xs → items_in now 0 ≡ xs
first_set trees now xs one e = ap (λ t. items_in t 0) e ∙ set_here trees 0 xs [] (one_tree trees one)

-- a pin that is set where its owner has none
pub set_new : (trees now : List (List PinRow)) (v : List HeldPin) (f o u : ℕ) (r : PinRow) (found : Option PinRow) → is_some found ≡ false → pins_of (items_in trees 0) ≡ v → length trees ≡ 1
    → r ≡ record { until = later_end found u; file = f; owner = o } → now ≡ set trees 0 (inserted pin_before r (items_in trees 0))
    → TellSamePins (pins_of (items_in now 0)) (record { file = f; owner = o; until = u } ∷ v)
set_new trees now v f o u r None n e one er is =
    let rs = items_in trees 0 in
    same_then (pins_of (items_in now 0)) (pins_of (inserted pin_before r rs)) _ (same_as _ _ (ap pins_of (first_set trees now (inserted pin_before r rs) one is)))
    (same_then (pins_of (inserted pin_before r rs)) (pin_of r ∷ pins_of rs) _ (same_inserted r rs) (same_as _ _ (λ i. pin_of (er i) ∷ e i)))
set_new trees now v f o u r (Some y) n e one er is = absurd (cc)

-- a pin that is set where its owner has one
pub set_again : (trees now : List (List PinRow)) (v : List HeldPin) (f o u : ℕ) (x r : PinRow) (found : Option PinRow) → is_some found ≡ true → pins_of (items_in trees 0) ≡ v → length trees ≡ 1
    → AreOne x r → r ≡ record { until = later_end found u; file = f; owner = o } → IsSorted pin_before (items_in trees 0) → found ≡ first_like pin_before x (items_in trees 0) → now ≡ set trees 0 (replaced pin_before r (items_in trees 0))
    → TellSamePins (pins_of (items_in now 0)) (record { file = f; owner = o; until = u } ∷ v)
set_again trees now v f o u x r None n e one a er s told is = absurd (cc)
set_again trees now v f o u x r (Some y) n e one a er s told is =
    let rs = items_in trees 0 in
    same_then (pins_of (items_in now 0)) (pins_of (replaced pin_before r rs)) _ (same_as _ _ (ap pins_of (first_set trees now (replaced pin_before r rs) one is)))
    (same_then (pins_of (replaced pin_before r rs)) (record { file = r.file; owner = r.owner; until = u } ∷ pins_of rs) _ (same_replaced r y u rs s (same_like x r rs a ∙ sym told) (ap (λ (q : PinRow). q.until) er))
    (same_as _ _ (λ i. record { file = (er i).file; owner = (er i).owner; until = u } ∷ e i)))

-- ---- pins that leave

abbrev pub is_of : ℕ → ℕ → HeldPin → Bool
is_of f o p = p.file == f && p.owner == o

kept_step : (x : PinRow) (us : List PinRow) (ps : List HeldPin) (a b : Bool) → a ≡ b → pins_of us ≡ ps → pins_of (if a then x ∷ us else us) ≡ (if b then pin_of x ∷ ps else ps)
kept_step x us ps true true e f = ap (λ l. pin_of x ∷ l) f
kept_step x us ps true false e f = absurd (cc)
kept_step x us ps false true e f = absurd (cc)
kept_step x us ps false false e f = f

pins_unlike : (x : PinRow) (rs : List PinRow) → pins_of (unlike pin_before x rs) ≡ filter (λ p. not (is_of x.file x.owner p)) (pins_of rs)
pins_unlike x [] = refl
pins_unlike x (z ∷ zs) = kept_step z (unlike pin_before x zs) (filter (λ p. not (is_of x.file x.owner p)) (pins_of zs)) (not (is_like pin_before x z)) (not (z.file == x.file && z.owner == x.owner)) (ap not (like_pin x z)) (pins_unlike x zs)

pub unset_is : (trees now : List (List PinRow)) (v : List HeldPin) (f o : ℕ) (x : PinRow) → pins_of (items_in trees 0) ≡ v → length trees ≡ 1 → x ≡ record { until = 0; file = f; owner = o }
    → now ≡ set trees 0 (unlike pin_before x (items_in trees 0)) → pins_of (items_in now 0) ≡ filter (λ p. not (is_of f o p)) v
unset_is trees now v f o x e one ex is =
    ap pins_of (first_set trees now (unlike pin_before x (items_in trees 0)) one is) ∙ pins_unlike x (items_in trees 0) ∙ (λ i. filter (λ p. not (is_of (ex i).file (ex i).owner p)) (e i))

-- ---- the end of a file's pins

in_file : (a f o : ℕ) → (not (nat_lt a f || (a == f && nat_lt o 0)) && (nat_lt a (f + 1) || (a == (f + 1) && nat_lt o 0))) ≡ (a == f)
in_file a f o = grind arith

abbrev pub ends : Sums PinRow ℕ
ends = record { own = λ (p : PinRow). p.until; joined = max }

abbrev pub ended : Option ℕ → ℕ
ended None = 0
ended (Some n) = n

max_none : (n : ℕ) → n ≡ max n 0
max_none n = omega arith

end_led : (n : ℕ) (s : Option ℕ) (k : ℕ) → ended s ≡ k → ended (Some (led ends n s)) ≡ max n k
end_led n None k e = max_none n ∙ ap (max n) e
end_led n (Some m) k e = ap (max n) e

end_is : (f : ℕ) (rs : List PinRow) → ended (sum_of ends (filter (λ (r : PinRow). r.file == f) rs)) ≡ end_in (pins_of rs) f
end_is f [] = refl
end_is f (r ∷ rs) =
    elim (r.file == f) as (λ c. ended (sum_of ends (if c then r ∷ filter (λ (r : PinRow). r.file == f) rs else filter (λ (r : PinRow). r.file == f) rs)) ≡ (if c then max r.until (end_in (pins_of rs) f) else end_in (pins_of rs) f))
    [ true ↦ end_led r.until (sum_of ends (filter (λ (r : PinRow). r.file == f) rs)) (end_in (pins_of rs) f) (end_is f rs) | false ↦ end_is f rs ]

pub end_told : (trees : List (List PinRow)) (v : List HeldPin) (f : ℕ) (low high : PinRow) (told : Option ℕ) → pins_of (items_in trees 0) ≡ v → low ≡ record { until = 0; file = f; owner = 0 } → high ≡ record { until = 0; file = f + 1; owner = 0 }
    → told ≡ sum_of ends (between pin_before low high (items_in trees 0)) → ended told ≡ end_in v f
end_told trees v f low high told e el eh is =
    ap ended is
    ∙ (λ i. ended (sum_of ends (between pin_before (el i) (eh i) (items_in trees 0))))
    ∙ ap (λ l. ended (sum_of ends l)) (same_filter (λ (y : PinRow). not (pin_before y (record { until = 0; file = f; owner = 0 })) && pin_before y (record { until = 0; file = f + 1; owner = 0 })) (λ (r : PinRow). r.file == f) (items_in trees 0) (λ (r : PinRow). in_file r.file f r.owner))
    ∙ end_is f (items_in trees 0)
    ∙ ap (λ l. end_in l f) e

-- ---- the first pin of a file

self_like : (r : PinRow) → is_like pin_before r r ≡ true
self_like r = grind arith

first_there : (p : PinRow → Bool) (rs : List PinRow) (y : PinRow) → Some y ≡ first_of (filter p rs) → has_like pin_before y rs ≡ true
first_there p [] y e = absurd (cc)
first_there p (x ∷ xs) y e =
    elim (p x) as (λ c. Some y ≡ first_of (if c then x ∷ filter p xs else filter p xs) → (is_like pin_before y x || has_like pin_before y xs) ≡ true) [
      | true ↦ λ k. (let same : y ≡ x = cc in ap (λ z. is_like pin_before y z || has_like pin_before y xs) (sym same) ∙ ap (λ b. b || has_like pin_before y xs) (self_like y))
      | false ↦ λ k. or_right (is_like pin_before y x) (has_like pin_before y xs) (first_there p xs y k)
    ] e
  where
    or_right : (a b : Bool) → b ≡ true → (a || b) ≡ true
    or_right true b e = refl
    or_right false b e = e

abbrev pub is_file : ℕ → Option PinRow → Bool
is_file f None = false
is_file f (Some r) = r.file == f

out_kept : (m f : ℕ) → (m == f) ≡ false → not (m == f || false) ≡ true
out_kept m f e = ap (λ b. not (b || false)) e

keep_step : (x : PinRow) (f : ℕ) (us ps : List HeldPin) (b : Bool) → b ≡ true → us ≡ ps → (if b then pin_of x ∷ us else us) ≡ pin_of x ∷ ps
keep_step x f us ps true e h = ap (λ l. pin_of x ∷ l) h
keep_step x f us ps false e h = absurd (clash refl e)

beyond : (f m : ℕ) → f < m → (m == f) ≡ false
beyond f m h = grind arith

follows : (f : ℕ) (x z : PinRow) → f < x.file → pin_before x z ≡ true → f < z.file
follows f x z h e = grind arith

keep_all : (f : ℕ) (x : PinRow) (xs : List PinRow) → f < x.file → GoesFirst pin_before x xs → pins_without (f ∷ []) (pins_of xs) ≡ pins_of xs
keep_all f x [] h g = refl
keep_all f x (z ∷ zs) h g = keep_step z f (pins_without (f ∷ []) (pins_of zs)) (pins_of zs) (not (z.file == f || false)) (out_kept z.file f (beyond f z.file (follows f x z h g.0))) (keep_all f x zs h g.1)

early : (f : ℕ) (x : PinRow) → pin_before x (record { until = 0; file = f; owner = 0 }) ≡ true → (x.file == f) ≡ false
early f x e = grind arith

late : (f : ℕ) (x : PinRow) → pin_before x (record { until = 0; file = f; owner = 0 }) ≡ false → (x.file == f) ≡ false → f < x.file
late f x e n = grind arith

none_left : (f : ℕ) (rs : List PinRow) (told : Option PinRow) → IsSorted pin_before rs → told ≡ first_from pin_before (record { until = 0; file = f; owner = 0 }) rs → is_file f told ≡ false → pins_without (f ∷ []) (pins_of rs) ≡ pins_of rs
none_left f [] told s e n = refl
none_left f (x ∷ xs) told s e n =
    elim (pin_before x (record { until = 0; file = f; owner = 0 })) as (λ c. pin_before x (record { until = 0; file = f; owner = 0 }) ≡ c
    → told ≡ first_of (if not c then x ∷ filter (λ (y : PinRow). not (pin_before y (record { until = 0; file = f; owner = 0 }))) xs else filter (λ (y : PinRow). not (pin_before y (record { until = 0; file = f; owner = 0 }))) xs)
    → pins_without (f ∷ []) (pins_of (x ∷ xs)) ≡ pins_of (x ∷ xs)) [
      | true ↦ λ k h. keep_step x f (pins_without (f ∷ []) (pins_of xs)) (pins_of xs) (not (x.file == f || false)) (out_kept x.file f (early f x k)) (none_left f xs told s.1 h n)
      | false ↦ λ k h. (let out : (x.file == f) ≡ false = sym (ap (is_file f) h) ∙ n in
          keep_step x f (pins_without (f ∷ []) (pins_of xs)) (pins_of xs) (not (x.file == f || false)) (out_kept x.file f out) (keep_all f x xs (late f x k out) s.0))
    ] refl e

pub tells_none : (f : ℕ) (rs : List PinRow) (low : PinRow) (told : Option PinRow) → low ≡ record { until = 0; file = f; owner = 0 } → IsSorted pin_before rs → told ≡ first_from pin_before low rs → is_file f told ≡ false → TellsPin f rs None
tells_none f rs low told el s e n = none_left f rs told s (e ∙ ap (λ l. first_from pin_before l rs) el) n

pub tells_some : (f : ℕ) (rs : List PinRow) (low row : PinRow) → Some row ≡ first_from pin_before low rs → row.file ≡ f → TellsPin f rs (Some row)
tells_some f rs low row e h = (h, first_there (λ (y : PinRow). not (pin_before y low)) rs row e)

-- ---- all pins of a file

-- pins that are as before but for those of the file
abbrev pub SameBut : ℕ → List HeldPin → List HeldPin → Type 0
SameBut f ps qs = pins_without (f ∷ []) ps ≡ pins_without (f ∷ []) qs

fewer : (x : PinRow) (rs : List PinRow) → has_like pin_before x rs ≡ true → length (unlike pin_before x rs) < length rs
fewer x [] h = absurd (clash refl h)
fewer x (z ∷ zs) h =
    elim (is_like pin_before x z) as (λ c. (c || has_like pin_before x zs) ≡ true → length (if not c then z ∷ unlike pin_before x zs else unlike pin_before x zs) < suc (length zs)) [
      | true ↦ λ k. (let most = at_most x zs in omega arith)
      | false ↦ λ k. (let less = fewer x zs k in omega arith)
    ] h
  where
    at_most : (x : PinRow) (rs : List PinRow) → length (unlike pin_before x rs) ≤ length rs
    at_most x [] = omega arith
    at_most x (z ∷ zs) =
        elim (is_like pin_before x z) as (λ c. length (if not c then z ∷ unlike pin_before x zs else unlike pin_before x zs) ≤ suc (length zs))
        [ true ↦ (let most = at_most x zs in omega arith) | false ↦ (let most = at_most x zs in omega arith) ]

gone_step : (f : ℕ) (z : PinRow) (us zs : List PinRow) (c : Bool) → (c ≡ true → (z.file == f) ≡ true) → pins_without (f ∷ []) (pins_of us) ≡ pins_without (f ∷ []) (pins_of zs)
    → pins_without (f ∷ []) (pins_of (if not c then z ∷ us else us)) ≡ pins_without (f ∷ []) (pins_of (z ∷ zs))
gone_step f z us zs true is e = e ∙ sym (unpicked (not (z.file == f || false)) (ap (λ b. not (b || false)) (is refl)) (pin_of z ∷ pins_without (f ∷ []) (pins_of zs)) (pins_without (f ∷ []) (pins_of zs)))
gone_step f z us zs false is e = ap (λ l. if not (z.file == f || false) then pin_of z ∷ l else l) e

same_file : (m f : ℕ) → m ≡ f → (m == f) ≡ true
same_file m f e = grind arith

one_gone : (f : ℕ) (x : PinRow) (rs : List PinRow) → x.file ≡ f → pins_without (f ∷ []) (pins_of (unlike pin_before x rs)) ≡ pins_without (f ∷ []) (pins_of rs)
one_gone f x [] h = refl
one_gone f x (z ∷ zs) h = gone_step f z (unlike pin_before x zs) zs (is_like pin_before x z) (λ l. same_file z.file f (like_file x z l ∙ h)) (one_gone f x zs h)

pub one_pin_gone : (f : ℕ) (x : PinRow) (trees now : List (List PinRow)) → length trees ≡ 1 → now ≡ set trees 0 (unlike pin_before x (items_in trees 0)) → x.file ≡ f → SameBut f (pins_of (items_in now 0)) (pins_of (items_in trees 0))
one_pin_gone f x trees now one is h = ap (λ l. pins_without (f ∷ []) (pins_of l)) (first_set trees now (unlike pin_before x (items_in trees 0)) one is) ∙ one_gone f x (items_in trees 0) h

pub fewer_pins : (x : PinRow) (trees now : List (List PinRow)) → length trees ≡ 1 → now ≡ set trees 0 (unlike pin_before x (items_in trees 0)) → has_like pin_before x (items_in trees 0) ≡ true → length (items_in now 0) < length (items_in trees 0)
fewer_pins x trees now one is h =
    let e : length (items_in now 0) ≡ length (unlike pin_before x (items_in trees 0)) = ap length (first_set trees now (unlike pin_before x (items_in trees 0)) one is) in
    let less = fewer x (items_in trees 0) h in
    omega arith

-- ---- rows as they are made

pub low_is : (x : PinRow) (g f : ℕ) → x ≡ record { until = 0; file = g; owner = 0 } → g ≡ f → x ≡ record { until = 0; file = f; owner = 0 }
low_is x g f e h = e ∙ (λ i. record { until = 0; file = h i; owner = 0 })

pub like_is : (x : PinRow) (g f o : ℕ) → x ≡ record { until = 0; file = g; owner = o } → g ≡ f → x ≡ record { until = 0; file = f; owner = o }
like_is x g f o e h = e ∙ (λ i. record { until = 0; file = h i; owner = o })

pub other_file : (m g f : ℕ) → g ≡ f → (m ≡ g → ⊥) → (m == f) ≡ false
other_file m g f e n = elim (m == f) as (λ b. (m == f) ≡ b → b ≡ false) [ true ↦ λ k. absurd (n (is_same m f k ∙ sym e)) | false ↦ λ k. refl ] refl

pub row_is : (m g f o : ℕ) → g ≡ f → ◌≡◌ {A = PinRow} (record { until = m; file = g; owner = o }) (record { until = m; file = f; owner = o })
row_is m g f o h = (λ i. record { until = m; file = h i; owner = o })

pub set_row_is : (m n g f o : ℕ) → m ≡ n → g ≡ f → ◌≡◌ {A = PinRow} (record { until = m; file = g; owner = o }) (record { until = n; file = f; owner = o })
set_row_is m n g f o e h = (λ i. record { until = e i; file = h i; owner = o })

pub set_length_one : {T : Type 0} (trees now : List (List T)) (xs : List T) → length trees ≡ 1 → now ≡ set trees 0 xs → length now ≡ 1
set_length_one trees now xs one e = ap length e ∙ set_length trees 0 xs ∙ one

pub told_pin : (f : ℕ) (rs : List PinRow) (told : Option PinRow) (r : PinRow) → told ≡ Some r → TellsPin f rs told → TellsPin f rs (Some r)
told_pin f rs told r e t = subst (TellsPin f rs) e t

pub told_no_pin : (f : ℕ) (rs : List PinRow) (told : Option PinRow) → told ≡ None → TellsPin f rs told → TellsPin f rs None
told_no_pin f rs told e t = subst (TellsPin f rs) e t
