-- Walks over the rows that are sought.
use Rattle.std.proofs.Common.{◌≡◌, ◌∙◌, ◌<◌, ◌≤◌, ◌+◌, ◌-◌, ◌^◌, ℕ, zero, suc, List, [], ◌∷◌, ◌++◌, length, Option, Some, None, Bool, true, false, ◌||◌, ◌&&◌, refl, sym, ap, arith, append_assoc, length-append}
use Rattle.std.specs.Prelude.{not, filter, nat_lt, nat_le, if◌then◌else◌}
use Rattle.part_model.specs.declared.space.Resident.{Resident}
use Rattle.part_model.specs.Held.{bytes_of, numbers, prefix_of}
use Rattle.sum_trees.specs.Order.{GoesFirst, IsSorted, first_of}
use Rattle.sum_trees.proofs.Orders.{clash, leads, unpicked}
use Rattle.disk_buffer.specs.declared.row.Row.{Row}
use Rattle.disk_buffer.specs.declared.row.Wanted.{Wanted}
use Rattle.disk_buffer.specs.Rows.{has_wanted, own_readiness, row_before}
use Rattle.disk_buffer.specs.Stays.{AreReady, Stay, going, may_go, resident_of, residents, stay_of, stays_of}
use Rattle.disk_buffer.specs.Walks.{ended_by, lacking_behind, rest_from, sought}
use Rattle.disk_buffer.proofs.Found.{row_order}
use Rattle.disk_buffer.proofs.Changed.{bytes_in}

-- ---- the first of some rows, and those behind it

same_behind : (p : Row → Bool) (x : Row) (zs : List Row) → GoesFirst row_before x zs → filter p zs ≡ filter (λ z. row_before x z && p z) zs
same_behind p x [] g = refl
same_behind p x (z ∷ zs) g = (λ i. if ap (λ b. b && p z) (sym g.0) i then z ∷ same_behind p x zs g.1 i else same_behind p x zs g.1 i)

not_self : (x : Row) → row_before x x ≡ false
not_self x = grind arith

and_no : (a : Bool) → (a && false) ≡ false
and_no true = refl
and_no false = refl

front_is : (p : Row → Bool) (rs : List Row) (y : Row) → IsSorted row_before rs → Some y ≡ first_of (filter p rs) → (filter p rs ≡ y ∷ filter (λ z. row_before y z && p z) rs) × (p y ≡ true)
front_is p [] y s e = absurd (cc)
front_is p (x ∷ xs) y s e =
    elim (p x) as (λ c. p x ≡ c → Some y ≡ first_of (if c then x ∷ filter p xs else filter p xs)
    → ((if c then x ∷ filter p xs else filter p xs) ≡ y ∷ (if row_before y x && c then x ∷ filter (λ z. row_before y z && p z) xs else filter (λ z. row_before y z && p z) xs)) × (p y ≡ true)) [
      | true ↦ λ k h. here k (some_is h)
      | false ↦ λ k h. (let q = front_is p xs y s.1 h in
          (q.0 ∙ ap (λ l. y ∷ l) (sym (unpicked (row_before y x && false) (and_no (row_before y x)) (x ∷ filter (λ z. row_before y z && p z) xs) (filter (λ z. row_before y z && p z) xs))), q.1))
    ] refl e
  where
    some_is : Some y ≡ Some x → y ≡ x
    some_is h = cc

    out : (a : Bool) → a ≡ false → (a && true) ≡ false
    out true e = absurd (clash e refl)
    out false e = refl

    here : p x ≡ true → y ≡ x → (x ∷ filter p xs ≡ y ∷ (if row_before y x && true then x ∷ filter (λ z. row_before y z && p z) xs else filter (λ z. row_before y z && p z) xs)) × (p y ≡ true)
    here k same = (
      sym (
          let before : row_before y x ≡ false = ap (λ z. row_before z x) same ∙ not_self x in
          ap (λ l. y ∷ l) (unpicked (row_before y x && true) (out (row_before y x) before) (x ∷ filter (λ z. row_before y z && p z) xs) (filter (λ z. row_before y z && p z) xs))
          ∙ (λ i. same i ∷ filter (λ z. row_before (same i) z && p z) xs)
          ∙ ap (λ l. x ∷ l) (sym (same_behind p x xs s.0))),
      ap p same ∙ k,
    )

front_none : (p : Row → Bool) (rs : List Row) → None ≡ first_of (filter p rs) → filter p rs ≡ []
front_none p rs e = none (filter p rs) e
  where
    none : (xs : List Row) → None ≡ first_of xs → xs ≡ []
    none [] e = refl
    none (x ∷ xs) e = absurd (cc)

pub first_rest : (w : Wanted) (rs : List Row) (told : Option Row) → IsSorted row_before rs → told ≡ first_of (sought w rs) → sought w rs ≡ rest_from w rs told
first_rest w rs None s e = front_none (λ (r : Row). has_wanted w (own_readiness r)) rs e
first_rest w rs (Some y) s e = (front_is (λ (r : Row). has_wanted w (own_readiness r)) rs y s e).0

same_filter : (p q : Row → Bool) (xs : List Row) → ((x : Row) → p x ≡ q x) → filter p xs ≡ filter q xs
same_filter p q [] h = refl
same_filter p q (x ∷ xs) h = (λ i. if h x i then x ∷ same_filter p q xs h i else same_filter p q xs h i)

both_yes : (a b : Bool) → (a && b) ≡ true → a ≡ true
both_yes true b e = refl
both_yes false b e = absurd (clash refl e)

thin : (a b c : Bool) → (a ≡ true → b ≡ true) → (a && (b && c)) ≡ (a && c)
thin true b c h = ap (λ d. d && c) (h refl)
thin false b c h = refl

pub next_rest : (w : Wanted) (rs : List Row) (y : Row) (told : Option Row) → IsSorted row_before rs → told ≡ first_of (filter (λ (z : Row). row_before y z && has_wanted w (own_readiness z)) rs)
    → filter (λ (z : Row). row_before y z && has_wanted w (own_readiness z)) rs ≡ rest_from w rs told
next_rest w rs y None s e = front_none (λ (z : Row). row_before y z && has_wanted w (own_readiness z)) rs e
next_rest w rs y (Some x) s e =
    let q = front_is (λ (z : Row). row_before y z && has_wanted w (own_readiness z)) rs x s e in
    q.0 ∙ ap (λ l. x ∷ l) (same_filter (λ (z : Row). row_before x z && (row_before y z && has_wanted w (own_readiness z))) (λ (z : Row). row_before x z && has_wanted w (own_readiness z)) rs
    (λ z. thin (row_before x z) (row_before y z) (has_wanted w (own_readiness z)) (λ h. leads row_order y x z (both_yes (row_before y x) (has_wanted w (own_readiness x)) q.1) h)))

-- the rest behind a row, as it is found next
pub rest_is : (w : Wanted) (rs : List Row) (y : Row) (told : Option Row) → IsSorted row_before rs → told ≡ first_of (filter (λ (z : Row). row_before y z && has_wanted w (own_readiness z)) rs) → rest_from w rs (Some y) ≡ y ∷ rest_from w rs told
rest_is w rs y told s e = ap (λ l. y ∷ l) (next_rest w rs y told s e)

pub rest_at : (w : Wanted) (rs : List Row) (y : Row) (now told : Option Row) → now ≡ Some y → IsSorted row_before rs → told ≡ first_of (filter (λ (z : Row). row_before y z && has_wanted w (own_readiness z)) rs) → rest_from w rs now ≡ y ∷ rest_from w rs told
rest_at w rs y now told n s e = ap (rest_from w rs) n ∙ rest_is w rs y told s e

-- ---- rows one by one

pub ended_cons : (t : ℕ) (y : Row) (l : List Row) → ended_by t (y ∷ l) ≡ ended_by t (y ∷ []) ++ ended_by t l
ended_cons t y l = elim (nat_le y.until t) as (λ c. residents (stays_of (if c then y ∷ filter (λ (r : Row). nat_le r.until t) l else filter (λ (r : Row). nat_le r.until t) l)) ≡ residents (stays_of (if c then y ∷ [] else [])) ++ ended_by t l) [ true ↦ refl | false ↦ refl ]

zero_plus : (n : ℕ) → n ≡ 0 + n
zero_plus n = omega arith

bytes_append : (xs ys : List Resident) → bytes_of (xs ++ ys) ≡ bytes_of xs + bytes_of ys
bytes_append [] ys = zero_plus (bytes_of ys)
bytes_append (x ∷ xs) ys = (let rest = bytes_append xs ys in omega arith)

pub bytes_step : (t : ℕ) (y : Row) (l : List Row) → bytes_of (ended_by t (y ∷ l)) ≡ bytes_of (ended_by t (y ∷ [])) + bytes_of (ended_by t l)
bytes_step t y l = ap bytes_of (ended_cons t y l) ∙ bytes_append (ended_by t (y ∷ [])) (ended_by t l)

fewer_bytes : (t : ℕ) (rs : List Row) → bytes_of (ended_by t rs) ≤ bytes_in rs
fewer_bytes t [] = omega arith
fewer_bytes t (x ∷ xs) =
    (let rest = fewer_bytes t xs in
    elim (nat_le x.until t) as (λ c. bytes_of (residents (stays_of (if c then x ∷ filter (λ (r : Row). nat_le r.until t) xs else filter (λ (r : Row). nat_le r.until t) xs))) ≤ x.len + bytes_in xs)
    [ true ↦ omega arith | false ↦ omega arith ])

fewer_sought : (w : Wanted) (rs : List Row) → bytes_in (sought w rs) ≤ bytes_in rs
fewer_sought w [] = omega arith
fewer_sought w (x ∷ xs) =
    (let rest = fewer_sought w xs in
    elim (has_wanted w (own_readiness x)) as (λ c. bytes_in (if c then x ∷ sought w xs else sought w xs) ≤ x.len + bytes_in xs)
    [ true ↦ omega arith | false ↦ omega arith ])

pub sought_fits : (w : Wanted) (t : ℕ) (rs : List Row) → bytes_of (ended_by t (sought w rs)) ≤ bytes_in rs
sought_fits w t rs = (let a = fewer_bytes t (sought w rs) in let b = fewer_sought w rs in omega arith)

prefix_nil : (n : ℕ) → prefix_of n [] ≡ []
prefix_nil zero = refl
prefix_nil (suc n) = refl

-- what is taken of a row and those behind it
pub prefix_step : (t n : ℕ) (y : Row) (l : List Row) → 0 < n → prefix_of n (ended_by t (y ∷ l)) ≡ prefix_of n (ended_by t (y ∷ [])) ++ prefix_of (lacking_behind t y n) (ended_by t l)
prefix_step t zero y l h = absurd (omega arith)
prefix_step t (suc n) y l h =
    elim (nat_le y.until t) as (λ c. prefix_of (suc n) (residents (stays_of (if c then y ∷ filter (λ (r : Row). nat_le r.until t) l else filter (λ (r : Row). nat_le r.until t) l)))
    ≡ prefix_of (suc n) (residents (stays_of (if c then y ∷ [] else []))) ++ prefix_of (if c then suc n - y.len else suc n) (ended_by t l)) [
      | true ↦ ap (λ p. resident_of (stay_of y) ∷ (p ++ prefix_of (suc n - y.len) (ended_by t l))) (sym (prefix_nil (suc n - y.len)))
      | false ↦ refl
    ]

numbers_append : (xs ys : List Resident) → numbers (xs ++ ys) ≡ numbers xs ++ numbers ys
numbers_append [] ys = refl
numbers_append (x ∷ xs) ys = ap (λ l. x.file ∷ l) (numbers_append xs ys)

-- what is listed behind a row that was listed
pub listed_step : (t n : ℕ) (y : Row) (l : List Row) (was now : List ℕ) → 0 < n → now ≡ was ++ numbers (prefix_of n (ended_by t (y ∷ []))) → now ++ numbers (prefix_of (lacking_behind t y n) (ended_by t l)) ≡ was ++ numbers (prefix_of n (ended_by t (y ∷ l)))
listed_step t n y l was now h e =
    ap (λ k. k ++ numbers (prefix_of (lacking_behind t y n) (ended_by t l))) e
    ∙ append_assoc was (numbers (prefix_of n (ended_by t (y ∷ [])))) (numbers (prefix_of (lacking_behind t y n) (ended_by t l)))
    ∙ ap (λ k. was ++ k) (sym (numbers_append (prefix_of n (ended_by t (y ∷ []))) (prefix_of (lacking_behind t y n) (ended_by t l))) ∙ ap numbers (sym (prefix_step t n y l h)))

pub counted_step : (t n : ℕ) (y : Row) (l : List Row) → 0 < n → length (prefix_of n (ended_by t (y ∷ l))) ≡ length (prefix_of n (ended_by t (y ∷ []))) + length (prefix_of (lacking_behind t y n) (ended_by t l))
counted_step t n y l h = ap length (prefix_step t n y l h) ∙ length-append (prefix_of n (ended_by t (y ∷ []))) (prefix_of (lacking_behind t y n) (ended_by t l))

pub none_taken : (n t : ℕ) (l : List Row) → n ≤ 0 → prefix_of n (ended_by t l) ≡ []
none_taken zero t l h = refl
none_taken (suc n) t l h = absurd (omega arith)

pub none_rest : (n t : ℕ) (w : Wanted) (rs : List Row) (now : Option Row) → now ≡ None → prefix_of n (ended_by t (rest_from w rs now)) ≡ []
none_rest n t w rs now e = ap (λ o. prefix_of n (ended_by t (rest_from w rs o))) e ∙ prefix_nil n

fewer_taken : (n : ℕ) (xs : List Resident) → length (prefix_of n xs) ≤ length xs
fewer_taken zero xs = omega arith
fewer_taken (suc n) [] = omega arith
fewer_taken (suc n) (x ∷ xs) = (let rest = fewer_taken (suc n - x.len) xs in omega arith)

fewer_filter : (p : Row → Bool) (rs : List Row) → length (filter p rs) ≤ length rs
fewer_filter p [] = omega arith
fewer_filter p (x ∷ xs) = (let rest = fewer_filter p xs in elim (p x) as (λ c. length (if c then x ∷ filter p xs else filter p xs) ≤ suc (length xs)) [ true ↦ omega arith | false ↦ omega arith ])

as_many : (rs : List Row) → length (residents (stays_of rs)) ≡ length rs
as_many [] = refl
as_many (x ∷ xs) = ap suc (as_many xs)

pub taken_fits : (w : Wanted) (t n : ℕ) (rs : List Row) → length rs < 2 ^ 32 → length (prefix_of n (ended_by t (sought w rs))) < 2 ^ 32
taken_fits w t n rs h =
    let a = fewer_taken n (ended_by t (sought w rs)) in
    let b = as_many (filter (λ (r : Row). nat_le r.until t) (sought w rs)) in
    let d = fewer_filter (λ (r : Row). nat_le r.until t) (sought w rs) in
    let e = fewer_filter (λ (r : Row). has_wanted w (own_readiness r)) rs in
    omega arith

-- ---- the files that may go

le_not_lt : (m n : ℕ) → not (nat_lt n m) ≡ nat_le m n
le_not_lt m n = grind arith

goes : (a s k r : Bool) → r ≡ (s && k) → ((r || ((s && not r) && a)) && a) ≡ (a && s)
goes a true true true e = either a
  where
    either : (a : Bool) → (true && a) ≡ (a && true)
    either true = refl
    either false = refl
goes a true false false e = twice a
  where
    twice : (a : Bool) → (a && a) ≡ (a && true)
    twice true = refl
    twice false = refl
goes a false k false e = none a
  where
    none : (a : Bool) → false ≡ (a && false)
    none true = refl
    none false = refl
goes a true true false e = absurd (cc)
goes a true false true e = absurd (cc)
goes a false k true e = absurd (cc)

go_step : (x : Row) (us : List Row) (gs : List Stay) (p q g : Bool) (t : ℕ) → (p && q) ≡ g → nat_le x.until t ≡ q → residents (stays_of (filter (λ (r : Row). nat_le r.until t) us)) ≡ residents gs
    → residents (stays_of (filter (λ (r : Row). nat_le r.until t) (if p then x ∷ us else us))) ≡ residents (if g then stay_of x ∷ gs else gs)
go_step x us gs true q g t e h f =
    (λ i. residents (stays_of (if (h ∙ e) i then x ∷ filter (λ (r : Row). nat_le r.until t) us else filter (λ (r : Row). nat_le r.until t) us)))
    ∙ kept g
  where
    kept : (g : Bool) → residents (stays_of (if g then x ∷ filter (λ (r : Row). nat_le r.until t) us else filter (λ (r : Row). nat_le r.until t) us)) ≡ residents (if g then stay_of x ∷ gs else gs)
    kept true = ap (λ l. resident_of (stay_of x) ∷ l) f
    kept false = f
go_step x us gs false q g t e h f = f ∙ (λ i. residents (if e i then stay_of x ∷ gs else gs))

-- the sought rows that end up to t are those of the files that may go
pub going_is : (clock t : ℕ) (rs : List Row) → AreReady clock rs → ended_by t (sought (record { at = t; ready = true }) rs) ≡ going t (stays_of rs)
going_is clock t [] a = refl
going_is clock t (x ∷ xs) a =
    go_step x (sought (record { at = t; ready = true }) xs) (filter (may_go t) (stays_of xs)) (x.ready || ((x.safe && not x.ready) && nat_le x.until t)) (nat_le x.until t) (not (nat_lt t x.until) && x.safe) t
    (goes (nat_le x.until t) x.safe (nat_le x.until clock) x.ready a.0 ∙ ap (λ b. b && x.safe) (sym (le_not_lt x.until t))) refl (going_is clock t xs a.1)

pub bytes_done : (total t : ℕ) (w : Wanted) (rs : List Row) (now : Option Row) → now ≡ None → total + bytes_of (ended_by t (rest_from w rs now)) ≡ bytes_of (ended_by t (sought w rs)) → total ≡ bytes_of (ended_by t (sought w rs))
bytes_done total t w rs now e h =
    let none : bytes_of (ended_by t (rest_from w rs now)) ≡ 0 = ap (λ o. bytes_of (ended_by t (rest_from w rs o))) e in
    omega arith

abbrev pub wanted_at : ℕ → Wanted
wanted_at t = record { at = t; ready = true }
