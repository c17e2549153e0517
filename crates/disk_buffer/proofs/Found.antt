-- The row of a file.
use Rattle.std.proofs.Common.{◌≡◌, ◌∙◌, ◌<◌, ℕ, List, [], ◌∷◌, Option, Some, None, Bool, true, false, ◌||◌, refl, sym, ap, subst, arith}
use Rattle.std.specs.Prelude.{◌==◌, filter, nat_eq, option_map, cond, if◌then◌else◌}
use Rattle.std.specs.Map.{lookup}
use Rattle.blob.specs.declared.sum.Sum256.{Sum256}
use Rattle.blob.specs.Sums.{sum_of}
use Rattle.sum_trees.specs.Order.{GoesFirst, IsSorted, first_like, first_of, has_like, is_like}
use Rattle.sum_trees.proofs.Orders.{IsOrder, clash}
use Rattle.disk_buffer.specs.declared.row.Row.{Row}
use Rattle.disk_buffer.specs.declared.arrivals.StoredFile.{StoredFile}
use Rattle.disk_buffer.specs.Rows.{row_before}
use Rattle.disk_buffer.specs.Laws.{rows_one_way, rows_split}
use Rattle.disk_buffer.specs.Stays.{AreApart, IsRowOf, TellsRow, arrival_in, content_in}
use Rattle.disk_buffer.specs.Contents.{contents_of}

pub row_order : IsOrder row_before
row_order = record { one_way = rows_one_way; splits = rows_split }

pub like_arrival : (r x : Row) → is_like row_before r x ≡ (x.arrival == r.arrival)
like_arrival r x = grind arith

same_test : (m n k : ℕ) → m ≡ n → (k == m) ≡ (k == n)
same_test m n k e = ap (λ j. k == j) e

pub like_same : (r q x : Row) → r.arrival ≡ q.arrival → is_like row_before r x ≡ is_like row_before q x
like_same r q x e = like_arrival r x ∙ same_test _ _ _ e ∙ sym (like_arrival q x)

pub is_self : (m : ℕ) → (m == m) ≡ true
is_self m = grind arith

pub is_same : (m n : ℕ) → (m == n) ≡ true → m ≡ n
is_same m n e = grind arith

less_other : (m n : ℕ) → m < n → (m == n) ≡ false
less_other m n h = grind arith

more_other : (m n : ℕ) → m < n → (n == m) ≡ false
more_other m n h = grind arith

before_less : (x z : Row) → row_before x z ≡ true → x.arrival < z.arrival
before_less x z e = grind arith

-- ---- a file that is not there

pub none_file : (c : Bool) (m : ℕ) (o : Option ℕ) → (if c then Some m else o) ≡ None → (c ≡ false) × (o ≡ None)
none_file true m o e = absurd (cc)
none_file false m o e = (refl, e)

-- ---- a file that is there

arrival_behind : (f a : ℕ) (x : Row) (xs : List Row) → arrival_in xs f ≡ Some a → GoesFirst row_before x xs → x.arrival < a
arrival_behind f a x [] e g = absurd (cc)
arrival_behind f a x (z ∷ zs) e g =
    elim (z.file == f) as (λ c. (if c then Some z.arrival else arrival_in zs f) ≡ Some a → x.arrival < a) [
      | true ↦ λ k. (let same : z.arrival ≡ a = cc in let less = before_less x z g.0 in omega arith)
      | false ↦ λ k. arrival_behind f a x zs k g.1
    ] e

-- each row of the number is one of the file, and the other way round
abbrev IsKey : ℕ → ℕ → List Row → Type 0
IsKey a f [] = Unit {0}
IsKey a f (x ∷ xs) = ((x.arrival == a) ≡ (x.file == f)) × IsKey a f xs

key_behind : (a f : ℕ) (x : Row) (xs : List Row) → x.arrival ≡ a → GoesFirst row_before x xs → arrival_in xs f ≡ None → IsKey a f xs
key_behind a f x [] e g n = tt
key_behind a f x (z ∷ zs) e g n =
    let out = none_file (z.file == f) z.arrival (arrival_in zs f) n in
    let less = before_less x z g.0 in
    (more_other a z.arrival (omega arith) ∙ sym out.0, key_behind a f x zs e g.1 out.1)

key_of : (a f : ℕ) (rs : List Row) → IsSorted row_before rs → AreApart rs → arrival_in rs f ≡ Some a → IsKey a f rs
key_of a f [] s p e = tt
key_of a f (x ∷ xs) s p e =
    elim (x.file == f) as (λ c. (x.file == f) ≡ c → (if c then Some x.arrival else arrival_in xs f) ≡ Some a → ((x.arrival == a) ≡ c) × IsKey a f xs) [
      | true ↦ λ k h. (let same : x.arrival ≡ a = cc in
          let none : arrival_in xs f ≡ None = ap (arrival_in xs) (sym (is_same x.file f k)) ∙ p.0 in
          (ap (λ m. m == a) same ∙ is_self a, key_behind a f x xs same s.0 none))
      | false ↦ λ k h. (less_other x.arrival a (arrival_behind f a x xs h s.0), key_of a f xs s.1 p.1 h)
    ] refl e

-- no row is of the file
abbrev pub NoRow : ℕ → List Row → Type 0
NoRow f [] = Unit {0}
NoRow f (x ∷ xs) = ((x.file == f) ≡ false) × NoRow f xs

pub no_row : (f : ℕ) (xs : List Row) → arrival_in xs f ≡ None → NoRow f xs
no_row f [] e = tt
no_row f (x ∷ xs) e = let out = none_file (x.file == f) x.arrival (arrival_in xs f) e in (out.0, no_row f xs out.1)

row_behind : (a f : ℕ) (r : Row) (xs : List Row) → r.arrival ≡ a → IsKey a f xs → NoRow f xs → IsRowOf f r xs
row_behind a f r [] e k n = tt
row_behind a f r (x ∷ xs) e k n = (like_arrival r x ∙ same_test _ _ _ e ∙ k.0, λ is. absurd (clash n.0 is), row_behind a f r xs e k.1 n.1)

row_found : (a f : ℕ) (q r : Row) (rs : List Row) → q.arrival ≡ a → IsKey a f rs → AreApart rs → Some r ≡ first_like row_before q rs → (r.arrival ≡ a) × IsRowOf f r rs × (has_like row_before r rs ≡ true)
row_found a f q r [] e k p h = absurd (cc)
row_found a f q r (x ∷ xs) e k p h =
    elim (is_like row_before q x) as (λ c. is_like row_before q x ≡ c → Some r ≡ first_of (if c then x ∷ filter (is_like row_before q) xs else filter (is_like row_before q) xs)
    → (r.arrival ≡ a) × IsRowOf f r (x ∷ xs) × (has_like row_before r (x ∷ xs) ≡ true)) [
      | true ↦ λ l m. here l (some_is m)
      | false ↦ λ l m. there l (row_found a f q r xs e k.1 p.1 m)
    ] refl h
  where
    some_is : Some r ≡ Some x → r ≡ x
    some_is m = cc

    here : is_like row_before q x ≡ true → r ≡ x → (r.arrival ≡ a) × IsRowOf f r (x ∷ xs) × (has_like row_before r (x ∷ xs) ≡ true)
    here l same =
        let number : (x.arrival == a) ≡ true = sym (same_test _ _ _ e) ∙ sym (like_arrival q x) ∙ l in
        let file : (x.file == f) ≡ true = sym k.0 ∙ number in
        let at : r.arrival ≡ a = ap (λ (y : Row). y.arrival) same ∙ is_same x.arrival a number in
        let like : is_like row_before r x ≡ (x.file == f) = like_arrival r x ∙ same_test _ _ _ at ∙ k.0 in
        let none : arrival_in xs f ≡ None = ap (arrival_in xs) (sym (is_same x.file f file)) ∙ p.0 in
        (at, (like, λ is. sym same, row_behind a f r xs at k.1 (no_row f xs none)), ap (λ b. b || has_like row_before r xs) (like ∙ file))

    or_right : (b c : Bool) → c ≡ true → (b || c) ≡ true
    or_right true c t = refl
    or_right false c t = t

    there : is_like row_before q x ≡ false → (r.arrival ≡ a) × IsRowOf f r xs × (has_like row_before r xs ≡ true) → (r.arrival ≡ a) × IsRowOf f r (x ∷ xs) × (has_like row_before r (x ∷ xs) ≡ true)
    there l t =
        let like : is_like row_before r x ≡ (x.file == f) = like_arrival r x ∙ same_test _ _ _ t.0 ∙ k.0 in
        let out : (x.file == f) ≡ false = sym like ∙ like_same r q x (t.0 ∙ sym e) ∙ l in
        (t.0, (like, λ is. absurd (clash out is), t.1), or_right (is_like row_before r x) (has_like row_before r xs) t.2)

-- ---- the row of a file, as it is found

pub row_told : (f a : ℕ) (rs : List Row) (q : Row) (told : Option Row) → arrival_in rs f ≡ Some a → q.arrival ≡ a → AreApart rs → IsSorted row_before rs → told ≡ first_like row_before q rs → TellsRow f rs told
row_told f a rs q None there e p s h = absurd (lost a f rs q e there (key_of a f rs s p there) h)
  where
    lost : (a f : ℕ) (rs : List Row) (q : Row) → q.arrival ≡ a → arrival_in rs f ≡ Some a → IsKey a f rs → None ≡ first_like row_before q rs → ⊥
    lost a f [] q e there k h = cc
    lost a f (x ∷ xs) q e there k h =
        elim (is_like row_before q x) as (λ c. is_like row_before q x ≡ c → None ≡ first_of (if c then x ∷ filter (is_like row_before q) xs else filter (is_like row_before q) xs) → ⊥) [
          | true ↦ λ l m. cc
          | false ↦ λ l m. lost a f xs q e (later (x.file == f) x.arrival (arrival_in xs f) (sym k.0 ∙ sym (same_test _ _ _ e) ∙ sym (like_arrival q x) ∙ l) there) k.1 m
        ] refl h
      where
        later : (c : Bool) (m : ℕ) (o : Option ℕ) → c ≡ false → (if c then Some m else o) ≡ Some a → o ≡ Some a
        later true m o n e = absurd (clash n refl)
        later false m o n e = e
row_told f a rs q (Some r) there e p s h = let t = row_found a f q r rs e (key_of a f rs s p there) p h in (t.1, t.2)

-- ---- what is kept

kept_sum : StoredFile → Sum256
kept_sum k = sum_of k.blob.value

pub flip_nat : (x y : ℕ) → (x == y) ≡ (y == x)
flip_nat x y = grind arith

map_if : (c : Bool) (k : StoredFile) (o : Option StoredFile) → (if c then Some (sum_of k.blob.value) else option_map (λ (k : StoredFile). sum_of k.blob.value) o) ≡ option_map (λ (k : StoredFile). sum_of k.blob.value) (cond c (Some k) o)
map_if true k o = refl
map_if false k o = refl

-- the contents are the sums of what is found
pub content_is : (es : List (ℕ × StoredFile)) (f : ℕ) → content_in (contents_of es) f ≡ option_map (λ (k : StoredFile). sum_of k.blob.value) (lookup (nat_eq f) es)
content_is [] f = refl
content_is (e ∷ es) f = (λ i. if flip_nat e.0 f i then Some (sum_of e.1.blob.value) else content_is es f i) ∙ map_if (f == e.0) e.1 (lookup (nat_eq f) es)

pub told_row : (f : ℕ) (rs : List Row) (told : Option Row) (r : Row) → told ≡ Some r → TellsRow f rs told → TellsRow f rs (Some r)
told_row f rs told r e t = subst (TellsRow f rs) e t

pub told_no_row : (f : ℕ) (rs : List Row) (told : Option Row) → told ≡ None → TellsRow f rs told → arrival_in rs f ≡ None
told_no_row f rs told e t = subst (TellsRow f rs) e t
