-- Rows that change, leave and come.
use Rattle.std.proofs.Common.{◌≡◌, ◌∙◌, ◌<◌, ◌≤◌, ◌+◌, ◌-◌, ℕ, List, [], ◌∷◌, ◌++◌, length, Option, Some, None, Bool, true, false, ◌||◌, refl, sym, ap, subst, arith}
use Rattle.std.specs.Prelude.{◌==◌, not, filter, is_some, map, nat_eq, option_map, if◌then◌else◌}
use Rattle.std.specs.Map.{lookup}
use Rattle.blob.specs.declared.sum.Sum256.{Sum256}
use Rattle.blob.specs.Sums.{sum_of}
use Rattle.cta_model.specs.History.{has_number}
use Rattle.part_model.specs.Held.{bytes_of}
use Rattle.std.proofs.Math.Bool.{beq}
use Rattle.std.proofs.Math.ListN.{set}
use Rattle.sum_trees.specs.Forests.{items_in}
use Rattle.sum_trees.specs.Order.{has_like, inserted, is_like, replaced, unlike}
use Rattle.sum_trees.proofs.Orders.{clash, unpicked}
use Rattle.disk_buffer.specs.declared.row.Row.{Row}
use Rattle.disk_buffer.specs.declared.arrivals.StoredFile.{StoredFile}
use Rattle.disk_buffer.specs.Rows.{row_before}
use Rattle.disk_buffer.specs.Stays.{AreApart, AreEarly, AreKept, AreReady, IsRowOf, Stay, arrival_in, content_in, ended, flagged, is_free, is_there, residents, stay_of, stays_of, with_end, with_flag, without_file}
use Rattle.disk_buffer.specs.Contents.{contents_of}
use Rattle.disk_buffer.proofs.PinLists.{first_set}
use Rattle.disk_buffer.proofs.Found.{NoRow, content_is, flip_nat, is_same, like_same, no_row}

abbrev pub bytes_in : List Row → ℕ
bytes_in rs = bytes_of (residents (stays_of rs))

-- ---- rows that change

-- the row, changed where it is the file's
abbrev pub touch : ℕ → (Row → Row) → Row → Row
touch f upd x = if x.file == f then upd x else x

-- the rows, that of the file changed
abbrev pub touched : ℕ → (Row → Row) → List Row → List Row
touched f upd rs = map (touch f upd) rs

-- a change that leaves a row's number, file and length
pub record KeepsRow (upd : Row → Row) : Type 0 where
  pub arrival : (x : Row) → (upd x).arrival ≡ x.arrival
  pub file : (x : Row) → (upd x).file ≡ x.file
  pub len : (x : Row) → (upd x).len ≡ x.len

chosen : (c d : Bool) (u v x : Row) → c ≡ d → (d ≡ true → u ≡ v) → (if c then u else x) ≡ (if d then v else x)
chosen true true u v x e h = h refl
chosen false false u v x e h = refl
chosen true false u v x e h = absurd (cc)
chosen false true u v x e h = absurd (cc)

pub replaced_is : (f : ℕ) (r : Row) (upd : Row → Row) → KeepsRow upd → (rs : List Row) → IsRowOf f r rs → replaced row_before (upd r) rs ≡ touched f upd rs
replaced_is f r upd k [] s = refl
replaced_is f r upd k (x ∷ xs) s =
    (λ i. chosen (is_like row_before (upd r) x) (x.file == f) (upd r) (upd x) x (like_same (upd r) r x (k.arrival r) ∙ s.0) (λ e. ap upd (sym (s.1 e))) i ∷ replaced_is f r upd k xs s.2 i)

pub has_changed : (r q : Row) (rs : List Row) → r.arrival ≡ q.arrival → has_like row_before q rs ≡ true → has_like row_before r rs ≡ true
has_changed r q rs e h = same r q rs e ∙ h
  where
    same : (r q : Row) (rs : List Row) → r.arrival ≡ q.arrival → has_like row_before r rs ≡ has_like row_before q rs
    same r q [] e = refl
    same r q (x ∷ xs) e = (λ i. like_same r q x e i || same r q xs e i)

touch_arrival : (f : ℕ) (upd : Row → Row) → KeepsRow upd → (x : Row) → (touch f upd x).arrival ≡ x.arrival
touch_arrival f upd k x = elim (x.file == f) as (λ c. (if c then upd x else x).arrival ≡ x.arrival) [ true ↦ k.arrival x | false ↦ refl ]

touch_file : (f : ℕ) (upd : Row → Row) → KeepsRow upd → (x : Row) → (touch f upd x).file ≡ x.file
touch_file f upd k x = elim (x.file == f) as (λ c. (if c then upd x else x).file ≡ x.file) [ true ↦ k.file x | false ↦ refl ]

touch_len : (f : ℕ) (upd : Row → Row) → KeepsRow upd → (x : Row) → (touch f upd x).len ≡ x.len
touch_len f upd k x = elim (x.file == f) as (λ c. (if c then upd x else x).len ≡ x.len) [ true ↦ k.len x | false ↦ refl ]

touched_arrival : (f : ℕ) (upd : Row → Row) → KeepsRow upd → (rs : List Row) (g : ℕ) → arrival_in (touched f upd rs) g ≡ arrival_in rs g
touched_arrival f upd k [] g = refl
touched_arrival f upd k (x ∷ xs) g = (λ i. if touch_file f upd k x i == g then Some (touch_arrival f upd k x i) else touched_arrival f upd k xs g i)

touched_apart : (f : ℕ) (upd : Row → Row) → KeepsRow upd → (rs : List Row) → AreApart rs → AreApart (touched f upd rs)
touched_apart f upd k [] p = tt
touched_apart f upd k (x ∷ xs) p = (ap (arrival_in (touched f upd xs)) (touch_file f upd k x) ∙ touched_arrival f upd k xs x.file ∙ p.0, touched_apart f upd k xs p.1)

touched_ready : (f t : ℕ) (upd : Row → Row) → ((x : Row) → (upd x).ready ≡ is_free t (upd x)) → (rs : List Row) → AreReady t rs → AreReady t (touched f upd rs)
touched_ready f t upd h [] a = tt
touched_ready f t upd h (x ∷ xs) a = (elim (x.file == f) as (λ c. (if c then upd x else x).ready ≡ is_free t (if c then upd x else x)) [ true ↦ h x | false ↦ a.0 ], touched_ready f t upd h xs a.1)

touched_early : (f n : ℕ) (upd : Row → Row) → KeepsRow upd → (rs : List Row) → AreEarly n rs → AreEarly n (touched f upd rs)
touched_early f n upd k [] a = tt
touched_early f n upd k (x ∷ xs) a = (subst (λ (m : ℕ). m < n) (sym (touch_arrival f upd k x)) a.0, touched_early f n upd k xs a.1)

touched_bytes : (f : ℕ) (upd : Row → Row) → KeepsRow upd → (rs : List Row) → bytes_in (touched f upd rs) ≡ bytes_in rs
touched_bytes f upd k [] = refl
touched_bytes f upd k (x ∷ xs) = (λ i. touch_len f upd k x i + touched_bytes f upd k xs i)

-- what is kept of rows stays where one changes
pub kept_touched : (f : ℕ) (upd : Row → Row) → KeepsRow upd → (rs : List Row) (places : ℕ → Option ℕ) (t n b : ℕ) → ((x : Row) → (upd x).ready ≡ is_free t (upd x)) → AreKept rs places t n b → AreKept (touched f upd rs) places t n b
kept_touched f upd k rs places t n b h a = record {
  apart = touched_apart f upd k rs a.apart;
  found = λ g. a.found g ∙ sym (touched_arrival f upd k rs g);
  flags = touched_ready f t upd h rs a.flags;
  early = touched_early f n upd k rs a.early;
  total = a.total ∙ sym (touched_bytes f upd k rs);
}

pub ended_keeps : (u t : ℕ) → KeepsRow (ended u t)
ended_keeps u t = record { arrival = λ x. refl; file = λ x. refl; len = λ x. refl }

pub flagged_keeps : (s : Bool) (t : ℕ) → KeepsRow (flagged s t)
flagged_keeps s t = record { arrival = λ x. refl; file = λ x. refl; len = λ x. refl }

pub ended_stays : (f u t : ℕ) (rs : List Row) → stays_of (touched f (ended u t) rs) ≡ with_end f u (stays_of rs)
ended_stays f u t [] = refl
ended_stays f u t (x ∷ xs) =
    (λ i. elim (x.file == f) as (λ c. stay_of (if c then ended u t x else x) ≡ (if c then record (stay_of x) { until = u } else stay_of x)) [ true ↦ refl | false ↦ refl ] i ∷ ended_stays f u t xs i)

pub flagged_stays : (f : ℕ) (s : Bool) (t : ℕ) (rs : List Row) → stays_of (touched f (flagged s t) rs) ≡ with_flag f s (stays_of rs)
flagged_stays f s t [] = refl
flagged_stays f s t (x ∷ xs) =
    (λ i. elim (x.file == f) as (λ c. stay_of (if c then flagged s t x else x) ≡ (if c then record (stay_of x) { safe = s } else stay_of x)) [ true ↦ refl | false ↦ refl ] i ∷ flagged_stays f s t xs i)

-- ---- a row that has the value already

same_row : (f : ℕ) (r : Row) (u : Stay → Stay) → u (stay_of r) ≡ stay_of r → (rs : List Row) → IsRowOf f r rs → stays_of rs ≡ map (λ (s : Stay). if s.file == f then u s else s) (stays_of rs)
same_row f r u e [] s = refl
same_row f r u e (x ∷ xs) s =
    (λ i. elim (x.file == f) as (λ c. (x.file == f) ≡ c → stay_of x ≡ (if c then u (stay_of x) else stay_of x)) [ true ↦ λ k. ap stay_of (s.1 k) ∙ sym e ∙ ap (λ (y : Row). u (stay_of y)) (sym (s.1 k)) | false ↦ λ k. refl ] refl i ∷ same_row f r u e xs s.2 i)

pub same_end : (f u : ℕ) (r : Row) (rs : List Row) (v : List Stay) → stays_of rs ≡ v → IsRowOf f r rs → r.until ≡ u → v ≡ with_end f u v
same_end f u r rs v e s h = sym e ∙ same_row f r (λ (x : Stay). record x { until = u }) (λ i. record (stay_of r) { until = sym h i }) rs s ∙ ap (with_end f u) e

same_bool : (a b : Bool) → beq a b ≡ true → a ≡ b
same_bool true true e = refl
same_bool true false e = absurd (cc)
same_bool false true e = absurd (cc)
same_bool false false e = refl

pub same_flag : (f : ℕ) (b : Bool) (r : Row) (rs : List Row) (v : List Stay) → stays_of rs ≡ v → IsRowOf f r rs → beq r.safe b ≡ true → v ≡ with_flag f b v
same_flag f b r rs v e s h = sym e ∙ same_row f r (λ (x : Stay). record x { safe = b }) (λ i. record (stay_of r) { safe = sym (same_bool r.safe b h) i }) rs s ∙ ap (with_flag f b) e

-- ---- a file that is not there

same_step : (c : Bool) (x y : Stay) → c ≡ false → x ≡ (if c then y else x)
same_step true x y e = absurd (clash e refl)
same_step false x y e = refl

no_end : (f u : ℕ) (rs : List Row) → NoRow f rs → stays_of rs ≡ with_end f u (stays_of rs)
no_end f u [] n = refl
no_end f u (x ∷ xs) n = (λ i. same_step (x.file == f) (stay_of x) (record (stay_of x) { until = u }) n.0 i ∷ no_end f u xs n.1 i)

no_flag : (f : ℕ) (s : Bool) (rs : List Row) → NoRow f rs → stays_of rs ≡ with_flag f s (stays_of rs)
no_flag f s [] n = refl
no_flag f s (x ∷ xs) n = (λ i. same_step (x.file == f) (stay_of x) (record (stay_of x) { safe = s }) n.0 i ∷ no_flag f s xs n.1 i)

keep_one : {A : Type 0} (b : Bool) (x : A) (us vs : List A) → b ≡ false → us ≡ vs → x ∷ us ≡ (if not (b || false) then x ∷ vs else vs)
keep_one true x us vs e h = absurd (clash e refl)
keep_one false x us vs e h = ap (λ l. x ∷ l) h

no_file : (f : ℕ) (rs : List Row) → NoRow f rs → stays_of rs ≡ without_file f (stays_of rs)
no_file f [] n = refl
no_file f (x ∷ xs) n = keep_one (x.file == f) (stay_of x) (stays_of xs) (without_file f (stays_of xs)) n.0 (no_file f xs n.1)

pub absent_end : (f u : ℕ) (rs : List Row) (v : List Stay) → stays_of rs ≡ v → arrival_in rs f ≡ None → v ≡ with_end f u v
absent_end f u rs v e n = sym e ∙ no_end f u rs (no_row f rs n) ∙ ap (with_end f u) e

pub absent_flag : (f : ℕ) (s : Bool) (rs : List Row) (v : List Stay) → stays_of rs ≡ v → arrival_in rs f ≡ None → v ≡ with_flag f s v
absent_flag f s rs v e n = sym e ∙ no_flag f s rs (no_row f rs n) ∙ ap (with_flag f s) e

pub absent_file : (f : ℕ) (rs : List Row) (v : List Stay) → stays_of rs ≡ v → arrival_in rs f ≡ None → v ≡ without_file f v
absent_file f rs v e n = sym e ∙ no_file f rs (no_row f rs n) ∙ ap (without_file f) e

-- ---- a file that leaves

-- the rows but those of the file
abbrev pub dropped : ℕ → List Row → List Row
dropped f rs = filter (λ (x : Row). not (has_number x.file (f ∷ []))) rs

no_or : (a : Bool) → a ≡ (a || false)
no_or true = refl
no_or false = refl

pub unlike_is : (f : ℕ) (r : Row) (rs : List Row) → IsRowOf f r rs → unlike row_before r rs ≡ dropped f rs
unlike_is f r [] s = refl
unlike_is f r (x ∷ xs) s =
    let same : not (is_like row_before r x) ≡ not (x.file == f || false) = ap not (s.0 ∙ no_or (x.file == f)) in
    (λ i. if same i then x ∷ unlike_is f r xs s.2 i else unlike_is f r xs s.2 i)

pub dropped_stays : (f : ℕ) (rs : List Row) → stays_of (dropped f rs) ≡ without_file f (stays_of rs)
dropped_stays f [] = refl
dropped_stays f (x ∷ xs) =
    elim (not (x.file == f || false)) as (λ c. stays_of (if c then x ∷ dropped f xs else dropped f xs) ≡ (if c then stay_of x ∷ without_file f (stays_of xs) else without_file f (stays_of xs)))
    [ true ↦ ap (λ l. stay_of x ∷ l) (dropped_stays f xs) | false ↦ dropped_stays f xs ]

not_both : (m f g : ℕ) → (m == f) ≡ false → (f == g) ≡ true → (m == g) ≡ false
not_both m f g e h = grind arith

not_one : (m f g : ℕ) → (m == f) ≡ true → (f == g) ≡ false → (m == g) ≡ false
not_one m f g e h = grind arith

pick_yes : (c : Bool) (m : ℕ) (o : Option ℕ) → c ≡ false → o ≡ None → (if c then Some m else o) ≡ None
pick_yes true m o e n = absurd (clash e refl)
pick_yes false m o e n = n

pick_no : (c : Bool) (m : ℕ) (o : Option ℕ) → c ≡ false → o ≡ (if c then Some m else o)
pick_no true m o e = absurd (clash e refl)
pick_no false m o e = refl

none_either : (c : Bool) (o : Option ℕ) → o ≡ None → (if c then None else o) ≡ None
none_either true o e = refl
none_either false o e = e

dropped_arrival : (f : ℕ) (rs : List Row) (g : ℕ) → arrival_in (dropped f rs) g ≡ (if f == g then None else arrival_in rs g)
dropped_arrival f [] g = sym (none_either (f == g) None refl)
dropped_arrival f (x ∷ xs) g =
    elim (x.file == f) as (λ c. (x.file == f) ≡ c → arrival_in (if not (c || false) then x ∷ dropped f xs else dropped f xs) g ≡ (if f == g then None else (if x.file == g then Some x.arrival else arrival_in xs g))) [
      | true ↦ λ e. dropped_arrival f xs g ∙ gone e (f == g) refl
      | false ↦ λ e. ap (λ o. if x.file == g then Some x.arrival else o) (dropped_arrival f xs g) ∙ stayed e (f == g) refl
    ] refl
  where
    gone : (x.file == f) ≡ true → (c : Bool) → (f == g) ≡ c → (if c then None else arrival_in xs g) ≡ (if c then None else (if x.file == g then Some x.arrival else arrival_in xs g))
    gone e true h = refl
    gone e false h = pick_no (x.file == g) x.arrival (arrival_in xs g) (not_one x.file f g e h)

    stayed : (x.file == f) ≡ false → (c : Bool) → (f == g) ≡ c → (if x.file == g then Some x.arrival else (if c then None else arrival_in xs g)) ≡ (if c then None else (if x.file == g then Some x.arrival else arrival_in xs g))
    stayed e true h = pick_yes (x.file == g) x.arrival None (not_both x.file f g e h) refl
    stayed e false h = refl

dropped_apart : (f : ℕ) (rs : List Row) → AreApart rs → AreApart (dropped f rs)
dropped_apart f [] p = tt
dropped_apart f (x ∷ xs) p =
    elim (not (x.file == f || false)) as (λ c. AreApart (if c then x ∷ dropped f xs else dropped f xs))
    [ true ↦ (dropped_arrival f xs x.file ∙ none_either (f == x.file) (arrival_in xs x.file) p.0, dropped_apart f xs p.1) | false ↦ dropped_apart f xs p.1 ]

dropped_ready : (f t : ℕ) (rs : List Row) → AreReady t rs → AreReady t (dropped f rs)
dropped_ready f t [] a = tt
dropped_ready f t (x ∷ xs) a = elim (not (x.file == f || false)) as (λ c. AreReady t (if c then x ∷ dropped f xs else dropped f xs)) [ true ↦ (a.0, dropped_ready f t xs a.1) | false ↦ dropped_ready f t xs a.1 ]

dropped_early : (f n : ℕ) (rs : List Row) → AreEarly n rs → AreEarly n (dropped f rs)
dropped_early f n [] a = tt
dropped_early f n (x ∷ xs) a = elim (not (x.file == f || false)) as (λ c. AreEarly n (if c then x ∷ dropped f xs else dropped f xs)) [ true ↦ (a.0, dropped_early f n xs a.1) | false ↦ dropped_early f n xs a.1 ]

none_dropped : (f : ℕ) (rs : List Row) → NoRow f rs → dropped f rs ≡ rs
none_dropped f [] n = refl
none_dropped f (x ∷ xs) n = sym (keep_one (x.file == f) x xs (dropped f xs) n.0 (sym (none_dropped f xs n.1)))

pub dropped_bytes : (f : ℕ) (r : Row) (rs : List Row) → AreApart rs → IsRowOf f r rs → has_like row_before r rs ≡ true → bytes_in (dropped f rs) + r.len ≡ bytes_in rs
dropped_bytes f r [] p s h = absurd (clash refl h)
dropped_bytes f r (x ∷ xs) p s h =
    elim (x.file == f) as (λ c. (x.file == f) ≡ c → bytes_in (if not (c || false) then x ∷ dropped f xs else dropped f xs) + r.len ≡ x.len + bytes_in xs) [
      | true ↦ λ e. (let same : x.len ≡ r.len = ap (λ (y : Row). y.len) (s.1 e) in
          let none : arrival_in xs f ≡ None = ap (arrival_in xs) (sym (is_same x.file f e)) ∙ p.0 in
          let rest : bytes_in (dropped f xs) ≡ bytes_in xs = ap bytes_in (none_dropped f xs (no_row f xs none)) in
          omega arith)
      | false ↦ λ e. (let rest : bytes_in (dropped f xs) + r.len ≡ bytes_in xs = dropped_bytes f r xs p.1 s.2 (later (is_like row_before r x) (has_like row_before r xs) (s.0 ∙ e) h) in omega arith)
    ] refl
  where
    later : (a b : Bool) → a ≡ false → (a || b) ≡ true → b ≡ true
    later true b e k = absurd (clash e refl)
    later false b e k = k

pub kept_dropped : (f : ℕ) (r : Row) (rs : List Row) (places now : ℕ → Option ℕ) (t n b left : ℕ) → AreKept rs places t n b → IsRowOf f r rs → has_like row_before r rs ≡ true
    → ((g : ℕ) → now g ≡ (if f == g then None else places g)) → left ≡ b - r.len → AreKept (dropped f rs) now t n left
kept_dropped f r rs places now t n b left a s h moved less = record {
  apart = dropped_apart f rs a.apart;
  found = λ g. moved g ∙ ap (λ o. if f == g then None else o) (a.found g) ∙ sym (dropped_arrival f rs g);
  flags = dropped_ready f t rs a.flags;
  early = dropped_early f n rs a.early;
  total = (let all : bytes_in (dropped f rs) + r.len ≡ bytes_in rs = dropped_bytes f r rs a.apart s h in let was : b ≡ bytes_in rs = a.total in omega arith);
}

-- ---- a file that comes

not_before : (x r : Row) → x.arrival < r.arrival → row_before r x ≡ false
not_before x r h = grind arith

not_like : (x r : Row) → x.arrival < r.arrival → is_like row_before r x ≡ false
not_like x r h = grind arith

pub comes_last : (r : Row) (rs : List Row) → AreEarly r.arrival rs → inserted row_before r rs ≡ rs ++ r ∷ []
comes_last r [] a = refl
comes_last r (x ∷ xs) a = unpicked (row_before r x) (not_before x r a.0) (r ∷ x ∷ xs) (x ∷ inserted row_before r xs) ∙ ap (λ l. x ∷ l) (comes_last r xs a.1)

pub comes_new : (r : Row) (rs : List Row) → AreEarly r.arrival rs → has_like row_before r rs ≡ false
comes_new r [] a = refl
comes_new r (x ∷ xs) a = (λ i. not_like x r a.0 i || comes_new r xs a.1 i)

last_stays : (r : Row) (rs : List Row) → stays_of (rs ++ r ∷ []) ≡ stays_of rs ++ stay_of r ∷ []
last_stays r [] = refl
last_stays r (x ∷ xs) = ap (λ l. stay_of x ∷ l) (last_stays r xs)

last_bytes : (r : Row) (rs : List Row) → bytes_in (rs ++ r ∷ []) ≡ bytes_in rs + r.len
last_bytes r [] = omega arith
last_bytes r (x ∷ xs) = (let rest = last_bytes r xs in omega arith)

other_way : (m f g : ℕ) → (m == f) ≡ false → (f == g) ≡ true → (m == g) ≡ false
other_way m f g e h = grind arith

last_arrival : (r : Row) (rs : List Row) (g : ℕ) → NoRow r.file rs → arrival_in (rs ++ r ∷ []) g ≡ (if r.file == g then Some r.arrival else arrival_in rs g)
last_arrival r [] g n = refl
last_arrival r (x ∷ xs) g n = ap (λ o. if x.file == g then Some x.arrival else o) (last_arrival r xs g n.1) ∙ swapped (r.file == g) refl
  where
    swapped : (c : Bool) → (r.file == g) ≡ c → (if x.file == g then Some x.arrival else (if c then Some r.arrival else arrival_in xs g)) ≡ (if c then Some r.arrival else (if x.file == g then Some x.arrival else arrival_in xs g))
    swapped true e = sym (pick_no (x.file == g) x.arrival (Some r.arrival) (other_way x.file r.file g n.0 e))
    swapped false e = refl

turned : (m n : ℕ) → (m == n) ≡ false → (n == m) ≡ false
turned m n e = flip_nat n m ∙ e

last_apart : (r : Row) (rs : List Row) → NoRow r.file rs → AreApart rs → AreApart (rs ++ r ∷ [])
last_apart r [] n p = (refl, tt)
last_apart r (x ∷ xs) n p = (last_arrival r xs x.file n.1 ∙ pick_yes (r.file == x.file) r.arrival (arrival_in xs x.file) (turned x.file r.file n.0) p.0, last_apart r xs n.1 p.1)

last_ready : (r : Row) (t : ℕ) (rs : List Row) → r.ready ≡ is_free t r → AreReady t rs → AreReady t (rs ++ r ∷ [])
last_ready r t [] h a = (h, tt)
last_ready r t (x ∷ xs) h a = (a.0, last_ready r t xs h a.1)

last_early : (r : Row) (n : ℕ) (rs : List Row) → r.arrival ≡ n → AreEarly n rs → AreEarly (n + 1) (rs ++ r ∷ [])
last_early r n [] h a = (omega arith, tt)
last_early r n (x ∷ xs) h a = ((let less : x.arrival < n = a.0 in omega arith), last_early r n xs h a.1)

pub there_is : (rs : List Row) (f : ℕ) → is_there (stays_of rs) f ≡ is_some (arrival_in rs f)
there_is [] f = refl
there_is (x ∷ xs) f = (λ i. flip_nat f x.file i || there_is xs f i) ∙ either (x.file == f) x.arrival (arrival_in xs f)
  where
    either : (c : Bool) (m : ℕ) (o : Option ℕ) → (c || is_some o) ≡ is_some (if c then Some m else o)
    either true m o = refl
    either false m o = refl

pub not_there : (rs : List Row) (v : List Stay) (f : ℕ) → stays_of rs ≡ v → is_there v f ≡ false → NoRow f rs
not_there rs v f e n = no_row f rs (none (arrival_in rs f) (sym (there_is rs f) ∙ ap (λ l. is_there l f) e ∙ n))
  where
    none : (o : Option ℕ) → is_some o ≡ false → o ≡ None
    none None h = refl
    none (Some m) h = absurd (cc)

pub kept_last : (r : Row) (rs : List Row) (places now : ℕ → Option ℕ) (t n b next more : ℕ) → AreKept rs places t n b → NoRow r.file rs → r.arrival ≡ n → r.ready ≡ is_free t r
    → ((g : ℕ) → now g ≡ (if r.file == g then Some r.arrival else places g)) → next ≡ n + 1 → more ≡ b + r.len → AreKept (rs ++ r ∷ []) now t next more
kept_last r rs places now t n b next more a none at ready moved en eb = record {
  apart = last_apart r rs none a.apart;
  found = λ g. moved g ∙ ap (λ o. if r.file == g then Some r.arrival else o) (a.found g) ∙ sym (last_arrival r rs g none);
  flags = last_ready r t rs ready a.flags;
  early = subst (λ (m : ℕ). AreEarly m (rs ++ r ∷ [])) (sym en) (last_early r n rs at a.early);
  total = (let all = last_bytes r rs in let was : b ≡ bytes_in rs = a.total in omega arith);
}

pub stays_last : (r : Row) (rs : List Row) (v : List Stay) → stays_of rs ≡ v → stays_of (rs ++ r ∷ []) ≡ v ++ stay_of r ∷ []
stays_last r rs v e = last_stays r rs ∙ ap (λ l. l ++ stay_of r ∷ []) e

-- ---- contents

abbrev pub kept_sum : Option StoredFile → Option Sum256
kept_sum o = option_map (λ (k : StoredFile). sum_of k.blob.value) o

pub content_same : (es fs : List (ℕ × StoredFile)) (v : List (ℕ × Sum256)) (g : ℕ) → contents_of es ≡ v → kept_sum (lookup (nat_eq g) fs) ≡ kept_sum (lookup (nat_eq g) es) → content_in (contents_of fs) g ≡ content_in v g
content_same es fs v g e h = content_is fs g ∙ h ∙ sym (content_is es g) ∙ ap (λ l. content_in l g) e

pub content_put : (es fs : List (ℕ × StoredFile)) (v : List (ℕ × Sum256)) (f : ℕ) (s : Sum256) (g : ℕ) → contents_of es ≡ v → kept_sum (lookup (nat_eq g) fs) ≡ (if f == g then Some s else kept_sum (lookup (nat_eq g) es))
    → content_in (contents_of fs) g ≡ (if g == f then Some s else content_in v g)
content_put es fs v f s g e h = content_is fs g ∙ h ∙ (λ i. if flip_nat f g i then Some s else (sym (content_is es g) ∙ ap (λ l. content_in l g) e) i)

pub content_cut : (es fs : List (ℕ × StoredFile)) (v : List (ℕ × Sum256)) (f g : ℕ) → contents_of es ≡ v → kept_sum (lookup (nat_eq g) fs) ≡ (if f == g then None else kept_sum (lookup (nat_eq g) es))
    → content_in (contents_of fs) g ≡ (if g == f then None else content_in v g)
content_cut es fs v f g e h = content_is fs g ∙ h ∙ (λ i. if flip_nat f g i then None else (sym (content_is es g) ∙ ap (λ l. content_in l g) e) i)

pub content_none : (es : List (ℕ × StoredFile)) (v : List (ℕ × Sum256)) (f g : ℕ) → contents_of es ≡ v → option_map (λ (k : StoredFile). k.arrival) (lookup (nat_eq f) es) ≡ None → content_in v g ≡ (if g == f then None else content_in v g)
content_none es v f g e h =
    elim (g == f) as (λ c. (g == f) ≡ c → content_in v g ≡ (if c then None else content_in v g)) [
      | true ↦ λ k. ap (content_in v) (is_same g f k) ∙ sym (ap (λ l. content_in l f) e) ∙ content_is es f ∙ no_sum (lookup (nat_eq f) es) h
      | false ↦ λ k. refl
    ] refl
  where
    no_sum : (o : Option StoredFile) → option_map (λ (k : StoredFile). k.arrival) o ≡ None → kept_sum o ≡ None
    no_sum None h = refl
    no_sum (Some k) h = absurd (cc)

-- ---- the one tree

pub replaced_tree : (trees now : List (List Row)) (f : ℕ) (r q : Row) (upd : Row → Row) → KeepsRow upd → length trees ≡ 1 → q ≡ upd r → IsRowOf f r (items_in trees 0) → now ≡ set trees 0 (replaced row_before q (items_in trees 0))
    → items_in now 0 ≡ touched f upd (items_in trees 0)
replaced_tree trees now f r q upd k one e s is = first_set trees now _ one is ∙ ap (λ x. replaced row_before x (items_in trees 0)) e ∙ replaced_is f r upd k (items_in trees 0) s

pub dropped_tree : (trees now : List (List Row)) (f : ℕ) (r : Row) → length trees ≡ 1 → IsRowOf f r (items_in trees 0) → now ≡ set trees 0 (unlike row_before r (items_in trees 0)) → items_in now 0 ≡ dropped f (items_in trees 0)
dropped_tree trees now f r one s is = first_set trees now _ one is ∙ unlike_is f r (items_in trees 0) s

pub last_tree : (trees now : List (List Row)) (r : Row) → length trees ≡ 1 → AreEarly r.arrival (items_in trees 0) → now ≡ set trees 0 (inserted row_before r (items_in trees 0)) → items_in now 0 ≡ items_in trees 0 ++ r ∷ []
last_tree trees now r one a is = first_set trees now _ one is ∙ comes_last r (items_in trees 0) a

-- a list of rows for another one that it equals
pub kept_as : (rs xs : List Row) (places : ℕ → Option ℕ) (t n b : ℕ) → rs ≡ xs → AreKept xs places t n b → AreKept rs places t n b
kept_as rs xs places t n b e a = subst (λ (l : List Row). AreKept l places t n b) (sym e) a

pub fits_row : (f : ℕ) (r : Row) (rs : List Row) (places : ℕ → Option ℕ) (t n b : ℕ) → AreKept rs places t n b → IsRowOf f r rs → has_like row_before r rs ≡ true → r.len ≤ b
fits_row f r rs places t n b a s h = (let all : bytes_in (dropped f rs) + r.len ≡ bytes_in rs = dropped_bytes f r rs a.apart s h in let was : b ≡ bytes_in rs = a.total in omega arith)
