-- What the rows of open mounts tell.
use Rattle.std.proofs.Common.{◌≡◌, ◌∙◌, ℕ, inl, inr, List, [], ◌∷◌, ◌++◌, Bool, true, false, ◌&&◌, ◌||◌, refl, sym, ap, subst, arith, length}
use Rattle.std.specs.Prelude.{Some, if◌then◌else◌, ◌==◌, filter, reverse}
use Rattle.std.specs.List.{list_any}
use Rattle.std.proofs.lemmas.Bool.{eqb-true, eq-eqb}
use Rattle.std.proofs.lemmas.List.{length-reverse, reverse-append}
use Rattle.cta_site.specs.declared.site.Site.{Site}
use Rattle.cta_model.specs.declared.asks.Direction.{Direction}
use Rattle.cta_model.specs.declared.asks.Direction.TheVariants as direction
use Rattle.cta_model.specs.declared.states.Mount.{Mount}
use Rattle.cta_model.specs.History.{History, has_number}
use Rattle.cta_model.specs.Mounts.{is_mount, mount_of, open_mounts, open_where, same_direction}
use Rattle.cta_model.specs.Choice.{key_of_mount}
use Rattle.cta_laws.proofs.Bools.{same_bool}
use Rattle.cta_laws.proofs.Tests.{bool_cases}
use Rattle.part_model.specs.declared.mounts.OpenMount.{OpenMount}
use Rattle.part_model.specs.Mounts.{row_of}
use Rattle.part_laws.specs.MountLaws.{RowsTellMounts}
use Rattle.part_laws.specs.Mounts.{AreRows, IsRow}
use Rattle.part_laws.proofs.RowSteps.{reverse_filter}

-- ---- a test of rows is one of mounts

any_last : (test : ℕ → Bool) (ms : List ℕ) (m : ℕ) → list_any test (ms ++ m ∷ []) ≡ (test m || list_any test ms)
any_last test [] m = refl
any_last test (k ∷ ms) m = ap (λ (b : Bool). test k || b) (any_last test ms m) ∙ swap (test k) (test m) (list_any test ms)
  where
    swap : (a b c : Bool) → (a || (b || c)) ≡ (b || (a || c))
    swap true true c = refl
    swap true false c = refl
    swap false b c = refl

any_reverse : (test : ℕ → Bool) (ms : List ℕ) → list_any test (reverse ms) ≡ list_any test ms
any_reverse test [] = refl
any_reverse test (m ∷ ms) = ap (list_any test) (reverse-append (m ∷ []) ms) ∙ any_last test (reverse ms) m ∙ ap (λ (b : Bool). test m || b) (any_reverse test ms)

rows_any : (site : Site) (h : History) (test : OpenMount → Bool) (q : ℕ → Bool) (rows : List OpenMount) (ms : List ℕ) → ((m : ℕ) (r : OpenMount) → IsRow site h m r → test r ≡ q m) → AreRows site h rows ms → list_any test rows ≡ list_any q ms
rows_any site h test q [] [] says are = refl
rows_any site h test q [] (m ∷ ms) says are = absurd are
rows_any site h test q (r ∷ rows) [] says are = absurd are
rows_any site h test q (r ∷ rows) (m ∷ ms) says are = rw (says m r are.0, rows_any site h test q rows ms says are.1) refl

rows_count : (site : Site) (h : History) (test : OpenMount → Bool) (q : ℕ → Bool) (rows : List OpenMount) (ms : List ℕ) → ((m : ℕ) (r : OpenMount) → IsRow site h m r → test r ≡ q m) → AreRows site h rows ms → length (filter test rows) ≡ length (filter q ms)
rows_count site h test q [] [] says are = refl
rows_count site h test q [] (m ∷ ms) says are = absurd are
rows_count site h test q (r ∷ rows) [] says are = absurd are
rows_count site h test q (r ∷ rows) (m ∷ ms) says are = ap (λ (b : Bool). length (if b then r ∷ filter test rows else filter test rows)) (says m r are.0) ∙ by (q m) (rows_count site h test q rows ms says are.1)
  where
    by : (b : Bool) → length (filter test rows) ≡ length (filter q ms) → length (if b then r ∷ filter test rows else filter test rows) ≡ length (if b then m ∷ filter q ms else filter q ms)
    by true rest = omega (arith, rest)
    by false rest = rest

-- ---- the tests

same_number : (m k : ℕ) (r : OpenMount) → r.number ≡ k → (r.number == m) ≡ (m == k)
same_number m k r is = same_bool (r.number == m) (m == k) (λ e. eq-eqb m k (sym (eqb-true r.number m e) ∙ is)) (λ e. eq-eqb r.number m (is ∙ sym (eqb-true m k e)))

tested : (test : Mount → Bool) (h : History) (m : ℕ) (x : Mount) → mount_of h m ≡ Some x → test x ≡ is_mount test (mount_of h m)
tested test h m x is = sym (ap (is_mount test) is)

key_test : (site : Site) (way dir : Direction) (v key : ℕ) → (same_direction dir way && key_of_mount site dir v == key) ≡ (same_direction dir way && key_of_mount site way v == key)
key_test site direction.Archive direction.Archive v key = refl
key_test site direction.Archive direction.Retrieve v key = refl
key_test site direction.Retrieve direction.Archive v key = refl
key_test site direction.Retrieve direction.Retrieve v key = refl

-- ---- the row of an open mount

row_found : (site : Site) (h : History) (m : ℕ) (rows : List OpenMount) (ms : List ℕ) → AreRows site h rows ms → has_number m ms ≡ true → (r : OpenMount) × (row_of m rows ≡ Some r) × IsRow site h m r
row_found site h m [] [] are there = absurd (cc)
row_found site h m [] (k ∷ ms) are there = absurd are
row_found site h m (r ∷ rows) [] are there = absurd are
row_found site h m (r ∷ rows) (k ∷ ms) are there =
    elim (bool_cases (r.number == m)) [
      | inl hit ↦ (r, ap (λ (b : Bool). if b then Some r else row_of m rows) hit, subst (λ (n : ℕ). IsRow site h n r) (sym are.0.number ∙ eqb-true r.number m hit) are.0)
      | inr miss ↦
          (let other : (m == k) ≡ false = sym (same_number m k r are.0.number) ∙ miss in
          let rest = row_found site h m rows ms are.1 (rw other at there) in
          (rest.0, ap (λ (b : Bool). if b then Some r else row_of m rows) miss ∙ rest.1, rest.2))
    ]

pub rows_tell_mounts : RowsTellMounts
rows_tell_mounts site h rows are = record {
  opens = λ m. rows_any site h (λ (r : OpenMount). r.number == m) (λ k. m == k) rows (reverse (open_mounts h)) (λ k r x. same_number m k r x.number) are ∙ any_reverse (λ k. m == k) (open_mounts h);
  mounts = λ v. rows_any site h (λ (r : OpenMount). r.tape == v) (λ k. is_mount (λ (x : Mount). x.tape == v) (mount_of h k)) rows (reverse (open_mounts h)) (λ k r x. tested (λ (y : Mount). y.tape == v) h k _ x.mount) are
      ∙ any_reverse (λ k. is_mount (λ (x : Mount). x.tape == v) (mount_of h k)) (open_mounts h);
  busy = λ d. rows_any site h (λ (r : OpenMount). r.drive == d) (λ k. is_mount (λ (x : Mount). x.drive == d) (mount_of h k)) rows (reverse (open_mounts h)) (λ k r x. tested (λ (y : Mount). y.drive == d) h k _ x.mount) are
      ∙ any_reverse (λ k. is_mount (λ (x : Mount). x.drive == d) (mount_of h k)) (open_mounts h);
  keys = λ way key. rows_count site h (λ (r : OpenMount). same_direction r.direction way && r.key == key) (λ k. is_mount (λ (x : Mount). same_direction x.direction way && key_of_mount site way x.tape == key) (mount_of h k)) rows (reverse (open_mounts h))
      (λ k r x. ap (λ (n : ℕ). same_direction r.direction way && n == key) x.key ∙ key_test site way r.direction r.tape key ∙ tested (λ (y : Mount). same_direction y.direction way && key_of_mount site way y.tape == key) h k _ x.mount) are
      ∙ sym (ap (λ (ms : List ℕ). length ms) (reverse_filter (λ k. is_mount (λ (x : Mount). same_direction x.direction way && key_of_mount site way x.tape == key) (mount_of h k)) (open_mounts h)))
      ∙ length-reverse (open_where (λ (x : Mount). same_direction x.direction way && key_of_mount site way x.tape == key) h);
  row = λ m op. row_found site h m rows (reverse (open_mounts h)) are (any_reverse (λ k. m == k) (open_mounts h) ∙ op);
}
