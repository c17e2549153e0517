-- Walks along the live items of a file and the holders of a copy.
use Rattle.std.proofs.Common.{◌≡◌, ◌∙◌, ◌<◌, ◌≤◌, ◌+◌, ℕ, List, [], ◌∷◌, Some, None, Bool, true, false, ◌||◌, refl, sym, ap, arith}
use Rattle.std.specs.Prelude.{Option, ◌==◌, ◌&&◌, is_some}
use Rattle.std.specs.List.{list_any}
use Rattle.std.proofs.lemmas.Bool.{eqb-true}
use Rattle.std.proofs.lemmas.Bool.Decides.{nat_tests}
use Rattle.cta_model.specs.declared.reports.ItemState.{ItemState}
use Rattle.cta_model.specs.declared.reports.ItemState.TheVariants as item
use Rattle.cta_model.specs.declared.states.RepackCopy.{RepackCopy}
use Rattle.cta_model.specs.History.{has_number}
use Rattle.cta_model.specs.Repacks.{Repack, is_live_item}
use Rattle.job_queues.specs.Laws.{way, Below, Level, Above}
use Rattle.part_model.specs.Repacks.{is_reading, reading_copies}
use Rattle.repack_book.specs.Live.{has_live, has_state}
use Rattle.repack_book.specs.Walks.{IsFirstFrom}
use Rattle.repack_book.proofs.Rows.{of_some_copy, reading_is, some_copy}
use Rattle.repack_book.proofs.Trees.{clash}

-- ---- a test by another that more numbers pass

pub none_of : (p h : ℕ → Bool) (from : ℕ) → ((n : ℕ) → p n ≡ true → h n ≡ true) → IsFirstFrom h from None → IsFirstFrom p from None
none_of p h from sub none n e = none n (sub n e)

pub this_one : (p h : ℕ → Bool) (from m : ℕ) → ((n : ℕ) → p n ≡ true → h n ≡ true) → IsFirstFrom h from (Some m) → p m ≡ true → IsFirstFrom p from (Some m)
this_one p h from m sub w e = (e, w.1, λ n k le. w.2 n (sub n k) le)

passed : (p : ℕ → Bool) (m n : ℕ) → p m ≡ false → p n ≡ true → m ≤ n → m + 1 ≤ n
passed p m n e k le = by (m == n) refl
  where
    more : (a b : ℕ) → a ≤ b → (a == b) ≡ false → a + 1 ≤ b
    more a b le ne = grind (arith, nat_tests)

    by : (b : Bool) → (m == n) ≡ b → m + 1 ≤ n
    by true h = absurd (clash k (ap p (sym (eqb-true m n h)) ∙ e))
    by false h = more m n le h

pub skipped : (p h : ℕ → Bool) (from m : ℕ) → ((n : ℕ) → p n ≡ true → h n ≡ true) → IsFirstFrom h from (Some m) → p m ≡ false → (o : Option ℕ) → IsFirstFrom p (m + 1) o → IsFirstFrom p from o
skipped p h from m sub w e None none = λ n k. under n from m (none n k) (λ le. w.2 n (sub n k) le) (λ le. passed p m n e k le)
  where
    under : (n from m : ℕ) → n < m + 1 → (from ≤ n → m ≤ n) → (m ≤ n → m + 1 ≤ n) → n < from
    under n from m lt a b = elim (way n from) [
      | Below h ↦ h
      | Level h ↦ absurd (let x : m ≤ n = a (omega arith) in let y : m + 1 ≤ n = b x in omega arith)
      | Above h ↦ absurd (let x : m ≤ n = a (omega arith) in let y : m + 1 ≤ n = b x in omega arith)
    ]
skipped p h from m sub w e (Some q) next = (next.0, (let low : from ≤ m = w.1 in let up : m + 1 ≤ q = next.1 in omega arith), λ n k le. next.2 n k (passed p m n e k (w.2 n (sub n k) le)))

-- ---- live items of a file

pub pins_tell : (h : ℕ → Bool) (f : ℕ) (items : List RepackCopy) → ((c : ℕ) → h c ≡ has_live f c items) → (o : Option ℕ) → IsFirstFrom h 0 o → is_some o ≡ list_any (λ (i : RepackCopy). i.file == f && is_live_item i.state) items
pins_tell h f items each None none = sym (some_copy f items (λ k. by k (has_live f k items) refl))
  where
    by : (k : ℕ) (b : Bool) → has_live f k items ≡ b → has_live f k items ≡ false
    by k true e = absurd (let low : k < 0 = none k (each k ∙ e) in omega arith)
    by k false e = e
pins_tell h f items each (Some m) w = sym (of_some_copy f m items (sym (each m) ∙ w.0))

-- ---- copies that are READING

reading_lives : (f c : ℕ) (items : List RepackCopy) → has_state f c is_reading items ≡ true → has_live f c items ≡ true
reading_lives f c [] h = absurd (cc)
reading_lives f c (i ∷ is) h = by (i.file == f && i.copy == c) i.state h (λ k. reading_lives f c is k)
  where
    by : (a : Bool) (s : ItemState) → ((a && is_reading s) || has_state f c is_reading is) ≡ true → (has_state f c is_reading is ≡ true → has_live f c is ≡ true) → ((a && is_live_item s) || has_live f c is) ≡ true
    by true item.Reading k ih = refl
    by true item.Writing k ih = refl
    by true item.Done k ih = ih k
    by true item.Failed k ih = ih k
    by true item.Gone k ih = ih k
    by false s k ih = ih k

-- a copy that is READING is among the live items
pub reading_there : (h : ℕ → Bool) (f : ℕ) (r : Repack) → ((c : ℕ) → h c ≡ has_live f c r.items) → (n : ℕ) → has_number n (reading_copies f (Some r)) ≡ true → h n ≡ true
reading_there h f r each n e = each n ∙ reading_lives f n r.items (sym (reading_is f n r.items) ∙ e)

-- no copy is READING from the number 256 on
pub none_beyond : (f : ℕ) (r : Repack) → ((c : ℕ) → has_state f c is_reading r.items ≡ true → c < 256) → IsFirstFrom (λ c. has_number c (reading_copies f (Some r))) 256 None
none_beyond f r low n e = low n (sym (reading_is f n r.items) ∙ e)
