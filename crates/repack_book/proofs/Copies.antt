-- The first live copy of a file, by the live items in order.
use Rattle.std.proofs.Common.{◌≡◌, ◌∙◌, inl, inr, ◌<◌, ◌≤◌, ℕ, List, Some, None, Bool, true, false, refl, sym, subst, arith}
use Rattle.std.specs.Prelude.{◌==◌, ◌&&◌, not, if◌then◌else◌}
use Rattle.std.proofs.lemmas.Bool.{eqb-true, eq-eqb}
use Rattle.sum_trees.specs.Order.{IsSorted, first_from}
use Rattle.job_queues.specs.Laws.{way, Below, Level, Above}
use Rattle.repack_book.specs.declared.items.LiveItem.{LiveItem}
use Rattle.repack_book.specs.Order.{item_before, is_item, has_item}
use Rattle.repack_book.specs.Laws.{item_one_way}
use Rattle.repack_book.specs.Walks.{IsFirstFrom}
use Rattle.repack_book.proofs.Rows.{and_left, and_right}
use Rattle.repack_book.proofs.Trees.{clash, found, least, missed, NotBefore, Passing, not_yes, not_no, and_both, tape_first}

-- an item of the file, in the repack, of another
record OfFile (s y : LiveItem) : Type 0 where
  its_tape : y.tape ≡ s.tape
  its_repack : y.repack ≡ s.repack
  its_file : y.file ≡ s.file

-- whether an item is of the file, in the repack, of another
abbrev is_of_file : LiveItem → LiveItem → Bool
is_of_file s y = (y.tape == s.tape && y.repack == s.repack) && y.file == s.file

repack_first : (x y : LiveItem) → x.tape ≡ y.tape → x.repack < y.repack → item_before x y ≡ true
repack_first x y e h = grind arith

file_first : (x y : LiveItem) → x.tape ≡ y.tape → x.repack ≡ y.repack → x.file < y.file → item_before x y ≡ true
file_first x y e g h = grind arith

copy_first : (x y : LiveItem) → x.tape ≡ y.tape → x.repack ≡ y.repack → x.file ≡ y.file → x.copy < y.copy → item_before x y ≡ true
copy_first x y e g k h = grind arith

not_under : (s y : LiveItem) → OfFile s y → item_before y s ≡ false → s.copy ≤ y.copy
not_under s y o h =
    elim (way y.copy s.copy) [
      | Below k ↦ absurd (clash (copy_first y s o.its_tape o.its_repack o.its_file k) h)
      | Level k ↦ omega arith
      | Above k ↦ omega arith
    ]

under : (s y : LiveItem) → OfFile s y → item_before y s ≡ true → y.copy < s.copy
under s y o h = grind (arith, o.its_tape, o.its_repack, o.its_file)

beyond : (s next y : LiveItem) → OfFile s y → is_of_file s next ≡ false → item_before next s ≡ false → item_before y next ≡ true
beyond s next y o ne h =
    elim (way next.tape s.tape) [
      | Below k ↦ absurd (clash (tape_first next s k) h)
      | Above k ↦ tape_first y next (subst (λ (n : ℕ). n < next.tape) (sym o.its_tape) k)
      | Level t ↦ elim (way next.repack s.repack) [
        | Below k ↦ absurd (clash (repack_first next s t k) h)
        | Above k ↦ repack_first y next (o.its_tape ∙ sym t) (subst (λ (n : ℕ). n < next.repack) (sym o.its_repack) k)
        | Level r ↦ elim (way next.file s.file) [
          | Below k ↦ absurd (clash (file_first next s t r k) h)
          | Above k ↦ file_first y next (o.its_tape ∙ sym t) (o.its_repack ∙ sym r) (subst (λ (n : ℕ). n < next.file) (sym o.its_file) k)
          | Level f ↦ absurd (clash (and_both _ _ (and_both _ _ (eq-eqb _ _ t) (eq-eqb _ _ r)) (eq-eqb _ _ f)) ne)
        ]
      ]
    ]

of_file : (s : LiveItem) (n : ℕ) (y : LiveItem) → is_item s.tape s.repack s.file n y ≡ true → OfFile s y
of_file s n y e =
    let one : (s.tape == y.tape && s.repack == y.repack) ≡ true = and_left (s.tape == y.tape && s.repack == y.repack) _ e in
    let two : (s.file == y.file && n == y.copy) ≡ true = and_right (s.tape == y.tape && s.repack == y.repack) _ e in
    record { its_tape = sym (eqb-true _ _ (and_left (s.tape == y.tape) _ one)); its_repack = sym (eqb-true _ _ (and_right (s.tape == y.tape) _ one)); its_file = sym (eqb-true _ _ (and_left (s.file == y.file) _ two)) }

its_copy : (t r f n : ℕ) (y : LiveItem) → is_item t r f n y ≡ true → n ≡ y.copy
its_copy t r f n y e = eqb-true _ _ (and_right (f == y.file) _ (and_right (t == y.tape && r == y.repack) _ e))

as_of_file : (s next : LiveItem) → is_of_file s next ≡ true → OfFile s next
as_of_file s next e =
    let one : (next.tape == s.tape && next.repack == s.repack) ≡ true = and_left (next.tape == s.tape && next.repack == s.repack) _ e in
    record { its_tape = eqb-true _ _ (and_left (next.tape == s.tape) _ one); its_repack = eqb-true _ _ (and_right (next.tape == s.tape) _ one); its_file = eqb-true _ _ (and_right (next.tape == s.tape && next.repack == s.repack) _ e) }

here : (s next : LiveItem) → OfFile s next → is_item s.tape s.repack s.file next.copy next ≡ true
here s next o = and_both _ _ (and_both _ _ (eq-eqb _ _ (sym o.its_tape)) (eq-eqb _ _ (sym o.its_repack))) (and_both _ _ (eq-eqb _ _ (sym o.its_file)) (eq-eqb next.copy next.copy refl))

pub copy_some : (xs : List LiveItem) (s next : LiveItem) → IsSorted item_before xs → Some next ≡ first_from item_before s xs
    → IsFirstFrom (has_item xs s.tape s.repack s.file) s.copy (if (next.tape == s.tape && next.repack == s.repack) && next.file == s.file then Some next.copy else None)
copy_some xs s next sorted e = by (is_of_file s next) refl
  where
    behind : item_before next s ≡ false
    behind = not_yes _ (found (λ y. not (item_before y s)) (λ y. true) xs next e refl).0

    later : (n : ℕ) → has_item xs s.tape s.repack s.file n ≡ true → NotBefore item_before (λ y. not (item_before y s)) (is_item s.tape s.repack s.file n) next
    later n h = least item_before (λ y. not (item_before y s)) (is_item s.tape s.repack s.file n) item_one_way xs next sorted e h

    lower : (n : ℕ) (y : LiveItem) → is_item s.tape s.repack s.file n y ≡ true → not (item_before y s) ≡ false → n < s.copy
    lower n y m f = subst (λ (k : ℕ). k < s.copy) (sym (its_copy s.tape s.repack s.file n y m)) (under s y (of_file s n y m) (not_no _ f))

    same_file : OfFile s next → (n : ℕ) (y : LiveItem) → is_item s.tape s.repack s.file n y ≡ true → item_before y next ≡ false → next.copy ≤ n
    same_file o n y m f =
        let p : OfFile s y = of_file s n y m in
        subst (λ (k : ℕ). next.copy ≤ k) (sym (its_copy s.tape s.repack s.file n y m))
        (not_under next y (record { its_tape = p.its_tape ∙ sym o.its_tape; its_repack = p.its_repack ∙ sym o.its_repack; its_file = p.its_file ∙ sym o.its_file }) f)

    by : (d : Bool) → is_of_file s next ≡ d → IsFirstFrom (has_item xs s.tape s.repack s.file) s.copy (if d then Some next.copy else None)
    by true k = (
      (found (λ y. not (item_before y s)) (is_item s.tape s.repack s.file next.copy) xs next e (here s next (as_of_file s next k))).1,
      not_under s next (as_of_file s next k) behind,
      λ n h low. elim (later n h).where_is [
        | inl f ↦ absurd (let less : n < s.copy = lower n (later n h).one (later n h).passes f in omega arith)
        | inr f ↦ same_file (as_of_file s next k) n (later n h).one (later n h).passes f
      ],
    )
    by false k = λ n h. elim (later n h).where_is [
      | inl f ↦ lower n (later n h).one (later n h).passes f
      | inr f ↦ absurd (clash (beyond s next (later n h).one (of_file s n (later n h).one (later n h).passes) k behind) f)
    ]

pub copy_none : (xs : List LiveItem) (s : LiveItem) → None ≡ first_from item_before s xs → IsFirstFrom (has_item xs s.tape s.repack s.file) s.copy None
copy_none xs s e n h =
    (let m : Passing (λ y. not (item_before y s)) (is_item s.tape s.repack s.file n) = missed (λ y. not (item_before y s)) (is_item s.tape s.repack s.file n) xs e h in
    subst (λ (k : ℕ). k < s.copy) (sym (its_copy s.tape s.repack s.file n m.one m.passes)) (under s m.one (of_file s n m.one m.passes) (not_no _ m.fails)))
