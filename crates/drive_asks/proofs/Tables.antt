-- Items that are put on tape, one by one.
use Rattle.std.proofs.Common.{◌≡◌, ◌∙◌, ◌+◌, ◌<◌, ℕ, zero, suc, List, [], ◌∷◌, ◌++◌, length, Bool, true, false, refl, sym, ap, subst, arith, take}
use Rattle.std.specs.Prelude.{if◌then◌else◌, ◌==◌, get_or}
use Rattle.std.proofs.lemmas.Bool.{eq-eqb}
use Rattle.std.proofs.lemmas.List.{map-append, take_more}
use Rattle.cta_model.specs.declared.asks.Fate.{Fate}
use Rattle.cta_model.specs.declared.asks.Item.{Item}
use Rattle.part_model.specs.declared.space.TapeRow.{TapeRow}
use Rattle.part_model.specs.JobRows.{JobRows}
use Rattle.part_model.specs.Tapes.{HasFlushed, HaveFlushed, Table, row_in}
use Rattle.part_laws.specs.Sessions.{fate_told}
use Rattle.drive_asks.specs.Items.{AreOfCopies, IsOfCopy, with_fates}

-- ---- calls of the table

-- calls for items, and then for one more, are calls for all of them
pub have_more : (tape : ℕ) (xs : List (Item × Fate)) (x : Item × Fate) (v u w : Table) → HaveFlushed tape xs v u → HasFlushed tape x u w → HaveFlushed tape (xs ++ x ∷ []) v w
unfolding HaveFlushed
have_more tape [] x v u w same call = (w, subst (λ (y : Table). HasFlushed tape x y w) (sym same) call, refl)
have_more tape (y ∷ ys) x v u w calls call = (calls.0, calls.1, have_more tape ys x calls.0 u w calls.2 call)

pub have_none : (tape : ℕ) (v : Table) → HaveFlushed tape [] v v
unfolding HaveFlushed
have_none tape v = refl

-- a call counts one fSeq more
pub next_more : (tape : ℕ) (x : Item × Fate) (u w : Table) → HasFlushed tape x u w → (row_in w tape).next ≡ (row_in u tape).next + 1
next_more tape x u w call = ap (λ (r : TapeRow). r.next) (call.rows tape) ∙ by (tape == tape) (eq-eqb tape tape refl)
  where
    by : (b : Bool) → b ≡ true → TapeRow.next (if b then record (row_in u tape) { next = (row_in u tape).next + 1 } else row_in u tape) ≡ (row_in u tape).next + 1
    by true e = refl
    by false e = absurd (cc)

-- ---- the items of a loop

pub fates_more : (v : JobRows) (items : List Item) (k : ℕ) (d : Item) → k < length items → with_fates v (take (k + 1) items) ≡ with_fates v (take k items) ++ (get_or items k d, fate_told v (get_or items k d).job) ∷ []
fates_more v items k d low = ap (with_fates v) (take_more items k d low) ∙ map-append (λ (i : Item). (i, fate_told v i.job)) (take k items) (get_or items k d ∷ [])

-- one call more of a loop
pub put_more : (tape k : ℕ) (v : JobRows) (items : List Item) (d : Item) (s : Fate) (a b c : Table) → k < length items → HaveFlushed tape (with_fates v (take k items)) a b → s ≡ fate_told v (get_or items k d).job
    → HasFlushed tape (get_or items k d, s) b c → HaveFlushed tape (with_fates v (take (k + 1) items)) a c
put_more tape k v items d s a b c low calls is call =
    subst (λ (xs : List (Item × Fate)). HaveFlushed tape xs a c) (sym (fates_more v items k d low))
    (have_more tape (with_fates v (take k items)) _ a b c calls (subst (λ (x : Fate). HasFlushed tape (get_or items k d, x) b c) is call))

-- each of the items is of a copy
pub copy_at : (items : List Item) (k : ℕ) (d : Item) → AreOfCopies items → k < length items → IsOfCopy (get_or items k d)
copy_at [] k d all low = absurd (omega arith)
copy_at (i ∷ items) zero d all low = all.0
copy_at (i ∷ items) (suc k) d all low = copy_at items k d all.1 (omega arith)
