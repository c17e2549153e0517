-- What calls of a drive leave true.
use Rattle.std.proofs.Common.{◌≡◌, ℕ, ◌+◌, ◌-◌, ◌≤◌, zero, suc, List, [], ◌∷◌, ◌++◌, true, ap, ◌∙◌, subst, arith, length, length-append, length-take, take}
use Rattle.std.specs.Prelude.{Option, Some, None, Ok, option_map, IfSome, IsSome, slice_get}
use Rattle.blob.specs.declared.sum.Sum256.{Sum256}
use Rattle.blob.specs.Records.{MediumView, TapeRecords, with_records}
use Rattle.cta_model.specs.declared.asks.Item.{Item}
use Rattle.cta_model.specs.History.{History}
use Rattle.cta_model.specs.Tapes.{tape_items}
use Rattle.media.specs.Drives.{DriveView}
use Rattle.media.specs.Records.{cut, written, flushed, unloaded, IsCut, MayWrite}
use Rattle.cta_model.specs.Media.{IsMediumOf, IsTrueMedium}
use Rattle.media.specs.Reads.{HasRead, HasSafe, IsReadBy, MayRead, record_at}
use Rattle.drive_session.specs.Records.{AreRecorded, AreNumbered, AreWritten, AreFlushed, AreSafe}
use Rattle.drive_session.proofs.Lists.{get_take, get_front, get_last, take_next, take_all}

-- what holds of the records holds after a change of them
pub told_map : (P Q : TapeRecords → Type 0) (f : TapeRecords → TapeRecords) (old new : Option TapeRecords) → new ≡ option_map f old → ((t : TapeRecords) → P t → Q (f t)) → IfSome old P → IfSome new Q
told_map P Q f None new e step p = rw e tt
told_map P Q f (Some t) new e step p = rw e (step t p)

-- a medium stays that of its tape, and true, through a change of its records that keeps the truth
pub medium_map : (h : History) (v : ℕ) (f : TapeRecords → TapeRecords) (old new : MediumView) → new ≡ with_records f old → ((t : TapeRecords) → IsTrueMedium h v t → IsTrueMedium h v (f t)) → IsMediumOf h v old → IsMediumOf h v new
medium_map h v f old new e step is = record {
  label = ap (λ (m : MediumView). m.label) e ∙ is.label;
  truth = told_map (IsTrueMedium h v) (IsTrueMedium h v) f old.records new.records (ap (λ (m : MediumView). m.records) e) step is.truth;
}

pub true_cut : (h : History) (v : ℕ) (t : TapeRecords) (n : ℕ) → length (tape_items h v) ≤ n → IsTrueMedium h v t → IsTrueMedium h v (cut n t)
true_cut h v t n le is = record {
  within = rw (length-take n t.records) (let w = is.within in omega (arith, w));
  enough = (let w = is.enough in omega (arith, w, le));
  named = λ f c p on there.
      (let w = is.named f c p on there in
      (w.0, w.1, get_take t.records n (p.fseq - 1) _ (let a = w.0 in let b = w.1 in omega (arith, a, b, le)) w.2));
}

pub true_flushed : (h : History) (v : ℕ) (t : TapeRecords) → IsTrueMedium h v t → IsTrueMedium h v (flushed t)
true_flushed h v t is = record { within = omega arith; enough = (let w = is.within in let u = is.enough in omega (arith, w, u)); named = is.named }

pub true_unloaded : (h : History) (v : ℕ) (t : TapeRecords) → IsTrueMedium h v t → IsTrueMedium h v (unloaded t)
true_unloaded h v t is = true_cut h v t t.safe is.enough is

pub true_written : (h : History) (v : ℕ) (t : TapeRecords) (s : ℕ) (sum : Sum256) → length (tape_items h v) + 1 ≤ s → s ≤ length t.records + 1 → IsTrueMedium h v t → IsTrueMedium h v (written s sum t)
true_written h v t s sum low high is = record {
  within = (let w = is.within in let n = length-append (take (s - 1) t.records) (sum ∷ []) in let k = length-take (s - 1) t.records in omega (arith, w, n, k));
  enough = (let w = is.enough in omega (arith, w, low));
  named = λ f c p on there.
      (let w = is.named f c p on there in
      (w.0, w.1, get_front (take (s - 1) t.records) (sum ∷ []) (p.fseq - 1) _ (get_take t.records (s - 1) (p.fseq - 1) _ (let a = w.0 in let b = w.1 in omega (arith, a, b, low)) w.2)));
}

pub numbered_at : (n : ℕ) (items : List Item) (k : ℕ) (i : Item) → AreNumbered n items → slice_get items k ≡ Some i → i.fseq ≡ n + k
numbered_at n [] k i num e = absurd (cc)
numbered_at n (x ∷ items) zero i num e = (let same : x.fseq ≡ i.fseq = fseq_of x i e in let w = num.0 in omega (arith, same, w))
  where
    fseq_of : (x i : Item) → Some x ≡ Some i → x.fseq ≡ i.fseq
    fseq_of x i e = cc
numbered_at n (x ∷ items) (suc k) i num e = (let w = numbered_at (n + 1) items k i num.1 e in omega (arith, w))

-- records of items below a place stay when those from there on change
pub recorded_kept : (r : List Sum256) (y : Sum256) (n first : ℕ) (items : List Item) → AreNumbered (first + 1) items → first + length items ≤ n → AreRecorded r items → AreRecorded (take n r ++ y ∷ []) items
recorded_kept r y n first [] num le all = tt
recorded_kept r y n first (i ∷ items) num le all =
    (get_front (take n r) (y ∷ []) (i.fseq - 1) _ (get_take r n (i.fseq - 1) _ (let w = num.0 in omega (arith, w, le)) all.0), recorded_kept r y n (first + 1) items num.1 (omega (arith, le)) all.1)

pub recorded_more : (r : List Sum256) (items : List Item) (i : Item) → AreRecorded r items → slice_get r (i.fseq - 1) ≡ Some i.sum → AreRecorded r (items ++ i ∷ [])
recorded_more r [] i all e = (e, tt)
recorded_more r (x ∷ items) i all e = (all.0, recorded_more r items i all.1 e)

pub numbered_front : (n k : ℕ) (items : List Item) → AreNumbered n items → AreNumbered n (take k items)
numbered_front n zero items num = tt
numbered_front n (suc k) [] num = tt
numbered_front n (suc k) (x ∷ items) num = (num.0, numbered_front (n + 1) k items num.1)

pub more_written : (before : ℕ) (items : List Item) (at : ℕ) (i : Item) (t : TapeRecords) → AreNumbered (before + 1) items → slice_get items at ≡ Some i → AreWritten before items at t → AreWritten before items (at + 1) (written i.fseq i.sum t)
more_written before items at i t num e is =
    let w : i.fseq ≡ before + 1 + at = numbered_at (before + 1) items at i num e in
    let k = length-take (i.fseq - 1) t.records in
    let long = is.long in
    record {
      long = (let n = length-append (take (i.fseq - 1) t.records) (i.sum ∷ []) in omega (arith, n, k, w, long));
      recorded = rw (take_next items at i e)
          (recorded_more _ (take at items) i
          (recorded_kept t.records i.sum (i.fseq - 1) before (take at items) (numbered_front (before + 1) at items num) (let m = length-take at items in omega (arith, w, m)) is.recorded)
          (get_last (take (i.fseq - 1) t.records) (i.fseq - 1) i.sum (omega (arith, k, w, long))));
    }

pub may_write : (before : ℕ) (items : List Item) (at : ℕ) (i : Item) (m : MediumView) → AreNumbered (before + 1) items → slice_get items at ≡ Some i → IfSome m.records (AreWritten before items at) → MayWrite i.fseq m
may_write before items at i m num e is = by m.records is
  where
    by : (o : Option TapeRecords) → IfSome o (AreWritten before items at) → (1 ≤ i.fseq) × IfSome o (λ t. i.fseq ≤ length t.records + 1)
    by None is = ((let w = numbered_at (before + 1) items at i num e in omega (arith, w)), tt)
    by (Some t) is = (let w = numbered_at (before + 1) items at i num e in let long = is.long in (omega (arith, w), omega (arith, w, long)))

-- a cut keeps the truth
pub true_less : (h : History) (v : ℕ) (least : TapeRecords → ℕ) (old new : MediumView) → ((t : TapeRecords) → IsTrueMedium h v t → length (tape_items h v) ≤ least t) → IsCut least old new → IsMediumOf h v old → IsMediumOf h v new
true_less h v least old new low cuts is = medium_map h v (λ t. cut (cuts.0 t) t) old new cuts.2 (λ t was. true_cut h v t (cuts.0 t) (let a = low t was in let b = cuts.1 t in omega (arith, a, b)) was) is

-- after a flush of all items each has a safe record
pub all_flushed : (before : ℕ) (items : List Item) (t : TapeRecords) → AreWritten before items (length items) t → AreFlushed before items (flushed t)
all_flushed before items t is = record { long = is.long; within = omega arith; recorded = subst (λ xs. AreRecorded t.records xs) (take_all (length items) items (omega arith)) is.recorded }

pub flushed_safe : (before : ℕ) (items : List Item) (t : TapeRecords) → AreNumbered (before + 1) items → AreFlushed before items t → AreSafe t items
flushed_safe before [] t num is = tt
flushed_safe before (i ∷ items) t num is =
    let n = num.0 in let long = is.long in let w = is.within in (
      record { from = omega (arith, n); safe = omega (arith, n, long); there = omega (arith, n, long, w) },
      is.recorded.0,
      flushed_safe (before + 1) items t num.1 (record { long = omega (arith, long); within = w; recorded = is.recorded.1 }),
    )

-- ---- reads

pub may_read : (m : MediumView) (i : Item) (rest all : List Item) → all ≡ i ∷ rest → IfSome m.records (λ t. AreSafe t all) → MayRead i.fseq m
may_read m i rest all e is = by m.records is
  where
    by : (o : Option TapeRecords) → IfSome o (λ t. AreSafe t all) → IfSome o (HasSafe i.fseq)
    by None is = tt
    by (Some t) is = (rw e at is).0

-- what is read at the place of an item is what the drive gives of the item's record
pub read_of : (d : DriveView) (m : MediumView) (i : Item) (rest all : List Item) (bytes : List ℕ) → all ≡ i ∷ rest → IfSome m.records (λ t. AreSafe t all) → HasRead d m i.fseq (Ok bytes) → IsSome m.records → IsReadBy d i.sum bytes
read_of d m i rest all bytes e is given tells = by m.records is given tells
  where
    by : (o : Option TapeRecords) → IfSome o (λ t. AreSafe t all) → IfSome o (λ t. IfSome (record_at t i.fseq) (λ sum. IsReadBy d sum bytes)) → IsSome o → IsReadBy d i.sum bytes
    by None is given tells = absurd (cc)
    by (Some t) is given tells = (let w = rw e at is in rw w.1 at given)
