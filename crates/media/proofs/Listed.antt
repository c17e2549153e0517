-- Fronts of records.
use Rattle.std.proofs.Common.{◌≡◌, ℕ, ◌+◌, ◌≤◌, zero, suc, List, [], ◌∷◌, ◌++◌, Bool, true, false, refl, sym, subst, ◌∙◌, ap, arith, length, take, map, min}
use Rattle.std.specs.Prelude.{Option, Some, None, MatchOption, Result, Ok, Err, is_ok, not, ◌&&◌, ◌||◌, IfOk}
use Rattle.std.specs.List.{list_any}
use Rattle.blob.specs.declared.sum.Sum256.{Sum256}
use Rattle.blob.specs.Records.{MediumView, TapeRecords}
use Rattle.cta_site.specs.declared.site.CallKind.{CallKind}
use Rattle.cta_site.specs.declared.site.CallKind.TheVariants as kind
use Rattle.media.specs.declared.counts.Counts.{Counts}
use Rattle.media.specs.declared.planned.Planned.{Planned}
use Rattle.media.specs.declared.drive.DeviceErr.{DeviceErr}
use Rattle.media.specs.declared.drive.DeviceErr.TheVariants as err
use Rattle.media.specs.Counted.{count_of, counted}
use Rattle.media.specs.Drives.{DriveView, fault_if, error_of, alters_at, names_call}
use Rattle.media.specs.Memory.{alters_none}
use Rattle.media.specs.Records.{cut, HasFlushed, HasWritten}
use Rattle.media.specs.Reads.{IsReadBy, IsReadOf}

take_none : {A : Type 0} (n : ℕ) (xs : List A) → xs ≡ [] → take n xs ≡ []
take_none zero xs e = refl
take_none (suc n) [] e = refl
take_none (suc n) (x ∷ xs) e = absurd (cc)

pub take_all : {A : Type 0} (n : ℕ) (xs : List A) → length xs ≤ n → take n xs ≡ xs
take_all n [] le = take_none n [] refl
take_all zero (x ∷ xs) le = absurd (omega (arith, le))
take_all (suc n) (x ∷ xs) le = ap (λ ys. x ∷ ys) (take_all n xs (omega (arith, le)))

-- a tape by its fields
tape_at : List Sum256 → ℕ → TapeRecords
tape_at xs s = record { records = xs; safe = s }

same_at : (xs ys : List Sum256) (s r : ℕ) → xs ≡ ys → s ≡ r → tape_at xs s ≡ tape_at ys r
same_at xs ys s r e f = cc

pub same_tape : (xs ys : List Sum256) (s r : ℕ) → xs ≡ ys → s ≡ r → ◌≡◌ {A = TapeRecords} (record { records = xs; safe = s }) (record { records = ys; safe = r })
unfolding tape_at
same_tape xs ys s r e f = same_at xs ys s r e f

-- a medium that tells these records
abbrev telling : ℕ → TapeRecords → MediumView
telling v t = record { label = v; records = Some t }

-- a medium that tells records, whichever way they are written
pub same_medium : (v : ℕ) (xs ys : List Sum256) (s r : ℕ) → xs ≡ ys → s ≡ r
    → ◌≡◌ {A = MediumView} (record { label = v; records = Some (record { records = xs; safe = s }) }) (record { label = v; records = Some (record { records = ys; safe = r }) })
same_medium v xs ys s r e f = ap (telling v) (same_tape xs ys s r e f)

-- all of the records are a front of them
pub uncut : (t : TapeRecords) → t ≡ cut (length t.records + t.safe) t
uncut t = same_tape t.records (take (length t.records + t.safe) t.records) t.safe (min (length t.records + t.safe) t.safe) (sym (take_all (length t.records + t.safe) t.records (omega arith))) (omega arith)

pub uncut_flushed : (v : ℕ) (t : TapeRecords) (r : Result (Unit {0}) DeviceErr) → is_ok r ≡ false → HasFlushed (telling v t) (telling v t) (error_of r)
uncut_flushed v t (Ok x) e = absurd (cc)
uncut_flushed v t (Err e) f = ((λ (u : TapeRecords). length u.records + u.safe), (λ u. omega arith), ap (telling v) (uncut t))

pub uncut_written : (v s : ℕ) (sum : Sum256) (t : TapeRecords) (e : Option DeviceErr) → s ≤ length t.records + 1 → e ≡ fault_if true → HasWritten s sum (telling v t) (telling v t) e
uncut_written v s sum t None le f = absurd (cc)
uncut_written v s sum t (Some err.Fault) le f = ((λ (u : TapeRecords). s + (length u.records + u.safe)), (λ u. omega arith), ap (telling v) (more t))
  where
    more : (t : TapeRecords) → t ≡ cut (s + (length t.records + t.safe)) t
    more t = same_tape t.records (take (s + (length t.records + t.safe)) t.records) t.safe (min (s + (length t.records + t.safe)) t.safe) (sym (take_all (s + (length t.records + t.safe)) t.records (omega arith))) (omega arith)
uncut_written v s sum t (Some err.NoMemory) le f = absurd (cc)

pub option_more : {A : Type 0} (P Q : A → Type 0) (o : Option A) → ((x : A) → P x → Q x) → MatchOption o (Unit {0}) P → MatchOption o (Unit {0}) Q
option_more P Q None f m = tt
option_more P Q (Some x) f m = f x m

or_false : (b c : Bool) → (b || c) ≡ false → (b ≡ false) × (c ≡ false)
or_false true c e = absurd (cc)
or_false false c e = (refl, e)

and_or : (a b c : Bool) → b ≡ false → c ≡ false → ((a && b) || c) ≡ false
and_or true true c e f = absurd (cc)
and_or true false c e f = f
and_or false b c e f = f

-- a plan that alters none alters no read
pub alters_nothing : (k : CallKind) (n : ℕ) (es : List Planned) → list_any (λ (p : Planned). p.alter) es ≡ false → list_any (λ (p : Planned). names_call k n p && p.alter) es ≡ false
alters_nothing k n [] e = refl
alters_nothing k n (p ∷ es) e =
    let w = or_false p.alter (list_any (λ (q : Planned). q.alter) es) e in
    and_or (names_call k n p) p.alter (list_any (λ (q : Planned). names_call k n q && q.alter) es) w.0 (alters_nothing k n es w.1)

pub map_front : {A B : Type 0} (f : A → B) (n : ℕ) (xs : List A) (y : A) (z : B) → f y ≡ z → map f (take n xs ++ y ∷ []) ≡ take n (map f xs) ++ z ∷ []
map_front f zero xs y z e = ap (λ b. b ∷ []) e
map_front f (suc n) [] y z e = ap (λ b. b ∷ []) e
map_front f (suc n) (x ∷ xs) y z e = ap (λ ys. f x ∷ ys) (map_front f n xs y z e)

-- what a read of a medium in memory gives is what the drive is to give
pub read_told : (d : DriveView) (es : List Planned) (made : Counts) (sum : Sum256) (bytes : List ℕ) → d.plan ≡ Some (record { entries = es; made = made }) → d.honest ≡ alters_none es
    → IsReadOf (alters_at kind.Read es made) sum bytes → IsReadBy d sum bytes
read_told d es made sum bytes ep eh is = record {
  honest = λ h. subst (λ b. IsReadOf b sum bytes) (alters_nothing kind.Read (count_of kind.Read (counted kind.Read made)) es (none es (sym eh ∙ h))) is;
  planned = rw ep is;
}
  where
    flip : (b : Bool) → not b ≡ true → b ≡ false
    flip true e = absurd (cc)
    flip false e = refl

    none : (es : List Planned) → alters_none es ≡ true → list_any (λ (p : Planned). p.alter) es ≡ false
    none es h = flip (list_any (λ (p : Planned). p.alter) es) h

-- the same for a medium that may not have the record
pub option_read : {E : Type 0} (d : DriveView) (es : List Planned) (made : Counts) (o : Option Sum256) (r : Result (List ℕ) DeviceErr) (read : Result (List ℕ) E) (alter : Bool) (bytes : List ℕ)
    → d.plan ≡ Some (record { entries = es; made = made }) → d.honest ≡ alters_none es → r ≡ Ok bytes → read ≡ Ok bytes → alter ≡ alters_at kind.Read es made
    → MatchOption o (Unit {0}) (λ sum. IfOk read (IsReadOf alter sum)) → MatchOption o (Unit {0}) (λ sum. IfOk r (IsReadBy d sum))
option_read d es made None r read alter bytes ep eh er ed ea m = tt
option_read d es made (Some sum) r read alter bytes ep eh er ed ea m = rw er (read_told d es made sum bytes ep eh (subst (λ b. IsReadOf b sum bytes) ea (rw ed at m)))
