-- What calls of a disk come to, one after the other.
use Rattle.std.proofs.Common.{◌≡◌, ◌≤◌, ◌<◌, ◌+◌, ◌-◌, ℕ, zero, suc, List, [], ◌∷◌, ◌++◌, Bool, true, false, refl, sym, ap, subst, ◌∙◌, arith, append_assoc}
use Rattle.std.specs.Prelude.{Option, Some, None}
use Rattle.std.specs.List.{AllByRecursion}
use Rattle.file_media.specs.Disks.{DiskCall, Put, Renamed, Removed, after, after_call}
use Rattle.file_media.specs.Calls.{IsOfWrite, PutsRecord, RemovesFrom, WritesRecord, removed, whole_write}
use Rattle.file_media.specs.Names.{part_name, record_name}

-- newer calls behind older ones
pub after_after : (a b : List DiskCall) (o : Option (List DiskCall)) → after a (after b o) ≡ after (a ++ b) o
after_after a b None = refl
after_after a b (Some x) = ap Some (sym (append_assoc a b x))

pub after_none : (o : Option (List DiskCall)) → o ≡ after [] o
after_none None = refl
after_none (Some x) = refl

all_append : (P : DiskCall → Type 0) (a b : List DiskCall) → AllByRecursion P a → AllByRecursion P b → AllByRecursion P (a ++ b)
all_append P [] b p q = q
all_append P (x ∷ a) b p q = (p.0, all_append P a b p.1 q)

same_removed : (vid : List ℕ) (a b j k : ℕ) → a ≡ b → j ≡ k → removed vid a j ≡ removed vid b k
same_removed vid a b j k e f = cc

-- each of the records that are dropped is one from s to n
removed_own : (vid : List ℕ) (s n a k : ℕ) → s ≤ a → a + k ≤ n + 1 → AllByRecursion (IsOfWrite vid s n) (removed vid a k)
removed_own vid s n a zero le within = tt
removed_own vid s n a (suc k) le within = ((a, (le, omega arith, refl)), removed_own vid s n (suc a) k (omega arith) (omega arith))

-- nothing is dropped yet
pub removed_start : (vid : List ℕ) (n : ℕ) (o : Option (List DiskCall)) → o ≡ after (removed vid (suc n) (n - n)) o
removed_start vid n o = after_none o ∙ ap (λ l. after l o) (same_removed vid (suc n) (suc n) 0 (n - n) refl (omega arith))

-- the last record is dropped
pub removed_more : (vid name : List ℕ) (w n : ℕ) (o p q : Option (List DiskCall)) → 1 ≤ w → w ≤ n → name ≡ record_name vid w
    → p ≡ after (removed vid (suc w) (n - w)) o → q ≡ after_call (Removed name true) p → q ≡ after (removed vid (suc (w - 1)) (n - (w - 1))) o
removed_more vid name w n o p q from to is before now =
    let more = Removed name true ∷ removed vid (suc w) (n - w) in
    let named : more ≡ removed vid w (suc (n - w)) = ap (λ m. Removed m true ∷ removed vid (suc w) (n - w)) is in
    now ∙ ap (after_call (Removed name true)) before ∙ after_after (Removed name true ∷ []) (removed vid (suc w) (n - w)) o
    ∙ ap (λ l. after l o) (named ∙ same_removed vid w (suc (w - 1)) (suc (n - w)) (n - (w - 1)) (omega arith) (omega arith))

-- a record can't be dropped
pub removed_failed : (vid name : List ℕ) (s w n : ℕ) (o p q : Option (List DiskCall)) → s ≤ w → w ≤ n → name ≡ record_name vid w
    → p ≡ after (removed vid (suc w) (n - w)) o → q ≡ after_call (Removed name false) p → RemovesFrom vid s n o q false
removed_failed vid name s w n o p q from to is before now = record {
  calls = Removed name false ∷ removed vid (suc w) (n - w);
  done = now ∙ ap (after_call (Removed name false)) before ∙ after_after (Removed name false ∷ []) (removed vid (suc w) (n - w)) o;
  own = ((w, (from, to, is)), removed_own vid s n (suc w) (n - w) (omega arith) (omega arith));
  whole = λ e. absurd (cc);
}

-- all were dropped
pub removed_all : (vid : List ℕ) (s w n : ℕ) (o p : Option (List DiskCall)) → w < s → s ≤ w + 1 → w ≤ n → p ≡ after (removed vid (suc w) (n - w)) o → RemovesFrom vid s n o p true
removed_all vid s w n o p below from to before = record {
  calls = removed vid (suc w) (n - w);
  done = before;
  own = removed_own vid s n (suc w) (n - w) (omega arith) (omega arith);
  whole = λ e. same_removed vid (suc w) s (n - w) (n + 1 - s) (omega arith) (omega arith);
}

-- what was put can't get its name, or gets it
pub put_then : (vid bytes part again name : List ℕ) (s : ℕ) (ok : Bool) (o p q : Option (List DiskCall)) → part ≡ part_name vid s → again ≡ part_name vid s → name ≡ record_name vid s
    → p ≡ after_call (Put part bytes true) o → q ≡ after_call (Renamed again name ok) p → PutsRecord vid s bytes o q ok
put_then vid bytes part again name s ok o p q ep ea en before now = record {
  calls = Renamed again name ok ∷ Put part bytes true ∷ [];
  done = now ∙ ap (after_call (Renamed again name ok)) before ∙ after_after (Renamed again name ok ∷ []) (Put part bytes true ∷ []) o;
  own = λ n. ((ea, en), (ep, tt));
  whole = λ e. cc;
}

pub put_failed : (vid bytes part : List ℕ) (s : ℕ) (o p : Option (List DiskCall)) → part ≡ part_name vid s → p ≡ after_call (Put part bytes false) o → PutsRecord vid s bytes o p false
put_failed vid bytes part s o p ep now = record { calls = Put part bytes false ∷ []; done = now; own = λ n. (ep, tt); whole = λ e. absurd (cc) }

-- a write that does nothing
pub written_none : (vid bytes : List ℕ) (s n : ℕ) (o : Option (List DiskCall)) → WritesRecord vid s n bytes o o false
written_none vid bytes s n o = record { calls = []; done = after_none o; own = tt; whole = λ e. absurd (cc) }

-- a write that drops some
pub written_cut : (vid bytes : List ℕ) (s n : ℕ) (o p : Option (List DiskCall)) → RemovesFrom vid s n o p false → WritesRecord vid s n bytes o p false
written_cut vid bytes s n o p r = record { calls = r.calls; done = r.done; own = r.own; whole = λ e. absurd (cc) }

same_write : (vid bytes : List ℕ) (s n : ℕ) (a b : List DiskCall) → a ≡ Renamed (part_name vid s) (record_name vid s) true ∷ Put (part_name vid s) bytes true ∷ [] → b ≡ removed vid s (n + 1 - s) → a ++ b ≡ whole_write vid s n bytes
same_write vid bytes s n a b e f = rw (e, f) refl

-- a write that drops what it has to, and then puts the record, or not
pub written_put : (vid bytes : List ℕ) (s n : ℕ) (ok : Bool) (o p q : Option (List DiskCall)) → RemovesFrom vid s n o p true → PutsRecord vid s bytes p q ok → WritesRecord vid s n bytes o q ok
written_put vid bytes s n ok o p q r w = record {
  calls = w.calls ++ r.calls;
  done = w.done ∙ ap (after w.calls) r.done ∙ after_after w.calls r.calls o;
  own = all_append (IsOfWrite vid s n) w.calls r.calls (w.own n) r.own;
  whole = λ e. same_write vid bytes s n w.calls r.calls (w.whole e) (r.whole refl);
}

-- an answer that is not Ok
pub fails_as : (vid : List ℕ) (s n : ℕ) (o p : Option (List DiskCall)) (ok : Bool) → ok ≡ false → RemovesFrom vid s n o p false → RemovesFrom vid s n o p ok
fails_as vid s n o p ok e r = rw (sym e) at r

pub written_as : (vid bytes : List ℕ) (s n : ℕ) (o p : Option (List DiskCall)) (ok : Bool) → ok ≡ false → WritesRecord vid s n bytes o p false → WritesRecord vid s n bytes o p ok
written_as vid bytes s n o p ok e r = rw (sym e) at r

-- the same where the medium that was cut has the same VID
pub written_after : (vid v bytes : List ℕ) (s n : ℕ) (ok : Bool) (o p q : Option (List DiskCall)) → v ≡ vid → RemovesFrom vid s n o p true → PutsRecord v s bytes p q ok → WritesRecord vid s n bytes o q ok
written_after vid v bytes s n ok o p q e r w = written_put vid bytes s n ok o p q r (subst (λ u. PutsRecord u s bytes p q ok) e w)
