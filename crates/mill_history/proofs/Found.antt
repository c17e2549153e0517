-- What one more entry changes of what was found of the files.
use Rattle.std.specs.Prelude.{ℕ, zero, suc, ◌≡◌, ◌≢◌, refl, ◌<◌, ◌≤◌, List, [], ◌∷◌, length, Option, Some, None, true, false, slice_get, get_or, set, bytes_eq, replicate, nat_lt, if◌then◌else◌}
use Rattle.std.specs.List.{list_all}
use Rattle.std.proofs.Common.{arith, ap, sym, ◌∙◌, inl, inr}
use Rattle.std.proofs.lemmas.Bool.{false_from_ne_true, true_from_ne_false, false≢true}
use Rattle.std.proofs.lemmas.Bool.Decides.{eqb_tells}
use Rattle.std.proofs.lemmas.Option.{slice_get_cases}
use Rattle.std.proofs.lemmas.List.{get_or-set_same, get_or-set_other, get_or-replicate, length-set, length-replicate}
use Rattle.std.proofs.lemmas.List.Folds.{list_all_at}
use Rattle.std.proofs.lemmas.Slice.Eq.{bytes_eq-Decides}
use Rattle.blob.specs.declared.sum.Sum256.{Sum256}
use Rattle.cta_model.specs.declared.entries.Entry.{Entry}
use Rattle.cta_model.specs.History.{History, next_number}
use Rattle.load_mill.specs.Files.{big_path, file_path}
use Rattle.mill_history.specs.Paths.{IsMillPath}
use Rattle.mill_history.specs.Puts.{put_in, puts_by, puts_of}
use Rattle.mill_history.specs.Found.{AreFound, IsFileNoted, IsPutNoted, put_of}
use Rattle.mill_history.specs.Tallies.{ArePut}
use Rattle.load_mill.proofs.Digits.{digits_tell}

-- a Put of the big path is none of a file
big_put : (p : List ℕ × Sum256) (n k : ℕ) (before : List (ℕ × Sum256)) → p.0 ≡ big_path → puts_by (Some p) n (file_path k) before ≡ before
big_put p n k before e = rw e refl

-- another file's Put is none of this one
other_put : (p : List ℕ × Sum256) (n j k : ℕ) (before : List (ℕ × Sum256)) → j < 1000000 → k < 1000000 → (k ≡ j → ⊥) → p.0 ≡ file_path j → puts_by (Some p) n (file_path k) before ≡ before
other_put p n j k before hj hk other e =
    let differs : bytes_eq p.0 (file_path k) ≡ false = false_from_ne_true (bytes_eq p.0 (file_path k)) (λ same. other (sym (digits_tell j k hj hk (sym e ∙ (bytes_eq-Decides p.0 (file_path k)).0 same)))) in
    rw differs refl

-- a file's Put is one of it
own_put : (p : List ℕ × Sum256) (n k : ℕ) (before : List (ℕ × Sum256)) → p.0 ≡ file_path k → puts_by (Some p) n (file_path k) before ≡ (n, p.1) ∷ before
own_put p n k before e = rw ((bytes_eq-Decides p.0 (file_path k)).1 e) refl

put_of-some : (n : ℕ) (s : Sum256) → 0 < n → put_of n s ≡ (n, s) ∷ []
put_of-some zero s above = absurd (omega arith)
put_of-some (suc n) s above = refl

put_of-none : (n : ℕ) (s : Sum256) → n ≡ 0 → put_of n s ≡ []
put_of-none zero s none = refl
put_of-none (suc n) s none = absurd (omega arith)

not_some : (s : Sum256) → None ≡ Some s → ⊥
not_some s e = cc

-- a place at which there is one is within the list
is_within : (sums : List Sum256) (k : ℕ) (s : Sum256) → slice_get sums k ≡ Some s → k < length sums
is_within sums k s e =
    elim (slice_get_cases sums k).1 [
      | inl there ↦ there.1
      | inr past ↦ absurd (not_some s (sym past.1 ∙ e))
    ]

some_same : (a b : Sum256) (o : Option Sum256) → o ≡ Some a → o ≡ Some b → a ≡ b
some_same a b o x y = cc

-- the Puts of the file k after one more that was noted
noted_put : (p : List ℕ × Sum256) (n k : ℕ) (s : Sum256) (before : List (ℕ × Sum256)) (sums : List Sum256) (old new : List ℕ) → 0 < n → length sums ≤ 1000000 → length old ≡ length sums
    → IsFileNoted old new n p sums → slice_get sums k ≡ Some s → before ≡ put_of (get_or old k 0) s → puts_by (Some p) n (file_path k) before ≡ put_of (get_or new k 0) s
noted_put p n k s before sums old new above few count note at e =
    let within : k < length sums = is_within sums k s at in
    elim (eqb_tells k note.index) [
      | inl same ↦ (
          let here : k ≡ note.index = same.1 in
          let none : before ≡ [] = e ∙ put_of-none (get_or old k 0) s (ap (λ i. get_or old i 0) here ∙ note.was_none) in
          let sum : p.1 ≡ s = some_same p.1 s (slice_get sums k) (ap (slice_get sums) here ∙ note.sum) at in
          let now : get_or new k 0 ≡ n = ap (λ (xs : List ℕ). get_or xs k 0) note.is ∙ (ap (λ i. get_or (set old note.index n) i 0) here ∙ get_or-set_same old note.index n 0 (omega (arith, note.within, count))) in
          own_put p n k before (note.path ∙ ap file_path (sym here)) ∙ (ap (λ (b : List (ℕ × Sum256)). (n, p.1) ∷ b) none ∙ (ap (λ (x : Sum256). (n, x) ∷ []) sum ∙ sym (ap (λ m. put_of m s) now ∙ put_of-some n s above))))
      | inr other ↦ (
          let now : get_or new k 0 ≡ get_or old k 0 = ap (λ (xs : List ℕ). get_or xs k 0) note.is ∙ get_or-set_other old note.index k n 0 other.1 in
          other_put p n note.index k before (omega (arith, note.within)) (omega arith) other.1 note.path ∙ (e ∙ ap (λ m. put_of m s) (sym now)))
    ]

step : (put : Option (List ℕ × Sum256)) (n k : ℕ) (s : Sum256) (before : List (ℕ × Sum256)) (sums : List Sum256) (old new : List ℕ) → 0 < n → length sums ≤ 1000000 → length old ≡ length sums
    → IsPutNoted old new n put sums → slice_get sums k ≡ Some s → before ≡ put_of (get_or old k 0) s → puts_by put n (file_path k) before ≡ put_of (get_or new k 0) s
step None n k s before sums old new above few count note at e = e ∙ ap (λ (xs : List ℕ). put_of (get_or xs k 0) s) (sym note)
step (Some p) n k s before sums old new above few count (inl big) at e = big_put p n k before ((bytes_eq-Decides p.0 big_path).0 big.1) ∙ (e ∙ ap (λ (xs : List ℕ). put_of (get_or xs k 0) s) (sym big.0))
step (Some p) n k s before sums old new above few count (inr file) at e = noted_put p n k s before sums old new above few count file at e

-- as many are kept
kept_count : (put : Option (List ℕ × Sum256)) (n : ℕ) (sums : List Sum256) (old new : List ℕ) → IsPutNoted old new n put sums → length new ≡ length old
kept_count None n sums old new note = ap (length {A = ℕ}) note
kept_count (Some p) n sums old new (inl big) = ap (length {A = ℕ}) big.0
kept_count (Some p) n sums old new (inr file) = ap (length {A = ℕ}) file.is ∙ length-set old file.index n

-- the path of a Put that was noted is one of the mill's
own_path : (p : List ℕ × Sum256) (n : ℕ) (path : List ℕ) (sums : List Sum256) (old new : List ℕ) → IsPutNoted old new n (Some p) sums → p.0 ≡ path → IsMillPath path (length sums)
own_path p n path sums old new (inl big) same = inl (sym same ∙ (bytes_eq-Decides p.0 big_path).0 big.1)
own_path p n path sums old new (inr file) same = inr (file.index, file.within, sym same ∙ file.path)

next_path : (put : Option (List ℕ × Sum256)) (n : ℕ) (path : List ℕ) (before : List (ℕ × Sum256)) (sums : List Sum256) (old new : List ℕ) → IsPutNoted old new n put sums → puts_by put n path before ≢ [] → (before ≢ [] → IsMillPath path (length sums)) → IsMillPath path (length sums)
next_path None n path before sums old new note some earlier = earlier some
next_path (Some p) n path before sums old new note some earlier =
    elim (bytes_eq p.0 path) as (λ b. bytes_eq p.0 path ≡ b → (if b then (n, p.1) ∷ before else before) ≢ [] → IsMillPath path (length sums)) [
      | true ↦ λ same found. own_path p n path sums old new note ((bytes_eq-Decides p.0 path).0 same)
      | false ↦ λ differs found. earlier found
    ] refl some

-- a Put of the big file is noted where nothing changes
pub big_noted : (old : List ℕ) (n : ℕ) (path : List ℕ) (s : Sum256) (sums : List Sum256) → bytes_eq path big_path ≡ true → IsPutNoted old old n (Some (path, s)) sums
big_noted old n path s sums big = inl (refl, big)

-- a Put of a file is noted where its number is written at its place
pub file_noted : (old : List ℕ) (n k : ℕ) (path : List ℕ) (s : Sum256) (sums : List Sum256) → path ≡ file_path k → k < length sums → slice_get sums k ≡ Some s → get_or old k 0 ≡ 0
    → IsPutNoted old (set old k n) n (Some (path, s)) sums
file_noted old n k path s sums named within at none = inr (record { index = k; path = named; within = within; sum = at; was_none = none; is = refl })

-- what was found before an entry is found behind it, where what it puts was noted
pub found_next : (e : Entry) (h : History) (sums : List Sum256) (old new : List ℕ) → length sums ≤ 1000000 → IsPutNoted old new (next_number h) (put_in e.ask) sums → AreFound h sums old → AreFound (e ∷ h) sums new
found_next e h sums old new few note found = record {
  count = kept_count (put_in e.ask) (next_number h) sums old new note ∙ found.count;
  puts = λ k s at. step (put_in e.ask) (next_number h) k s (puts_of h (file_path k)) sums old new (omega arith) few found.count note at (found.puts k s at);
  others = λ path some. next_path (put_in e.ask) (next_number h) path (puts_of h path) sums old new note some (found.others path);
}

-- at first nothing is found
pub found_none : (sums : List Sum256) → AreFound [] sums (replicate (length sums) 0)
found_none sums = record {
  count = length-replicate (length sums) 0;
  puts = λ k s at. sym (put_of-none (get_or (replicate (length sums) 0) k 0) s (get_or-replicate (length sums) k 0 0 (is_within sums k s at)));
  others = λ path some. absurd (some refl);
}

-- each number above 0
above_zero : (numbers : List ℕ) (k : ℕ) → list_all (λ n. nat_lt 0 n) numbers ≡ true → k < length numbers → nat_lt 0 (get_or numbers k 0) ≡ true
above_zero numbers k all within = true_from_ne_false (nat_lt 0 (get_or numbers k 0)) (λ not_above. false≢true (sym (list_all_at (λ n. nat_lt 0 n) numbers k 0 within not_above) ∙ all))

-- where all were found, each was put once
pub found_all : (h : History) (sums : List Sum256) (numbers : List ℕ) → list_all (λ n. nat_lt 0 n) numbers ≡ true → AreFound h sums numbers → ArePut h sums numbers
found_all h sums numbers all found = record {
  count = found.count;
  others = found.others;
  puts = λ k s at.
      let within : k < length numbers = omega (arith, is_within sums k s at, found.count) in
      found.puts k s at ∙ put_of-some (get_or numbers k 0) s (grind (arith, above_zero numbers k all within));
}
