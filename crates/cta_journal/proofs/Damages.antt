-- Where a log can't go on it is at its end.
use Rattle.std.proofs.Common.{◌≡◌, ◌≢◌, inl, inr, ℕ, zero, suc, ◌+◌, ◌^◌, ◌<◌, ◌≤◌, List, [], ◌∷◌, ◌++◌, length, map, refl, sym, ◌∙◌, ap, subst, arith, append_assoc, length-append}
use Rattle.std.specs.Prelude.{All}
use Rattle.std.proofs.lemmas.List.{append-nil}
use Rattle.std.proofs.lemmas.List.Elements.{All-head, All-tail}
use Rattle.cta_journal.specs.Log.{counted, records, EndsShut}
use Rattle.cta_journal.specs.Damage.{CantGoOn, IsDamaged, most_records}
use Rattle.cta_journal.proofs.Records.{counted_same, tail_same, length-counted}

module _ {V : Type 0} (body : V → List ℕ) (fits : V → Type 0) where
  -- where a record stands and a byte behind it, the log goes on
  goes_on : (x : V) (after behind : List ℕ) (count : ℕ) → fits x → 0 < length after → length behind < 2 ^ 64 → behind ≡ counted (body x) ++ after → count < most_records → CantGoOn body fits behind count → ⊥
  goes_on x after behind count fit more low is few (inl none) = none x (fit, (after, is))
  goes_on x after behind count fit more low is few (inr (inl whole)) =
      let last = body whole.0 in
      let both : counted (body x) ++ after ≡ counted last ++ [] = sym is ∙ whole.2 ∙ sym (append-nil (counted last)) in
      let long = ap length both in
      let here = length-counted (body x) after in
      let there = length-counted last [] in
      let all = ap length is in
      let parts = counted_same (body x) last after [] (omega (arith, low, here, all)) (omega (arith, low, here, there, all, long)) both in
      absurd (omega (arith, more, ap length parts.1))
  goes_on x after behind count fit more low is few (inr (inr full)) = absurd (omega (arith, few, full))

  -- where two runs of records stand at the front of one file, one of them up to a place where it can't go on, the other isn't longer, and its gate stands open
  pub not_beyond : (xs ys : List V) (g : ℕ) (r s : List ℕ) (count : ℕ) → All fits xs → length (records (map body xs) ++ g ∷ r) < 2 ^ 64
      → records (map body xs) ++ g ∷ r ≡ records (map body ys) ++ 1 ∷ s → count + length xs ≤ most_records → CantGoOn body fits s (count + length ys) → g ≡ 1
  not_beyond [] [] g r s count fit low same few why = (tail_same g 1 r s same).0
  not_beyond [] (y ∷ ys) g r s count fit low same few why = (tail_same g 1 r ((counted (body y) ++ records (map body ys)) ++ 1 ∷ s) same).0
  not_beyond (x ∷ xs) [] g r s count fit low same few why =
      let after = records (map body xs) ++ g ∷ r in
      let is : s ≡ counted (body x) ++ after = sym (tail_same 1 1 ((counted (body x) ++ records (map body xs)) ++ g ∷ r) s same).1 ∙ append_assoc (counted (body x)) (records (map body xs)) (g ∷ r) in
      absurd (goes_on x after s (count + 0) (All-head fits x xs fit) (omega (arith, length-append (records (map body xs)) (g ∷ r))) (omega (arith, low, ap length same)) is (omega (arith, few)) why)
  not_beyond (x ∷ xs) (y ∷ ys) g r s count fit low same few why =
      let a = body x in
      let b = body y in
      let as_left = append_assoc (counted a) (records (map body xs)) (g ∷ r) in
      let as_right = append_assoc (counted b) (records (map body ys)) (1 ∷ s) in
      let rest = sym as_left ∙ (tail_same 1 1 ((counted a ++ records (map body xs)) ++ g ∷ r) ((counted b ++ records (map body ys)) ++ 1 ∷ s) same).1 ∙ as_right in
      let la = ap length as_left ∙ length-counted a (records (map body xs) ++ g ∷ r) in
      let lb = length-counted b (records (map body ys) ++ 1 ∷ s) in
      let lr = ap length rest in
      let lx = length-counted a (records (map body xs) ++ g ∷ r) in
      let parts = counted_same a b (records (map body xs) ++ g ∷ r) (records (map body ys) ++ 1 ∷ s) (omega (arith, low, la)) (omega (arith, low, la, lb, lr, lx)) rest in
      not_beyond xs ys g r s (suc count) (All-tail fits x xs fit) (omega (arith, low, la)) parts.1 (omega (arith, few)) (subst (λ (n : ℕ). CantGoOn body fits s n) (omega arith) why)

  -- so where a file is damaged, no run of records ends at a closed gate
  pub not_shut : (file : List ℕ) (offset : ℕ) (found : List V) → length file < 2 ^ 64 → All fits found → length found ≤ most_records → EndsShut (map body found) file → IsDamaged body fits file offset → ⊥
  not_shut file offset found low fit few has damaged =
      has.shut (not_beyond found damaged.before has.gate has.rest damaged.behind 0 fit (omega (arith, low, ap length has.split)) (sym has.split ∙ damaged.split) (omega (arith, few)) (subst (λ (n : ℕ). CantGoOn body fits damaged.behind n) (omega arith) damaged.why))

  -- and two runs of records that can't go on end at one place
  same_place : (xs ys : List V) (r s : List ℕ) (count : ℕ) → All fits xs → All fits ys → length (records (map body xs) ++ 1 ∷ r) < 2 ^ 64
      → records (map body xs) ++ 1 ∷ r ≡ records (map body ys) ++ 1 ∷ s → count + length xs ≤ most_records → count + length ys ≤ most_records
      → CantGoOn body fits r (count + length xs) → CantGoOn body fits s (count + length ys) → length (records (map body xs)) ≡ length (records (map body ys))
  same_place [] [] r s count fx fy low same few less wx wy = refl
  same_place [] (y ∷ ys) r s count fx fy low same few less wx wy =
      let after = records (map body ys) ++ 1 ∷ s in
      let is : r ≡ counted (body y) ++ after = (tail_same 1 1 r ((counted (body y) ++ records (map body ys)) ++ 1 ∷ s) same).1 ∙ append_assoc (counted (body y)) (records (map body ys)) (1 ∷ s) in
      absurd (goes_on y after r (count + 0) (All-head fits y ys fy) (omega (arith, length-append (records (map body ys)) (1 ∷ s))) (omega (arith, low)) is (omega (arith, less)) wx)
  same_place (x ∷ xs) [] r s count fx fy low same few less wx wy =
      let after = records (map body xs) ++ 1 ∷ r in
      let is : s ≡ counted (body x) ++ after = sym (tail_same 1 1 ((counted (body x) ++ records (map body xs)) ++ 1 ∷ r) s same).1 ∙ append_assoc (counted (body x)) (records (map body xs)) (1 ∷ r) in
      absurd (goes_on x after s (count + 0) (All-head fits x xs fx) (omega (arith, length-append (records (map body xs)) (1 ∷ r))) (omega (arith, low, ap length same)) is (omega (arith, few)) wy)
  same_place (x ∷ xs) (y ∷ ys) r s count fx fy low same few less wx wy =
      let a = body x in
      let b = body y in
      let as_left = append_assoc (counted a) (records (map body xs)) (1 ∷ r) in
      let as_right = append_assoc (counted b) (records (map body ys)) (1 ∷ s) in
      let rest = sym as_left ∙ (tail_same 1 1 ((counted a ++ records (map body xs)) ++ 1 ∷ r) ((counted b ++ records (map body ys)) ++ 1 ∷ s) same).1 ∙ as_right in
      let la = ap length as_left ∙ length-counted a (records (map body xs) ++ 1 ∷ r) in
      let lb = length-counted b (records (map body ys) ++ 1 ∷ s) in
      let lr = ap length rest in
      let lx = length-counted a (records (map body xs) ++ 1 ∷ r) in
      let parts = counted_same a b (records (map body xs) ++ 1 ∷ r) (records (map body ys) ++ 1 ∷ s) (omega (arith, low, la)) (omega (arith, low, la, lb, lr, lx)) rest in
      let tails = same_place xs ys r s (suc count) (All-tail fits x xs fx) (All-tail fits y ys fy) (omega (arith, low, la)) parts.1 (omega (arith, few)) (omega (arith, less)) (subst (λ (n : ℕ). CantGoOn body fits r n) (omega arith) wx) (subst (λ (n : ℕ). CantGoOn body fits s n) (omega arith) wy) in
      omega (arith, tails, ap length parts.0, length-counted a (records (map body xs)), length-counted b (records (map body ys)))

  pub one_place : (file : List ℕ) (m n : ℕ) → length file < 2 ^ 64 → IsDamaged body fits file m → IsDamaged body fits file n → m ≡ n
  one_place file m n low one two =
      one.at ∙ same_place one.before two.before one.behind two.behind 0 one.fit two.fit (omega (arith, low, ap length one.split)) (sym one.split ∙ two.split) (omega (arith, one.few)) (omega (arith, two.few)) (subst (λ (n : ℕ). CantGoOn body fits one.behind n) (omega arith) one.why) (subst (λ (n : ℕ). CantGoOn body fits two.behind n) (omega arith) two.why) ∙ sym two.at
