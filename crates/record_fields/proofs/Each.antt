-- Values one behind the other: one more behind them, and the first of those that are ahead.
use Rattle.std.proofs.Common.{◌≡◌, ◌++◌, ◌+◌, ◌<◌, List, [], ◌∷◌, ℕ, length, drop, refl, ap, zero, suc, add-one, arith}
use Rattle.std.specs.List.{AllByRecursion}
use Rattle.record_fields.specs.Lists.{each_before}

pub all_more : {V : Type 0} (fits : V → Type 0) (xs : List V) (x : V) → AllByRecursion fits xs → fits x → AllByRecursion fits (xs ++ x ∷ [])
all_more fits [] x all fit = (fit, tt)
all_more fits (y ∷ ys) x all fit = (all.0, all_more fits ys x all.1 fit)

pub each_more : {V : Type 0} (before : V → List ℕ → List ℕ) (xs : List V) (x : V) (rest : List ℕ) → each_before before (xs ++ x ∷ []) rest ≡ each_before before xs (before x rest)
each_more before [] x rest = refl
each_more before (y ∷ ys) x rest = ap (before y) (each_more before ys x rest)

-- the value at a place of the list, with what is behind it
abbrev pub HasAhead : {V : Type 0} → (V → Type 0) → List V → ℕ → ℕ → Type 0
HasAhead {V} fits vs i j = (v : V) × fits v × (drop i vs ≡ v ∷ drop j vs)

ahead_suc : {V : Type 0} (fits : V → Type 0) (vs : List V) (i : ℕ) → i < length vs → AllByRecursion fits vs → HasAhead fits vs i (suc i)
ahead_suc fits [] i l all = absurd (omega (arith, l))
ahead_suc fits (v ∷ vs) zero l all = (v, all.0, refl)
ahead_suc fits (v ∷ vs) (suc i) l all = ahead_suc fits vs i (omega (arith, l)) all.1

pub ahead : {V : Type 0} (fits : V → Type 0) (vs : List V) (i : ℕ) → i < length vs → AllByRecursion fits vs → HasAhead fits vs i (i + 1)
ahead fits vs i l all = rw (add-one i) (ahead_suc fits vs i l all)
