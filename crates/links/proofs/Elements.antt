-- One connection of many is changed.
use Rattle.std.proofs.Common.{◌≡◌, ◌≢◌, ℕ, zero, suc, ◌<◌, List, [], ◌∷◌, ◌++◌, length, arith, subst}
use Rattle.std.specs.Prelude.{Some, Result, Ok, Err, MatchResult, slice_get, slice_set}
use Rattle.std.proofs.lemmas.Grind.{common_steps}
use Rattle.std.proofs.lemmas.Option.{gets, same_Some, none-some}
use Rattle.std.proofs.lemmas.Bool.Decides.{nat_tests}
use Rattle.links.specs.Standing.{behind}

pub behind_same : {A : Type 0} (lists : ℕ → List A) (link : ℕ) (more : List A) → behind lists link more link ≡ lists link ++ more
behind_same lists link more = grind (arith, nat_tests)

pub behind_other : {A : Type 0} (lists : ℕ → List A) (link other : ℕ) (more : List A) → other ≢ link → behind lists link more other ≡ lists other
behind_other lists link other more apart = grind (arith, nat_tests)

pub got_same : {A : Type 0} (xs : List A) (k : ℕ) (x : A) → k < length xs → slice_get (slice_set xs k x) k ≡ Some x
got_same xs k x within = grind (arith, common_steps, gets)

pub got_other : {A : Type 0} (xs : List A) (k j : ℕ) (x : A) → j ≢ k → slice_get (slice_set xs k x) j ≡ slice_get xs j
got_other xs k j x apart = grind (arith, common_steps, gets)

-- what holds of each of a list's and of one more holds of each of the longer list's
pub got_pushed : {A : Type 0} (P : A → Type 0) (xs : List A) (y : A) → ((k : ℕ) (x : A) → slice_get xs k ≡ Some x → P x) → P y
    → (k : ℕ) (x : A) → slice_get (xs ++ y ∷ []) k ≡ Some x → P x
got_pushed P [] y h here zero x is = subst P (same_Some y x is) here
got_pushed P [] y h here (suc k) x is = absurd (none-some x is)
got_pushed P (z ∷ zs) y h here zero x is = h zero x is
got_pushed P (z ∷ zs) y h here (suc k) x is = got_pushed P zs y (λ j w e. h (suc j) w e) here k x is

-- a fact for each of two results, made another
pub each_result : {T E : Type 0} {P Q P' Q' : Type 0} (r : Result T E) → MatchResult r (λ _. P) (λ _. Q) → (P → P') → (Q → Q') → MatchResult r (λ _. P') (λ _. Q')
each_result (Ok x) h f g = f h
each_result (Err e) h f g = g h
