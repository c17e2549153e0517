-- Codes of no three digits have no phrase.
use Rattle.std.proofs.Common.{◌≡◌, ℕ, ◌<◌, ◌≤◌, cond, List, Option, Some, None, nat_eq, arith}
use Rattle.std.proofs.lemmas.Bool.{ne_eqb}
use Rattle.http.specs.StatusCode.{IsStatusCode, reason_phrase}

-- the test for a code of three digits fails
past : (n k : ℕ) (phrase : List ℕ) (rest : Option (List ℕ)) → (IsStatusCode n → ⊥) → 100 ≤ k → k < 1000 → rest ≡ None → cond (nat_eq n k) (Some phrase) rest ≡ None
past n k phrase rest outside low high none = rw (ne_eqb n k (λ same. omega arith)) none

-- so each test of the table does
pub no_phrase : (n : ℕ) → (IsStatusCode n → ⊥) → reason_phrase n ≡ None
no_phrase n outside = search (arith, past) depth 80
