-- No two routes of the table conflict, so a router takes each of them.
use Rattle.std.proofs.Common.{◌≡◌, ℕ, zero, suc, ◌+◌, ◌<◌, Bool, true, false, cond, not, ◌&&◌, List, [], ◌∷◌, None, refl, sym, ap, ◌∙◌, arith, true≢false, get_or, below_more}
use Rattle.matchit.specs.Conflict.{conflicts}
use Rattle.matchit.specs.Order.{common_len, placed}
use Rattle.matchit.specs.Rows.{RowsOf, comes_before}
use Rattle.matchit.specs.Router.{RouteOf, nearest, nearest_from, nearer}
use Rattle.tape_routes.specs.declared.routes.Endpoint.{Endpoint}
use Rattle.tape_routes.specs.declared.routes.Endpoint.TheVariants as at
use Rattle.tape_routes.specs.declared.routes.TheConstants.{ENDPOINTS}
use Rattle.tape_routes.specs.Router.{HasOneMore, StandsApart}
use Rattle.tape_routes.proofs.Walks.{both, AllRows}
use Rattle.tape_routes.proofs.Finding.{pattern_at, AreLed}

-- the pattern of the route that is added at this place
abbrev added_at : ℕ → List ℕ
added_at k = pattern_at (get_or ENDPOINTS k at.WellKnown)

-- a pattern conflicts with none of the first of the table
abbrev clears : ℕ → ℕ → Bool
clears k zero = true
clears k (suc n) = not (conflicts (added_at k) (added_at n)) && clears k n

-- each of the first conflicts with none before it
abbrev all_clear : ℕ → Bool
all_clear zero = true
all_clear (suc k) = clears k k && all_clear k

table_is_clear : all_clear 17 ≡ true
table_is_clear = refl

-- each row leads to one of the first so many endpoints of the table
abbrev pub AreAmong : ℕ → RowsOf (RouteOf Endpoint) → Type 0
AreAmong n [] = Unit {0}
AreAmong n (x ∷ rs) = ((k : ℕ) × (k < n) × (x.1.value ≡ get_or ENDPOINTS k at.WellKnown)) × AreAmong n rs

among_later : (n : ℕ) (rs : RowsOf (RouteOf Endpoint)) → AreAmong n rs → AreAmong (n + 1) rs
among_later n [] h = tt
among_later n (x ∷ rs) h = ((h.0.0, omega arith, h.0.2), among_later n rs h.1)

among_placed : (n : ℕ) (r : List ℕ × RouteOf Endpoint) (rs : RowsOf (RouteOf Endpoint)) → (k : ℕ) × (k < n) × (r.1.value ≡ get_or ENDPOINTS k at.WellKnown) → AreAmong n rs → AreAmong n (placed r rs)
among_placed n r [] e h = (e, tt)
among_placed n r (x ∷ rs) e h =
    elim (comes_before r.0 x.0) as (λ v. AreAmong n (cond v (r ∷ x ∷ rs) (x ∷ placed r rs))) [
      | true ↦ (e, h)
      | false ↦ (h.0, among_placed n r rs e h.1)
    ]

-- one more row
pub among_more : (n : ℕ) (old new : RowsOf (RouteOf Endpoint)) → HasOneMore (get_or ENDPOINTS n at.WellKnown) old new → AreAmong n old → AreAmong (n + 1) new
among_more n old new more h =
    rw more.2 (among_placed (n + 1) (more.0.pattern, more.0) old (n, omega arith, ap (λ (x : Endpoint × List ℕ × ℕ). x.0) more.1) (among_later n old h))

clear_all : (k n : ℕ) → clears k n ≡ true → (j : ℕ) → j < n → not (conflicts (added_at k) (added_at j)) ≡ true
clear_all k zero h j less = absurd (omega arith)
clear_all k (suc n) h j less =
    let w = both (not (conflicts (added_at k) (added_at n))) (clears k n) h in
    below_more (λ i. not (conflicts (added_at k) (added_at i)) ≡ true) n (clear_all k n w.1) w.0 j (omega arith)

clears_at : (m : ℕ) → all_clear m ≡ true → (k : ℕ) → k < m → clears k k ≡ true
clears_at zero h k less = absurd (omega arith)
clears_at (suc m) h k less =
    let w = both (clears m m) (all_clear m) h in
    below_more (λ i. clears i i ≡ true) m (clears_at m w.1) w.0 k (omega arith)

-- rows of endpoints before it don't conflict with a route of the table
clear_rows : (k : ℕ) (rs : RowsOf (RouteOf Endpoint)) → k < 17 → AreLed rs → AreAmong k rs → AllRows (λ t. not (conflicts (added_at k) t)) rs
clear_rows k [] less led among = tt
clear_rows k (x ∷ rs) less led among =
    let there = led.0.0 ∙ ap (λ (v : Endpoint × List ℕ × ℕ). v.1) led.0.1 ∙ ap pattern_at among.0.2 in
    (ap (λ t. not (conflicts (added_at k) t)) there ∙ clear_all k k (clears_at 17 table_is_clear k less) among.0.0 among.0.1, clear_rows k rs less led.1 among.1)

nearest_none : (p : List ℕ) (rs : RowsOf (RouteOf Endpoint)) → AllRows (λ t. not (conflicts p t)) rs → nearest p rs ≡ None
nearest_none p [] h = refl
nearest_none p (x ∷ rs) h = by (conflicts p x.0) h.0 (nearest_none p rs h.1)
  where
    by : (v : Bool) → not v ≡ true → nearest p rs ≡ None → nearest_from p (cond v (nearer (None, 0) (common_len p x.0) x.1) (None, 0)) rs ≡ None
    by true e none = absurd (true≢false (sym e))
    by false e none = none

pub stands_apart : (k : ℕ) (rs : RowsOf (RouteOf Endpoint)) → k < 17 → AreLed rs → AreAmong k rs → StandsApart (get_or ENDPOINTS k at.WellKnown) rs
stands_apart k rs less led among = nearest_none (added_at k) rs (clear_rows k rs less led among)
