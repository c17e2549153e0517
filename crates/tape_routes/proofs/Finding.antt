-- A router to which each route of the table was added finds the endpoint of each target.
use Rattle.std.proofs.Common.{◌≡◌, ◌⊎◌, inl, inr, ℕ, ◌<◌, Bool, true, false, cond, ◌&&◌, List, [], ◌∷◌, Option, Some, None, option_map, is_some, refl, sym, ap, subst, ◌∙◌, arith, get_or}
use Rattle.std.specs.List.{find}
use Rattle.matchit.specs.Order.{placed}
use Rattle.matchit.specs.Rows.{RowsOf, comes_before}
use Rattle.matchit.specs.Router.{RouteOf}
use Rattle.matchit.specs.Seek.{first}
use Rattle.tape_routes.specs.declared.routes.Endpoint.{Endpoint}
use Rattle.tape_routes.specs.declared.routes.Endpoint.TheVariants as at
use Rattle.tape_routes.specs.declared.routes.TheConstants.{ENDPOINTS}
use Rattle.tape_routes.specs.Router.{tokens, route_view, table_view, HasOneMore, FindsRoutes}
use Rattle.tape_routes.specs.Routes.{route_of, parameter_of, every_endpoint, endpoint_of}
use Rattle.tape_routes.proofs.Walks.{fits, is_good, both, AllRows, NoRow, HasRow, Finds, exact}
use Rattle.tape_routes.proofs.Patterns.{is_plain, apart, fits_pattern, fits_apart}

-- the pattern of an endpoint
abbrev pub pattern_at : Endpoint → List ℕ
pattern_at e = tokens (route_of e).pattern

-- each row is a route of the table
abbrev pub AreLed : RowsOf (RouteOf Endpoint) → Type 0
AreLed [] = Unit {0}
AreLed (x ∷ rs) = ((x.0 ≡ x.1.pattern) × (route_view x.1 ≡ table_view x.1.value)) × AreLed rs

-- a row leads to this endpoint
abbrev pub Leads : Endpoint → RowsOf (RouteOf Endpoint) → Type 0
Leads e [] = ⊥
Leads e (x ∷ rs) = (x.1.value ≡ e) ⊎ Leads e rs

-- one more row
led_placed : (r : List ℕ × RouteOf Endpoint) (rs : RowsOf (RouteOf Endpoint)) → (r.0 ≡ r.1.pattern) × (route_view r.1 ≡ table_view r.1.value) → AreLed rs → AreLed (placed r rs)
led_placed r [] e h = (e, tt)
led_placed r (x ∷ rs) e h =
    elim (comes_before r.0 x.0) as (λ v. AreLed (cond v (r ∷ x ∷ rs) (x ∷ placed r rs))) [
      | true ↦ (e, h)
      | false ↦ (h.0, led_placed r rs e h.1)
    ]

leads_new : (e : Endpoint) (r : List ℕ × RouteOf Endpoint) (rs : RowsOf (RouteOf Endpoint)) → r.1.value ≡ e → Leads e (placed r rs)
leads_new e r [] same = inl same
leads_new e r (x ∷ rs) same =
    elim (comes_before r.0 x.0) as (λ v. Leads e (cond v (r ∷ x ∷ rs) (x ∷ placed r rs))) [
      | true ↦ inl same
      | false ↦ inr (leads_new e r rs same)
    ]

leads_old : (e : Endpoint) (r : List ℕ × RouteOf Endpoint) (rs : RowsOf (RouteOf Endpoint)) → Leads e rs → Leads e (placed r rs)
leads_old e r [] h = absurd h
leads_old e r (x ∷ rs) h = by (comes_before r.0 x.0) (leads_old e r rs) h
  where
    by : (v : Bool) → (Leads e rs → Leads e (placed r rs)) → (x.1.value ≡ e) ⊎ Leads e rs → Leads e (cond v (r ∷ x ∷ rs) (x ∷ placed r rs))
    by true later w = inr w
    by false later (inl w) = inl w
    by false later (inr w) = inr (later w)

pub led_more : (e : Endpoint) (old new : RowsOf (RouteOf Endpoint)) → HasOneMore e old new → AreLed old → AreLed new
led_more e old new more h =
    rw more.2 (led_placed (more.0.pattern, more.0) old (refl, more.1 ∙ ap table_view (sym (ap (λ (x : Endpoint × List ℕ × ℕ). x.0) more.1))) h)

pub leads_more : (e f : Endpoint) (old new : RowsOf (RouteOf Endpoint)) → HasOneMore e old new → Leads f old → Leads f new
leads_more e f old new more h = rw more.2 (leads_old f (more.0.pattern, more.0) old h)

pub leads_it : (e : Endpoint) (old new : RowsOf (RouteOf Endpoint)) → HasOneMore e old new → Leads e new
leads_it e old new more = rw more.2 (leads_new e (more.0.pattern, more.0) old (ap (λ (x : Endpoint × List ℕ × ℕ). x.0) more.1))

-- each endpoint's pattern is one of those that the walk finds
is_fit : (e : Endpoint) → (is_plain (route_of e).pattern && is_good (pattern_at e)) ≡ true
is_fit at.WellKnown = refl
is_fit at.Stage = refl
is_fit at.StageRequest = refl
is_fit at.StageCancel = refl
is_fit at.Release = refl
is_fit at.ArchiveInfo = refl
is_fit at.Data = refl
is_fit at.DriveUp = refl
is_fit at.DriveDown = refl
is_fit at.Tape = refl
is_fit at.TapeState = refl
is_fit at.TapeReclaim = refl
is_fit at.Repack = refl
is_fit at.RepackRequest = refl
is_fit at.Failed = refl
is_fit at.FailedRetry = refl
is_fit at.Queues = refl

is_good_at : (e : Endpoint) → is_good (pattern_at e) ≡ true
is_good_at e = (both (is_plain (route_of e).pattern) (is_good (pattern_at e)) (is_fit e)).1

-- a target fits the pattern of an endpoint exactly where it has a parameter there
fits_at : (e : Endpoint) (p : List ℕ) → is_some (parameter_of e p) ≡ fits (pattern_at e) p
fits_at e p = sym (fits_pattern (route_of e).pattern p ((both (is_plain (route_of e).pattern) (is_good (pattern_at e)) (is_fit e)).0))

-- the first that passes
find_same : (f g : Endpoint → Bool) (es : List Endpoint) → ((e : Endpoint) → f e ≡ g e) → find f es ≡ find g es
find_same f g [] same = refl
find_same f g (e ∷ es) same = rw (same e, find_same f g es same) refl

find_none : (f : Endpoint → Bool) (es : List Endpoint) → ((e : Endpoint) → f e ≡ false) → find f es ≡ None
find_none f [] none = refl
find_none f (e ∷ es) none = rw (none e) (find_none f es none)

find_here : (e : Endpoint) (es : List Endpoint) (p : List ℕ) → fits (pattern_at e) p ≡ true → find (λ x. fits (pattern_at x) p) (e ∷ es) ≡ Some e
find_here e es p h = rw h refl

find_later : (e x : Endpoint) (es : List Endpoint) (p : List ℕ) → fits (pattern_at e) p ≡ true → apart (pattern_at e) (pattern_at x) ≡ true → find (λ y. fits (pattern_at y) p) es ≡ Some e → find (λ y. fits (pattern_at y) p) (x ∷ es) ≡ Some e
find_later e x es p h part later = rw (fits_apart (pattern_at e) (pattern_at x) p part h) later

-- the patterns are apart, so the endpoint is the first whose pattern the target fits
find_at : (e : Endpoint) (p : List ℕ) → fits (pattern_at e) p ≡ true → find (λ x. fits (pattern_at x) p) every_endpoint ≡ Some e
find_at at.WellKnown p h = rw h refl
find_at at.Stage p h = search (find_here, find_later) depth 40
find_at at.StageRequest p h = search (find_here, find_later) depth 40
find_at at.StageCancel p h = search (find_here, find_later) depth 40
find_at at.Release p h = search (find_here, find_later) depth 40
find_at at.ArchiveInfo p h = search (find_here, find_later) depth 40
find_at at.Data p h = search (find_here, find_later) depth 40
find_at at.DriveUp p h = search (find_here, find_later) depth 40
find_at at.DriveDown p h = search (find_here, find_later) depth 40
find_at at.Tape p h = search (find_here, find_later) depth 40
find_at at.TapeState p h = search (find_here, find_later) depth 40
find_at at.TapeReclaim p h = search (find_here, find_later) depth 40
find_at at.Repack p h = search (find_here, find_later) depth 40
find_at at.RepackRequest p h = search (find_here, find_later) depth 40
find_at at.Failed p h = search (find_here, find_later) depth 40
find_at at.FailedRetry p h = search (find_here, find_later) depth 40
find_at at.Queues p h = search (find_here, find_later) depth 40

-- each endpoint comes in the array
pub every : (rs : RowsOf (RouteOf Endpoint)) → ((k : ℕ) → k < 17 → Leads (get_or ENDPOINTS k at.WellKnown) rs) → (e : Endpoint) → Leads e rs
every rs all at.WellKnown = all 0 (omega arith)
every rs all at.Stage = all 1 (omega arith)
every rs all at.StageRequest = all 2 (omega arith)
every rs all at.StageCancel = all 3 (omega arith)
every rs all at.Release = all 4 (omega arith)
every rs all at.ArchiveInfo = all 5 (omega arith)
every rs all at.Data = all 6 (omega arith)
every rs all at.DriveUp = all 7 (omega arith)
every rs all at.DriveDown = all 8 (omega arith)
every rs all at.Tape = all 9 (omega arith)
every rs all at.TapeState = all 10 (omega arith)
every rs all at.TapeReclaim = all 11 (omega arith)
every rs all at.Repack = all 12 (omega arith)
every rs all at.RepackRequest = all 13 (omega arith)
every rs all at.Failed = all 14 (omega arith)
every rs all at.FailedRetry = all 15 (omega arith)
every rs all at.Queues = all 16 (omega arith)

-- what the rows of a router say of a target
good_rows : (rs : RowsOf (RouteOf Endpoint)) → AreLed rs → AllRows is_good rs
good_rows [] h = tt
good_rows (x ∷ rs) h = (ap is_good (h.0.0 ∙ ap (λ (v : Endpoint × List ℕ × ℕ). v.1) h.0.1) ∙ is_good_at x.1.value, good_rows rs h.1)

fits_row : (rs : RowsOf (RouteOf Endpoint)) (p : List ℕ) (r : RouteOf Endpoint) → AreLed rs → HasRow (λ t. fits t p) rs r → (fits (pattern_at r.value) p ≡ true) × (route_view r ≡ table_view r.value)
fits_row [] p r h has = absurd has
fits_row (x ∷ rs) p r h (inl w) = subst (λ (q : RouteOf Endpoint). (fits (pattern_at q.value) p ≡ true) × (route_view q ≡ table_view q.value)) w.1 (ap (λ (t : List ℕ). fits t p) (sym (h.0.0 ∙ ap (λ (v : Endpoint × List ℕ × ℕ). v.1) h.0.1)) ∙ w.0, h.0.1)
fits_row (x ∷ rs) p r h (inr w) = fits_row rs p r h.1 w

fits_no_row : (rs : RowsOf (RouteOf Endpoint)) (p : List ℕ) (e : Endpoint) → AreLed rs → Leads e rs → NoRow (λ t. fits t p) rs → fits (pattern_at e) p ≡ false
fits_no_row [] p e h leads none = absurd leads
fits_no_row (x ∷ rs) p e h (inl w) none = ap (λ (y : Endpoint). fits (pattern_at y) p) (sym w) ∙ ap (λ (t : List ℕ). fits t p) (sym (h.0.0 ∙ ap (λ (v : Endpoint × List ℕ × ℕ). v.1) h.0.1)) ∙ none.0
fits_no_row (x ∷ rs) p e h (inr w) none = fits_no_row rs p e h.1 w none.1

-- the router finds the endpoint of each target
pub finds_routes : (rs : RowsOf (RouteOf Endpoint)) → AreLed rs → ((e : Endpoint) → Leads e rs) → FindsRoutes rs
finds_routes rs led all p bytes = by (first rs p) (exact 0 rs p bytes (good_rows rs led))
  where
    same : endpoint_of p ≡ find (λ e. fits (pattern_at e) p) every_endpoint
    same = find_same (λ e. is_some (parameter_of e p)) (λ e. fits (pattern_at e) p) every_endpoint (λ e. fits_at e p)

    by : (r : Option (RouteOf Endpoint)) → Finds (λ t. fits t p) rs r → option_map route_view r ≡ option_map table_view (endpoint_of p)
    by None h = ap (option_map table_view) (sym (same ∙ find_none (λ e. fits (pattern_at e) p) every_endpoint (λ e. fits_no_row rs p e led (all e) h)))
    by (Some r) h =
        let w = fits_row rs p r led h in
        ap Some w.1 ∙ ap (option_map table_view) (sym (same ∙ find_at r.value p w.0))
