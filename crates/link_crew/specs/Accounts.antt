-- What workers account for: which links they took, and what was asked on these.
use Rattle.std.specs.Prelude.{◌≡◌, ℕ, ◌<◌, Bool, true, false, List, count_by, filter, flat_map, length, map, Option, Some, Result, Ok, Err}
use Rattle.std.specs.List.{AllByRecursion}
use Rattle.outside.specs.declared.link.LinkEnd.{LinkEnd}
use Rattle.conn.specs.Cut.{Cut, IsLinkCut, cut_events}
use Rattle.wire_http.specs.declared.request.Request.{Request}
use Rattle.turn_hall.specs.declared.view.Made.{Made}
use Rattle.link_loop.specs.declared.front.Routed.{Routed}
use Rattle.link_loop.specs.declared.front.Routed.TheVariants as routed
use Rattle.link_loop.specs.declared.sending.Unserved.{Unserved}
use Rattle.link_loop.specs.declared.sending.Unserved.TheVariants as unserved
use Rattle.link_loop.specs.Served.{asked_by, budget}

-- each kind of thing stands in both lists as often
abbrev pub StandAsOften : {X : Type 0} → List X → List X → Type 0
StandAsOften {X} xs ys = (p : X → Bool) → count_by p xs ≡ count_by p ys

-- a link was served to an end, or to a fault of its own
abbrev pub is_served : {S : Type 0} → Result LinkEnd (Unserved S) → Bool
is_served (Ok end) = true
is_served (Err unserved.Read) = true
is_served (Err unserved.Write) = true
is_served (Err unserved.NoMemory) = false
is_served (Err (unserved.Stopped why)) = false

-- each request asks what a caller asks
abbrev pub CallersAsk : {K : Type 0} → (K → Bool) → (Request → Routed K) → Type 0
CallersAsk {K} is_callers needs = (request : Request) (k : K) → needs request ≡ routed.Call k → is_callers k ≡ true

-- a link, and what was asked on it
abbrev pub link_in : {L K : Type 0} → L × List K → L
link_in p = p.0

abbrev pub asks_in : {L K : Type 0} → L × List K → List K
asks_in p = p.1

module _ {C B K : Type 0} (question : C → K) (is_callers : K → Bool) where
  -- what callers ask by these calls
  abbrev pub asks_of : List (Made C B) → List K
  asks_of mine = filter is_callers (map (λ (m : Made C B). question m.call) mine)

module _ {L K : Type 0} (left : L → Option (List ℕ)) (firm : L → Bool) (limit : ℕ) (needs : Request → Routed K) where
  -- on a link that tells all its bytes, fewer than are taken of one link, and that never fails, exactly what the requests of a cut of these bytes ask was asked
  abbrev pub AsksAll : L × List K → Type 0
  AsksAll p = (bytes : List ℕ) → left p.0 ≡ Some bytes → length bytes < budget → firm p.0 ≡ true → (cut : Cut) × IsLinkCut limit bytes cut × (p.1 ≡ flat_map (asked_by needs) (cut_events cut))

module _ {L C B K : Type 0} (question : C → K) (is_callers : K → Bool) (left : L → Option (List ℕ)) (firm : L → Bool) (limit : ℕ) (needs : Request → Routed K) where
  -- These links were taken, and what was asked on each is what callers asked, and nothing else. Where no link was left unserved, all that a link asks was asked on it
  pub record Accounted (mine : List (Made C B)) (links : List L) (unserved : ℕ) : Type 0 where
    pub asked : List (L × List K)
    pub taken : StandAsOften (map link_in asked) links
    pub calls : StandAsOften (flat_map asks_in asked) (asks_of question is_callers mine)
    pub whole : unserved ≡ 0 → AllByRecursion (AsksAll left firm limit needs) asked
