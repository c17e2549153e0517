-- The rule of a pool: what it holds, and what each pass knows.
use Rattle.std.specs.Prelude.{ℕ, ◌+◌, ◌<◌, ◌≤◌, ◌≡◌, ◌-◌, Bool, true, false, List, [], ◌∷◌, ◌++◌, length}
use mathlib.Core.Option.{some}
use lib.ListN.{get_elem?}
use Rattle.link_pool.specs.declared.views.Passed.{Passed}
use Rattle.link_pool.specs.declared.views.PoolView.{PoolView}
use Rattle.link_pool.specs.Entries.{total, one_if, Between, passed, numbered, RisesFrom, count_of, merged}

-- all parts of a pool
abbrev pub whole : ℕ
whole = 4294967296

module _ {L : Type 0} where
  abbrev pub view_of : Bool → ℕ → List (Passed L) → List (Passed L) → PoolView L
  view_of door parts put got = record { door = door; parts = parts; put = put; got = got }

  -- the door with all parts
  abbrev pub fresh : PoolView L
  fresh = view_of true whole [] []

  -- the view that has put the link, or got it with the number n
  abbrev pub with_put : PoolView L → L → PoolView L
  with_put v link = view_of v.door v.parts (v.put ++ passed (length v.put + 1) link ∷ []) v.got

  abbrev pub with_got : PoolView L → ℕ → L → PoolView L
  with_got v n link = view_of v.door v.parts v.put (v.got ++ passed n link ∷ [])

  -- the view less one part, and a view with that part alone
  abbrev pub keeping : PoolView L → PoolView L
  keeping v = view_of v.door (v.parts - 1) v.put v.got

  abbrev pub single : PoolView L
  single = view_of false 1 [] []

  -- both views in one, and a view with nothing
  abbrev pub joined : PoolView L → PoolView L → PoolView L
  joined v w = view_of v.door (v.parts + w.parts) v.put (merged v.got w.got)

  abbrev pub spent : PoolView L
  spent = view_of false 0 [] []

  abbrev pub parts_of : PoolView L → ℕ
  parts_of v = v.parts

  abbrev pub door_of : PoolView L → ℕ
  door_of v = one_if v.door

  abbrev pub got_at : ℕ → PoolView L → ℕ
  got_at n v = count_of n v.got

  -- the entry is one of the first `out` links of the log
  abbrev pub IsOut : ℕ → List L → Passed L → Type 0
  IsOut out log e = (m : ℕ) × (e.number ≡ m + 1) × (m < out) × (get_elem? log m ≡ some e.link)

  -- what holds of one view, where these links were put and the first `out` of them were got
  pub record Fits (out : ℕ) (log : List L) (v : PoolView L) : Type 0 where
    pub door : v.door ≡ true → v.put ≡ numbered 1 log
    pub others : v.door ≡ false → v.put ≡ []
    pub took : (k : ℕ) (e : Passed L) → get_elem? v.got k ≡ some e → IsOut out log e
    pub rises : RisesFrom 1 v.got
    pub idle : v.parts ≡ 0 → (v.got ≡ []) × (v.door ≡ false)

  -- The links that were put are those that were got, in that order, and then those that the pool holds; the door has put them all, and
  -- each of the first ones was got once
  pub record Pooled (items : List L) (views : List (PoolView L)) : Type 0 where
    pub gone : List L
    pub each : (i : ℕ) (v : PoolView L) → get_elem? views i ≡ some v → Fits (length gone) (gone ++ items) v
    pub doors : total door_of views ≡ 1
    pub got : (n : ℕ) → Between n 1 (length gone + 1) (total (got_at n) views)
    pub parts : total parts_of views ≡ whole

  -- what the pool holds is the end of what the door has put, and no link that the door has got; where all parts are here, what the door has got is all the rest
  abbrev pub IsBack : PoolView L → List L → Type 0
  IsBack v items = (gone : List L) × (v.put ≡ numbered 1 (gone ++ items)) × (length v.got ≤ length gone) × (v.parts ≡ whole → v.got ≡ numbered 1 gone)

  -- the door has put as many links as the pool can hold, beside those that it has got; where all parts are here, the pool holds as many links as it can
  pub record HasPutAll (capacity : ℕ) (v : PoolView L) : Type 0 where
    pub put : capacity + length v.got ≤ length v.put
    pub full : v.parts ≡ whole → length v.put ≡ length v.got + capacity

  -- where all parts are here and the pool holds nothing, what was got is what was put
  abbrev pub IsEmptied : PoolView L → List L → Type 0
  IsEmptied v items = items ≡ [] → v.parts ≡ whole → v.got ≡ v.put

  -- what a take leaves as it was: whether the view is the door, its parts, and the links that it has put
  abbrev pub Stays : PoolView L → PoolView L → Type 0
  Stays v w = (w.door ≡ v.door) × (w.parts ≡ v.parts) × (w.put ≡ v.put)

  -- a number was drawn that is above those of all links that were got before
  abbrev pub TakesNext : PoolView L → L → PoolView L → Type 0
  TakesNext v link w = (n : ℕ) × RisesFrom 1 (v.got ++ passed n link ∷ []) × (w ≡ with_got v n link)
