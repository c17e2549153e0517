-- What was put through a door.
use Rattle.std.proofs.Common.{◌≡◌, ◌+◌, ◌≤◌, ◌++◌, ℕ, List, [], length, ap, ◌∙◌, arith}
use Rattle.std.specs.Prelude.{IfOk, Result, Ok, Err}
use Rattle.link_pool.specs.declared.views.Passed.{Passed}
use Rattle.link_pool.specs.declared.views.PoolView.{PoolView}
use Rattle.link_pool.specs.Entries.{links_of}
use Rattle.link_crew.specs.Seats.{HavePutAll}

module _ {L : Type 0} where
  -- all links were put through a door through which none was put before
  put_all : (capacity : ℕ) (links : List L) (v w u : PoolView L) → v.put ≡ [] → u.put ≡ w.put → length links ≤ capacity → HavePutAll capacity links v w → links_of u.put ≡ links
  put_all capacity links v w u none same few have =
      let count : length v.put ≡ 0 = ap length none in
      ap (λ (z : List (Passed L)). links_of z) same ∙ have (omega (arith, count, few)) ∙ ap (λ (z : List (Passed L)). links_of z ++ links) none

  pub all_put : {A E : Type 0} (r : Result A E) (capacity : ℕ) (links : List L) (v w u : PoolView L) → v.put ≡ [] → u.put ≡ w.put → length links ≤ capacity → IfOk r (λ _. HavePutAll capacity links v w) → IfOk r (λ _. links_of u.put ≡ links)
  all_put (Ok a) capacity links v w u none same few have = put_all capacity links v w u none same few have
  all_put (Err e) capacity links v w u none same few have = tt
