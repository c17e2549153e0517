-- The door of a pool, through which the links of a listener are put.
use Rattle.std.proofs.Common.{◌≡◌, ℕ, ◌+◌, ◌≤◌, ◌++◌, List, [], ◌∷◌, length, refl, sym, ap, subst, ◌∙◌, arith}
use Rattle.std.specs.Prelude.{Option, Some, None}
use Rattle.std.proofs.lemmas.List.{append_assoc, append-nil, map-append, length-append, length-map}
use Rattle.std.proofs.lemmas.Option.{none-some, same_Some}
use Rattle.link_pool.specs.declared.views.Passed.{Passed}
use Rattle.link_pool.specs.declared.views.PoolView.{PoolView}
use Rattle.link_pool.specs.Entries.{links_of, passed}
use Rattle.link_pool.specs.Pooled.{HasPutAll, with_put}
use Rattle.outside.specs.Listening.{GivesLink}
use Rattle.link_crew.specs.Seats.{HavePutAll}

-- some of the links were put, and the others are left
pub record HavePutSome {L : Type 0} (links : List L) (left : Option (List L)) (v w : PoolView L) : Type 0 where
  pub gone : List L
  pub rest : List L
  pub parts : links ≡ gone ++ rest
  pub remains : left ≡ Some rest
  pub put : links_of w.put ≡ links_of v.put ++ gone

abbrev pub HavePutFirst : {L : Type 0} → ℕ → List L → Option (List L) → PoolView L → PoolView L → Type 0
HavePutFirst capacity links left v w = length v.put + length links ≤ capacity → HavePutSome links left v w

module _ {L : Type 0} where
  pub none_put : (c : ℕ) (links : List L) (left : Option (List L)) (v : PoolView L) → left ≡ Some links → HavePutFirst c links left v v
  none_put c links left v e few = record { gone = []; rest = links; parts = refl; remains = e; put = sym (append-nil (links_of v.put)) }

  -- the first of the links that are left was given
  first_given : (left' : Option (List L)) (l : L) (rest : List L) → GivesLink (Some rest) left' (Some l) → (xs : List L) × (rest ≡ l ∷ xs) × (left' ≡ Some xs)
  first_given left' l [] g = absurd (none-some l (sym g.0))
  first_given left' l (x ∷ xs) g = (xs, ap (λ y. y ∷ xs) (sym (same_Some l x g.0)), g.1)

  pub one_put : (c : ℕ) (links : List L) (left left' : Option (List L)) (v w w' : PoolView L) (l : L) → HavePutFirst c links left v w → GivesLink left left' (Some l) → w' ≡ with_put w l → HavePutFirst c links left' v w'
  one_put c links left left' v w w' l have gives is few =
      let h = have few in
      let f = first_given left' l h.rest (subst (λ o. GivesLink o left' (Some l)) h.remains gives) in
      record {
        gone = h.gone ++ l ∷ [];
        rest = f.0;
        parts = h.parts ∙ ap (λ r. h.gone ++ r) f.1 ∙ sym (append_assoc h.gone (l ∷ []) f.0);
        remains = f.2;
        put = ap (λ (z : PoolView L). links_of z.put) is ∙ map-append (λ (e : Passed L). e.link) w.put (passed (length w.put + 1) l ∷ []) ∙ ap (λ z. z ++ l ∷ []) h.put ∙ append_assoc (links_of v.put) h.gone (l ∷ []);
      }

  how_many : (links : List L) (left : Option (List L)) (v w : PoolView L) (h : HavePutSome links left v w) → length w.put ≡ length v.put + length h.gone
  how_many links left v w h =
      sym (length-map w.put (λ (e : Passed L). e.link)) ∙ ap length h.put ∙ length-append (links_of v.put) h.gone ∙ ap (λ n. n + length h.gone) (length-map v.put (λ (e : Passed L). e.link))

  -- a pool that has room for all links gives none back
  pub none_back : (c : ℕ) (links : List L) (left left' : Option (List L)) (v w w' : PoolView L) (l : L) → HavePutFirst c links left v w → GivesLink left left' (Some l) → HasPutAll c w → HavePutFirst c links left' v w'
  none_back c links left left' v w w' l have gives full few =
      let h = have few in
      let f = first_given left' l h.rest (subst (λ o. GivesLink o left' (Some l)) h.remains gives) in
      let many = how_many links left v w h in
      let all : length links ≡ length h.gone + length (l ∷ f.0) = ap length (h.parts ∙ ap (λ r. h.gone ++ r) f.1) ∙ length-append h.gone (l ∷ f.0) in
      absurd (omega (arith, many, all, full.put, few))

  none_given : (left' : Option (List L)) (rest : List L) → GivesLink (Some rest) left' None → rest ≡ []
  none_given left' [] g = refl
  none_given left' (x ∷ xs) g = absurd (none-some x g.0)

  pub all_put : (c : ℕ) (links : List L) (left left' : Option (List L)) (v w : PoolView L) → HavePutFirst c links left v w → GivesLink left left' None → HavePutAll c links v w
  all_put c links left left' v w have gives few =
      let h = have few in
      let e = none_given left' h.rest (subst (λ o. GivesLink o left' None) h.remains gives) in
      h.put ∙ ap (λ z. links_of v.put ++ z) (sym (h.parts ∙ ap (λ r. h.gone ++ r) e ∙ append-nil h.gone))
