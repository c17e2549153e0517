-- How a run of appends goes on.
use Rattle.std.proofs.Common.{◌≡◌, ◌≢◌, inl, inr, ℕ, zero, suc, ◌+◌, ◌<◌, ◌≤◌, List, [], ◌∷◌, ◌++◌, length, get_or, map, take, refl, sym, ◌∙◌, ap, subst, arith, append_assoc}
use Rattle.std.proofs.lemmas.List.{append-nil, map_more}
use Rattle.cta_journal.specs.Log.{records, HasLog, HasLogOrMore}
use Rattle.cta_journal.specs.Fronts.{HasFront}

module _ {V : Type 0} (body : V → List ℕ) where
  pub map_front : (n : ℕ) (vs : List V) → map body (take n vs) ≡ take n (map body vs)
  map_front zero vs = refl
  map_front (suc n) [] = refl
  map_front (suc n) (v ∷ vs) = ap (λ (l : List (List ℕ)). body v ∷ l) (map_front n vs)

  pub mapped : (vs : List V) → length (map body vs) ≡ length vs
  mapped [] = refl
  mapped (v ∷ vs) = omega (arith, mapped vs)

  module _ (kept : List V) (bodies : List (List ℕ)) where
    pub none_yet : (file : List ℕ) → HasLog file bodies → HasFront bodies (map body kept) file
    none_yet file log = (0, omega arith, subst (λ (l : List (List ℕ)). HasLog file l) (sym (append-nil bodies)) log)

    pub next_bodies : (i : ℕ) (v : V) → i < length kept → v ≡ get_or kept i v → (bodies ++ map body (take i kept)) ++ body v ∷ [] ≡ bodies ++ map body (take (i + 1) kept)
    next_bodies i v lt is =
        append_assoc bodies (map body (take i kept)) (body v ∷ [])
        ∙ ap (λ (l : List (List ℕ)). bodies ++ l) (ap (λ (w : V). map body (take i kept) ++ body w ∷ []) is ∙ sym (map_more body kept i v lt))

    pub one_more_or_not : (i : ℕ) (v : V) → i < length kept → v ≡ get_or kept i v → (file : List ℕ) → HasLogOrMore (bodies ++ map body (take i kept)) (body v ∷ []) file → HasFront bodies (map body kept) file
    one_more_or_not i v lt is file (inl log) = (i, omega (arith, lt, mapped kept), subst (λ (l : List (List ℕ)). HasLog file l) (ap (λ (l : List (List ℕ)). bodies ++ l) (map_front i kept)) log)
    one_more_or_not i v lt is file (inr log) = (i + 1, omega (arith, lt, mapped kept), subst (λ (l : List (List ℕ)). HasLog file l) (next_bodies i v lt is ∙ ap (λ (l : List (List ℕ)). bodies ++ l) (map_front (i + 1) kept)) log)
