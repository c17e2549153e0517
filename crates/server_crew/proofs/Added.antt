-- One more job.
use Rattle.std.proofs.Common.{◌≡◌, ◌++◌, ◌∷◌, List, [], subst, sym}
use Rattle.std.specs.List.{All}
use Rattle.std.proofs.lemmas.List.Elements.{All-push}

pub one_more : {X : Type 0} (P : X → Type 0) (xs ys : List X) (x : X) → ys ≡ xs ++ x ∷ [] → All P xs → P x → All P ys
one_more P xs ys x is all one = subst (All P) (sym is) (All-push P xs x all one)
