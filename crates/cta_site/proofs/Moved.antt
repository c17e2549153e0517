-- Rules on names that are known by an equal list.
use Rattle.std.proofs.Common.{◌≡◌, ◌∙◌, ℕ, List, Bool, Option, ap, map}
use Rattle.std.proofs.lemmas.List.{map-id}
use Rattle.std.specs.Option.{option_or}
use Rattle.cta_site.specs.Items.{fault, first_failing, first_repeat}

pub moved : {A : Type 0} (test : List (List ℕ) → A → Bool) (ns ms : List (List ℕ)) (xs ys : List A) (r : Option ℕ) → ns ≡ ms → xs ≡ ys → r ≡ first_failing (test ns) xs → r ≡ first_failing (test ms) ys
moved test ns ms xs ys r e f h = h ∙ ap (λ n. first_failing (test n) xs) e ∙ ap (first_failing (test ms)) f

-- seven parts that are joined one behind the other
pub joined : {X : Type 0} (f s d k r p t f' s' d' k' r' p' t' a b e g h i : Option X) → f ≡ f' → s ≡ s' → d ≡ d' → k ≡ k' → r ≡ r' → p ≡ p' → t ≡ t'
    → a ≡ option_or p t → b ≡ option_or r a → e ≡ option_or k b → g ≡ option_or d e → h ≡ option_or s g → i ≡ option_or f h
    → i ≡ option_or f' (option_or s' (option_or d' (option_or k' (option_or r' (option_or p' t')))))
joined f s d k r p t f' s' d' k' r' p' t' a b e g h i e1 e2 e3 e4 e5 e6 e7 e8 e9 e10 e11 e12 e13 = cc

pub own_names : (rule : ℕ) (ns : List (List ℕ)) → fault rule (first_repeat (map (λ n. n) ns)) ≡ fault rule (first_repeat ns)
own_names rule ns = ap (λ xs. fault rule (first_repeat xs)) (map-id ns)
