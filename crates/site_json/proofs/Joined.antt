-- Parts that are joined one behind the other.
use Rattle.std.proofs.Common.{◌≡◌, Option}
use Rattle.std.specs.Option.{option_or}

pub joined : {X : Type 0} (l t d k f l' t' d' k' f' a b e g : Option X) → l ≡ l' → t ≡ t' → d ≡ d' → k ≡ k' → f ≡ f'
    → a ≡ option_or k f → b ≡ option_or d a → e ≡ option_or t b → g ≡ option_or l e → g ≡ option_or l' (option_or t' (option_or d' (option_or k' f')))
joined l t d k f l' t' d' k' f' a b e g e1 e2 e3 e4 e5 e6 e7 e8 e9 = cc
