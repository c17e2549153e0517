-- What each of several rules tells where none of them is broken. Made for the crates above too.
use Rattle.std.proofs.Common.{◌≡◌, ℕ, Bool, Option, Some, None, true, false, refl}
use Rattle.std.specs.Option.{option_or}
use Rattle.cta_site.specs.Items.{unless, fault}

pub neither : {X : Type 0} (a b : Option X) → option_or a b ≡ None → (a ≡ None) × (b ≡ None)
neither None b e = (refl, e)
neither (Some x) b e = absurd (cc)

pub kept : (rule : ℕ) (b : Bool) → fault rule (unless b) ≡ None → b ≡ true
kept rule true e = refl
kept rule false e = absurd (cc)

pub no_item : (rule : ℕ) (i : Option ℕ) → fault rule i ≡ None → i ≡ None
no_item rule None e = refl
no_item rule (Some i) e = absurd (cc)
