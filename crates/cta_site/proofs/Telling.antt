-- Byte strings that tell routes and rules apart.
use Rattle.std.proofs.Common.{◌≡◌, ◌∙◌, ℕ, arith, List, [], ◌∷◌, ◌++◌, Bool, true, false, Some, length, refl, sym, ap, inl, inr, map, ◌&&◌}
use Rattle.std.proofs.lemmas.Bool.{cases_Bool}
use Rattle.std.specs.Prelude.{bytes_eq, ◌==◌}
use Rattle.std.specs.List.{list_any}
use Rattle.cta_site.specs.declared.site.Route.{Route}
use Rattle.cta_site.specs.declared.site.Rule.{Rule}
use Rattle.cta_site.specs.declared.site.RuleKind.{RuleKind}
use Rattle.cta_site.specs.declared.site.RuleKind.TheVariants.{Requester, Group}
use Rattle.cta_site.specs.Items.{first_same, first_repeat, repeat_after}
use Rattle.cta_site.specs.Keys.{closed_text, route_ends, kind_byte, rule_caller}
use Rattle.cta_site.specs.Lookups.{same_kind}
use Rattle.cta_site.specs.References.{same_ends, same_caller}

-- what repeats by a key repeats by what the key tells
any_key : {A : Type 0} (same : A → A → Bool) (key : A → List ℕ) → ((x y : A) → bytes_eq (key x) (key y) ≡ same x y) → (x : A) (xs : List A) → list_any (bytes_eq (key x)) (map key xs) ≡ list_any (same x) xs
any_key same key tells x [] = refl
any_key same key tells x (y ∷ ys) = rw (tells x y, any_key same key tells x ys) refl

map_push : {A : Type 0} (key : A → List ℕ) (xs : List A) (y : A) → map key (xs ++ y ∷ []) ≡ map key xs ++ key y ∷ []
map_push key [] y = refl
map_push key (x ∷ xs) y = ap (λ l. key x ∷ l) (map_push key xs y)

map_length : {A : Type 0} (key : A → List ℕ) (xs : List A) → length (map key xs) ≡ length xs
map_length key [] = refl
map_length key (x ∷ xs) = omega (arith, map_length key xs)

repeat_key : {A : Type 0} (same : A → A → Bool) (key : A → List ℕ) → ((x y : A) → bytes_eq (key x) (key y) ≡ same x y) → (seen xs : List A) → repeat_after bytes_eq (map key seen) (map key xs) ≡ repeat_after same seen xs
repeat_key same key tells seen [] = refl
repeat_key same key tells seen (x ∷ xs) =
    elim (cases_Bool (list_any (same x) seen)) [
      | inl hit ↦ rw (any_key same key tells x seen, hit) (ap Some (map_length key seen))
      | inr miss ↦ rw (any_key same key tells x seen, miss) (ap (λ l. repeat_after bytes_eq l (map key xs)) (sym (map_push key seen x)) ∙ repeat_key same key tells (seen ++ x ∷ []) xs)
    ]

pub repeats_by_key : {A : Type 0} (same : A → A → Bool) (key : A → List ℕ) → ((x y : A) → bytes_eq (key x) (key y) ≡ same x y) → (xs : List A) → first_repeat (map key xs) ≡ first_same same xs
repeats_by_key same key tells xs = repeat_key same key tells [] xs

and_assoc : (a b d : Bool) → (a && (b && d)) ≡ ((a && b) && d)
and_assoc true b d = refl
and_assoc false b d = refl

closed_eq : (a b p q : List ℕ) → bytes_eq (closed_text a ++ p) (closed_text b ++ q) ≡ (bytes_eq a b && bytes_eq p q)
closed_eq [] [] p q = refl
closed_eq [] (y ∷ b) p q = refl
closed_eq (x ∷ a) [] p q = refl
closed_eq (x ∷ a) (y ∷ b) p q = ap (λ t. (x == y) && t) (closed_eq a b p q) ∙ and_assoc (x == y) (bytes_eq a b) (bytes_eq p q)

pub ends_tell : (r s : Route) → bytes_eq (route_ends r) (route_ends s) ≡ same_ends r s
ends_tell r s = closed_eq r.class s.class r.pool s.pool

kinds_tell : (k l : RuleKind) (a b : List ℕ) → bytes_eq (kind_byte k ∷ a) (kind_byte l ∷ b) ≡ (same_kind k l && bytes_eq a b)
kinds_tell Requester Requester a b = refl
kinds_tell Requester Group a b = refl
kinds_tell Group Requester a b = refl
kinds_tell Group Group a b = refl

pub callers_tell : (r s : Rule) → bytes_eq (rule_caller r) (rule_caller s) ≡ same_caller r s
callers_tell r s = kinds_tell r.kind s.kind r.name s.name
