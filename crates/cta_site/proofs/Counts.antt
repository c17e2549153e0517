-- Routes that are counted by class and copy.
use Rattle.std.proofs.Common.{◌≡◌, ◌∙◌, ◌+◌, ◌<◌, ◌≤◌, ℕ, List, [], ◌∷◌, ◌++◌, Bool, true, false, length, take, get_or, refl, sym, ap, arith, cond, inl, inr, ◌&&◌}
use Rattle.std.proofs.lemmas.Bool.{cases_Bool}
use Rattle.std.proofs.lemmas.List.{length-append}
use Rattle.std.proofs.lemmas.List.Elements.{filter_more}
use Rattle.std.proofs.lemmas.Bool.Decides.{nat_tests}
use Rattle.std.specs.Prelude.{◌==◌, bytes_eq}
use Rattle.std.specs.List.{filter}
use Rattle.cta_site.specs.declared.site.Route.{Route}
use Rattle.cta_site.specs.Lookups.{is_route_of}

pub and_true : (b : Bool) → (b && true) ≡ b
and_true true = refl
and_true false = refl

pub and_false : (b : Bool) → (b && false) ≡ false
and_false true = refl
and_false false = refl

-- a route of this copy is of the classes that have its class's name
pub of_class : (route : Route) (class : List ℕ) (copy : ℕ) → route.copy ≡ copy → is_route_of class copy route ≡ bytes_eq route.class class
of_class route class copy same =
    let hit : (route.copy == copy) ≡ true = grind (arith, nat_tests) in
    ap (λ b. bytes_eq route.class class && b) hit ∙ and_true (bytes_eq route.class class)

-- a route of another copy is of none
pub of_no_class : (route : Route) (class : List ℕ) (copy : ℕ) → (route.copy ≡ copy → ⊥) → is_route_of class copy route ≡ false
of_no_class route class copy other =
    let miss : (route.copy == copy) ≡ false = grind (arith, nat_tests, other) in
    ap (λ b. bytes_eq route.class class && b) miss ∙ and_false (bytes_eq route.class class)

-- how many pass, with the next item
pub count_next : {A : Type 0} (p : A → Bool) (xs : List A) (i : ℕ) (x : A) (old new : ℕ) (b : Bool) → i < length xs → x ≡ get_or xs i x → p x ≡ b → old ≡ length (filter p (take i xs)) → new ≡ old + cond b 1 0 → new ≡ length (filter p (take (i + 1) xs))
count_next p xs i x old new b low here passes was is =
    let more : filter p (take (i + 1) xs) ≡ filter p (take i xs) ++ cond (p x) (x ∷ []) [] = filter_more p xs i x low ∙ ap (λ y. filter p (take i xs) ++ cond (p y) (y ∷ []) []) (sym here) in
    elim (cases_Bool b) [
      | inl hit_b ↦
          let hit : p x ≡ true = passes ∙ hit_b in
          let longer : filter p (take (i + 1) xs) ≡ filter p (take i xs) ++ x ∷ [] = rw hit at more in
          let size : length (filter p (take (i + 1) xs)) ≡ length (filter p (take i xs)) + 1 = ap length longer ∙ length-append (filter p (take i xs)) (x ∷ []) in
          let one : new ≡ old + 1 = rw hit_b at is in
          omega arith
      | inr miss_b ↦
          let miss : p x ≡ false = passes ∙ miss_b in
          let same : filter p (take (i + 1) xs) ≡ filter p (take i xs) ++ [] = rw miss at more in
          let size : length (filter p (take (i + 1) xs)) ≡ length (filter p (take i xs)) + 0 = ap length same ∙ length-append (filter p (take i xs)) [] in
          let none : new ≡ old + 0 = rw miss_b at is in
          omega arith
    ]

pub filtered_few : {A : Type 0} (p : A → Bool) (xs : List A) → length (filter p xs) ≤ length xs
filtered_few p [] = omega arith
filtered_few p (x ∷ xs) =
    let rest = filtered_few p xs in
    elim (cases_Bool (p x)) [
      | inl hit ↦ rw hit (omega arith)
      | inr miss ↦ rw miss (omega arith)
    ]
