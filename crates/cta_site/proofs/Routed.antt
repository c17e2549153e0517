-- Routes of the copies of classes.
use Rattle.std.proofs.Common.{◌≡◌, ◌∙◌, ◌≤◌, ◌<◌, ◌||◌, ◌&&◌, ℕ, zero, suc, List, [], ◌∷◌, Bool, true, false, Option, Some, None, length, get_or, refl, sym, ap, subst, arith, inl, inr, not}
use Rattle.std.proofs.lemmas.Bool.{and_parts, cases_Bool}
use Rattle.std.proofs.lemmas.Bool.Decides.{Decides-eqb, nat_tests}
use Rattle.std.proofs.lemmas.List.Sorted.{IsPermutation-refl}
use Rattle.std.proofs.lemmas.Option.{slice_get_read}
use Rattle.std.specs.Prelude.{◌==◌, bytes_eq, find, slice_get, nat_le, IsSome}
use Rattle.std.specs.List.{filter, list_all}
use Rattle.cta_site.specs.declared.site.Site.{Site}
use Rattle.cta_site.specs.declared.site.Class.{Class}
use Rattle.cta_site.specs.declared.site.Route.{Route}
use Rattle.cta_site.specs.declared.site.TapePool.{TapePool}
use Rattle.cta_site.specs.Bare.{bare_site}
use Rattle.cta_site.specs.Faults.{element_fault}
use Rattle.cta_site.specs.Forms.{size_fault, form_fault}
use Rattle.cta_site.specs.Items.{first_failing, fault}
use Rattle.cta_site.specs.Laws.{CopiesAreRouted}
use Rattle.cta_site.specs.Lookups.{class_name, copies_of_class, is_route_of, route_of, pool_of_route, HasRoute}
use Rattle.cta_site.specs.References as said
use Rattle.cta_site.specs.ValidSite.{IsValidSite}
use Rattle.cta_site.specs.WellFormed.{IsWellFormed, HasCopy, HasPool}
use Rattle.cta_site.proofs.Found.{among_found}
use Rattle.cta_site.proofs.Unbroken.{neither, no_item}
use Rattle.cta_site.proofs.Known.{all_at, all_found, index_low}
use Rattle.cta_site.proofs.Laws.{item_at}
use Rattle.cta_site.proofs.Numbered.{well_formed}
use Rattle.cta_site.proofs.Ordered.{passes}

-- a route has its class where the class is found and has its copy
pub class_found : (site : Site) (r : Route) (c : Class) → find (λ (k : Class). bytes_eq k.name r.class) site.classes.items ≡ Some c → nat_le r.copy c.copies ≡ said.route_has_class site r
class_found site r c e = rw (among_found (λ (k : Class). k.name) r.class site.classes.items, e) refl

pub class_not_found : (site : Site) (r : Route) → find (λ (k : Class). bytes_eq k.name r.class) site.classes.items ≡ None → false ≡ said.route_has_class site r
class_not_found site r e = rw (among_found (λ (k : Class). k.name) r.class site.classes.items, e) refl

found_passes : {A : Type 0} (p : A → Bool) (xs : List A) (x : A) → find p xs ≡ Some x → p x ≡ true
found_passes p [] x e = absurd (cc)
found_passes p (y ∷ ys) x e =
    elim (cases_Bool (p y)) [
      | inl hit ↦ let first : Some y ≡ Some x = rw hit at e in let same : y ≡ x = cc in ap p (sym same) ∙ hit
      | inr miss ↦ found_passes p ys x (rw miss at e)
    ]

-- an option that is there
there : {A : Type 0} (o : Option A) → IsSome o → (x : A) × (o ≡ Some x)
there None some = absurd (cc)
there (Some x) some = (x, refl)

-- a copy that has a route is 1 to 4
pub route_copy : (site : Site) → IsWellFormed site → (class copy : ℕ) → HasRoute site class copy → (1 ≤ copy) × (copy ≤ 4)
route_copy site valid class copy has =
    let name = class_name (slice_get site.classes.items class) in
    let r = there (find (is_route_of name copy) site.routes.items) has in
    let within : HasCopy r.0 = all_found HasCopy (is_route_of name copy) site.routes.items r.0 valid.routes r.1 in
    let is : (bytes_eq r.0.class name && r.0.copy == copy) ≡ true = found_passes (is_route_of name copy) site.routes.items r.0 r.1 in
    let same : r.0.copy ≡ copy = (Decides-eqb r.0.copy copy).0 (and_parts _ _ is).1 in
    (subst (λ n. 1 ≤ n) same within.from, subst (λ n. n ≤ 4) same within.to)

-- the route of a class is found by the class's name
pub route_of_named : (site : Site) (class copy : ℕ) (c : Class) → slice_get site.classes.items class ≡ Some c → route_of site class copy ≡ find (is_route_of c.name copy) site.routes.items
route_of_named site class copy c e = ap (λ o. find (is_route_of (class_name o) copy) site.routes.items) e

-- where there is exactly one, one is found
one_found : {A : Type 0} (p : A → Bool) (xs : List A) → (length (filter p xs) == 1) ≡ true → IsSome (find p xs)
one_found p [] e = absurd (cc)
one_found p (x ∷ xs) e =
    elim (cases_Bool (p x)) [
      | inl hit ↦ rw hit refl
      | inr miss ↦ rw miss (one_found p xs (rw miss at e))
    ]

or_left : (a b : Bool) → (a || b) ≡ true → a ≡ false → b ≡ true
or_left true b e f = absurd (cc)
or_left false b e f = e

routed : (site : Site) (c : Class) (copy : ℕ) → copy ≤ c.copies → (not (nat_le copy c.copies) || said.has_one_route site c copy) ≡ true → IsSome (find (is_route_of c.name copy) site.routes.items)
routed site c copy low e =
    let within : not (nat_le copy c.copies) ≡ false = grind (arith, nat_tests) in
    one_found (is_route_of c.name copy) site.routes.items (or_left _ _ e within)

four_pass : (p : ℕ → Bool) → list_all p said.copy_numbers ≡ true → (p 1 ≡ true) × (p 2 ≡ true) × (p 3 ≡ true) × (p 4 ≡ true)
four_pass p e =
    let a = and_parts (p 1) (p 2 && (p 3 && (p 4 && true))) e in
    let b = and_parts (p 2) (p 3 && (p 4 && true)) a.1 in
    let d = and_parts (p 3) (p 4 && true) b.1 in
    (a.0, b.0, d.0, (and_parts (p 4) true d.1).0)

one_of_four : (site : Site) (c : Class) (copy : ℕ) → 1 ≤ copy → copy ≤ 4 → copy ≤ c.copies → said.class_has_routes site c ≡ true → IsSome (find (is_route_of c.name copy) site.routes.items)
one_of_four site c copy from to low e = by_number copy from to low (four_pass (λ n. not (nat_le n c.copies) || said.has_one_route site c n) e)
  where
    by_number : (n : ℕ) → 1 ≤ n → n ≤ 4 → n ≤ c.copies → ((not (nat_le 1 c.copies) || said.has_one_route site c 1) ≡ true) × ((not (nat_le 2 c.copies) || said.has_one_route site c 2) ≡ true) × ((not (nat_le 3 c.copies) || said.has_one_route site c 3) ≡ true) × ((not (nat_le 4 c.copies) || said.has_one_route site c 4) ≡ true)
        → IsSome (find (is_route_of c.name n) site.routes.items)
    by_number zero from to low all = absurd (omega arith)
    by_number (suc zero) from to low all = routed site c 1 low all.0
    by_number (suc (suc zero)) from to low all = routed site c 2 low all.1
    by_number (suc (suc (suc zero))) from to low all = routed site c 3 low all.2
    by_number (suc (suc (suc (suc zero)))) from to low all = routed site c 4 low all.3
    by_number (suc (suc (suc (suc (suc n))))) from to low all = absurd (omega arith)

goes_to_pool : (site : Site) → IsWellFormed site → (o : Option Route) → IsSome o → ((r : Route) → o ≡ Some r → HasPool site r.pool) → pool_of_route site o < length site.pools.items
goes_to_pool site valid None some has = absurd (cc)
goes_to_pool site valid (Some r) some has = index_low (λ (p : TapePool). p.name) site.pools.items r.pool (has r refl)

pub copies_are_routed : (site : Site) → IsValidSite site → CopiesAreRouted site
copies_are_routed site valid = λ class copy low from to.
    let parts = well_formed site valid in
    let a = neither (size_fault site) (element_fault site) valid.rules in
    let b = neither (form_fault site) _ a.1 in
    let d = neither (said.store_repeat site) _ b.1 in
    let f = neither (said.device_repeat site) _ d.1 in
    let g = neither (said.class_fault site) _ f.1 in
    let h = neither (fault 17 (first_failing (said.class_has_vo site) site.classes.items)) _ g.0 in
    let i = neither (fault 18 (first_failing (said.pool_has_vo site) site.pools.items)) (fault 19 (first_failing (said.class_has_routes site) site.classes.items)) h.1 in
    let all = passes (said.class_has_routes site) site.classes.items site.classes.items (IsPermutation-refl site.classes.items) (no_item 19 _ i.1) in
    let c = item_at site.classes.items class low in
    let has : said.class_has_routes site c.0 ≡ true = all_at (λ k. said.class_has_routes site k ≡ true) site.classes.items class c.0 all c.1 in
    let copies = all_at _ site.classes.items class c.0 parts.copies c.1 in
    let is : copies_of_class site (Some class) ≡ c.0.copies = ap copies_of c.1 in
    let most : copy ≤ c.0.copies = subst (λ n. copy ≤ n) is to in
    let four : copy ≤ 4 = omega (arith, copies.to) in
    let found : HasRoute site class copy = subst (λ o. IsSome o) (sym (route_of_named site class copy c.0 c.1)) (one_of_four site c.0 copy from four most has) in
    (found, goes_to_pool site parts (route_of site class copy) found (λ r e. all_found (λ (x : Route). HasPool site x.pool) (is_route_of (class_name (slice_get site.classes.items class)) copy) site.routes.items r parts.known.route_pools e))
  where
    copies_of : Option Class → ℕ
    copies_of None = 0
    copies_of (Some c) = c.copies

-- what is found among the routes for the class at a place is the copy's route
pub route_seen : (inside now : Site) (class copy : ℕ) (classes : List Class) (routes : List Route) (x : Class) (name : List ℕ) (o : Option Route) → bare_site inside ≡ now → classes ≡ inside.classes.items → routes ≡ inside.routes.items → name ≡ x.name
    → class < length now.classes.items → x ≡ get_or classes class x → o ≡ find (is_route_of name copy) routes → route_of now class copy ≡ o
route_seen inside now class copy classes routes x name o view of_site all named low here found =
    let same : now.classes.items ≡ classes = ap (λ (s : Site). s.classes.items) (sym view) ∙ sym of_site in
    let fits : class < length classes = rw (← same) low in
    let item : slice_get now.classes.items class ≡ Some x = ap (λ l. slice_get l class) same ∙ slice_get_read classes (length classes) class x refl fits here in
    let same_routes : now.routes.items ≡ routes = ap (λ (s : Site). s.routes.items) (sym view) ∙ sym all in
    route_of_named now class copy x item ∙ ap (find (is_route_of x.name copy)) same_routes ∙ ap (λ n. find (is_route_of n copy) routes) (sym named) ∙ sym found
