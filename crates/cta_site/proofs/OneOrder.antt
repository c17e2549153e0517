-- A list has one order by names that differ.
use Rattle.std.proofs.Common.{◌≡◌, ◌∙◌, ◌+◌, ◌<◌, ◌⊎◌, ℕ, zero, suc, List, [], ◌∷◌, None, length, get_or, refl, sym, ap, subst, arith, inl, inr, map}
use Rattle.std.proofs.lemmas.List.Sorted.{Contains-permutation, IsPermutation-sym, IsPermutation-trans}
use Rattle.std.specs.List.{AllByRecursion, Contains}
use Rattle.std.specs.List.Sorted.{IsPermutation, IsStrictlySortedBy}
use Rattle.std.specs.Cmp.Lexicographic.{slice_cmp, nat_list_cmp_total}
use Rattle.std.specs.Ordering.{nat_cmp}
use Rattle.std.specs.declared.cmp.Ordering.TheVariants.{Less}
use Rattle.cta_site.specs.declared.site.Site.{Site}
use Rattle.cta_site.specs.declared.site.Vo.{Vo}
use Rattle.cta_site.specs.declared.site.Class.{Class}
use Rattle.cta_site.specs.declared.site.TapePool.{TapePool}
use Rattle.cta_site.specs.declared.site.Policy.{Policy}
use Rattle.cta_site.specs.declared.site.Tape.{Tape}
use Rattle.cta_site.specs.declared.site.Drive.{Drive}
use Rattle.cta_site.specs.Bare.{bare_site}
use Rattle.cta_site.specs.Faults.{first_fault}
use Rattle.cta_site.specs.Names.{AreAscending}
use Rattle.cta_site.specs.Numbering.{IsNumberedFrom, Rearranges}
use Rattle.cta_site.specs.WellFormed as parts
use Rattle.cta_site.proofs.Numbered.{rearranged_is_well_formed}

-- an item is one of a list
abbrev pub Among : {A : Type 0} → A → List A → Type 0
Among x [] = ⊥
Among x (y ∷ ys) = (y ≡ x) ⊎ Among x ys

into : {A : Type 0} (x : A) (xs : List A) (k : ℕ) → k < length xs → get_or xs k x ≡ x → Among x xs
into x [] k low here = absurd (omega arith)
into x (y ∷ ys) zero low here = inl here
into x (y ∷ ys) (suc k) low here = inr (into x ys k (omega arith) here)

out_of : {A : Type 0} (x : A) (xs : List A) → Among x xs → Contains xs x
out_of x [] among = absurd among
out_of x (y ∷ ys) (inl here) = (0, omega arith, here)
out_of x (y ∷ ys) (inr later) = let rest = out_of x ys later in (suc rest.0, omega arith, rest.2)

moved : {A : Type 0} (xs ys : List A) → IsPermutation xs ys → (x : A) → Among x xs → Among x ys
moved xs ys order x among = let there = Contains-permutation xs ys x order (out_of x xs among) in into x ys there.0 there.1 there.2

below_all : {A : Type 0} (name : A → List ℕ) (n : List ℕ) (xs : List A) → AllByRecursion (λ m. slice_cmp nat_cmp n m ≡ Less) (map name xs) → (x : A) → Among x xs → slice_cmp nat_cmp n (name x) ≡ Less
below_all name n [] all x among = absurd among
below_all name n (y ∷ ys) all x (inl here) = subst (λ z. slice_cmp nat_cmp n (name z) ≡ Less) here all.0
below_all name n (y ∷ ys) all x (inr later) = below_all name n ys all.1 x later

not_both : (a b : List ℕ) → slice_cmp nat_cmp a b ≡ Less → slice_cmp nat_cmp b a ≡ Less → ⊥
not_both a b e f = let turned = nat_list_cmp_total.antisymm a b in cc

same_order : {A : Type 0} (name : A → List ℕ) (xs ys : List A) → AreAscending (map name xs) → AreAscending (map name ys) → ((x : A) → Among x xs → Among x ys) → ((x : A) → Among x ys → Among x xs) → xs ≡ ys
unfolding IsStrictlySortedBy
same_order name [] [] up_x up_y there back = refl
same_order name [] (y ∷ ys) up_x up_y there back = absurd (back y (inl refl))
same_order name (x ∷ xs) [] up_x up_y there back = absurd (there x (inl refl))
same_order {A} name (x ∷ xs) (y ∷ ys) up_x up_y there back =
    let heads : y ≡ x = first (there x (inl refl)) (back y (inl refl)) in
    let tails : xs ≡ ys = same_order name xs ys up_x.1 up_y.1
    (λ z among. not_first y x z ys (sym heads) (below_all name (name x) xs up_x.0 z among) (there z (inr among)))
    (λ z among. not_first x y z xs heads (below_all name (name y) ys up_y.0 z among) (back z (inr among))) in
    ap (λ l. x ∷ l) tails ∙ ap (λ h. h ∷ ys) (sym heads)
  where
    first : (y ≡ x) ⊎ Among x ys → (x ≡ y) ⊎ Among y xs → y ≡ x
    first (inl here) other = here
    first (inr later) (inl here) = sym here
    first (inr later) (inr sooner) = absurd (not_both (name y) (name x) (below_all name (name y) ys up_y.0 x later) (below_all name (name x) xs up_x.0 y sooner))

    not_first : (h g z : A) (zs : List A) → g ≡ h → slice_cmp nat_cmp (name g) (name z) ≡ Less → (h ≡ z) ⊎ Among z zs → Among z zs
    not_first h g z zs same above (inl here) =
        let itself : g ≡ z = same ∙ here in
        let bad : slice_cmp nat_cmp (name z) (name z) ≡ Less = subst (λ w. slice_cmp nat_cmp (name w) (name z) ≡ Less) itself above in
        absurd (not_both (name z) (name z) bad bad)
    not_first h g z zs same above (inr later) = later

one_list : {A : Type 0} (name : A → List ℕ) (file xs ys : List A) → IsPermutation file xs → IsPermutation file ys → AreAscending (map name xs) → AreAscending (map name ys) → xs ≡ ys
one_list name file xs ys to_x to_y up_x up_y =
    same_order name xs ys up_x up_y
    (λ z among. moved file ys to_y z (moved xs file (IsPermutation-sym file xs to_x) z among))
    (λ z among. moved file xs to_x z (moved ys file (IsPermutation-sym file ys to_y) z among))

map_same : (xs : List (List ℕ)) → map (λ l. l) xs ≡ xs
map_same [] = refl
map_same (x ∷ xs) = ap (λ l. x ∷ l) (map_same xs)

-- a file that breaks no rule is numbered in one way
pub one_numbering : (file a b : Site) → first_fault file ≡ None → IsNumberedFrom file a → IsNumberedFrom file b → a ≡ b
one_numbering file a b e p q =
    let r = p.same in
    let s = q.same in
    let up_a : parts.AreNumbered a = (rearranged_is_well_formed file a e r p.in_order).numbered in
    let up_b : parts.AreNumbered b = (rearranged_is_well_formed file b e s q.in_order).numbered in
    let version : a.version ≡ b.version = r.version ∙ sym s.version in
    let sitename : a.sitename ≡ b.sitename = r.sitename ∙ sym s.sitename in
    let endpoint : a.endpoint ≡ b.endpoint = r.endpoint ∙ sym s.endpoint in
    let default_policy : a.default_policy ≡ b.default_policy = r.default_policy ∙ sym s.default_policy in
    let repack_policy : a.repack_policy ≡ b.repack_policy = r.repack_policy ∙ sym s.repack_policy in
    let limits : a.limits ≡ b.limits = r.limits ∙ sym s.limits in
    let vos : a.vos.items ≡ b.vos.items = one_list (λ (v : Vo). v.name) file.vos.items a.vos.items b.vos.items r.vos s.vos up_a.vos up_b.vos in
    let classes : a.classes.items ≡ b.classes.items = one_list (λ (k : Class). k.name) file.classes.items a.classes.items b.classes.items r.classes s.classes up_a.classes up_b.classes in
    let pools : a.pools.items ≡ b.pools.items = one_list (λ (x : TapePool). x.name) file.pools.items a.pools.items b.pools.items r.pools s.pools up_a.pools up_b.pools in
    let routes : a.routes.items ≡ b.routes.items = r.routes ∙ sym s.routes in
    let policies : a.policies.items ≡ b.policies.items = one_list (λ (x : Policy). x.name) file.policies.items a.policies.items b.policies.items r.policies s.policies up_a.policies up_b.policies in
    let rules : a.rules.items ≡ b.rules.items = r.rules ∙ sym s.rules in
    let libraries : a.libraries.items ≡ b.libraries.items = one_list (λ (l : List ℕ). l) file.libraries.items a.libraries.items b.libraries.items r.libraries s.libraries (subst AreAscending (sym (map_same a.libraries.items)) up_a.libraries) (subst AreAscending (sym (map_same b.libraries.items)) up_b.libraries) in
    let tapes : a.tapes.items ≡ b.tapes.items = one_list (λ (t : Tape). t.vid) file.tapes.items a.tapes.items b.tapes.items r.tapes s.tapes up_a.tapes up_b.tapes in
    let drives : a.drives.items ≡ b.drives.items = one_list (λ (d : Drive). d.name) file.drives.items a.drives.items b.drives.items r.drives s.drives up_a.drives up_b.drives in
    let directories : a.directories.items ≡ b.directories.items = r.directories ∙ sym s.directories in
    let failures : a.failures.items ≡ b.failures.items = r.failures ∙ sym s.failures in
    let bare : bare_site a ≡ bare_site b = rw (version, sitename, endpoint, default_policy, repack_policy, limits, vos, classes, pools, routes, policies, rules, libraries, tapes, drives, directories, failures) refl in
    p.bare ∙ bare ∙ sym q.bare
