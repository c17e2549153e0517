-- The routes of a class go to different pools.
use Rattle.std.proofs.Common.{◌≡◌, ◌∙◌, ◌||◌, ◌&&◌, ◌⊎◌, ℕ, List, [], ◌∷◌, ◌++◌, Bool, true, false, Option, Some, None, length, refl, sym, ap, subst, inl, inr}
use Rattle.std.proofs.lemmas.Bool.{and_parts, cases_Bool}
use Rattle.std.proofs.lemmas.Bool.Decides.{Decides-eqb}
use Rattle.std.proofs.lemmas.List.Folds.{list_any-append}
use Rattle.std.proofs.lemmas.Slice.Eq.{bytes_eq-Decides}
use Rattle.std.specs.Prelude.{◌==◌, bytes_eq, find, slice_get, IsSome, unwrap_or, option_and_then}
use Rattle.std.specs.List.{list_any, position}
use Rattle.cta_site.specs.declared.site.Site.{Site}
use Rattle.cta_site.specs.declared.site.Route.{Route}
use Rattle.cta_site.specs.declared.site.TapePool.{TapePool}
use Rattle.cta_site.specs.Items.{first_failing, first_same, repeat_after, fault}
use Rattle.cta_site.specs.Laws.{RoutesGoApart}
use Rattle.cta_site.specs.Faults.{element_fault}
use Rattle.cta_site.specs.Forms.{size_fault, form_fault}
use Rattle.cta_site.specs.Lookups.{class_name, is_route_of, route_of, pool_of, pool_of_route, pool_number, place_by, HasRoute}
use Rattle.cta_site.specs.References as said
use Rattle.cta_site.specs.ValidSite.{IsValidSite}
use Rattle.cta_site.specs.WellFormed.{IsWellFormed, HasPool}
use Rattle.cta_site.proofs.Found.{found_at}
use Rattle.cta_site.proofs.Known.{all_found}
use Rattle.cta_site.proofs.Laws.{found_low, item_at}
use Rattle.cta_site.proofs.Numbered.{well_formed}
use Rattle.cta_site.proofs.Unbroken.{neither, no_item}

found_passes : {A : Type 0} (p : A → Bool) (xs : List A) (x : A) → find p xs ≡ Some x → p x ≡ true
found_passes p [] x e = absurd (cc)
found_passes p (y ∷ ys) x e =
    elim (cases_Bool (p y)) [
      | inl hit ↦ let first : Some y ≡ Some x = rw hit at e in let same : y ≡ x = cc in ap p (sym same) ∙ hit
      | inr miss ↦ found_passes p ys x (rw miss at e)
    ]

no_left : (a b : Bool) → (a || b) ≡ false → a ≡ false
no_left true b e = absurd (cc)
no_left false b e = refl

no_right : (a b : Bool) → (a || b) ≡ false → b ≡ false
no_right true b e = absurd (cc)
no_right false b e = e

-- ---- no two are the same

-- what is found among the later ones is the same as none that was seen
seen_other : {A : Type 0} (same : A → A → Bool) (q : A → Bool) (seen xs : List A) (s : A) → find q xs ≡ Some s → repeat_after same seen xs ≡ None → list_any (same s) seen ≡ false
seen_other same q seen [] s found none = absurd (cc)
seen_other {A} same q seen (y ∷ ys) s found none =
    elim (cases_Bool (list_any (same y) seen)) [
      | inl again ↦ let bad : Some (length seen) ≡ None = rw again at none in absurd (cc)
      | inr new ↦
          let rest : repeat_after same (seen ++ y ∷ []) ys ≡ None = rw new at none in
          elim (cases_Bool (q y)) [
            | inl hit ↦
                let first : Some y ≡ Some s = rw hit at found in
                let is : y ≡ s = cc in
                subst (λ (x : A). list_any (same x) seen ≡ false) is new
            | inr miss ↦
                let all : list_any (same s) (seen ++ y ∷ []) ≡ false = seen_other same q (seen ++ y ∷ []) ys s (rw miss at found) rest in
                no_left (list_any (same s) seen) (list_any (same s) (y ∷ [])) (sym (list_any-append (same s) seen (y ∷ [])) ∙ all)
          ]
    ]

-- the last that was seen is the same as none that is found later
last_other : {A : Type 0} (same : A → A → Bool) (q : A → Bool) (seen ys : List A) (y s : A) → find q ys ≡ Some s → repeat_after same (seen ++ y ∷ []) ys ≡ None → same s y ≡ false
last_other same q seen ys y s found none =
    let all : list_any (same s) (seen ++ y ∷ []) ≡ false = seen_other same q (seen ++ y ∷ []) ys s found none in
    let last : list_any (same s) (y ∷ []) ≡ false = no_right (list_any (same s) seen) (list_any (same s) (y ∷ [])) (sym (list_any-append (same s) seen (y ∷ [])) ∙ all) in
    no_left (same s y) false last

-- two that are found by tests that exclude each other are not the same, one way or the other
two_differ : {A : Type 0} (same : A → A → Bool) (p q : A → Bool) (seen xs : List A) (r s : A) → ((x : A) → p x ≡ true → q x ≡ true → ⊥) → find p xs ≡ Some r → find q xs ≡ Some s → repeat_after same seen xs ≡ None → (same r s ≡ false) ⊎ (same s r ≡ false)
two_differ same p q seen [] r s apart fp fq none = absurd (cc)
two_differ {A} same p q seen (y ∷ ys) r s apart fp fq none =
    elim (cases_Bool (list_any (same y) seen)) [
      | inl again ↦ let bad : Some (length seen) ≡ None = rw again at none in absurd (cc)
      | inr new ↦
          let rest : repeat_after same (seen ++ y ∷ []) ys ≡ None = rw new at none in
          elim (cases_Bool (p y)) [
            | inl py ↦
                let first : Some y ≡ Some r = rw py at fp in
                let is : y ≡ r = cc in
                elim (cases_Bool (q y)) [
                  | inl qy ↦ absurd (apart y py qy)
                  | inr not_q ↦ inr (subst (λ (x : A). same s x ≡ false) is (last_other same q seen ys y s (rw not_q at fq) rest))
                ]
            | inr not_p ↦
                elim (cases_Bool (q y)) [
                  | inl qy ↦
                      let first : Some y ≡ Some s = rw qy at fq in
                      let is : y ≡ s = cc in
                      inl (subst (λ (x : A). same r x ≡ false) is (last_other same p seen ys y r (rw not_p at fp) rest))
                  | inr not_q ↦ two_differ same p q (seen ++ y ∷ []) ys r s apart (rw not_p at fp) (rw not_q at fq) rest
                ]
          ]
    ]

-- ---- pools of one number have one name

number_found : {A : Type 0} (p q : A → Bool) (xs : List A) (o u : Option ℕ) → position p xs ≡ o → position q xs ≡ u → IsSome o → IsSome u → unwrap_or o (length xs) ≡ unwrap_or u (length xs) → find p xs ≡ find q xs
number_found p q xs None u a b some more e = absurd (cc)
number_found p q xs (Some i) None a b some more e = absurd (cc)
number_found p q xs (Some i) (Some j) a b some more e =
    sym (found_at p xs) ∙ ap (option_and_then (slice_get xs)) a ∙ ap (slice_get xs) e ∙ sym (ap (option_and_then (slice_get xs)) b) ∙ found_at q xs

there : {A : Type 0} (o : Option A) → IsSome o → (x : A) × (o ≡ Some x)
there None some = absurd (cc)
there (Some x) some = (x, refl)

place_item : {A : Type 0} (p : A → Bool) (xs : List A) (i : ℕ) → position p xs ≡ Some i → find p xs ≡ slice_get xs i
place_item p xs i e = sym (found_at p xs) ∙ ap (option_and_then (slice_get xs)) e

same_pool : (site : Site) (a b : List ℕ) → HasPool site a → HasPool site b → pool_number site a ≡ pool_number site b → a ≡ b
same_pool site a b ha hb e =
    let one : find (λ (x : TapePool). bytes_eq x.name a) site.pools.items ≡ find (λ (x : TapePool). bytes_eq x.name b) site.pools.items =
    number_found (λ (x : TapePool). bytes_eq x.name a) (λ (x : TapePool). bytes_eq x.name b) site.pools.items (place_by (λ (x : TapePool). x.name) site.pools.items a) (place_by (λ (x : TapePool). x.name) site.pools.items b) refl refl ha hb e in
    let i = there (place_by (λ (x : TapePool). x.name) site.pools.items a) ha in
    let y = item_at site.pools.items i.0 (found_low (λ (x : TapePool). x.name) site.pools.items a i.0 i.1) in
    let x : (x : TapePool) × (find (λ (x : TapePool). bytes_eq x.name a) site.pools.items ≡ Some x) = (y.0, place_item (λ (x : TapePool). bytes_eq x.name a) site.pools.items i.0 i.1 ∙ y.1) in
    let na : bytes_eq x.0.name a ≡ true = found_passes (λ (x : TapePool). bytes_eq x.name a) site.pools.items x.0 x.1 in
    let nb : bytes_eq x.0.name b ≡ true = found_passes (λ (x : TapePool). bytes_eq x.name b) site.pools.items x.0 (sym one ∙ x.1) in
    sym ((bytes_eq-Decides x.0.name a).0 na) ∙ (bytes_eq-Decides x.0.name b).0 nb

-- ---- the law

routes_differ : (site : Site) → IsValidSite site → first_same said.same_ends site.routes.items ≡ None
routes_differ site valid =
    let a = neither (size_fault site) (element_fault site) valid.rules in
    let b = neither (form_fault site) _ a.1 in
    let d = neither (said.store_repeat site) _ b.1 in
    let f = neither (said.device_repeat site) _ d.1 in
    let g = neither (said.class_fault site) _ f.1 in
    let h = neither (said.route_fault site) _ g.1 in
    let i = neither (fault 20 (first_failing (said.route_has_class site) site.routes.items)) _ h.0 in
    let j = neither (fault 21 (first_failing (said.route_has_pool site) site.routes.items)) _ i.1 in
    let k = neither (fault 22 (first_failing (said.route_keeps_vo site) site.routes.items)) (fault 23 (first_same said.same_ends site.routes.items)) j.1 in
    no_item 23 _ k.1

same_ends_by : (r s : Route) → r.class ≡ s.class → r.pool ≡ s.pool → said.same_ends r s ≡ true
same_ends_by r s class pool = rw ((bytes_eq-Decides r.class s.class).1 class, (bytes_eq-Decides r.pool s.pool).1 pool) refl

pub routes_go_apart : (site : Site) → IsValidSite site → RoutesGoApart site
routes_go_apart site valid = λ class c d rc rd e.
    let parts : IsWellFormed site = well_formed site valid in
    let r = there (route_of site class c) rc in
    let s = there (route_of site class d) rd in
    let pr = and_parts (bytes_eq r.0.class (class_name (slice_get site.classes.items class))) (r.0.copy == c) (found_passes (is_route_of (class_name (slice_get site.classes.items class)) c) site.routes.items r.0 r.1) in
    let ps = and_parts (bytes_eq s.0.class (class_name (slice_get site.classes.items class))) (s.0.copy == d) (found_passes (is_route_of (class_name (slice_get site.classes.items class)) d) site.routes.items s.0 s.1) in
    let pools : pool_number site r.0.pool ≡ pool_number site s.0.pool = sym (ap (pool_of_route site) r.1) ∙ e ∙ ap (pool_of_route site) s.1 in
    let hr : HasPool site r.0.pool = all_found (λ (x : Route). HasPool site x.pool) (is_route_of (class_name (slice_get site.classes.items class)) c) site.routes.items r.0 parts.known.route_pools r.1 in
    let hs : HasPool site s.0.pool = all_found (λ (x : Route). HasPool site x.pool) (is_route_of (class_name (slice_get site.classes.items class)) d) site.routes.items s.0 parts.known.route_pools s.1 in
    let pool : r.0.pool ≡ s.0.pool = same_pool site r.0.pool s.0.pool hr hs pools in
    let of_class : r.0.class ≡ s.0.class = (bytes_eq-Decides r.0.class (class_name (slice_get site.classes.items class))).0 pr.0 ∙ sym ((bytes_eq-Decides s.0.class (class_name (slice_get site.classes.items class))).0 ps.0) in
    elim (cases_Bool (c == d)) [
      | inl same ↦ (Decides-eqb c d).0 same
      | inr other ↦
          elim (two_differ said.same_ends (is_route_of (class_name (slice_get site.classes.items class)) c) (is_route_of (class_name (slice_get site.classes.items class)) d) [] site.routes.items r.0 s.0 (λ x px qx. not_both x c d (class_name (slice_get site.classes.items class)) other px qx) r.1 s.1 (routes_differ site valid)) [
            | inl x ↦ let bad : said.same_ends r.0 s.0 ≡ true = same_ends_by r.0 s.0 of_class pool in absurd (cc)
            | inr x ↦ let bad : said.same_ends s.0 r.0 ≡ true = same_ends_by s.0 r.0 (sym of_class) (sym pool) in absurd (cc)
          ]
    ]
  where
    not_both : (x : Route) (c d : ℕ) (name : List ℕ) → (c == d) ≡ false → is_route_of name c x ≡ true → is_route_of name d x ≡ true → ⊥
    not_both x c d name other px qx =
        let ec : x.copy ≡ c = (Decides-eqb x.copy c).0 (and_parts (bytes_eq x.class name) (x.copy == c) px).1 in
        let ed : x.copy ≡ d = (Decides-eqb x.copy d).0 (and_parts (bytes_eq x.class name) (x.copy == d) qx).1 in
        let same : (c == d) ≡ true = (Decides-eqb c d).1 (sym ec ∙ ed) in
        cc
