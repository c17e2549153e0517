-- A site that breaks no rule breaks none once its numbered lists are in order.
use Rattle.std.proofs.Common.{◌≡◌, ◌∙◌, ◌+◌, ◌∷◌, ◌++◌, ◌||◌, ◌&&◌, ℕ, List, [], Bool, true, false, Option, Some, None, length, refl, sym, ap, inl, inr, map, not, cond, subst}
use Rattle.std.proofs.lemmas.Bool.{and_parts, cases_Bool}
use Rattle.std.proofs.lemmas.Iterator.Adapters.{position_from-zero}
use Rattle.std.proofs.lemmas.List.Sorted.{list_any-IsPermutation, IsPermutation-map, IsPermutation-refl, length_permutation}
use Rattle.std.proofs.lemmas.Map.Keys.{IsDistinct-IsPermutation}
use Rattle.std.proofs.lemmas.Slice.Eq.{bytes_eq-Decides}
use Rattle.std.proofs.lemmas.Bool.Decides.{Decides-eqb}
use Rattle.std.specs.Prelude.{bytes_eq, find, nat_le, is_some, option_map, unwrap_or, ◌==◌}
use Rattle.std.specs.Option.{option_or}
use Rattle.std.specs.List.{AllByRecursion, IsDistinct, list_any, list_all, position_from, filter}
use Rattle.std.specs.List.Sorted.{IsPermutation}
use Rattle.std.specs.Cmp.Lexicographic.{nat_list_eq_equiv}
use Rattle.cta_site.specs.declared.site.Site.{Site}
use Rattle.cta_site.specs.declared.site.Vo.{Vo}
use Rattle.cta_site.specs.declared.site.Class.{Class}
use Rattle.cta_site.specs.declared.site.TapePool.{TapePool}
use Rattle.cta_site.specs.declared.site.Route.{Route}
use Rattle.cta_site.specs.declared.site.Policy.{Policy}
use Rattle.cta_site.specs.declared.site.Tape.{Tape}
use Rattle.cta_site.specs.declared.site.Drive.{Drive}
use Rattle.cta_site.specs.declared.site.Directory.{Directory}
use Rattle.cta_site.specs.Faults.{first_fault, element_fault}
use Rattle.cta_site.specs.Forms.{size_fault, form_fault, out_of_range, misnamed, is_name, is_vo, is_class, is_route, is_policy, is_rule, is_tape, is_failure, are_texts, are_limits, fits_buffer, are_counts}
use Rattle.cta_site.specs.Items.{first_failing, first_same, first_repeat, repeat_after, is_among, fault, unless}
use Rattle.cta_site.specs.Lookups.{is_route_of, copies_in, vo_name}
use Rattle.cta_site.specs.Names.{vo_names, class_names, pool_names, policy_names, vids, drive_names, directory_paths}
use Rattle.cta_site.specs.Numbering.{Rearranges}
use Rattle.cta_site.specs.Paths.{is_path}
use Rattle.cta_site.specs.References as said
use Rattle.cta_site.proofs.Unbroken.{neither, kept, no_item}
use Rattle.cta_site.proofs.Kept.{keeps_sizes}
use Rattle.cta_site.proofs.Ordered.{no_repeat, passes, all_map}
use Rattle.cta_site.proofs.Found.{among_found}
use Rattle.cta_site.proofs.Sets.{is_among-push}

-- where all items pass, none is the first to fail
still_from : {A : Type 0} (test : A → Bool) (i : ℕ) (xs : List A) → AllByRecursion (λ x. test x ≡ true) xs → position_from (λ x. not (test x)) i xs ≡ None
still_from test i [] all = refl
still_from test i (x ∷ xs) all = let pass : not (test x) ≡ false = ap not all.0 in rw pass (still_from test (i + 1) xs all.1)

pub still : {A : Type 0} (test now : A → Bool) → ((x : A) → test x ≡ true → now x ≡ true) → (xs ys : List A) → IsPermutation xs ys → first_failing test xs ≡ None → first_failing now ys ≡ None
still test now keeps xs ys moved e =
    position_from-zero (λ x. not (now x)) ys ∙ still_from now 0 ys (all_map (λ x. test x ≡ true) (λ x. now x ≡ true) keeps ys (passes test xs ys moved e))

-- names that differ do not repeat
none_again : (seen ns : List (List ℕ)) → AllByRecursion (λ n. is_among seen n ≡ false) ns → IsDistinct bytes_eq ns → repeat_after bytes_eq seen ns ≡ None
unfolding IsDistinct
none_again seen [] fresh apart = refl
none_again seen (n ∷ ns) fresh apart = rw fresh.0 (none_again (seen ++ n ∷ []) ns (pushed ns fresh.1 apart.0) apart.1)
  where
    one_more : (n m : List ℕ) (b : Bool) → b ≡ false → bytes_eq n m ≡ false → cond (bytes_eq m n) true b ≡ false
    one_more n m b old other = let turned : bytes_eq m n ≡ false = nat_list_eq_equiv.symm m n ∙ other in rw turned old

    pushed : (ms : List (List ℕ)) → AllByRecursion (λ m. is_among seen m ≡ false) ms → AllByRecursion (λ m. bytes_eq n m ≡ false) ms → AllByRecursion (λ m. is_among (seen ++ n ∷ []) m ≡ false) ms
    pushed [] old other = tt
    pushed (m ∷ ms) old other = (is_among-push seen n m ∙ one_more n m (is_among seen m) old.0 other.0, pushed ms old.1 other.1)

all_fresh : (ns : List (List ℕ)) → AllByRecursion (λ n. is_among [] n ≡ false) ns
all_fresh [] = tt
all_fresh (n ∷ ns) = (refl, all_fresh ns)

pub differ_still : (ns ms : List (List ℕ)) → IsPermutation ns ms → first_repeat ns ≡ None → first_repeat ms ≡ None
differ_still ns ms moved e =
    none_again [] ms (all_fresh ms) (IsDistinct-IsPermutation bytes_eq nat_list_eq_equiv.symm ns ms moved (no_repeat [] ns e).1)

-- a name is among the names of a list in another order too
pub among_still : (ns ms : List (List ℕ)) (name : List ℕ) → IsPermutation ns ms → is_among ms name ≡ is_among ns name
among_still ns ms name moved = sym (list_any-IsPermutation (bytes_eq name) ns ms moved)

-- one item of a name that passes a test is the one that the name finds, where names differ
none_named : {A : Type 0} (name : A → List ℕ) (test : A → Bool) (key n : List ℕ) (xs : List A) → bytes_eq n key ≡ true → AllByRecursion (λ m. bytes_eq n m ≡ false) (map name xs) → list_any (λ x. bytes_eq (name x) key && test x) xs ≡ false
none_named name test key n [] same apart = refl
none_named name test key n (x ∷ xs) same apart =
    let is : n ≡ key = (bytes_eq-Decides n key).0 same in
    let other : bytes_eq (name x) key ≡ false = nat_list_eq_equiv.symm (name x) key ∙ ap (λ m. bytes_eq m (name x)) (sym is) ∙ apart.0 in
    rw other (none_named name test key n xs same apart.1)

passes_found : {A : Type 0} (name : A → List ℕ) (test : A → Bool) (key : List ℕ) (xs : List A) → IsDistinct bytes_eq (map name xs) → list_any (λ x. bytes_eq (name x) key && test x) xs ≡ true → (x : A) × (find (λ y. bytes_eq (name y) key) xs ≡ Some x) × (test x ≡ true)
unfolding IsDistinct
passes_found name test key [] apart some = absurd (cc)
passes_found name test key (x ∷ xs) apart some =
    elim (cases_Bool (bytes_eq (name x) key)) [
      | inl hit ↦ elim (cases_Bool (test x)) [
        | inl pass ↦ (x, rw hit refl, pass)
        | inr fail ↦
            let later : list_any (λ y. bytes_eq (name y) key && test y) xs ≡ true = rw (hit, fail) at some in
            let none : list_any (λ y. bytes_eq (name y) key && test y) xs ≡ false = none_named name test key (name x) xs hit apart.0 in
            absurd (cc)
      ]
      | inr miss ↦
          let rest = passes_found name test key xs apart.1 (rw miss at some) in
          (rest.0, rw miss rest.1, rest.2)
    ]

-- what is found passes a test, so some item of its name does
found_passes : {A : Type 0} (name : A → List ℕ) (test : A → Bool) (key : List ℕ) (xs : List A) (x : A) → find (λ y. bytes_eq (name y) key) xs ≡ Some x → test x ≡ true → list_any (λ y. bytes_eq (name y) key && test y) xs ≡ true
found_passes name test key [] x e pass = absurd (cc)
found_passes name test key (y ∷ ys) x e pass =
    elim (cases_Bool (bytes_eq (name y) key)) [
      | inl hit ↦
          let first : Some y ≡ Some x = rw hit at e in
          let same : y ≡ x = cc in
          let yes : test y ≡ true = ap test same ∙ pass in
          rw (hit, yes) refl
      | inr miss ↦ rw miss (found_passes name test key ys x (rw miss at e) pass)
    ]

not_found : {A : Type 0} (name : A → List ℕ) (key : List ℕ) (xs : List A) → find (λ y. bytes_eq (name y) key) xs ≡ None → is_among (map name xs) key ≡ false
not_found name key xs e = among_found name key xs ∙ ap is_some e

found_none : {A : Type 0} (name : A → List ℕ) (key : List ℕ) (xs : List A) → is_among (map name xs) key ≡ false → find (λ y. bytes_eq (name y) key) xs ≡ None
found_none name key xs e = none_of (find (λ y. bytes_eq (name y) key) xs) (sym (among_found name key xs) ∙ e)
  where
    none_of : {A : Type 0} (o : Option A) → is_some o ≡ false → o ≡ None
    none_of None f = refl
    none_of (Some x) f = absurd (cc)

-- what a name finds is the same in a list in another order, where names differ, as far as a value of it that can be compared tells
pub found_still : {A B : Type 0} (name : A → List ℕ) (value : A → B) (same : B → B → Bool) → ((a b : B) → same a b ≡ true → a ≡ b) → ((a : B) → same a a ≡ true)
    → (key : List ℕ) (xs ys : List A) → IsPermutation xs ys → first_repeat (map name xs) ≡ None → option_map value (find (λ x. bytes_eq (name x) key) ys) ≡ option_map value (find (λ x. bytes_eq (name x) key) xs)
found_still {A} {B} name value same means itself key xs ys moved differ = by_found (find (λ x. bytes_eq (name x) key) xs) refl
  where
    moved_names : IsPermutation (map name xs) (map name ys)
    moved_names = IsPermutation-map name xs ys moved

    apart : IsDistinct bytes_eq (map name ys)
    apart = IsDistinct-IsPermutation bytes_eq nat_list_eq_equiv.symm (map name xs) (map name ys) moved_names (no_repeat [] (map name xs) differ).1

    by_found : (o : Option A) → find (λ x. bytes_eq (name x) key) xs ≡ o → option_map value (find (λ x. bytes_eq (name x) key) ys) ≡ option_map value (find (λ x. bytes_eq (name x) key) xs)
    by_found None e =
        let none : find (λ x. bytes_eq (name x) key) ys ≡ None = found_none name key ys (among_still (map name xs) (map name ys) key moved_names ∙ not_found name key xs e) in
        rw (none, e) refl
    by_found (Some x) e =
        let test : A → Bool = λ y. same (value y) (value x) in
        let some : list_any (λ y. bytes_eq (name y) key && test y) ys ≡ true = sym (list_any-IsPermutation (λ y. bytes_eq (name y) key && test y) xs ys moved) ∙ found_passes name test key xs x e (itself (value x)) in
        let found = passes_found name test key ys apart some in
        rw (found.1, e) (ap Some (means (value found.0) (value x) found.2))

-- ---- rule by rule

none_or : {X : Type 0} (a b : Option X) → a ≡ None → b ≡ None → option_or a b ≡ None
none_or a b e f = rw (e, f) refl

no_fault : (rule : ℕ) (i : Option ℕ) → i ≡ None → fault rule i ≡ None
no_fault rule i e = rw e refl

is_kept : (rule : ℕ) (b : Bool) → b ≡ true → fault rule (unless b) ≡ None
is_kept rule b e = rw e refl

both_hold : (a b : Bool) → a ≡ true → b ≡ true → (a && b) ≡ true
both_hold a b e f = rw (e, f) refl

pub unmoved : {A : Type 0} (xs ys : List A) → ys ≡ xs → IsPermutation xs ys
unmoved xs ys same = subst (λ l. IsPermutation xs l) (sym same) (IsPermutation-refl xs)

copies_told : (o : Option Class) → copies_in o ≡ unwrap_or (option_map (λ (c : Class). c.copies) o) 0
copies_told None = refl
copies_told (Some c) = refl

class_vo_told : (o : Option Class) → said.class_vo o ≡ unwrap_or (option_map (λ (c : Class). c.vo) o) []
class_vo_told None = refl
class_vo_told (Some c) = refl

pool_vo_told : (o : Option TapePool) → vo_name o ≡ unwrap_or (option_map (λ (p : TapePool). p.vo) o) []
pool_vo_told None = refl
pool_vo_told (Some p) = refl

same_number : (a b : ℕ) → (a == b) ≡ true → a ≡ b
same_number a b e = (Decides-eqb a b).0 e

number_itself : (a : ℕ) → (a == a) ≡ true
number_itself a = (Decides-eqb a a).1 refl

module _ (file site : Site) (r : Rearranges file site) where
  same_length : {A : Type 0} (xs ys : List A) → IsPermutation xs ys → length ys ≡ length xs
  same_length xs ys moved = length_permutation xs ys moved

  texts_still : are_texts site ≡ are_texts file
  texts_still = rw (r.sitename, r.endpoint, r.default_policy, r.repack_policy) refl

  counts_still : are_counts site ≡ are_counts file
  counts_still =
      let vos = same_length file.vos.items site.vos.items r.vos in
      let classes = same_length file.classes.items site.classes.items r.classes in
      let pools = same_length file.pools.items site.pools.items r.pools in
      let policies = same_length file.policies.items site.policies.items r.policies in
      let libraries = same_length file.libraries.items site.libraries.items r.libraries in
      let tapes = same_length file.tapes.items site.tapes.items r.tapes in
      let drives = same_length file.drives.items site.drives.items r.drives in
      rw (vos, classes, pools, r.routes, policies, r.rules, r.directories, libraries, tapes, drives, r.failures) refl

  sizes_still : size_fault file ≡ None → size_fault site ≡ None
  sizes_still e =
      let sizes = keeps_sizes file e in
      none_or _ _ (is_kept 3 (are_texts site) (texts_still ∙ sizes.texts))
      (none_or _ _ (is_kept 4 (are_limits site.limits) (ap are_limits r.limits ∙ sizes.limits))
      (none_or _ _ (is_kept 5 (fits_buffer site.limits) (ap fits_buffer r.limits ∙ sizes.buffer))
      (is_kept 6 (are_counts site) (counts_still ∙ sizes.counts))))

  ranges_still : out_of_range file ≡ None → out_of_range site ≡ None
  ranges_still e =
      let a = neither (first_failing is_vo file.vos.items) _ e in
      let b = neither (first_failing is_class file.classes.items) _ a.1 in
      let d = neither (first_failing is_route file.routes.items) _ b.1 in
      let f = neither (first_failing is_policy file.policies.items) _ d.1 in
      let g = neither (first_failing is_rule file.rules.items) _ f.1 in
      let h = neither (first_failing is_tape file.tapes.items) (first_failing is_failure file.failures.items) g.1 in
      none_or _ _ (still is_vo is_vo (λ x t. t) _ _ r.vos a.0)
      (none_or _ _ (still is_class is_class (λ x t. t) _ _ r.classes b.0)
      (none_or _ _ (still is_route is_route (λ x t. t) _ _ (unmoved _ _ r.routes) d.0)
      (none_or _ _ (still is_policy is_policy (λ x t. t) _ _ r.policies f.0)
      (none_or _ _ (still is_rule is_rule (λ x t. t) _ _ (unmoved _ _ r.rules) g.0)
      (none_or _ _ (still is_tape is_tape (λ x t. t) _ _ r.tapes h.0)
      (still is_failure is_failure (λ x t. t) _ _ (unmoved _ _ r.failures) h.1))))))

  names_still : misnamed file ≡ None → misnamed site ≡ None
  names_still e =
      let a = neither (first_failing (λ (v : Vo). is_name v.name) file.vos.items) _ e in
      let b = neither (first_failing (λ (k : Class). is_name k.name) file.classes.items) _ a.1 in
      let d = neither (first_failing (λ (p : TapePool). is_name p.name) file.pools.items) _ b.1 in
      let f = neither (first_failing (λ (p : Policy). is_name p.name) file.policies.items) _ d.1 in
      let g = neither (first_failing is_name file.libraries.items) _ f.1 in
      let h = neither (first_failing (λ (t : Tape). is_name t.vid) file.tapes.items) (first_failing (λ (k : Drive). is_name k.name) file.drives.items) g.1 in
      none_or _ _ (still (λ (v : Vo). is_name v.name) (λ (v : Vo). is_name v.name) (λ x t. t) _ _ r.vos a.0)
      (none_or _ _ (still (λ (k : Class). is_name k.name) (λ (k : Class). is_name k.name) (λ x t. t) _ _ r.classes b.0)
      (none_or _ _ (still (λ (p : TapePool). is_name p.name) (λ (p : TapePool). is_name p.name) (λ x t. t) _ _ r.pools d.0)
      (none_or _ _ (still (λ (p : Policy). is_name p.name) (λ (p : Policy). is_name p.name) (λ x t. t) _ _ r.policies f.0)
      (none_or _ _ (still is_name is_name (λ x t. t) _ _ r.libraries g.0)
      (none_or _ _ (still (λ (t : Tape). is_name t.vid) (λ (t : Tape). is_name t.vid) (λ x t. t) _ _ r.tapes h.0)
      (still (λ (k : Drive). is_name k.name) (λ (k : Drive). is_name k.name) (λ x t. t) _ _ r.drives h.1))))))

  vos_moved : IsPermutation (vo_names file) (vo_names site)
  vos_moved = IsPermutation-map (λ (v : Vo). v.name) file.vos.items site.vos.items r.vos

  classes_moved : IsPermutation (class_names file) (class_names site)
  classes_moved = IsPermutation-map (λ (k : Class). k.name) file.classes.items site.classes.items r.classes

  pools_moved : IsPermutation (pool_names file) (pool_names site)
  pools_moved = IsPermutation-map (λ (p : TapePool). p.name) file.pools.items site.pools.items r.pools

  policies_moved : IsPermutation (policy_names file) (policy_names site)
  policies_moved = IsPermutation-map (λ (p : Policy). p.name) file.policies.items site.policies.items r.policies

  vids_moved : IsPermutation (vids file) (vids site)
  vids_moved = IsPermutation-map (λ (t : Tape). t.vid) file.tapes.items site.tapes.items r.tapes

  drives_moved : IsPermutation (drive_names file) (drive_names site)
  drives_moved = IsPermutation-map (λ (k : Drive). k.name) file.drives.items site.drives.items r.drives

  stores_still : said.store_repeat file ≡ None → said.store_repeat site ≡ None
  stores_still e =
      let a = neither (fault 9 (first_repeat (vo_names file))) _ e in
      let b = neither (fault 10 (first_repeat (class_names file))) _ a.1 in
      let d = neither (fault 11 (first_repeat (pool_names file))) (fault 12 (first_repeat (policy_names file))) b.1 in
      none_or _ _ (no_fault 9 _ (differ_still _ _ vos_moved (no_item 9 _ a.0)))
      (none_or _ _ (no_fault 10 _ (differ_still _ _ classes_moved (no_item 10 _ b.0)))
      (none_or _ _ (no_fault 11 _ (differ_still _ _ pools_moved (no_item 11 _ d.0)))
      (no_fault 12 _ (differ_still _ _ policies_moved (no_item 12 _ d.1)))))

  devices_still : said.device_repeat file ≡ None → said.device_repeat site ≡ None
  devices_still e =
      let a = neither (fault 13 (first_repeat file.libraries.items)) _ e in
      let b = neither (fault 14 (first_repeat (vids file))) _ a.1 in
      let d = neither (fault 15 (first_repeat (drive_names file))) (fault 16 (first_repeat (directory_paths file))) b.1 in
      none_or _ _ (no_fault 13 _ (differ_still _ _ r.libraries (no_item 13 _ a.0)))
      (none_or _ _ (no_fault 14 _ (differ_still _ _ vids_moved (no_item 14 _ b.0)))
      (none_or _ _ (no_fault 15 _ (differ_still _ _ drives_moved (no_item 15 _ d.0)))
      (no_fault 16 _ (ap (λ ds. first_repeat (map (λ (x : Directory). x.path) ds)) r.directories ∙ no_item 16 _ d.1))))

  routes_same : (k : Class) → said.class_has_routes site k ≡ said.class_has_routes file k
  routes_same k = ap (λ (rs : List Route). list_all (λ copy. not (nat_le copy k.copies) || (length (filter (is_route_of k.name copy) rs) == 1)) said.copy_numbers) r.routes

  classes_still : said.class_fault file ≡ None → said.class_fault site ≡ None
  classes_still e =
      let a = neither (fault 17 (first_failing (said.class_has_vo file) file.classes.items)) _ e in
      let b = neither (fault 18 (first_failing (said.pool_has_vo file) file.pools.items)) (fault 19 (first_failing (said.class_has_routes file) file.classes.items)) a.1 in
      none_or _ _ (no_fault 17 _ (still (said.class_has_vo file) (said.class_has_vo site) (λ x t. among_still _ _ x.vo vos_moved ∙ t) _ _ r.classes (no_item 17 _ a.0)))
      (none_or _ _ (no_fault 18 _ (still (said.pool_has_vo file) (said.pool_has_vo site) (λ x t. among_still _ _ x.vo vos_moved ∙ t) _ _ r.pools (no_item 18 _ b.0)))
      (no_fault 19 _ (still (said.class_has_routes file) (said.class_has_routes site) (λ x t. routes_same x ∙ t) _ _ r.classes (no_item 19 _ b.1))))

  copies_same : first_repeat (class_names file) ≡ None → (name : List ℕ) → copies_in (said.class_named site name) ≡ copies_in (said.class_named file name)
  copies_same differ name =
      copies_told (said.class_named site name)
      ∙ ap (λ o. unwrap_or o 0) (found_still (λ (k : Class). k.name) (λ (k : Class). k.copies) (λ a b. a == b) same_number number_itself name file.classes.items site.classes.items r.classes differ)
      ∙ sym (copies_told (said.class_named file name))

  class_vo_same : first_repeat (class_names file) ≡ None → (name : List ℕ) → said.class_vo (said.class_named site name) ≡ said.class_vo (said.class_named file name)
  class_vo_same differ name =
      class_vo_told (said.class_named site name)
      ∙ ap (λ o. unwrap_or o []) (found_still (λ (k : Class). k.name) (λ (k : Class). k.vo) bytes_eq (λ a b. (bytes_eq-Decides a b).0) (λ a. (bytes_eq-Decides a a).1 refl) name file.classes.items site.classes.items r.classes differ)
      ∙ sym (class_vo_told (said.class_named file name))

  pool_vo_same : first_repeat (pool_names file) ≡ None → (name : List ℕ) → vo_name (said.pool_named site name) ≡ vo_name (said.pool_named file name)
  pool_vo_same differ name =
      pool_vo_told (said.pool_named site name)
      ∙ ap (λ o. unwrap_or o []) (found_still (λ (p : TapePool). p.name) (λ (p : TapePool). p.vo) bytes_eq (λ a b. (bytes_eq-Decides a b).0) (λ a. (bytes_eq-Decides a a).1 refl) name file.pools.items site.pools.items r.pools differ)
      ∙ sym (pool_vo_told (said.pool_named file name))

  routes_still : said.store_repeat file ≡ None → said.route_fault file ≡ None → said.route_fault site ≡ None
  routes_still stores e =
      let s = neither (fault 9 (first_repeat (vo_names file))) _ stores in
      let t = neither (fault 10 (first_repeat (class_names file))) _ s.1 in
      let u = neither (fault 11 (first_repeat (pool_names file))) (fault 12 (first_repeat (policy_names file))) t.1 in
      let classes = no_item 10 _ t.0 in
      let pools = no_item 11 _ u.0 in
      let a = neither (fault 20 (first_failing (said.route_has_class file) file.routes.items)) _ e in
      let b = neither (fault 21 (first_failing (said.route_has_pool file) file.routes.items)) _ a.1 in
      let d = neither (fault 22 (first_failing (said.route_keeps_vo file) file.routes.items)) (fault 23 (first_same said.same_ends file.routes.items)) b.1 in
      none_or _ _ (no_fault 20 _ (still (said.route_has_class file) (said.route_has_class site) (λ x h.
      let parts = and_parts (is_among (class_names file) x.class) (nat_le x.copy (copies_in (said.class_named file x.class))) h in
      both_hold _ _ (among_still _ _ x.class classes_moved ∙ parts.0) (ap (nat_le x.copy) (copies_same classes x.class) ∙ parts.1)) _ _ (unmoved _ _ r.routes) (no_item 20 _ a.0)))
      (none_or _ _ (no_fault 21 _ (still (said.route_has_pool file) (said.route_has_pool site) (λ x h. among_still _ _ x.pool pools_moved ∙ h) _ _ (unmoved _ _ r.routes) (no_item 21 _ b.0)))
      (none_or _ _ (no_fault 22 _ (still (said.route_keeps_vo file) (said.route_keeps_vo site) (λ x h.
      ap (λ v. bytes_eq v (vo_name (said.pool_named site x.pool))) (class_vo_same classes x.class)
      ∙ ap (bytes_eq (said.class_vo (said.class_named file x.class))) (pool_vo_same pools x.pool) ∙ h) _ _ (unmoved _ _ r.routes) (no_item 22 _ d.0)))
      (no_fault 23 _ (ap (first_same said.same_ends) r.routes ∙ no_item 23 _ d.1))))

  policies_still : said.policy_fault file ≡ None → said.policy_fault site ≡ None
  policies_still e =
      let a = neither (fault 24 (unless (is_among (policy_names file) file.default_policy))) _ e in
      let b = neither (fault 25 (unless (is_among (policy_names file) file.repack_policy))) _ a.1 in
      let d = neither (fault 26 (first_failing (said.rule_has_policy file) file.rules.items)) (fault 27 (first_same said.same_caller file.rules.items)) b.1 in
      none_or _ _ (is_kept 24 _ (among_still _ _ site.default_policy policies_moved ∙ ap (is_among (policy_names file)) r.default_policy ∙ kept 24 _ a.0))
      (none_or _ _ (is_kept 25 _ (among_still _ _ site.repack_policy policies_moved ∙ ap (is_among (policy_names file)) r.repack_policy ∙ kept 25 _ b.0))
      (none_or _ _ (no_fault 26 _ (still (said.rule_has_policy file) (said.rule_has_policy site) (λ x h. among_still _ _ x.policy policies_moved ∙ h) _ _ (unmoved _ _ r.rules) (no_item 26 _ d.0)))
      (no_fault 27 _ (ap (first_same said.same_caller) r.rules ∙ no_item 27 _ d.1))))

  homes_still : said.device_fault file ≡ None → said.device_fault site ≡ None
  homes_still e =
      let a = neither (fault 28 (first_failing (said.tape_has_home file) file.tapes.items)) _ e in
      let b = neither (fault 29 (said.drive_item file)) (fault 30 (first_failing (said.directory_has_class file) file.directories.items)) a.1 in
      let d = neither (first_failing (said.drive_has_library file) file.drives.items) (first_failing (said.failure_has_drive file) file.failures.items) (no_item 29 _ b.0) in
      none_or _ _ (no_fault 28 _ (still (said.tape_has_home file) (said.tape_has_home site) (λ x h.
      let parts = and_parts (is_among (pool_names file) x.pool) (is_among file.libraries.items x.library) h in
      both_hold _ _ (among_still _ _ x.pool pools_moved ∙ parts.0) (among_still _ _ x.library r.libraries ∙ parts.1)) _ _ r.tapes (no_item 28 _ a.0)))
      (none_or _ _ (no_fault 29 _ (none_or _ _
      (still (said.drive_has_library file) (said.drive_has_library site) (λ x h. among_still _ _ x.library r.libraries ∙ h) _ _ r.drives d.0)
      (still (said.failure_has_drive file) (said.failure_has_drive site) (λ x h. among_still _ _ x.drive drives_moved ∙ h) _ _ (unmoved _ _ r.failures) d.1)))
      (no_fault 30 _ (still (said.directory_has_class file) (said.directory_has_class site) (λ x h.
      let parts = and_parts (is_path x.path) (is_among (class_names file) x.class) h in
      both_hold _ _ parts.0 (among_still _ _ x.class classes_moved ∙ parts.1)) _ _ (unmoved _ _ r.directories) (no_item 30 _ b.1))))

pub rules_still : (file site : Site) → Rearranges file site → first_fault file ≡ None → first_fault site ≡ None
rules_still file site r e =
    let a = neither (size_fault file) (element_fault file) e in
    let b = neither (form_fault file) _ a.1 in
    let forms = neither (fault 7 (out_of_range file)) (fault 8 (misnamed file)) b.0 in
    let d = neither (said.store_repeat file) _ b.1 in
    let f = neither (said.device_repeat file) _ d.1 in
    let g = neither (said.class_fault file) _ f.1 in
    let h = neither (said.route_fault file) _ g.1 in
    let i = neither (said.policy_fault file) (said.device_fault file) h.1 in
    none_or _ _ (sizes_still file site r a.0)
    (none_or _ _ (none_or _ _ (no_fault 7 _ (ranges_still file site r (no_item 7 _ forms.0))) (no_fault 8 _ (names_still file site r (no_item 8 _ forms.1))))
    (none_or _ _ (stores_still file site r d.0)
    (none_or _ _ (devices_still file site r f.0)
    (none_or _ _ (classes_still file site r g.0)
    (none_or _ _ (routes_still file site r d.0 h.0)
    (none_or _ _ (policies_still file site r i.0) (homes_still file site r i.1)))))))
