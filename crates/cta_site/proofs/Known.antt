-- The numbers that a valid site answers are those of its elements.
use Rattle.std.proofs.Common.{◌≡◌, ◌<◌, ℕ, zero, suc, List, [], ◌∷◌, Bool, Option, Some, None, length, refl, subst, ap, ◌∙◌, inl, inr}
use Rattle.std.proofs.lemmas.Bool.{cases_Bool}
use Rattle.std.specs.Prelude.{IsSome, unwrap_or, option_map, find, slice_get, nat_lt}
use Rattle.std.specs.List.{AllByRecursion, filter}
use Rattle.cta_site.specs.declared.site.Site.{Site}
use Rattle.cta_site.specs.declared.site.Class.{Class}
use Rattle.cta_site.specs.declared.site.Rule.{Rule}
use Rattle.cta_site.specs.declared.site.RuleKind.{RuleKind}
use Rattle.cta_site.specs.declared.site.RuleKind.TheVariants.{Requester, Group}
use Rattle.cta_site.specs.declared.site.Policy.{Policy}
use Rattle.cta_site.specs.declared.site.Directory.{Directory}
use Rattle.cta_site.specs.WellFormed.{IsWellFormed, HasClass, HasPolicy, HasCopies}
use Rattle.cta_site.specs.Lookups.{place_by, index_by, is_under, longer, longest, directory_of, class_number, class_of, copies_of, copies_of_class, copies_in, is_rule_for, rule_policy}
use Rattle.cta_site.specs.Laws.{ClassesAreKnown, PoliciesAreKnown}
use Rattle.cta_site.proofs.Laws.{found_low, item_at}

low_or : (o : Option ℕ) (n : ℕ) → ((i : ℕ) → o ≡ Some i → i < n) → IsSome o → unwrap_or o n < n
low_or None n low some = absurd (cc)
low_or (Some i) n low some = low i refl

pub index_low : {A : Type 0} (name : A → List ℕ) (xs : List A) (key : List ℕ) → IsSome (place_by name xs key) → index_by name xs key < length xs
index_low name xs key some = low_or (place_by name xs key) (length xs) (λ i e. found_low name xs key i e) some

-- what holds of all items holds of the one at a place, and of the one that is found
pub all_at : {A : Type 0} (P : A → Type 0) (xs : List A) (i : ℕ) (x : A) → AllByRecursion P xs → slice_get xs i ≡ Some x → P x
all_at P [] i x all e = absurd (cc)
all_at P (y ∷ ys) zero x all e = let same : y ≡ x = cc in subst P same all.0
all_at P (y ∷ ys) (suc i) x all e = all_at P ys i x all.1 e

pub all_found : {A : Type 0} (P : A → Type 0) (q : A → Bool) (xs : List A) (x : A) → AllByRecursion P xs → find q xs ≡ Some x → P x
all_found P q [] x all e = absurd (cc)
all_found {A} P q (y ∷ ys) x all e =
    elim (cases_Bool (q y)) [
      | inl hit ↦ let first : Some y ≡ Some x = rw hit at e in let same : y ≡ x = cc in subst P same all.0
      | inr miss ↦ all_found P q ys x all.1 (rw miss at e)
    ]

all_filtered : {A : Type 0} (P : A → Type 0) (q : A → Bool) (xs : List A) → AllByRecursion P xs → AllByRecursion P (filter q xs)
all_filtered P q [] all = tt
all_filtered P q (y ∷ ys) all =
    elim (cases_Bool (q y)) [
      | inl hit ↦ rw hit (all.0, all_filtered P q ys all.1)
      | inr miss ↦ rw miss (all_filtered P q ys all.1)
    ]

longer_keeps : (P : Directory → Type 0) (x : Directory) (o : Option Directory) (d : Directory) → P x → ((e : Directory) → o ≡ Some e → P e) → longer x o ≡ Some d → P d
longer_keeps P x None d here rest e = let same : x ≡ d = cc in subst P same here
longer_keeps P x (Some y) d here rest e =
    elim (cases_Bool (nat_lt (length x.path) (length y.path))) [
      | inl hit ↦ rest d (rw hit at e)
      | inr miss ↦ let first : Some x ≡ Some d = rw miss at e in let same : x ≡ d = cc in subst P same here
    ]

longest_keeps : (P : Directory → Type 0) (ds : List Directory) (d : Directory) → AllByRecursion P ds → longest ds ≡ Some d → P d
longest_keeps P [] d all e = absurd (cc)
longest_keeps P (x ∷ ds) d all e = longer_keeps P x (longest ds) d all.0 (λ y f. longest_keeps P ds y all.1 f) e

class_in : (site : Site) (o : Option Directory) (class : ℕ) → ((d : Directory) → o ≡ Some d → HasClass site d.class) → option_map (λ (d : Directory). class_number site d.class) o ≡ Some class → class < length site.classes.items
class_in site None class has e = absurd (cc)
class_in site (Some d) class has e =
    let same : class_number site d.class ≡ class = cc in
    subst (λ (n : ℕ). n < length site.classes.items) same (index_low (λ (c : Class). c.name) site.classes.items d.class (has d refl))

class_low : (site : Site) → IsWellFormed site → (path : List ℕ) (class : ℕ) → class_of site path ≡ Some class → class < length site.classes.items
class_low site valid path class e =
    let P : Directory → Type 0 = λ x. HasClass site x.class in
    let q : Directory → Bool = λ x. is_under x.path path in
    class_in site (directory_of site path) class
    (λ d f. longest_keeps P (filter q site.directories.items) d (all_filtered P q site.directories.items valid.known.directory_classes) f) e

pub classes_are_known : (site : Site) → IsWellFormed site → ClassesAreKnown site
classes_are_known site valid = λ path class e.
    let low = class_low site valid path class e in
    let c = item_at site.classes.items class low in
    let copies : HasCopies c.0 = all_at HasCopies site.classes.items class c.0 valid.copies c.1 in
    let told : copies_of site path ≡ c.0.copies = ap (copies_of_class site) e ∙ ap copies_in c.1 in
    (low, rw told copies.from, rw told copies.to)

in_rule : (site : Site) (o : Option Rule) (policy : List ℕ) → ((r : Rule) → o ≡ Some r → HasPolicy site r.policy) → option_map (λ (r : Rule). r.policy) o ≡ Some policy → HasPolicy site policy
in_rule site None policy has e = absurd (cc)
in_rule site (Some r) policy has e = let same : r.policy ≡ policy = cc in subst (λ (n : List ℕ). HasPolicy site n) same (has r refl)

rule_known : (site : Site) → IsWellFormed site → (kind : RuleKind) (name policy : List ℕ) → rule_policy site.rules.items kind name ≡ Some policy → HasPolicy site policy
rule_known site valid kind name policy e =
    let P : Rule → Type 0 = λ r. HasPolicy site r.policy in
    in_rule site (find (is_rule_for kind name) site.rules.items) policy (λ r f. all_found P (is_rule_for kind name) site.rules.items r valid.known.rule_policies f) e

-- the one that a rule gives, or else the other
known_or : (site : Site) (o : Option (List ℕ)) (other : List ℕ) → ((n : List ℕ) → o ≡ Some n → HasPolicy site n) → HasPolicy site other → HasPolicy site (unwrap_or o other)
known_or site None other has rest = rest
known_or site (Some n) other has rest = has n refl

pub policies_are_known : (site : Site) → IsWellFormed site → PoliciesAreKnown site
policies_are_known site valid = λ requester group.
    let by_group : List ℕ = unwrap_or (rule_policy site.rules.items Group group) site.default_policy in
    let group_known : HasPolicy site by_group = known_or site (rule_policy site.rules.items Group group) site.default_policy (λ n e. rule_known site valid Group group n e) valid.known.default_policy in
    index_low (λ (p : Policy). p.name) site.policies.items (unwrap_or (rule_policy site.rules.items Requester requester) by_group)
    (known_or site (rule_policy site.rules.items Requester requester) by_group (λ n e. rule_known site valid Requester requester n e) group_known)
