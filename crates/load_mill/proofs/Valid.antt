-- The site of a mill is valid, and numbered as it stands.
use Rattle.std.specs.Prelude.{ℕ, ◌≡◌, refl, Option, Some, None, List}
use Rattle.std.proofs.Common.{ap, subst}
use Rattle.std.proofs.lemmas.List.Sorted.{IsPermutation-refl}
use Rattle.cta_site.proofs.Examples.{by_name}
use Rattle.cta_site.specs.declared.check.SiteError.{SiteError}
use Rattle.cta_site.specs.declared.check.SiteError.TheVariants.{Fault}
use Rattle.cta_site.specs.declared.site.Site.{Site}
use Rattle.cta_site.specs.declared.site.Vo.{Vo}
use Rattle.cta_site.specs.declared.site.Class.{Class}
use Rattle.cta_site.specs.declared.site.TapePool.{TapePool}
use Rattle.cta_site.specs.declared.site.Tape.{Tape}
use Rattle.cta_site.specs.declared.site.Drive.{Drive}
use Rattle.cta_site.specs.declared.site.Policy.{Policy}
use Rattle.cta_site.specs.Bare.{bare_site}
use Rattle.cta_site.specs.Faults.{first_fault, IsCauseOf}
use Rattle.cta_site.specs.Numbering.{IsInOrder, IsNumberedFrom}
use Rattle.cta_site.specs.ValidSite.{IsValidSite}
use Rattle.load_mill.specs.Sites.{mill_site}

in_order : IsInOrder mill_site
in_order = record {
  vos = by_name (λ (v : Vo). v.name) mill_site.vos.items refl;
  classes = by_name (λ (k : Class). k.name) mill_site.classes.items refl;
  pools = by_name (λ (p : TapePool). p.name) mill_site.pools.items refl;
  policies = by_name (λ (p : Policy). p.name) mill_site.policies.items refl;
  libraries = by_name (λ (l : List ℕ). l) mill_site.libraries.items refl;
  tapes = by_name (λ (t : Tape). t.vid) mill_site.tapes.items refl;
  drives = by_name (λ (d : Drive). d.name) mill_site.drives.items refl;
}

-- it breaks no rule, and is in order
pub is_valid : IsValidSite mill_site
is_valid = record { rules = refl; in_order = in_order }

-- it is what it is numbered from
pub is_numbered : IsNumberedFrom mill_site mill_site
is_numbered = record {
  same = record {
    version = refl;
    sitename = refl;
    endpoint = refl;
    default_policy = refl;
    repack_policy = refl;
    limits = refl;
    vos = IsPermutation-refl _;
    classes = IsPermutation-refl _;
    pools = IsPermutation-refl _;
    routes = refl;
    policies = IsPermutation-refl _;
    rules = refl;
    libraries = IsPermutation-refl _;
    tapes = IsPermutation-refl _;
    drives = IsPermutation-refl _;
    directories = refl;
    failures = refl;
  };
  in_order = in_order;
  bare = refl;
}

-- what is numbered from a site that says the same is numbered from it
pub numbered_from : (file valid : Site) → bare_site file ≡ mill_site → IsNumberedFrom (bare_site file) valid → IsNumberedFrom mill_site valid
numbered_from file valid same numbered = subst (λ s. IsNumberedFrom s valid) same numbered

clash : (o : Option (ℕ × ℕ)) (x : ℕ × ℕ) → o ≡ Some x → o ≡ None → ⊥
clash o x some none = cc

-- a site that says the same has no first fault
pub has_no_fault : (file : Site) (e : SiteError) (rule item : ℕ) → bare_site file ≡ mill_site → e ≡ Fault rule item → IsCauseOf e (first_fault file) → ⊥
has_no_fault file e rule item same is cause =
    let none : first_fault (bare_site file) ≡ None = ap first_fault same in
    let some : first_fault file ≡ Some (rule, item) = subst (λ x. IsCauseOf x (first_fault file)) is cause in
    clash (first_fault file) (rule, item) some none
