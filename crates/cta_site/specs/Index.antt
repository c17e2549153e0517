-- Where the elements of a site stand, by name.
use Rattle.std.specs.Prelude.{◌≡◌, ℕ, List, length}
use Rattle.std.specs.List.{filter, position}
use Rattle.cta_site.specs.declared.site.Site.{Site}
use Rattle.cta_site.specs.declared.site.Class.{Class}
use Rattle.cta_site.specs.declared.site.TapePool.{TapePool}
use Rattle.cta_site.specs.declared.site.Policy.{Policy}
use Rattle.cta_site.specs.declared.site.Route.{Route}
use Rattle.cta_site.specs.declared.site.Rule.{Rule}
use Rattle.cta_site.specs.declared.site.RuleKind.{RuleKind}
use Rattle.cta_site.specs.declared.site.RuleKind.TheVariants.{Requester, Group}
use Rattle.cta_site.specs.declared.site.Tape.{Tape}
use Rattle.cta_site.specs.declared.site.Drive.{Drive}
use Rattle.cta_site.specs.declared.site.Directory.{Directory}
use Rattle.cta_site.specs.declared.name_map.NameMap.{NameMap}
use Rattle.cta_site.specs.declared.index.Index.{Index}
use Rattle.cta_site.specs.declared.index.RouteIndex.{RouteIndex}
use Rattle.cta_site.specs.declared.references.RouteCounts.{RouteCounts}
use Rattle.cta_site.specs.declared.tally.Tally.{Tally}
use Rattle.cta_site.specs.Lookups.{place_by, is_route_of, is_rule_for}
use Rattle.cta_site.specs.NameMap.{number_in, count_in}

-- a name has the place of the first element of this name
abbrev pub HasPlaces : {A : Type 0} → NameMap → (A → List ℕ) → List A → Type 0
HasPlaces map name xs = (key : List ℕ) → number_in map key ≡ place_by name xs key

-- a class has the place of its first route for this copy
abbrev pub HasRoutes : NameMap → List Route → ℕ → Type 0
HasRoutes map routes copy = (class : List ℕ) → number_in map class ≡ position (is_route_of class copy) routes

-- a caller has the place of the first rule of this kind that is for it
abbrev pub HasRules : NameMap → List Rule → RuleKind → Type 0
HasRules map rules kind = (name : List ℕ) → number_in map name ≡ position (is_rule_for kind name) rules

-- a class was counted as often as it has routes for this copy
abbrev pub HasCounts : Tally → List Route → ℕ → Type 0
HasCounts tally routes copy = (class : List ℕ) → count_in tally class ≡ length (filter (is_route_of class copy) routes)

-- the routes were counted by class, for each copy
pub record HasAllCounts (counts : RouteCounts) (routes : List Route) : Type 0 where
  pub first : HasCounts counts.first routes 1
  pub second : HasCounts counts.second routes 2
  pub third : HasCounts counts.third routes 3
  pub fourth : HasCounts counts.fourth routes 4

-- the routes by class, for each copy
pub record HasAllRoutes (index : RouteIndex) (routes : List Route) : Type 0 where
  pub first : HasRoutes index.first routes 1
  pub second : HasRoutes index.second routes 2
  pub third : HasRoutes index.third routes 3
  pub fourth : HasRoutes index.fourth routes 4

-- the elements that are looked up by name have their places
pub record IsIndexOf (index : Index) (site : Site) : Type 0 where
  pub classes : HasPlaces index.classes (λ (c : Class). c.name) site.classes.items
  pub pools : HasPlaces index.pools (λ (p : TapePool). p.name) site.pools.items
  pub policies : HasPlaces index.policies (λ (p : Policy). p.name) site.policies.items
  pub tapes : HasPlaces index.tapes (λ (t : Tape). t.vid) site.tapes.items
  pub drives : HasPlaces index.drives (λ (d : Drive). d.name) site.drives.items
  pub directories : HasPlaces index.directories (λ (d : Directory). d.path) site.directories.items
  pub routes : HasAllRoutes index.routes site.routes.items
  pub requesters : HasRules index.requesters site.rules.items Requester
  pub groups : HasRules index.groups site.rules.items Group
