-- The candidate that goes before all others.
use Rattle.std.specs.Prelude.{ℕ, ◌≡◌, ◌⊎◌, List, [], true, false, Contains, MatchOption}
use Rattle.cta_site.specs.declared.site.Site.{Site}
use Rattle.cta_model.specs.declared.states.Candidate.{Candidate}
use Rattle.cta_model.specs.History.{History}
use Rattle.cta_model.specs.Choice.{candidates, goes_before, mount_choice}

-- two candidates are alike in all that the rule looks at
pub record RankAlike (a b : Candidate) : Type 0 where
  pub priority : a.priority ≡ b.priority
  pub direction : a.direction ≡ b.direction
  pub birth : a.birth ≡ b.birth
  pub key : a.key ≡ b.key

-- a candidate of a list is its first: none of the list goes before it, and it goes before each of them that is not like it in all that the rule looks at
pub record IsFirst (list : List Candidate) (c : Candidate) : Type 0 where
  pub listed : Contains list c
  pub behind_none : (other : Candidate) → Contains list other → goes_before other c ≡ false
  pub before_others : (other : Candidate) → Contains list other → (goes_before c other ≡ true) ⊎ RankAlike c other

-- a candidate that a drive may mount is the least: none that it may mount goes before it, and it goes before each other one
pub record IsLeast (site : Site) (h : History) (t d : ℕ) (c : Candidate) : Type 0 where
  pub listed : Contains (candidates site h t d) c
  pub behind_none : (other : Candidate) → Contains (candidates site h t d) other → goes_before other c ≡ false
  pub before_others : (other : Candidate) → Contains (candidates site h t d) other → (goes_before c other ≡ true) ⊎ (c ≡ other)

-- of every history the mount choice of a drive at a moment is the least of the candidates, and it is none only where there is no candidate
abbrev pub ChoiceIsLeast : Type 0
ChoiceIsLeast = (site : Site) (h : History) (t d : ℕ) → MatchOption (mount_choice site h t d) (candidates site h t d ≡ []) (IsLeast site h t d)
