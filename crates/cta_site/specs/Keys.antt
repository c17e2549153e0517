-- Byte strings that tell routes and rules apart.
use Rattle.std.specs.Prelude.{ℕ, List, [], ◌∷◌, ◌++◌}
use Rattle.cta_site.specs.declared.site.Route.{Route}
use Rattle.cta_site.specs.declared.site.Rule.{Rule}
use Rattle.cta_site.specs.declared.site.RuleKind.{RuleKind}
use Rattle.cta_site.specs.declared.site.RuleKind.TheVariants.{Requester, Group}

-- a text with each byte behind a 1, and a 0 behind all: no such text is the front of another
abbrev pub closed_text : List ℕ → List ℕ
closed_text [] = 0 ∷ []
closed_text (b ∷ bs) = 1 ∷ b ∷ closed_text bs

-- a route's class and pool in one
abbrev pub route_ends : Route → List ℕ
route_ends r = closed_text r.class ++ r.pool

-- a kind of rule as a byte
abbrev pub kind_byte : RuleKind → ℕ
kind_byte Requester = 0
kind_byte Group = 1

-- a rule's kind and name in one
abbrev pub rule_caller : Rule → List ℕ
rule_caller r = kind_byte r.kind ∷ r.name
