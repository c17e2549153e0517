use Rattle.std.proofs.Common.{◌∙◌, ap, rules}
use Rattle.std.specs.List.{list_any}
use Rattle.std.specs.Prelude.{◌==◌, nat_lt}
use Rattle.std.specs.Map.{values_of}
use Rattle.job_book.specs.Claims.{Claimed}
use Rattle.job_book.proofs.Counts.{any_told}
use Rattle.job_book.proofs.claims.Claims.has.Goals as goal

pub returns-clause-any : goal.returns-clause-any
returns-clause-any c = ap (nat_lt 0) (search rules) ∙ any_told c.args.mount c.self.inside.map.entries c.self.inside.counts.entries c.self.invariant.1 ∙ ap (λ (v : Claimed). list_any (λ n. n == c.args.mount) (values_of v.entries)) c.self.view_is
