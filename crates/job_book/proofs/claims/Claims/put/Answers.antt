use Rattle.std.proofs.Common.{◌∙◌, ap, arith}
use Rattle.std.specs.Map.{lookup}
use Rattle.job_book.specs.Claims.{Claimed}
use Rattle.job_book.specs.Maps.{is_key}
use Rattle.job_book.proofs.Counts.{count_fits, counted_more, gone, put_over}
use Rattle.job_book.proofs.claims.Claims.put.Goals as goal

pub raise-requires-clause-fits : goal.raise-requires-clause-fits
raise-requires-clause-fits c = count_fits c.args.mount c.self.inside.map.entries c.self.inside.counts.entries c.self.invariant.1 (omega (arith, c.len.ensures.len, c.len.ensures.small))

pub invariant_of-self : goal.invariant_of-self
invariant_of-self c = (
  c.in-Ok.ensures.unique,
  counted_more c.self.inside.map c.insert.new.self c.self.inside.counts.entries c.raise.new.counts.entries c.args.key c.args.mount c.in-Ok.field-0 c.self.invariant.1 c.in-Ok.ensures.old
      (ap (λ (v : Claimed). lookup (is_key c.args.key) v.entries) c.self.view_is ∙ gone c.args.self.now.entries c.take_out.new.self.entries c.args.key c.take_out.ensures.values) c.in-Ok.ensures.entries c.raise.ensures.counts,
)

pub returns-clause-values : goal.returns-clause-values
returns-clause-values c = λ k. c.in-Ok.ensures.updates.0 k ∙ put_over (is_key c.args.key k) c.args.mount (lookup (is_key k) c.args.self.now.entries) (lookup (is_key k) c.self.inside.map.entries) (ap (λ (v : Claimed). lookup (is_key k) v.entries) c.self.view_is ∙ c.take_out.ensures.values k)
