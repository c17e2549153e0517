use Rattle.std.proofs.Common.{◌∙◌, ap}
use Rattle.std.specs.Map.{lookup}
use Rattle.std.specs.Prelude.{None, if◌then◌else◌}
use Rattle.job_book.specs.Claims.{Claimed}
use Rattle.job_book.specs.Maps.{is_key}
use Rattle.job_book.proofs.Counts.{some_counted, counted_left}
use Rattle.job_book.proofs.claims.Claims.take_out.Goals as goal

pub lower-requires : goal.lower-requires
lower-requires c = some_counted c.self.inside.map.entries c.remove.new.self.entries c.self.inside.counts.entries c.args.key c.in-Some.mount c.self.invariant.1 c.in-Some.ensures.value c.in-Some.ensures.entries

pub invariant_of-self-2 : goal.invariant_of-self-2
invariant_of-self-2 c = (c.in-Some.ensures.unique, counted_left c.self.inside.map.entries c.remove.new.self.entries c.self.inside.counts.entries c.lower.new.counts.entries c.leave_out.new.counts.entries c.args.key c.in-Some.mount c.self.invariant.1 c.in-Some.ensures.value c.in-Some.ensures.entries c.lower.ensures.counts c.leave_out.ensures.counts)

pub returns-clause-values : goal.returns-clause-values
returns-clause-values c = λ k. c.in-Some.ensures.updates.0 k ∙ ap (λ (v : Claimed). if is_key c.args.key k then None else lookup (is_key k) v.entries) c.self.view_is
