use Rattle.std.proofs.Common.{◌∙◌, ap}
use Rattle.std.specs.Map.{lookup}
use Rattle.job_book.specs.Claims.{Claimed}
use Rattle.job_book.specs.Maps.{is_key}
use Rattle.job_book.proofs.Counts.{counted_same, counted_reordered}
use Rattle.job_book.proofs.claims.Claims.reserve.Goals as goal

pub invariant_of-self : goal.invariant_of-self
invariant_of-self c = (c.self.invariant.0, counted_same c.self.inside.map.entries c.self.inside.counts.entries c.make_room.new.map.entries c.self.invariant.1 c.make_room.ensures.values)

pub invariant_of-self-in_err-reserve : goal.invariant_of-self-in_err-reserve
invariant_of-self-in_err-reserve c = (c.reserve.ensures.unique, counted_reordered c.self.inside.map.entries c.reserve.new.self.entries c.self.inside.counts.entries c.make_room.new.map.entries c.self.invariant.1 c.reserve.ensures.entries.0 c.make_room.ensures.values)

pub invariant_of-self-2 : goal.invariant_of-self-2
invariant_of-self-2 c = (c.reserve.ensures.unique, counted_reordered c.self.inside.map.entries c.reserve.new.self.entries c.self.inside.counts.entries c.make_room.new.map.entries c.self.invariant.1 c.reserve.ensures.entries.0 c.make_room.ensures.values)

pub returns-clause-values : goal.returns-clause-values
returns-clause-values c = λ k. c.reserve.ensures.entries.2 k ∙ ap (λ (v : Claimed). lookup (is_key k) v.entries) c.self.view_is
