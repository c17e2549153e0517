use Rattle.std.proofs.Common.{◌∙◌, sym}
use Rattle.archive_state.proofs.NamedTwice.{in_both, in_first, in_second}
use Rattle.archive_state.proofs.twice.name_twice.Goals as goal

pub returns-then-has_twice : goal.returns-then-has_twice
returns-then-has_twice c = in_first c.args.jobs.now c.args.others.now (sym c.has_twice.ensures ∙ c.if-has_twice.true)

pub returns-then-have_shared : goal.returns-then-have_shared
returns-then-have_shared c = in_both c.args.jobs.now c.args.others.now (sym c.have_shared.ensures ∙ c.if-have_shared.true)

pub returns : goal.returns
returns c = c.has_twice-2.ensures ∙ in_second c.args.jobs.now c.args.others.now (sym c.has_twice.ensures ∙ c.if-has_twice.false) (sym c.have_shared.ensures ∙ c.if-have_shared.false)
