use Rattle.std.proofs.Common.{ap, sym, ◌∙◌}
use Rattle.blob.specs.declared.sum.Sum256.{Sum256}
use Rattle.loop_tests.proofs.Empty.{nothing_needed}
use Rattle.loop_tests.proofs.counter.CounterFrontContents.route.Goals as goal

pub returns-then-sum-eq0-clause-routed : goal.returns-then-sum-eq0-clause-routed
returns-then-sum-eq0-clause-routed c = nothing_needed c.args.request c.in_ok-reply.reply (sym (ap (λ (s : Sum256). s.len) c.sum.ensures) ∙ c.if-sum-eq0.true) c.in_ok-reply.ensures
