use Rattle.std.proofs.Common.{◌∙◌, ◌<◌, ℕ, rules, sym, subst}
use Rattle.part_model.specs.Queues.{lines_in}
use Rattle.caller_asks.specs.Jobs.{StandsWhere}
use Rattle.caller_asks.proofs.Leaves.{all_leave, all_rest, all_stand_still, none_leave}
use Rattle.caller_asks.proofs.jobs.+leave_all.Goals as goal

pub leave_all-requires : goal.leave_all-requires
leave_all-requires t c = (
  search rules,
  (
    c.leave_one.ensures.pool_keys ∙ c.requires.keys,
    (
      λ f d p is. subst (λ (n : ℕ). p.tape < n) (sym c.leave_one.ensures.tape_keys) (c.requires.tapes f d p is),
      all_rest (StandsWhere c.args.site.now c.args.history.now.value c.args.tapes.now.value c.args.copies (lines_in c.leave_one.new.pools.value) (lines_in c.leave_one.new.recalls.value)) c.args.jobs.now
          (all_stand_still c.args.site.now c.args.history.now.value c.args.tapes.now.value c.args.copies (lines_in c.args.pools.now.value) (lines_in c.args.recalls.now.value) (lines_in c.leave_one.new.pools.value) (lines_in c.leave_one.new.recalls.value) _ c.args.jobs.now c.leave_one.ensures.pools c.leave_one.ensures.recalls c.requires.stand),
    ),
  ),
)

pub returns-in-empty-clause-pools : goal.returns-in-empty-clause-pools
returns-in-empty-clause-pools t c = λ k. none_leave c.args.jobs.now (lines_in c.args.pools.now.value) k c.in-empty.len_below

pub returns-in-empty-clause-recalls : goal.returns-in-empty-clause-recalls
returns-in-empty-clause-recalls t c = λ k. none_leave c.args.jobs.now (lines_in c.args.recalls.now.value) k c.in-empty.len_below

pub returns-in-len1-up-clause-pools : goal.returns-in-len1-up-clause-pools
returns-in-len1-up-clause-pools t c = λ k. all_leave c.args.jobs.now _ (lines_in c.args.pools.now.value) (lines_in c.leave_one.new.pools.value) (lines_in c.leave_all.new.pools.value) k c.in-len1-up.len_at_least (c.leave_one.ensures.pools k) (c.leave_all.ensures.pools k)

pub returns-in-len1-up-clause-recalls : goal.returns-in-len1-up-clause-recalls
returns-in-len1-up-clause-recalls t c = λ k. all_leave c.args.jobs.now _ (lines_in c.args.recalls.now.value) (lines_in c.leave_one.new.recalls.value) (lines_in c.leave_all.new.recalls.value) k c.in-len1-up.len_at_least (c.leave_one.ensures.recalls k) (c.leave_all.ensures.recalls k)
