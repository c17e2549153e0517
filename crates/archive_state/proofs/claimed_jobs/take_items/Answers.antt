use Rattle.std.proofs.Common.{rules, ◌∙◌}
use Rattle.std.proofs.lemmas.Fn.{filter_same}
use Rattle.archive_state.proofs.ItemJobs.{leave_items}
use Rattle.archive_state.proofs.claimed_jobs.take_items.Goals as goal

pub returns : goal.returns
returns c = filter_same _ _ _ (λ x b f' k. search rules) _ _ c.retain.ensures.filtered ∙ leave_items c.args.items.now c.args.jobs.now.items
