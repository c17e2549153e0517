use Rattle.std.proofs.Common.{◌≡◌, get_or, sym, subst, arith, ℕ, true, List, Some}
use Rattle.std.specs.Prelude.{◌==◌, ◌&&◌, if◌then◌else◌}
use Rattle.cta_model.specs.declared.asks.Job.{Job}
use Rattle.cta_model.specs.declared.reports.ItemState.TheVariants as item
use Rattle.cta_model.specs.Mounts.{has_copy}
use Rattle.std.proofs.lemmas.List.{take_all}
use Rattle.repack_book.specs.States.{state_at}
use Rattle.repack_book.proofs.Rows.{states_more, low_more}
use Rattle.repack_book.proofs.states.all_reading.Goals as goal

pub loop-job-preserved : goal.loop-job-preserved
loop-job-preserved c =
    let d : Job = record { birth = 0; file = 0; copy = 0 } in
    let g : Job = get_or c.args.jobs.now c.loop-job.job-index d in
    record {
      states = states_more c.loop-job.states.entries c.insert.new.self.entries c.args.jobs.now c.loop-job.job-index d (omega arith) c.loop-job.invariant.states (λ k. subst (λ (p : ℕ × ℕ). state_at c.insert.new.self.entries k.0 k.1 ≡ (if p.0 == k.0 && p.1 == k.1 then Some item.Reading else state_at c.loop-job.states.entries k.0 k.1)) c.key_of-key.ensures.is (c.in_ok-insert.ensures.updates.0 k));
      low = low_more c.args.jobs.now c.loop-job.job-index d (omega arith) c.key_of-key.ensures.low c.loop-job.invariant.low;
    }

pub returns-clause-low : goal.returns-clause-low
returns-clause-low c = λ f k h. c.loop-job.invariant.low f k (subst (λ (js : List Job). has_copy f k js ≡ true) (sym (take_all c.loop-job.job-index c.args.jobs.now (omega arith))) h)
