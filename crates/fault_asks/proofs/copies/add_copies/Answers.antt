use Rattle.std.proofs.Common.{◌≡◌, ◌++◌, ◌<◌, length, sym, subst}
use Rattle.std.specs.Prelude.{Option, Some}
use Rattle.std.proofs.lemmas.Bool.{eq-eqb}
use Rattle.cta_model.specs.declared.asks.Job.{Job}
use Rattle.part_laws.specs.Operators.{retried_with}
use Rattle.part_model.specs.Order.{walk_at}
use Rattle.fault_asks.proofs.FailedWalks.{IsLater, later_begins, later_steps, other, walk_begins, walk_leaves, walk_shrinks, walk_steps}
use Rattle.fault_asks.proofs.copies.add_copies.Goals as goal

pub loop-next-init : goal.loop-next-init
loop-next-init c = record {
  made = walk_begins c.args.number c.args.file c.args.failed.now.value c.after-next.result c.args.jobs.now.items c.requires c.after-next.ensures;
  later = later_begins c.args.file c.args.failed.now.value c.after-next.result c.requires c.after-next.ensures;
}

pub returns-then-job-file : goal.returns-then-job-file
returns-then-job-file c =
    let later : IsLater c.args.file (Some c.in-Some.job) = subst (IsLater c.args.file) c.in-Some.is c.loop-next.invariant.later in
    let made = subst (λ (o : Option Job). c.loop-next.jobs.items ++ retried_with c.args.number (walk_at o c.args.failed.now.value) (Some c.args.file) ≡ c.args.jobs.now.items ++ retried_with c.args.number c.args.failed.now.value (Some c.args.file)) c.in-Some.is c.loop-next.invariant.made in
    walk_leaves c.args.number c.args.file c.args.failed.now.value c.in-Some.job c.loop-next.jobs.items _ c.requires later (other c.in-Some.job.file c.args.file c.if-job-file.true) made

pub loop-next-smaller : goal.loop-next-smaller
loop-next-smaller c =
    let later : IsLater c.args.file (Some c.in-Some.job) = subst (IsLater c.args.file) c.in-Some.is c.loop-next.invariant.later in
    subst (λ (o : Option Job). length (walk_at c.after-next-in-Some.result c.args.failed.now.value) < length (walk_at o c.args.failed.now.value)) (sym c.in-Some.is)
    (walk_shrinks c.args.failed.now.value c.in-Some.job c.after-next-in-Some.result c.requires later.1 c.after-next-in-Some.ensures)

pub loop-next-preserved : goal.loop-next-preserved
loop-next-preserved c =
    let later : IsLater c.args.file (Some c.in-Some.job) = subst (IsLater c.args.file) c.in-Some.is c.loop-next.invariant.later in
    let made = subst (λ (o : Option Job). c.loop-next.jobs.items ++ retried_with c.args.number (walk_at o c.args.failed.now.value) (Some c.args.file) ≡ c.args.jobs.now.items ++ retried_with c.args.number c.args.failed.now.value (Some c.args.file)) c.in-Some.is c.loop-next.invariant.made in
    record {
      made = walk_steps c.args.number c.args.file c.args.failed.now.value c.in-Some.job c.after-next-in-Some.result c.loop-next.jobs.items c.push.new.self.items _ c.requires later.1 (eq-eqb c.in-Some.job.file c.args.file c.if-job-file.false) c.after-next-in-Some.ensures c.in_ok-push.ensures.items made;
      later = later_steps c.args.file c.args.failed.now.value c.in-Some.job c.after-next-in-Some.result c.requires later c.after-next-in-Some.ensures;
    }
