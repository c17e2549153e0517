use Rattle.std.proofs.Common.{◌≡◌, ◌++◌, ◌<◌, length, map, subst, sym}
use Rattle.std.specs.Prelude.{Option, Some}
use Rattle.cta_model.specs.declared.asks.Job.{Job}
use Rattle.cta_model.specs.Bare.{bare_copy}
use Rattle.part_laws.specs.Files.{files_of}
use Rattle.part_laws.specs.Reports.{failed_copy_told}
use Rattle.part_model.specs.Order.{walk_at}
use Rattle.fault_asks.proofs.FailedWalks.{walk_shrinks}
use Rattle.archive_state.proofs.FailedTold.{IsCopy, copies_begin, copies_step, copy_first, copy_next}
use Rattle.archive_state.proofs.failures.tell_copies.Goals as goal

pub loop-next-init : goal.loop-next-init
loop-next-init c = record {
  told = copies_begin c.args.site.now c.args.parts.now.book.value (files_of c.args.history.now.value) c.args.parts.now.failed.value c.first-next.result c.new-copies.result.items c.requires c.first-next.ensures c.new-copies.ensures.items;
  copy = copy_first c.args.parts.now.failed.value c.first-next.result c.requires c.first-next.ensures;
}

pub loop-next-smaller : goal.loop-next-smaller
loop-next-smaller c =
    let copy : IsCopy (Some c.in-Some.job) = subst IsCopy c.in-Some.is c.loop-next.invariant.copy in
    subst (λ (o : Option Job). length (walk_at c.after-next.result c.args.parts.now.failed.value) < length (walk_at o c.args.parts.now.failed.value)) (sym c.in-Some.is)
    (walk_shrinks c.args.parts.now.failed.value c.in-Some.job c.after-next.result c.requires copy c.after-next.ensures)

pub loop-next-preserved : goal.loop-next-preserved
loop-next-preserved c =
    let copy : IsCopy (Some c.in-Some.job) = subst IsCopy c.in-Some.is c.loop-next.invariant.copy in
    let told =
    subst (λ (o : Option Job). map bare_copy c.loop-next.copies.items ++ map (failed_copy_told c.args.site.now c.args.parts.now.book.value (files_of c.args.history.now.value)) (walk_at o c.args.parts.now.failed.value) ≡ map (failed_copy_told c.args.site.now c.args.parts.now.book.value (files_of c.args.history.now.value)) c.args.parts.now.failed.value)
    c.in-Some.is c.loop-next.invariant.told in
    record {
      told = copies_step c.args.site.now c.args.parts.now.book.value (files_of c.args.history.now.value) c.args.parts.now.failed.value c.in-Some.job c.after-next.result c.in_ok-told.told c.loop-next.copies.items c.push.new.self.items _ c.requires copy c.after-next.ensures
          c.in_ok-told.ensures c.in_ok-push.ensures.items told;
      copy = copy_next c.args.parts.now.failed.value c.in-Some.job c.after-next.result c.requires c.after-next.ensures;
    }
