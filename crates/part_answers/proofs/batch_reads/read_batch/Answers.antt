use Rattle.std.proofs.Common.{◌≡◌, ◌+◌, ◌-◌, ◌<◌, ◌≤◌, arith, length}
use Rattle.cta_site.specs.Lookups.{copies_of}
use Rattle.cta_model.specs.Files.{path_of, sum_of}
use Rattle.part_laws.specs.Files.{fseq_told}
use Rattle.part_answers.proofs.ItemsOf.{has_put}
use Rattle.part_answers.proofs.ReadItems.{read_more}
use Rattle.part_answers.proofs.batch_reads.read_batch.Goals as goal

pub item_on-requires : goal.item_on-requires
item_on-requires c =
    let some = c.loop-at-test.true in
    let within : c.loop-at.at ≤ length c.args.jobs.now = c.loop-at.invariant.within in
    let low : c.loop-at.at - 1 < length c.args.jobs.now = omega (arith, some, within) in
    has_put c.args.history.now.value c.args.jobs.now (c.loop-at.at - 1) _ c.requires low

pub loop-at-preserved : goal.loop-at-preserved
loop-at-preserved c =
    let some = c.loop-at-test.true in
    let within : c.loop-at.at ≤ length c.args.jobs.now = c.loop-at.invariant.within in
    let low : c.loop-at.at - 1 < length c.args.jobs.now = omega (arith, some, within) in
    let next : c.loop-at.at ≡ (c.loop-at.at - 1) + 1 = omega (arith, some) in
    record {
      items = read_more (sum_of c.args.history.now.value) (λ f. fseq_told c.args.table.now.value c.args.tape f (copies_of c.args.site.now (path_of c.args.history.now.value f))) c.args.jobs.now (c.loop-at.at - 1) c.loop-at.at (record { birth = 0; file = 0; copy = 0 }) c.item_on.result
          c.loop-at.items.items c.put_item.new.items.items low next c.loop-at.invariant.items c.item_on.ensures c.in_ok-put_item.ensures;
      within = omega (arith, within);
    }
