use Rattle.std.specs.Prelude.{◌<◌, length}
use Rattle.std.proofs.Common.{arith}
use Rattle.mill_history.specs.Reports.{placed_file, kept_file}
use Rattle.mill_history.proofs.Told.{other_count, other_item, told_more}
use Rattle.mill_history.proofs.reports.are_kept.Goals as goal

pub returns-then-infos-files : goal.returns-then-infos-files
returns-then-infos-files c = other_count placed_file kept_file c.args.infos.now c.args.files c.if-infos-files.true

pub returns-then-not-is_kept_file : goal.returns-then-not-is_kept_file
returns-then-not-is_kept_file c =
    other_item placed_file kept_file c.args.infos.now c.args.files c.loop-at.at c.index-infos-at.result c.is_kept_file.result c.loop-at-test.true c.index-infos-at.is c.if-not-is_kept_file.true c.is_kept_file.ensures

pub loop-at-preserved : goal.loop-at-preserved
loop-at-preserved c =
    let within : c.loop-at.at < length c.args.infos.now = omega (arith, c.if-infos-files.false, c.loop-at-test.true) in
    told_more placed_file kept_file c.args.infos.now c.loop-at.at c.index-infos-at.result within c.index-infos-at.is (c.is_kept_file.ensures.0 c.if-not-is_kept_file.false) c.loop-at.invariant
