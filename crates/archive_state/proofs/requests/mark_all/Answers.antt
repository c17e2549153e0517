use Rattle.std.proofs.Common.{◌∙◌, ap}
use Rattle.cta_model.specs.declared.reports.StageFileInfo.{StageFileInfo}
use Rattle.part_model.specs.Requests.{request_in}
use Rattle.stage_book.specs.Reports.{files_of}
use Rattle.archive_state.specs.Requests.{marked}
use Rattle.archive_state.proofs.Requested.{marked_all, marked_more}
use Rattle.archive_state.proofs.requests.mark_all.Goals as goal

pub loop-at-preserved : goal.loop-at-preserved
loop-at-preserved c =
    marked_more c.args.buffer.now.held.value (files_of (request_in c.args.requests.now c.args.id)) c.args.told.now c.loop-at.at c.index-told-at.result c.in_ok-info.info c.is_on_disk.result c.loop-at.files.items _ c.requires c.loop-at-test.true
    c.is_on_disk.ensures (c.in_ok-info.ensures ∙ ap (λ (x : StageFileInfo). marked x c.is_on_disk.result) c.index-told-at.is) c.loop-at.invariant c.in_ok-push.ensures.items

pub returns : goal.returns
returns c =
    c.of.ensures.items ∙ marked_all c.args.buffer.now.held.value (files_of (request_in c.args.requests.now c.args.id)) c.args.told.now c.loop-at.at c.loop-at.files.items c.requires c.loop-at-test.false c.loop-at.invariant
