use Rattle.std.proofs.Common.{subst, List}
use Rattle.tape_json.specs.Shown.{IsReadable}
use Rattle.cta_model.specs.declared.reports.RepackItem.{RepackItem}
use Rattle.std.proofs.lemmas.Result.{on_ok_weaker}
use Rattle.tape_json.specs.Reports.{id_text, list_report, repack_item_report}
use Rattle.tape_json.proofs.Objects.{repack-reads}
use Rattle.tape_json.proofs.tapes.RepackInfoReported.write.Goals as goal

pub returns-clause-reads : goal.returns-clause-reads
returns-clause-reads c =
    let it = c.args.self.now in
    let list = subst (λ (xs : List RepackItem). IsReadable 2 (list_report repack_item_report xs)) c.as_slice.ensures c.in_ok-list_member.ensures.reads in
    on_ok_weaker c.end_object.result (λ e. repack-reads (id_text it.id) it.vid (list_report repack_item_report it.items.items) list) c.end_object.ensures.ok
