use Rattle.std.proofs.lemmas.Result.{on_ok_weaker}
use Rattle.tape_json.specs.Reports.{file_state_name}
use Rattle.tape_json.proofs.Objects.{file-reads}
use Rattle.tape_json.proofs.stages.StageFileInfoReported.write.Goals as goal

pub returns-clause-reads : goal.returns-clause-reads
returns-clause-reads c =
    let it = c.args.self.now in
    on_ok_weaker c.end_object.result (λ e. file-reads it.error it.finished_at it.started_at it.on_disk it.path (file_state_name it.state) c.count_member_if.ensures.fits c.count_member_if-2.ensures.fits) c.end_object.ensures.ok
