use Rattle.std.proofs.Common.{◌≡◌, false, true, is_ok, rules}
use Rattle.file_media.proofs.Writes.{written_after, written_as}
use Rattle.file_media.proofs.records.write_record.Goals as goal

pub returns-in_err-put_whole-clause-done : goal.returns-in_err-put_whole-clause-done
returns-in_err-put_whole-clause-done g c =
    let bad : is_ok c.from_residual-in_err-put_whole.result ≡ false = search rules in
    written_as _ _ _ _ _ _ _ bad (written_after c.args.medium.now.vid _ c.args.blob.now c.args.fseq c.args.medium.now.written false _ _ _ c.in_ok-cut.ensures.same.1 c.in_ok-cut.ensures.done c.in_err-put_whole.ensures)

pub returns-clause-done : goal.returns-clause-done
returns-clause-done g c = written_after c.args.medium.now.vid _ c.args.blob.now c.args.fseq c.args.medium.now.written true _ _ _ c.in_ok-cut.ensures.same.1 c.in_ok-cut.ensures.done c.in_ok-put_whole.ensures
