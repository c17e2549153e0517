use Rattle.file_media.proofs.Writes.{put_then}
use Rattle.file_media.proofs.records.put_whole.Goals as goal

pub returns : goal.returns
returns g c = put_then _ _ _ _ _ _ _ _ _ _ c.part.ensures c.part-2.ensures c.record.ensures c.in_ok-put.ensures c.rename.ensures
