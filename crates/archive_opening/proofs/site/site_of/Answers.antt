use Rattle.archive_opening.proofs.Sites.{checked_told, file_error}
use Rattle.archive_opening.proofs.site.site_of.Goals as goal

pub returns-in-Ok : goal.returns-in-Ok
returns-in-Ok c = checked_told c.args.bytes.now c.in-Ok.site c.check.result c.in-Ok.ensures.value.0 c.in-Ok.ensures.value.1 c.check.ensures

pub returns-in-Err : goal.returns-in-Err
returns-in-Err c = file_error c.in-Err.error c.args.bytes.now c.in-Err.ensures.value
