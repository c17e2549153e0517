use Rattle.std.proofs.Common.{◌≡◌, false, true, arith}
use Rattle.serde_json.specs.View.{view}
use Rattle.site_json.proofs.Whole.{file_read, file_unread, file_too_long}
use Rattle.site_json.proofs.read.file_of.Goals as goal

pub returns-then-bytes-gt-MOST_BYTES : goal.returns-then-bytes-gt-MOST_BYTES
returns-then-bytes-gt-MOST_BYTES c = file_too_long _ (omega arith)

pub returns-in-Ok : goal.returns-in-Ok
returns-in-Ok c = file_read c.args.bytes.now _ (view c.in-Ok.value) (omega arith) c.in-Ok.ensures.ok.0 c.in-Ok.ensures.ok.1 c.object_alone.ensures

pub returns-else-is_memory : goal.returns-else-is_memory
returns-else-is_memory c = file_unread c.args.bytes.now (c.in-Err.ensures.err (λ m. let bad : false ≡ true = c.if-is_memory.ensures.1 m in absurd (cc)))
