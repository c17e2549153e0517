-- Of each tape the last record among the names so far is told.
use Rattle.std.proofs.Common.{◌≡◌, ◌<◌, ℕ, length, take}
use Rattle.std.specs.Prelude.{slice_index}
use Rattle.cta_site.specs.Lookups.{vid_of}
use Rattle.file_media.specs.Earlier.{IsLastOf}
use Rattle.file_media.proofs.Noted.{texts}
use Rattle.file_media.proofs.earlier.last_records.Given as goal

abbrev pub invariant-loop-name : goal.invariant-loop-name
invariant-loop-name g l = (length l.last.items ≡ length l.site.tapes.items) × ((t : ℕ) → t < length l.site.tapes.items → IsLastOf (texts (take l.name-index l.name-items)) (vid_of l.site t) (slice_index l.last.items t))
