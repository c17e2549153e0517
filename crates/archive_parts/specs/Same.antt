-- Parts that tell the same.
use Rattle.std.specs.Prelude.{ℕ, ◌≡◌, length}
use Rattle.disk_buffer.specs.Stays.{content_in}
use Rattle.part_model.specs.JobBook.{TellSame}
use Rattle.part_model.specs.JobRows.{book_in}
use Rattle.part_model.specs.Tapes.{TablesAgree}
use Rattle.archive_parts.specs.declared.parts.ArchiveParts.{ArchiveParts}

-- the parts v tell what the parts w tell, whatever rooms each have
pub record TellSameParts (v w : ArchiveParts) : Type 0 where
  pub names : v.names ≡ w.names
  pub table : TablesAgree v.tapes.value w.tapes.value
  pub tapes : length v.tapes.value.rows ≡ length w.tapes.value.rows
  pub held : v.buffer.held.value ≡ w.buffer.held.value
  pub contents : (f : ℕ) → content_in v.buffer.contents f ≡ content_in w.buffer.contents f
  pub requests : v.requests ≡ w.requests
  pub repacks : v.repacks ≡ w.repacks
  pub book : TellSame (book_in v.book.value) (book_in w.book.value)
  pub pools : v.pools.value ≡ w.pools.value
  pub recalls : v.recalls.value ≡ w.recalls.value
  pub counts : v.counts ≡ w.counts
  pub mounts : v.mounts.value ≡ w.mounts.value
  pub failed : v.failed.value ≡ w.failed.value
