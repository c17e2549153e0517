-- The rooms of the parts.
use Rattle.std.specs.Prelude.{◌≤◌}
use Rattle.archive_parts.specs.declared.needs.Needs.{Needs}
use Rattle.archive_parts.specs.declared.parts.ArchiveParts.{ArchiveParts}

-- the parts have room for at least so many additions of each kind
pub record HaveRoom (n : Needs) (p : ArchiveParts) : Type 0 where
  pub jobs : n.jobs ≤ p.book.room
  pub writes : n.writes ≤ p.pools.room
  pub reads : n.reads ≤ p.recalls.room
  pub files : n.files ≤ p.buffer.held.room
  pub places : n.places ≤ p.tapes.room
  pub mounts : n.mounts ≤ p.mounts.room
  pub failed : n.failed ≤ p.failed.room
