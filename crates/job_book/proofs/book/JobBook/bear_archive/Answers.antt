use Rattle.std.proofs.Common.{ap}
use Rattle.part_model.specs.Room.{Roomed}
use Rattle.part_model.specs.JobRows.{JobRows}
use Rattle.job_book.specs.Maps.{Maps}
use Rattle.job_book.proofs.Changes.{bear_archive-tells}
use Rattle.job_book.proofs.book.JobBook.bear_archive.Goals as goal

pub returns-clause-book : goal.returns-clause-book
returns-clause-book c =
    let m : Maps = record { waiting = c.self.inside.waiting.entries; recalls = c.self.inside.recalls.entries; archives = c.self.inside.archives.entries; births = c.self.inside.births.entries; claims = c.self.inside.claims.entries; counts = c.self.inside.counts.entries; charges = c.self.inside.charges.entries; named = c.self.inside.named.entries } in
    bear_archive-tells m c.args.self.now.value c.put.new.map.entries c.put-2.new.map.entries c.args.job (ap (λ (v : Roomed JobRows). v.value) c.self.view_is) c.requires.archive c.put.ensures.values c.put-2.ensures.values
