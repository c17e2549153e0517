use Rattle.std.proofs.Common.{ap}
use Rattle.part_model.specs.Room.{Roomed}
use Rattle.part_model.specs.JobRows.{JobRows}
use Rattle.job_book.specs.Maps.{Maps}
use Rattle.job_book.proofs.Changes.{give_back-tells}
use Rattle.job_book.proofs.book.JobBook.give_back.Goals as goal

pub returns-clause-book : goal.returns-clause-book
returns-clause-book c =
    let m : Maps = record { waiting = c.self.inside.waiting.entries; recalls = c.self.inside.recalls.entries; archives = c.self.inside.archives.entries; births = c.self.inside.births.entries; claims = c.self.inside.claims.entries; counts = c.self.inside.counts.entries; charges = c.self.inside.charges.entries; named = c.self.inside.named.entries } in
    give_back-tells m c.args.self.now.value c.take_out.new.self.entries c.args.job (ap (λ (v : Roomed JobRows). v.value) c.self.view_is) c.take_out.ensures.values
