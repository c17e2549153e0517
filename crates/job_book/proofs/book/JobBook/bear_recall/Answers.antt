use Rattle.std.proofs.Common.{ap, arith, ◌+◌, ◌≡◌}
use Rattle.part_model.specs.Room.{Roomed}
use Rattle.part_model.specs.JobRows.{JobRows}
use Rattle.job_book.specs.Maps.{Maps}
use Rattle.job_book.proofs.Changes.{bear_recall-tells, places_put}
use Rattle.job_book.proofs.book.JobBook.bear_recall.Goals as goal

pub returns-clause-book : goal.returns-clause-book
returns-clause-book c =
    let m : Maps = record { waiting = c.self.inside.waiting.entries; recalls = c.self.inside.recalls.entries; archives = c.self.inside.archives.entries; births = c.self.inside.births.entries; claims = c.self.inside.claims.entries; counts = c.self.inside.counts.entries; charges = c.self.inside.charges.entries; named = c.self.inside.named.entries } in
    bear_recall-tells m c.args.self.now.value c.put.new.map.entries c.put-3.new.map.entries c.put-2.new.map.entries c.args.job (ap (λ (v : Roomed JobRows). v.value) c.self.view_is) c.requires.recall c.put.ensures.values c.put-2.ensures.values c.put-3.ensures.values

pub invariant_of-self : goal.invariant_of-self
invariant_of-self c =
    let m : Maps = record { waiting = c.self.inside.waiting.entries; recalls = c.self.inside.recalls.entries; archives = c.self.inside.archives.entries; births = c.self.inside.births.entries; claims = c.self.inside.claims.entries; counts = c.self.inside.counts.entries; charges = c.self.inside.charges.entries; named = c.self.inside.named.entries } in
    let room : c.self.inside.room ≡ c.args.self.now.room = ap (λ (v : Roomed JobRows). v.room) c.self.view_is in
    (omega arith, omega arith, omega arith, omega arith, omega arith, omega arith, omega arith, omega arith, places_put m.recalls c.put-2.new.map.entries _ c.args.job.file c.self.inside.added (c.self.inside.added + 1) c.put-2.ensures.values (omega arith) c.self.invariant.8 (omega arith), omega arith)
