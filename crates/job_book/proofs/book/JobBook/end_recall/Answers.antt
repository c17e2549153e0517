use Rattle.std.proofs.Common.{rules, ap, arith, None}
use Rattle.part_model.specs.Room.{Roomed}
use Rattle.part_model.specs.JobRows.{JobRows}
use Rattle.job_book.specs.Maps.{Maps}
use Rattle.job_book.proofs.Changes.{end_recall-tells, end_none-tells, places_put}
use Rattle.job_book.proofs.book.JobBook.end_recall.Goals as goal

pub invariant_of-self : goal.invariant_of-self
invariant_of-self c =
    let m : Maps = record { waiting = c.self.inside.waiting.entries; recalls = c.self.inside.recalls.entries; archives = c.self.inside.archives.entries; births = c.self.inside.births.entries; claims = c.self.inside.claims.entries; counts = c.self.inside.counts.entries; charges = c.self.inside.charges.entries; named = c.self.inside.named.entries } in
    (omega arith, omega arith, omega arith, omega arith, omega arith, omega arith, omega arith, omega arith, places_put m.recalls c.take_out.new.map.entries None c.args.job.file c.self.inside.added c.self.inside.added c.take_out.ensures.values (omega arith) c.self.invariant.8 (omega arith), omega arith)

pub returns-in-Some-clause-book : goal.returns-in-Some-clause-book
returns-in-Some-clause-book c =
    let m : Maps = record { waiting = c.self.inside.waiting.entries; recalls = c.self.inside.recalls.entries; archives = c.self.inside.archives.entries; births = c.self.inside.births.entries; claims = c.self.inside.claims.entries; counts = c.self.inside.counts.entries; charges = c.self.inside.charges.entries; named = c.self.inside.named.entries } in
    end_recall-tells m c.args.self.now.value c.forget_all.new.waiting.entries c.take_out.new.map.entries c.args.job (ap (λ (v : Roomed JobRows). v.value) c.self.view_is) c.requires c.forget_all.ensures.waits c.take_out.ensures.values

pub returns-in_default-clause-book : goal.returns-in_default-clause-book
returns-in_default-clause-book c =
    let m : Maps = record { waiting = c.self.inside.waiting.entries; recalls = c.self.inside.recalls.entries; archives = c.self.inside.archives.entries; births = c.self.inside.births.entries; claims = c.self.inside.claims.entries; counts = c.self.inside.counts.entries; charges = c.self.inside.charges.entries; named = c.self.inside.named.entries } in
    end_none-tells m c.args.self.now.value c.args.job (ap (λ (v : Roomed JobRows). v.value) c.self.view_is) c.requires (search rules)
