use Rattle.std.proofs.Common.{rules, ap, arith, ◌+◌, ◌≤◌, ◌≡◌}
use Rattle.part_model.specs.Room.{Roomed}
use Rattle.part_model.specs.JobRows.{JobRows}
use Rattle.job_book.specs.Maps.{Maps}
use Rattle.job_book.proofs.Changes.{subscribe-tells, subscribe_none-tells, places_put, few_places}
use Rattle.job_book.proofs.book.JobBook.subscribe.Goals as goal

pub returns-in_default-clause-book : goal.returns-in_default-clause-book
returns-in_default-clause-book c =
    let m : Maps = record { waiting = c.self.inside.waiting.entries; recalls = c.self.inside.recalls.entries; archives = c.self.inside.archives.entries; births = c.self.inside.births.entries; claims = c.self.inside.claims.entries; counts = c.self.inside.counts.entries; charges = c.self.inside.charges.entries; named = c.self.inside.named.entries } in
    subscribe_none-tells m c.args.self.now.value c.args.file c.args.owner (ap (λ (v : Roomed JobRows). v.value) c.self.view_is) (search rules)

pub overflow_add-row : goal.overflow_add-row
overflow_add-row c =
    let m : Maps = record { waiting = c.self.inside.waiting.entries; recalls = c.self.inside.recalls.entries; archives = c.self.inside.archives.entries; births = c.self.inside.births.entries; claims = c.self.inside.claims.entries; counts = c.self.inside.counts.entries; charges = c.self.inside.charges.entries; named = c.self.inside.named.entries } in
    let room : c.self.inside.room ≡ c.args.self.now.room = ap (λ (v : Roomed JobRows). v.room) c.self.view_is in
    let few : c.in-Some.row.places ≤ c.self.inside.added = few_places m.recalls c.args.file c.self.inside.added c.in-Some.row (search rules) c.self.invariant.8 in
    omega arith

pub invariant_of-self : goal.invariant_of-self
invariant_of-self c =
    let m : Maps = record { waiting = c.self.inside.waiting.entries; recalls = c.self.inside.recalls.entries; archives = c.self.inside.archives.entries; births = c.self.inside.births.entries; claims = c.self.inside.claims.entries; counts = c.self.inside.counts.entries; charges = c.self.inside.charges.entries; named = c.self.inside.named.entries } in
    let room : c.self.inside.room ≡ c.args.self.now.room = ap (λ (v : Roomed JobRows). v.room) c.self.view_is in
    let few : c.in-Some.row.places ≤ c.self.inside.added = few_places m.recalls c.args.file c.self.inside.added c.in-Some.row (search rules) c.self.invariant.8 in
    (omega arith, omega arith, omega arith, omega arith, omega arith, omega arith, omega arith, omega arith, places_put m.recalls c.put-2.new.map.entries _ c.args.file c.self.inside.added (c.self.inside.added + 1) c.put-2.ensures.values (omega arith) c.self.invariant.8 (omega arith), omega arith)

pub returns-clause-book : goal.returns-clause-book
returns-clause-book c =
    let m : Maps = record { waiting = c.self.inside.waiting.entries; recalls = c.self.inside.recalls.entries; archives = c.self.inside.archives.entries; births = c.self.inside.births.entries; claims = c.self.inside.claims.entries; counts = c.self.inside.counts.entries; charges = c.self.inside.charges.entries; named = c.self.inside.named.entries } in
    subscribe-tells m c.args.self.now.value c.put.new.map.entries c.put-2.new.map.entries c.args.file c.args.owner _ (ap (λ (v : Roomed JobRows). v.value) c.self.view_is) (search rules) c.put.ensures.values c.put-2.ensures.values
