use Rattle.std.proofs.Common.{ap, arith, refl}
use Rattle.part_model.specs.Room.{Roomed}
use Rattle.part_model.specs.JobRows.{JobRows}
use Rattle.job_book.specs.Maps.{Maps}
use Rattle.job_book.proofs.Changes.{same-tells, places_same}
use Rattle.job_book.proofs.book.JobBook.reserve.Goals as goal

pub returns-in_err-make_room-clause-book : goal.returns-in_err-make_room-clause-book
returns-in_err-make_room-clause-book c =
    let m : Maps = record { waiting = c.self.inside.waiting.entries; recalls = c.self.inside.recalls.entries; archives = c.self.inside.archives.entries; births = c.self.inside.births.entries; claims = c.self.inside.claims.entries; counts = c.self.inside.counts.entries; charges = c.self.inside.charges.entries; named = c.self.inside.named.entries } in
    same-tells m (record { waiting = c.make_room.new.map.entries; recalls = c.self.inside.recalls.entries; archives = c.self.inside.archives.entries; births = c.self.inside.births.entries; claims = c.self.inside.claims.entries; counts = c.self.inside.counts.entries; charges = c.self.inside.charges.entries; named = c.self.inside.named.entries }) c.args.self.now.value (ap (λ (v : Roomed JobRows). v.value) c.self.view_is) c.make_room.ensures.values (λ q. refl) (λ q. refl) (λ q. refl) (λ q. refl) (λ q. refl) (λ q. refl) (λ q. refl)

pub invariant_of-self-in_err-make_room-2 : goal.invariant_of-self-in_err-make_room-2
invariant_of-self-in_err-make_room-2 c =
    let m : Maps = record { waiting = c.self.inside.waiting.entries; recalls = c.self.inside.recalls.entries; archives = c.self.inside.archives.entries; births = c.self.inside.births.entries; claims = c.self.inside.claims.entries; counts = c.self.inside.counts.entries; charges = c.self.inside.charges.entries; named = c.self.inside.named.entries } in
    (omega arith, omega arith, omega arith, omega arith, omega arith, omega arith, omega arith, omega arith, places_same m.recalls c.make_room-2.new.map.entries c.self.inside.added c.make_room-2.ensures.values c.self.invariant.8, omega arith)

pub returns-in_err-make_room-2-clause-book : goal.returns-in_err-make_room-2-clause-book
returns-in_err-make_room-2-clause-book c =
    let m : Maps = record { waiting = c.self.inside.waiting.entries; recalls = c.self.inside.recalls.entries; archives = c.self.inside.archives.entries; births = c.self.inside.births.entries; claims = c.self.inside.claims.entries; counts = c.self.inside.counts.entries; charges = c.self.inside.charges.entries; named = c.self.inside.named.entries } in
    same-tells m (record { waiting = c.make_room.new.map.entries; recalls = c.make_room-2.new.map.entries; archives = c.self.inside.archives.entries; births = c.self.inside.births.entries; claims = c.self.inside.claims.entries; counts = c.self.inside.counts.entries; charges = c.self.inside.charges.entries; named = c.self.inside.named.entries }) c.args.self.now.value (ap (λ (v : Roomed JobRows). v.value) c.self.view_is) c.make_room.ensures.values c.make_room-2.ensures.values (λ q. refl) (λ q. refl) (λ q. refl) (λ q. refl) (λ q. refl) (λ q. refl)

pub invariant_of-self-in_err-make_room-3 : goal.invariant_of-self-in_err-make_room-3
invariant_of-self-in_err-make_room-3 c =
    let m : Maps = record { waiting = c.self.inside.waiting.entries; recalls = c.self.inside.recalls.entries; archives = c.self.inside.archives.entries; births = c.self.inside.births.entries; claims = c.self.inside.claims.entries; counts = c.self.inside.counts.entries; charges = c.self.inside.charges.entries; named = c.self.inside.named.entries } in
    (omega arith, omega arith, omega arith, omega arith, omega arith, omega arith, omega arith, omega arith, places_same m.recalls c.make_room-2.new.map.entries c.self.inside.added c.make_room-2.ensures.values c.self.invariant.8, omega arith)

pub returns-in_err-make_room-3-clause-book : goal.returns-in_err-make_room-3-clause-book
returns-in_err-make_room-3-clause-book c =
    let m : Maps = record { waiting = c.self.inside.waiting.entries; recalls = c.self.inside.recalls.entries; archives = c.self.inside.archives.entries; births = c.self.inside.births.entries; claims = c.self.inside.claims.entries; counts = c.self.inside.counts.entries; charges = c.self.inside.charges.entries; named = c.self.inside.named.entries } in
    same-tells m (record { waiting = c.make_room.new.map.entries; recalls = c.make_room-2.new.map.entries; archives = c.make_room-3.new.map.entries; births = c.self.inside.births.entries; claims = c.self.inside.claims.entries; counts = c.self.inside.counts.entries; charges = c.self.inside.charges.entries; named = c.self.inside.named.entries }) c.args.self.now.value (ap (λ (v : Roomed JobRows). v.value) c.self.view_is) c.make_room.ensures.values c.make_room-2.ensures.values c.make_room-3.ensures.values (λ q. refl) (λ q. refl) (λ q. refl) (λ q. refl) (λ q. refl)

pub invariant_of-self-in_err-make_room-4 : goal.invariant_of-self-in_err-make_room-4
invariant_of-self-in_err-make_room-4 c =
    let m : Maps = record { waiting = c.self.inside.waiting.entries; recalls = c.self.inside.recalls.entries; archives = c.self.inside.archives.entries; births = c.self.inside.births.entries; claims = c.self.inside.claims.entries; counts = c.self.inside.counts.entries; charges = c.self.inside.charges.entries; named = c.self.inside.named.entries } in
    (omega arith, omega arith, omega arith, omega arith, omega arith, omega arith, omega arith, omega arith, places_same m.recalls c.make_room-2.new.map.entries c.self.inside.added c.make_room-2.ensures.values c.self.invariant.8, omega arith)

pub returns-in_err-make_room-4-clause-book : goal.returns-in_err-make_room-4-clause-book
returns-in_err-make_room-4-clause-book c =
    let m : Maps = record { waiting = c.self.inside.waiting.entries; recalls = c.self.inside.recalls.entries; archives = c.self.inside.archives.entries; births = c.self.inside.births.entries; claims = c.self.inside.claims.entries; counts = c.self.inside.counts.entries; charges = c.self.inside.charges.entries; named = c.self.inside.named.entries } in
    same-tells m (record { waiting = c.make_room.new.map.entries; recalls = c.make_room-2.new.map.entries; archives = c.make_room-3.new.map.entries; births = c.make_room-4.new.map.entries; claims = c.self.inside.claims.entries; counts = c.self.inside.counts.entries; charges = c.self.inside.charges.entries; named = c.self.inside.named.entries }) c.args.self.now.value (ap (λ (v : Roomed JobRows). v.value) c.self.view_is) c.make_room.ensures.values c.make_room-2.ensures.values c.make_room-3.ensures.values c.make_room-4.ensures.values (λ q. refl) (λ q. refl) (λ q. refl) (λ q. refl)

pub invariant_of-self-in_err-reserve : goal.invariant_of-self-in_err-reserve
invariant_of-self-in_err-reserve c =
    let m : Maps = record { waiting = c.self.inside.waiting.entries; recalls = c.self.inside.recalls.entries; archives = c.self.inside.archives.entries; births = c.self.inside.births.entries; claims = c.self.inside.claims.entries; counts = c.self.inside.counts.entries; charges = c.self.inside.charges.entries; named = c.self.inside.named.entries } in
    (omega arith, omega arith, omega arith, omega arith, omega arith, omega arith, omega arith, omega arith, places_same m.recalls c.make_room-2.new.map.entries c.self.inside.added c.make_room-2.ensures.values c.self.invariant.8, omega arith)

pub returns-in_err-reserve-clause-book : goal.returns-in_err-reserve-clause-book
returns-in_err-reserve-clause-book c =
    let m : Maps = record { waiting = c.self.inside.waiting.entries; recalls = c.self.inside.recalls.entries; archives = c.self.inside.archives.entries; births = c.self.inside.births.entries; claims = c.self.inside.claims.entries; counts = c.self.inside.counts.entries; charges = c.self.inside.charges.entries; named = c.self.inside.named.entries } in
    same-tells m (record { waiting = c.make_room.new.map.entries; recalls = c.make_room-2.new.map.entries; archives = c.make_room-3.new.map.entries; births = c.make_room-4.new.map.entries; claims = c.reserve.new.self.entries; counts = c.self.inside.counts.entries; charges = c.self.inside.charges.entries; named = c.self.inside.named.entries }) c.args.self.now.value (ap (λ (v : Roomed JobRows). v.value) c.self.view_is) c.make_room.ensures.values c.make_room-2.ensures.values c.make_room-3.ensures.values c.make_room-4.ensures.values c.reserve.ensures.values (λ q. refl) (λ q. refl) (λ q. refl)

pub invariant_of-self-in_err-make_room-5 : goal.invariant_of-self-in_err-make_room-5
invariant_of-self-in_err-make_room-5 c =
    let m : Maps = record { waiting = c.self.inside.waiting.entries; recalls = c.self.inside.recalls.entries; archives = c.self.inside.archives.entries; births = c.self.inside.births.entries; claims = c.self.inside.claims.entries; counts = c.self.inside.counts.entries; charges = c.self.inside.charges.entries; named = c.self.inside.named.entries } in
    (omega arith, omega arith, omega arith, omega arith, omega arith, omega arith, omega arith, omega arith, places_same m.recalls c.make_room-2.new.map.entries c.self.inside.added c.make_room-2.ensures.values c.self.invariant.8, omega arith)

pub returns-in_err-make_room-5-clause-book : goal.returns-in_err-make_room-5-clause-book
returns-in_err-make_room-5-clause-book c =
    let m : Maps = record { waiting = c.self.inside.waiting.entries; recalls = c.self.inside.recalls.entries; archives = c.self.inside.archives.entries; births = c.self.inside.births.entries; claims = c.self.inside.claims.entries; counts = c.self.inside.counts.entries; charges = c.self.inside.charges.entries; named = c.self.inside.named.entries } in
    same-tells m (record { waiting = c.make_room.new.map.entries; recalls = c.make_room-2.new.map.entries; archives = c.make_room-3.new.map.entries; births = c.make_room-4.new.map.entries; claims = c.reserve.new.self.entries; counts = c.make_room-5.new.map.entries; charges = c.self.inside.charges.entries; named = c.self.inside.named.entries }) c.args.self.now.value (ap (λ (v : Roomed JobRows). v.value) c.self.view_is) c.make_room.ensures.values c.make_room-2.ensures.values c.make_room-3.ensures.values c.make_room-4.ensures.values c.reserve.ensures.values c.make_room-5.ensures.values (λ q. refl) (λ q. refl)

pub invariant_of-self-in_err-make_room-6 : goal.invariant_of-self-in_err-make_room-6
invariant_of-self-in_err-make_room-6 c =
    let m : Maps = record { waiting = c.self.inside.waiting.entries; recalls = c.self.inside.recalls.entries; archives = c.self.inside.archives.entries; births = c.self.inside.births.entries; claims = c.self.inside.claims.entries; counts = c.self.inside.counts.entries; charges = c.self.inside.charges.entries; named = c.self.inside.named.entries } in
    (omega arith, omega arith, omega arith, omega arith, omega arith, omega arith, omega arith, omega arith, places_same m.recalls c.make_room-2.new.map.entries c.self.inside.added c.make_room-2.ensures.values c.self.invariant.8, omega arith)

pub returns-in_err-make_room-6-clause-book : goal.returns-in_err-make_room-6-clause-book
returns-in_err-make_room-6-clause-book c =
    let m : Maps = record { waiting = c.self.inside.waiting.entries; recalls = c.self.inside.recalls.entries; archives = c.self.inside.archives.entries; births = c.self.inside.births.entries; claims = c.self.inside.claims.entries; counts = c.self.inside.counts.entries; charges = c.self.inside.charges.entries; named = c.self.inside.named.entries } in
    same-tells m (record { waiting = c.make_room.new.map.entries; recalls = c.make_room-2.new.map.entries; archives = c.make_room-3.new.map.entries; births = c.make_room-4.new.map.entries; claims = c.reserve.new.self.entries; counts = c.make_room-5.new.map.entries; charges = c.make_room-6.new.map.entries; named = c.self.inside.named.entries }) c.args.self.now.value (ap (λ (v : Roomed JobRows). v.value) c.self.view_is) c.make_room.ensures.values c.make_room-2.ensures.values c.make_room-3.ensures.values c.make_room-4.ensures.values c.reserve.ensures.values c.make_room-5.ensures.values c.make_room-6.ensures.values (λ q. refl)

pub invariant_of-self-in_err-make_room-7 : goal.invariant_of-self-in_err-make_room-7
invariant_of-self-in_err-make_room-7 c =
    let m : Maps = record { waiting = c.self.inside.waiting.entries; recalls = c.self.inside.recalls.entries; archives = c.self.inside.archives.entries; births = c.self.inside.births.entries; claims = c.self.inside.claims.entries; counts = c.self.inside.counts.entries; charges = c.self.inside.charges.entries; named = c.self.inside.named.entries } in
    (omega arith, omega arith, omega arith, omega arith, omega arith, omega arith, omega arith, omega arith, places_same m.recalls c.make_room-2.new.map.entries c.self.inside.added c.make_room-2.ensures.values c.self.invariant.8, omega arith)

pub returns-in_err-make_room-7-clause-book : goal.returns-in_err-make_room-7-clause-book
returns-in_err-make_room-7-clause-book c =
    let m : Maps = record { waiting = c.self.inside.waiting.entries; recalls = c.self.inside.recalls.entries; archives = c.self.inside.archives.entries; births = c.self.inside.births.entries; claims = c.self.inside.claims.entries; counts = c.self.inside.counts.entries; charges = c.self.inside.charges.entries; named = c.self.inside.named.entries } in
    same-tells m (record { waiting = c.make_room.new.map.entries; recalls = c.make_room-2.new.map.entries; archives = c.make_room-3.new.map.entries; births = c.make_room-4.new.map.entries; claims = c.reserve.new.self.entries; counts = c.make_room-5.new.map.entries; charges = c.make_room-6.new.map.entries; named = c.make_room-7.new.map.entries }) c.args.self.now.value (ap (λ (v : Roomed JobRows). v.value) c.self.view_is) c.make_room.ensures.values c.make_room-2.ensures.values c.make_room-3.ensures.values c.make_room-4.ensures.values c.reserve.ensures.values c.make_room-5.ensures.values c.make_room-6.ensures.values c.make_room-7.ensures.values

pub invariant_of-self-then-self-jobs : goal.invariant_of-self-then-self-jobs
invariant_of-self-then-self-jobs c =
    let m : Maps = record { waiting = c.self.inside.waiting.entries; recalls = c.self.inside.recalls.entries; archives = c.self.inside.archives.entries; births = c.self.inside.births.entries; claims = c.self.inside.claims.entries; counts = c.self.inside.counts.entries; charges = c.self.inside.charges.entries; named = c.self.inside.named.entries } in
    (omega arith, omega arith, omega arith, omega arith, omega arith, omega arith, omega arith, omega arith, places_same m.recalls c.make_room-2.new.map.entries c.self.inside.added c.make_room-2.ensures.values c.self.invariant.8, omega arith)

pub returns-then-self-jobs-clause-book : goal.returns-then-self-jobs-clause-book
returns-then-self-jobs-clause-book c =
    let m : Maps = record { waiting = c.self.inside.waiting.entries; recalls = c.self.inside.recalls.entries; archives = c.self.inside.archives.entries; births = c.self.inside.births.entries; claims = c.self.inside.claims.entries; counts = c.self.inside.counts.entries; charges = c.self.inside.charges.entries; named = c.self.inside.named.entries } in
    same-tells m (record { waiting = c.make_room.new.map.entries; recalls = c.make_room-2.new.map.entries; archives = c.make_room-3.new.map.entries; births = c.make_room-4.new.map.entries; claims = c.reserve.new.self.entries; counts = c.make_room-5.new.map.entries; charges = c.make_room-6.new.map.entries; named = c.make_room-7.new.map.entries }) c.args.self.now.value (ap (λ (v : Roomed JobRows). v.value) c.self.view_is) c.make_room.ensures.values c.make_room-2.ensures.values c.make_room-3.ensures.values c.make_room-4.ensures.values c.reserve.ensures.values c.make_room-5.ensures.values c.make_room-6.ensures.values c.make_room-7.ensures.values

pub invariant_of-self-then-from-self : goal.invariant_of-self-then-from-self
invariant_of-self-then-from-self c =
    let m : Maps = record { waiting = c.self.inside.waiting.entries; recalls = c.self.inside.recalls.entries; archives = c.self.inside.archives.entries; births = c.self.inside.births.entries; claims = c.self.inside.claims.entries; counts = c.self.inside.counts.entries; charges = c.self.inside.charges.entries; named = c.self.inside.named.entries } in
    (omega arith, omega arith, omega arith, omega arith, omega arith, omega arith, omega arith, omega arith, places_same m.recalls c.make_room-2.new.map.entries c.self.inside.added c.make_room-2.ensures.values c.self.invariant.8, omega arith)

pub returns-then-from-self-clause-book : goal.returns-then-from-self-clause-book
returns-then-from-self-clause-book c =
    let m : Maps = record { waiting = c.self.inside.waiting.entries; recalls = c.self.inside.recalls.entries; archives = c.self.inside.archives.entries; births = c.self.inside.births.entries; claims = c.self.inside.claims.entries; counts = c.self.inside.counts.entries; charges = c.self.inside.charges.entries; named = c.self.inside.named.entries } in
    same-tells m (record { waiting = c.make_room.new.map.entries; recalls = c.make_room-2.new.map.entries; archives = c.make_room-3.new.map.entries; births = c.make_room-4.new.map.entries; claims = c.reserve.new.self.entries; counts = c.make_room-5.new.map.entries; charges = c.make_room-6.new.map.entries; named = c.make_room-7.new.map.entries }) c.args.self.now.value (ap (λ (v : Roomed JobRows). v.value) c.self.view_is) c.make_room.ensures.values c.make_room-2.ensures.values c.make_room-3.ensures.values c.make_room-4.ensures.values c.reserve.ensures.values c.make_room-5.ensures.values c.make_room-6.ensures.values c.make_room-7.ensures.values

pub invariant_of-self-2 : goal.invariant_of-self-2
invariant_of-self-2 c =
    let m : Maps = record { waiting = c.self.inside.waiting.entries; recalls = c.self.inside.recalls.entries; archives = c.self.inside.archives.entries; births = c.self.inside.births.entries; claims = c.self.inside.claims.entries; counts = c.self.inside.counts.entries; charges = c.self.inside.charges.entries; named = c.self.inside.named.entries } in
    (omega (arith, c.in_ok-make_room.ensures.room), omega (arith, c.in_ok-make_room-2.ensures.room), omega (arith, c.in_ok-make_room-3.ensures.room), omega (arith, c.in_ok-make_room-4.ensures.room), omega (arith, c.in_ok-reserve.ensures.room), omega (arith, c.in_ok-make_room-5.ensures.room), omega (arith, c.in_ok-make_room-6.ensures.room), omega (arith, c.in_ok-make_room-7.ensures.room), places_same m.recalls c.make_room-2.new.map.entries c.self.inside.added c.make_room-2.ensures.values c.self.invariant.8, omega arith)

pub returns-clause-book : goal.returns-clause-book
returns-clause-book c =
    let m : Maps = record { waiting = c.self.inside.waiting.entries; recalls = c.self.inside.recalls.entries; archives = c.self.inside.archives.entries; births = c.self.inside.births.entries; claims = c.self.inside.claims.entries; counts = c.self.inside.counts.entries; charges = c.self.inside.charges.entries; named = c.self.inside.named.entries } in
    same-tells m (record { waiting = c.make_room.new.map.entries; recalls = c.make_room-2.new.map.entries; archives = c.make_room-3.new.map.entries; births = c.make_room-4.new.map.entries; claims = c.reserve.new.self.entries; counts = c.make_room-5.new.map.entries; charges = c.make_room-6.new.map.entries; named = c.make_room-7.new.map.entries }) c.args.self.now.value (ap (λ (v : Roomed JobRows). v.value) c.self.view_is) c.make_room.ensures.values c.make_room-2.ensures.values c.make_room-3.ensures.values c.make_room-4.ensures.values c.reserve.ensures.values c.make_room-5.ensures.values c.make_room-6.ensures.values c.make_room-7.ensures.values
