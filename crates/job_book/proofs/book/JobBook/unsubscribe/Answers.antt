use Rattle.std.proofs.Common.{rules, ap, arith, refl, ◌∙◌, sym, ◌≡◌, Some, None}
use Rattle.std.specs.Prelude.{◌==◌, Bool, if◌then◌else◌}
use Rattle.std.specs.Map.{lookup}
use Rattle.part_model.specs.Room.{Roomed}
use Rattle.part_model.specs.JobRows.{JobRows}
use Rattle.job_book.specs.Maps.{Maps}
use Rattle.job_book.proofs.Changes.{unsubscribe_none-tells, unsubscribe-tells, unsubscribe_last-tells, places_put, last_is}
use Rattle.std.proofs.lemmas.Bool.{eq-eqb}
use Rattle.job_book.proofs.book.JobBook.unsubscribe.Goals as goal

pub returns-in_default-clause-book : goal.returns-in_default-clause-book
returns-in_default-clause-book c =
    let m : Maps = record { waiting = c.self.inside.waiting.entries; recalls = c.self.inside.recalls.entries; archives = c.self.inside.archives.entries; births = c.self.inside.births.entries; claims = c.self.inside.claims.entries; counts = c.self.inside.counts.entries; charges = c.self.inside.charges.entries; named = c.self.inside.named.entries } in
    unsubscribe_none-tells m c.args.self.now.value c.args.file c.args.owner (ap (λ (v : Roomed JobRows). v.value) c.self.view_is) (search rules)

pub returns-then-count_waiting-gt0-clause-book : goal.returns-then-count_waiting-gt0-clause-book
returns-then-count_waiting-gt0-clause-book c =
    let m : Maps = record { waiting = c.self.inside.waiting.entries; recalls = c.self.inside.recalls.entries; archives = c.self.inside.archives.entries; births = c.self.inside.births.entries; claims = c.self.inside.claims.entries; counts = c.self.inside.counts.entries; charges = c.self.inside.charges.entries; named = c.self.inside.named.entries } in
    let live : (lookup (λ k. c.args.file == k) m.recalls) ≡ Some c.in-Some.row = search rules in
    unsubscribe-tells m c.args.self.now.value c.forget.new.waiting.entries c.args.file c.args.owner c.in-Some.row (ap (λ (v : Roomed JobRows). v.value) c.self.view_is) live c.forget.ensures.waits (omega arith)

pub returns-then-count_waiting-gt0-clause-last : goal.returns-then-count_waiting-gt0-clause-last
returns-then-count_waiting-gt0-clause-last c =
    let m : Maps = record { waiting = c.self.inside.waiting.entries; recalls = c.self.inside.recalls.entries; archives = c.self.inside.archives.entries; births = c.self.inside.births.entries; claims = c.self.inside.claims.entries; counts = c.self.inside.counts.entries; charges = c.self.inside.charges.entries; named = c.self.inside.named.entries } in
    let live : (lookup (λ k. c.args.file == k) m.recalls) ≡ Some c.in-Some.row = search rules in
    sym (last_is m c.args.self.now.value c.forget.new.waiting.entries m.recalls c.args.file c.in-Some.row (Some c.in-Some.row) (ap (λ (v : Roomed JobRows). v.value) c.self.view_is) live live)

pub invariant_of-self-2 : goal.invariant_of-self-2
invariant_of-self-2 c =
    let m : Maps = record { waiting = c.self.inside.waiting.entries; recalls = c.self.inside.recalls.entries; archives = c.self.inside.archives.entries; births = c.self.inside.births.entries; claims = c.self.inside.claims.entries; counts = c.self.inside.counts.entries; charges = c.self.inside.charges.entries; named = c.self.inside.named.entries } in
    (omega arith, omega arith, omega arith, omega arith, omega arith, omega arith, omega arith, omega arith, places_put m.recalls c.take_out.new.map.entries None c.args.file c.self.inside.added c.self.inside.added c.take_out.ensures.values (omega arith) c.self.invariant.8 (omega arith), omega arith)

pub returns-clause-book : goal.returns-clause-book
returns-clause-book c =
    let m : Maps = record { waiting = c.self.inside.waiting.entries; recalls = c.self.inside.recalls.entries; archives = c.self.inside.archives.entries; births = c.self.inside.births.entries; claims = c.self.inside.claims.entries; counts = c.self.inside.counts.entries; charges = c.self.inside.charges.entries; named = c.self.inside.named.entries } in
    let live : (lookup (λ k. c.args.file == k) m.recalls) ≡ Some c.in-Some.row = search rules in
    unsubscribe_last-tells m c.args.self.now.value c.forget.new.waiting.entries c.take_out.new.map.entries c.args.file c.args.owner c.in-Some.row (ap (λ (v : Roomed JobRows). v.value) c.self.view_is) live c.forget.ensures.waits (omega arith) c.take_out.ensures.values

pub returns-clause-last : goal.returns-clause-last
returns-clause-last c =
    let m : Maps = record { waiting = c.self.inside.waiting.entries; recalls = c.self.inside.recalls.entries; archives = c.self.inside.archives.entries; births = c.self.inside.births.entries; claims = c.self.inside.claims.entries; counts = c.self.inside.counts.entries; charges = c.self.inside.charges.entries; named = c.self.inside.named.entries } in
    let live : (lookup (λ k. c.args.file == k) m.recalls) ≡ Some c.in-Some.row = search rules in
    let gone : (lookup (λ k. c.args.file == k) c.take_out.new.map.entries) ≡ None = c.take_out.ensures.values c.args.file ∙ ap (λ (b : Bool). if b then None else lookup (λ k. c.args.file == k) m.recalls) (eq-eqb c.args.file c.args.file refl) in
    sym (last_is m c.args.self.now.value c.forget.new.waiting.entries c.take_out.new.map.entries c.args.file c.in-Some.row None (ap (λ (v : Roomed JobRows). v.value) c.self.view_is) live gone)
