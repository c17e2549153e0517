use Rattle.std.proofs.Common.{ap, ◌∙◌, ◌≡◌, length, List}
use Rattle.std.specs.Prelude.{unwrap_or}
use Rattle.std.specs.Map.{lookup}
use Rattle.cta_model.specs.declared.states.Charge.{Charge}
use Rattle.part_model.specs.Room.{Roomed}
use Rattle.part_model.specs.JobRows.{JobRows}
use Rattle.job_book.specs.Maps.{Maps, key_of, is_key}
use Rattle.job_book.proofs.Changes.{charge-tells, charges_is}
use Rattle.job_book.proofs.Looks.{length-charges_in}
use Rattle.job_book.proofs.book.JobBook.charge.Goals as goal

pub returns-clause-book : goal.returns-clause-book
returns-clause-book c =
    let m : Maps = record { waiting = c.self.inside.waiting.entries; recalls = c.self.inside.recalls.entries; archives = c.self.inside.archives.entries; births = c.self.inside.births.entries; claims = c.self.inside.claims.entries; counts = c.self.inside.counts.entries; charges = c.self.inside.charges.entries; named = c.self.inside.named.entries } in
    let count : c.charge_count-count.result ≡ unwrap_or (lookup (is_key (key_of c.args.job)) m.counts) 0 = c.charge_count-count.ensures ∙ ap (λ (xs : List Charge). length xs) (charges_is m c.args.self.now.value c.args.job (ap (λ (v : Roomed JobRows). v.value) c.self.view_is)) ∙ length-charges_in _ _ in
    charge-tells m c.args.self.now.value c.put.new.map.entries c.put-2.new.map.entries c.args.job _ c.charge_count-count.result (ap (λ (v : Roomed JobRows). v.value) c.self.view_is) count c.put.ensures.values c.put-2.ensures.values
