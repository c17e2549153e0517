use Rattle.std.proofs.Common.{rules, ap, ◌∙◌, sym, ◌≡◌, length, List}
use Rattle.std.specs.Prelude.{unwrap_or}
use Rattle.std.specs.Map.{lookup}
use Rattle.cta_model.specs.declared.states.Charge.{Charge}
use Rattle.part_model.specs.Room.{Roomed}
use Rattle.part_model.specs.JobRows.{JobRows}
use Rattle.job_book.specs.Maps.{Maps, key_of, is_key, charge_at}
use Rattle.job_book.proofs.Changes.{charges_is}
use Rattle.job_book.proofs.Looks.{length-charges_in}
use Rattle.job_book.proofs.book.JobBook.charge_count.Goals as goal

pub returns : goal.returns
returns c =
    let m : Maps = record { waiting = c.self.inside.waiting.entries; recalls = c.self.inside.recalls.entries; archives = c.self.inside.archives.entries; births = c.self.inside.births.entries; claims = c.self.inside.claims.entries; counts = c.self.inside.counts.entries; charges = c.self.inside.charges.entries; named = c.self.inside.named.entries } in
    let found : c.unwrap_or.result ≡ unwrap_or (lookup (is_key (key_of c.args.job)) m.counts) 0 = search rules in
    found ∙ sym (length-charges_in (charge_at m.charges (key_of c.args.job)) (unwrap_or (lookup (is_key (key_of c.args.job)) m.counts) 0)) ∙ sym (ap (λ (xs : List Charge). length xs) (charges_is m c.args.self.now.value c.args.job (ap (λ (v : Roomed JobRows). v.value) c.self.view_is)))
