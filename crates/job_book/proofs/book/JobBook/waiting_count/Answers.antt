use Rattle.std.proofs.Common.{rules, ap, ◌∙◌, sym, ◌≡◌, Some, None, length}
use Rattle.std.specs.Prelude.{◌==◌, Option, option_map}
use Rattle.std.specs.Map.{lookup}
use Rattle.cta_model.specs.Recalls.{Recall}
use Rattle.cta_model.specs.RepackItems.{waiting_for}
use Rattle.part_model.specs.Room.{Roomed}
use Rattle.part_model.specs.JobRows.{JobRows}
use Rattle.job_book.specs.Maps.{Maps}
use Rattle.job_book.proofs.Changes.{recall_is}
use Rattle.job_book.proofs.Looks.{recall_of}
use Rattle.job_book.proofs.book.JobBook.waiting_count.Goals as goal

pub returns-in-Some : goal.returns-in-Some
returns-in-Some c =
    let m : Maps = record { waiting = c.self.inside.waiting.entries; recalls = c.self.inside.recalls.entries; archives = c.self.inside.archives.entries; births = c.self.inside.births.entries; claims = c.self.inside.claims.entries; counts = c.self.inside.counts.entries; charges = c.self.inside.charges.entries; named = c.self.inside.named.entries } in
    let live : (lookup (λ k. c.args.file == k) m.recalls) ≡ Some c.in-Some.row = search rules in
    c.count_waiting.ensures ∙ sym (ap (λ (o : Option Recall). length (waiting_for o)) (recall_is m c.args.self.now.value c.args.file (ap (λ (v : Roomed JobRows). v.value) c.self.view_is) ∙ ap (option_map (recall_of m.waiting c.args.file)) live))

pub returns-in-None : goal.returns-in-None
returns-in-None c =
    let m : Maps = record { waiting = c.self.inside.waiting.entries; recalls = c.self.inside.recalls.entries; archives = c.self.inside.archives.entries; births = c.self.inside.births.entries; claims = c.self.inside.claims.entries; counts = c.self.inside.counts.entries; charges = c.self.inside.charges.entries; named = c.self.inside.named.entries } in
    let dead : (lookup (λ k. c.args.file == k) m.recalls) ≡ None = search rules in
    sym (ap (λ (o : Option Recall). length (waiting_for o)) (recall_is m c.args.self.now.value c.args.file (ap (λ (v : Roomed JobRows). v.value) c.self.view_is) ∙ ap (option_map (recall_of m.waiting c.args.file)) dead))
