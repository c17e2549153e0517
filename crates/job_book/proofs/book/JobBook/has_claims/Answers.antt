use Rattle.std.proofs.Common.{ap, sym, ◌∙◌}
use Rattle.part_model.specs.Room.{Roomed}
use Rattle.part_model.specs.JobRows.{JobRows}
use Rattle.job_book.specs.Maps.{Maps}
use Rattle.job_book.proofs.ClaimedJobs.{claims_none, claims_some}
use Rattle.job_book.proofs.book.JobBook.has_claims.Goals as goal

pub returns-clause-some : goal.returns-clause-some
returns-clause-some c =
    let m : Maps = record { waiting = c.self.inside.waiting.entries; recalls = c.self.inside.recalls.entries; archives = c.self.inside.archives.entries; births = c.self.inside.births.entries; claims = c.self.inside.claims.entries; counts = c.self.inside.counts.entries; charges = c.self.inside.charges.entries; named = c.self.inside.named.entries } in
    λ is. claims_some m c.args.self.now.value c.args.mount (ap (λ (v : Roomed JobRows). v.value) c.self.view_is) c.has.ensures.unique (sym c.has.ensures.any ∙ is)

pub returns-clause-none : goal.returns-clause-none
returns-clause-none c =
    let m : Maps = record { waiting = c.self.inside.waiting.entries; recalls = c.self.inside.recalls.entries; archives = c.self.inside.archives.entries; births = c.self.inside.births.entries; claims = c.self.inside.claims.entries; counts = c.self.inside.counts.entries; charges = c.self.inside.charges.entries; named = c.self.inside.named.entries } in
    λ is. claims_none m c.args.self.now.value c.args.mount (ap (λ (v : Roomed JobRows). v.value) c.self.view_is) (sym c.has.ensures.any ∙ is)
