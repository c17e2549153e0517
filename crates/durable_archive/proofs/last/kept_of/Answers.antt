use Rattle.std.proofs.Common.{subst}
use Rattle.cta_model.specs.History.{History}
use Rattle.cta_model.specs.Legal.{IsLegal}
use Rattle.durable_archive.specs.Last.{LastHas}
use Rattle.durable_archive.proofs.LastContent.{last_record}
use Rattle.durable_archive.proofs.last.kept_of.Goals as goal

pub returns : goal.returns
returns g c = λ e h is.
    let entry = c.args.entry.now in
    last_record c.args.archive.now.site e h entry c.in_ok-entry.entry c.args.number c.in_ok-blob.blob (subst (IsLegal c.args.archive.now.site) is c.keeps_history.ensures) (c.requires e h is).0 (c.requires e h is).1
    (subst (λ (l : History). LastHas l c.args.number entry.ask entry.answer c.in_ok-blob.blob) is c.in_ok-blob.ensures) c.in_ok-entry.ensures.copy
