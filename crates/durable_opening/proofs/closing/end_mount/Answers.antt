use Rattle.std.proofs.Common.{None, refl, subst}
use Rattle.cta_model.specs.declared.asks.Ask.TheVariants as ask
use Rattle.cta_model.specs.Legal.{IsLegal}
use Rattle.durable_opening.proofs.Asked.{can_end}
use Rattle.durable_opening.proofs.Closers.{closer_leaves, end_accepted}
use Rattle.durable_opening.proofs.closing.end_mount.Goals as goal

pub is_answered-requires : goal.is_answered-requires
is_answered-requires g c =
    let a = c.args.logged.now.archive in
    let legal : IsLegal a.site a.history = subst (λ k. IsLegal k.site k.history) c.archive.ensures c.keeps_history.ensures in
    can_end g.M.Told.told a.site a.history c.args.at c.args.mount c.args.medium legal c.requires.within c.requires.open c.requires.medium

pub returns-clause-kept : goal.returns-clause-kept
returns-clause-kept g c =
    let a = c.args.logged.now.archive in
    let accepted = end_accepted a.site a.history c.args.at c.args.mount c.requires.open c.requires.none in (
      c.is_answered.ensures.site,
      closer_leaves a.site a.history c.args.at (ask.End c.args.mount None) c.is_answered.new.logged.archive.history c.is_answered.result accepted refl c.is_answered.ensures.left,
    )
