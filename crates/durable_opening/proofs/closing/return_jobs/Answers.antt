use Rattle.std.proofs.Common.{◌≡◌, ◌∙◌, [], ap, refl, subst}
use Rattle.cta_model.specs.declared.asks.Ask.TheVariants as ask
use Rattle.cta_model.specs.Answers.{answer_of}
use Rattle.cta_model.specs.Bare.{bare_ask, bare_rows}
use Rattle.cta_model.specs.Legal.{IsLegal, new_entry}
use Rattle.cta_model.specs.Mounts.{claimed_items, open_mounts}
use Rattle.durable_opening.proofs.Closers.{answered_leaves, closer_leaves, failed_accepted, failed_claims_none, failed_keeps_open}
use Rattle.durable_opening.proofs.closing.return_jobs.Goals as goal

pub returns-clause-kept : goal.returns-clause-kept
returns-clause-kept g c =
    let a = c.args.logged.now.archive in
    let none : c.of.result.items ≡ [] = c.of.ensures.items ∙ c.new.ensures.items in
    let accepted = failed_accepted a.site a.history c.args.at c.args.mount c.fault_of.result c.of.result c.args.jobs c.requires.open none c.requires.jobs.0 in (
      c.is_answered.ensures.site,
      closer_leaves a.site a.history c.args.at (ask.Failed c.args.mount c.fault_of.result c.of.result c.args.jobs) c.is_answered.new.logged.archive.history c.is_answered.result accepted (none, c.requires.jobs.0) c.is_answered.ensures.left,
    )

pub returns-clause-done : goal.returns-clause-done
returns-clause-done g c = λ answered.
    let a = c.args.logged.now.archive in
    let legal : IsLegal a.site a.history = subst (λ k. IsLegal k.site k.history) c.archive.ensures c.keeps_history.ensures in
    let none : c.of.result.items ≡ [] = c.of.ensures.items ∙ c.new.ensures.items in
    let k = ask.Failed c.args.mount c.fault_of.result c.of.result c.args.jobs in
    let accepted = failed_accepted a.site a.history c.args.at c.args.mount c.fault_of.result c.of.result c.args.jobs c.requires.open none c.requires.jobs.0 in
    let e = new_entry a.history c.args.at (bare_ask k) (answer_of a.site a.history c.args.at k) in
    let is = answered_leaves a.site a.history c.args.at k c.is_answered.new.logged.archive.history c.is_answered.result accepted c.is_answered.ensures.left answered in (
      ap (λ h. claimed_items h c.args.mount) is ∙ failed_claims_none a.site a.history e c.args.mount c.fault_of.result (bare_rows c.of.result) (bare_rows c.args.jobs) legal refl none c.requires.jobs.0,
      ap open_mounts is ∙ failed_keeps_open a.history e c.args.mount c.fault_of.result (bare_rows c.of.result) (bare_rows c.args.jobs) refl,
    )
