use Rattle.std.proofs.Common.{◌∙◌}
use Rattle.durable_archive.proofs.LastContent.{last_is, last_number, last_of, none_last}
use Rattle.durable_archive.proofs.last.last_kept.Goals as goal

pub kept_of-requires : goal.kept_of-requires
kept_of-requires g c = λ e h is. (
  last_is c.entries-2.result.now c.in-Some.entry.now e h c.in-Some.ensures.value (c.entries-2.ensures.history ∙ is),
  last_number c.entries.result.now e h (c.entries.ensures.history ∙ is),
)

pub returns-in_ok-kept_of-in-Some : goal.returns-in_ok-kept_of-in-Some
returns-in_ok-kept_of-in-Some g c =
    last_of c.args.archive.now.history c.entries-2.result.now c.in-Some.entry.now c.in_ok-kept_of-in-Some.field-0 c.in-Some.ensures.value c.entries-2.ensures.history (λ e h is. c.in_ok-kept_of-in-Some.ensures e h is)

pub returns-in-None : goal.returns-in-None
returns-in-None g c = none_last c.args.archive.now.history c.entries-2.result.now c.in-None.ensures.value c.entries-2.ensures.history
