use Rattle.std.proofs.Common.{◌<◌, ◌∙◌, length, arith, rules}
use Rattle.std.proofs.lemmas.Grind.{common_steps}
use Rattle.cta_journal.proofs.Pieces.{behind_gate}
use Rattle.cta_journal.proofs.journal.Journal.append_all.Goals as goal

pub returns-clause-stored : goal.returns-clause-stored
returns-clause-stored g c = λ bodies s.
    let some : 0 < length c.args.kept.now = first_of (search rules, grind (arith, common_steps)) in
    c.put.ensures.stored bodies _ (behind_gate g.R.Record.body c.args.kept.now c.deref.result.now some (c.deref.ensures.value ∙ c.in-Ok.ensures.bytes)) s

pub returns-clause-content : goal.returns-clause-content
returns-clause-content g c = λ bodies some s.
    c.put.ensures.content bodies _ (behind_gate g.R.Record.body c.args.kept.now c.deref.result.now some (c.deref.ensures.value ∙ c.in-Ok.ensures.bytes)) s

pub returns-clause-any_moment : goal.returns-clause-any_moment
returns-clause-any_moment g c = λ bodies s.
    let some : 0 < length c.args.kept.now = first_of (search rules, grind (arith, common_steps)) in
    c.put.ensures.any_moment bodies _ (behind_gate g.R.Record.body c.args.kept.now c.deref.result.now some (c.deref.ensures.value ∙ c.in-Ok.ensures.bytes)) s
