use Rattle.std.proofs.Common.{◌∙◌, ap, ◌∷◌, [], List, ℕ}
use Rattle.cta_journal.proofs.Records.{one_record}
use Rattle.cta_journal.proofs.journal.Journal.append.Goals as goal

pub returns-clause-stored : goal.returns-clause-stored
returns-clause-stored g c = λ bodies s. c.put.ensures.stored bodies _ (ap (λ (l : List ℕ). 1 ∷ l) (c.deref.ensures.value ∙ c.in-Ok.ensures.bytes) ∙ one_record (g.R.Record.body c.args.kept.now) (0 ∷ [])) s

pub returns-clause-content : goal.returns-clause-content
returns-clause-content g c = λ bodies s. c.put.ensures.content bodies _ (ap (λ (l : List ℕ). 1 ∷ l) (c.deref.ensures.value ∙ c.in-Ok.ensures.bytes) ∙ one_record (g.R.Record.body c.args.kept.now) (0 ∷ [])) s

pub returns-clause-any_moment : goal.returns-clause-any_moment
returns-clause-any_moment g c = λ bodies s. c.put.ensures.any_moment bodies _ (ap (λ (l : List ℕ). 1 ∷ l) (c.deref.ensures.value ∙ c.in-Ok.ensures.bytes) ∙ one_record (g.R.Record.body c.args.kept.now) (0 ∷ [])) s
