use Rattle.std.proofs.Common.{ℕ, ap, ◌∙◌}
use Rattle.mill.specs.Top.{summary}
use Rattle.mill.proofs.Tops.{has_milled}
use Rattle.mill.proofs.top.tell.Goals as goal

pub returns-then-put_text-clause-milled : goal.returns-then-put_text-clause-milled
returns-then-put_text-clause-milled g c =
    has_milled _ c.args.milled.archive _ _ c.args.numbers c.total_len.result c.args.milled.tally.archived c.args.milled.tally.recalled c.args.milled.total c.deref.result.now c.requires.words c.requires.site c.keeps_history.ensures c.requires.milled c.requires.fetched c.total_len.ensures
    (c.deref.ensures ∙ (c.in-Ok.ensures ∙ ap (λ (n : ℕ). summary n c.total_len.result c.args.milled.tally.archived c.args.milled.tally.recalled c.args.milled.total) c.from.ensures)) (c.put_text.ensures.written c.if-put_text.true)
