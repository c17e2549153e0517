use Rattle.std.proofs.Common.{◌+◌, sym, ap, ◌∙◌, length}
use Rattle.cta_model.proofs.Newest.{length-history_in}
use Rattle.archive_restore.proofs.played.next_number.Goals as goal

pub returns : goal.returns
returns g c = ap (λ n. n + 1) (sym (length-history_in c.entries.result.now) ∙ ap length c.entries.ensures.history)
