-- The run is that of `replay_top`, by the words behind the name.
use Rattle.std.proofs.Common.{sym}
use Rattle.cta_main.proofs.run.run.Goals as goal

pub returns : goal.returns
returns g c =
    let ended = c.replay_top-status in
    (ended.result, rw (sym c.words_of-words.ensures) ended.ensures, c.end_with.ensures)
