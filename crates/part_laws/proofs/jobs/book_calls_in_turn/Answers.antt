use Rattle.part_laws.proofs.TurnLaws as law
use Rattle.part_laws.proofs.jobs.book_calls_in_turn.Goals as goal

pub returns : goal.returns
returns c = law.book_calls_in_turn
