use Rattle.part_answers.proofs.Firsts as first
use Rattle.part_answers.proofs.least_choice.choice_is_least.Goals as goal

pub returns : goal.returns
returns c = first.choice_is_least
