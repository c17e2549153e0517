-- The refusal of an answer.
use Rattle.std.specs.Prelude.{Option, Some, None}
use Rattle.cta_model.specs.declared.answers.Answer.{Answer}
use Rattle.cta_model.specs.declared.answers.Answer.TheVariants as answer
use Rattle.cta_model.specs.declared.answers.Refusal.{Refusal}

-- the refusal that an answer is, none where it is another answer
abbrev pub refusal_of : Answer → Option Refusal
refusal_of (answer.Refused r) = Some r
refusal_of _ = None
