-- What callers ask of an archive.
use Rattle.std.specs.Prelude.{Bool, true, not}
use Rattle.archive_front.specs.declared.questions.Question.{Question}
use Rattle.archive_front.specs.declared.questions.Question.TheVariants as question
use Rattle.drive_turns.specs.Turns.{is_of_session}

-- whether this is what a caller asks: a look, or an ask that is no session's
abbrev pub is_callers : Question → Bool
is_callers (question.Ask k) = not (is_of_session k)
is_callers (question.Look k) = true
