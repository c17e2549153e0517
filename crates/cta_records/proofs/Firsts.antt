-- Which ask or answer bytes begin with, by their first byte.
use Rattle.std.proofs.Common.{◌≡◌, ◌∙◌, ◌==◌, ◌||◌, Bool, true, false, List, [], ◌∷◌, ℕ, refl, ap, sym}
use Rattle.std.proofs.lemmas.Bool.{false≢true}
use Rattle.record_fields.specs.Numbers.{number, IsNumber}
use Rattle.record_fields.specs.Texts.{text}
use Rattle.record_fields.specs.Lists.{list_before}
use Rattle.record_fields.specs.Values.{who_before, WhoFits}
use Rattle.record_fields.specs.Choices.{tape_state_before}
use Rattle.record_fields.specs.Reports.{stage_info_before, StageInfoFits, tape_info_before, TapeInfoFits}
use Rattle.cta_model.specs.declared.asks.Who.{Who}
use Rattle.cta_model.specs.declared.asks.Ask.{Ask}
use Rattle.cta_model.specs.declared.asks.Ask.TheVariants as ask
use Rattle.cta_model.specs.declared.answers.Answer.{Answer}
use Rattle.cta_model.specs.declared.answers.Answer.TheVariants as answer
use Rattle.cta_model.specs.declared.reports.StageInfo.{StageInfo}
use Rattle.cta_model.specs.declared.reports.TapeInfo.{TapeInfo}
use Rattle.cta_records.specs.Asks.{ask_before, AskFits}
use Rattle.cta_records.specs.Answers.{answer_before, AnswerFits}

abbrev first : List ℕ → ℕ
first [] = 0
first (n ∷ rest) = n

abbrev behind : List ℕ → List ℕ
behind [] = []
behind (n ∷ rest) = rest

-- the asks that begin with who asks and a number
abbrev pub has_number : ℕ → Bool
has_number n = n == 3 || n == 4 || n == 5 || n == 12 || n == 13 || n == 14 || n == 15 || n == 16

abbrev pub WhoAndNumber : List ℕ → Type 0
WhoAndNumber bytes = (who : Who) × (n : ℕ) × (rest : List ℕ) × WhoFits who × IsNumber n × (bytes ≡ who_before who (number n rest))

other : (n k : ℕ) → n ≡ k → has_number k ≡ false → has_number n ≡ true → ⊥
other n k same far near = false≢true (sym far ∙ ap has_number (sym same) ∙ near)

pub who_and_number : (v : Ask) (n : ℕ) (bytes rest : List ℕ) → AskFits v → n ∷ bytes ≡ ask_before v rest → has_number n ≡ true → WhoAndNumber bytes
who_and_number (ask.Put who path sum) n bytes rest fit is has = absurd (other n 0 (ap first is) refl has)
who_and_number (ask.Delete who path) n bytes rest fit is has = absurd (other n 1 (ap first is) refl has)
who_and_number (ask.Stage who files) n bytes rest fit is has = absurd (other n 2 (ap first is) refl has)
who_and_number (ask.Cancel who id paths) n bytes rest fit is has = (who, id, (list_before text paths.items rest), fit.0, fit.1, ap behind is)
who_and_number (ask.DropStage who id) n bytes rest fit is has = (who, id, rest, fit.0, fit.1, ap behind is)
who_and_number (ask.Release who id paths) n bytes rest fit is has = (who, id, (list_before text paths.items rest), fit.0, fit.1, ap behind is)
who_and_number (ask.Next drive) n bytes rest fit is has = absurd (other n 6 (ap first is) refl has)
who_and_number (ask.Claim mount) n bytes rest fit is has = absurd (other n 7 (ap first is) refl has)
who_and_number (ask.Flushed mount items) n bytes rest fit is has = absurd (other n 8 (ap first is) refl has)
who_and_number (ask.Recalled mount job) n bytes rest fit is has = absurd (other n 9 (ap first is) refl has)
who_and_number (ask.Failed mount fault charged returned) n bytes rest fit is has = absurd (other n 10 (ap first is) refl has)
who_and_number (ask.End mount fault) n bytes rest fit is has = absurd (other n 11 (ap first is) refl has)
who_and_number (ask.DriveUp who drive) n bytes rest fit is has = (who, drive, rest, fit.0, fit.1, ap behind is)
who_and_number (ask.DriveDown who drive) n bytes rest fit is has = (who, drive, rest, fit.0, fit.1, ap behind is)
who_and_number (ask.TapeState who tape state) n bytes rest fit is has = (who, tape, (tape_state_before state rest), fit.0, fit.1, ap behind is)
who_and_number (ask.Reclaim who tape) n bytes rest fit is has = (who, tape, rest, fit.0, fit.1, ap behind is)
who_and_number (ask.Repack who tape) n bytes rest fit is has = (who, tape, rest, fit.0, fit.1, ap behind is)
who_and_number (ask.Retry who paths) n bytes rest fit is has = absurd (other n 17 (ap first is) refl has)

pub stage_in : (v : Answer) (bytes rest : List ℕ) → AnswerFits v → 14 ∷ bytes ≡ answer_before v rest → (info : StageInfo) × StageInfoFits info × (bytes ≡ stage_info_before info rest)
stage_in (answer.Stored evicted) bytes rest fit is = absurd (false≢true (sym (ap (λ xs. 14 == first xs) is)))
stage_in answer.Done bytes rest fit is = absurd (false≢true (sym (ap (λ xs. 14 == first xs) is)))
stage_in (answer.Staged id) bytes rest fit is = absurd (false≢true (sym (ap (λ xs. 14 == first xs) is)))
stage_in (answer.Mounted mount direction tape) bytes rest fit is = absurd (false≢true (sym (ap (λ xs. 14 == first xs) is)))
stage_in answer.Idle bytes rest fit is = absurd (false≢true (sym (ap (λ xs. 14 == first xs) is)))
stage_in answer.DriveDown bytes rest fit is = absurd (false≢true (sym (ap (λ xs. 14 == first xs) is)))
stage_in answer.DriveBusy bytes rest fit is = absurd (false≢true (sym (ap (λ xs. 14 == first xs) is)))
stage_in (answer.Batch items evicted) bytes rest fit is = absurd (false≢true (sym (ap (λ xs. 14 == first xs) is)))
stage_in answer.Nothing bytes rest fit is = absurd (false≢true (sym (ap (λ xs. 14 == first xs) is)))
stage_in (answer.Told fates) bytes rest fit is = absurd (false≢true (sym (ap (λ xs. 14 == first xs) is)))
stage_in (answer.Arrived fate) bytes rest fit is = absurd (false≢true (sym (ap (λ xs. 14 == first xs) is)))
stage_in (answer.Repacking id items) bytes rest fit is = absurd (false≢true (sym (ap (λ xs. 14 == first xs) is)))
stage_in (answer.Retried jobs) bytes rest fit is = absurd (false≢true (sym (ap (λ xs. 14 == first xs) is)))
stage_in (answer.Bytes sum) bytes rest fit is = absurd (false≢true (sym (ap (λ xs. 14 == first xs) is)))
stage_in (answer.Stage info) bytes rest fit is = (info, fit, ap behind is)
stage_in (answer.Places places) bytes rest fit is = absurd (false≢true (sym (ap (λ xs. 14 == first xs) is)))
stage_in (answer.RepackSeen info) bytes rest fit is = absurd (false≢true (sym (ap (λ xs. 14 == first xs) is)))
stage_in (answer.FailedSeen copies) bytes rest fit is = absurd (false≢true (sym (ap (λ xs. 14 == first xs) is)))
stage_in (answer.TapeSeen info) bytes rest fit is = absurd (false≢true (sym (ap (λ xs. 14 == first xs) is)))
stage_in (answer.QueuesSeen queues) bytes rest fit is = absurd (false≢true (sym (ap (λ xs. 14 == first xs) is)))
stage_in (answer.Refused refusal) bytes rest fit is = absurd (false≢true (sym (ap (λ xs. 14 == first xs) is)))

pub tape_in : (v : Answer) (bytes rest : List ℕ) → AnswerFits v → 18 ∷ bytes ≡ answer_before v rest → (info : TapeInfo) × TapeInfoFits info × (bytes ≡ tape_info_before info rest)
tape_in (answer.Stored evicted) bytes rest fit is = absurd (false≢true (sym (ap (λ xs. 18 == first xs) is)))
tape_in answer.Done bytes rest fit is = absurd (false≢true (sym (ap (λ xs. 18 == first xs) is)))
tape_in (answer.Staged id) bytes rest fit is = absurd (false≢true (sym (ap (λ xs. 18 == first xs) is)))
tape_in (answer.Mounted mount direction tape) bytes rest fit is = absurd (false≢true (sym (ap (λ xs. 18 == first xs) is)))
tape_in answer.Idle bytes rest fit is = absurd (false≢true (sym (ap (λ xs. 18 == first xs) is)))
tape_in answer.DriveDown bytes rest fit is = absurd (false≢true (sym (ap (λ xs. 18 == first xs) is)))
tape_in answer.DriveBusy bytes rest fit is = absurd (false≢true (sym (ap (λ xs. 18 == first xs) is)))
tape_in (answer.Batch items evicted) bytes rest fit is = absurd (false≢true (sym (ap (λ xs. 18 == first xs) is)))
tape_in answer.Nothing bytes rest fit is = absurd (false≢true (sym (ap (λ xs. 18 == first xs) is)))
tape_in (answer.Told fates) bytes rest fit is = absurd (false≢true (sym (ap (λ xs. 18 == first xs) is)))
tape_in (answer.Arrived fate) bytes rest fit is = absurd (false≢true (sym (ap (λ xs. 18 == first xs) is)))
tape_in (answer.Repacking id items) bytes rest fit is = absurd (false≢true (sym (ap (λ xs. 18 == first xs) is)))
tape_in (answer.Retried jobs) bytes rest fit is = absurd (false≢true (sym (ap (λ xs. 18 == first xs) is)))
tape_in (answer.Bytes sum) bytes rest fit is = absurd (false≢true (sym (ap (λ xs. 18 == first xs) is)))
tape_in (answer.Stage info) bytes rest fit is = absurd (false≢true (sym (ap (λ xs. 18 == first xs) is)))
tape_in (answer.Places places) bytes rest fit is = absurd (false≢true (sym (ap (λ xs. 18 == first xs) is)))
tape_in (answer.RepackSeen info) bytes rest fit is = absurd (false≢true (sym (ap (λ xs. 18 == first xs) is)))
tape_in (answer.FailedSeen copies) bytes rest fit is = absurd (false≢true (sym (ap (λ xs. 18 == first xs) is)))
tape_in (answer.TapeSeen info) bytes rest fit is = (info, fit, ap behind is)
tape_in (answer.QueuesSeen queues) bytes rest fit is = absurd (false≢true (sym (ap (λ xs. 18 == first xs) is)))
tape_in (answer.Refused refusal) bytes rest fit is = absurd (false≢true (sym (ap (λ xs. 18 == first xs) is)))
