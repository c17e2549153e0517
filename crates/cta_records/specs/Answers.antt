-- Answers as bytes, with what follows: one byte, the place of the variant from 0, and its members in their order.
use Rattle.std.specs.Prelude.{ℕ, List, ◌∷◌}
use Rattle.record_fields.specs.Numbers.{number, IsAny, IsNumber}
use Rattle.record_fields.specs.Lists.{list_before, ListFits}
use Rattle.record_fields.specs.Values.{sum_before, SumFits, job_before, JobFits, item_before, ItemFits}
use Rattle.record_fields.specs.Choices.{direction_before, fate_before, refusal_before}
use Rattle.record_fields.specs.Reports.{stage_info_before, StageInfoFits, place_info_before, PlaceInfoFits, repack_info_before, RepackInfoFits, failed_copy_before, FailedCopyFits, tape_info_before, TapeInfoFits, queue_info_before, QueueInfoFits}
use Rattle.cta_model.specs.declared.answers.Answer.{Answer}
use Rattle.cta_model.specs.declared.answers.Answer.TheVariants as answer

-- an answer
abbrev pub answer_before : Answer → List ℕ → List ℕ
answer_before (answer.Stored evicted) rest = 0 ∷ list_before number evicted.items rest
answer_before answer.Done rest = 1 ∷ rest
answer_before (answer.Staged id) rest = 2 ∷ number id rest
answer_before (answer.Mounted mount direction tape) rest = 3 ∷ number mount (direction_before direction (number tape rest))
answer_before answer.Idle rest = 4 ∷ rest
answer_before answer.DriveDown rest = 5 ∷ rest
answer_before answer.DriveBusy rest = 6 ∷ rest
answer_before (answer.Batch items evicted) rest = 7 ∷ list_before item_before items.items (list_before number evicted.items rest)
answer_before answer.Nothing rest = 8 ∷ rest
answer_before (answer.Told fates) rest = 9 ∷ list_before fate_before fates.items rest
answer_before (answer.Arrived fate) rest = 10 ∷ fate_before fate rest
answer_before (answer.Repacking id items) rest = 11 ∷ number id (list_before job_before items.items rest)
answer_before (answer.Retried jobs) rest = 12 ∷ list_before job_before jobs.items rest
answer_before (answer.Bytes sum) rest = 13 ∷ sum_before sum rest
answer_before (answer.Stage info) rest = 14 ∷ stage_info_before info rest
answer_before (answer.Places places) rest = 15 ∷ list_before place_info_before places.items rest
answer_before (answer.RepackSeen info) rest = 16 ∷ repack_info_before info rest
answer_before (answer.FailedSeen copies) rest = 17 ∷ list_before failed_copy_before copies.items rest
answer_before (answer.TapeSeen info) rest = 18 ∷ tape_info_before info rest
answer_before (answer.QueuesSeen queues) rest = 19 ∷ list_before queue_info_before queues.items rest
answer_before (answer.Refused refusal) rest = 20 ∷ refusal_before refusal rest

-- its members fit
abbrev pub AnswerFits : Answer → Type 0
AnswerFits (answer.Stored evicted) = ListFits IsNumber evicted.items
AnswerFits (answer.Staged id) = IsNumber id
AnswerFits (answer.Mounted mount direction tape) = IsNumber mount × IsNumber tape
AnswerFits (answer.Batch items evicted) = ListFits ItemFits items.items × ListFits IsNumber evicted.items
AnswerFits (answer.Told fates) = ListFits IsAny fates.items
AnswerFits (answer.Repacking id items) = IsNumber id × ListFits JobFits items.items
AnswerFits (answer.Retried jobs) = ListFits JobFits jobs.items
AnswerFits (answer.Bytes sum) = SumFits sum
AnswerFits (answer.Stage info) = StageInfoFits info
AnswerFits (answer.Places places) = ListFits PlaceInfoFits places.items
AnswerFits (answer.RepackSeen info) = RepackInfoFits info
AnswerFits (answer.FailedSeen copies) = ListFits FailedCopyFits copies.items
AnswerFits (answer.TapeSeen info) = TapeInfoFits info
AnswerFits (answer.QueuesSeen queues) = ListFits QueueInfoFits queues.items
AnswerFits _ = Unit {0}
