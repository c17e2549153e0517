-- An answer is told by its bytes, but for the room in its lists.
use Rattle.std.proofs.Common.{◌≡◌, if◌then◌else◌, ◌==◌, List, ℕ, refl}
use Rattle.cta_site.specs.Listed.{rows}
use Rattle.record_fields.specs.Numbers.{number, IsAny, IsNumber}
use Rattle.record_fields.specs.Lists.{list_before}
use Rattle.record_fields.specs.Choices.{direction_before, fate_before}
use Rattle.record_fields.specs.Values.{job_before, JobFits, item_before, ItemFits}
use Rattle.record_fields.specs.Reports.{place_info_before, PlaceInfoFits, failed_copy_before, FailedCopyFits, queue_info_before, QueueInfoFits}
use Rattle.record_fields.proofs.ToldNumbers.{told_byte, told_number, number_told}
use Rattle.record_fields.proofs.ToldLists.{told_list, list_told, plain_list_told}
use Rattle.record_fields.proofs.ToldChoices.{told_direction, direction_told, told_fate, fate_told, told_refusal, refusal_told}
use Rattle.record_fields.proofs.ToldValues.{told_sum, sum_told, told_job, job_told, told_item, item_told}
use Rattle.record_fields.proofs.ToldReports.{told_stage_info, stage_info_told, told_place_info, place_info_told, told_repack_info, repack_info_told, told_failed_copy, failed_copy_told, told_tape_info, tape_info_told, told_queue_info, queue_info_told}
use Rattle.cta_model.specs.Bare.{bare_answer, bare_copy}
use Rattle.cta_model.specs.declared.answers.Answer.{Answer}
use Rattle.cta_model.specs.declared.answers.Answer.TheVariants as answer
use Rattle.cta_records.specs.Answers.{answer_before, AnswerFits}

answer_as_stored : List ℕ → Answer × List ℕ
answer_as_stored bytes =
    let evicted_at = told_list told_number bytes in
    (answer.Stored (rows evicted_at.0), evicted_at.1)

answer_as_staged : List ℕ → Answer × List ℕ
answer_as_staged bytes =
    let id_at = told_number bytes in
    (answer.Staged id_at.0, id_at.1)

answer_as_mounted : List ℕ → Answer × List ℕ
answer_as_mounted bytes =
    let mount_at = told_number bytes in
    let direction_at = told_direction mount_at.1 in
    let tape_at = told_number direction_at.1 in
    (answer.Mounted mount_at.0 direction_at.0 tape_at.0, tape_at.1)

answer_as_batch : List ℕ → Answer × List ℕ
answer_as_batch bytes =
    let items_at = told_list told_item bytes in
    let evicted_at = told_list told_number items_at.1 in
    (answer.Batch (rows items_at.0) (rows evicted_at.0), evicted_at.1)

answer_as_told : List ℕ → Answer × List ℕ
answer_as_told bytes =
    let fates_at = told_list told_fate bytes in
    (answer.Told (rows fates_at.0), fates_at.1)

answer_as_arrived : List ℕ → Answer × List ℕ
answer_as_arrived bytes =
    let fate_at = told_fate bytes in
    (answer.Arrived fate_at.0, fate_at.1)

answer_as_repacking : List ℕ → Answer × List ℕ
answer_as_repacking bytes =
    let id_at = told_number bytes in
    let items_at = told_list told_job id_at.1 in
    (answer.Repacking id_at.0 (rows items_at.0), items_at.1)

answer_as_retried : List ℕ → Answer × List ℕ
answer_as_retried bytes =
    let jobs_at = told_list told_job bytes in
    (answer.Retried (rows jobs_at.0), jobs_at.1)

answer_as_bytes : List ℕ → Answer × List ℕ
answer_as_bytes bytes =
    let sum_at = told_sum bytes in
    (answer.Bytes sum_at.0, sum_at.1)

answer_as_stage : List ℕ → Answer × List ℕ
answer_as_stage bytes =
    let info_at = told_stage_info bytes in
    (answer.Stage info_at.0, info_at.1)

answer_as_places : List ℕ → Answer × List ℕ
answer_as_places bytes =
    let places_at = told_list told_place_info bytes in
    (answer.Places (rows places_at.0), places_at.1)

answer_as_repack_seen : List ℕ → Answer × List ℕ
answer_as_repack_seen bytes =
    let info_at = told_repack_info bytes in
    (answer.RepackSeen info_at.0, info_at.1)

answer_as_failed_seen : List ℕ → Answer × List ℕ
answer_as_failed_seen bytes =
    let copies_at = told_list told_failed_copy bytes in
    (answer.FailedSeen (rows copies_at.0), copies_at.1)

answer_as_tape_seen : List ℕ → Answer × List ℕ
answer_as_tape_seen bytes =
    let info_at = told_tape_info bytes in
    (answer.TapeSeen info_at.0, info_at.1)

answer_as_queues_seen : List ℕ → Answer × List ℕ
answer_as_queues_seen bytes =
    let queues_at = told_list told_queue_info bytes in
    (answer.QueuesSeen (rows queues_at.0), queues_at.1)

answer_as_refused : List ℕ → Answer × List ℕ
answer_as_refused bytes =
    let refusal_at = told_refusal bytes in
    (answer.Refused refusal_at.0, refusal_at.1)

abbrev answer_at : ℕ → List ℕ → Answer × List ℕ
answer_at n bytes =
    if n == 0 then answer_as_stored bytes else
    if n == 1 then (answer.Done, bytes) else
    if n == 2 then answer_as_staged bytes else
    if n == 3 then answer_as_mounted bytes else
    if n == 4 then (answer.Idle, bytes) else
    if n == 5 then (answer.DriveDown, bytes) else
    if n == 6 then (answer.DriveBusy, bytes) else
    if n == 7 then answer_as_batch bytes else
    if n == 8 then (answer.Nothing, bytes) else
    if n == 9 then answer_as_told bytes else
    if n == 10 then answer_as_arrived bytes else
    if n == 11 then answer_as_repacking bytes else
    if n == 12 then answer_as_retried bytes else
    if n == 13 then answer_as_bytes bytes else
    if n == 14 then answer_as_stage bytes else
    if n == 15 then answer_as_places bytes else
    if n == 16 then answer_as_repack_seen bytes else
    if n == 17 then answer_as_failed_seen bytes else
    if n == 18 then answer_as_tape_seen bytes else
    if n == 19 then answer_as_queues_seen bytes else
    answer_as_refused bytes

pub told_answer : List ℕ → Answer × List ℕ
told_answer bytes = answer_at (told_byte bytes).0 (told_byte bytes).1

pub answer_told : (v : Answer) (rest : List ℕ) → AnswerFits v → told_answer (answer_before v rest) ≡ (bare_answer v, rest)
unfolding told_answer answer_as_stored answer_as_staged answer_as_mounted answer_as_batch answer_as_told answer_as_arrived answer_as_repacking answer_as_retried answer_as_bytes answer_as_stage answer_as_places answer_as_repack_seen answer_as_failed_seen answer_as_tape_seen answer_as_queues_seen answer_as_refused
answer_told (answer.Stored evicted) rest fit = rw (list_told number IsNumber told_number number_told evicted.items rest fit) refl
answer_told answer.Done rest fit = refl
answer_told (answer.Staged id) rest fit = rw (number_told id rest fit) refl
answer_told (answer.Mounted mount direction tape) rest fit = rw (number_told mount (direction_before direction (number tape rest)) fit.0, direction_told direction (number tape rest) tt, number_told tape rest fit.1) refl
answer_told answer.Idle rest fit = refl
answer_told answer.DriveDown rest fit = refl
answer_told answer.DriveBusy rest fit = refl
answer_told (answer.Batch items evicted) rest fit = rw (list_told item_before ItemFits told_item item_told items.items (list_before number evicted.items rest) fit.0, list_told number IsNumber told_number number_told evicted.items rest fit.1) refl
answer_told answer.Nothing rest fit = refl
answer_told (answer.Told fates) rest fit = rw (list_told fate_before IsAny told_fate fate_told fates.items rest fit) refl
answer_told (answer.Arrived fate) rest fit = rw (fate_told fate rest tt) refl
answer_told (answer.Repacking id items) rest fit = rw (number_told id (list_before job_before items.items rest) fit.0, list_told job_before JobFits told_job job_told items.items rest fit.1) refl
answer_told (answer.Retried jobs) rest fit = rw (list_told job_before JobFits told_job job_told jobs.items rest fit) refl
answer_told (answer.Bytes sum) rest fit = rw (sum_told sum rest fit) refl
answer_told (answer.Stage info) rest fit = rw (stage_info_told info rest fit) refl
answer_told (answer.Places places) rest fit = rw (list_told place_info_before PlaceInfoFits told_place_info place_info_told places.items rest fit) refl
answer_told (answer.RepackSeen info) rest fit = rw (repack_info_told info rest fit) refl
answer_told (answer.FailedSeen copies) rest fit = rw (plain_list_told failed_copy_before FailedCopyFits bare_copy told_failed_copy failed_copy_told copies.items rest fit) refl
answer_told (answer.TapeSeen info) rest fit = rw (tape_info_told info rest fit) refl
answer_told (answer.QueuesSeen queues) rest fit = rw (list_told queue_info_before QueueInfoFits told_queue_info queue_info_told queues.items rest fit) refl
answer_told (answer.Refused refusal) rest fit = rw (refusal_told refusal rest tt) refl
