-- What answers to looks have in them is told by its bytes, but for the room in its lists.
use Rattle.std.proofs.Common.{◌≡◌, List, ℕ, refl}
use Rattle.record_fields.specs.Numbers.{byte, number, long_number, truth, IsAny, IsLong}
use Rattle.record_fields.specs.Texts.{text, TextFits}
use Rattle.record_fields.specs.Lists.{list_before, option_before}
use Rattle.record_fields.specs.Choices.{direction_before, file_state_before, item_state_before, locality_before, tape_state_before}
use Rattle.record_fields.specs.Reports.{stage_file_before, StageFileInfoFits, stage_info_before, StageInfoFits, place_info_before, PlaceInfoFits, repack_item_before, RepackItemFits, repack_info_before, RepackInfoFits, failed_copy_before, FailedCopyFits, tape_info_before, TapeInfoFits, queue_info_before, QueueInfoFits}
use Rattle.record_fields.proofs.ToldNumbers.{told_byte, byte_told, told_truth, truth_told, told_number, number_told, told_long, long_told, told_text, text_told}
use Rattle.record_fields.proofs.ToldLists.{told_list, list_told, told_option, option_told}
use Rattle.record_fields.proofs.ToldChoices.{told_direction, direction_told, told_file_state, file_state_told, told_item_state, item_state_told, told_locality, locality_told, told_tape_state, tape_state_told}
use Rattle.cta_site.specs.Listed.{rows}
use Rattle.cta_model.specs.Bare.{bare_rows, bare_copy}
use Rattle.cta_model.specs.declared.reports.StageFileInfo.{StageFileInfo}
use Rattle.cta_model.specs.declared.reports.StageInfo.{StageInfo}
use Rattle.cta_model.specs.declared.reports.PlaceInfo.{PlaceInfo}
use Rattle.cta_model.specs.declared.reports.RepackItem.{RepackItem}
use Rattle.cta_model.specs.declared.reports.RepackInfo.{RepackInfo}
use Rattle.cta_model.specs.declared.reports.FailedCopy.{FailedCopy}
use Rattle.cta_model.specs.declared.reports.TapeInfo.{TapeInfo}
use Rattle.cta_model.specs.declared.reports.QueueInfo.{QueueInfo}

pub told_stage_file : List ℕ → StageFileInfo × List ℕ
told_stage_file bytes =
    let path_at = told_text bytes in
    let state_at = told_file_state path_at.1 in
    let on_disk_at = told_truth state_at.1 in
    let started_at_at = told_option told_long on_disk_at.1 in
    let finished_at_at = told_option told_long started_at_at.1 in
    let error_at = told_option told_text finished_at_at.1 in
    (record { path = path_at.0; state = state_at.0; on_disk = on_disk_at.0; started_at = started_at_at.0; finished_at = finished_at_at.0; error = error_at.0 }, error_at.1)

pub stage_file_told : (v : StageFileInfo) (rest : List ℕ) → StageFileInfoFits v → told_stage_file (stage_file_before v rest) ≡ (v, rest)
unfolding told_stage_file
stage_file_told v rest fit =
    rw (text_told v.path (file_state_before v.state (truth v.on_disk (option_before long_number v.started_at (option_before long_number v.finished_at (option_before text v.error rest))))) fit.0, file_state_told v.state (truth v.on_disk (option_before long_number v.started_at (option_before long_number v.finished_at (option_before text v.error rest)))) tt, truth_told v.on_disk (option_before long_number v.started_at (option_before long_number v.finished_at (option_before text v.error rest))) tt, option_told long_number IsLong told_long long_told v.started_at (option_before long_number v.finished_at (option_before text v.error rest)) fit.1, option_told long_number IsLong told_long long_told v.finished_at (option_before text v.error rest) fit.2, option_told text TextFits told_text text_told v.error rest fit.3) refl

pub told_stage_info : List ℕ → StageInfo × List ℕ
told_stage_info bytes =
    let id_at = told_number bytes in
    let created_at_at = told_long id_at.1 in
    let started_at_at = told_option told_long created_at_at.1 in
    let completed_at_at = told_option told_long started_at_at.1 in
    let files_at = told_list told_stage_file completed_at_at.1 in
    (record { id = id_at.0; created_at = created_at_at.0; started_at = started_at_at.0; completed_at = completed_at_at.0; files = rows files_at.0 }, files_at.1)

pub stage_info_told : (v : StageInfo) (rest : List ℕ) → StageInfoFits v → told_stage_info (stage_info_before v rest) ≡ (record v { files = bare_rows v.files }, rest)
unfolding told_stage_info
stage_info_told v rest fit =
    rw (number_told v.id (long_number v.created_at (option_before long_number v.started_at (option_before long_number v.completed_at (list_before stage_file_before v.files.items rest)))) fit.0, long_told v.created_at (option_before long_number v.started_at (option_before long_number v.completed_at (list_before stage_file_before v.files.items rest))) fit.1, option_told long_number IsLong told_long long_told v.started_at (option_before long_number v.completed_at (list_before stage_file_before v.files.items rest)) fit.2, option_told long_number IsLong told_long long_told v.completed_at (list_before stage_file_before v.files.items rest) fit.3, list_told stage_file_before StageFileInfoFits told_stage_file stage_file_told v.files.items rest fit.4) refl

pub told_place_info : List ℕ → PlaceInfo × List ℕ
told_place_info bytes =
    let path_at = told_text bytes in
    let locality_at = told_option told_locality path_at.1 in
    let error_at = told_option told_text locality_at.1 in
    (record { path = path_at.0; locality = locality_at.0; error = error_at.0 }, error_at.1)

pub place_info_told : (v : PlaceInfo) (rest : List ℕ) → PlaceInfoFits v → told_place_info (place_info_before v rest) ≡ (v, rest)
unfolding told_place_info
place_info_told v rest fit =
    rw (text_told v.path (option_before locality_before v.locality (option_before text v.error rest)) fit.0, option_told locality_before IsAny told_locality locality_told v.locality (option_before text v.error rest) fit.1, option_told text TextFits told_text text_told v.error rest fit.2) refl

pub told_repack_item : List ℕ → RepackItem × List ℕ
told_repack_item bytes =
    let path_at = told_text bytes in
    let copy_at = told_byte path_at.1 in
    let state_at = told_item_state copy_at.1 in
    (record { path = path_at.0; copy = copy_at.0; state = state_at.0 }, state_at.1)

pub repack_item_told : (v : RepackItem) (rest : List ℕ) → RepackItemFits v → told_repack_item (repack_item_before v rest) ≡ (v, rest)
unfolding told_repack_item
repack_item_told v rest fit =
    rw (text_told v.path (byte v.copy (item_state_before v.state rest)) fit.0, item_state_told v.state rest tt) refl

pub told_repack_info : List ℕ → RepackInfo × List ℕ
told_repack_info bytes =
    let id_at = told_number bytes in
    let vid_at = told_text id_at.1 in
    let items_at = told_list told_repack_item vid_at.1 in
    (record { id = id_at.0; vid = vid_at.0; items = rows items_at.0 }, items_at.1)

pub repack_info_told : (v : RepackInfo) (rest : List ℕ) → RepackInfoFits v → told_repack_info (repack_info_before v rest) ≡ (record v { items = bare_rows v.items }, rest)
unfolding told_repack_info
repack_info_told v rest fit =
    rw (number_told v.id (text v.vid (list_before repack_item_before v.items.items rest)) fit.0, text_told v.vid (list_before repack_item_before v.items.items rest) fit.1, list_told repack_item_before RepackItemFits told_repack_item repack_item_told v.items.items rest fit.2) refl

pub told_failed_copy : List ℕ → FailedCopy × List ℕ
told_failed_copy bytes =
    let path_at = told_text bytes in
    let copy_at = told_byte path_at.1 in
    let errors_at = told_list told_text copy_at.1 in
    (record { path = path_at.0; copy = copy_at.0; errors = rows errors_at.0 }, errors_at.1)

pub failed_copy_told : (v : FailedCopy) (rest : List ℕ) → FailedCopyFits v → told_failed_copy (failed_copy_before v rest) ≡ (bare_copy v, rest)
unfolding told_failed_copy
failed_copy_told v rest fit =
    rw (text_told v.path (byte v.copy (list_before text v.errors.items rest)) fit.0, list_told text TextFits told_text text_told v.errors.items rest fit.2) refl

pub told_tape_info : List ℕ → TapeInfo × List ℕ
told_tape_info bytes =
    let vid_at = told_text bytes in
    let state_at = told_tape_state vid_at.1 in
    let used_at = told_long state_at.1 in
    let files_at = told_number used_at.1 in
    let next_fseq_at = told_number files_at.1 in
    (record { vid = vid_at.0; state = state_at.0; used = used_at.0; files = files_at.0; next_fseq = next_fseq_at.0 }, next_fseq_at.1)

pub tape_info_told : (v : TapeInfo) (rest : List ℕ) → TapeInfoFits v → told_tape_info (tape_info_before v rest) ≡ (v, rest)
unfolding told_tape_info
tape_info_told v rest fit =
    rw (text_told v.vid (tape_state_before v.state (long_number v.used (number v.files (number v.next_fseq rest)))) fit.0, tape_state_told v.state (long_number v.used (number v.files (number v.next_fseq rest))) tt, long_told v.used (number v.files (number v.next_fseq rest)) fit.1, number_told v.files (number v.next_fseq rest) fit.2, number_told v.next_fseq rest fit.3) refl

pub told_queue_info : List ℕ → QueueInfo × List ℕ
told_queue_info bytes =
    let direction_at = told_direction bytes in
    let key_at = told_text direction_at.1 in
    let files_at = told_number key_at.1 in
    let bytes_at = told_long files_at.1 in
    let oldest_at = told_long bytes_at.1 in
    (record { direction = direction_at.0; key = key_at.0; files = files_at.0; bytes = bytes_at.0; oldest = oldest_at.0 }, oldest_at.1)

pub queue_info_told : (v : QueueInfo) (rest : List ℕ) → QueueInfoFits v → told_queue_info (queue_info_before v rest) ≡ (v, rest)
unfolding told_queue_info
queue_info_told v rest fit =
    rw (direction_told v.direction (text v.key (number v.files (long_number v.bytes (long_number v.oldest rest)))) tt, text_told v.key (number v.files (long_number v.bytes (long_number v.oldest rest))) fit.0, number_told v.files (long_number v.bytes (long_number v.oldest rest)) fit.1, long_told v.bytes (long_number v.oldest rest) fit.2, long_told v.oldest rest fit.3) refl
