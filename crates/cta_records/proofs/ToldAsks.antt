-- An ask is told by its bytes, but for the room in its lists.
use Rattle.std.proofs.Common.{◌≡◌, if◌then◌else◌, ◌==◌, List, ℕ, refl}
use Rattle.cta_site.specs.Listed.{rows}
use Rattle.record_fields.specs.Numbers.{number}
use Rattle.record_fields.specs.Texts.{text, TextFits}
use Rattle.record_fields.specs.Lists.{list_before, option_before}
use Rattle.record_fields.specs.Choices.{tape_state_before}
use Rattle.record_fields.specs.Values.{sum_before, job_before, JobFits, item_before, ItemFits, wanted_before, WantedFits, fault_before, FaultFits}
use Rattle.record_fields.proofs.ToldNumbers.{told_byte, told_number, number_told, told_text, text_told}
use Rattle.record_fields.proofs.ToldLists.{told_list, list_told, told_option, option_told}
use Rattle.record_fields.proofs.ToldChoices.{told_tape_state, tape_state_told}
use Rattle.record_fields.proofs.ToldValues.{told_sum, sum_told, told_who, who_told, told_job, job_told, told_item, item_told, told_wanted, wanted_told, told_fault, fault_told}
use Rattle.cta_model.specs.Bare.{bare_ask}
use Rattle.cta_model.specs.declared.asks.Ask.{Ask}
use Rattle.cta_model.specs.declared.asks.Ask.TheVariants as ask
use Rattle.cta_records.specs.Asks.{ask_before, AskFits}

ask_as_put : List ℕ → Ask × List ℕ
ask_as_put bytes =
    let who_at = told_who bytes in
    let path_at = told_text who_at.1 in
    let sum_at = told_sum path_at.1 in
    (ask.Put who_at.0 path_at.0 sum_at.0, sum_at.1)

ask_as_delete : List ℕ → Ask × List ℕ
ask_as_delete bytes =
    let who_at = told_who bytes in
    let path_at = told_text who_at.1 in
    (ask.Delete who_at.0 path_at.0, path_at.1)

ask_as_stage : List ℕ → Ask × List ℕ
ask_as_stage bytes =
    let who_at = told_who bytes in
    let files_at = told_list told_wanted who_at.1 in
    (ask.Stage who_at.0 (rows files_at.0), files_at.1)

ask_as_cancel : List ℕ → Ask × List ℕ
ask_as_cancel bytes =
    let who_at = told_who bytes in
    let id_at = told_number who_at.1 in
    let paths_at = told_list told_text id_at.1 in
    (ask.Cancel who_at.0 id_at.0 (rows paths_at.0), paths_at.1)

ask_as_drop_stage : List ℕ → Ask × List ℕ
ask_as_drop_stage bytes =
    let who_at = told_who bytes in
    let id_at = told_number who_at.1 in
    (ask.DropStage who_at.0 id_at.0, id_at.1)

ask_as_release : List ℕ → Ask × List ℕ
ask_as_release bytes =
    let who_at = told_who bytes in
    let id_at = told_number who_at.1 in
    let paths_at = told_list told_text id_at.1 in
    (ask.Release who_at.0 id_at.0 (rows paths_at.0), paths_at.1)

ask_as_next : List ℕ → Ask × List ℕ
ask_as_next bytes =
    let drive_at = told_number bytes in
    (ask.Next drive_at.0, drive_at.1)

ask_as_claim : List ℕ → Ask × List ℕ
ask_as_claim bytes =
    let mount_at = told_number bytes in
    (ask.Claim mount_at.0, mount_at.1)

ask_as_flushed : List ℕ → Ask × List ℕ
ask_as_flushed bytes =
    let mount_at = told_number bytes in
    let items_at = told_list told_item mount_at.1 in
    (ask.Flushed mount_at.0 (rows items_at.0), items_at.1)

ask_as_recalled : List ℕ → Ask × List ℕ
ask_as_recalled bytes =
    let mount_at = told_number bytes in
    let job_at = told_job mount_at.1 in
    (ask.Recalled mount_at.0 job_at.0, job_at.1)

ask_as_failed : List ℕ → Ask × List ℕ
ask_as_failed bytes =
    let mount_at = told_number bytes in
    let fault_at = told_fault mount_at.1 in
    let charged_at = told_list told_job fault_at.1 in
    let returned_at = told_list told_job charged_at.1 in
    (ask.Failed mount_at.0 fault_at.0 (rows charged_at.0) (rows returned_at.0), returned_at.1)

ask_as_end : List ℕ → Ask × List ℕ
ask_as_end bytes =
    let mount_at = told_number bytes in
    let fault_at = told_option told_fault mount_at.1 in
    (ask.End mount_at.0 fault_at.0, fault_at.1)

ask_as_drive_up : List ℕ → Ask × List ℕ
ask_as_drive_up bytes =
    let who_at = told_who bytes in
    let drive_at = told_number who_at.1 in
    (ask.DriveUp who_at.0 drive_at.0, drive_at.1)

ask_as_drive_down : List ℕ → Ask × List ℕ
ask_as_drive_down bytes =
    let who_at = told_who bytes in
    let drive_at = told_number who_at.1 in
    (ask.DriveDown who_at.0 drive_at.0, drive_at.1)

ask_as_tape_state : List ℕ → Ask × List ℕ
ask_as_tape_state bytes =
    let who_at = told_who bytes in
    let tape_at = told_number who_at.1 in
    let state_at = told_tape_state tape_at.1 in
    (ask.TapeState who_at.0 tape_at.0 state_at.0, state_at.1)

ask_as_reclaim : List ℕ → Ask × List ℕ
ask_as_reclaim bytes =
    let who_at = told_who bytes in
    let tape_at = told_number who_at.1 in
    (ask.Reclaim who_at.0 tape_at.0, tape_at.1)

ask_as_repack : List ℕ → Ask × List ℕ
ask_as_repack bytes =
    let who_at = told_who bytes in
    let tape_at = told_number who_at.1 in
    (ask.Repack who_at.0 tape_at.0, tape_at.1)

ask_as_retry : List ℕ → Ask × List ℕ
ask_as_retry bytes =
    let who_at = told_who bytes in
    let paths_at = told_list told_text who_at.1 in
    (ask.Retry who_at.0 (rows paths_at.0), paths_at.1)

abbrev ask_at : ℕ → List ℕ → Ask × List ℕ
ask_at n bytes =
    if n == 0 then ask_as_put bytes else
    if n == 1 then ask_as_delete bytes else
    if n == 2 then ask_as_stage bytes else
    if n == 3 then ask_as_cancel bytes else
    if n == 4 then ask_as_drop_stage bytes else
    if n == 5 then ask_as_release bytes else
    if n == 6 then ask_as_next bytes else
    if n == 7 then ask_as_claim bytes else
    if n == 8 then ask_as_flushed bytes else
    if n == 9 then ask_as_recalled bytes else
    if n == 10 then ask_as_failed bytes else
    if n == 11 then ask_as_end bytes else
    if n == 12 then ask_as_drive_up bytes else
    if n == 13 then ask_as_drive_down bytes else
    if n == 14 then ask_as_tape_state bytes else
    if n == 15 then ask_as_reclaim bytes else
    if n == 16 then ask_as_repack bytes else
    ask_as_retry bytes

pub told_ask : List ℕ → Ask × List ℕ
told_ask bytes = ask_at (told_byte bytes).0 (told_byte bytes).1

pub ask_told : (v : Ask) (rest : List ℕ) → AskFits v → told_ask (ask_before v rest) ≡ (bare_ask v, rest)
unfolding told_ask ask_as_put ask_as_delete ask_as_stage ask_as_cancel ask_as_drop_stage ask_as_release ask_as_next ask_as_claim ask_as_flushed ask_as_recalled ask_as_failed ask_as_end ask_as_drive_up ask_as_drive_down ask_as_tape_state ask_as_reclaim ask_as_repack ask_as_retry
ask_told (ask.Put who path sum) rest fit = rw (who_told who (text path (sum_before sum rest)) fit.0, text_told path (sum_before sum rest) fit.1, sum_told sum rest fit.2) refl
ask_told (ask.Delete who path) rest fit = rw (who_told who (text path rest) fit.0, text_told path rest fit.1) refl
ask_told (ask.Stage who files) rest fit = rw (who_told who (list_before wanted_before files.items rest) fit.0, list_told wanted_before WantedFits told_wanted wanted_told files.items rest fit.1) refl
ask_told (ask.Cancel who id paths) rest fit = rw (who_told who (number id (list_before text paths.items rest)) fit.0, number_told id (list_before text paths.items rest) fit.1, list_told text TextFits told_text text_told paths.items rest fit.2) refl
ask_told (ask.DropStage who id) rest fit = rw (who_told who (number id rest) fit.0, number_told id rest fit.1) refl
ask_told (ask.Release who id paths) rest fit = rw (who_told who (number id (list_before text paths.items rest)) fit.0, number_told id (list_before text paths.items rest) fit.1, list_told text TextFits told_text text_told paths.items rest fit.2) refl
ask_told (ask.Next drive) rest fit = rw (number_told drive rest fit) refl
ask_told (ask.Claim mount) rest fit = rw (number_told mount rest fit) refl
ask_told (ask.Flushed mount items) rest fit = rw (number_told mount (list_before item_before items.items rest) fit.0, list_told item_before ItemFits told_item item_told items.items rest fit.1) refl
ask_told (ask.Recalled mount job) rest fit = rw (number_told mount (job_before job rest) fit.0, job_told job rest fit.1) refl
ask_told (ask.Failed mount fault charged returned) rest fit = rw (number_told mount (fault_before fault (list_before job_before charged.items (list_before job_before returned.items rest))) fit.0, fault_told fault (list_before job_before charged.items (list_before job_before returned.items rest)) fit.1, list_told job_before JobFits told_job job_told charged.items (list_before job_before returned.items rest) fit.2, list_told job_before JobFits told_job job_told returned.items rest fit.3) refl
ask_told (ask.End mount fault) rest fit = rw (number_told mount (option_before fault_before fault rest) fit.0, option_told fault_before FaultFits told_fault fault_told fault rest fit.1) refl
ask_told (ask.DriveUp who drive) rest fit = rw (who_told who (number drive rest) fit.0, number_told drive rest fit.1) refl
ask_told (ask.DriveDown who drive) rest fit = rw (who_told who (number drive rest) fit.0, number_told drive rest fit.1) refl
ask_told (ask.TapeState who tape state) rest fit = rw (who_told who (number tape (tape_state_before state rest)) fit.0, number_told tape (tape_state_before state rest) fit.1, tape_state_told state rest tt) refl
ask_told (ask.Reclaim who tape) rest fit = rw (who_told who (number tape rest) fit.0, number_told tape rest fit.1) refl
ask_told (ask.Repack who tape) rest fit = rw (who_told who (number tape rest) fit.0, number_told tape rest fit.1) refl
ask_told (ask.Retry who paths) rest fit = rw (who_told who (list_before text paths.items rest) fit.0, list_told text TextFits told_text text_told paths.items rest fit.1) refl
