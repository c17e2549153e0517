-- What answers to looks have in them as bytes, with what follows: the members of a value stand in their order.
use Rattle.std.specs.Prelude.{ℕ, List}
use Rattle.record_fields.specs.Numbers.{byte, number, long_number, truth, IsAny, IsByte, IsNumber, IsLong}
use Rattle.record_fields.specs.Texts.{text, TextFits}
use Rattle.record_fields.specs.Lists.{list_before, ListFits, option_before, OptionFits}
use Rattle.record_fields.specs.Choices.{direction_before, file_state_before, item_state_before, locality_before, tape_state_before}
use Rattle.cta_model.specs.declared.reports.StageFileInfo.{StageFileInfo}
use Rattle.cta_model.specs.declared.reports.StageInfo.{StageInfo}
use Rattle.cta_model.specs.declared.reports.PlaceInfo.{PlaceInfo}
use Rattle.cta_model.specs.declared.reports.RepackItem.{RepackItem}
use Rattle.cta_model.specs.declared.reports.RepackInfo.{RepackInfo}
use Rattle.cta_model.specs.declared.reports.FailedCopy.{FailedCopy}
use Rattle.cta_model.specs.declared.reports.TapeInfo.{TapeInfo}
use Rattle.cta_model.specs.declared.reports.QueueInfo.{QueueInfo}

-- how a file of a stage request stands
abbrev pub stage_file_before : StageFileInfo → List ℕ → List ℕ
stage_file_before file rest = text file.path (file_state_before file.state (truth file.on_disk (option_before long_number file.started_at (option_before long_number file.finished_at (option_before text file.error rest)))))

abbrev pub StageFileInfoFits : StageFileInfo → Type 0
StageFileInfoFits file = TextFits file.path × OptionFits IsLong file.started_at × OptionFits IsLong file.finished_at × OptionFits TextFits file.error

-- how a stage request stands
abbrev pub stage_info_before : StageInfo → List ℕ → List ℕ
stage_info_before info rest = number info.id (long_number info.created_at (option_before long_number info.started_at (option_before long_number info.completed_at (list_before stage_file_before info.files.items rest))))

abbrev pub StageInfoFits : StageInfo → Type 0
StageInfoFits info = IsNumber info.id × IsLong info.created_at × OptionFits IsLong info.started_at × OptionFits IsLong info.completed_at × ListFits StageFileInfoFits info.files.items

-- where the file of a path is kept
abbrev pub place_info_before : PlaceInfo → List ℕ → List ℕ
place_info_before place rest = text place.path (option_before locality_before place.locality (option_before text place.error rest))

abbrev pub PlaceInfoFits : PlaceInfo → Type 0
PlaceInfoFits place = TextFits place.path × OptionFits IsAny place.locality × OptionFits TextFits place.error

-- how an item of a repack stands
abbrev pub repack_item_before : RepackItem → List ℕ → List ℕ
repack_item_before item rest = text item.path (byte item.copy (item_state_before item.state rest))

abbrev pub RepackItemFits : RepackItem → Type 0
RepackItemFits item = TextFits item.path × IsByte item.copy

-- how a repack stands
abbrev pub repack_info_before : RepackInfo → List ℕ → List ℕ
repack_info_before info rest = number info.id (text info.vid (list_before repack_item_before info.items.items rest))

abbrev pub RepackInfoFits : RepackInfo → Type 0
RepackInfoFits info = IsNumber info.id × TextFits info.vid × ListFits RepackItemFits info.items.items

-- a copy that failed
abbrev pub failed_copy_before : FailedCopy → List ℕ → List ℕ
failed_copy_before copy rest = text copy.path (byte copy.copy (list_before text copy.errors.items rest))

abbrev pub FailedCopyFits : FailedCopy → Type 0
FailedCopyFits copy = TextFits copy.path × IsByte copy.copy × ListFits TextFits copy.errors.items

-- what is on a tape
abbrev pub tape_info_before : TapeInfo → List ℕ → List ℕ
tape_info_before tape rest = text tape.vid (tape_state_before tape.state (long_number tape.used (number tape.files (number tape.next_fseq rest))))

abbrev pub TapeInfoFits : TapeInfo → Type 0
TapeInfoFits tape = TextFits tape.vid × IsLong tape.used × IsNumber tape.files × IsNumber tape.next_fseq

-- a queue
abbrev pub queue_info_before : QueueInfo → List ℕ → List ℕ
queue_info_before queue rest = direction_before queue.direction (text queue.key (number queue.files (long_number queue.bytes (long_number queue.oldest rest))))

abbrev pub QueueInfoFits : QueueInfo → Type 0
QueueInfoFits queue = TextFits queue.key × IsNumber queue.files × IsLong queue.bytes × IsLong queue.oldest
