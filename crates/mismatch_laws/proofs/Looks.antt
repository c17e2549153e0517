-- Answers to looks are the same without what mismatches have found.
use Rattle.std.proofs.Common.{refl, ◌≡◌, ℕ}
use Rattle.std.specs.Prelude.{length, Option, Some, None, not, nat_le}
use Rattle.cta_site.specs.declared.site.Site.{Site}
use Rattle.cta_site.specs.Listed.{rows}
use Rattle.cta_model.specs.declared.asks.Look.{Look}
use Rattle.cta_model.specs.declared.asks.Look.TheVariants as look
use Rattle.cta_model.specs.declared.answers.Answer.TheVariants as answer
use Rattle.cta_model.specs.declared.answers.Refusal.TheVariants as refusal
use Rattle.cta_model.specs.History.{History}
use Rattle.cta_model.specs.Stages.{StageRequest}
use Rattle.cta_model.specs.Repacks.{Repack}
use Rattle.cta_model.specs.Answers.{refuse}
use Rattle.cta_model.specs.Looks.{fetch_by, look_answer_of, repack_info_by, stage_info_by, tape_info_answer}
use Rattle.mismatch_laws.specs.Alike.{history_without_found}
use Rattle.mismatch_laws.proofs.Files.{live_file_same, sum_of_same}
use Rattle.mismatch_laws.proofs.Buffer.{is_resident_same}
use Rattle.mismatch_laws.proofs.Stages.{request_of_same}
use Rattle.mismatch_laws.proofs.Repacks.{repack_of_same}
use Rattle.mismatch_laws.proofs.Reports.{failed_copies_same, place_infos_same, queue_reports_same, repack_report_same, stage_report_same, tape_report_same}

pub fetch_by_same : (h : History) (f : Option ℕ) → fetch_by (history_without_found h) f ≡ fetch_by h f
fetch_by_same h None = refl
fetch_by_same h (Some f) = λ z. refuse refusal.NotResident (not (is_resident_same h f z)) (answer.Bytes (sum_of_same h f z))

pub stage_info_by_same : (h : History) (id : ℕ) (r : Option StageRequest) → stage_info_by (history_without_found h) id r ≡ stage_info_by h id r
stage_info_by_same h id None = refl
stage_info_by_same h id (Some r) = λ z. answer.Stage (stage_report_same h id r z)

pub repack_info_by_same : (site : Site) (h : History) (id : ℕ) (r : Option Repack) → repack_info_by site (history_without_found h) id r ≡ repack_info_by site h id r
repack_info_by_same site h id None = refl
repack_info_by_same site h id (Some r) = λ z. answer.RepackSeen (repack_report_same site h id r z)

pub tape_info_answer_same : (site : Site) (h : History) (v : ℕ) → tape_info_answer site (history_without_found h) v ≡ tape_info_answer site h v
tape_info_answer_same site h v = λ z. refuse refusal.NoTape (nat_le (length site.tapes.items) v) (answer.TapeSeen (tape_report_same site h v z))

pub look_answer_of_same : (site : Site) (h : History) (t : ℕ) (x : Look) → look_answer_of site (history_without_found h) t x ≡ look_answer_of site h t x
look_answer_of_same site h t (look.Fetch path) = λ z. fetch_by_same h (live_file_same h path z) z
look_answer_of_same site h t (look.StageInfo id) = λ z. stage_info_by_same h id (request_of_same site h id z) z
look_answer_of_same site h t (look.ArchiveInfo paths) = λ z. answer.Places (rows (place_infos_same site h paths.items z))
look_answer_of_same site h t (look.RepackInfo id) = λ z. repack_info_by_same site h id (repack_of_same site h id z) z
look_answer_of_same site h t look.FailedList = λ z. answer.FailedSeen (rows (failed_copies_same site h z))
look_answer_of_same site h t (look.TapeInfo v) = λ z. tape_info_answer_same site h v z
look_answer_of_same site h t look.Queues = λ z. answer.QueuesSeen (rows (queue_reports_same site h z))
