-- The sequential archive: what each look is answered. A look changes nothing.
use Rattle.std.specs.Prelude.{ℕ, length, Option, Some, None, not, nat_le}
use Rattle.cta_site.specs.declared.site.Site.{Site}
use Rattle.cta_site.specs.Listed.{rows}
use Rattle.cta_model.specs.declared.asks.Look.{Look}
use Rattle.cta_model.specs.declared.asks.Look.TheVariants as look
use Rattle.cta_model.specs.declared.answers.Answer.{Answer}
use Rattle.cta_model.specs.declared.answers.Answer.TheVariants as answer
use Rattle.cta_model.specs.declared.answers.Refusal.TheVariants as refusal
use Rattle.cta_model.specs.History.{History}
use Rattle.cta_model.specs.Files.{live_file, sum_of}
use Rattle.cta_model.specs.Buffer.{is_resident}
use Rattle.cta_model.specs.Stages.{StageRequest, request_of}
use Rattle.cta_model.specs.Repacks.{Repack, repack_of}
use Rattle.cta_model.specs.Answers.{refuse}
use Rattle.cta_model.specs.Reports.{place_infos, stage_report, repack_report, failed_copies, tape_report, queue_reports}

-- a Fetch is told the length and SHA-256 of its file where the file is resident, and is refused otherwise
abbrev pub fetch_by : History → Option ℕ → Answer
fetch_by h None = answer.Refused refusal.NoFile
fetch_by h (Some f) = refuse refusal.NotResident (not (is_resident h f)) (answer.Bytes (sum_of h f))

-- a StageInfo is told how its request stands, and is refused where there is none
abbrev pub stage_info_by : History → ℕ → Option StageRequest → Answer
stage_info_by h id None = answer.Refused refusal.NoRequest
stage_info_by h id (Some r) = answer.Stage (stage_report h id r)

-- a RepackInfo is told how its repack stands, and is refused where there is none
abbrev pub repack_info_by : Site → History → ℕ → Option Repack → Answer
repack_info_by site h id None = answer.Refused refusal.NoRepack
repack_info_by site h id (Some r) = answer.RepackSeen (repack_report site h id r)

-- a TapeInfo is refused where the site has no such tape
abbrev pub tape_info_answer : Site → History → ℕ → Answer
tape_info_answer site h v = refuse refusal.NoTape (nat_le (length site.tapes.items) v) (answer.TapeSeen (tape_report site h v))

-- the answer to a look that is given this moment, on this history; no look's answer depends on the moment
abbrev pub look_answer_of : Site → History → ℕ → Look → Answer
look_answer_of site h t (look.Fetch path) = fetch_by h (live_file h path)
look_answer_of site h t (look.StageInfo id) = stage_info_by h id (request_of site h id)
look_answer_of site h t (look.ArchiveInfo paths) = answer.Places (rows (place_infos site h paths.items))
look_answer_of site h t (look.RepackInfo id) = repack_info_by site h id (repack_of site h id)
look_answer_of site h t look.FailedList = answer.FailedSeen (rows (failed_copies site h))
look_answer_of site h t (look.TapeInfo v) = tape_info_answer site h v
look_answer_of site h t look.Queues = answer.QueuesSeen (rows (queue_reports site h))
