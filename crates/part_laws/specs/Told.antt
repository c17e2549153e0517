-- What the parts answer to looks and to asks of files and of stage requests.
use Rattle.std.specs.Prelude.{ℕ, ◌+◌, List, Option, Some, None, is_none, is_some, Bool, false, not, map, nat_lt}
use Rattle.std.specs.List.{list_all}
use Rattle.cta_site.specs.declared.site.Site.{Site}
use Rattle.cta_site.specs.Listed.{rows}
use Rattle.cta_site.specs.Lookups.{class_of, vid_of}
use Rattle.cta_site.specs.Paths.{is_path}
use Rattle.cta_model.specs.declared.answers.Answer.{Answer}
use Rattle.cta_model.specs.declared.answers.Answer.TheVariants as answer
use Rattle.cta_model.specs.declared.answers.Refusal.TheVariants as refusal
use Rattle.cta_model.specs.declared.reports.RepackItem.{RepackItem}
use Rattle.cta_model.specs.declared.reports.StageFileInfo.{StageFileInfo}
use Rattle.cta_model.specs.declared.reports.TapeInfo.{TapeInfo}
use Rattle.cta_model.specs.declared.states.RepackCopy.{RepackCopy}
use Rattle.cta_model.specs.declared.states.RequestFile.{RequestFile}
use Rattle.cta_model.specs.Answers.{refuse}
use Rattle.cta_model.specs.Reports.{greatest_finish, least_start}
use Rattle.cta_model.specs.Stages.{StageRequest}
use Rattle.cta_model.specs.Repacks.{Repack}
use Rattle.part_model.specs.Names.{Names, file_in}
use Rattle.part_model.specs.Held.{Held, bytes_of, evictable_in, evicted_for, free_in, is_held}
use Rattle.part_model.specs.Requests.{Requests, has_path_in, request_in}
use Rattle.part_model.specs.Tapes.{Table, live_in, row_in}

-- ---- files

-- a Put of this size is refused or Stored by the index of paths and the buffer, with what is evicted for it
abbrev pub put_told : Site → Names → Held → ℕ → List ℕ → ℕ → Answer
put_told site names b t path size =
    refuse refusal.BadPath (not (is_path path))
    (refuse refusal.NoDirectory (is_none (class_of site path))
    (refuse refusal.PathTaken (is_some (file_in names path))
    (refuse refusal.NoSpace (nat_lt (free_in b + bytes_of (evictable_in b t)) size)
    (answer.Stored (rows (evicted_for b t size))))))

-- a Delete is refused where the index has no file at its path
abbrev pub delete_told : Names → List ℕ → Answer
delete_told names path = refuse refusal.NoFile (is_none (file_in names path)) answer.Done

-- ---- stage requests

-- a file of a request is on disk where the buffer holds it
abbrev pub is_held_by : Held → Option ℕ → Bool
is_held_by b None = false
is_held_by b (Some f) = is_held b f

-- what is told of a file of a request
abbrev pub file_told : Held → RequestFile → StageFileInfo
file_told b s = record { path = s.path; state = s.state; on_disk = is_held_by b s.file; started_at = s.started; finished_at = s.finished; error = s.error }

-- what a StageInfo is told by the book and the buffer
abbrev pub stage_told : Held → ℕ → Option StageRequest → Answer
stage_told b id None = answer.Refused refusal.NoRequest
stage_told b id (Some r) = answer.Stage (record {
  id = id;
  created_at = r.at;
  started_at = least_start r.files;
  completed_at = greatest_finish r.files;
  files = rows (map (file_told b) r.files);
})

-- a Cancel or Release of these paths is refused where the book has no such request, or the request lacks one of the paths
abbrev pub paths_told : Requests → ℕ → List (List ℕ) → Answer
paths_told v id paths =
    refuse refusal.NoRequest (is_none (request_in v id))
    (refuse refusal.ForeignPath (not (list_all (λ p. has_path_in v id p) paths)) answer.Done)

-- a DropStage is refused where the book has no such request
abbrev pub drop_told : Requests → ℕ → Answer
drop_told v id = refuse refusal.NoRequest (is_none (request_in v id)) answer.Done

-- ---- repacks and tapes

-- what is told of an item of a repack, where the files have these paths
abbrev pub item_told : (ℕ → List ℕ) → RepackCopy → RepackItem
item_told paths i = record { path = paths i.file; copy = i.copy; state = i.state }

-- what a RepackInfo is told by the book
abbrev pub repack_told : Site → (ℕ → List ℕ) → ℕ → Option Repack → Answer
repack_told site paths id None = answer.Refused refusal.NoRepack
repack_told site paths id (Some r) = answer.RepackSeen (record { id = id; vid = vid_of site r.tape; items = rows (map (item_told paths) r.items) })

-- what is told of a tape by the table
abbrev pub tape_told : Site → Table → ℕ → TapeInfo
tape_told site v t = record {
  vid = vid_of site t;
  state = (row_in v t).state;
  used = (row_in v t).used;
  files = live_in v t;
  next_fseq = (row_in v t).next;
}
