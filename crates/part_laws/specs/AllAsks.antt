-- How each of the eighteen asks moves the job book, the queues and the counts.
use Rattle.std.specs.Prelude.{ℕ, ◌+◌, length, List, [], ◌∷◌, Option, Some, None}
use Rattle.cta_site.specs.declared.site.Site.{Site}
use Rattle.cta_model.specs.declared.entries.Entry.{Entry}
use Rattle.cta_model.specs.declared.asks.Ask.{Ask}
use Rattle.cta_model.specs.declared.asks.Ask.TheVariants as ask
use Rattle.cta_model.specs.declared.asks.Fate.TheVariants as fate
use Rattle.cta_model.specs.declared.asks.Item.{Item}
use Rattle.cta_model.specs.declared.answers.Answer.{Answer}
use Rattle.cta_model.specs.declared.answers.Answer.TheVariants as answer
use Rattle.cta_model.specs.declared.states.Mount.{Mount}
use Rattle.cta_model.specs.History.{History}
use Rattle.cta_model.specs.Files.{live_file}
use Rattle.cta_model.specs.Mounts.{mount_of}
use Rattle.cta_model.specs.Stages.{StageRequest, request_of}
use Rattle.cta_model.specs.Legal.{IsLegal}
use Rattle.part_laws.specs.JobParts.{JobParts, JobPartsStand, after_claim, after_delete, after_end, after_failed, after_flushed, after_next, after_put, after_stale}
use Rattle.part_laws.specs.Ends.{file_paths, last_recalls, named_files, repacked_jobs}
use Rattle.part_laws.specs.Births.{files_of, recalled, repack_births}
use Rattle.part_laws.specs.BirthParts.{after_births, after_stage}
use Rattle.part_laws.specs.RecallParts.{after_recalled, after_state, after_unsubscribed}
use Rattle.part_laws.specs.StateLists.{ended_recalls, moved_recalls}

-- the parts after a Delete of the path of this file
abbrev pub delete_named : Site → History → Option ℕ → JobParts → JobParts
delete_named site h None p = p
delete_named site h (Some f) p = after_delete site h f p

-- the parts after the paths of these files are taken from a request
abbrev pub leave_paths : Site → History → ℕ → List (List ℕ) → JobParts → JobParts
leave_paths site h id paths p = after_unsubscribed id (named_files h paths) (last_recalls site h id (named_files h paths)) p

-- the parts after a request is dropped
abbrev pub drop_request : Site → History → ℕ → Option StageRequest → JobParts → JobParts
drop_request site h id None p = p
drop_request site h id (Some r) p = leave_paths site h id (file_paths r.files) p

-- the parts after a mount of this number claims a batch
abbrev pub claim_of_mount : Site → ℕ → Option Mount → List Item → JobParts → JobParts
claim_of_mount site m None items p = p
claim_of_mount site m (Some x) items p = after_claim site m x items p

-- the parts after a mount ends
abbrev pub end_of_mount : Site → Option Mount → JobParts → JobParts
end_of_mount site None p = p
end_of_mount site (Some x) p = after_end site x p

-- the parts after the entry e with this ask and answer, where h are the entries before it
abbrev pub parts_after : Site → History → Entry → Ask → Answer → JobParts → JobParts
parts_after site h e (ask.Put who path sum) a p = after_put site h (e ∷ h) path p
parts_after site h e (ask.Delete who path) a p = delete_named site h (live_file h path) p
parts_after site h e (ask.Stage who files) a p = after_stage site h (e ∷ h) e.ask files.items p
parts_after site h e (ask.Cancel who id paths) a p = leave_paths site h id paths.items p
parts_after site h e (ask.DropStage who id) a p = drop_request site h id (request_of site h id) p
parts_after site h e (ask.Next d) (answer.Mounted m way v) p = after_next site (record { drive = d; direction = way; tape = v }) p
parts_after site h e (ask.Claim m) (answer.Batch items evicted) p = claim_of_mount site m (mount_of h m) items.items p
parts_after site h e (ask.Flushed m items) a p = after_flushed site h items.items p
parts_after site h e (ask.Recalled m job) (answer.Arrived fate.Done) p = after_recalled site h (e ∷ h) job (repacked_jobs site h (length h + 1) job.file) p
parts_after site h e (ask.Recalled m job) (answer.Arrived fate.Stale) p = after_stale job p
parts_after site h e (ask.Failed m fault charged returned) a p =
    after_failed site h (e ∷ h) (ask.Failed m fault charged returned) m fault charged.items returned.items p
parts_after site h e (ask.End m fault) a p = end_of_mount site (mount_of h m) p
parts_after site h e (ask.TapeState who v s) a p = after_state site (e ∷ h) (moved_recalls site h v) (ended_recalls site h e v) p
parts_after site h e (ask.Repack who v) (answer.Repacking id items) p =
    after_births site (e ∷ h) (repack_births site h e.ask (length h + 1) items.items) (recalled site h (files_of items.items [])) p
parts_after site h e (ask.Retry who paths) (answer.Retried jobs) p = after_births site (e ∷ h) jobs.items [] p
parts_after site h e _ a p = p

-- the job book, the queues and the counts that stand for a legal history, moved by its next entry, stand for the history with it
abbrev pub JobPartsMove : Type 0
JobPartsMove =
    (site : Site) (h : History) (e : Entry) (p : JobParts) → IsLegal site (e ∷ h) → JobPartsStand site h p
    → JobPartsStand site (e ∷ h) (parts_after site h e e.ask e.answer p)
