-- How asks that end recalls move the job book and the queues.
use Rattle.std.specs.Prelude.{ℕ, length, List, Some, ◌+◌, ◌∷◌, ◌≡◌}
use Rattle.cta_model.specs.History.{History}
use Rattle.cta_model.specs.Legal.{IsLegal}
use Rattle.cta_model.specs.Stages.{StageRequest, request_of}
use Rattle.cta_model.specs.declared.asks.Job.{Job}
use Rattle.cta_model.specs.declared.asks.Who.{Who}
use Rattle.cta_model.specs.declared.entries.Entry.{Entry}
use Rattle.cta_site.specs.Listed.{Listed}
use Rattle.cta_site.specs.declared.site.Site.{Site}
use Rattle.cta_site.specs.declared.site.TapeState.{TapeState}
use Rattle.cta_model.specs.declared.answers.Answer.TheVariants as answer
use Rattle.cta_model.specs.declared.asks.Ask.TheVariants as ask
use Rattle.cta_model.specs.declared.asks.Fate.TheVariants as fate
use Rattle.part_laws.specs.JobParts.{JobParts, JobPartsStand}
use Rattle.part_laws.specs.RecallParts.{after_recalled, after_state, after_unsubscribed}
use Rattle.part_laws.specs.StateLists.{AreRecallsOf, ended_recalls, moved_recalls}
use Rattle.part_laws.specs.Ends.{file_paths, last_recalls, named_files, repacked_jobs}

-- a Recalled ends its recall, and bears archive jobs of repacked copies
abbrev pub RecalledMovesParts : Type 0
RecalledMovesParts =
    (site : Site) (h : History) (e : Entry) (m : ℕ) (job : Job) (p : JobParts) → IsLegal site (e ∷ h) → e.ask ≡ ask.Recalled m job
    → e.answer ≡ answer.Arrived fate.Done → JobPartsStand site h p
    → JobPartsStand site (e ∷ h) (after_recalled site h (e ∷ h) job (repacked_jobs site h (length h + 1) job.file) p)

-- a Cancel ends the recalls for which its request was the last
abbrev pub CancelMovesParts : Type 0
CancelMovesParts =
    (site : Site) (h : History) (e : Entry) (who : Who) (id : ℕ) (paths : Listed (List ℕ)) (p : JobParts) → IsLegal site (e ∷ h)
    → e.ask ≡ ask.Cancel who id paths → JobPartsStand site h p
    → JobPartsStand site (e ∷ h) (after_unsubscribed id (named_files h paths.items) (last_recalls site h id (named_files h paths.items)) p)

-- a DropStage ends the recalls for which its request was the last
abbrev pub DropMovesParts : Type 0
DropMovesParts =
    (site : Site) (h : History) (e : Entry) (who : Who) (id : ℕ) (request : StageRequest) (p : JobParts) → IsLegal site (e ∷ h)
    → e.ask ≡ ask.DropStage who id → request_of site h id ≡ Some request → JobPartsStand site h p
    → JobPartsStand site (e ∷ h) (after_unsubscribed id (named_files h (file_paths request.files)) (last_recalls site h id (named_files h (file_paths request.files))) p)

-- a TapeState moves recalls to the queues of their sources, and ends those that have none
abbrev pub TapeStateMovesParts : Type 0
TapeStateMovesParts =
    (site : Site) (h : History) (e : Entry) (who : Who) (v : ℕ) (s : TapeState) (moved ended : List Job) (p : JobParts) → IsLegal site (e ∷ h) → e.ask ≡ ask.TapeState who v s
    → AreRecallsOf site h e v moved ended → JobPartsStand site h p → JobPartsStand site (e ∷ h) (after_state site (e ∷ h) moved ended p)

-- the recalls that a TapeState moves and ends, made of the files that have a place on its tape, are those that it is to move and end
abbrev pub StateListsAreRecalls : Type 0
StateListsAreRecalls =
    (site : Site) (h : History) (e : Entry) (who : Who) (v : ℕ) (s : TapeState) → IsLegal site (e ∷ h) → e.ask ≡ ask.TapeState who v s
    → AreRecallsOf site h e v (moved_recalls site h v) (ended_recalls site h e v)
