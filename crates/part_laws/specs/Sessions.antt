-- What the asks that end claims, and the End of a mount, are answered by the parts.
use Rattle.std.specs.Prelude.{ℕ, zero, suc, List, [], ◌∷◌, Option, Some, None, option_map, Bool, if◌then◌else◌, ◌&&◌, not, map}
use Rattle.std.specs.List.{list_all, list_any}
use Rattle.cta_site.specs.Listed.{rows}
use Rattle.cta_model.specs.declared.asks.Fate.{Fate}
use Rattle.cta_model.specs.declared.asks.Fate.TheVariants as fate
use Rattle.cta_model.specs.declared.asks.Item.{Item}
use Rattle.cta_model.specs.declared.asks.Job.{Job}
use Rattle.cta_model.specs.declared.answers.Answer.{Answer}
use Rattle.cta_model.specs.declared.answers.Answer.TheVariants as answer
use Rattle.cta_model.specs.declared.answers.Refusal.TheVariants as refusal
use Rattle.cta_model.specs.History.{is_number}
use Rattle.cta_model.specs.Mounts.{item_jobs}
use Rattle.cta_model.specs.Recalls.{Recall}
use Rattle.cta_model.specs.Answers.{is_last_batch, names_twice, refuse}
use Rattle.part_model.specs.declared.jobs.ClaimedJob.{ClaimedJob}
use Rattle.part_model.specs.declared.mounts.OpenMount.{OpenMount}
use Rattle.part_model.specs.JobRows.{JobRows, birth_in, claimer_in, recall_in}
use Rattle.part_model.specs.Mounts.{has_mount, last_items, row_of}
use Rattle.part_laws.specs.AllParts.{AllParts}

-- ---- jobs

-- the birth of the live job of a copy of a file, where copy 0 is the recall
abbrev pub birth_told : JobRows → ℕ → ℕ → Option ℕ
birth_told v f zero = option_map (λ (r : Recall). r.birth) (recall_in v.recalls f)
birth_told v f (suc c) = birth_in v.archives f (suc c)

-- whether a job is live
abbrev pub is_live_told : JobRows → Job → Bool
is_live_told v j = is_number j.birth (birth_told v j.file j.copy)

-- whether the mount claims the job
abbrev pub claims_told : JobRows → ℕ → Job → Bool
claims_told v m j = is_number m (claimer_in v.claims j)

-- whether the mount claims some job
abbrev pub claims_some : JobRows → ℕ → Bool
claims_some v m = list_any (λ (r : ClaimedJob). claims_told v m r.job) v.claims

-- an ask that ends claims of an open mount names jobs that the mount claims, none twice
abbrev pub known_told : AllParts → ℕ → List Job → Bool
known_told v m jobs = has_mount m v.mounts && (list_all (claims_told v.book m) jobs && not (names_twice jobs))

-- an item that was flushed or read is stale where its job has ended
abbrev pub fate_told : JobRows → Job → Fate
fate_told v j = if is_live_told v j then fate.Done else fate.Stale

-- the items of the last Claim of the mount with this row, none where there is no row
abbrev pub last_told : Option OpenMount → Option (List Item)
last_told None = None
last_told (Some r) = last_items r

-- ---- answers

-- what a Flushed is answered
abbrev pub flushed_told : AllParts → ℕ → List Item → Answer
flushed_told v m items =
    refuse refusal.Unknown (not (known_told v m (item_jobs items) && is_last_batch (last_told (row_of m v.mounts)) items))
    (answer.Told (rows (map (λ (i : Item). fate_told v.book i.job) items)))

-- what a Recalled is answered
abbrev pub recalled_told : AllParts → ℕ → Job → Answer
recalled_told v m j = refuse refusal.Unknown (not (known_told v m (j ∷ []))) (answer.Arrived (fate_told v.book j))

-- what a Failed that names these jobs, charged and returned, is answered
abbrev pub failed_told : AllParts → ℕ → List Job → Answer
failed_told v m jobs = refuse refusal.Unknown (not (known_told v m jobs)) answer.Done

-- what an End is answered
abbrev pub end_told : AllParts → ℕ → Answer
end_told v m = refuse refusal.Unknown (not (has_mount m v.mounts && not (claims_some v.book m))) answer.Done
