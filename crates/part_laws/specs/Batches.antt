-- What a Claim is answered, by the parts.
use Rattle.std.specs.Prelude.{ℕ, zero, suc, ◌+◌, ◌-◌, List, [], ◌∷◌, Option, Some, None, if◌then◌else◌, nat_le}
use Rattle.blob.specs.declared.sum.Sum256.{Sum256}
use Rattle.cta_site.specs.declared.site.Site.{Site}
use Rattle.cta_site.specs.Listed.{rows}
use Rattle.cta_site.specs.Lookups.{capacity_of}
use Rattle.cta_model.specs.declared.asks.Direction.{Direction}
use Rattle.cta_model.specs.declared.asks.Direction.TheVariants as direction
use Rattle.cta_model.specs.declared.asks.Item.{Item}
use Rattle.cta_model.specs.declared.asks.Job.{Job}
use Rattle.cta_model.specs.declared.answers.Answer.{Answer}
use Rattle.cta_model.specs.declared.answers.Answer.TheVariants as answer
use Rattle.cta_model.specs.declared.answers.Refusal.TheVariants as refusal
use Rattle.cta_model.specs.Tapes.{size_of_items}
use Rattle.cta_model.specs.Batches.{insert_by_fseq}
use Rattle.part_model.specs.declared.jobs.Line.{Line}
use Rattle.part_model.specs.declared.mounts.OpenMount.{OpenMount}
use Rattle.part_model.specs.Held.{Held, evicted_for}
use Rattle.part_model.specs.Mounts.{row_of}
use Rattle.part_model.specs.Queues.{lines_in}
use Rattle.part_model.specs.Tapes.{row_in}
use Rattle.part_laws.specs.AllParts.{AllParts}
use Rattle.part_laws.specs.Choices.{room_told}
use Rattle.part_laws.specs.Files.{Files, copies_told, fseq_told}

-- of lines, in their order, the job of each whose length fits in the room beside those taken, at most so many
abbrev pub taken_lines : ℕ → ℕ → List Line → List Job
taken_lines count room [] = []
taken_lines zero room (l ∷ ls) = []
taken_lines (suc n) room (l ∷ ls) = if nat_le l.len room then l.job ∷ taken_lines n (room - l.len) ls else taken_lines (suc n) room ls

-- written items keep the order of the jobs and get the fSeqs from s in turn
abbrev pub written_told : (ℕ → Sum256) → ℕ → List Job → List Item
written_told sums s [] = []
written_told sums s (j ∷ js) = record { job = j; fseq = s; sum = sums j.file } ∷ written_told sums (s + 1) js

-- read items have the fSeqs of their files, and are sorted by them
abbrev pub read_told : (ℕ → Sum256) → (ℕ → ℕ) → List Job → List Item
read_told sums fseqs [] = []
read_told sums fseqs (j ∷ js) = insert_by_fseq (record { job = j; fseq = fseqs j.file; sum = sums j.file }) (read_told sums fseqs js)

-- the items that the Claim of a mount with this row takes at t
abbrev pub batch_by : Site → AllParts → Files → ℕ → OpenMount → Direction → List Item
batch_by site v files t r direction.Archive =
    written_told files.sum (row_in v.space.tapes r.tape).next
    (taken_lines site.limits.batch_files (capacity_of site r.tape - (row_in v.space.tapes r.tape).used) (lines_in v.pools r.key))
batch_by site v files t r direction.Retrieve =
    read_told files.sum (λ f. fseq_told v.space.tapes r.tape f (copies_told site files f))
    (taken_lines site.limits.batch_files (room_told v t) (lines_in v.recalls r.key))

-- the answer to a Claim that takes these items at t: that of a reading mount evicts for their sum
abbrev pub batch_told : Held → ℕ → Direction → List Item → Answer
batch_told b t way [] = answer.Nothing
batch_told b t direction.Archive (i ∷ items) = answer.Batch (rows (i ∷ items)) (rows [])
batch_told b t direction.Retrieve (i ∷ items) = answer.Batch (rows (i ∷ items)) (rows (evicted_for b t (size_of_items (i ∷ items))))

-- the answer to a Claim of the mount with this row, a refusal where there is no row
abbrev pub claim_with : Site → AllParts → Files → ℕ → Option OpenMount → Answer
claim_with site v files t None = answer.Refused refusal.Unknown
claim_with site v files t (Some r) = batch_told v.space.buffer t r.direction (batch_by site v files t r r.direction)

-- what a Claim is answered at t
abbrev pub claim_told : Site → AllParts → Files → ℕ → ℕ → Answer
claim_told site v files t m = claim_with site v files t (row_of m v.mounts)
