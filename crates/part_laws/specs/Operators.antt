-- What the asks of operators are answered by the parts.
use Rattle.std.specs.Prelude.{ℕ, ◌≡◌, ◌<◌, length, List, [], ◌∷◌, ◌++◌, Option, Some, None, is_none, Bool, if◌then◌else◌, ◌==◌, ◌&&◌, not, filter, map, nat_le}
use Rattle.std.specs.List.{AllByRecursion, list_any}
use Rattle.cta_site.specs.declared.site.Site.{Site}
use Rattle.cta_site.specs.Listed.{rows}
use Rattle.cta_model.specs.declared.asks.Job.{Job}
use Rattle.cta_model.specs.declared.answers.Answer.{Answer}
use Rattle.cta_model.specs.declared.answers.Answer.TheVariants as answer
use Rattle.cta_model.specs.declared.answers.Refusal.TheVariants as refusal
use Rattle.cta_model.specs.History.{has_text}
use Rattle.cta_model.specs.Mounts.{job_of}
use Rattle.cta_model.specs.Tapes.{is_broken, may_be_repacked}
use Rattle.cta_model.specs.Places.{is_at}
use Rattle.cta_model.specs.Answers.{refuse}
use Rattle.part_model.specs.declared.space.Placed.{Placed}
use Rattle.part_model.specs.Mounts.{has_tape}
use Rattle.part_model.specs.Names.{Names, file_in}
use Rattle.part_model.specs.Repacks.{is_live_in}
use Rattle.part_model.specs.Tapes.{Table, live_in, place_in, row_in}
use Rattle.part_laws.specs.AllParts.{AllParts}

-- ---- tapes

-- the answer where the site has the tape, and it is neither mounted nor BROKEN
abbrev pub on_free_tape_told : Site → AllParts → ℕ → Answer → Answer
on_free_tape_told site v tape a =
    refuse refusal.NoTape (nat_le (length site.tapes.items) tape)
    (refuse refusal.TapeMounted (has_tape tape v.mounts)
    (refuse refusal.TapeBroken (is_broken (row_in v.space.tapes tape).state) a))

-- what a Reclaim is answered
abbrev pub reclaim_told : Site → AllParts → ℕ → Answer
reclaim_told site v tape = on_free_tape_told site v tape (refuse refusal.LiveFiles (not (live_in v.space.tapes tape == 0)) answer.Done)

-- ---- repacks

-- copies in order of fSeq, no two with the same
abbrev pub ByFseq : List Placed → Type 0
ByFseq [] = Unit {0}
ByFseq (p ∷ ps) = AllByRecursion (λ (q : Placed). p.place.fseq < q.place.fseq) ps × ByFseq ps

-- whether it is this copy of the file at this fSeq
abbrev pub is_copy_at : ℕ → ℕ → ℕ → Placed → Bool
is_copy_at f c s p = p.file == f && (p.copy == c && p.place.fseq == s)

-- a list has in order of fSeq exactly the copies whose place is on the tape
pub record AreCopiesOn (v : Table) (tape : ℕ) (ps : List Placed) : Type 0 where
  pub in_order : ByFseq ps
  pub members : (f c s : ℕ) → list_any (is_copy_at f c s) ps ≡ is_at tape s (place_in v f c)

-- the items of a repack of these copies
abbrev pub items_told : List Placed → List Job
items_told ps = map (λ (p : Placed). job_of 0 p.file p.copy) ps

-- what a Repack of a tape with these copies is answered, where n is the number of the next entry
abbrev pub repack_answer_told : Site → AllParts → ℕ → ℕ → List Placed → Answer
repack_answer_told site v n tape ps =
    refuse refusal.NoTape (nat_le (length site.tapes.items) tape)
    (refuse refusal.NotRepacking (not (may_be_repacked (row_in v.space.tapes tape).state))
    (refuse refusal.RepackLive (is_live_in v.space.repacks tape)
    (answer.Repacking n (rows (items_told ps)))))

-- ---- failed copies

-- the numbers of the failed copies of a file
abbrev pub failed_of : ℕ → List Job → List ℕ
failed_of f copies = map (λ (j : Job). j.copy) (filter (λ (j : Job). j.file == f) copies)

-- the jobs that a Retry bears for what a path names, where n is the number of its entry
abbrev pub retried_with : ℕ → List Job → Option ℕ → List Job
retried_with n copies None = []
retried_with n copies (Some f) = map (job_of n f) (failed_of f copies)

-- the jobs that a Retry bears, in order of first naming
abbrev pub retried_told : Names → List Job → ℕ → List (List ℕ) → List (List ℕ) → List Job
retried_told names copies n seen [] = []
retried_told names copies n seen (p ∷ ps) =
    if has_text p seen then retried_told names copies n seen ps else retried_with n copies (file_in names p) ++ retried_told names copies n (p ∷ seen) ps

-- what a Retry is answered, where n is the number of the next entry
abbrev pub retry_told : AllParts → ℕ → List (List ℕ) → Answer
retry_told v n paths =
    refuse refusal.NoFile (list_any (λ p. is_none (file_in v.space.names p)) paths)
    (answer.Retried (rows (retried_told v.space.names v.failed n [] paths)))
