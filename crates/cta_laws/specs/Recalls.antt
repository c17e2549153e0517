-- Laws of recalls.
use Rattle.std.specs.Prelude.{ℕ, ◌+◌, ◌≡◌, ◌≤◌, [], ◌∷◌, ◌++◌, IsSome, Bool, true, false, if◌then◌else◌, not}
use Rattle.std.specs.List.{list_all}
use Rattle.cta_site.specs.declared.site.Site.{Site}
use Rattle.cta_model.specs.declared.entries.Entry.{Entry}
use Rattle.cta_model.specs.declared.asks.Ask.{Ask}
use Rattle.cta_model.specs.declared.asks.Ask.TheVariants as ask
use Rattle.cta_model.specs.declared.answers.Answer.{Answer}
use Rattle.cta_model.specs.declared.answers.Answer.TheVariants as answer
use Rattle.cta_model.specs.declared.asks.Fate.TheVariants as fate
use Rattle.cta_model.specs.declared.asks.Job.{Job}
use Rattle.cta_model.specs.History.{History}
use Rattle.cta_model.specs.Mounts.{same_job}
use Rattle.cta_model.specs.Files.{is_live}
use Rattle.cta_model.specs.Buffer.{is_resident, evicts}
use Rattle.cta_model.specs.Recalls.{recall_job}
use Rattle.cta_model.specs.Jobs.{job_end}
use Rattle.cta_model.specs.Legal.{IsLegal}

-- whether an entry completes the recall: a Recalled of it with fate Done
abbrev pub completes : Ask → Answer → Job → Bool
completes (ask.Recalled m job) (answer.Arrived fate.Done) j = same_job job j
completes _ _ j = false

-- how many entries complete the recall
abbrev pub completions : History → Job → ℕ
completions [] j = 0
completions (e ∷ h) j = (if completes e.ask e.answer j then 1 else 0) + completions h j

-- in a legal history at most one entry completes a recall
abbrev pub CompletesOnce : Type 0
CompletesOnce = (site : Site) (h : History) → IsLegal site h → (birth f : ℕ) → completions h (recall_job birth f) ≤ 1

-- in a legal history a Recalled of a recall that has ended is told Stale
abbrev pub StaleAfterEnd : Type 0
StaleAfterEnd =
    (site : Site) (newer h : History) (e : Entry) → IsLegal site (e ∷ newer ++ h) → (m : ℕ) (j : Job) → IsSome (job_end site h j) → e.ask ≡ ask.Recalled m j
    → e.answer ≡ answer.Arrived fate.Stale

-- in a legal history the file of a recall is resident after the entry that completes the recall
abbrev pub RecalledIsResident : Type 0
RecalledIsResident =
    (site : Site) (h : History) (e : Entry) → IsLegal site (e ∷ h) → (birth f : ℕ) → completes e.ask e.answer (recall_job birth f) ≡ true
    → is_resident (e ∷ h) f ≡ true

-- none of the entries evicts the file
abbrev pub is_kept : ℕ → History → Bool
is_kept f newer = list_all (λ (e : Entry). not (evicts e.ask e.answer f)) newer

-- a resident file is resident as long as it is live and no entry evicts it
abbrev pub StaysResident : Type 0
StaysResident = (newer h : History) (f : ℕ) → is_resident h f ≡ true → is_live (newer ++ h) f ≡ true → is_kept f newer ≡ true → is_resident (newer ++ h) f ≡ true
