-- What holds of one history that is kept: the laws of the archive, said of it. A history is cut as newer entries, one entry, and older ones.
use Rattle.std.specs.Prelude.{ℕ, ◌≡◌, ◌≤◌, ◌<◌, ◌∷◌, ◌++◌, [], ◌⊎◌, Option, Some, IsSome, true, false}
use Rattle.std.specs.List.{list_any}
use Rattle.cta_site.specs.declared.site.Site.{Site}
use Rattle.cta_model.specs.declared.entries.Entry.{Entry}
use Rattle.cta_model.specs.declared.asks.Ask.TheVariants as ask
use Rattle.cta_model.specs.declared.asks.Direction.{Direction}
use Rattle.cta_model.specs.declared.asks.Fate.TheVariants as fate
use Rattle.cta_model.specs.declared.asks.Fault.{Fault}
use Rattle.cta_model.specs.declared.asks.Job.{Job}
use Rattle.cta_model.specs.declared.answers.Answer.TheVariants as answer
use Rattle.cta_model.specs.declared.states.Candidate.{Candidate}
use Rattle.cta_model.specs.declared.states.Place.{Place}
use Rattle.cta_model.specs.Buffer.{is_resident}
use Rattle.cta_model.specs.Choice.{mount_choice, mounts_of_vo, quota_of}
use Rattle.cta_model.specs.Files.{is_live}
use Rattle.cta_model.specs.History.{History, next_number}
use Rattle.cta_model.specs.Jobs.{is_live_job, job_end}
use Rattle.cta_model.specs.Legal.{IsLegal}
use Rattle.cta_model.specs.Localities.{locality_of}
use Rattle.cta_model.specs.Mounts.{asked_mount, claim_names, claimed_items, is_open, tape_of_mount}
use Rattle.cta_model.specs.Places.{place_of}
use Rattle.cta_model.specs.Recalls.{recall_job}
use Rattle.cta_model.specs.Tapes.{next_fseq}
use Rattle.cta_laws.specs.Jobs.{IsClaimed, IsQueued}
use Rattle.cta_laws.specs.Localities.{EachCopyWasFlushed, SaysTape}
use Rattle.cta_laws.specs.Places.{flushes, reclaims}
use Rattle.cta_laws.specs.Recalls.{completes, completions, is_kept}

-- ---- files

-- a file is said to be on tape only where each copy of its class was flushed; and each live file is in the buffer, or each copy was flushed once
pub record HoldsFiles (site : Site) (h : History) : Type 0 where
  pub tape_is_flushed : (f : ℕ) → SaysTape (locality_of site h f) → EachCopyWasFlushed site h f
  pub resident_or_flushed : (f : ℕ) → is_live h f ≡ true → (is_resident h f ≡ true) ⊎ EachCopyWasFlushed site h f

-- ---- recalls and jobs

-- at most one entry completes a recall; a job that has ended stays so, no later Claim names it, and a later Recalled of it is told Stale; and the file of a
-- completed recall is in the buffer until an entry evicts it or it is deleted
pub record HoldsRecalls (site : Site) (h : History) : Type 0 where
  pub completes_once : (birth f : ℕ) → completions h (recall_job birth f) ≤ 1
  pub ends_for_good : (newer older : History) (j : Job) → h ≡ newer ++ older → IsSome (job_end site older j) → is_live_job site h j ≡ false
  pub no_claim_after_end : (last newer older : History) (e : Entry) (j : Job) → h ≡ last ++ (e ∷ newer ++ older) → IsSome (job_end site older j) → claim_names e.ask e.answer j ≡ false
  pub stale_after_end : (last newer older : History) (e : Entry) (m : ℕ) (j : Job) → h ≡ last ++ (e ∷ newer ++ older) → IsSome (job_end site older j) → e.ask ≡ ask.Recalled m j → e.answer ≡ answer.Arrived fate.Stale
  pub recalled_is_resident : (newer older : History) (e : Entry) (birth f : ℕ) → h ≡ newer ++ e ∷ older → completes e.ask e.answer (recall_job birth f) ≡ true → is_live h f ≡ true → is_kept f newer ≡ true → is_resident h f ≡ true

-- a live job is in one queue, once, or one open mount claims it; and behind its End a mount is not open and claims nothing
pub record HoldsJobs (site : Site) (h : History) : Type 0 where
  pub queued_or_claimed : (j : Job) → is_live_job site h j ≡ true → IsQueued site h j ⊎ IsClaimed site h j
  pub claims_nothing_after_end : (newer older : History) (e : Entry) (m : ℕ) (fault : Option Fault) → h ≡ newer ++ e ∷ older → e.ask ≡ ask.End m fault → (is_open h m ≡ false) × (claimed_items h m ≡ [])

-- ---- mounts

-- each Next mounted the choice at its place; and wherever the history is cut, the open mounts of a virtual organisation in one direction are at most its quota
pub record HoldsMounts (site : Site) (h : History) : Type 0 where
  pub mounts_choice : (newer older : History) (e : Entry) (d : ℕ) → h ≡ newer ++ e ∷ older → e.ask ≡ ask.Next d → (c : Candidate) × (mount_choice site older e.at d ≡ Some c) × (e.answer ≡ answer.Mounted (next_number older) c.direction c.tape)
  pub keeps_quota : (newer older : History) (way : Direction) (vo : ℕ) → h ≡ newer ++ older → mounts_of_vo site older way vo ≤ quota_of site way vo

-- ---- copies

-- no copy is lost: a live file that had a place of a copy has one still; and where an entry made the place that a copy has, no later entry reclaims its tape, and the
-- place's fSeq is below the tape's next: so also through every repack
pub record HoldsCopies (site : Site) (h : History) : Type 0 where
  pub places_stay : (newer older : History) (f c : ℕ) → h ≡ newer ++ older → IsSome (place_of older f c) → is_live h f ≡ true → IsSome (place_of h f c)
  pub places_are_never_reclaimed : (newer older : History) (e : Entry) (f c : ℕ) (p : Place) → h ≡ newer ++ e ∷ older → place_of h f c ≡ Some p → flushes f c e ≡ true → list_any (flushes f c) newer ≡ false
      → (p.tape ≡ tape_of_mount older (asked_mount e.ask)) × (list_any (λ (x : Entry). reclaims p.tape x.ask) newer ≡ false) × (p.fseq < next_fseq h p.tape)

-- ---- all

-- the laws hold of a history
pub record HoldsLaws (site : Site) (h : History) : Type 0 where
  pub files : HoldsFiles site h
  pub recalls : HoldsRecalls site h
  pub jobs : HoldsJobs site h
  pub mounts : HoldsMounts site h
  pub copies : HoldsCopies site h

-- the laws hold of each legal history
abbrev pub LegalHistoriesHold : Type 0
LegalHistoriesHold = (site : Site) (h : History) → IsLegal site h → HoldsLaws site h
