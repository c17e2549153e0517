-- Laws of jobs.
use Rattle.std.specs.Prelude.{ℕ, suc, ◌+◌, ◌≡◌, ◌<◌, ◌≤◌, length, List, [], ◌∷◌, ◌++◌, Some, None, is_some, IsSome, true, false, if◌then◌else◌, ◌⊎◌, Bool}
use Rattle.cta_site.specs.declared.site.Site.{Site}
use Rattle.cta_site.specs.ValidSite.{IsValidSite}
use Rattle.cta_model.specs.declared.entries.Entry.{Entry}
use Rattle.cta_model.specs.declared.asks.Job.{Job}
use Rattle.cta_model.specs.History.{History, entry_of}
use Rattle.cta_model.specs.Mounts.{mount_of, is_open, claimer_of, same_job, has_job, claim_names, claims, item_jobs, claimed_items}
use Rattle.cta_model.specs.declared.asks.Direction.{Direction}
use Rattle.cta_model.specs.declared.asks.Ask.{Ask}
use Rattle.cta_model.specs.declared.asks.Ask.TheVariants as ask
use Rattle.cta_model.specs.declared.states.Mount.{Mount}
use Rattle.cta_model.specs.Files.{is_live, path_of}
use Rattle.cta_model.specs.Buffer.{is_resident}
use Rattle.cta_model.specs.Recalls.{live_recall}
use Rattle.cta_model.specs.Tapes.{size_of_items}
use Rattle.cta_laws.specs.Claims.{claimed_by, claimed_total, claimer_after, ended_jobs, is_asked, size_of_jobs}
use Rattle.cta_model.specs.Jobs.{archive_birth, bears_archive, is_live_job, job_end}
use Rattle.cta_model.specs.Queues.{queue_of, direction_of, key_of}
use Rattle.cta_model.specs.Legal.{IsLegal}

-- in a legal history a job that has ended is live no more
abbrev pub EndsForGood : Type 0
EndsForGood = (site : Site) (newer h : History) → IsLegal site (newer ++ h) → (j : Job) → IsSome (job_end site h j) → is_live_job site (newer ++ h) j ≡ false

-- in a legal history no Claim names a job that has ended
abbrev pub NoClaimAfterEnd : Type 0
NoClaimAfterEnd =
    (site : Site) (newer h : History) (e : Entry) → IsLegal site (e ∷ newer ++ h) → (j : Job) → IsSome (job_end site h j) → claim_names e.ask e.answer j ≡ false

-- in a legal history at most one open mount claims a job
abbrev pub ClaimedOnce : Type 0
ClaimedOnce =
    (site : Site) (h : History) → IsLegal site h → (j : Job) (m n : ℕ) → is_open h m ≡ true → claims h m j ≡ true → is_open h n ≡ true → claims h n j ≡ true
    → m ≡ n

-- how often a job is in a list
abbrev pub count_job : Job → List Job → ℕ
count_job j [] = 0
count_job j (k ∷ ks) = (if same_job j k then 1 else 0) + count_job j ks

-- a job is in the queue of its direction and key, once, and in no other; and no open mount claims it
pub record IsQueued (site : Site) (h : History) (j : Job) : Type 0 where
  pub key : ℕ
  pub is_key : key_of site h j ≡ Some key
  pub once : count_job j (queue_of site h (direction_of j) key) ≡ 1
  pub in_no_other : (way : Direction) (k : ℕ) → has_job j (queue_of site h way k) ≡ true → (way ≡ direction_of j) × (k ≡ key)
  pub unclaimed : (m : ℕ) → is_open h m ≡ true → claims h m j ≡ false

-- one open mount claims a job; and the job is in no queue
pub record IsClaimed (site : Site) (h : History) (j : Job) : Type 0 where
  pub mount : ℕ
  pub is_open_mount : is_open h mount ≡ true
  pub claimed : claims h mount j ≡ true
  pub by_no_other : (m : ℕ) → is_open h m ≡ true → claims h m j ≡ true → m ≡ mount
  pub in_no_queue : (way : Direction) (k : ℕ) → has_job j (queue_of site h way k) ≡ false

-- in a legal history a live job is in one queue, once, or one open mount claims it
abbrev pub IsQueuedOrClaimed : Type 0
IsQueuedOrClaimed = (site : Site) (h : History) → IsLegal site h → (j : Job) → is_live_job site h j ≡ true → IsQueued site h j ⊎ IsClaimed site h j

-- in a legal history the key of a recall is a tape of the site
abbrev pub RecallKeyIsTape : Type 0
RecallKeyIsTape = (site : Site) (h : History) → IsLegal site h → (j : Job) (key : ℕ) → j.copy ≡ 0 → key_of site h j ≡ Some key → key < length site.tapes.items

-- in a legal history of a valid site the key of a live archive job is a pool of the site
abbrev pub ArchiveKeyIsPool : Type 0
ArchiveKeyIsPool =
    (site : Site) (h : History) → IsValidSite site → IsLegal site h → (j : Job) (key : ℕ) → 1 ≤ j.copy → is_live_job site h j ≡ true → key_of site h j ≡ Some key
    → key < length site.pools.items

-- ---- claims

-- a claimed job goes the way of its mount
abbrev pub ClaimsGoTheirWay : Type 0
ClaimsGoTheirWay = (site : Site) (h : History) → IsLegal site h → (m : ℕ) (x : Mount) (j : Job) → mount_of h m ≡ Some x → claims h m j ≡ true → direction_of j ≡ x.direction

-- an entry moves the claimer of a job as its ask says
abbrev pub ClaimerMoves : Type 0
ClaimerMoves = (site : Site) (h : History) (e : Entry) → IsLegal site (e ∷ h) → (j : Job) → claimer_of (e ∷ h) j ≡ claimer_after e.ask e.answer j (claimer_of h j)

-- a mount claims a job at most once
abbrev pub ClaimsNoJobTwice : Type 0
ClaimsNoJobTwice = (site : Site) (h : History) → IsLegal site h → (m : ℕ) (j : Job) → count_job j (item_jobs (claimed_items h m)) ≤ 1

-- the bytes that the open mounts which pass a test claim grow by the sizes of the items that an entry claims, and fall by those of the
-- jobs whose claims it ends, where its mount passes the test
abbrev pub ClaimedBytesMove : Type 0
ClaimedBytesMove =
    (test : Mount → Bool) (site : Site) (h : History) (e : Entry) → IsLegal site (e ∷ h)
    → claimed_total test (e ∷ h) + (if is_asked test h e.ask then size_of_jobs h (ended_jobs e.ask) else 0)
    ≡ claimed_total test h + (if is_asked test h e.ask then size_of_items (claimed_by e.ask e.answer) else 0)

-- ---- jobs and their files

-- the file of a live archive job is resident
abbrev pub ArchiveIsResident : Type 0
ArchiveIsResident = (site : Site) (h : History) → IsLegal site h → (f c : ℕ) → is_some (archive_birth site h f (suc c)) ≡ true → is_resident h f ≡ true

-- the file of a live recall is not resident
abbrev pub RecallIsAway : Type 0
RecallIsAway = (site : Site) (h : History) → IsLegal site h → (f : ℕ) → is_some (live_recall site h f) ≡ true → is_resident h f ≡ false

-- the file of a live job is live
abbrev pub JobFileIsLive : Type 0
JobFileIsLive = (site : Site) (h : History) → IsLegal site h → (j : Job) → is_live_job site h j ≡ true → is_live h j.file ≡ true

-- an ask is the Put of this path
abbrev pub IsPutOf : List ℕ → Ask → Type 0
IsPutOf p (ask.Put who path sum) = path ≡ p
IsPutOf p _ = ⊥

-- the entry of this number is a Put of this path
abbrev pub HasPut : History → ℕ → List ℕ → Type 0
HasPut h f p = (e : Entry) × (entry_of h f ≡ Some e) × IsPutOf p e.ask

-- in a legal history the file of a live job has its Put
abbrev pub JobFileHasPut : Type 0
JobFileHasPut = (site : Site) (h : History) → IsLegal site h → (j : Job) → is_live_job site h j ≡ true → HasPut h j.file (path_of h j.file)

-- an entry bears an archive job only for a copy that has no live one, so that no birth is lost
abbrev pub NoBirthIsLost : Type 0
NoBirthIsLost =
    (site : Site) (h : History) (e : Entry) → IsLegal site (e ∷ h) → (f c : ℕ) → bears_archive site h e.ask e.answer f (suc c) ≡ true → archive_birth site h f (suc c) ≡ None
