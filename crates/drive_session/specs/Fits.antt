-- When a session fits a history.
use Rattle.std.specs.Prelude.{ℕ, ◌+◌, ◌≡◌, ◌≤◌, ◌<◌, ⊤, length, List, [], ◌∷◌, ◌++◌, map, drop, Option, Some, IfSome, true, false}
use Rattle.std.specs.declared.alloc.Global.{Global}
use Rattle.std.specs.declared.sync.Arc.{Arc}
use Rattle.blob.specs.declared.blobs.Blob.{Blob}
use Rattle.blob.specs.declared.sum.Sum256.{Sum256}
use Rattle.blob.specs.Records.{MediumView}
use Rattle.cta_site.specs.declared.site.Site.{Site}
use Rattle.cta_model.specs.declared.asks.Ask.{Ask}
use Rattle.cta_model.specs.declared.asks.Ask.TheVariants as ask
use Rattle.cta_model.specs.declared.asks.Direction.{Direction}
use Rattle.cta_model.specs.declared.asks.Direction.TheVariants as direction
use Rattle.cta_model.specs.declared.asks.Fault.{Fault}
use Rattle.cta_model.specs.declared.asks.Item.{Item}
use Rattle.cta_model.specs.declared.asks.Job.{Job}
use Rattle.cta_model.specs.declared.hands.Hand.{Hand}
use Rattle.cta_model.specs.declared.hands.Hand.TheVariants as hand
use Rattle.cta_model.specs.Answers.{names_twice, is_known}
use Rattle.cta_model.specs.Hands.{IsOfFile, sum_of_blob}
use Rattle.cta_model.specs.History.{History}
use Rattle.cta_model.specs.Legal.{IsEndFault, IsFaultOf, IsMountOf}
use Rattle.cta_model.specs.Media.{IsMediumOf}
use Rattle.cta_model.specs.Mounts.{is_open, mount_of, claimed_items, last_batch, item_jobs, without_jobs}
use Rattle.cta_model.specs.Tapes.{tape_items}
use Rattle.drive_session.specs.declared.states.Asked.{Asked}
use Rattle.drive_session.specs.declared.states.Asked.TheVariants as asked
use Rattle.drive_session.specs.declared.states.Batch.{Batch}
use Rattle.drive_session.specs.declared.states.Mounted.{Mounted}
use Rattle.drive_session.specs.declared.states.Outcome.{Outcome}
use Rattle.drive_session.specs.declared.states.State.{State}
use Rattle.drive_session.specs.declared.states.State.TheVariants as state
use Rattle.drive_session.specs.Records.{AreFlushed, AreNumbered, AreOfFiles, AreSafe, AreWritten, blob_sums}

-- the mount is open with its drive, direction and tape
pub record IsMountAt (h : History) (drive m : ℕ) (way : Direction) (v : ℕ) : Type 0 where
  pub still : is_open h m ≡ true
  pub mount : mount_of h m ≡ Some (record { drive = drive; direction = way; tape = v })

-- the mount is open, and its medium is that of its tape, and true where it tells its records
pub record IsAt {M : Type 0} (told : M → MediumView) (h : History) (drive : ℕ) (x : Mounted M) : Type 0 where
  pub mount : IsMountAt h drive x.mount x.direction x.tape
  pub medium : IsMediumOf h x.tape (told x.medium)

-- the items are all those of the last Claim of a writing mount, at least one, it claims no other, and their contents have their files' sums
pub record IsBatch {M : Type 0} (told : M → MediumView) (h : History) (drive : ℕ) (x : Mounted M) (items : List Item) (sums : List Sum256) : Type 0 where
  pub at : IsAt told h drive x
  pub way : x.direction ≡ direction.Archive
  pub some : 0 < length items
  pub claims : claimed_items h x.mount ≡ items
  pub last : last_batch h x.mount ≡ Some items
  pub once : names_twice (item_jobs items) ≡ false
  pub numbered : AreNumbered (length (tape_items h x.tape) + 1) items
  pub files : AreOfFiles h items
  pub blobs : sums ≡ map (λ (i : Item). i.sum) items

-- the lists for the asks that may follow are there
pub record IsFilled (b : Batch) : Type 0 where
  pub jobs : b.jobs.items ≡ item_jobs b.items.items
  pub one : length b.one.items ≡ 1
  pub count : b.at ≤ length b.items.items

-- a batch of which some items are written, each with a record where the medium tells
pub record IsWriting {M : Type 0} (told : M → MediumView) (h : History) (drive : ℕ) (x : Mounted M) (b : Batch) : Type 0 where
  pub batch : IsBatch told h drive x b.items.items (blob_sums b.blobs.items)
  pub filled : IsFilled b
  pub written : IfSome (told x.medium).records (AreWritten (length (tape_items h x.tape)) b.items.items b.at)

-- the items that are still to be read, each with a safe record where the medium tells
pub record IsUnread {M : Type 0} (told : M → MediumView) (h : History) (drive : ℕ) (x : Mounted M) (items : List Item) : Type 0 where
  pub at : IsAt told h drive x
  pub way : x.direction ≡ direction.Retrieve
  pub once : names_twice (item_jobs items) ≡ false
  pub files : AreOfFiles h items
  pub safe : IfSome (told x.medium).records (λ t. AreSafe t items)

-- the items that a reading mount claims are still to be read
pub record IsReading {M : Type 0} (told : M → MediumView) (h : History) (drive : ℕ) (x : Mounted M) (items : List Item) : Type 0 where
  pub unread : IsUnread told h drive x items
  pub claims : claimed_items h x.mount ≡ items

-- the mount claims nothing
pub record IsRest {M : Type 0} (told : M → MediumView) (h : History) (drive : ℕ) (x : Mounted M) : Type 0 where
  pub at : IsAt told h drive x
  pub claims : claimed_items h x.mount ≡ []

-- what a state says of a history
abbrev pub FitsIn : {M : Type 0} → (M → MediumView) → History → ℕ → State M → Type 0
FitsIn told h d state.Free = ⊤
FitsIn told h d (state.Held x) = IsRest told h d x
FitsIn told h d (state.Ready x) = IsRest told h d x
FitsIn told h d (state.Claimed x items blobs) = IsBatch told h d x items.items (blob_sums blobs.items)
FitsIn told h d (state.Writing x b) = IsWriting told h d x b
FitsIn told h d (state.Reading x items at) = IsReading told h d x (drop at items.items)
FitsIn told h d (state.Leaving x) = IsRest told h d x

-- a session without an open ask fits a history whose site has its drive
pub record FitsState {M : Type 0} (told : M → MediumView) (site : Site) (h : History) (d : ℕ) (s : State M) : Type 0 where
  pub known : d < length site.drives.items
  pub state : FitsIn told h d s

-- an ask names jobs that the mount claims, none twice, and these items are left
pub record IsResolving (h : History) (m : ℕ) (jobs : List Job) (rest : List Item) : Type 0 where
  pub known : is_known h m jobs ≡ true
  pub left : without_jobs jobs (claimed_items h m) ≡ rest

-- a Flushed names the mount's last batch, all that it claims, and each item has a safe record where the medium tells
pub record IsFlushing {M : Type 0} (told : M → MediumView) (h : History) (drive : ℕ) (x : Mounted M) (items : List Item) : Type 0 where
  pub at : IsAt told h drive x
  pub way : x.direction ≡ direction.Archive
  pub resolves : IsResolving h x.mount (item_jobs items) []
  pub last : last_batch h x.mount ≡ Some items
  pub numbered : AreNumbered (length (tape_items h x.tape) + 1) items
  pub files : AreOfFiles h items
  pub safe : IfSome (told x.medium).records (AreFlushed (length (tape_items h x.tape)) items)

-- what the state behind a Failed or Recalled has still to report
abbrev pub FitsResolved : {M : Type 0} → (M → MediumView) → History → ℕ → ℕ → List Job → State M → Type 0
FitsResolved told h d m jobs (state.Leaving x) = (m ≡ x.mount) × (x.direction ≡ direction.Archive) × IsAt told h d x × IsResolving h m jobs []
FitsResolved told h d m jobs (state.Reading x items at) = (m ≡ x.mount) × IsUnread told h d x (drop at items.items) × IsResolving h m jobs (drop at items.items)
FitsResolved told h d m jobs _ = ⊥

-- an open Next: the session is Free, and asks for its drive
pub record FitsNext {M : Type 0} (d : ℕ) (s : State M) (w : Asked) (k : ℕ) (q : Hand M) : Type 0 where
  pub state : s ≡ state.Free
  pub asked : w ≡ asked.Next
  pub hand : q ≡ hand.Nothing
  pub drive : k ≡ d

-- an open Claim: the mount is Ready and claims nothing
pub record FitsClaim {M : Type 0} (told : M → MediumView) (h : History) (d : ℕ) (s : State M) (w : Asked) (m : ℕ) (q : Hand M) : Type 0 where
  pub mounted : Mounted M
  pub state : s ≡ state.Ready mounted
  pub asked : w ≡ asked.Claim
  pub hand : q ≡ hand.Nothing
  pub mount : m ≡ mounted.mount
  pub rest : IsRest told h d mounted

-- an open Flushed: the mount is Ready behind it, and the batch is flushed
pub record FitsFlushed {M : Type 0} (told : M → MediumView) (h : History) (d : ℕ) (s : State M) (w : Asked) (m : ℕ) (items : List Item) (q : Hand M) : Type 0 where
  pub mounted : Mounted M
  pub state : s ≡ state.Ready mounted
  pub asked : w ≡ asked.Flushed
  pub hand : q ≡ hand.Nothing
  pub mount : m ≡ mounted.mount
  pub batch : IsFlushing told h d mounted items

-- an open Recalled goes with a content that has the sum of its file
pub record FitsRecalled {M : Type 0} (told : M → MediumView) (h : History) (d : ℕ) (s : State M) (w : Asked) (m : ℕ) (job : Job) (q : Hand M) : Type 0 where
  pub fseq : ℕ
  pub content : Arc Blob Global
  pub asked : w ≡ asked.Recalled fseq
  pub hand : q ≡ hand.Blob content
  pub file : IsOfFile h job.file (sum_of_blob content)
  pub way : IsMountOf direction.Retrieve (mount_of h m)
  pub resolved : FitsResolved told h d m (job ∷ []) s

-- an open Failed names what its mount claims, at least one job, for a fault of the mount's direction
pub record FitsFailed {M : Type 0} (told : M → MediumView) (h : History) (d : ℕ) (s : State M) (w : Asked) (m : ℕ) (f : Fault) (charged returned : List Job) (q : Hand M) : Type 0 where
  pub outcome : Outcome
  pub asked : w ≡ asked.Known outcome
  pub hand : q ≡ hand.Nothing
  pub cause : IsFaultOf f (mount_of h m)
  pub some : 0 < length charged + length returned
  pub resolved : FitsResolved told h d m (charged ++ returned) s

-- an open End goes with the medium of its mount, which claims nothing and is true where it tells; the session is Free behind it
pub record FitsEnd {M : Type 0} (told : M → MediumView) (h : History) (d : ℕ) (s : State M) (w : Asked) (m : ℕ) (f : Option Fault) (q : Hand M) : Type 0 where
  pub outcome : Outcome
  pub medium : M
  pub way : Direction
  pub tape : ℕ
  pub state : s ≡ state.Free
  pub asked : w ≡ asked.Known outcome
  pub hand : q ≡ hand.Medium medium
  pub cause : IsEndFault f
  pub mount : IsMountAt h d m way tape
  pub claims : claimed_items h m ≡ []
  pub truth : IsMediumOf h tape (told medium)

-- what an open ask says of a history, with the state behind it
abbrev pub FitsAsk : {M : Type 0} → (M → MediumView) → History → ℕ → State M → Asked → Ask → Hand M → Type 0
FitsAsk told h d s w (ask.Next k) q = FitsNext d s w k q
FitsAsk told h d s w (ask.Claim m) q = FitsClaim told h d s w m q
FitsAsk told h d s w (ask.Flushed m items) q = FitsFlushed told h d s w m items.items q
FitsAsk told h d s w (ask.Recalled m job) q = FitsRecalled told h d s w m job q
FitsAsk told h d s w (ask.Failed m f charged returned) q = FitsFailed told h d s w m f charged.items returned.items q
FitsAsk told h d s w (ask.End m f) q = FitsEnd told h d s w m f q
FitsAsk told h d s w _ q = ⊥

-- a session with an open ask fits a history whose site has its drive
pub record FitsOpen {M : Type 0} (told : M → MediumView) (site : Site) (h : History) (d : ℕ) (s : State M) (w : Asked) (a : Ask) (k : Hand M) : Type 0 where
  pub known : d < length site.drives.items
  pub asked : FitsAsk told h d s w a k
