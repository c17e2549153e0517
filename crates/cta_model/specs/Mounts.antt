-- Mounts, by the number of their Next, and the items that they have claimed.
use Rattle.std.specs.Prelude.{ℕ, List, [], ◌∷◌, ◌++◌, Option, Some, None, Bool, true, false, if◌then◌else◌, ◌==◌, ◌&&◌, not, filter, map, find}
use Rattle.std.specs.List.{list_any}
use Rattle.cta_model.specs.declared.entries.Entry.{Entry}
use Rattle.cta_model.specs.declared.asks.Ask.{Ask}
use Rattle.cta_model.specs.declared.asks.Ask.TheVariants as ask
use Rattle.cta_model.specs.declared.answers.Answer.{Answer}
use Rattle.cta_model.specs.declared.answers.Answer.TheVariants as answer
use Rattle.cta_model.specs.declared.asks.Direction.{Direction}
use Rattle.cta_model.specs.declared.asks.Direction.TheVariants as direction
use Rattle.cta_model.specs.declared.asks.Fault.{Fault}
use Rattle.cta_model.specs.declared.asks.Fault.TheVariants as fault
use Rattle.cta_model.specs.declared.asks.Job.{Job}
use Rattle.cta_model.specs.declared.asks.Item.{Item}
use Rattle.cta_model.specs.declared.states.Mount.{Mount}
use Rattle.cta_model.specs.History.{History, next_number, entry_of, has_number}

-- ---- mounts

-- the mount that an ask and its answer make: only a Next that is answered Mounted makes one
abbrev pub mount_in : Ask → Answer → Option Mount
mount_in (ask.Next d) (answer.Mounted m way v) = Some (record { drive = d; direction = way; tape = v })
mount_in _ _ = None

-- the mount that an entry makes, none where there is no entry or it makes no mount
abbrev pub mount_by : Option Entry → Option Mount
mount_by None = None
mount_by (Some e) = mount_in e.ask e.answer

-- the mount of this number: what its Next was answered
abbrev pub mount_of : History → ℕ → Option Mount
mount_of h m = mount_by (entry_of h m)

-- the open mounts after the entry of this number: one more after a Next that mounts, and one less after its End
abbrev pub open_after : Ask → Answer → ℕ → List ℕ → List ℕ
open_after (ask.Next d) (answer.Mounted m way v) n before = n ∷ before
open_after (ask.End m fault) a n before = filter (λ k. not (k == m)) before
open_after _ _ n before = before

-- the open mounts: those with a Next and no End
abbrev pub open_mounts : History → List ℕ
open_mounts [] = []
open_mounts (e ∷ h) = open_after e.ask e.answer (next_number h) (open_mounts h)

-- whether a mount is open
abbrev pub is_open : History → ℕ → Bool
is_open h m = has_number m (open_mounts h)

-- the mount that an ask is about; no mount has number 0
abbrev pub asked_mount : Ask → ℕ
asked_mount (ask.Claim m) = m
asked_mount (ask.Flushed m items) = m
asked_mount (ask.Recalled m job) = m
asked_mount (ask.Failed m fault charged returned) = m
asked_mount (ask.End m fault) = m
asked_mount _ = 0

-- a number that no tape and no drive has: a site has far fewer
abbrev pub no_number : ℕ
no_number = 4294967295

-- the tape of a mount, and no tape where there is no mount
abbrev pub tape_by : Option Mount → ℕ
tape_by None = no_number
tape_by (Some m) = m.tape

-- the drive of a mount, and no drive where there is no mount
abbrev pub drive_by : Option Mount → ℕ
drive_by None = no_number
drive_by (Some m) = m.drive

-- the tape of a mount
abbrev pub tape_of_mount : History → ℕ → ℕ
tape_of_mount h m = tape_by (mount_of h m)

-- the drive of a mount
abbrev pub drive_of_mount : History → ℕ → ℕ
drive_of_mount h m = drive_by (mount_of h m)

-- whether both are archive, or both are retrieve
abbrev pub same_direction : Direction → Direction → Bool
same_direction direction.Archive direction.Archive = true
same_direction direction.Retrieve direction.Retrieve = true
same_direction direction.Archive direction.Retrieve = false
same_direction direction.Retrieve direction.Archive = false

-- whether there is a mount and it passes the test
abbrev pub is_mount : (Mount → Bool) → Option Mount → Bool
is_mount test None = false
is_mount test (Some m) = test m

-- the open mounts that pass a test
abbrev pub open_where : (Mount → Bool) → History → List ℕ
open_where test h = filter (λ m. is_mount test (mount_of h m)) (open_mounts h)

-- a tape is mounted where an open mount has it
abbrev pub is_mounted : History → ℕ → Bool
is_mounted h v = list_any (λ m. is_mount (λ (x : Mount). x.tape == v) (mount_of h m)) (open_mounts h)

-- a drive is busy where it has an open mount
abbrev pub is_busy : History → ℕ → Bool
is_busy h d = list_any (λ m. is_mount (λ (x : Mount). x.drive == d) (mount_of h m)) (open_mounts h)

-- ---- drives

-- whether a mount that ends so puts its drive down: only a load or unload fault does
abbrev pub puts_down : Option Fault → Bool
puts_down (Some fault.Load) = true
puts_down (Some fault.Unload) = true
puts_down _ = false

-- whether a drive is down after an ask: only a DriveUp or DriveDown of it, or an End of its mount, may change that
abbrev pub down_after : Ask → ℕ → ℕ → Bool → Bool
down_after (ask.DriveUp who k) d of_mount before = if k == d then false else before
down_after (ask.DriveDown who k) d of_mount before = if k == d then true else before
down_after (ask.End m f) d of_mount before = if of_mount == d && puts_down f then true else before
down_after _ d of_mount before = before

-- a drive is down after a DriveDown of it, or an End of its mount with a load or unload fault, until a DriveUp
abbrev pub is_down : History → ℕ → Bool
is_down [] d = false
is_down (e ∷ h) d = down_after e.ask d (drive_of_mount h (asked_mount e.ask)) (is_down h d)

-- ---- claims

-- two jobs are the same where their births, files and copies are
abbrev pub same_job : Job → Job → Bool
same_job a b = (a.birth == b.birth) && ((a.file == b.file) && (a.copy == b.copy))

-- whether the job is in the list
abbrev pub has_job : Job → List Job → Bool
has_job j jobs = list_any (same_job j) jobs

-- the job of this birth for a copy of a file, where copy 0 is its recall
abbrev pub job_of : ℕ → ℕ → ℕ → Job
job_of birth f c = record { birth = birth; file = f; copy = c }

-- whether the copy of the file is among these jobs, whatever their birth
abbrev pub has_copy : ℕ → ℕ → List Job → Bool
has_copy f c jobs = list_any (λ (j : Job). j.file == f && j.copy == c) jobs

-- the jobs of items
abbrev pub item_jobs : List Item → List Job
item_jobs items = map (λ (i : Item). i.job) items

-- the items whose jobs are not among these
abbrev pub without_jobs : List Job → List Item → List Item
without_jobs jobs items = filter (λ (i : Item). not (has_job i.job jobs)) items

-- the items that a mount claims after an ask: its Claim adds a batch, and its Flushed, Recalled or Failed ends the claims that it names
abbrev pub claimed_after : Ask → Answer → ℕ → List Item → List Item
claimed_after (ask.Claim k) (answer.Batch items evicted) m before = if k == m then before ++ items.items else before
claimed_after (ask.Flushed k items) a m before = if k == m then without_jobs (item_jobs items.items) before else before
claimed_after (ask.Recalled k job) a m before = if k == m then without_jobs (job ∷ []) before else before
claimed_after (ask.Failed k f charged returned) a m before = if k == m then without_jobs (charged.items ++ returned.items) before else before
claimed_after _ a m before = before

-- the items that a mount claims: those of its Claims that no later Flushed, Recalled or Failed of it names
abbrev pub claimed_items : History → ℕ → List Item
claimed_items [] m = []
claimed_items (e ∷ h) m = claimed_after e.ask e.answer m (claimed_items h m)

-- whether a mount claims a job
abbrev pub claims : History → ℕ → Job → Bool
claims h m j = has_job j (item_jobs (claimed_items h m))

-- the open mount that claims a job
abbrev pub claimer_of : History → Job → Option ℕ
claimer_of h j = find (λ m. claims h m j) (open_mounts h)

-- whether an ask is a Claim whose batch names the job
abbrev pub claim_names : Ask → Answer → Job → Bool
claim_names (ask.Claim m) (answer.Batch items evicted) j = has_job j (item_jobs items.items)
claim_names _ _ j = false

-- whether some Claim has named the job
abbrev pub was_claimed : History → Job → Bool
was_claimed h j = list_any (λ (e : Entry). claim_names e.ask e.answer j) h

-- the items of a mount's Claim that is answered with a batch, none for any other ask
abbrev pub batch_in : Ask → Answer → ℕ → Option (List Item)
batch_in (ask.Claim k) (answer.Batch items evicted) m = if k == m then Some items.items else None
batch_in _ _ m = None

-- the later batch, or the earlier one where there is no later
abbrev pub batch_or : Option (List Item) → Option (List Item) → Option (List Item)
batch_or (Some items) before = Some items
batch_or None before = before

-- the items of a mount's last Claim
abbrev pub last_batch : History → ℕ → Option (List Item)
last_batch [] m = None
last_batch (e ∷ h) m = batch_or (batch_in e.ask e.answer m) (last_batch h m)
