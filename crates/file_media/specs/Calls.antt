-- What the calls of a drive do on its disk.
use Rattle.std.specs.Prelude.{ℕ, zero, suc, ◌+◌, ◌-◌, ◌≡◌, ◌≤◌, List, [], ◌∷◌, Option, Some, None, Bool, true, false, ◌&&◌, ◌⊎◌}
use Rattle.std.specs.List.{AllByRecursion}
use Rattle.file_media.specs.Disks.{DiskCall, Opened, Put, Renamed, Removed, Got, Synced, after, after_call}
use Rattle.file_media.specs.Names.{record_name, part_name}

-- the records of a tape were dropped, so many from an fSeq on, the last one first
abbrev pub removed : List ℕ → ℕ → ℕ → List DiskCall
removed vid s zero = []
removed vid s (suc k) = Removed (record_name vid s) true ∷ removed vid (suc s) k

-- a write at the fSeq s of a tape that has files up to n: the later ones are dropped, what is written is made durable under a name of no record, and then gets the record's
abbrev pub whole_write : List ℕ → ℕ → ℕ → List ℕ → List DiskCall
whole_write vid s n bytes = Renamed (part_name vid s) (record_name vid s) true ∷ Put (part_name vid s) bytes true ∷ removed vid s (n + 1 - s)

-- a call that a write at the fSeq s may make, on a tape that has files up to n
abbrev pub IsOfWrite : List ℕ → ℕ → ℕ → DiskCall → Type 0
IsOfWrite vid s n (Put name bytes ok) = name ≡ part_name vid s
IsOfWrite vid s n (Renamed from to ok) = (from ≡ part_name vid s) × (to ≡ record_name vid s)
IsOfWrite vid s n (Removed name ok) = (k : ℕ) × ((s ≤ k) × (k ≤ n) × (name ≡ record_name vid k))
IsOfWrite vid s n _ = ⊥

-- what a write does: no other calls, and all of them where it is Ok
pub record WritesRecord (vid : List ℕ) (s n : ℕ) (bytes : List ℕ) (old new : Option (List DiskCall)) (ok : Bool) : Type 0 where
  pub calls : List DiskCall
  pub done : new ≡ after calls old
  pub own : AllByRecursion (IsOfWrite vid s n) calls
  pub whole : ok ≡ true → calls ≡ whole_write vid s n bytes

-- a load of a foreign medium fails and does nothing; any other looks whether the folder is there
abbrev pub LoadsMedium : Bool → Option (List DiskCall) → Option (List DiskCall) → Bool → Type 0
LoadsMedium true old new ok = (new ≡ old) × (ok ≡ false)
LoadsMedium false old new ok = new ≡ after_call (Opened ok) old

-- a flush makes the names durable, once, and is Ok exactly where that was and nothing failed before
abbrev pub SyncsNames : Bool → Option (List DiskCall) → Option (List DiskCall) → Bool → Type 0
SyncsNames clean old new ok = (synced : Bool) × ((new ≡ after_call (Synced synced) old) × (ok ≡ (synced && clean)))

-- a read of the fSeq s, where the records up to n are safe, gives the whole file of that record, or nothing
abbrev pub ReadsRecord : List ℕ → ℕ → ℕ → Option (List DiskCall) → Option (List DiskCall) → Option (List ℕ) → Type 0
ReadsRecord vid s n old new (Some bytes) = (1 ≤ s) × (s ≤ n) × (new ≡ after_call (Got (record_name vid s) (Some bytes)) old)
ReadsRecord vid s n old new None = (new ≡ old) ⊎ (new ≡ after_call (Got (record_name vid s) None) old)

-- records are dropped, the last one first, down to the fSeq s where it is Ok
pub record RemovesFrom (vid : List ℕ) (s n : ℕ) (old new : Option (List DiskCall)) (ok : Bool) : Type 0 where
  pub calls : List DiskCall
  pub done : new ≡ after calls old
  pub own : AllByRecursion (IsOfWrite vid s n) calls
  pub whole : ok ≡ true → calls ≡ removed vid s (n + 1 - s)

-- what is put whole under a name of no record gets the record's name
pub record PutsRecord (vid : List ℕ) (s : ℕ) (bytes : List ℕ) (old new : Option (List DiskCall)) (ok : Bool) : Type 0 where
  pub calls : List DiskCall
  pub done : new ≡ after calls old
  pub own : (n : ℕ) → AllByRecursion (IsOfWrite vid s n) calls
  pub whole : ok ≡ true → calls ≡ Renamed (part_name vid s) (record_name vid s) true ∷ Put (part_name vid s) bytes true ∷ []
