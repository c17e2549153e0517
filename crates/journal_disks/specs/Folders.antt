-- The calls of a journal's folder, where it tells them.
use Rattle.std.specs.Prelude.{◌≡◌, ◌⊎◌, ℕ, List, [], ◌∷◌, ◌++◌, Option, Some, None, option_map, Result, Ok, Err, Bool, true, false, ⊤}
use Rattle.journal_disks.specs.declared.folder.FolderFault.{FolderFault}

-- a call and what it came to; true where it is Ok
pub data FolderCall : Type 0 where
  -- whether the mark is there
  Looked : Option Bool → FolderCall
  -- the mark was dropped
  Forgot : Bool → FolderCall
  -- the journal was copied to a file with a lock, which is durable
  Copied : Bool → FolderCall
  -- the copy got the journal's name
  Renamed : Bool → FolderCall
  -- a copy without that name was dropped
  Dropped : FolderCall
  -- the content of the journal's file was made durable
  SyncedFile : Bool → FolderCall
  -- the mark was made
  Marked : Bool → FolderCall
  -- the names were made durable
  SyncedNames : Bool → FolderCall

-- the calls with these newer ones, the newest first
abbrev pub after : List FolderCall → Option (List FolderCall) → Option (List FolderCall)
after calls done = option_map (λ before. calls ++ before) done

-- the calls with one more
abbrev pub after_call : FolderCall → Option (List FolderCall) → Option (List FolderCall)
after_call call done = after (call ∷ []) done

-- what a look found
abbrev pub answer_of : Result Bool FolderFault → Option Bool
answer_of (Ok there) = Some there
answer_of (Err e) = None

-- the journal's name was given to nothing but a whole copy, and no mark was made
abbrev pub IsCareful : List FolderCall → Type 0
IsCareful [] = ⊤
IsCareful (Renamed ok ∷ Copied true ∷ before) = IsCareful before
IsCareful (Renamed ok ∷ before) = ⊥
IsCareful (Marked ok ∷ before) = ⊥
IsCareful (Looked there ∷ before) = IsCareful before
IsCareful (Forgot ok ∷ before) = IsCareful before
IsCareful (Copied ok ∷ before) = IsCareful before
IsCareful (Dropped ∷ before) = IsCareful before
IsCareful (SyncedFile ok ∷ before) = IsCareful before
IsCareful (SyncedNames ok ∷ before) = IsCareful before

-- a copy was made, and where that is Ok it got the journal's name
abbrev pub IsRenewed : Option (List FolderCall) → Option (List FolderCall) → Bool → Type 0
IsRenewed old new ok = (new ≡ after (Renamed ok ∷ Copied true ∷ []) old) ⊎ ((new ≡ after_call (Copied false) old) × (ok ≡ false))

-- What makes a journal ready: where the last run ended well its mark is dropped, and where it didn't a copy gets the journal's name; then the names are made durable.
pub record IsMadeReady (old new : Option (List FolderCall)) (ok : Bool) : Type 0 where
  pub calls : List FolderCall
  pub done : new ≡ after calls old
  pub careful : IsCareful calls
  pub whole : ok ≡ true → (calls ≡ SyncedNames true ∷ Forgot true ∷ Looked (Some true) ∷ []) ⊎ (calls ≡ SyncedNames true ∷ Renamed true ∷ Copied true ∷ Looked (Some false) ∷ [])

-- the mark was made of nothing but a file that was made durable, and nothing else was done
abbrev pub IsHonest : List FolderCall → Type 0
IsHonest [] = ⊤
IsHonest (SyncedFile ok ∷ []) = ⊤
IsHonest (Marked ok ∷ SyncedFile true ∷ []) = ⊤
IsHonest (SyncedNames ok ∷ Marked true ∷ SyncedFile true ∷ []) = ⊤
IsHonest _ = ⊥

-- What says that a run ended well: of a clean one its file is made durable, then the mark is made, then the names are made durable; of another one nothing is done.
pub record IsSaid (clean : Bool) (old new : Option (List FolderCall)) (ok : Bool) : Type 0 where
  pub calls : List FolderCall
  pub done : new ≡ after calls old
  pub honest : IsHonest calls
  pub only_clean : clean ≡ false → (calls ≡ []) × (ok ≡ false)
  pub whole : ok ≡ true → calls ≡ SyncedNames true ∷ Marked true ∷ SyncedFile true ∷ []
