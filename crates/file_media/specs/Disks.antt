-- The calls of a disk, where it tells them.
use Rattle.std.specs.Prelude.{ℕ, List, [], ◌∷◌, ◌++◌, Option, Some, None, option_map, Result, Ok, Err, Bool, map, Vec}
use Rattle.std.specs.declared.alloc.Global.{Global}
use Rattle.file_media.specs.declared.disk.DiskErr.{DiskErr}

-- a call and what it came to: of a file by the text of its name, and true where it is Ok
pub data DiskCall : Type 0 where
  -- whether the folder is there
  Opened : Bool → DiskCall
  -- a content, put whole and durable under a name
  Put : List ℕ → List ℕ → Bool → DiskCall
  -- a file of the first name got the second
  Renamed : List ℕ → List ℕ → Bool → DiskCall
  Removed : List ℕ → Bool → DiskCall
  -- what a file gave
  Got : List ℕ → Option (List ℕ) → DiskCall
  -- the names were made durable
  Synced : Bool → DiskCall
  -- the names that there are
  Listed : Option (List (List ℕ)) → DiskCall

-- the calls with these newer ones, the newest first
abbrev pub after : List DiskCall → Option (List DiskCall) → Option (List DiskCall)
after calls done = option_map (λ before. calls ++ before) done

-- the calls with one more
abbrev pub after_call : DiskCall → Option (List DiskCall) → Option (List DiskCall)
after_call call done = after (call ∷ []) done

-- the bytes that a read gave
abbrev pub given_bytes : Result (List ℕ) DiskErr → Option (List ℕ)
given_bytes (Ok bytes) = Some bytes
given_bytes (Err e) = None

-- the names that a listing gave
abbrev pub given_names : Result (Vec (Vec ℕ Global) Global) DiskErr → Option (List (List ℕ))
given_names (Ok names) = Some (map (λ n. n.items) names.items)
given_names (Err e) = None

-- what an answer gives, where it is Ok
abbrev pub ok_value : {T E : Type 0} → Result T E → Option T
ok_value (Ok x) = Some x
ok_value (Err e) = None
