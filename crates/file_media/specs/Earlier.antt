-- What records of tapes a folder holds.
use Rattle.std.specs.Prelude.{ℕ, ◌≡◌, ◌<◌, ◌≤◌, ◌⊎◌, List, [], ◌∷◌, ◌++◌, length, Option, Some, None, slice_index, Vec, Contains}
use Rattle.std.specs.declared.alloc.Global.{Global}
use Rattle.cta_site.specs.declared.site.Site.{Site}
use Rattle.cta_site.specs.Lookups.{vid_of}
use Rattle.file_media.specs.Disks.{DiskCall, Listed, after_call}
use Rattle.file_media.specs.Names.{greatest_fseq, record_name}

-- one of the names is that of the record of this tape at the fSeq s, which is 1 or more
abbrev pub HoldRecord : List (List ℕ) → List ℕ → ℕ → Type 0
HoldRecord names vid s = (1 ≤ s) × (s ≤ greatest_fseq) × Contains names (record_name vid s)

-- no record of this tape among the names is behind the fSeq n, and there is one at n; where they hold none of it, n is 0
abbrev pub IsLastOf : List (List ℕ) → List ℕ → ℕ → Type 0
IsLastOf names vid n = ((s : ℕ) → HoldRecord names vid s → s ≤ n) × (1 ≤ n → HoldRecord names vid n)

-- where the old list tells of a tape the last record among some names, the new one tells the last among these and one more name
abbrev pub IsNotedBy : Site → List ℕ → List ℕ → List ℕ → Type 0
IsNotedBy site name old new = (names : List (List ℕ)) (tape : ℕ) → tape < length site.tapes.items → IsLastOf names (vid_of site tape) (slice_index old tape) → IsLastOf (names ++ name ∷ []) (vid_of site tape) (slice_index new tape)

-- the folder was listed once, and of each tape the last record that it holds is told
pub record HasListed (site : Site) (old new : Option (List DiskCall)) (last : Vec ℕ Global) : Type 0 where
  pub names : List (List ℕ)
  pub done : new ≡ after_call (Listed (Some names)) old
  pub len : length last.items ≡ length site.tapes.items
  pub told : (tape : ℕ) → tape < length site.tapes.items → IsLastOf names (vid_of site tape) (slice_index last.items tape)

-- the folder was listed as above, or its listing failed and nothing is told of any tape
abbrev pub HasListedOrFailed : Site → Option (List DiskCall) → Option (List DiskCall) → Vec ℕ Global → Type 0
HasListedOrFailed site old new last = HasListed site old new last ⊎ ((new ≡ after_call (Listed None) old) × (last.items ≡ []))
