-- What benches over files show.
use Rattle.std.specs.Prelude.{ℕ, ◌≡◌, ◌<◌, ◌⊎◌, Bool, true, not, if◌then◌else◌, nat_lt, unwrap_or, slice_get, is_some, Option, Some, None, Vec}
use Rattle.std.specs.declared.alloc.Global.{Global}
use Rattle.file_media.specs.declared.file_bench.FileBench.{FileBench}

-- whether a bench goes on with the records that its folder holds
abbrev pub is_resuming : {R F G : Type 0} → FileBench R F G → Bool
is_resuming b = b.resumes

-- whether the folder was listed
abbrev pub is_listed : {R F G : Type 0} → FileBench R F G → Bool
is_listed b = is_some b.earlier

-- what a listing tells of one tape
abbrev pub told_of : Option (Vec ℕ Global) → ℕ → Option ℕ
told_of None tape = None
told_of (Some last) tape = slice_get last.items tape

-- the fSeq of the last record of a tape that the listing found, 0 where it found none; None before it, where it failed, and for a number of no tape
abbrev pub found_last : {R F G : Type 0} → FileBench R F G → ℕ → Option ℕ
found_last b tape = told_of b.earlier tape

-- whether there are records up to this fSeq; where it isn't known, there may be
abbrev pub may_be_some : Option ℕ → Bool
may_be_some None = true
may_be_some (Some n) = nat_lt 0 n

-- whether the folder held records of a tape when it was listed, or may have held some
abbrev pub held_records : {R F G : Type 0} → FileBench R F G → ℕ → Bool
held_records b tape = may_be_some (found_last b tape)

-- whether drives load the medium of a tape: where the bench goes on with records, it has to know the last one, and else that there is none
abbrev pub is_loadable : {R F G : Type 0} → FileBench R F G → ℕ → Bool
is_loadable b tape = if is_resuming b then is_some (found_last b tape) else not (held_records b tape)

-- the fSeq up to which the medium of a tape begins with records: that of the last one which was found, where the bench goes on with them, and else 0
abbrev pub start_of : {R F G : Type 0} → FileBench R F G → ℕ → ℕ
start_of b tape = if is_resuming b then unwrap_or (found_last b tape) 0 else 0

-- of each of the first tapes, so many, it is known what the folder held, or of none
abbrev pub KnowsAllOrNone : {R F G : Type 0} → FileBench R F G → ℕ → Type 0
KnowsAllOrNone b count = ((tape : ℕ) → tape < count → is_some (found_last b tape) ≡ true) ⊎ ((tape : ℕ) → found_last b tape ≡ None)
