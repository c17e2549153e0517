-- The files of a request, in their order and by path.
use Rattle.std.specs.Prelude.{ℕ, zero, suc, List, [], ◌∷◌, Option, Some, None, Bool, true, false, if◌then◌else◌, bytes_eq, codes, map, String, string_bytes}
use Rattle.std.specs.Global.{Global}
use Rattle.cta_model.specs.declared.reports.FileState.{FileState}
use Rattle.cta_model.specs.declared.reports.FileState.TheVariants as file
use Rattle.cta_model.specs.declared.states.RequestFile.{RequestFile}
use Rattle.cta_model.specs.Stages.{first_start}
use Rattle.part_model.specs.declared.space.FileEnd.{FileEnd}
use Rattle.part_model.specs.declared.space.FileEnd.TheVariants as end
use Rattle.stage_book.specs.declared.file_row.FileRow.{FileRow}

-- a path and its file
abbrev pub Entry : Type 0
Entry = String Global × FileRow

-- paths and their files, in their order
abbrev pub FileRows : Type 0
FileRows = List Entry

-- a file of a request
abbrev pub file_of : Entry → RequestFile
file_of e = record { path = string_bytes e.0; file = e.1.file; lifetime = e.1.lifetime; state = e.1.state; started = e.1.started; finished = e.1.finished; error = e.1.error; released = e.1.released }

-- the files of a request
abbrev pub files_in : FileRows → List RequestFile
files_in es = map file_of es

-- ---- one file

-- whether a file in this state waits
abbrev pub waits : FileState → Bool
waits file.Submitted = true
waits file.Started = true
waits _ = false

-- a file as its request is made at a moment: SUBMITTED, or FAILED at once where its path named no file
abbrev pub new_row : ℕ → Option ℕ → ℕ → FileRow
new_row at None lifetime = record { file = None; lifetime = lifetime; state = file.Failed; started = None; finished = Some at; error = Some (codes "no such file"); released = false }
new_row at (Some f) lifetime = record { file = Some f; lifetime = lifetime; state = file.Submitted; started = None; finished = None; error = None; released = false }

-- a file that is STARTED where it waits
abbrev pub started_at : ℕ → FileRow → FileRow
started_at at r = if waits r.state then record r { state = file.Started; started = first_start r.started at } else r

-- the state of a file that ends so
abbrev pub end_state : FileEnd → FileState
end_state end.Completed = file.Completed
end_state end.Cancelled = file.Cancelled
end_state (end.Failed text) = file.Failed

-- the error of a file that ends so
abbrev pub end_error : FileEnd → Option (List ℕ)
end_error end.Completed = None
end_error end.Cancelled = None
end_error (end.Failed text) = Some text

-- a file that ends so where it waits
abbrev pub ended_at : ℕ → FileEnd → FileRow → FileRow
ended_at at how r = if waits r.state then record r { state = end_state how; finished = Some at; error = end_error how } else r

-- ---- all files

-- the files with the one at a place turned
abbrev pub turned_there : (FileRow → FileRow) → ℕ → FileRows → FileRows
turned_there turn n [] = []
turned_there turn zero (e ∷ es) = (e.0, turn e.1) ∷ es
turned_there turn (suc n) (e ∷ es) = e ∷ turned_there turn n es

-- whether a path has these bytes
abbrev pub has_bytes : List ℕ → String Global → Bool
has_bytes path k = bytes_eq path (string_bytes k)

-- an entry whose file is released where it has this path
abbrev pub released_entry : List ℕ → Entry → Entry
released_entry path e = if has_bytes path e.0 then (e.0, record e.1 { released = true }) else e

-- the files with the one of a path released
abbrev pub released_in : List ℕ → FileRows → FileRows
released_in path es = map (released_entry path) es
