-- The index of paths: which file each path names, and what its calls do.
use Rattle.std.specs.Prelude.{ℕ, ◌≡◌, List, [], ◌∷◌, Option, Some, None, if◌then◌else◌, not, filter, bytes_eq}

-- a path with the file that it names
abbrev pub Names : Type 0
Names = List (List ℕ × ℕ)

-- the file that a path names
abbrev pub file_in : Names → List ℕ → Option ℕ
file_in [] path = None
file_in (x ∷ xs) path = if bytes_eq path x.0 then Some x.1 else file_in xs path

-- `add(path, file)`: the path names the file
abbrev pub add_name : List ℕ → ℕ → Names → Names
add_name path f v = (path, f) ∷ v

-- `remove(path)`: the path names nothing
abbrev pub remove_name : List ℕ → Names → Names
remove_name path v = filter (λ (x : List ℕ × ℕ). not (bytes_eq path x.0)) v

-- the indices tell the same of each path
abbrev pub NamesAgree : Names → Names → Type 0
NamesAgree v w = (path : List ℕ) → file_in v path ≡ file_in w path
