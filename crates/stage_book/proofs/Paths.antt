-- Files of a request by path.
use Rattle.std.proofs.Common.{◌≡◌, ◌∙◌, ◌<◌, ◌+◌, ◌++◌, ◌||◌, ℕ, zero, suc, List, [], ◌∷◌, length, take, get_or, Bool, true, false, refl, sym, ap, subst, None, Some, arith}
use Rattle.std.specs.Prelude.{Option, String, if◌then◌else◌, bytes_eq, is_some, map, string_bytes, string_eq, IsUtf8}
use Rattle.std.specs.Global.{Global}
use Rattle.std.specs.List.{list_any, IsDistinct, AllByRecursion}
use Rattle.std.specs.Map.{keys_of, lookup, set_value}
use Rattle.std.proofs.lemmas.Slice.Eq.{bytes_eq-Decides}
use Rattle.std.proofs.lemmas.Str.{IsUtf8-string_bytes}
use Rattle.cta_model.specs.declared.states.RequestFile.{RequestFile}
use Rattle.cta_model.specs.declared.states.StageFile.{StageFile}
use Rattle.part_model.specs.Requests.{added_file, released_at}
use Rattle.stage_book.specs.declared.file_row.FileRow.{FileRow}
use Rattle.stage_book.specs.FileRows.{Entry, FileRows, file_of, files_in, has_bytes, new_row, released_in}
use Rattle.stage_book.specs.Places.{numbers_asked, numbers_in}
use Rattle.stage_book.specs.Requested.{ArePathsApart, has_path}
use Rattle.stage_book.proofs.Lists.{clash, or_right}

same_bytes : (p q : List ℕ) → bytes_eq p q ≡ true → p ≡ q
same_bytes p q e = (bytes_eq-Decides p q).0 e

-- a file of a path that is released
pub released_files : (path : List ℕ) (es : FileRows) → files_in (released_in path es) ≡ map (released_at path) (files_in es)
released_files path [] = refl
released_files path (e ∷ es) = (λ i. one (has_bytes path e.0) i ∷ released_files path es i)
  where
    one : (b : Bool) → file_of (if b then (e.0, record e.1 { released = true }) else e) ≡ (if b then record (file_of e) { released = true } else file_of e)
    one true = refl
    one false = refl

-- keeps its number
pub released_numbers : (path : List ℕ) (es : FileRows) → numbers_in (files_in es) ≡ numbers_in (files_in (released_in path es))
released_numbers path [] = refl
released_numbers path (e ∷ es) = (λ i. one (has_bytes path e.0) i ∷ released_numbers path es i)
  where
    one : (b : Bool) → e.1.file ≡ (if b then (e.0, record e.1 { released = true }) else e).1.file
    one true = refl
    one false = refl

-- nothing is released where no path has these bytes
pub none_released : (path : List ℕ) (es : FileRows) → lookup (has_bytes path) es ≡ None → es ≡ released_in path es
none_released path [] none = refl
none_released path (e ∷ es) none = by (has_bytes path e.0) refl none (none_released path es)
  where
    by : (b : Bool) → has_bytes path e.0 ≡ b → (if b then Some e.1 else lookup (has_bytes path) es) ≡ None → (lookup (has_bytes path) es ≡ None → es ≡ released_in path es) → e ∷ es ≡ released_in path (e ∷ es)
    by true k n rest = absurd (cc)
    by false k n rest = (λ i. (if sym k i then (e.0, record e.1 { released = true }) else e) ∷ rest n i)

-- bytes that are not a text are no path
pub no_text : (path : List ℕ) (es : FileRows) → (IsUtf8 path → ⊥) → lookup (has_bytes path) es ≡ None
no_text path [] odd = refl
no_text path (e ∷ es) odd = by (has_bytes path e.0) refl (no_text path es odd)
  where
    by : (b : Bool) → has_bytes path e.0 ≡ b → lookup (has_bytes path) es ≡ None → (if b then Some e.1 else lookup (has_bytes path) es) ≡ None
    by true k rest = absurd (odd (subst IsUtf8 (sym (same_bytes path (string_bytes e.0) k)) (IsUtf8-string_bytes e.0)))
    by false k rest = rest

apart_stay : (path : List ℕ) (k : String Global) (es : FileRows) → has_bytes path k ≡ true → AllByRecursion (λ y. string_eq k y ≡ false) (keys_of es) → es ≡ released_in path es
apart_stay path k [] here apart = refl
apart_stay path k (e ∷ es) here apart =
    (let other : has_bytes path e.0 ≡ false = ap (λ (p : List ℕ). bytes_eq p (string_bytes e.0)) (same_bytes path (string_bytes k) here) ∙ apart.0 in
    (λ i. (if sym other i then (e.0, record e.1 { released = true }) else e) ∷ apart_stay path k es here apart.1 i))

-- the file of a path is released where its row is written so, since no path is there twice
pub write_releases : (path : List ℕ) (es : FileRows) (old : FileRow) → IsDistinct string_eq (keys_of es) → lookup (has_bytes path) es ≡ Some old → set_value (has_bytes path) es (record old { released = true }) ≡ released_in path es
unfolding IsDistinct
write_releases path [] old apart here = absurd (cc)
write_releases path (e ∷ es) old apart here = by (has_bytes path e.0) refl here (write_releases path es old apart.1)
  where
    by : (b : Bool) → has_bytes path e.0 ≡ b → (if b then Some e.1 else lookup (has_bytes path) es) ≡ Some old
        → (lookup (has_bytes path) es ≡ Some old → set_value (has_bytes path) es (record old { released = true }) ≡ released_in path es)
        → (if b then (e.0, record old { released = true }) ∷ es else e ∷ set_value (has_bytes path) es (record old { released = true })) ≡ (if b then (e.0, record e.1 { released = true }) else e) ∷ released_in path es
    by true k h rest = (let same : e.1 ≡ old = cc in (λ i. (e.0, record (sym same i) { released = true }) ∷ apart_stay path e.0 es k apart.0 i))
    by false k h rest = ap (λ (xs : FileRows). e ∷ xs) (rest h)

-- a path is looked up where a file has it
pub path_known : (path : List ℕ) (es : FileRows) → is_some (lookup (has_bytes path) es) ≡ list_any (λ (s : RequestFile). bytes_eq path s.path) (files_in es)
path_known path [] = refl
path_known path (e ∷ es) = by (has_bytes path e.0) (path_known path es)
  where
    by : (b : Bool) → is_some (lookup (has_bytes path) es) ≡ list_any (λ (s : RequestFile). bytes_eq path s.path) (files_in es)
        → is_some (if b then Some e.1 else lookup (has_bytes path) es) ≡ (b || list_any (λ (s : RequestFile). bytes_eq path s.path) (files_in es))
    by true h = refl
    by false h = h

-- ---- a new request

-- the files of a request as it is made
abbrev pub added : ℕ → List StageFile → List RequestFile
added at files = map (λ (s : StageFile). added_file at s s.file) files

added_path : (at : ℕ) (s : StageFile) (o : Option ℕ) → (added_file at s o).path ≡ s.path
added_path at s None = refl
added_path at s (Some f) = refl

paths_added : (at : ℕ) (path : List ℕ) (files : List StageFile) → list_any (λ (s : RequestFile). bytes_eq path s.path) (added at files) ≡ has_path path files
paths_added at path [] = refl
paths_added at path (s ∷ ss) = (λ i. bytes_eq path (added_path at s s.file i) || paths_added at path ss i)

has_itself : (files : List StageFile) (n : ℕ) (d : StageFile) → n < length files → has_path (get_or files n d).path files ≡ true
has_itself [] n d h = absurd (omega arith)
has_itself (s ∷ ss) zero d h = ap (λ (b : Bool). b || has_path s.path ss) ((bytes_eq-Decides s.path s.path).1 refl)
has_itself (s ∷ ss) (suc n) d h = or_right (bytes_eq (get_or ss n d).path s.path) _ (has_itself ss n d (omega arith))

-- no file before a place has its path
unused : (files : List StageFile) (n : ℕ) (d : StageFile) → n < length files → ArePathsApart files → has_path (get_or files n d).path (take n files) ≡ false
unused [] n d h apart = absurd (omega arith)
unused (s ∷ ss) zero d h apart = refl
unused (s ∷ ss) (suc n) d h apart = by (bytes_eq (get_or ss n d).path s.path) refl (unused ss n d (omega arith) apart.1)
  where
    by : (b : Bool) → bytes_eq (get_or ss n d).path s.path ≡ b → has_path (get_or ss n d).path (take n ss) ≡ false → (bytes_eq (get_or ss n d).path s.path || has_path (get_or ss n d).path (take n ss)) ≡ false
    by true k rest = absurd (clash (has_itself ss n d (omega (arith, h))) (ap (λ (p : List ℕ). has_path p ss) (same_bytes (get_or ss n d).path s.path k) ∙ apart.0))
    by false k rest = ap (λ (b : Bool). b || has_path (get_or ss n d).path (take n ss)) k ∙ rest

none_there : {A : Type 0} (o : Option A) → is_some o ≡ false → o ≡ None
none_there None e = refl
none_there (Some x) e = absurd (cc)

-- a path that comes next has no row yet
pub next_new : (at : ℕ) (path : List ℕ) (files : List StageFile) (n : ℕ) (d : StageFile) (es : FileRows) → n < length files → ArePathsApart files → path ≡ (get_or files n d).path → files_in es ≡ added at (take n files) → lookup (has_bytes path) es ≡ None
next_new at path files n d es low apart is made =
    none_there (lookup (has_bytes path) es)
    (path_known path es ∙ ap (λ (fs : List RequestFile). list_any (λ (s : RequestFile). bytes_eq path s.path) fs) made ∙ paths_added at path (take n files)
    ∙ ap (λ (p : List ℕ). has_path p (take n files)) is ∙ unused files n d low apart)

new_is : (at : ℕ) (k : String Global) (o : Option ℕ) (path : List ℕ) (lifetime : ℕ) → string_bytes k ≡ path → file_of (k, new_row at o lifetime) ≡ added_file at (record { path = path; file = o; lifetime = lifetime }) o
new_is at k None path lifetime e = (λ i. record (file_of (k, new_row at None lifetime)) { path = e i })
new_is at k (Some f) path lifetime e = (λ i. record (file_of (k, new_row at (Some f) lifetime)) { path = e i })

files_last : (es : FileRows) (e : Entry) → files_in (es ++ e ∷ []) ≡ files_in es ++ file_of e ∷ []
files_last [] e = refl
files_last (x ∷ xs) e = ap (λ (fs : List RequestFile). file_of x ∷ fs) (files_last xs e)

added_more : (at : ℕ) (files : List StageFile) (n : ℕ) (d : StageFile) → n < length files → added at (take n files) ++ added_file at (get_or files n d) (get_or files n d).file ∷ [] ≡ added at (take (n + 1) files)
added_more at files n d low = more files n low ∙ ap (λ (m : ℕ). added at (take m files)) next
  where
    next : suc n ≡ n + 1
    next = omega arith

    more : (ss : List StageFile) (m : ℕ) → m < length ss → added at (take m ss) ++ added_file at (get_or ss m d) (get_or ss m d).file ∷ [] ≡ added at (take (suc m) ss)
    more [] m h = absurd (omega arith)
    more (s ∷ ss) zero h = refl
    more (s ∷ ss) (suc m) h = ap (λ (fs : List RequestFile). added_file at s s.file ∷ fs) (more ss m (omega arith))

-- the row of the file that comes next is behind the others
pub rows_more : (at : ℕ) (k : String Global) (row : FileRow) (files : List StageFile) (n : ℕ) (d : StageFile) (es new : FileRows) → n < length files → string_bytes k ≡ (get_or files n d).path → row ≡ new_row at (get_or files n d).file (get_or files n d).lifetime
    → new ≡ es ++ (k, row) ∷ [] → files_in es ≡ added at (take n files) → files_in new ≡ added at (take (n + 1) files)
rows_more at k row files n d es new low is its ends made =
    ap files_in ends ∙ files_last es (k, row)
    ∙ (λ i. made i ++ (ap (λ (r : FileRow). file_of (k, r)) its ∙ new_is at k (get_or files n d).file (get_or files n d).path (get_or files n d).lifetime is) i ∷ [])
    ∙ added_more at files n d low

added_number : (at : ℕ) (s : StageFile) (o : Option ℕ) → (added_file at s o).file ≡ s.file
added_number at s None = refl
added_number at s (Some f) = refl

-- a request has the files that it is asked for
pub numbers_added : (at : ℕ) (files : List StageFile) → numbers_in (added at files) ≡ numbers_asked files
numbers_added at [] = refl
numbers_added at (s ∷ ss) = (λ i. added_number at s s.file i ∷ numbers_added at ss i)
