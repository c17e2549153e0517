-- Lists that are made path by path, and place by place of a request.
use Rattle.std.proofs.Common.{◌≡◌, ◌∙◌, ◌+◌, ◌<◌, ◌≤◌, ℕ, zero, suc, List, [], ◌∷◌, ◌++◌, Bool, true, false, refl, sym, ap, arith, length, take, add-one, append-nil}
use Rattle.std.specs.Prelude.{Option, Some, None, is_some, slice_get, get_or, if◌then◌else◌}
use Rattle.std.specs.List.{cons_option, filter_map}
use Rattle.std.specs.BTreeSet.{BTreeSet, Updates}
use Rattle.std.specs.Cmp.Lexicographic.{slice_cmp}
use Rattle.std.specs.Ordering.{nat_cmp}
use Rattle.std.proofs.lemmas.List.{take_all, take_more}
use denote.Ref.{Bor}
use Rattle.cta_site.proofs.Sets.{holds, holds-more}
use Rattle.cta_model.specs.declared.states.RequestFile.{RequestFile}
use Rattle.cta_model.specs.History.{has_text}
use Rattle.cta_model.specs.Stages.{StageRequest}
use Rattle.part_model.specs.Names.{Names, file_in}
use Rattle.part_laws.specs.BufferCalls.{file_where, files_where}
use Rattle.stage_book.specs.Reports.{files_of, number_of, path_of}
use Rattle.stage_book.specs.Requested.{count_of}

-- ---- a set of paths

-- one path more is known
pub path_more : (paths : List (List ℕ)) (i : ℕ) (d : List ℕ) (key : Bor (List ℕ)) (old new : BTreeSet (Bor (List ℕ))) → i < length paths → key.now ≡ get_or paths i d
    → Updates (λ x y. slice_cmp nat_cmp x.now y.now) old new key true → ((path : List ℕ) → holds old path ≡ has_text path (take i paths)) → (path : List ℕ) → holds new path ≡ has_text path (take (i + 1) paths)
path_more paths i d key old new low is updates was path =
    holds-more old new key (take i paths) updates was path
    ∙ ap (λ (p : List ℕ). has_text path (take i paths ++ p ∷ [])) is
    ∙ ap (has_text path) (sym (take_more paths i d low))

-- ---- what is taken of the file at a place

-- what is taken of a file, none where there is no file
abbrev pub taken : (RequestFile → Option ℕ) → Option RequestFile → Option ℕ
taken g None = None
taken g (Some s) = g s

taken_next : (g : RequestFile → Option ℕ) (ss : List RequestFile) (i : ℕ) → i < length ss → filter_map g (take (suc i) ss) ≡ filter_map g (take i ss) ++ cons_option (taken g (slice_get ss i)) []
taken_next g [] i low = absurd (omega arith)
taken_next g (s ∷ ss) zero low = refl
taken_next g (s ∷ ss) (suc i) low = by (g s) (taken_next g ss i (omega arith))
  where
    by : (o : Option ℕ) → filter_map g (take (suc i) ss) ≡ filter_map g (take i ss) ++ cons_option (taken g (slice_get ss i)) []
        → cons_option o (filter_map g (take (suc i) ss)) ≡ cons_option o (filter_map g (take i ss)) ++ cons_option (taken g (slice_get ss i)) []
    by None rest = rest
    by (Some f) rest = ap (λ (fs : List ℕ). f ∷ fs) rest

taken_more : (g : RequestFile → Option ℕ) (ss : List RequestFile) (i : ℕ) → i < length ss → filter_map g (take (i + 1) ss) ≡ filter_map g (take i ss) ++ cons_option (taken g (slice_get ss i)) []
taken_more g ss i low = rw add-one (taken_next g ss i low)

-- the file at the next place is taken
pub place_taken : (g : RequestFile → Option ℕ) (ss : List RequestFile) (i f : ℕ) (old new : List ℕ) → i < length ss → old ≡ filter_map g (take i ss) → taken g (slice_get ss i) ≡ Some f → new ≡ old ++ f ∷ []
    → new ≡ filter_map g (take (i + 1) ss)
place_taken g ss i f old new low was here now =
    now ∙ ap (λ (fs : List ℕ). fs ++ f ∷ []) was
    ∙ ap (λ (o : Option ℕ). filter_map g (take i ss) ++ cons_option o []) (sym here)
    ∙ sym (taken_more g ss i low)

-- nothing is taken of the file at the next place
pub place_passed : (g : RequestFile → Option ℕ) (ss : List RequestFile) (i : ℕ) (old : List ℕ) → i < length ss → old ≡ filter_map g (take i ss) → taken g (slice_get ss i) ≡ None → old ≡ filter_map g (take (i + 1) ss)
place_passed g ss i old low was here =
    was ∙ sym (append-nil (filter_map g (take i ss)))
    ∙ ap (λ (o : Option ℕ). filter_map g (take i ss) ++ cons_option o []) (sym here)
    ∙ sym (taken_more g ss i low)

-- all places are passed
pub all_taken : (g : RequestFile → Option ℕ) (ss : List RequestFile) (i : ℕ) (old : List ℕ) → length ss ≤ i → old ≡ filter_map g (take i ss) → old ≡ filter_map g ss
all_taken g ss i old all was = was ∙ ap (filter_map g) (take_all i ss all)

count_is : (o : Option StageRequest) → count_of o ≡ length (files_of o)
count_is None = refl
count_is (Some r) = refl

pub within : (o : Option StageRequest) (i : ℕ) → i < count_of o → i < length (files_of o)
within o i low = (let same : count_of o ≡ length (files_of o) = count_is o in omega arith)

pub beyond : (o : Option StageRequest) (i : ℕ) → count_of o ≤ i → length (files_of o) ≤ i
beyond o i high = (let same : count_of o ≡ length (files_of o) = count_is o in omega arith)

there : (ss : List RequestFile) (i : ℕ) → i < length ss → is_some (slice_get ss i) ≡ true
there [] i low = absurd (omega arith)
there (s ∷ ss) zero low = refl
there (s ∷ ss) (suc i) low = there ss i (omega arith)

-- ---- the file that the path at a place names

named_at : (names : Names) (o : Option RequestFile) (p : List ℕ) (r : Option ℕ) → is_some o ≡ true → p ≡ path_of o → r ≡ file_in names p → taken (λ (s : RequestFile). file_in names s.path) o ≡ r
named_at names None p r there is named = absurd (cc)
named_at names (Some s) p r there is named = sym (named ∙ ap (file_in names) is)

pub name_at : (names : Names) (o : Option StageRequest) (i : ℕ) (p : List ℕ) (r : Option ℕ) → i < count_of o → p ≡ path_of (slice_get (files_of o) i) → r ≡ file_in names p
    → taken (λ (s : RequestFile). file_in names s.path) (slice_get (files_of o) i) ≡ r
name_at names o i p r low is named = named_at names (slice_get (files_of o) i) p r (there (files_of o) i (within o i low)) is named

-- ---- the file of the request at a place whose path passes a test

passed_at : (test : List ℕ → Bool) (o : Option RequestFile) (b : Bool) → test (path_of o) ≡ b → taken (file_where test) o ≡ (if b then number_of o else None)
passed_at test None true is = refl
passed_at test None false is = refl
passed_at test (Some s) b is = ap (λ (x : Bool). if x then s.file else None) is

pub file_taken : (test : List ℕ → Bool) (o : Option RequestFile) (p : List ℕ) (r : Option ℕ) → p ≡ path_of o → test p ≡ true → r ≡ number_of o → taken (file_where test) o ≡ r
file_taken test o p r is on file = passed_at test o true (ap test (sym is) ∙ on) ∙ sym file

pub file_passed : (test : List ℕ → Bool) (o : Option RequestFile) (p : List ℕ) → p ≡ path_of o → test p ≡ false → taken (file_where test) o ≡ None
file_passed test o p is off = passed_at test o false (ap test (sym is) ∙ off)

pub any_file : (o : Option RequestFile) (r : Option ℕ) → r ≡ number_of o → taken (file_where (λ p. true)) o ≡ r
any_file o r file = passed_at (λ p. true) o true refl ∙ sym file

-- the files of a request whose paths pass a test
pub files_are : (test : List ℕ → Bool) (o : Option StageRequest) (fs : List ℕ) → fs ≡ filter_map (file_where test) (files_of o) → fs ≡ files_where test o
files_are test None fs is = is
files_are test (Some r) fs is = is

-- what a set is asked of a path, and whether the path is among those of the set
pub known_is : (result known has b : Bool) → known ≡ has → result ≡ known → result ≡ b → has ≡ b
known_is result known has b is told e = sym is ∙ sym told ∙ e
