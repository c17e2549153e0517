-- What the book of stage requests and the buffer tell of a request.
use Rattle.std.proofs.Common.{◌≡◌, ◌∙◌, ◌+◌, ◌<◌, ◌≤◌, ℕ, zero, suc, List, [], ◌∷◌, ◌++◌, Bool, refl, sym, ap, arith, length, take, add-one, get_or}
use Rattle.std.specs.Prelude.{Option, Some, None, Result, Ok, Err, IfOk, ◌||◌, bytes_eq, is_some, map, option_map, slice_get}
use Rattle.std.specs.List.{list_all, list_any}
use Rattle.std.proofs.lemmas.List.{take_all}
use Rattle.cta_site.specs.declared.site.Site.{Site}
use Rattle.cta_model.specs.declared.answers.Answer.{Answer}
use Rattle.cta_model.specs.declared.answers.Answer.TheVariants as answer
use Rattle.cta_model.specs.declared.reports.StageFileInfo.{StageFileInfo}
use Rattle.cta_model.specs.declared.reports.StageInfo.{StageInfo}
use Rattle.cta_model.specs.declared.states.RequestFile.{RequestFile}
use Rattle.cta_model.specs.History.{History, has_text}
use Rattle.cta_model.specs.Looks.{stage_info_by}
use Rattle.cta_model.specs.Reports.{stage_report}
use Rattle.cta_model.specs.Stages.{StageRequest, request_of}
use Rattle.part_model.specs.Held.{Held}
use Rattle.part_model.specs.Requests.{has_path_by, has_path_in, request_in}
use Rattle.part_laws.specs.Told.{file_told, is_held_by, stage_told}
use Rattle.part_laws.proofs.Together.{all_same, parts_tell_requests}
use Rattle.stage_book.specs.Reports as book
use Rattle.stage_book.specs.Reports.{bare_info, files_of, number_of}
use Rattle.archive_parts.specs.PartsKept.{ArePartsKept, values_of}
use Rattle.archive_parts.specs.declared.parts.ArchiveParts.{ArchiveParts}
use Rattle.archive_state.specs.Requests.{info_told, marked, paths_of}

-- ---- whether there is a request, and its paths

pub known_now : (site : Site) (h : History) (p : ArchiveParts) (id : ℕ) → ArePartsKept site h p → is_some (request_in p.requests id) ≡ is_some (request_of site h id)
known_now site h p id kept = ap is_some (kept.stand.space.requests id)

path_listed : (p : List ℕ) (ss : List RequestFile) → list_any (λ (s : RequestFile). bytes_eq p s.path) ss ≡ has_text p (map (λ (s : RequestFile). s.path) ss)
path_listed p [] = refl
path_listed p (s ∷ ss) = ap (λ (b : Bool). bytes_eq p s.path || b) (path_listed p ss)

path_had : (p : List ℕ) (o : Option StageRequest) → has_path_by p o ≡ has_text p (paths_of o)
path_had p None = refl
path_had p (Some r) = path_listed p r.files

-- the paths that a request has
pub paths_now : (site : Site) (h : History) (p : ArchiveParts) (id : ℕ) (paths : List (List ℕ)) → ArePartsKept site h p
    → list_all (λ (x : List ℕ). has_path_in p.requests id x) paths ≡ list_all (λ (x : List ℕ). has_text x (paths_of (request_of site h id))) paths
paths_now site h p id paths kept =
    all_same (λ (x : List ℕ). has_path_in p.requests id x) (λ (x : List ℕ). has_text x (paths_of (request_of site h id))) paths
    (λ x. ap (has_path_by x) (kept.stand.space.requests id) ∙ path_had x (request_of site h id))

-- ---- the report of a request

-- whether the file that is told of at a place is in the buffer
marked_next : (b : Held) (ss : List RequestFile) (i : ℕ) (d : StageFileInfo) → i < length (map book.file_told ss)
    → map (file_told b) (take (suc i) ss) ≡ map (file_told b) (take i ss) ++ marked (get_or (map book.file_told ss) i d) (is_held_by b (number_of (slice_get ss i))) ∷ []
marked_next b [] i d low = absurd (omega arith)
marked_next b (s ∷ ss) zero d low = refl
marked_next b (s ∷ ss) (suc i) d low = ap (λ (xs : List StageFileInfo). file_told b s ∷ xs) (marked_next b ss i d (omega arith))

-- what is told of the files before a place, and of the one at the place
pub marked_more : (b : Held) (ss : List RequestFile) (told : List StageFileInfo) (i : ℕ) (d info : StageFileInfo) (on : Bool) (old new : List StageFileInfo) → told ≡ map book.file_told ss → i < length told
    → on ≡ is_held_by b (number_of (slice_get ss i)) → info ≡ marked (get_or told i d) on → old ≡ map (file_told b) (take i ss) → new ≡ old ++ info ∷ [] → new ≡ map (file_told b) (take (i + 1) ss)
marked_more b ss told i d info on old new is low held made was added =
    let there : i < length (map book.file_told ss) = rw (← is) low in
    added
    ∙ ap (λ (xs : List StageFileInfo). xs ++ info ∷ []) was
    ∙ ap (λ (x : StageFileInfo). map (file_told b) (take i ss) ++ x ∷ [])
    (made ∙ ap (λ (xs : List StageFileInfo). marked (get_or xs i d) on) is ∙ ap (marked (get_or (map book.file_told ss) i d)) held)
    ∙ rw add-one (sym (marked_next b ss i d there))

told_length : (ss : List RequestFile) → length (map book.file_told ss) ≡ length ss
told_length [] = refl
told_length (s ∷ ss) = ap suc (told_length ss)

-- all places are told
pub marked_all : (b : Held) (ss : List RequestFile) (told : List StageFileInfo) (i : ℕ) (made : List StageFileInfo) → told ≡ map book.file_told ss → length told ≤ i → made ≡ map (file_told b) (take i ss) → made ≡ map (file_told b) ss
marked_all b ss told i made is all was =
    let many : length told ≡ length ss = ap length is ∙ told_length ss in
    was ∙ ap (map (file_told b)) (take_all i ss (omega (arith, all, many)))

-- the files of the request that the book tells of
pub told_files : (id : ℕ) (o : Option StageRequest) (info : StageInfo) → Some (bare_info info) ≡ option_map (book.request_told id) o → info.files.items ≡ map book.file_told (files_of o)
told_files id None info is = absurd (cc)
told_files id (Some r) info is = (let same : bare_info info ≡ book.request_told id r = cc in ap (λ (x : StageInfo). x.files.items) same)

seen : Answer → Option StageInfo
seen (answer.Stage info) = Some info
seen _ = None

seen_by : (h : History) (id : ℕ) (o : Option StageRequest) → seen (stage_info_by h id o) ≡ option_map (stage_report h id) o
unfolding seen
seen_by h id None = refl
seen_by h id (Some r) = refl

seen_told : (b : Held) (id : ℕ) (o : Option StageRequest) → seen (stage_told b id o) ≡ option_map (info_told b id) o
unfolding seen
seen_told b id None = refl
seen_told b id (Some r) = refl

-- what the book and the buffer tell of a request
pub report_now : (site : Site) (h : History) (p : ArchiveParts) (id : ℕ) → ArePartsKept site h p → option_map (info_told p.buffer.held.value id) (request_in p.requests id) ≡ option_map (stage_report h id) (request_of site h id)
report_now site h p id kept =
    sym (seen_told p.buffer.held.value id (request_in p.requests id))
    ∙ ap seen (sym ((parts_tell_requests site h (values_of p).space 0 id kept.stand.space).look))
    ∙ seen_by h id (request_of site h id)

pub report_ok : {E : Type 0} (r : Result (Option StageInfo) E) (x y : Option StageInfo) → IfOk r (λ o. option_map bare_info o ≡ x) → x ≡ y → IfOk r (λ o. option_map bare_info o ≡ y)
report_ok (Ok o) x y is same = is ∙ same
report_ok (Err e) x y is same = tt
