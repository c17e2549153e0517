-- Calls in turn over the book of stage requests, told for one request, and for one of its files.
use Rattle.std.proofs.Common.{◌≡◌, ℕ, inl, inr, List, [], ◌∷◌, Bool, true, false, ◌||◌, not, refl, sym, ◌∙◌, ap, subst}
use Rattle.std.specs.Prelude.{Option, Some, None, is_some, option_map, if◌then◌else◌, ◌==◌, ◌&&◌, filter, map, bytes_eq}
use Rattle.std.specs.List.{list_any}
use Rattle.std.proofs.lemmas.Bool.{eqb-true, eq-eqb}
use Rattle.std.proofs.lemmas.List.Folds.{list_any-append}
use Rattle.cta_site.specs.declared.site.Site.{Site}
use Rattle.cta_model.specs.declared.reports.FileState.{FileState}
use Rattle.cta_model.specs.declared.reports.FileState.TheVariants as file
use Rattle.cta_model.specs.declared.states.RequestFile.{RequestFile}
use Rattle.cta_model.specs.History.{History, has_number, has_text, is_number}
use Rattle.cta_model.specs.Recalls.{live_recall}
use Rattle.cta_model.specs.RepackItems.{waiting_for}
use Rattle.cta_model.specs.Stages.{StageRequest, first_start, started}
use Rattle.cta_laws.specs.Stages.{waits}
use Rattle.cta_laws.proofs.Tests.{bool_cases}
use Rattle.cta_laws.proofs.Bools.{and_none, eq_flip, turned}
use Rattle.cta_laws.proofs.Paths.{bytes_flip}
use Rattle.cta_laws.proofs.WaitLists.{number_kept}
use Rattle.part_model.specs.declared.space.FileEnd.{FileEnd}
use Rattle.part_model.specs.declared.space.FileEnd.TheVariants as end
use Rattle.part_model.specs.Requests.{Requests, ended_file, finish, finish_all, release, release_all, released_at, remove_request, request_in, start, start_all, turn_request, turned_file, where_waiting}
use Rattle.part_laws.specs.BookCalls.{asked_by, waiters, waiters_of}

-- ---- one call, told for one request

-- a request with each of its files turned
abbrev pub with_files : (RequestFile → RequestFile) → StageRequest → StageRequest
with_files turn r = record { at = r.at; files = map turn r.files }

pub turned_is : (id k : ℕ) (turn : RequestFile → RequestFile) (v : Requests) → request_in (turn_request id turn v) k ≡ (if id == k then option_map (with_files turn) (request_in v k) else request_in v k)
turned_is id k turn [] = either (id == k)
  where
    either : (b : Bool) → ◌≡◌ {A = Option StageRequest} None (if b then option_map (with_files turn) None else None)
    either true = refl
    either false = refl
turned_is id k turn (x ∷ xs) = by (x.0 == id) refl (x.0 == k) refl (turned_is id k turn xs)
  where
    by : (a : Bool) → (x.0 == id) ≡ a → (b : Bool) → (x.0 == k) ≡ b → request_in (turn_request id turn xs) k ≡ (if id == k then option_map (with_files turn) (request_in xs k) else request_in xs k)
        → request_in ((if a then (x.0, with_files turn x.1) else x) ∷ turn_request id turn xs) k ≡ (if id == k then option_map (with_files turn) (if b then Some x.1 else request_in xs k) else (if b then Some x.1 else request_in xs k))
    by true ea true eb rest = (let same : (id == k) ≡ true = subst (λ (n : ℕ). (n == k) ≡ true) (eqb-true _ _ ea) eb in rw (eb, same) refl)
    by true ea false eb rest = rw eb rest
    by false ea true eb rest = (let other : (id == k) ≡ false = subst (λ (n : ℕ). (id == n) ≡ false) (eqb-true _ _ eb) (turned x.0 id ea) in rw (eb, other) refl)
    by false ea false eb rest = rw eb rest

pub removed_is : (id k : ℕ) (v : Requests) → request_in (remove_request id v) k ≡ (if id == k then None else request_in v k)
removed_is id k [] = either (id == k)
  where
    either : (b : Bool) → ◌≡◌ {A = Option StageRequest} None (if b then None else None)
    either true = refl
    either false = refl
removed_is id k (x ∷ xs) = by (x.0 == id) refl (x.0 == k) refl (removed_is id k xs)
  where
    by : (a : Bool) → (x.0 == id) ≡ a → (b : Bool) → (x.0 == k) ≡ b → request_in (remove_request id xs) k ≡ (if id == k then None else request_in xs k) → request_in (if not a then x ∷ remove_request id xs else remove_request id xs) k ≡ (if id == k then None else (if b then Some x.1 else request_in xs k))
    by true ea true eb rest = (let same : (id == k) ≡ true = subst (λ (n : ℕ). (n == k) ≡ true) (eqb-true _ _ ea) eb in rw same (rw same at rest))
    by true ea false eb rest = rest
    by false ea true eb rest = (let other : (id == k) ≡ false = subst (λ (n : ℕ). (id == n) ≡ false) (eqb-true _ _ eb) (turned x.0 id ea) in rw (eb, other) refl)
    by false ea false eb rest = rw eb rest

-- ---- calls in turn, told for one request

-- a file of the request of this number after calls for these requests and files
abbrev pub all_turned : (ℕ → RequestFile → RequestFile) → ℕ → List (ℕ × ℕ) → RequestFile → RequestFile
all_turned turn k [] s = s
all_turned turn k (x ∷ xs) s = all_turned turn k xs (if x.0 == k then turned_file x.1 (turn x.1) s else s)

map_same : (p q : RequestFile → RequestFile) (ss : List RequestFile) → ((s : RequestFile) → p s ≡ q s) → map p ss ≡ map q ss
map_same p q [] same = refl
map_same p q (s ∷ ss) same = rw (same s, map_same p q ss same) refl

map_twice : (p q : RequestFile → RequestFile) (ss : List RequestFile) → map p (map q ss) ≡ map (λ s. p (q s)) ss
map_twice p q [] = refl
map_twice p q (s ∷ ss) = ap (λ (xs : List RequestFile). p (q s) ∷ xs) (map_twice p q ss)

pub with_same : (p q : RequestFile → RequestFile) (o : Option StageRequest) → ((s : RequestFile) → p s ≡ q s) → option_map (with_files p) o ≡ option_map (with_files q) o
with_same p q None same = refl
with_same p q (Some r) same = ap (λ (ss : List RequestFile). Some (record { at = r.at; files = ss })) (map_same p q r.files same)

pub with_twice : (p q : RequestFile → RequestFile) (o : Option StageRequest) → option_map (with_files p) (option_map (with_files q) o) ≡ option_map (with_files (λ s. p (q s))) o
with_twice p q None = refl
with_twice p q (Some r) = ap (λ (ss : List RequestFile). Some (record { at = r.at; files = ss })) (map_twice p q r.files)

pub with_none : (o : Option StageRequest) → option_map (with_files (λ s. s)) o ≡ o
with_none None = refl
with_none (Some r) = ap (λ (ss : List RequestFile). Some (record { at = r.at; files = ss })) (same r.files)
  where
    same : (ss : List RequestFile) → map (λ (s : RequestFile). s) ss ≡ ss
    same [] = refl
    same (s ∷ ss) = ap (λ (xs : List RequestFile). s ∷ xs) (same ss)

-- one call and more
turn_more : (turn : ℕ → RequestFile → RequestFile) (k : ℕ) (x : ℕ × ℕ) (xs : List (ℕ × ℕ)) (o : Option StageRequest) → option_map (with_files (all_turned turn k xs)) (if x.0 == k then option_map (with_files (turned_file x.1 (turn x.1))) o else o) ≡ option_map (with_files (all_turned turn k (x ∷ xs))) o
turn_more turn k x xs o = by (x.0 == k)
  where
    by : (b : Bool) → option_map (with_files (all_turned turn k xs)) (if b then option_map (with_files (turned_file x.1 (turn x.1))) o else o) ≡ option_map (with_files (λ s. all_turned turn k xs (if b then turned_file x.1 (turn x.1) s else s))) o
    by true = with_twice (all_turned turn k xs) (turned_file x.1 (turn x.1)) o
    by false = refl

pub started_are : (at k : ℕ) (xs : List (ℕ × ℕ)) (v : Requests) → request_in (start_all at xs v) k ≡ option_map (with_files (all_turned (λ f s. started s at) k xs)) (request_in v k)
started_are at k [] v = sym (with_none (request_in v k))
started_are at k (x ∷ xs) v = started_are at k xs (start x.0 x.1 at v) ∙ ap (option_map (with_files (all_turned (λ f s. started s at) k xs))) (turned_is x.0 k (turned_file x.1 (λ s. started s at)) v) ∙ turn_more (λ f s. started s at) k x xs (request_in v k)

pub finished_are : (at k : ℕ) (how : ℕ → FileEnd) (xs : List (ℕ × ℕ)) (v : Requests) → request_in (finish_all at how xs v) k ≡ option_map (with_files (all_turned (λ f. ended_file at (how f)) k xs)) (request_in v k)
finished_are at k how [] v = sym (with_none (request_in v k))
finished_are at k how (x ∷ xs) v = finished_are at k how xs (finish x.0 x.1 at (how x.1) v) ∙ ap (option_map (with_files (all_turned (λ f. ended_file at (how f)) k xs))) (turned_is x.0 k (turned_file x.1 (ended_file at (how x.1))) v) ∙ turn_more (λ f. ended_file at (how f)) k x xs (request_in v k)

-- ---- releases

released_more : (path : List ℕ) (paths : List (List ℕ)) (s : RequestFile) → (if has_text s.path paths then record (released_at path s) { released = true } else released_at path s) ≡ (if bytes_eq path s.path || has_text s.path paths then record s { released = true } else s)
released_more path paths s = by (bytes_eq path s.path) (has_text s.path paths)
  where
    by : (a b : Bool) → (if b then record (if a then record s { released = true } else s) { released = true } else (if a then record s { released = true } else s)) ≡ (if a || b then record s { released = true } else s)
    by true true = refl
    by true false = refl
    by false true = refl
    by false false = refl

-- a file that is released where its path is listed
abbrev pub released_in : List (List ℕ) → RequestFile → RequestFile
released_in paths s = if has_text s.path paths then record s { released = true } else s

released_first : (path : List ℕ) (paths : List (List ℕ)) (s : RequestFile) → released_in paths (released_at path s) ≡ (if bytes_eq path s.path || has_text s.path paths then record s { released = true } else s)
released_first path paths s = ap (λ (p : List ℕ). if has_text p paths then record (released_at path s) { released = true } else released_at path s) (same (bytes_eq path s.path)) ∙ released_more path paths s
  where
    same : (b : Bool) → RequestFile.path (if b then record s { released = true } else s) ≡ s.path
    same true = refl
    same false = refl

pub released_are : (id k : ℕ) (paths : List (List ℕ)) (v : Requests) → request_in (release_all id paths v) k ≡ (if id == k then option_map (with_files (released_in paths)) (request_in v k) else request_in v k)
released_are id k [] v = by (id == k)
  where
    by : (b : Bool) → request_in v k ≡ (if b then option_map (with_files (released_in [])) (request_in v k) else request_in v k)
    by true = sym (with_none (request_in v k))
    by false = refl
released_are id k (p ∷ ps) v =
    released_are id k ps (release id p v)
    ∙ ap (λ (o : Option StageRequest). if id == k then option_map (with_files (released_in ps)) o else o) (turned_is id k (released_at p) v)
    ∙ by (id == k)
  where
    by : (b : Bool) → (if b then option_map (with_files (released_in ps)) (if b then option_map (with_files (released_at p)) (request_in v k) else request_in v k) else (if b then option_map (with_files (released_at p)) (request_in v k) else request_in v k)) ≡ (if b then option_map (with_files (released_in (p ∷ ps))) (request_in v k) else request_in v k)
    by true =
        with_twice (released_in ps) (released_at p) (request_in v k)
        ∙ with_same (λ s. released_in ps (released_at p s)) (released_in (p ∷ ps)) (request_in v k) (λ s. released_first p ps s ∙ ap (λ (b : Bool). if b || has_text s.path ps then record s { released = true } else s) (bytes_flip p s.path))
    by false = refl

-- ---- calls in turn, told for one file

-- whether a call is made for this request and file
abbrev pub has_call : ℕ → ℕ → List (ℕ × ℕ) → Bool
has_call k f xs = list_any (λ (x : ℕ × ℕ). x.0 == k && x.1 == f) xs

-- a second call changes nothing
pub record IsSettled (turn : ℕ → RequestFile → RequestFile) : Type 0 where
  pub file : (f : ℕ) (s : RequestFile) → (where_waiting (turn f) s.state s).file ≡ s.file
  pub again : (f : ℕ) (s : RequestFile) → where_waiting (turn f) (where_waiting (turn f) s.state s).state (where_waiting (turn f) s.state s) ≡ where_waiting (turn f) s.state s

if_again : {A : Type 0} (b : Bool) (x y : A) → x ≡ y → (if b then x else y) ≡ y
if_again true x y e = e
if_again false x y e = refl

pub settled : (turn : ℕ → RequestFile → RequestFile) → IsSettled turn → (k f : ℕ) (xs : List (ℕ × ℕ)) (s : RequestFile) → s.file ≡ Some f → all_turned turn k xs s ≡ (if has_call k f xs then where_waiting (turn f) s.state s else s)
settled turn ok k f [] s named = refl
settled turn ok k f (x ∷ xs) s named =
    elim (bool_cases (x.0 == k)) [
      | inr miss ↦ rw miss (settled turn ok k f xs s named)
      | inl hit ↦
          elim (bool_cases (x.1 == f)) [
            | inr other ↦
                (let not_mine : is_number x.1 s.file ≡ false = ap (is_number x.1) named ∙ other in
                rw (hit, other) (ap (all_turned turn k xs) (ap (λ (b : Bool). if b then where_waiting (turn x.1) s.state s else s) not_mine) ∙ settled turn ok k f xs s named))
            | inl mine ↦
                (let same : x.1 ≡ f = eqb-true _ _ mine in
                let mine' : is_number x.1 s.file ≡ true = ap (is_number x.1) named ∙ mine in
                rw (hit, mine)
                (ap (all_turned turn k xs) (ap (λ (b : Bool). if b then where_waiting (turn x.1) s.state s else s) mine' ∙ ap (λ (n : ℕ). where_waiting (turn n) s.state s) same)
                ∙ settled turn ok k f xs (where_waiting (turn f) s.state s) (ok.file f s ∙ named)
                ∙ if_again (has_call k f xs) _ (where_waiting (turn f) s.state s) (ok.again f s)))
          ]
    ]

pub not_called : (turn : ℕ → RequestFile → RequestFile) (k : ℕ) (xs : List (ℕ × ℕ)) (s : RequestFile) → s.file ≡ None → all_turned turn k xs s ≡ s
not_called turn k [] s none = refl
not_called turn k (x ∷ xs) s none = ap (all_turned turn k xs) (by (x.0 == k)) ∙ not_called turn k xs s none
  where
    by : (b : Bool) → (if b then turned_file x.1 (turn x.1) s else s) ≡ s
    by true = ap (λ (o : Option ℕ). if is_number x.1 o then where_waiting (turn x.1) s.state s else s) none
    by false = refl

-- a start is settled
start_again : (o : Option ℕ) (at : ℕ) → first_start (first_start o at) at ≡ first_start o at
start_again None at = refl
start_again (Some n) at = refl

start_two : (at : ℕ) (s : RequestFile) → started (started s at) at ≡ started s at
start_two at s = ap (λ (o : Option ℕ). record s { state = file.Started; started = o }) (start_again s.started at)

pub start_settled : (at : ℕ) → IsSettled (λ f s. started s at)
start_settled at = record { file = λ f s. same s.state s; again = λ f s. twice s.state s refl }
  where
    same : (state : FileState) (s : RequestFile) → (where_waiting (λ s. started s at) state s).file ≡ s.file
    same file.Submitted s = refl
    same file.Started s = refl
    same _ s = refl

    twice : (state : FileState) (s : RequestFile) → s.state ≡ state → where_waiting (λ s. started s at) (where_waiting (λ s. started s at) state s).state (where_waiting (λ s. started s at) state s) ≡ where_waiting (λ s. started s at) state s
    twice file.Submitted s is = start_two at s
    twice file.Started s is = start_two at s
    twice file.Completed s is = ap (λ (x : FileState). where_waiting (λ s. started s at) x s) is
    twice file.Failed s is = ap (λ (x : FileState). where_waiting (λ s. started s at) x s) is
    twice file.Cancelled s is = ap (λ (x : FileState). where_waiting (λ s. started s at) x s) is

-- a finish is settled
end_file_same : (at : ℕ) (how : FileEnd) (s : RequestFile) → (ended_file at how s).file ≡ s.file
end_file_same at end.Completed s = refl
end_file_same at end.Cancelled s = refl
end_file_same at (end.Failed text) s = refl

end_two : (at : ℕ) (how : FileEnd) (s : RequestFile) → where_waiting (ended_file at how) (ended_file at how s).state (ended_file at how s) ≡ ended_file at how s
end_two at end.Completed s = refl
end_two at end.Cancelled s = refl
end_two at (end.Failed text) s = refl

pub finish_settled : (at : ℕ) (how : ℕ → FileEnd) → IsSettled (λ f. ended_file at (how f))
finish_settled at how = record { file = λ f s. same f s.state s; again = λ f s. twice f s.state s refl }
  where
    same : (f : ℕ) (state : FileState) (s : RequestFile) → (where_waiting (ended_file at (how f)) state s).file ≡ s.file
    same f file.Submitted s = end_file_same at (how f) s
    same f file.Started s = end_file_same at (how f) s
    same f _ s = refl

    twice : (f : ℕ) (state : FileState) (s : RequestFile) → s.state ≡ state → where_waiting (ended_file at (how f)) (where_waiting (ended_file at (how f)) state s).state (where_waiting (ended_file at (how f)) state s) ≡ where_waiting (ended_file at (how f)) state s
    twice f file.Submitted s is = end_two at (how f) s
    twice f file.Started s is = end_two at (how f) s
    twice f file.Completed s is = ap (λ (x : FileState). where_waiting (ended_file at (how f)) x s) is
    twice f file.Failed s is = ap (λ (x : FileState). where_waiting (ended_file at (how f)) x s) is
    twice f file.Cancelled s is = ap (λ (x : FileState). where_waiting (ended_file at (how f)) x s) is

-- ---- for which requests and files the calls are made

pub asked_call : (k id f : ℕ) (fs : List ℕ) → has_call k f (asked_by id fs) ≡ ((id == k) && has_number f fs)
asked_call k id f [] = sym (and_none (id == k))
asked_call k id f (g ∷ gs) = rw (asked_call k id f gs, eq_flip g f) (by (id == k) (f == g) (has_number f gs))
  where
    by : (a b c : Bool) → ((a && b) || (a && c)) ≡ (a && (b || c))
    by true b c = refl
    by false b c = refl

waits_call : (k f g : ℕ) (ids : List ℕ) → has_call k f (map (λ (id : ℕ). (id, g)) ids) ≡ ((g == f) && has_number k ids)
waits_call k f g [] = sym (and_none (g == f))
waits_call k f g (id ∷ ids) = rw (waits_call k f g ids, eq_flip id k) (by (k == id) (g == f) (has_number k ids))
  where
    by : (a b c : Bool) → ((a && b) || (b && c)) ≡ (b && (a || c))
    by true true c = refl
    by true false c = refl
    by false true c = refl
    by false false c = refl

-- a request that is there and waits for the recall is called for the file where the file is listed
pub waiters_call : (site : Site) (h : History) (v : Requests) (k f : ℕ) (fs : List ℕ) → is_some (request_in v k) ≡ true → has_number k (waiting_for (live_recall site h f)) ≡ true → has_call k f (waiters site h v fs) ≡ has_number f fs
waiters_call site h v k f [] there waits = refl
waiters_call site h v k f (g ∷ gs) there waits =
    list_any-append (λ (x : ℕ × ℕ). x.0 == k && x.1 == f) (waiters_of site h v g) (waiters site h v gs)
    ∙ rw (waiters_call site h v k f gs there waits) (ap (λ (b : Bool). b || has_number f gs) (waits_call k f g (filter (λ id. is_some (request_in v id)) (waiting_for (live_recall site h g))) ∙ here))
  where
    here : ((g == f) && has_number k (filter (λ id. is_some (request_in v id)) (waiting_for (live_recall site h g)))) ≡ (f == g)
    here =
        elim (bool_cases (g == f)) [
          | inr miss ↦ rw (miss, turned g f miss) refl
          | inl hit ↦
              (let same : g ≡ f = eqb-true g f hit in
              ap (λ (b : Bool). b && has_number k (filter (λ id. is_some (request_in v id)) (waiting_for (live_recall site h g)))) hit
              ∙ number_kept (λ id. is_some (request_in v id)) k (waiting_for (live_recall site h g))
              ∙ ap (λ (b : Bool). b && has_number k (waiting_for (live_recall site h g))) there
              ∙ ap (λ (n : ℕ). has_number k (waiting_for (live_recall site h n))) same
              ∙ waits ∙ sym (eq-eqb f g (sym same)))
        ]
