-- The entries that wait for recalls, and calls for each of them.
use Rattle.std.proofs.Common.{◌≡◌, ◌∙◌, ◌+◌, ◌*◌, ◌<◌, ◌≤◌, ℕ, List, [], ◌∷◌, ◌++◌, Bool, true, false, refl, sym, ap, subst, arith, length, length-append, take, append-nil, append_assoc}
use Rattle.std.specs.Prelude.{Option, Some, None, is_some, ◌==◌, if◌then◌else◌, not, filter, get_or}
use Rattle.std.proofs.lemmas.List.{take_more}
use Rattle.std.proofs.lemmas.Bool.{eqb-true}
use Rattle.cta_site.specs.declared.site.Site.{Site}
use Rattle.cta_site.specs.WellFormed.{IsWellFormed}
use Rattle.cta_model.specs.declared.asks.Job.{Job}
use Rattle.cta_model.specs.declared.states.RequestFile.{RequestFile}
use Rattle.cta_model.specs.Files.{path_of}
use Rattle.cta_model.specs.History.{History}
use Rattle.cta_model.specs.Jobs.{subscribers_of, subscribes}
use Rattle.cta_model.specs.Legal.{IsLegal}
use Rattle.cta_model.specs.Recalls.{Recall, live_recall, recall_job}
use Rattle.cta_model.specs.RepackItems.{waiting_for}
use Rattle.cta_laws.specs.Lengths.{StaysShort}
use Rattle.cta_laws.specs.Stages.{SubscribersWait, has_left}
use Rattle.cta_laws.proofs.JobLists.{filter_le}
use Rattle.part_model.specs.Requests.{Requests, request_in, turned_file}
use Rattle.part_laws.specs.BookCalls.{waiters}
use Rattle.part_laws.proofs.RequestTurns.{all_turned}
use Rattle.part_moves.specs.Flags.{job_files}
use Rattle.part_moves.specs.Waiting.{waits_for_all, with_file}

-- ---- how many wait

pub subscribers_few : (site : Site) (h : History) (j : Job) → length (subscribers_of site h j) ≤ length h
subscribers_few site [] j = omega arith
subscribers_few site (e ∷ h) j =
    elim (subscribes site h e.ask j) as (λ b. length (subscribers_of site h j ++ (if b then (length h + 1) ∷ [] else [])) ≤ length (e ∷ h)) [
      | true ↦ omega (arith, subscribers_few site h j, length-append (subscribers_of site h j) ((length h + 1) ∷ []))
      | false ↦ omega (arith, subscribers_few site h j, length-append {A = ℕ} (subscribers_of site h j) [])
    ]

pub waiting_few : (site : Site) (h : History) (f : ℕ) → SubscribersWait → IsLegal site h → (o : Option Recall) → live_recall site h f ≡ o → length (waiting_for o) ≤ length h
waiting_few site h f wait legal None is = omega arith
waiting_few site h f wait legal (Some r) is =
    let same : r.waiting ≡ filter (λ id. not (has_left h id (path_of h f))) (subscribers_of site h (recall_job r.birth f)) = wait site h legal f r is in
    let count = ap length same in
    let less = filter_le (λ id. not (has_left h id (path_of h f))) (subscribers_of site h (recall_job r.birth f)) in
    let few = subscribers_few site h (recall_job r.birth f) in
    omega arith

-- so many entries as 32 bits count wait for a recall
pub waiting_fits : (site : Site) (h : History) (f : ℕ) (o : Option Recall) → SubscribersWait → StaysShort → IsLegal site h → IsWellFormed site → o ≡ live_recall site h f → length (waiting_for o) < 4294967296
waiting_fits site h f o wait short legal formed is =
    let few : length (waiting_for o) ≤ length h = waiting_few site h f wait legal o (sym is) in
    let most : length h ≤ 2 * site.limits.history = short site h legal in
    let low : site.limits.history ≤ 1000000 = formed.limits.history_to in
    omega arith

-- ---- lists of those that wait

pub files_more : (f : ℕ) (xs : List ℕ) (x : ℕ) → with_file f (xs ++ x ∷ []) ≡ with_file f xs ++ (x, f) ∷ []
files_more f [] x = refl
files_more f (y ∷ xs) x = ap (λ (ys : List (ℕ × ℕ)). (y, f) ∷ ys) (files_more f xs x)

pub pairs_none : (f : ℕ) (first : List (ℕ × ℕ)) → first ≡ first ++ with_file f []
pairs_none f first = sym (append-nil _)

-- one entry more, with the file
pub pairs_more : (f i d : ℕ) (ids : List ℕ) (first before after : List (ℕ × ℕ)) → i < length ids → before ≡ first ++ with_file f (take i ids) → after ≡ before ++ (get_or ids i d, f) ∷ []
    → after ≡ first ++ with_file f (take (i + 1) ids)
pairs_more f i d ids first before after low was now =
    now ∙ ap (λ (xs : List (ℕ × ℕ)). xs ++ (get_or ids i d, f) ∷ []) was
    ∙ append_assoc first (with_file f (take i ids)) ((get_or ids i d, f) ∷ [])
    ∙ sym (ap (λ (ns : List ℕ). first ++ with_file f ns) (take_more ids i d low) ∙ ap (λ (xs : List (ℕ × ℕ)). first ++ xs) (files_more f (take i ids) (get_or ids i d)))

pub files_last : (items : List Job) (i : Job) → job_files (items ++ i ∷ []) ≡ job_files items ++ i.file ∷ []
files_last [] i = refl
files_last (k ∷ items) i = ap (λ (fs : List ℕ). k.file ∷ fs) (files_last items i)

pub all_last : (recalls : ℕ → Option Recall) (fs : List ℕ) (f : ℕ) → waits_for_all recalls (fs ++ f ∷ []) ≡ waits_for_all recalls fs ++ with_file f (waiting_for (recalls f))
all_last recalls [] f = append-nil _
all_last recalls (g ∷ fs) f =
    ap (λ (xs : List (ℕ × ℕ)). with_file g (waiting_for (recalls g)) ++ xs) (all_last recalls fs f)
    ∙ sym (append_assoc (with_file g (waiting_for (recalls g))) (waits_for_all recalls fs) (with_file f (waiting_for (recalls f))))

-- the entries that wait for one recall more
pub waiters_more : (recalls : ℕ → Option Recall) (items : List Job) (n : ℕ) (d : Job) (before after : List (ℕ × ℕ)) → n < length items → before ≡ waits_for_all recalls (job_files (take n items))
    → after ≡ before ++ with_file (get_or items n d).file (waiting_for (recalls (get_or items n d).file)) → after ≡ waits_for_all recalls (job_files (take (n + 1) items))
waiters_more recalls items n d before after low was now =
    now ∙ ap (λ (xs : List (ℕ × ℕ)). xs ++ with_file (get_or items n d).file (waiting_for (recalls (get_or items n d).file))) was
    ∙ sym (ap (λ (is : List Job). waits_for_all recalls (job_files is)) (take_more items n d low)
    ∙ ap (waits_for_all recalls) (files_last (take n items) (get_or items n d))
    ∙ all_last recalls (job_files (take n items)) (get_or items n d).file)

-- the same recalls have the same that wait
pub waits_same : (recalls known : ℕ → Option Recall) (fs : List ℕ) → ((f : ℕ) → recalls f ≡ known f) → waits_for_all recalls fs ≡ waits_for_all known fs
waits_same recalls known [] same = refl
waits_same recalls known (f ∷ fs) same =
    ap (λ (o : Option Recall). with_file f (waiting_for o) ++ waits_for_all recalls fs) (same f)
    ∙ ap (λ (xs : List (ℕ × ℕ)). with_file f (waiting_for (known f)) ++ xs) (waits_same recalls known fs same)

-- ---- entries that are no requests

pub turned_both : (turn : ℕ → RequestFile → RequestFile) (k : ℕ) (xs ys : List (ℕ × ℕ)) (s : RequestFile) → all_turned turn k (xs ++ ys) s ≡ all_turned turn k ys (all_turned turn k xs s)
turned_both turn k [] ys s = refl
turned_both turn k (x ∷ xs) ys s = turned_both turn k xs ys (if x.0 == k then turned_file x.1 (turn x.1) s else s)

pub known_turned : (turn : ℕ → RequestFile → RequestFile) (k f : ℕ) (known : ℕ → Bool) (ids : List ℕ) (s : RequestFile) → known k ≡ true → all_turned turn k (with_file f ids) s ≡ all_turned turn k (with_file f (filter known ids)) s
known_turned turn k f known [] s is = refl
known_turned turn k f known (id ∷ ids) s is = by (known id) refl (id == k) refl (λ x. known_turned turn k f known ids x is)
  where
    by : (a : Bool) → known id ≡ a → (b : Bool) → (id == k) ≡ b → ((x : RequestFile) → all_turned turn k (with_file f ids) x ≡ all_turned turn k (with_file f (filter known ids)) x)
        → all_turned turn k (with_file f ids) (if b then turned_file f (turn f) s else s) ≡ all_turned turn k (with_file f (if a then id ∷ filter known ids else filter known ids)) s
    by true ea true eb rest = rest (turned_file f (turn f) s) ∙ sym (ap (λ (b : Bool). all_turned turn k (with_file f (filter known ids)) (if b then turned_file f (turn f) s else s)) eb)
    by true ea false eb rest = rest s ∙ sym (ap (λ (b : Bool). all_turned turn k (with_file f (filter known ids)) (if b then turned_file f (turn f) s else s)) eb)
    by false ea true eb rest = (let here : known id ≡ true = subst (λ (n : ℕ). known n ≡ true) (sym (eqb-true id k eb)) is in let bad : true ≡ false = sym here ∙ ea in absurd (cc))
    by false ea false eb rest = rest s

pub waiters_turned : (turn : ℕ → RequestFile → RequestFile) (site : Site) (h : History) (v : Requests) (k : ℕ) (fs : List ℕ) (s : RequestFile) → is_some (request_in v k) ≡ true
    → all_turned turn k (waits_for_all (live_recall site h) fs) s ≡ all_turned turn k (waiters site h v fs) s
waiters_turned turn site h v k [] s known = refl
waiters_turned turn site h v k (f ∷ fs) s known =
    let ids : List ℕ = waiting_for (live_recall site h f) in
    let some : List ℕ = filter (λ id. is_some (request_in v id)) (waiting_for (live_recall site h f)) in
    turned_both turn k (with_file f ids) (waits_for_all (live_recall site h) fs) s
    ∙ ap (all_turned turn k (waits_for_all (live_recall site h) fs)) (known_turned turn k f (λ id. is_some (request_in v id)) ids s known)
    ∙ waiters_turned turn site h v k fs (all_turned turn k (with_file f some) s) known
    ∙ sym (turned_both turn k (with_file f some) (waiters site h v fs) s)
