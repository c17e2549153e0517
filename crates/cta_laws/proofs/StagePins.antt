-- The pins of stage requests, one entry after the other; and a live file that is away is pinned by none.
use Rattle.std.proofs.Common.{◌≡◌, ℕ, ◌+◌, inl, inr, List, [], ◌∷◌, Bool, true, false, ◌||◌, not, refl, sym, ◌∙◌, ap, subst, length}
use Rattle.std.specs.Prelude.{Option, Some, None, is_some, option_map, if◌then◌else◌, ◌==◌, ◌&&◌, nat_lt, codes}
use Rattle.std.specs.List.{list_any}
use Rattle.std.proofs.lemmas.Bool.{and_parts, eqb-true, eq-eqb}
use Rattle.cta_site.specs.declared.site.Site.{Site}
use Rattle.cta_model.specs.declared.entries.Entry.{Entry}
use Rattle.cta_model.specs.declared.asks.Ask.{Ask}
use Rattle.cta_model.specs.declared.asks.Ask.TheVariants as ask
use Rattle.cta_model.specs.declared.asks.Fate.TheVariants as fate
use Rattle.cta_model.specs.declared.asks.Job.{Job}
use Rattle.cta_model.specs.declared.answers.Answer.{Answer}
use Rattle.cta_model.specs.declared.answers.Answer.TheVariants as answer
use Rattle.cta_model.specs.declared.reports.FileState.{FileState}
use Rattle.cta_model.specs.declared.reports.FileState.TheVariants as file
use Rattle.cta_model.specs.declared.states.StageFile.{StageFile}
use Rattle.cta_model.specs.declared.states.RequestFile.{RequestFile}
use Rattle.cta_model.specs.History.{History, is_number, is_empty}
use Rattle.cta_model.specs.Files.{path_of}
use Rattle.cta_model.specs.Mounts.{claim_names}
use Rattle.cta_model.specs.Places.{places_of}
use Rattle.cta_model.specs.Buffer.{is_resident, brings_in}
use Rattle.cta_model.specs.Recalls.{Recall, live_recall, recall_after, recall_goes_on, recall_job, lives_unless}
use Rattle.cta_model.specs.Stages.{StageRequest, stage_files, submitted, started, finished, released_if, is_claimed_before, file_asked_for, new_file, after_recall, with_recall, waiting_after, moved_by, file_after, cancels, releases, drops, request_by, request_after, request_of}
use Rattle.cta_model.specs.Pins.{Pin, is_above, is_completed, pin_by, stage_pins}
use Rattle.cta_model.specs.Legal.{IsLegal}
use Rattle.cta_laws.specs.Stages.{waits, HasRecall}
use Rattle.cta_laws.specs.Pins.{some_lasts, stage_pins_by, keeps, frees_path}
use Rattle.cta_laws.proofs.Tests.{bool_cases}
use Rattle.cta_laws.proofs.Bools.{not_same, and_none}
use Rattle.cta_laws.proofs.Claims.{AllOf}
use Rattle.cta_laws.proofs.Ranges.{any_filter_map, any_map, any_same, is_some_where}
use Rattle.cta_laws.proofs.Requests.{files_in}
use Rattle.cta_laws.proofs.Waiting.{FileStands, files_stand, waiting_same, new_same}

-- ---- the pins of a request, file by file

pub pin_keeps : (t f id : ℕ) (s : RequestFile) → is_some_where (λ (p : Pin). is_above t p.until) (pin_by f id s) ≡ keeps t f s
pin_keeps t f id s = by (is_number f s.file && (is_completed s.state && not s.released))
  where
    by : (b : Bool) → is_some_where (λ (p : Pin). is_above t p.until) (if b then Some (record { owner = id; until = option_map (λ at. at + s.lifetime) s.finished }) else None) ≡ (b && is_above t (option_map (λ at. at + s.lifetime) s.finished))
    by true = refl
    by false = refl

pub pins_are : (t f id : ℕ) (o : Option StageRequest) → some_lasts t (stage_pins f id o) ≡ list_any (keeps t f) (files_in o)
pins_are t f id None = refl
pins_are t f id (Some r) = any_filter_map (λ (p : Pin). is_above t p.until) (pin_by f id) r.files ∙ any_same (λ s. is_some_where (λ (p : Pin). is_above t p.until) (pin_by f id s)) (keeps t f) r.files (pin_keeps t f id)

-- ---- what pins not

pub and_no : (a b : Bool) → a ≡ false → (a && b) ≡ false
and_no true b e = absurd (cc)
and_no false b e = refl

pub not_keeping : (t f : ℕ) (s : RequestFile) → is_completed s.state ≡ false → keeps t f s ≡ false
not_keeping t f s d = and_no (is_number f s.file && (is_completed s.state && not s.released)) _ (ap (λ (b : Bool). is_number f s.file && (b && not s.released)) d ∙ and_none (is_number f s.file))

pub other_keeping : (t f : ℕ) (s : RequestFile) → is_number f s.file ≡ false → keeps t f s ≡ false
other_keeping t f s d = and_no (is_number f s.file && (is_completed s.state && not s.released)) _ (and_no (is_number f s.file) _ d)

waits_not : (state : FileState) → waits state ≡ true → is_completed state ≡ false
waits_not file.Submitted w = refl
waits_not file.Started w = refl
waits_not file.Completed w = absurd (cc)
waits_not file.Failed w = absurd (cc)
waits_not file.Cancelled w = absurd (cc)

-- ---- a file behind an entry that does not bring f in

not_completed : (site : Site) (h : History) (e : Entry) (f : ℕ) (s : RequestFile) (k : Ask) → ((m : ℕ) (job : Job) → k ≡ ask.Recalled m job → ⊥) → is_completed (after_recall site h e k f s).state ≡ false
not_completed site h e f s (ask.Recalled m job) other = absurd (other m job refl)
not_completed site h e f s (ask.Failed m fault charged returned) other = refl
not_completed site h e f s (ask.Delete who path) other = refl
not_completed site h e f s _ other = refl

-- a Recalled that does not bring f in leaves its recall
goes_on : (site : Site) (h : History) (e : Entry) (f m : ℕ) (r : Recall) (job : Job) (a : Answer) → brings_in (ask.Recalled m job) a (length h + 1) f ≡ false → is_some (recall_goes_on site h e f r (ask.Recalled m job) a) ≡ true
goes_on site h e f m r job (answer.Arrived fate.Done) d = ap (λ (b : Bool). is_some (lives_unless b r)) (not_same job (recall_job r.birth f) d)
goes_on site h e f m r job (answer.Arrived fate.Stale) d = refl
goes_on site h e f m r job _ d = refl

no_recalled : (site : Site) (h : History) (e : Entry) (f : ℕ) (r : Recall) → live_recall site h f ≡ Some r → live_recall site (e ∷ h) f ≡ None → brings_in e.ask e.answer (length h + 1) f ≡ false → (m : ℕ) (job : Job) → e.ask ≡ ask.Recalled m job → ⊥
no_recalled site h e f r on gone d m job ek =
    let brings : brings_in (ask.Recalled m job) e.answer (length h + 1) f ≡ false = sym (ap (λ (k : Ask). brings_in k e.answer (length h + 1) f) ek) ∙ d in
    let goes : live_recall site (e ∷ h) f ≡ recall_goes_on site h e f r (ask.Recalled m job) e.answer = ap (recall_after site h e f) on ∙ ap (λ (k : Ask). recall_goes_on site h e f r k e.answer) ek in
    let some : is_some (live_recall site (e ∷ h) f) ≡ true = ap is_some goes ∙ goes_on site h e f m r job e.answer brings in
    let none : is_some (live_recall site (e ∷ h) f) ≡ false = ap is_some gone in
    absurd (cc)

recall_not : (site : Site) (h : History) (e : Entry) (f : ℕ) (s : RequestFile) (r : Recall) (o : Option Recall) → live_recall site h f ≡ Some r → live_recall site (e ∷ h) f ≡ o → waits s.state ≡ true → brings_in e.ask e.answer (length h + 1) f ≡ false → is_completed (with_recall site h e f s o).state ≡ false
recall_not site h e f s r None on gone w d = not_completed site h e f s e.ask (no_recalled site h e f r on gone d)
recall_not site h e f s r (Some q) on is w d = by (claim_names e.ask e.answer (recall_job q.birth f))
  where
    by : (b : Bool) → is_completed (RequestFile.state (if b then started s e.at else s)) ≡ false
    by true = refl
    by false = waits_not s.state w

waiting_not : (site : Site) (h : History) (e : Entry) (id t f : ℕ) (s : RequestFile) (o : Option ℕ) → s.file ≡ o → (waits s.state ≡ true → HasRecall site h id s) → waits s.state ≡ true → brings_in e.ask e.answer (length h + 1) f ≡ false → keeps t f (waiting_after site h e id s o) ≡ keeps t f s
waiting_not site h e id t f s None is has w d = refl
waiting_not site h e id t f s (Some g) is has w d =
    elim (bool_cases (f == g)) [
      | inr miss ↦
          (let old : is_number f s.file ≡ false = ap (is_number f) is ∙ miss in
          other_keeping t f (waiting_after site h e id s (Some g)) (ap (is_number f) (waiting_same site h e id s (Some g)).file ∙ old) ∙ sym (other_keeping t f s old))
      | inl hit ↦
          (let same : f ≡ g = eqb-true f g hit in
          not_keeping t f (waiting_after site h e id s (Some g)) (subst (λ (n : ℕ). is_completed (waiting_after site h e id s (Some n)).state ≡ false) same (here same)) ∙ sym (not_keeping t f s (waits_not s.state w)))
    ]
  where
    recall : f ≡ g → (r : Recall) × (live_recall site h f ≡ Some r)
    recall same = (let x = has w in let number : x.number ≡ f = (let both : Some x.number ≡ Some g = sym x.names ∙ is in cc) in (x.recall, subst (λ (n : ℕ). live_recall site h n ≡ Some x.recall) number x.on))

    here : f ≡ g → is_completed (waiting_after site h e id s (Some f)).state ≡ false
    here same = (let r = recall same in elim (cancels e.ask id s.path) as (λ b. is_completed (RequestFile.state (if b then finished s file.Cancelled e.at None else with_recall site h e f s (live_recall site (e ∷ h) f))) ≡ false) [ true ↦ refl | false ↦ recall_not site h e f s r.0 (live_recall site (e ∷ h) f) r.1 refl w d ])

moved_keeps : (site : Site) (h : History) (e : Entry) (id t f : ℕ) (s : RequestFile) (state : FileState) → s.state ≡ state → (waits s.state ≡ true → HasRecall site h id s) → brings_in e.ask e.answer (length h + 1) f ≡ false → keeps t f (moved_by site h e id s state) ≡ keeps t f s
moved_keeps site h e id t f s file.Submitted is has d = waiting_not site h e id t f s s.file refl has (ap waits is) d
moved_keeps site h e id t f s file.Started is has d = waiting_not site h e id t f s s.file refl has (ap waits is) d
moved_keeps site h e id t f s _ is has d = refl

pub released_keeps : (t f : ℕ) (b : Bool) (s : RequestFile) → keeps t f (released_if b s) ≡ (not b && keeps t f s)
released_keeps t f true s = and_no (is_number f s.file && (is_completed s.state && false)) _ (ap (λ (b : Bool). is_number f s.file && b) (and_none (is_completed s.state)) ∙ and_none (is_number f s.file))
released_keeps t f false s = refl

-- a file that pins f has its path
own_path : (site : Site) (h : History) (id t f : ℕ) (s : RequestFile) (rel : List ℕ → Bool) → FileStands site h id s → (not (rel s.path) && keeps t f s) ≡ (not (rel (path_of h f)) && keeps t f s)
own_path site h id t f s rel stands =
    elim (bool_cases (keeps t f s)) [
      | inl hit ↦ ap (λ (p : List ℕ). not (rel p) && keeps t f s) (sym (stands.named f (some_number f s.file (and_parts (is_number f s.file) _ (and_parts (is_number f s.file && (is_completed s.state && not s.released)) _ hit).0).0)).1)
      | inr miss ↦ ap (λ (b : Bool). not (rel s.path) && b) miss ∙ and_none (not (rel s.path)) ∙ sym (ap (λ (b : Bool). not (rel (path_of h f)) && b) miss ∙ and_none (not (rel (path_of h f))))
    ]
  where
    some_number : (f : ℕ) (o : Option ℕ) → is_number f o ≡ true → o ≡ Some f
    some_number f None x = absurd (cc)
    some_number f (Some g) x = ap (λ (n : ℕ). Some n) (sym (eqb-true f g x))

after_keeps : (site : Site) (h : History) (e : Entry) (id t f : ℕ) (s : RequestFile) → FileStands site h id s → brings_in e.ask e.answer (length h + 1) f ≡ false → keeps t f (file_after site h e id s) ≡ (not (releases e.ask id (path_of h f)) && keeps t f s)
after_keeps site h e id t f s stands d =
    released_keeps t f (releases e.ask id s.path) (moved_by site h e id s s.state)
    ∙ ap (λ (b : Bool). not (releases e.ask id s.path) && b) (moved_keeps site h e id t f s s.state refl stands.waiting d)
    ∙ own_path site h id t f s (releases e.ask id) stands

any_after : (site : Site) (h : History) (e : Entry) (id t f : ℕ) (ss : List RequestFile) → AllOf (FileStands site h id) ss → brings_in e.ask e.answer (length h + 1) f ≡ false → list_any (λ s. keeps t f (file_after site h e id s)) ss ≡ (not (releases e.ask id (path_of h f)) && list_any (keeps t f) ss)
any_after site h e id t f [] all d = sym (and_none (not (releases e.ask id (path_of h f))))
any_after site h e id t f (s ∷ ss) all d = rw (after_keeps site h e id t f s all.0 d, any_after site h e id t f ss all.1 d) (spread (not (releases e.ask id (path_of h f))) (keeps t f s) (list_any (keeps t f) ss))
  where
    spread : (a b c : Bool) → ((a && b) || (a && c)) ≡ (a && (b || c))
    spread true b c = refl
    spread false b c = refl

older_by : (site : Site) (h : History) (e : Entry) (t f id : ℕ) (o : Option StageRequest) → IsLegal site h → request_of site h id ≡ o → brings_in e.ask e.answer (length h + 1) f ≡ false → list_any (keeps t f) (files_in (request_after site h e id o)) ≡ (not (frees_path e.ask id (path_of h f)) && list_any (keeps t f) (files_in o))
older_by site h e t f id None legal is d = sym (and_none (not (frees_path e.ask id (path_of h f))))
older_by site h e t f id (Some r) legal is d =
    elim (bool_cases (drops id e.ask)) [
      | inl out ↦ rw out (sym (gone (releases e.ask id (path_of h f)) (list_any (keeps t f) r.files)))
      | inr stays ↦ rw stays (any_map (keeps t f) (file_after site h e id) r.files ∙ any_after site h e id t f r.files (files_stand site h legal id r is) d ∙ here (releases e.ask id (path_of h f)))
    ]
  where
    gone : (a b : Bool) → (not (a || true) && b) ≡ false
    gone true b = refl
    gone false b = refl

    here : (a : Bool) → (not a && list_any (keeps t f) r.files) ≡ (not (a || false) && list_any (keeps t f) r.files)
    here true = refl
    here false = refl

-- an entry that does not bring f in: its pin by an older request stays, unless the request frees its path
pub stage_pins_older : (site : Site) (h : History) (e : Entry) (t f id : ℕ) → IsLegal site (e ∷ h) → (length h + 1 == id) ≡ false → brings_in e.ask e.answer (length h + 1) f ≡ false → stage_pins_by site (e ∷ h) t f id ≡ (not (frees_path e.ask id (path_of h f)) && stage_pins_by site h t f id)
stage_pins_older site h e t f id legal old d =
    pins_are t f id (request_of site (e ∷ h) id)
    ∙ rw old (older_by site h e t f id (request_of site h id) legal.0 refl d)
    ∙ ap (λ (b : Bool). not (frees_path e.ask id (path_of h f)) && b) (sym (pins_are t f id (request_of site h id)))

-- ---- the pins of a new request

pub new_keeps : (site : Site) (h : History) (e : Entry) (t f : ℕ) (s : StageFile) → keeps t f (new_file site h e s) ≡ (is_number f s.file && (is_resident h f && nat_lt t (e.at + s.lifetime)))
new_keeps site h e t f s = by s.file refl
  where
    waiting : (b : Bool) → keeps t f (if b then started (submitted s) e.at else submitted s) ≡ false
    waiting true = not_keeping t f (started (submitted s) e.at) refl
    waiting false = not_keeping t f (submitted s) refl

    here : (a b c : Bool) → is_number f s.file ≡ true → keeps t f (if a then finished (started (submitted s) e.at) file.Completed e.at None else if b then finished (submitted s) file.Failed e.at (Some (codes "no tape is left")) else if c then started (submitted s) e.at else submitted s) ≡ (a && nat_lt t (e.at + s.lifetime))
    here true b c named = ap (λ (x : Bool). (x && true) && nat_lt t (e.at + s.lifetime)) named
    here false true c named = not_keeping t f (finished (submitted s) file.Failed e.at (Some (codes "no tape is left"))) refl
    here false false c named = waiting c

    by : (o : Option ℕ) → s.file ≡ o → keeps t f (file_asked_for site h e (submitted s) o) ≡ (is_number f o && (is_resident h f && nat_lt t (e.at + s.lifetime)))
    by None is = not_keeping t f (finished (submitted s) file.Failed e.at (Some (codes "no such file"))) refl
    by (Some g) is =
        elim (bool_cases (f == g)) [
          | inl hit ↦ rw hit (subst (λ (n : ℕ). keeps t f (file_asked_for site h e (submitted s) (Some n)) ≡ (is_resident h f && nat_lt t (e.at + s.lifetime))) (eqb-true f g hit) (here (is_resident h f) (is_empty (places_of site h f)) (is_claimed_before h f (live_recall site (e ∷ h) f)) (ap (is_number f) is ∙ hit)))
          | inr miss ↦ rw miss (other_keeping t f (file_asked_for site h e (submitted s) (Some g)) (ap (is_number f) (subst (λ (o : Option ℕ). (file_asked_for site h e (submitted s) o).file ≡ s.file) is (new_same site h e s).file) ∙ ap (is_number f) is ∙ miss))
        ]

-- the files that an ask stages
abbrev pub staged_by : Site → History → Ask → List StageFile
staged_by site h (ask.Stage who files) = stage_files site h files.items
staged_by site h _ = []

-- a Stage pins the resident files that it names, until its moment plus their lifetimes
pub stage_pins_newest : (site : Site) (h : History) (e : Entry) (t f : ℕ) → stage_pins_by site (e ∷ h) t f (length h + 1) ≡ list_any (λ (s : StageFile). is_number f s.file && (is_resident h f && nat_lt t (e.at + s.lifetime))) (staged_by site h e.ask)
stage_pins_newest site h e t f =
    pins_are t f (length h + 1) (request_of site (e ∷ h) (length h + 1))
    ∙ rw (eq-eqb (length h + 1) (length h + 1) refl) (by e.ask)
  where
    by : (k : Ask) → list_any (keeps t f) (files_in (request_by site h e k)) ≡ list_any (λ (s : StageFile). is_number f s.file && (is_resident h f && nat_lt t (e.at + s.lifetime))) (staged_by site h k)
    by (ask.Stage who files) = any_map (keeps t f) (new_file site h e) (stage_files site h files.items) ∙ any_same (λ s. keeps t f (new_file site h e s)) (λ (s : StageFile). is_number f s.file && (is_resident h f && nat_lt t (e.at + s.lifetime))) (stage_files site h files.items) (new_keeps site h e t f)
    by _ = refl
