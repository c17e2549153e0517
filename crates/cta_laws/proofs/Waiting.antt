-- The waiting files of stage requests: each has a live recall, and each request that a live recall has waiting has a waiting file for it.
use Rattle.std.proofs.Common.{◌≡◌, ℕ, ◌+◌, ◌≤◌, inl, inr, List, [], ◌∷◌, Bool, true, false, ◌||◌, not, refl, sym, ◌∙◌, ap, subst, arith, length}
use Rattle.std.specs.Prelude.{Option, Some, None, is_some, if◌then◌else◌, ◌==◌, map, bytes_eq, codes, unwrap_or}
use Rattle.std.specs.List.{list_any, AllByRecursion}
use Rattle.std.proofs.lemmas.Bool.{and_parts, and_from, or_parts, eqb-true, eq-eqb}
use Rattle.cta_site.specs.declared.site.Site.{Site}
use Rattle.cta_model.specs.declared.entries.Entry.{Entry}
use Rattle.cta_model.specs.declared.asks.Ask.{Ask}
use Rattle.cta_model.specs.declared.asks.Ask.TheVariants as ask
use Rattle.cta_model.specs.declared.asks.Wanted.{Wanted}
use Rattle.cta_model.specs.declared.reports.FileState.{FileState}
use Rattle.cta_model.specs.declared.reports.FileState.TheVariants as file
use Rattle.cta_model.specs.declared.states.StageFile.{StageFile}
use Rattle.cta_model.specs.declared.states.RequestFile.{RequestFile}
use Rattle.cta_model.specs.History.{History, has_number, has_text, is_number, is_empty}
use Rattle.cta_model.specs.Files.{live_file, path_of}
use Rattle.cta_model.specs.Mounts.{claim_names}
use Rattle.cta_model.specs.Places.{places_of}
use Rattle.cta_model.specs.Buffer.{is_resident}
use Rattle.cta_model.specs.Recalls.{Recall, live_recall, recall_job, waits_for, names_file}
use Rattle.cta_model.specs.Stages.{StageRequest, first_named, stage_files, submitted, started, finished, released_if, file_asked_for, is_claimed_before, new_file, after_recall, with_recall, waiting_after, moved_by, file_after, cancels, releases, drops, request_by, request_of, requests_made, makes_request}
use Rattle.cta_model.specs.Legal.{IsLegal}
use Rattle.cta_laws.specs.Stages.{waits, HasRecall, WaitingHasRecall, waits_for_file, AskedHasWaiting, takes_path}
use Rattle.cta_laws.proofs.Tests.{bool_cases, or_left, or_right, or_cases, next_not}
use Rattle.cta_laws.proofs.Bools.{not_is, or_none}
use Rattle.cta_laws.proofs.Claims.{AllOf}
use Rattle.cta_laws.proofs.Ranges.{any_map}
use Rattle.cta_laws.proofs.Requests.{IsAskedFor, IsStageOf, has_path, request_all}
use Rattle.cta_laws.proofs.Paths.{known_path, same_bytes}
use Rattle.cta_laws.proofs.PlaceLaw.{path_older}
use Rattle.cta_laws.proofs.KeyLaw.{recall_place}
use Rattle.cta_laws.proofs.JobFiles.{recall_absent}
use Rattle.cta_laws.proofs.WaitLists.{goes_on, is_born, new_recall, waits_still, who_waits, waiting_low}

-- ---- what stays of a file of a request

-- the path, the file that it named and the lifetime stay
pub record SameFile (s t : RequestFile) : Type 0 where
  pub path : t.path ≡ s.path
  pub file : t.file ≡ s.file
  pub lifetime : t.lifetime ≡ s.lifetime

ended_same : (site : Site) (h : History) (e : Entry) (k : Ask) (f : ℕ) (s : RequestFile) → SameFile s (after_recall site h e k f s)
ended_same site h e (ask.Recalled m job) f s = record { path = refl; file = refl; lifetime = refl }
ended_same site h e (ask.Failed m fault charged returned) f s = record { path = refl; file = refl; lifetime = refl }
ended_same site h e (ask.Delete who path) f s = record { path = refl; file = refl; lifetime = refl }
ended_same site h e _ f s = record { path = refl; file = refl; lifetime = refl }

recalled_same : (site : Site) (h : History) (e : Entry) (f : ℕ) (s : RequestFile) (o : Option Recall) → SameFile s (with_recall site h e f s o)
recalled_same site h e f s None = ended_same site h e e.ask f s
recalled_same site h e f s (Some r) = by (claim_names e.ask e.answer (recall_job r.birth f))
  where
    by : (b : Bool) → SameFile s (if b then started s e.at else s)
    by true = record { path = refl; file = refl; lifetime = refl }
    by false = record { path = refl; file = refl; lifetime = refl }

pub waiting_same : (site : Site) (h : History) (e : Entry) (id : ℕ) (s : RequestFile) (o : Option ℕ) → SameFile s (waiting_after site h e id s o)
waiting_same site h e id s None = record { path = refl; file = refl; lifetime = refl }
waiting_same site h e id s (Some f) =
    elim (cancels e.ask id s.path) as (λ b. SameFile s (if b then finished s file.Cancelled e.at None else with_recall site h e f s (live_recall site (e ∷ h) f)))
    [ true ↦ record { path = refl; file = refl; lifetime = refl } | false ↦ recalled_same site h e f s (live_recall site (e ∷ h) f) ]

pub moved_same : (site : Site) (h : History) (e : Entry) (id : ℕ) (s : RequestFile) (state : FileState) → SameFile s (moved_by site h e id s state)
moved_same site h e id s file.Submitted = waiting_same site h e id s s.file
moved_same site h e id s file.Started = waiting_same site h e id s s.file
moved_same site h e id s _ = record { path = refl; file = refl; lifetime = refl }

released_same : (b : Bool) (s : RequestFile) → SameFile s (released_if b s)
released_same true s = record { path = refl; file = refl; lifetime = refl }
released_same false s = record { path = refl; file = refl; lifetime = refl }

pub after_same : (site : Site) (h : History) (e : Entry) (id : ℕ) (s : RequestFile) → SameFile s (file_after site h e id s)
after_same site h e id s =
    let m = moved_same site h e id s s.state in
    let r = released_same (releases e.ask id s.path) (moved_by site h e id s s.state) in
    record { path = r.path ∙ m.path; file = r.file ∙ m.file; lifetime = r.lifetime ∙ m.lifetime }

asked_same : (site : Site) (h : History) (e : Entry) (s : RequestFile) (o : Option ℕ) → SameFile s (file_asked_for site h e s o)
asked_same site h e s None = record { path = refl; file = refl; lifetime = refl }
asked_same site h e s (Some f) = by (is_resident h f) (is_empty (places_of site h f)) (is_claimed_before h f (live_recall site (e ∷ h) f))
  where
    by : (a b c : Bool) → SameFile s (if a then finished (started s e.at) file.Completed e.at None else if b then finished s file.Failed e.at (Some (codes "no tape is left")) else if c then started s e.at else s)
    by true b c = record { path = refl; file = refl; lifetime = refl }
    by false true c = record { path = refl; file = refl; lifetime = refl }
    by false false true = record { path = refl; file = refl; lifetime = refl }
    by false false false = record { path = refl; file = refl; lifetime = refl }

pub new_same : (site : Site) (h : History) (e : Entry) (s : StageFile) → SameFile (submitted s) (new_file site h e s)
new_same site h e s = asked_same site h e (submitted s) s.file

-- ---- when a file waits behind an entry

-- a file that waits behind an entry waited before it; it was not cancelled, and its recall is live
pub record WaitsOn (site : Site) (h : History) (e : Entry) (id : ℕ) (s : RequestFile) : Type 0 where
  pub waited : waits s.state ≡ true
  pub stays : (f : ℕ) → s.file ≡ Some f → (cancels e.ask id s.path ≡ false) × (is_some (live_recall site (e ∷ h) f) ≡ true)

ended_waits : (site : Site) (h : History) (e : Entry) (k : Ask) (f : ℕ) (s : RequestFile) → waits (after_recall site h e k f s).state ≡ false
ended_waits site h e (ask.Recalled m job) f s = refl
ended_waits site h e (ask.Failed m fault charged returned) f s = refl
ended_waits site h e (ask.Delete who path) f s = refl
ended_waits site h e _ f s = refl

recall_waits : (site : Site) (h : History) (e : Entry) (f : ℕ) (s : RequestFile) (o : Option Recall) → waits (with_recall site h e f s o).state ≡ true → is_some o ≡ true
recall_waits site h e f s None w = (let bad : waits (after_recall site h e e.ask f s).state ≡ false = ended_waits site h e e.ask f s in absurd (cc))
recall_waits site h e f s (Some r) w = refl

file_waits : (site : Site) (h : History) (e : Entry) (id : ℕ) (s : RequestFile) (o : Option ℕ) → s.file ≡ o → waits s.state ≡ true → waits (waiting_after site h e id s o).state ≡ true → WaitsOn site h e id s
file_waits site h e id s None is was w = record { waited = was; stays = λ f x. absurd (cc) }
file_waits site h e id s (Some g) is was w =
    elim (bool_cases (cancels e.ask id s.path)) [
      | inl c ↦ (let bad : false ≡ true = rw c at w in absurd (cc))
      | inr c ↦
          record {
            waited = was;
            stays = λ f x. (let same : g ≡ f = cc in (c, subst (λ (n : ℕ). is_some (live_recall site (e ∷ h) n) ≡ true) same (recall_waits site h e g s (live_recall site (e ∷ h) g) (rw c at w))));
          }
    ]

moved_waits : (site : Site) (h : History) (e : Entry) (id : ℕ) (s : RequestFile) (state : FileState) → s.state ≡ state → waits (moved_by site h e id s state).state ≡ true → WaitsOn site h e id s
moved_waits site h e id s file.Submitted is w = file_waits site h e id s s.file refl (ap waits is) w
moved_waits site h e id s file.Started is w = file_waits site h e id s s.file refl (ap waits is) w
moved_waits site h e id s file.Completed is w = (let bad : waits s.state ≡ false = ap waits is in absurd (cc))
moved_waits site h e id s file.Failed is w = (let bad : waits s.state ≡ false = ap waits is in absurd (cc))
moved_waits site h e id s file.Cancelled is w = (let bad : waits s.state ≡ false = ap waits is in absurd (cc))

pub released_state : (b : Bool) (s : RequestFile) → (released_if b s).state ≡ s.state
released_state true s = refl
released_state false s = refl

pub waits_on : (site : Site) (h : History) (e : Entry) (id : ℕ) (s : RequestFile) → waits (file_after site h e id s).state ≡ true → WaitsOn site h e id s
waits_on site h e id s w = moved_waits site h e id s s.state refl (sym (ap waits (released_state (releases e.ask id s.path) (moved_by site h e id s s.state))) ∙ w)

-- and back: a waiting file that is not cancelled, and whose recall is live, waits on
pub still_waits : (site : Site) (h : History) (e : Entry) (id f : ℕ) (s : RequestFile) (r : Recall) → waits s.state ≡ true → s.file ≡ Some f → cancels e.ask id s.path ≡ false → live_recall site (e ∷ h) f ≡ Some r → waits (file_after site h e id s).state ≡ true
still_waits site h e id f s r was is stays on = ap waits (released_state (releases e.ask id s.path) (moved_by site h e id s s.state)) ∙ by s.state refl was
  where
    claims : (b : Bool) → waits s.state ≡ true → waits (RequestFile.state (if b then started s e.at else s)) ≡ true
    claims true w = refl
    claims false w = w

    here : waits s.state ≡ true → waits (waiting_after site h e id s s.file).state ≡ true
    here w = ap (λ (o : Option ℕ). waits (waiting_after site h e id s o).state) is ∙ rw (stays, on) (claims (claim_names e.ask e.answer (recall_job r.birth f)) w)

    by : (state : FileState) → s.state ≡ state → waits state ≡ true → waits (moved_by site h e id s state).state ≡ true
    by file.Submitted x w = here (ap waits x)
    by file.Started x w = here (ap waits x)
    by file.Completed x w = absurd (cc)
    by file.Failed x w = absurd (cc)
    by file.Cancelled x w = absurd (cc)

-- ---- when a file waits at its Stage

pub asked_waits : (site : Site) (h : History) (e : Entry) (s : StageFile) (f : ℕ) → waits (file_asked_for site h e (submitted s) (Some f)).state ≡ true → (is_resident h f ≡ false) × (is_empty (places_of site h f) ≡ false)
asked_waits site h e s f w = by (is_resident h f) refl (is_empty (places_of site h f)) refl w
  where
    by : (a : Bool) → is_resident h f ≡ a → (b : Bool) → is_empty (places_of site h f) ≡ b → waits (RequestFile.state (if a then finished (started (submitted s) e.at) file.Completed e.at None else if b then finished (submitted s) file.Failed e.at (Some (codes "no tape is left")) else if is_claimed_before h f (live_recall site (e ∷ h) f) then started (submitted s) e.at else submitted s)) ≡ true → (is_resident h f ≡ false) × (is_empty (places_of site h f) ≡ false)
    by true ea b eb w = absurd (cc)
    by false ea true eb w = absurd (cc)
    by false ea false eb w = (ea, eb)

pub away_waits : (site : Site) (h : History) (e : Entry) (s : StageFile) (f : ℕ) → is_resident h f ≡ false → is_empty (places_of site h f) ≡ false → waits (file_asked_for site h e (submitted s) (Some f)).state ≡ true
away_waits site h e s f away some = rw (away, some) (by (is_claimed_before h f (live_recall site (e ∷ h) f)))
  where
    by : (b : Bool) → waits (RequestFile.state (if b then started (submitted s) e.at else submitted s)) ≡ true
    by true = refl
    by false = refl

names_by : (h : History) (path : List ℕ) (f : ℕ) (ws : List Wanted) → live_file h path ≡ Some f → has_path path ws ≡ true → names_file h f ws ≡ true
names_by h path f [] is e = absurd (cc)
names_by h path f (w ∷ ws) is e =
    elim (or_cases (bytes_eq path w.path) (has_path path ws) e) [
      | inl hit ↦
          (let there : is_number f (live_file h w.path) ≡ true = ap (λ (p : List ℕ). is_number f (live_file h p)) (sym (same_bytes path w.path hit)) ∙ ap (is_number f) is ∙ eq-eqb f f refl in
          or_left (is_number f (live_file h w.path)) _ there)
      | inr rest ↦ or_right (is_number f (live_file h w.path)) _ (names_by h path f ws is rest)
    ]

stage_waits : (site : Site) (h : History) (f : ℕ) (ws : List Wanted) (k : Ask) → IsStageOf ws k → names_file h f ws ≡ true → waits_for site h k f ≡ true
stage_waits site h f ws (ask.Stage who files) is e = ap (names_file h f) is ∙ e
stage_waits site h f ws _ is e = absurd (is)

-- ---- each waiting file has its recall

-- a file of a request is the file that its path named, and where it waits it has its recall
pub record FileStands (site : Site) (h : History) (id : ℕ) (s : RequestFile) : Type 0 where
  pub named : (f : ℕ) → s.file ≡ Some f → (f ≤ length h) × (path_of h f ≡ s.path)
  pub waiting : waits s.state ≡ true → HasRecall site h id s

named_older : (e : Entry) (h : History) (f : ℕ) (p q : List ℕ) → (f ≤ length h) × (path_of h f ≡ p) → q ≡ p → (f ≤ length (e ∷ h)) × (path_of (e ∷ h) f ≡ q)
named_older e h f p q k same = (let low : f ≤ length h = k.0 in (omega arith, path_older e h f low ∙ k.1 ∙ sym same))

new_waiting : (site : Site) (h : History) (e : Entry) (ws : List Wanted) (s : StageFile) (o : Option ℕ) → s.file ≡ o → IsStageOf ws e.ask → IsAskedFor h ws s → waits (file_asked_for site h e (submitted s) o).state ≡ true → HasRecall site (e ∷ h) (length h + 1) (file_asked_for site h e (submitted s) o)
new_waiting site h e ws s None is stage asked w = absurd (cc)
new_waiting site h e ws s (Some f) is stage asked w =
    let x = asked_waits site h e s f w in
    let names : live_file h s.path ≡ Some f = sym asked.file ∙ is in
    let r = new_recall site h e f (stage_waits site h f ws e.ask stage (names_by h s.path f ws names asked.named)) x.0 x.1 in
    record { number = f; recall = r.recall; names = (asked_same site h e (submitted s) (Some f)).file ∙ is; on = r.on; among = r.among }

still_waiting : (site : Site) (h : History) (e : Entry) (id : ℕ) (s : RequestFile) → drops id e.ask ≡ false → FileStands site h id s → waits (file_after site h e id s).state ≡ true → HasRecall site (e ∷ h) id (file_after site h e id s)
still_waiting site h e id s kept was w =
    let x = waits_on site h e id s w in
    let r = was.waiting x.waited in
    let stays = x.stays r.number r.names in
    let q = there (live_recall site (e ∷ h) r.number) stays.1 in
    let path : takes_path e.ask id (path_of h r.number) ≡ false = ap (λ (p : List ℕ). cancels e.ask id p || drops id e.ask) (was.named r.number r.names).1 ∙ rw (stays.0, kept) refl in
    record { number = r.number; recall = q.0; names = (after_same site h e id s).file ∙ r.names; on = q.1; among = waits_still site h e r.number id r.recall q.0 (goes_on site h e r.number r.recall q.0 r.on q.1) r.among path }
  where
    there : (o : Option Recall) → is_some o ≡ true → (r : Recall) × (o ≡ Some r)
    there None y = absurd (cc)
    there (Some r) y = (r, refl)

pub files_stand : (site : Site) (h : History) → IsLegal site h → (id : ℕ) (q : StageRequest) → request_of site h id ≡ Some q → AllOf (FileStands site h id) q.files
files_stand site =
    request_all site (FileStands site)
    (λ e h legal ws stage s asked.
    record {
      named = λ f is. (let x = new_same site h e s in named_older e h f s.path (new_file site h e s).path (known_path h s.path f (sym asked.file ∙ sym x.file ∙ is)) x.path);
      waiting = λ w. new_waiting site h e ws s s.file refl stage asked w;
    })
    (λ e h legal id low kept s was.
    record {
      named = λ f is. (let x = after_same site h e id s in named_older e h f s.path (file_after site h e id s).path (was.named f (sym x.file ∙ is)) x.path);
      waiting = λ w. still_waiting site h e id s kept was w;
    })

pub waiting_has_recall : WaitingHasRecall
waiting_has_recall site h legal id q is = by q.files (files_stand site h legal id q is)
  where
    by : (ss : List RequestFile) → AllOf (FileStands site h id) ss → AllByRecursion (λ (s : RequestFile). waits s.state ≡ true → HasRecall site h id s) ss
    by [] all = tt
    by (s ∷ ss) all = (all.0.waiting, by ss all.1)

-- ---- each request that a live recall has waiting has a waiting file for it

first_any : (test : List ℕ → Bool) (seen : List (List ℕ)) (ws : List Wanted) → list_any (λ (w : Wanted). test w.path) ws ≡ true → list_any test seen ≡ false → list_any (λ (w : Wanted). test w.path) (first_named seen ws) ≡ true
first_any test seen [] e none = absurd (cc)
first_any test seen (w ∷ ws) e none =
    elim (bool_cases (has_text w.path seen)) [
      | inl out ↦ rw out (elim (or_cases (test w.path) _ e) [ inl hit ↦ (let bad : list_any test seen ≡ true = seen_has seen out hit in absurd (cc)) | inr rest ↦ first_any test seen ws rest none ])
      | inr stays ↦
          rw stays
          (elim (bool_cases (test w.path)) [
            | inl hit ↦ or_left (test w.path) _ hit
            | inr miss ↦ or_right (test w.path) _ (first_any test (w.path ∷ seen) ws (rw miss at e) (rw miss none))
          ])
    ]
  where
    seen_has : (ps : List (List ℕ)) → has_text w.path ps ≡ true → test w.path ≡ true → list_any test ps ≡ true
    seen_has [] x hit = absurd (cc)
    seen_has (p ∷ ps) x hit =
        elim (or_cases (bytes_eq w.path p) (has_text w.path ps) x)
        [ inl here ↦ or_left (test p) _ (subst (λ (q : List ℕ). test q ≡ true) (same_bytes w.path p here) hit) | inr more ↦ or_right (test p) _ (seen_has ps more hit) ]

any_mono : {A : Type 0} (p q : A → Bool) (xs : List A) → ((x : A) → p x ≡ true → q x ≡ true) → list_any p xs ≡ true → list_any q xs ≡ true
any_mono p q [] up e = absurd (cc)
any_mono p q (x ∷ xs) up e = elim (or_cases (p x) (list_any p xs) e) [ inl hit ↦ or_left (q x) _ (up x hit) | inr rest ↦ or_right (q x) _ (any_mono p q xs up rest) ]

some_number : (f : ℕ) (o : Option ℕ) → is_number f o ≡ true → o ≡ Some f
some_number f None e = absurd (cc)
some_number f (Some g) e = ap (λ (n : ℕ). Some n) (sym (eqb-true f g e))

stage_names : (site : Site) (h : History) (f : ℕ) (ws : List Wanted) → names_file h f ws ≡ true → list_any (λ (s : StageFile). is_number f s.file) (stage_files site h ws) ≡ true
stage_names site h f ws e =
    any_map (λ (s : StageFile). is_number f s.file) (λ (w : Wanted). record { path = w.path; file = live_file h w.path; lifetime = unwrap_or w.lifetime site.limits.lifetime }) (first_named [] ws)
    ∙ first_any (λ p. is_number f (live_file h p)) [] ws e refl

new_waits_for : (site : Site) (h : History) (e : Entry) (f : ℕ) (s : StageFile) → is_resident h f ≡ false → is_empty (places_of site h f) ≡ false → is_number f s.file ≡ true → waits_for_file f (new_file site h e s) ≡ true
new_waits_for site h e f s away some named =
    let is : s.file ≡ Some f = some_number f s.file named in
    and_from _ _ (ap (λ (o : Option ℕ). waits (file_asked_for site h e (submitted s) o).state) is ∙ away_waits site h e s f away some) (ap (is_number f) (new_same site h e s).file ∙ named)

-- a request of this number with a file that waits for f
abbrev pub AsksFor : Site → History → ℕ → ℕ → Type 0
AsksFor site h f id = (q : StageRequest) × (request_of site h id ≡ Some q) × (list_any (waits_for_file f) q.files ≡ true)

made_low : (h : History) (id : ℕ) → has_number id (requests_made h) ≡ true → id ≤ length h
made_low [] id e = absurd (cc)
made_low (e ∷ h) id there = by (makes_request e.ask) there (λ x. made_low h id x)
  where
    by : (b : Bool) → has_number id (if b then (length h + 1) ∷ requests_made h else requests_made h) ≡ true → (has_number id (requests_made h) ≡ true → id ≤ length h) → id ≤ length (e ∷ h)
    by true x older = elim (or_cases (id == length h + 1) _ x) [ inl new ↦ (let is : id ≡ length h + 1 = eqb-true _ _ new in omega arith) | inr old ↦ (let low : id ≤ length h = older old in omega arith) ]
    by false x older = (let low : id ≤ length h = older x in omega arith)

newest_asks : (site : Site) (h : History) (e : Entry) (f : ℕ) (k : Ask) → e.ask ≡ k → has_number (length h + 1) (requests_made (e ∷ h)) ≡ true → waits_for site h k f ≡ true → is_resident h f ≡ false → is_empty (places_of site h f) ≡ false → AsksFor site (e ∷ h) f (length h + 1)
newest_asks site h e f (ask.Stage who files) ek made w away some = (
  record { at = e.at; files = map (new_file site h e) (stage_files site h files.items) },
  rw (eq-eqb (length h + 1) (length h + 1) refl) (ap (request_by site h e) ek),
  any_map (waits_for_file f) (new_file site h e) (stage_files site h files.items)
      ∙ any_mono (λ (s : StageFile). is_number f s.file) (λ (s : StageFile). waits_for_file f (new_file site h e s)) (stage_files site h files.items) (λ s x. new_waits_for site h e f s away some x) (stage_names site h f files.items w),
)
newest_asks site h e f (ask.Repack who v) ek made w away some =
    (let old : has_number (length h + 1) (requests_made h) ≡ true = sym (ap (λ (k : Ask). has_number (length h + 1) (if makes_request k then (length h + 1) ∷ requests_made h else requests_made h)) ek) ∙ made in
    let low : length h + 1 ≤ length h = made_low h (length h + 1) old in absurd (omega arith))
newest_asks site h e f _ ek made w away some = absurd (cc)

older_any : (site : Site) (h : History) (e : Entry) (id f : ℕ) (r : Recall) (ss : List RequestFile) → AllOf (FileStands site h id) ss → live_recall site (e ∷ h) f ≡ Some r → cancels e.ask id (path_of h f) ≡ false → list_any (waits_for_file f) ss ≡ true → list_any (λ s. waits_for_file f (file_after site h e id s)) ss ≡ true
older_any site h e id f r [] all on stays there = absurd (cc)
older_any site h e id f r (s ∷ ss) all on stays there =
    elim (or_cases (waits_for_file f s) _ there) [
      | inl hit ↦
          (let p = and_parts (waits s.state) _ hit in
          let is : s.file ≡ Some f = some_number f s.file p.1 in
          let w : waits (file_after site h e id s).state ≡ true = still_waits site h e id f s r p.0 is (ap (cancels e.ask id) (sym (all.0.named f is).1) ∙ stays) on in
          or_left (waits_for_file f (file_after site h e id s)) _ (and_from _ _ w (ap (is_number f) (after_same site h e id s).file ∙ p.1)))
      | inr rest ↦ or_right (waits_for_file f (file_after site h e id s)) _ (older_any site h e id f r ss all.1 on stays rest)
    ]

older_asks : (site : Site) (h : History) (e : Entry) (f id : ℕ) (r : Recall) → IsLegal site (e ∷ h) → id ≤ length h → live_recall site (e ∷ h) f ≡ Some r → takes_path e.ask id (path_of h f) ≡ false → AsksFor site h f id → AsksFor site (e ∷ h) f id
older_asks site h e f id r legal low on stays was =
    let parts = or_parts (cancels e.ask id (path_of h f)) (drops id e.ask) stays in (
      record { at = was.0.at; files = map (file_after site h e id) was.0.files },
      rw (next_not id (length h) low, was.1, parts.1) refl,
      any_map (waits_for_file f) (file_after site h e id) was.0.files ∙ older_any site h e id f r was.0.files (files_stand site h legal.0 id was.0 was.1) on parts.0 was.2,
    )

older_made : (e : Entry) (h : History) (id : ℕ) → id ≤ length h → has_number id (requests_made (e ∷ h)) ≡ true → has_number id (requests_made h) ≡ true
older_made e h id low there = by (makes_request e.ask) there
  where
    by : (b : Bool) → has_number id (if b then (length h + 1) ∷ requests_made h else requests_made h) ≡ true → has_number id (requests_made h) ≡ true
    by true x = elim (or_cases (id == length h + 1) _ x) [ inl new ↦ (let is : id ≡ length h + 1 = eqb-true _ _ new in absurd (omega arith)) | inr old ↦ old ]
    by false x = x

pub asked_has_waiting : AskedHasWaiting
asked_has_waiting site [] legal f id r is there made = absurd (cc)
asked_has_waiting site (e ∷ h) legal f id r is there made = by (live_recall site h f) refl (λ q x y z. asked_has_waiting site h legal.0 f id q x y z)
  where
    by : (o : Option Recall) → live_recall site h f ≡ o → ((q : Recall) → live_recall site h f ≡ Some q → has_number id q.waiting ≡ true → has_number id (requests_made h) ≡ true → AsksFor site h f id) → AsksFor site (e ∷ h) f id
    by None was older =
        (let b = is_born site h e f r was is in
        let one : (id == length h + 1) ≡ true = sym (or_none (id == length h + 1)) ∙ sym (ap (has_number id) b.waiting) ∙ there in
        let new : id ≡ length h + 1 = eqb-true _ _ one in
        let p = and_parts (waits_for site h e.ask f) _ b.bears in
        let q = and_parts (not (is_resident h f)) _ p.1 in
        subst (AsksFor site (e ∷ h) f) (sym new) (newest_asks site h e f e.ask refl (subst (λ (n : ℕ). has_number n (requests_made (e ∷ h)) ≡ true) new made) p.0 (not_is _ q.0) (not_is _ q.1)))
    by (Some q) was older =
        elim (who_waits site h e f id q r (goes_on site h e f q r was is) there) [
          | inl old ↦
              (let low : id ≤ length h = waiting_low site h f id q was old.1 in
              older_asks site h e f id r legal low is old.0 (older q was old.1 (older_made e h id low made)))
          | inr new ↦
              (let some : is_some (live_recall site h f) ≡ true = ap is_some was in
              subst (AsksFor site (e ∷ h) f) (sym new.1) (newest_asks site h e f e.ask refl (subst (λ (n : ℕ). has_number n (requests_made (e ∷ h)) ≡ true) new.1 made) new.0 (recall_absent site h legal.0 f some) (recall_place site h legal.0 f some)))
        ]
