-- The files of a stage request have the paths that its Stage named.
use Rattle.std.proofs.Common.{◌≡◌, ◌∙◌, ℕ, ◌+◌, inl, inr, List, [], ◌∷◌, Bool, true, false, refl, ap, subst, length, arith, sym, unwrap_or}
use Rattle.std.specs.Prelude.{Option, Some, None, ◌==◌, map, bytes_eq}
use Rattle.std.specs.List.{list_any}
use Rattle.std.proofs.lemmas.Slice.Eq.{bytes_eq-Decides}
use Rattle.cta_site.specs.declared.site.Site.{Site}
use Rattle.cta_model.specs.declared.entries.Entry.{Entry}
use Rattle.cta_model.specs.declared.asks.Ask.{Ask}
use Rattle.cta_model.specs.declared.asks.Ask.TheVariants as ask
use Rattle.cta_model.specs.declared.asks.Wanted.{Wanted}
use Rattle.cta_model.specs.declared.reports.FileState.{FileState}
use Rattle.cta_model.specs.declared.reports.FileState.TheVariants as file
use Rattle.cta_model.specs.declared.states.RequestFile.{RequestFile}
use Rattle.cta_model.specs.declared.states.StageFile.{StageFile}
use Rattle.cta_model.specs.History.{History, entry_of, has_text, is_empty}
use Rattle.cta_model.specs.Files.{live_file}
use Rattle.cta_model.specs.Mounts.{claim_names}
use Rattle.cta_model.specs.Places.{places_of}
use Rattle.cta_model.specs.Buffer.{is_resident}
use Rattle.cta_model.specs.Recalls.{Recall, live_recall, recall_job}
use Rattle.cta_model.specs.Stages.{StageRequest, after_recall, cancels, drops, file_after, file_asked_for, first_named, is_claimed_before, moved_by, new_file, released_if, releases, request_after, request_by, request_of, stage_files, submitted, waiting_after, with_recall}
use Rattle.part_laws.specs.Ends.{file_paths}
use Rattle.cta_laws.proofs.Tests.{bool_cases, or_left, or_right}

-- ---- a file keeps its path

new_path : (site : Site) (h : History) (e : Entry) (s : StageFile) → (new_file site h e s).path ≡ s.path
new_path site h e s = by s.file
  where
    by : (o : Option ℕ) → (file_asked_for site h e (submitted s) o).path ≡ s.path
    by None = refl
    by (Some f) =
        elim (bool_cases (is_resident h f)) [
          | inl here ↦ rw here refl
          | inr away ↦ rw away (elim (bool_cases (is_empty (places_of site h f))) [
            | inl none ↦ rw none refl
            | inr some ↦ rw some (elim (bool_cases (is_claimed_before h f (live_recall site (e ∷ h) f))) [ inl hit ↦ rw hit refl | inr miss ↦ rw miss refl ])
          ])
        ]

ended_path : (site : Site) (h : History) (e : Entry) (k : Ask) (f : ℕ) (s : RequestFile) → (after_recall site h e k f s).path ≡ s.path
ended_path site h e (ask.Recalled m job) f s = refl
ended_path site h e (ask.Failed m fault charged returned) f s = refl
ended_path site h e (ask.Delete who path) f s = refl
ended_path site h e _ f s = refl

recall_path : (site : Site) (h : History) (e : Entry) (f : ℕ) (s : RequestFile) (o : Option Recall) → (with_recall site h e f s o).path ≡ s.path
recall_path site h e f s None = ended_path site h e e.ask f s
recall_path site h e f s (Some r) = elim (bool_cases (claim_names e.ask e.answer (recall_job r.birth f))) [ inl hit ↦ rw hit refl | inr miss ↦ rw miss refl ]

waiting_path : (site : Site) (h : History) (e : Entry) (id : ℕ) (s : RequestFile) (o : Option ℕ) → (waiting_after site h e id s o).path ≡ s.path
waiting_path site h e id s None = refl
waiting_path site h e id s (Some f) =
    elim (bool_cases (cancels e.ask id s.path)) [ inl hit ↦ rw hit refl | inr miss ↦ rw miss (recall_path site h e f s (live_recall site (e ∷ h) f)) ]

moved_path : (site : Site) (h : History) (e : Entry) (id : ℕ) (s : RequestFile) (state : FileState) → (moved_by site h e id s state).path ≡ s.path
moved_path site h e id s file.Submitted = waiting_path site h e id s s.file
moved_path site h e id s file.Started = waiting_path site h e id s s.file
moved_path site h e id s _ = refl

after_path : (site : Site) (h : History) (e : Entry) (id : ℕ) (s : RequestFile) → (file_after site h e id s).path ≡ s.path
after_path site h e id s = by (releases e.ask id s.path) ∙ moved_path site h e id s s.state
  where
    by : (t : Bool) → (released_if t (moved_by site h e id s s.state)).path ≡ (moved_by site h e id s s.state).path
    by true = refl
    by false = refl

-- ---- the paths of a request are those of its Stage

-- what is named among the first is what is named, but for what was seen
first_has : (p : List ℕ) (seen : List (List ℕ)) (ws : List Wanted) → list_any (λ (w : Wanted). bytes_eq p w.path) ws ≡ true → has_text p seen ≡ false → has_text p (map (λ (w : Wanted). w.path) (first_named seen ws)) ≡ true
first_has p seen [] e new = absurd (cc)
first_has p seen (w ∷ ws) e new =
    elim (bool_cases (bytes_eq p w.path)) [
      | inl hit ↦
          (let not_seen : has_text w.path seen ≡ false = subst (λ (q : List ℕ). has_text q seen ≡ false) ((bytes_eq-Decides p w.path).0 hit) new in
          rw not_seen (or_left (bytes_eq p w.path) _ hit))
      | inr miss ↦
          (let rest : list_any (λ (w : Wanted). bytes_eq p w.path) ws ≡ true = rw miss at e in
          elim (bool_cases (has_text w.path seen)) [
            | inl there ↦ rw there (first_has p seen ws rest new)
            | inr other ↦ rw other (or_right (bytes_eq p w.path) _ (first_has p (w.path ∷ seen) ws rest (rw miss new)))
          ])
    ]

made_paths : (site : Site) (h : History) (e : Entry) (ws : List StageFile) → file_paths (map (new_file site h e) ws) ≡ map (λ (s : StageFile). s.path) ws
made_paths site h e [] = refl
made_paths site h e (s ∷ ws) = rw (new_path site h e s, made_paths site h e ws) refl

asked_paths : (site : Site) (h : History) (ws : List Wanted) → map (λ (s : StageFile). s.path) (map (λ (w : Wanted). record { path = w.path; file = live_file h w.path; lifetime = unwrap_or w.lifetime site.limits.lifetime }) ws) ≡ map (λ (w : Wanted). w.path) ws
asked_paths site h [] = refl
asked_paths site h (w ∷ ws) = ap (λ (ps : List (List ℕ)). w.path ∷ ps) (asked_paths site h ws)

kept_paths : (site : Site) (h : History) (e : Entry) (id : ℕ) (files : List RequestFile) → file_paths (map (file_after site h e id) files) ≡ file_paths files
kept_paths site h e id [] = refl
kept_paths site h e id (s ∷ files) = rw (after_path site h e id s, kept_paths site h e id files) refl

-- whether an ask wants the file of this path: a Stage that names the path, or any Repack
abbrev pub asks_path : Ask → List ℕ → Bool
asks_path (ask.Stage who files) p = list_any (λ (w : Wanted). bytes_eq p w.path) files.items
asks_path (ask.Repack who v) p = true
asks_path _ p = false

abbrev pub asks_for : Option Entry → List ℕ → Bool
asks_for None p = false
asks_for (Some e) p = asks_path e.ask p

-- each path that the Stage of a request names is a path of the request
abbrev HasPaths : (List ℕ) → Option StageRequest → Type 0
HasPaths p None = Unit {0}
HasPaths p (Some r) = has_text p (file_paths r.files) ≡ true

made_has : (site : Site) (h : History) (e : Entry) (p : List ℕ) (k : Ask) → asks_path k p ≡ true → HasPaths p (request_by site h e k)
made_has site h e p (ask.Stage who files) asks =
    subst (λ (ps : List (List ℕ)). has_text p ps ≡ true) (sym (made_paths site h e (stage_files site h files.items) ∙ asked_paths site h (first_named [] files.items))) (first_has p [] files.items asks refl)
made_has site h e p _ asks = tt

kept_has : (site : Site) (h : History) (e : Entry) (id : ℕ) (p : List ℕ) (o : Option StageRequest) → HasPaths p o → HasPaths p (request_after site h e id o)
kept_has site h e id p None has = tt
kept_has site h e id p (Some r) has =
    elim (bool_cases (drops id e.ask))
    [ inl out ↦ rw out tt | inr stays ↦ rw stays (subst (λ (ps : List (List ℕ)). has_text p ps ≡ true) (sym (kept_paths site h e id r.files)) has) ]

paths_of_stage : (site : Site) (h : History) (id : ℕ) (p : List ℕ) → asks_for (entry_of h id) p ≡ true → HasPaths p (request_of site h id)
paths_of_stage site [] id p asks = tt
paths_of_stage site (e ∷ h) id p asks =
    elim (bool_cases (length h + 1 == id)) [
      | inl hit ↦ (let turn : (id == length h + 1) ≡ true = grind arith in let here : asks_path e.ask p ≡ true = rw turn at asks in rw hit (made_has site h e p e.ask here))
      | inr miss ↦ (let turn : (id == length h + 1) ≡ false = grind arith in rw miss (kept_has site h e id p (request_of site h id) (paths_of_stage site h id p (rw turn at asks))))
    ]

-- a path that the Stage of a request names is a path of a file of the request
pub request_has : (site : Site) (h : History) (id : ℕ) (r : StageRequest) (p : List ℕ) → request_of site h id ≡ Some r → asks_for (entry_of h id) p ≡ true → has_text p (file_paths r.files) ≡ true
request_has site h id r p is asks = subst (HasPaths p) is (paths_of_stage site h id p asks)
