-- What holds of each file of a stage request: it holds of new ones, and stays with each entry.
use Rattle.std.proofs.Common.{◌≡◌, ℕ, ◌+◌, ◌≤◌, inl, inr, List, [], ◌∷◌, Bool, true, false, refl, sym, subst, arith, length}
use Rattle.std.specs.Prelude.{Option, Some, None, is_some, if◌then◌else◌, ◌==◌, bytes_eq, unwrap_or}
use Rattle.std.specs.List.{list_any}
use Rattle.std.proofs.lemmas.Bool.{eqb-true}
use Rattle.std.proofs.lemmas.Slice.Eq.{bytes_eq-Decides}
use Rattle.cta_site.specs.declared.site.Site.{Site}
use Rattle.cta_model.specs.declared.entries.Entry.{Entry}
use Rattle.cta_model.specs.declared.asks.Ask.{Ask}
use Rattle.cta_model.specs.declared.asks.Ask.TheVariants as ask
use Rattle.cta_model.specs.declared.asks.Wanted.{Wanted}
use Rattle.cta_model.specs.declared.states.StageFile.{StageFile}
use Rattle.cta_model.specs.declared.states.RequestFile.{RequestFile}
use Rattle.cta_model.specs.History.{History, has_text}
use Rattle.cta_model.specs.Files.{live_file}
use Rattle.cta_model.specs.Stages.{StageRequest, first_named, stage_files, new_file, file_after, request_by, request_after, request_of, drops}
use Rattle.cta_model.specs.Legal.{IsLegal}
use Rattle.cta_laws.proofs.Tests.{bool_cases, or_left, or_right}
use Rattle.cta_laws.proofs.Claims.{AllOf, all_mono}
use Rattle.cta_laws.proofs.Ranges.{all_map}

-- whether some of these wants the path
abbrev pub has_path : List ℕ → List Wanted → Bool
has_path path ws = list_any (λ (w : Wanted). bytes_eq path w.path) ws

-- what a request is made of: files that its Stage names, each with the file that its path names
pub record IsAskedFor (h : History) (ws : List Wanted) (s : StageFile) : Type 0 where
  pub file : s.file ≡ live_file h s.path
  pub named : has_path s.path ws ≡ true

first_all : (P : Wanted → Type 0) (seen : List (List ℕ)) (ws : List Wanted) → AllOf P ws → AllOf P (first_named seen ws)
first_all P seen [] all = tt
first_all P seen (w ∷ ws) all =
    elim (has_text w.path seen) as (λ b. AllOf P (if b then first_named seen ws else w ∷ first_named (w.path ∷ seen) ws))
    [ true ↦ first_all P seen ws all.1 | false ↦ (all.0, first_all P (w.path ∷ seen) ws all.1) ]

each_named : (ws : List Wanted) → AllOf (λ (w : Wanted). has_path w.path ws ≡ true) ws
each_named [] = tt
each_named (w ∷ ws) =
    (or_left (bytes_eq w.path w.path) _ ((bytes_eq-Decides w.path w.path).1 refl), all_mono (λ (v : Wanted). has_path v.path ws ≡ true) (λ (v : Wanted). has_path v.path (w ∷ ws) ≡ true) ws (λ v e. or_right (bytes_eq v.path w.path) _ e) (each_named ws))

pub asked_for : (site : Site) (h : History) (ws : List Wanted) → AllOf (IsAskedFor h ws) (stage_files site h ws)
asked_for site h ws =
    all_map (IsAskedFor h ws) (λ (w : Wanted). record { path = w.path; file = live_file h w.path; lifetime = unwrap_or w.lifetime site.limits.lifetime }) (first_named [] ws)
    (all_mono (λ (w : Wanted). has_path w.path ws ≡ true) (λ (w : Wanted). IsAskedFor h ws (record { path = w.path; file = live_file h w.path; lifetime = unwrap_or w.lifetime site.limits.lifetime })) (first_named [] ws)
    (λ w e. record { file = refl; named = e })
    (first_all (λ (w : Wanted). has_path w.path ws ≡ true) [] ws (each_named ws)))

-- ---- the files of a request, one entry after the other

abbrev pub files_in : Option StageRequest → List RequestFile
files_in None = []
files_in (Some r) = r.files

-- the ask is a Stage that names these
abbrev pub IsStageOf : List Wanted → Ask → Type 0
IsStageOf ws (ask.Stage who files) = files.items ≡ ws
IsStageOf ws _ = ⊥

-- P holds of each new file of a Stage
abbrev pub HoldsOfNew : Site → (History → ℕ → RequestFile → Type 0) → Type 0
HoldsOfNew site P =
    (e : Entry) (h : History) → IsLegal site (e ∷ h) → (ws : List Wanted) → IsStageOf ws e.ask → (s : StageFile) → IsAskedFor h ws s → P (e ∷ h) (length h + 1) (new_file site h e s)

-- P stays with each entry that does not drop the request
abbrev pub HoldsAfter : Site → (History → ℕ → RequestFile → Type 0) → Type 0
HoldsAfter site P =
    (e : Entry) (h : History) → IsLegal site (e ∷ h) → (id : ℕ) → id ≤ length h → drops id e.ask ≡ false → (s : RequestFile) → P h id s → P (e ∷ h) id (file_after site h e id s)

new_all : (site : Site) (P : History → ℕ → RequestFile → Type 0) → HoldsOfNew site P → (e : Entry) (h : History) → IsLegal site (e ∷ h) → (k : Ask) → e.ask ≡ k → AllOf (P (e ∷ h) (length h + 1)) (files_in (request_by site h e k))
new_all site P new e h legal (ask.Stage who files) ek =
    all_map (P (e ∷ h) (length h + 1)) (new_file site h e) (stage_files site h files.items)
    (all_mono (IsAskedFor h files.items) (λ s. P (e ∷ h) (length h + 1) (new_file site h e s)) (stage_files site h files.items)
    (λ s is. new e h legal files.items (subst (IsStageOf files.items) (sym ek) refl) s is)
    (asked_for site h files.items))
new_all site P new e h legal _ ek = tt

old_all : (site : Site) (P : History → ℕ → RequestFile → Type 0) → HoldsAfter site P → (e : Entry) (h : History) → IsLegal site (e ∷ h) → (id : ℕ) (o : Option StageRequest) → (is_some o ≡ true → id ≤ length h) → AllOf (P h id) (files_in o) → AllOf (P (e ∷ h) id) (files_in (request_after site h e id o))
old_all site P after e h legal id None low all = tt
old_all site P after e h legal id (Some r) low all =
    elim (bool_cases (drops id e.ask)) [
      | inl out ↦ rw out tt
      | inr stays ↦
          rw stays
          (all_map (P (e ∷ h) id) (file_after site h e id) r.files (all_mono (P h id) (λ s. P (e ∷ h) id (file_after site h e id s)) r.files (λ s p. after e h legal id (low refl) stays s p) all))
    ]

-- a request has the number of an entry
pub request_low : (site : Site) (h : History) (id : ℕ) → is_some (request_of site h id) ≡ true → (1 ≤ id) × (id ≤ length h)
request_low site [] id on = absurd (cc)
request_low site (e ∷ h) id on =
    elim (bool_cases (length h + 1 == id)) [
      | inl hit ↦ (let same : length h + 1 ≡ id = eqb-true _ _ hit in (omega arith, omega arith))
      | inr miss ↦ (let w : (1 ≤ id) × (id ≤ length h) = request_low site h id (was (request_of site h id) (rw miss at on)) in (w.0, omega (arith, w.1)))
    ]
  where
    was : (o : Option StageRequest) → is_some (request_after site h e id o) ≡ true → is_some o ≡ true
    was None x = absurd (cc)
    was (Some r) x = refl

pub files_all : (site : Site) (P : History → ℕ → RequestFile → Type 0) → HoldsOfNew site P → HoldsAfter site P → (h : History) → IsLegal site h → (id : ℕ) → AllOf (P h id) (files_in (request_of site h id))
files_all site P new after [] legal id = tt
files_all site P new after (e ∷ h) legal id =
    elim (bool_cases (length h + 1 == id)) [
      | inl hit ↦ rw hit (subst (λ (n : ℕ). AllOf (P (e ∷ h) n) (files_in (request_by site h e e.ask))) (eqb-true _ _ hit) (new_all site P new e h legal e.ask refl))
      | inr miss ↦ rw miss (old_all site P after e h legal id (request_of site h id) (λ on. (request_low site h id on).1) (files_all site P new after h legal.0 id))
    ]

-- what holds of new files, and stays with each entry, holds of each file of a request
pub request_all : (site : Site) (P : History → ℕ → RequestFile → Type 0) → HoldsOfNew site P → HoldsAfter site P → (h : History) → IsLegal site h → (id : ℕ) (r : StageRequest) → request_of site h id ≡ Some r → AllOf (P h id) r.files
request_all site P new after h legal id r is = subst (λ (o : Option StageRequest). AllOf (P h id) (files_in o)) is (files_all site P new after h legal id)
