-- A request names no path twice, so that it pins a file at most once.
use Rattle.std.proofs.Common.{◌≡◌, ◌∙◌, ◌+◌, ℕ, inl, inr, List, [], ◌∷◌, Bool, true, false, ◌||◌, refl, sym, ap, subst, length}
use Rattle.std.specs.Prelude.{Option, Some, None, option_map, ◌==◌, ◌&&◌, if◌then◌else◌, not, map, bytes_eq, unwrap_or}
use Rattle.std.specs.List.{filter_map}
use Rattle.std.proofs.lemmas.Bool.{and_parts, eqb-true}
use Rattle.std.proofs.lemmas.Slice.Eq.{bytes_eq-Decides}
use Rattle.cta_site.specs.declared.site.Site.{Site}
use Rattle.cta_model.specs.declared.asks.Ask.{Ask}
use Rattle.cta_model.specs.declared.asks.Ask.TheVariants as ask
use Rattle.cta_model.specs.declared.asks.Wanted.{Wanted}
use Rattle.cta_model.specs.declared.entries.Entry.{Entry}
use Rattle.cta_model.specs.declared.states.RequestFile.{RequestFile}
use Rattle.cta_model.specs.Files.{live_file, path_of}
use Rattle.cta_model.specs.History.{History, has_text, is_number}
use Rattle.cta_model.specs.Legal.{IsLegal}
use Rattle.cta_model.specs.Pins.{Pin, is_completed, pin_by, stage_pins}
use Rattle.cta_model.specs.Stages.{StageRequest, drops, file_after, first_named, new_file, request_after, request_by, request_of}
use Rattle.cta_laws.proofs.Claims.{AllOf}
use Rattle.cta_laws.proofs.Requests.{files_in}
use Rattle.cta_laws.proofs.Tests.{bool_cases}
use Rattle.cta_laws.proofs.Waiting.{FileStands, after_same, files_stand, new_same}
use Rattle.part_model.specs.Held.{held_pins, kept_end}
use Rattle.part_model.specs.Requests.{first_end}
use Rattle.part_moves.specs.Pinned.{pin_until}

-- ---- a request names no path twice

-- no text is there twice
abbrev AreApart : List (List ℕ) → Type 0
AreApart [] = Unit {0}
AreApart (p ∷ ps) = (has_text p ps ≡ false) × AreApart ps

abbrev paths_in : List RequestFile → List (List ℕ)
paths_in ss = map (λ (s : RequestFile). s.path) ss

seen_out : (p : List ℕ) (seen : List (List ℕ)) (ws : List Wanted) → has_text p seen ≡ true → has_text p (map (λ (w : Wanted). w.path) (first_named seen ws)) ≡ false
seen_out p seen [] there = refl
seen_out p seen (w ∷ ws) there =
    elim (bool_cases (has_text w.path seen)) [
      | inl out ↦ rw out (seen_out p seen ws there)
      | inr new ↦
          rw new
          (let rest : has_text p (map (λ (w : Wanted). w.path) (first_named (w.path ∷ seen) ws)) ≡ false = seen_out p (w.path ∷ seen) ws (more p w.path seen there) in
          let other : bytes_eq p w.path ≡ false = apart p w.path seen there new in
          rw (other, rest) refl)
    ]
  where
    more : (p q : List ℕ) (seen : List (List ℕ)) → has_text p seen ≡ true → has_text p (q ∷ seen) ≡ true
    more p q seen there = by (bytes_eq p q)
      where
        by : (b : Bool) → (b || has_text p seen) ≡ true
        by true = refl
        by false = there

    apart : (p q : List ℕ) (seen : List (List ℕ)) → has_text p seen ≡ true → has_text q seen ≡ false → bytes_eq p q ≡ false
    apart p q seen there new =
        elim (bool_cases (bytes_eq p q)) [
          | inr miss ↦ miss
          | inl hit ↦ (let same : p ≡ q = (bytes_eq-Decides p q).0 hit in let bad : has_text q seen ≡ true = subst (λ (x : List ℕ). has_text x seen ≡ true) same there in absurd (cc))
        ]

first_apart : (seen : List (List ℕ)) (ws : List Wanted) → AreApart (map (λ (w : Wanted). w.path) (first_named seen ws))
first_apart seen [] = tt
first_apart seen (w ∷ ws) =
    elim (bool_cases (has_text w.path seen)) [
      | inl out ↦ rw out (first_apart seen ws)
      | inr new ↦ rw new (seen_out w.path (w.path ∷ seen) ws (here w.path seen), first_apart (w.path ∷ seen) ws)
    ]
  where
    here : (p : List ℕ) (seen : List (List ℕ)) → has_text p (p ∷ seen) ≡ true
    here p seen = ap (λ (b : Bool). b || has_text p seen) ((bytes_eq-Decides p p).1 refl)

new_paths : (site : Site) (h : History) (e : Entry) (ws : List Wanted) → paths_in (map (new_file site h e) (map (λ (w : Wanted). record { path = w.path; file = live_file h w.path; lifetime = unwrap_or w.lifetime site.limits.lifetime }) ws)) ≡ map (λ (w : Wanted). w.path) ws
new_paths site h e [] = refl
new_paths site h e (w ∷ ws) =
    ap (λ (p : List ℕ). p ∷ map (λ (s : RequestFile). s.path) (map (new_file site h e) (map (λ (w : Wanted). record { path = w.path; file = live_file h w.path; lifetime = unwrap_or w.lifetime site.limits.lifetime }) ws))) (new_same site h e (record { path = w.path; file = live_file h w.path; lifetime = unwrap_or w.lifetime site.limits.lifetime })).path
    ∙ ap (λ (ps : List (List ℕ)). w.path ∷ ps) (new_paths site h e ws)

old_paths : (site : Site) (h : History) (e : Entry) (id : ℕ) (ss : List RequestFile) → paths_in (map (file_after site h e id) ss) ≡ paths_in ss
old_paths site h e id [] = refl
old_paths site h e id (s ∷ ss) = ap (λ (p : List ℕ). p ∷ map (λ (s : RequestFile). s.path) (map (file_after site h e id) ss)) (after_same site h e id s).path ∙ ap (λ (ps : List (List ℕ)). s.path ∷ ps) (old_paths site h e id ss)

made_apart : (site : Site) (h : History) (e : Entry) (k : Ask) → AreApart (paths_in (files_in (request_by site h e k)))
made_apart site h e (ask.Stage who files) = subst AreApart (sym (new_paths site h e (first_named [] files.items))) (first_apart [] files.items)
made_apart site h e _ = tt

kept_apart : (site : Site) (h : History) (e : Entry) (id : ℕ) (o : Option StageRequest) → AreApart (paths_in (files_in o)) → AreApart (paths_in (files_in (request_after site h e id o)))
kept_apart site h e id None was = tt
kept_apart site h e id (Some r) was = by (drops id e.ask)
  where
    by : (b : Bool) → AreApart (paths_in (files_in (if b then None else Some (record r { files = map (file_after site h e id) r.files }))))
    by true = tt
    by false = subst AreApart (sym (old_paths site h e id r.files)) was

paths_apart : (site : Site) (h : History) (id : ℕ) → AreApart (paths_in (files_in (request_of site h id)))
paths_apart site [] id = tt
paths_apart site (e ∷ h) id =
    elim (bool_cases (length h + 1 == id)) [
      | inl hit ↦ rw hit (made_apart site h e e.ask)
      | inr miss ↦ rw miss (kept_apart site h e id (request_of site h id) (paths_apart site h id))
    ]

-- ---- so it pins a file at most once

some_number : (f : ℕ) (o : Option ℕ) → is_number f o ≡ true → o ≡ Some f
some_number f None e = absurd (cc)
some_number f (Some g) e = ap (λ (n : ℕ). Some n) (sym (eqb-true f g e))

no_more : (site : Site) (h : History) (f id owner : ℕ) (p : List ℕ) (ss : List RequestFile) → AllOf (FileStands site h owner) ss → p ≡ path_of h f → has_text p (paths_in ss) ≡ false → filter_map (pin_by f id) ss ≡ []
no_more site h f id owner p [] all is none = refl
no_more site h f id owner p (s ∷ ss) all is none = by (bytes_eq p s.path) refl none (λ x. no_more site h f id owner p ss all.1 is x)
  where
    pins : (b : Bool) → (is_number f s.file && (is_completed s.state && not s.released)) ≡ b → bytes_eq p s.path ≡ false → b ≡ false
    pins true on other =
        (let named : path_of h f ≡ s.path = (all.0.named f (some_number f s.file (and_parts (is_number f s.file) _ on).0)).1 in
        let hit : bytes_eq p s.path ≡ true = (bytes_eq-Decides p s.path).1 (is ∙ named) in
        absurd (cc))
    pins false on other = refl

    by : (b : Bool) → bytes_eq p s.path ≡ b → (b || has_text p (map (λ (s : RequestFile). s.path) ss)) ≡ false → (has_text p (map (λ (s : RequestFile). s.path) ss) ≡ false → filter_map (pin_by f id) ss ≡ []) → filter_map (pin_by f id) (s ∷ ss) ≡ []
    by true e x rest = absurd (cc)
    by false e x rest = (let off : (is_number f s.file && (is_completed s.state && not s.released)) ≡ false = pins _ refl e in rw off (rest x))

pinned_once : (site : Site) (h : History) (f id owner : ℕ) (ss : List RequestFile) → AllOf (FileStands site h owner) ss → AreApart (paths_in ss) → held_pins f (filter_map (pin_by f id) ss) ≡ pin_until id f (option_map kept_end (first_end (filter_map (pin_by f id) ss)))
pinned_once site h f id owner [] all apart = refl
pinned_once site h f id owner (s ∷ ss) all apart =
    elim (bool_cases (is_number f s.file && (is_completed s.state && not s.released))) [
      | inr off ↦ rw off (pinned_once site h f id owner ss all.1 apart.1)
      | inl on ↦
          rw on
          (let named : path_of h f ≡ s.path = (all.0.named f (some_number f s.file (and_parts (is_number f s.file) _ on).0)).1 in
          let rest : filter_map (pin_by f id) ss ≡ [] = no_more site h f id owner s.path ss all.1 (sym named) apart.0 in
          ap (λ (ps : List Pin). held_pins f (record { owner = id; until = option_map (λ at. at + s.lifetime) s.finished } ∷ ps)) rest)
    ]

pub stage_told : (site : Site) (h : History) (id f : ℕ) → IsLegal site h → (o : Option StageRequest) → request_of site h id ≡ o → held_pins f (stage_pins f id o) ≡ pin_until id f (option_map kept_end (first_end (stage_pins f id o)))
stage_told site h id f legal None is = refl
stage_told site h id f legal (Some r) is = pinned_once site h f id id r.files (files_stand site h legal id r is) (subst (λ (o : Option StageRequest). AreApart (paths_in (files_in o))) is (paths_apart site h id))
