-- The names that the book of repacks has, behind one more entry.
use Rattle.std.proofs.Common.{◌≡◌, ◌∙◌, ℕ, ◌+◌, ◌≤◌, ◌<◌, inl, inr, List, [], ◌∷◌, Bool, refl, sym, ap, subst, arith, length}
use Rattle.std.specs.Prelude.{Option, Some, None, is_some, option_map, if◌then◌else◌, ◌==◌, map}
use Rattle.std.proofs.lemmas.Bool.{eqb-true}
use Rattle.cta_site.specs.declared.site.Site.{Site}
use Rattle.cta_site.specs.Lookups.{vid_of}
use Rattle.cta_site.specs.Listed.{Listed}
use Rattle.cta_model.specs.declared.asks.Ask.{Ask}
use Rattle.cta_model.specs.declared.asks.Ask.TheVariants as ask
use Rattle.cta_model.specs.declared.asks.Job.{Job}
use Rattle.cta_model.specs.declared.asks.Who.{Who}
use Rattle.cta_model.specs.declared.answers.Answer.{Answer}
use Rattle.cta_model.specs.declared.answers.Answer.TheVariants as answer
use Rattle.cta_model.specs.declared.entries.Entry.{Entry}
use Rattle.cta_model.specs.declared.states.RepackCopy.{RepackCopy}
use Rattle.cta_model.specs.History.{History, moment_of}
use Rattle.cta_model.specs.Files.{entry_path, path_in, path_of}
use Rattle.cta_model.specs.Repacks.{Repack, item_after, new_item, repack_after, repack_by, repack_of}
use Rattle.cta_model.specs.Legal.{IsLegal}
use Rattle.cta_laws.specs.Asks.{AnswerIs}
use Rattle.cta_laws.proofs.Accepted.{answer_is}
use Rattle.cta_laws.proofs.Claims.{AllOf}
use Rattle.cta_laws.proofs.Paths.{no_entry}
use Rattle.cta_laws.proofs.PlaceLaw.{path_older}
use Rattle.cta_laws.proofs.RepackLaw.{ItemStands, items_stand, repack_low}
use Rattle.cta_laws.proofs.Tests.{bool_cases}
use Rattle.repack_book.specs.NamedRepacks.{NamedRepacks, NamesAgree, names_in}
use Rattle.archive_parts.specs.Called.{RepackNamesCalled}
use Rattle.archive_parts.specs.PartsKept.{names_of_repack}

-- the book has the names of the repacks of a history
abbrev pub HasNames : Site → History → NamedRepacks → Type 0
HasNames site h w = (id : ℕ) → names_in w id ≡ option_map (names_of_repack site h) (repack_of site h id)

-- ---- paths stay

paths_kept : (site : Site) (e : Entry) (h : History) (id : ℕ) (xs : List RepackCopy) → AllOf (ItemStands site h id) xs → map (λ (i : RepackCopy). path_of (e ∷ h) i.file) (map (item_after site (e ∷ h) e.ask) xs) ≡ map (λ (i : RepackCopy). path_of h i.file) xs
paths_kept site e h id [] all = refl
paths_kept site e h id (i ∷ xs) all =
    ap (λ (p : List ℕ). p ∷ map (λ (i : RepackCopy). path_of (e ∷ h) i.file) (map (item_after site (e ∷ h) e.ask) xs)) (path_older e h i.file all.0.low)
    ∙ ap (λ (ps : List (List ℕ)). path_of h i.file ∷ ps) (paths_kept site e h id xs all.1)

names_kept : (site : Site) (e : Entry) (h : History) (id : ℕ) (o : Option Repack) → repack_of site h id ≡ o → IsLegal site h → option_map (names_of_repack site (e ∷ h)) (option_map (repack_after site (e ∷ h) e.ask) o) ≡ option_map (names_of_repack site h) o
names_kept site e h id None is legal = refl
names_kept site e h id (Some r) is legal =
    ap (λ (ps : List (List ℕ)). Some (record { vid = vid_of site r.tape; paths = ps })) (paths_kept site e h id r.items (items_stand site h legal id r is))

none_yet : (site : Site) (h : History) (id : ℕ) → length h + 1 ≡ id → repack_of site h id ≡ None
none_yet site h id is = by (repack_of site h id) refl
  where
    by : (o : Option Repack) → repack_of site h id ≡ o → o ≡ None
    by None at = refl
    by (Some r) at = (let low : id ≤ length h = repack_low site h id (ap is_some at) in absurd (omega arith))

-- ---- an entry that makes no repack

quiet_names : (site : Site) (h : History) (e : Entry) (k : Ask) (a : Answer) (w w' : NamedRepacks) → e.ask ≡ k → e.answer ≡ a → repack_by h k a ≡ None → IsLegal site h → NamesAgree w' w → HasNames site h w → HasNames site (e ∷ h) w'
quiet_names site h e k a w w' ek ea none legal agree has id =
    elim (bool_cases (length h + 1 == id)) [
      | inl hit ↦ rw hit (agree id ∙ has id ∙ ap (option_map (names_of_repack site h)) (none_yet site h id (eqb-true _ _ hit)) ∙ sym (ap (option_map (names_of_repack site (e ∷ h))) (is_none ek ea)))
      | inr miss ↦ rw miss (agree id ∙ has id ∙ sym (names_kept site e h id (repack_of site h id) refl legal))
    ]
  where
    is_none : e.ask ≡ k → e.answer ≡ a → repack_by h e.ask e.answer ≡ None
    is_none p q = ap (λ (x : Ask). repack_by h x e.answer) p ∙ ap (λ (x : Answer). repack_by h k x) q ∙ none

-- ---- a Repack

-- an entry that puts no file leaves the path of each number
path_stays : (e : Entry) (h : History) (f : ℕ) → path_in e.ask ≡ [] → path_of (e ∷ h) f ≡ path_of h f
path_stays e h f no_put =
    elim (bool_cases (f == length h + 1)) [
      | inl hit ↦ rw hit (no_put ∙ sym (ap entry_path (no_entry h f (later (eqb-true _ _ hit)))))
      | inr miss ↦ rw miss refl
    ]
  where
    later : f ≡ length h + 1 → length h < f
    later is = omega (arith, is)

new_paths : (e : Entry) (h : History) (js : List Job) → path_in e.ask ≡ [] → map (λ (i : RepackCopy). path_of (e ∷ h) i.file) (map (new_item h) js) ≡ map (λ (j : Job). path_of h j.file) js
new_paths e h [] no_put = refl
new_paths e h (j ∷ js) no_put =
    ap (λ (p : List ℕ). p ∷ map (λ (i : RepackCopy). path_of (e ∷ h) i.file) (map (new_item h) js)) (path_stays e h j.file no_put)
    ∙ ap (λ (ps : List (List ℕ)). path_of h j.file ∷ ps) (new_paths e h js no_put)

made_names : (site : Site) (h : History) (e : Entry) (who : Who) (v : ℕ) (items : Listed Job) (w w' : NamedRepacks) → e.ask ≡ ask.Repack who v → e.answer ≡ answer.Repacking (length h + 1) items → IsLegal site h
    → ((q : ℕ) → names_in w' q ≡ (if length h + 1 == q then Some (record { vid = vid_of site v; paths = map (λ (j : Job). path_of h j.file) items.items }) else names_in w q))
    → HasNames site h w → HasNames site (e ∷ h) w'
made_names site h e who v items w w' ek ea legal added has id =
    elim (bool_cases (length h + 1 == id)) [
      | inl hit ↦ rw hit ((added id ∙ ap (λ (b : Bool). if b then Some (record { vid = vid_of site v; paths = map (λ (j : Job). path_of h j.file) items.items }) else names_in w id) hit) ∙ sym (ap (option_map (names_of_repack site (e ∷ h))) made ∙ ap (λ (ps : List (List ℕ)). Some (record { vid = vid_of site v; paths = ps })) (new_paths e h items.items (ap path_in ek))))
      | inr miss ↦ rw miss ((added id ∙ ap (λ (b : Bool). if b then Some (record { vid = vid_of site v; paths = map (λ (j : Job). path_of h j.file) items.items }) else names_in w id) miss) ∙ has id ∙ sym (names_kept site e h id (repack_of site h id) refl legal))
    ]
  where
    made : repack_by h e.ask e.answer ≡ Some (record { tape = v; items = map (new_item h) items.items })
    made = ap (λ (x : Ask). repack_by h x e.answer) ek ∙ ap (λ (x : Answer). repack_by h (ask.Repack who v) x) ea

-- ---- each entry

repack_number : (site : Site) (h : History) (e : Entry) (who : Who) (v id : ℕ) (items : Listed Job) → IsLegal site (e ∷ h) → e.ask ≡ ask.Repack who v → e.answer ≡ answer.Repacking id items → id ≡ length h + 1
repack_number site h e who v id items legal ek ea =
    let is : AnswerIs site h (moment_of h e.at) e.ask e.answer = answer_is site h e.at e.ask e.answer legal.1.answered legal.1.accepted in
    let told : AnswerIs site h (moment_of h e.at) (ask.Repack who v) (answer.Repacking id items) = subst (λ (a : Answer). AnswerIs site h (moment_of h e.at) (ask.Repack who v) a) ea (subst (λ (k : Ask). AnswerIs site h (moment_of h e.at) k e.answer) ek is) in
    ap number_in told.0
  where
    number_in : Answer → ℕ
    number_in (answer.Repacking n items) = n
    number_in _ = length h + 1

pub names_move : (site : Site) (h : History) (e : Entry) (k : Ask) (a : Answer) (w w' : NamedRepacks) → e.ask ≡ k → e.answer ≡ a → IsLegal site (e ∷ h) → RepackNamesCalled site h k a w w' → HasNames site h w → HasNames site (e ∷ h) w'
names_move site h e (ask.Repack who v) (answer.Repacking id items) w w' ek ea legal called has =
    let n : id ≡ length h + 1 = repack_number site h e who v id items legal ek ea in
    made_names site h e who v items w w' ek (ea ∙ ap (λ (m : ℕ). answer.Repacking m items) n) legal.0
    (subst (λ (m : ℕ). (q : ℕ) → names_in w' q ≡ (if m == q then Some (record { vid = vid_of site v; paths = map (λ (j : Job). path_of h j.file) items.items }) else names_in w q)) n called) has
names_move site h e k a w w' ek ea legal called has = quiet_names site h e k a w w' ek ea refl legal.0 called has
