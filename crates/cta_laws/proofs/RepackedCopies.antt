-- What is flushed is a copy from 1, and the items of a repack are the copies that have their places on its tape.
use Rattle.std.proofs.Common.{◌≡◌, ◌∙◌, ℕ, ◌≤◌, inl, inr, List, [], ◌∷◌, Bool, true, false, ◌&&◌, refl, sym, ap, subst, arith}
use Rattle.std.specs.Prelude.{Option, Some, None, ◌==◌}
use Rattle.std.specs.List.{list_any}
use Rattle.std.proofs.lemmas.Bool.{and_from, and_parts, eqb-true, eq-eqb}
use Rattle.cta_site.specs.declared.site.Site.{Site}
use Rattle.cta_model.specs.declared.asks.Ask.{Ask}
use Rattle.cta_model.specs.declared.asks.Ask.TheVariants as ask
use Rattle.cta_model.specs.declared.answers.Answer.{Answer}
use Rattle.cta_model.specs.declared.answers.Answer.TheVariants as answer
use Rattle.cta_model.specs.declared.asks.Direction.TheVariants as direction
use Rattle.cta_model.specs.declared.asks.Item.{Item}
use Rattle.cta_model.specs.declared.asks.Job.{Job}
use Rattle.cta_model.specs.declared.states.Place.{Place}
use Rattle.cta_model.specs.History.{History}
use Rattle.cta_model.specs.Mounts.{asked_mount, claimed_items, claims, has_copy, item_jobs, job_of, mount_of, tape_of_mount}
use Rattle.cta_model.specs.Tapes.{tape_items}
use Rattle.cta_model.specs.Places.{all_places, flushed_in, fseq_after, has_place_on, is_at, last_flushed, live_items_on, place_of}
use Rattle.cta_model.specs.RepackItems.{repack_items}
use Rattle.cta_model.specs.Answers.{answer_of, claims_all, is_accepted}
use Rattle.cta_model.specs.Legal.{IsFit, IsLegal, IsMountOf}
use Rattle.cta_laws.specs.Places.{is_item_of}
use Rattle.cta_laws.proofs.Tests.{or_cases, or_left, or_right}
use Rattle.cta_laws.proofs.Bools.{same_bool}
use Rattle.cta_laws.proofs.EndLaw.{job_among}
use Rattle.cta_laws.proofs.KeyLaw.{any_place, place_any}
use Rattle.cta_laws.proofs.Loads.{known_parts}
use Rattle.cta_laws.proofs.PlaceLaw.{flushed_known, live_place, place_cases, places_on_tape, put_member}
use Rattle.cta_laws.proofs.RangeLaw.{flushed_in_range}
use Rattle.cta_laws.proofs.Ranges.{any_filter, any_map, any_mono, some_any}
use Rattle.cta_laws.proofs.Ways.{claimed_way, writes_some}

-- ---- what is flushed is no recall

-- of items that a writing mount claims, each is of a copy from 1
claimed_copy : (site : Site) (h : History) → IsLegal site h → (m f c s : ℕ) → IsMountOf direction.Archive (mount_of h m) → (items : List Item) → claims_all h m (item_jobs items) ≡ true → list_any (is_item_of f c s) items ≡ true → 1 ≤ c
claimed_copy site h legal m f c s way [] all there = absurd (cc)
claimed_copy site h legal m f c s way (i ∷ items) all there =
    let parts : (claims h m i.job ≡ true) × (claims_all h m (item_jobs items) ≡ true) = and_parts _ _ all in
    elim (or_cases (is_item_of f c s i) _ there) [
      | inl hit ↦
          (let copy : i.job.copy ≡ c = eqb-true _ _ (and_parts (i.job.copy == c) _ (and_parts (i.job.file == f) _ hit).1).0 in
          subst (λ (k : ℕ). 1 ≤ k) copy (writes_some (mount_of h m) i.job way (job_among _ (claimed_items h m) (claimed_way site h legal m) i.job parts.0)))
      | inr rest ↦ claimed_copy site h legal m f c s way items parts.1 rest
    ]

new_copy : (site : Site) (h : History) (t f c s : ℕ) (k : Ask) (a : Answer) → IsLegal site h → IsFit site h k → a ≡ answer_of site h t k → is_accepted a ≡ true → fseq_after (flushed_in k a) f c None ≡ Some s → 1 ≤ c
new_copy site h t f c s (ask.Flushed m items) (answer.Told fates) legal fit is y e =
    let claimed : claims_all h m (item_jobs items.items) ≡ true = (known_parts h m (item_jobs items.items) (flushed_known site h t m items (answer.Told fates) is y).0).1.0 in
    elim (put_member items.items fates.items f c None s e) [ inl there ↦ claimed_copy site h legal m f c s fit items.items claimed there | inr old ↦ absurd (cc) ]
new_copy site h t f c s _ a legal fit is y e = absurd (cc)

-- a copy that was flushed is numbered from 1
pub flushed_from : (site : Site) (h : History) → IsLegal site h → (f c : ℕ) (p : Place) → last_flushed h f c ≡ Some p → 1 ≤ c
flushed_from site [] legal f c p is = absurd (cc)
flushed_from site (e ∷ h) legal f c p is =
    elim (place_cases c (tape_of_mount h (asked_mount e.ask)) (fseq_after (flushed_in e.ask e.answer) f c None) (last_flushed h f c) p is)
    [ inl new ↦ new_copy site h e.at f c p.fseq e.ask e.answer legal.0 legal.1.fit legal.1.answered legal.1.accepted new.0 | inr old ↦ flushed_from site h legal.0 f c p old.1 ]

-- ---- the items of a repack

-- whether a place is on the tape
abbrev pub is_on : ℕ → Option Place → Bool
is_on v None = false
is_on v (Some p) = p.tape == v

at_on : (v s : ℕ) (o : Option Place) → is_at v s o ≡ true → is_on v o ≡ true
at_on v s None e = absurd (cc)
at_on v s (Some p) e = (and_parts (p.tape == v) _ e).0

pub on_some : (v : ℕ) (o : Option Place) → is_on v o ≡ true → (p : Place) × (o ≡ Some p) × (p.tape == v ≡ true)
on_some v None e = absurd (cc)
on_some v (Some p) e = (p, refl, e)

-- a copy is an item of a repack of the tape where its place is there
pub repacked_copy : (site : Site) (h : History) → IsLegal site h → (v f c : ℕ) → has_copy f c (repack_items h v) ≡ is_on v (place_of h f c)
repacked_copy site h legal v f c =
    any_map (λ (j : Job). j.file == f && j.copy == c) (λ (i : Item). job_of 0 i.job.file i.job.copy) (live_items_on h v)
    ∙ any_filter (λ (i : Item). i.job.file == f && i.job.copy == c) (λ (i : Item). is_at v i.fseq (place_of h i.job.file i.job.copy)) (tape_items h v)
    ∙ same_bool (list_any is_this (tape_items h v)) (is_on v (place_of h f c)) (λ e. found e) (λ e. there e)
  where
    is_this : Item → Bool
    is_this i = is_at v i.fseq (place_of h i.job.file i.job.copy) && (i.job.file == f && i.job.copy == c)

    found : list_any is_this (tape_items h v) ≡ true → is_on v (place_of h f c) ≡ true
    found e =
        (let x = some_any is_this (tape_items h v) e in
        let parts = and_parts (is_at v x.0.fseq (place_of h x.0.job.file x.0.job.copy)) _ x.1 in
        let both = and_parts (x.0.job.file == f) _ parts.1 in
        let here : place_of h x.0.job.file x.0.job.copy ≡ place_of h f c = ap (λ (n : ℕ). place_of h n x.0.job.copy) (eqb-true _ _ both.0) ∙ ap (place_of h f) (eqb-true _ _ both.1) in
        at_on v x.0.fseq (place_of h f c) (subst (λ (o : Option Place). is_at v x.0.fseq o ≡ true) here parts.0))

    there : is_on v (place_of h f c) ≡ true → list_any is_this (tape_items h v) ≡ true
    there e =
        (let p = on_some v (place_of h f c) e in
        let item : list_any (is_item_of f c p.0.fseq) (tape_items h v) ≡ true = subst (λ (u : ℕ). list_any (is_item_of f c p.0.fseq) (tape_items h u) ≡ true) (eqb-true _ _ p.2) (places_on_tape site h legal f c p.0 p.1) in
        any_mono (is_item_of f c p.0.fseq) is_this (tape_items h v) (λ i says. this p.0 i p.1 p.2 says) item)
      where
        this : (p : Place) (i : Item) → place_of h f c ≡ Some p → p.tape == v ≡ true → is_item_of f c p.fseq i ≡ true → is_this i ≡ true
        this p i is on says =
            (let file = and_parts (i.job.file == f) _ says in
            let copy = and_parts (i.job.copy == c) _ file.1 in
            let here : place_of h i.job.file i.job.copy ≡ Some p = ap (λ (n : ℕ). place_of h n i.job.copy) (eqb-true _ _ file.0) ∙ ap (place_of h f) (eqb-true _ _ copy.0) ∙ is in
            and_from _ _ (ap (is_at v i.fseq) here ∙ and_from _ _ on (eq-eqb p.fseq i.fseq (sym (eqb-true _ _ copy.1)))) (and_from _ _ file.0 copy.0))

-- no recall is an item of a repack
pub repacked_none : (site : Site) (h : History) → IsLegal site h → (v f : ℕ) → has_copy f 0 (repack_items h v) ≡ false
repacked_none site h legal v f = repacked_copy site h legal v f 0 ∙ by (place_of h f 0) refl
  where
    by : (o : Option Place) → place_of h f 0 ≡ o → is_on v o ≡ false
    by None is = refl
    by (Some p) is = (let low : 1 ≤ 0 = flushed_from site h legal f 0 p (live_place h f 0 p is).1 in absurd (omega arith))

-- the files of the items of a repack are those with a place on the tape
pub repacked_file : (site : Site) (h : History) → IsLegal site h → (v f : ℕ) → list_any (λ (j : Job). f == j.file) (repack_items h v) ≡ has_place_on v (all_places site h f)
repacked_file site h legal v f = same_bool (list_any (λ (j : Job). f == j.file) (repack_items h v)) (has_place_on v (all_places site h f)) (λ e. found e) (λ e. there e)
  where
    named : (js : List Job) → list_any (λ (j : Job). f == j.file) js ≡ true → (c : ℕ) × (has_copy f c js ≡ true)
    named [] e = absurd (cc)
    named (j ∷ js) e =
        elim (or_cases (f == j.file) _ e) [
          | inl hit ↦ (j.copy, or_left _ _ (and_from _ _ (eq-eqb j.file f (sym (eqb-true f j.file hit))) (eq-eqb j.copy j.copy refl)))
          | inr more ↦ (let c = named js more in (c.0, or_right _ _ c.1))
        ]

    found : list_any (λ (j : Job). f == j.file) (repack_items h v) ≡ true → has_place_on v (all_places site h f) ≡ true
    found e =
        (let c = named (repack_items h v) e in
        let p = on_some v (place_of h f c.0) (sym (repacked_copy site h legal v f c.0) ∙ c.1) in
        let flushed : last_flushed h f c.0 ≡ Some p.0 = (live_place h f c.0 p.0 p.1).1 in
        place_any (λ (x : Place). x.tape == v) site h f c.0 p.0 (flushed_from site h legal f c.0 p.0 flushed) (flushed_in_range site h legal f c.0 p.0 flushed).2 p.1 p.2)

    there : has_place_on v (all_places site h f) ≡ true → list_any (λ (j : Job). f == j.file) (repack_items h v) ≡ true
    there e =
        (let x = any_place (λ (x : Place). x.tape == v) site h f e in
        let item : has_copy f x.0 (repack_items h v) ≡ true = repacked_copy site h legal v f x.0 ∙ ap (is_on v) x.4 ∙ x.5 in
        any_mono (λ (j : Job). j.file == f && j.copy == x.0) (λ (j : Job). f == j.file) (repack_items h v) (λ j says. eq-eqb f j.file (sym (eqb-true j.file f (and_parts (j.file == f) _ says).0))) item)
