-- The archive jobs that a Recalled bears, and the recalls that a TapeState leaves.
use Rattle.std.proofs.Common.{◌≡◌, ◌∙◌, ℕ, zero, suc, ◌+◌, ◌≤◌, ◌⊎◌, inl, inr, List, [], ◌∷◌, Bool, true, false, ◌&&◌, not, refl, sym, ap, subst, arith, length, nat_le, nat_lt, le-leb, lt-ltb}
use Rattle.std.specs.Prelude.{Option, Some, None, is_none, is_some, option_map, if◌then◌else◌, ◌==◌, filter, slice_get}
use Rattle.std.proofs.lemmas.Bool.{and_parts, eqb-true, eq-eqb, and_from}
use Rattle.cta_site.specs.declared.site.Site.{Site}
use Rattle.cta_site.specs.declared.site.TapeState.{TapeState}
use Rattle.cta_model.specs.declared.entries.Entry.{Entry}
use Rattle.cta_model.specs.declared.asks.Ask.{Ask}
use Rattle.cta_model.specs.declared.asks.Who.{Who}
use Rattle.cta_model.specs.declared.asks.Job.{Job}
use Rattle.cta_model.specs.declared.states.Place.{Place}
use Rattle.cta_model.specs.History.{History, is_number, is_empty}
use Rattle.cta_model.specs.Files.{is_live, copies_of_file}
use Rattle.cta_model.specs.Mounts.{has_job, same_direction, claimer_of, has_copy, job_of}
use Rattle.cta_model.specs.Tapes.{tape_state, state_after, is_broken, may_be_read}
use Rattle.cta_model.specs.Places.{place_of, places_of, all_places, has_place_on, last_flushed}
use Rattle.cta_model.specs.Recalls.{Recall, live_recall, recall_after, recall_goes_on, lives_unless}
use Rattle.cta_model.specs.Jobs.{is_live_job, live_birth}
use Rattle.cta_model.specs.RepackItems.{is_repacked, waiting_for}
use Rattle.cta_model.specs.Queues.{sources_of, or_else, key_of, key_by, direction_of, way_by}
use Rattle.cta_model.specs.Answers.{names_twice}
use Rattle.cta_model.specs.Legal.{IsLegal}
use Rattle.cta_laws.proofs.Claims.{all_mono}
use Rattle.cta_laws.proofs.RangeLaw.{waiting_range}
use Rattle.cta_laws.proofs.OnceLaw.{birth_in}
use Rattle.cta_laws.proofs.KeyLaw.{live_job_has_key}
use Rattle.cta_model.specs.declared.asks.Ask.TheVariants as ask
use Rattle.cta_model.specs.declared.asks.Fate.TheVariants as fate
use Rattle.cta_model.specs.declared.asks.Direction.TheVariants as direction
use Rattle.cta_model.specs.declared.answers.Answer.TheVariants as answer
use Rattle.part_laws.specs.Ends.{repacked_jobs}
use Rattle.part_laws.proofs.CopyJobs.{IsSomeCopy, some_all, some_has, some_order}
use Rattle.part_laws.proofs.Orders.{not_either}
use Rattle.part_laws.specs.JobParts.{JobParts, JobPartsStand}
use Rattle.part_laws.specs.RecallLaws.{TapeStateMovesParts}
use Rattle.part_laws.specs.RecallParts.{after_recalled, after_state}
use Rattle.part_laws.proofs.ReadParts.{parts_recalled, parts_tape_state}
use Rattle.part_laws.proofs.PartSteps.{order_once}
use Rattle.cta_laws.proofs.FileFrames.{all_places_same}
use Rattle.cta_laws.proofs.Frames.{charges_same, flushed_same, is_live_same, recall_key_kept}
use Rattle.cta_laws.specs.Changes.{may_change_files, may_charge, may_flush}
use Rattle.part_laws.proofs.QueueSteps.{live_low}
use Rattle.part_laws.specs.Queued.{waits_in_queue}

-- ---- Recalled

repacked_all : (site : Site) (h : History) (b f g c : ℕ) → IsLegal site h → has_copy g (suc c) (repacked_jobs site h b f) ≡ ((f == g) && is_repacked site h f (suc c))
repacked_all site h b f g c legal = some_has (is_repacked site h f) b f g (suc c) 1 (copies_of_file site h f) ∙ ap (λ (t : Bool). (f == g) && t) (within (is_repacked site h f (suc c)) refl)
  where
    within : (t : Bool) → is_repacked site h f (suc c) ≡ t → (t && (nat_le 1 (suc c) && nat_lt (suc c) (1 + copies_of_file site h f))) ≡ t
    within false is = refl
    within true is =
        (let fits : suc c ≤ copies_of_file site h f = (waiting_range site h legal f (suc c) (waiting_for (live_recall site h f)) is).2 in
        and_from _ _ (le-leb 1 (suc c) (omega arith)) (lt-ltb (suc c) (1 + copies_of_file site h f) (omega arith)))

repacked_none : (site : Site) (h : History) (b f g : ℕ) → has_copy g 0 (repacked_jobs site h b f) ≡ false
repacked_none site h b f g = some_has (is_repacked site h f) b f g 0 1 (copies_of_file site h f) ∙ none (f == g) (is_repacked site h f 0)
  where
    none : (x y : Bool) → (x && (y && (nat_le 1 0 && nat_lt 0 (1 + copies_of_file site h f)))) ≡ false
    none true true = refl
    none true false = refl
    none false y = refl

-- a Recalled moves the parts by the repacked copies of its file
pub parts_recalled_by : (site : Site) (h : History) (e : Entry) (m : ℕ) (job : Job) (p : JobParts) → IsLegal site (e ∷ h) → e.ask ≡ ask.Recalled m job → e.answer ≡ answer.Arrived fate.Done
    → JobPartsStand site h p → JobPartsStand site (e ∷ h) (after_recalled site h (e ∷ h) job (repacked_jobs site h (length h + 1) job.file) p)
parts_recalled_by site h e m job p legal ek ea s =
    parts_recalled site h e m job (repacked_jobs site h (length h + 1) job.file) p legal ek ea
    (all_mono (IsSomeCopy (is_repacked site h job.file) (length h + 1) job.file 1) (λ (j : Job). j.birth ≡ length h + 1) (repacked_jobs site h (length h + 1) job.file) (λ j q. q.0) (some_all (is_repacked site h job.file) (length h + 1) job.file 1 (copies_of_file site h job.file)))
    (order_once (repacked_jobs site h (length h + 1) job.file) (some_order (is_repacked site h job.file) (length h + 1) job.file 1 (copies_of_file site h job.file)))
    (λ f. repacked_none site h (length h + 1) job.file f)
    (λ f c. repacked_all site h (length h + 1) job.file f c legal.0 ∙ same f c (job.file == f) refl) s
  where
    same : (f c : ℕ) (t : Bool) → (job.file == f) ≡ t → (t && is_repacked site h job.file (suc c)) ≡ (t && is_repacked site h f (suc c))
    same f c true hit = ap (λ (n : ℕ). is_repacked site h n (suc c)) (eqb-true job.file f hit)
    same f c false miss = refl

-- ---- TapeState

filter_where : (p q : Place → Bool) (v : ℕ) (ps : List Place) → has_place_on v ps ≡ false → ((x : Place) → (x.tape == v) ≡ false → p x ≡ q x) → filter p ps ≡ filter q ps
filter_where p q v [] none same = refl
filter_where p q v (x ∷ ps) none same =
    (let parts : (x.tape == v ≡ false) × (has_place_on v ps ≡ false) = not_either (x.tape == v) (has_place_on v ps) none in
    rw (same x parts.0) (rw (filter_where p q v ps parts.1 same) refl))

filter_lacks : (test : Place → Bool) (v : ℕ) (ps : List Place) → has_place_on v ps ≡ false → has_place_on v (filter test ps) ≡ false
filter_lacks test v [] none = refl
filter_lacks test v (x ∷ ps) none =
    (let parts : (x.tape == v ≡ false) × (has_place_on v ps ≡ false) = not_either (x.tape == v) (has_place_on v ps) none in
    elim (test x) as (λ b. has_place_on v (if b then x ∷ filter test ps else filter test ps) ≡ false) [ true ↦ rw parts.0 (filter_lacks test v ps parts.1) | false ↦ filter_lacks test v ps parts.1 ])

other_state : (site : Site) (h : History) (e : Entry) (who : Who) (v : ℕ) (s : TapeState) (u : ℕ) → e.ask ≡ ask.TapeState who v s → (u == v) ≡ false → tape_state site (e ∷ h) u ≡ tape_state site h u
other_state site h e who v s u ek d = ap (λ (k : Ask). state_after k u (tape_state site h u)) ek ∙ (let flip : (v == u) ≡ false = grind arith in rw flip refl)

-- a TapeState of a tape that has no place of a file leaves the file's places and sources
pub state_leaves : (site : Site) (h : History) (e : Entry) (who : Who) (v : ℕ) (s : TapeState) (f : ℕ) → e.ask ≡ ask.TapeState who v s → f ≤ length h → has_place_on v (all_places site h f) ≡ false
    → (places_of site (e ∷ h) f ≡ places_of site h f) × (sources_of site (e ∷ h) f ≡ sources_of site h f)
state_leaves site h e who v s f ek low none = (places, sources)
  where
    place : (c : ℕ) → place_of (e ∷ h) f c ≡ place_of h f c
    place c = (let live : is_live (e ∷ h) f ≡ is_live h f = is_live_same e h f low (ap may_change_files ek) in let flushed : last_flushed (e ∷ h) f c ≡ last_flushed h f c = flushed_same e h f c (ap may_flush ek) in rw (live, flushed) refl)

    all : all_places site (e ∷ h) f ≡ all_places site h f
    all = all_places_same site e h f low place

    places : places_of site (e ∷ h) f ≡ places_of site h f
    places =
        ap (filter (λ (p : Place). not (is_broken (tape_state site (e ∷ h) p.tape)))) all
        ∙ filter_where (λ (p : Place). not (is_broken (tape_state site (e ∷ h) p.tape))) (λ (p : Place). not (is_broken (tape_state site h p.tape))) v (all_places site h f) none (λ x d. ap (λ (t : TapeState). not (is_broken t)) (other_state site h e who v s x.tape ek d))

    lacks : has_place_on v (places_of site h f) ≡ false
    lacks = filter_lacks (λ (p : Place). not (is_broken (tape_state site h p.tape))) v (all_places site h f) none

    sources : sources_of site (e ∷ h) f ≡ sources_of site h f
    sources =
        ap (λ (ps : List Place). or_else (filter (λ (p : Place). may_be_read (tape_state site (e ∷ h) p.tape)) ps) ps) places
        ∙ ap (λ (ps : List Place). or_else ps (places_of site h f)) (filter_where (λ (p : Place). may_be_read (tape_state site (e ∷ h) p.tape)) (λ (p : Place). may_be_read (tape_state site h p.tape)) v (places_of site h f) lacks (λ x d. ap may_be_read (other_state site h e who v s x.tape ek d)))

-- a live recall's file has a place
has_source : (xs : List Place) (n : ℕ) → is_some (option_map (λ (p : Place). p.tape) (slice_get xs n)) ≡ true → is_empty xs ≡ false
has_source [] n e = absurd (cc)
has_source (x ∷ xs) n e = refl

or_else_empty : (xs ys : List Place) → is_empty (or_else xs ys) ≡ false → (is_empty xs ≡ false) ⊎ (is_empty ys ≡ false)
or_else_empty [] ys e = inr e
or_else_empty (x ∷ xs) ys e = inl refl

filter_some : (test : Place → Bool) (ps : List Place) → is_empty (filter test ps) ≡ false → is_empty ps ≡ false
filter_some test [] e = absurd (cc)
filter_some test (p ∷ ps) e = refl

pub recall_has_place : (site : Site) (h : History) → IsLegal site h → (f : ℕ) (r : Recall) → live_recall site h f ≡ Some r → is_empty (places_of site h f) ≡ false
recall_has_place site h legal f r is =
    (let live : is_live_job site h (job_of r.birth f 0) ≡ true = subst (λ (o : Option Recall). is_number r.birth (birth_in o) ≡ true) (sym is) (eq-eqb r.birth r.birth refl) in
    let key : is_some (key_of site h (job_of r.birth f 0)) ≡ true = live_job_has_key site h legal (job_of r.birth f 0) live in
    elim (or_else_empty (filter (λ (p : Place). may_be_read (tape_state site h p.tape)) (places_of site h f)) (places_of site h f) (has_source (sources_of site h f) _ key))
    [ inl a ↦ filter_some (λ (p : Place). may_be_read (tape_state site h p.tape)) (places_of site h f) a | inr b ↦ b ])

state_recall : (site : Site) (h : History) (e : Entry) (who : Who) (v : ℕ) (s : TapeState) (f : ℕ) (r : Recall) → e.ask ≡ ask.TapeState who v s → is_empty (places_of site (e ∷ h) f) ≡ false → recall_after site h e f (Some r) ≡ Some r
state_recall site h e who v s f r ek some = ap (λ (k : Ask). recall_goes_on site h e f r k e.answer) ek ∙ ap (λ (b : Bool). lives_unless b r) some

-- a queued recall of a file that has no place on the tape lives on under its key
pub state_others : (site : Site) (h : History) (e : Entry) (who : Who) (v : ℕ) (s : TapeState) (j : Job) → IsLegal site (e ∷ h) → e.ask ≡ ask.TapeState who v s → waits_in_queue site h j ≡ true → has_place_on v (all_places site h j.file) ≡ false
    → (is_live_job site (e ∷ h) j ≡ true) × (key_of site (e ∷ h) j ≡ key_of site h j)
state_others site h e who v s j legal ek waits none = (by (live_recall site h j.file) refl on, key)
  where
    parts : (is_live_job site h j ≡ true) × ((same_direction direction.Retrieve (direction_of j) && is_none (claimer_of h j)) ≡ true)
    parts = and_parts (is_live_job site h j) _ waits

    goes : (c : ℕ) → same_direction direction.Retrieve (way_by c) ≡ true → c ≡ 0
    goes zero x = refl
    goes (suc c) x = absurd (cc)

    copy : j.copy ≡ 0
    copy = goes j.copy (and_parts (same_direction direction.Retrieve (direction_of j)) _ parts.1).0

    on : is_number j.birth (birth_in (live_recall site h j.file)) ≡ true
    on = subst (λ (c : ℕ). is_number j.birth (live_birth site h j.file c) ≡ true) copy parts.0

    low : j.file ≤ length h
    low = live_low site h legal.0 j parts.0

    same : (places_of site (e ∷ h) j.file ≡ places_of site h j.file) × (sources_of site (e ∷ h) j.file ≡ sources_of site h j.file)
    same = state_leaves site h e who v s j.file ek low none

    by : (o : Option Recall) → live_recall site h j.file ≡ o → is_number j.birth (birth_in o) ≡ true → is_live_job site (e ∷ h) j ≡ true
    by None is x = absurd (cc)
    by (Some r) is x =
        (let some : is_empty (places_of site (e ∷ h) j.file) ≡ false = ap is_empty same.0 ∙ recall_has_place site h legal.0 j.file r is in
        let now : live_recall site (e ∷ h) j.file ≡ Some r = ap (recall_after site h e j.file) is ∙ state_recall site h e who v s j.file r ek some in
        let live : is_number j.birth (live_birth site (e ∷ h) j.file 0) ≡ true = ap (λ (o : Option Recall). is_number j.birth (birth_in o)) now ∙ x in
        subst (λ (c : ℕ). is_number j.birth (live_birth site (e ∷ h) j.file c) ≡ true) (sym copy) live)

    key : key_of site (e ∷ h) j ≡ key_of site h j
    key = subst (λ (c : ℕ). key_by c site (e ∷ h) j ≡ key_by c site h j) (sym copy) (recall_key_kept site e h j same.1 (charges_same e h j (ap may_charge ek)))

-- a TapeState moves the parts by the queued recalls of the files that have a place on the tape
pub parts_tape_state_by : (site : Site) (h : History) (e : Entry) (who : Who) (v : ℕ) (s : TapeState) (moved ended : List Job) (p : JobParts) → IsLegal site (e ∷ h) → e.ask ≡ ask.TapeState who v s → names_twice moved ≡ false
    → ((j : Job) → has_job j moved ≡ (waits_in_queue site h j && has_place_on v (all_places site h j.file)))
    → ((f c : ℕ) → has_copy f (suc c) ended ≡ false) → ((f : ℕ) → is_some (live_recall site h f) ≡ true → has_copy f 0 ended ≡ is_empty (places_of site (e ∷ h) f))
    → JobPartsStand site h p → JobPartsStand site (e ∷ h) (after_state site (e ∷ h) moved ended p)
parts_tape_state_by site h e who v s moved ended p legal ek once has no_archive_job lost stand =
    parts_tape_state site h e who v s moved ended p legal ek once
    (λ j there. first (waits_in_queue site h j) _ (sym (has j) ∙ there))
    (λ j waits none. state_others site h e who v s j legal ek waits (second (waits_in_queue site h j) (has_place_on v (all_places site h j.file)) waits (sym (has j) ∙ none)))
    no_archive_job lost stand
  where
    first : (a b : Bool) → (a && b) ≡ true → a ≡ true
    first true b x = refl
    first false b x = absurd (cc)

    second : (a b : Bool) → a ≡ true → (a && b) ≡ false → b ≡ false
    second true b x y = y
    second false b x y = absurd (cc)

pub tape_state_moves_parts : TapeStateMovesParts
tape_state_moves_parts site h e who v s moved ended p legal ek are stand = parts_tape_state_by site h e who v s moved ended p legal ek are.once are.queued are.recalls_alone are.placeless stand
