-- The calls of the buffer for a completed recall, for ends of archive jobs, and for a Repack.
use Rattle.std.proofs.Common.{◌≡◌, ℕ, zero, suc, ◌+◌, ◌≤◌, inl, inr, List, [], ◌∷◌, ◌++◌, Bool, true, false, ◌||◌, not, refl, sym, ◌∙◌, ap, subst, arith, length}
use Rattle.std.specs.Prelude.{Option, Some, None, if◌then◌else◌, ◌==◌, ◌&&◌, map, nat_lt}
use Rattle.std.specs.List.{list_any, flat_map}
use Rattle.std.proofs.lemmas.Bool.{and_parts, or_parts, eqb-true, eq-eqb}
use Rattle.cta_site.specs.declared.site.Site.{Site}
use Rattle.cta_model.specs.declared.entries.Entry.{Entry}
use Rattle.cta_model.specs.declared.asks.Ask.{Ask}
use Rattle.cta_model.specs.declared.asks.Ask.TheVariants as ask
use Rattle.cta_model.specs.declared.asks.Fate.TheVariants as fate
use Rattle.cta_model.specs.declared.asks.Job.{Job}
use Rattle.cta_model.specs.declared.asks.Who.{Who}
use Rattle.cta_model.specs.declared.answers.Answer.TheVariants as answer
use Rattle.cta_model.specs.declared.reports.ItemState.{ItemState}
use Rattle.cta_model.specs.declared.reports.ItemState.TheVariants as item
use Rattle.cta_model.specs.declared.states.RepackCopy.{RepackCopy}
use Rattle.cta_model.specs.declared.states.RequestFile.{RequestFile}
use Rattle.cta_model.specs.declared.states.StageFile.{StageFile}
use Rattle.cta_model.specs.History.{History, has_number, is_number}
use Rattle.cta_model.specs.Files.{is_live, path_of, size_of}
use Rattle.cta_model.specs.Mounts.{job_of}
use Rattle.cta_model.specs.Buffer.{is_resident}
use Rattle.cta_model.specs.Jobs.{ends_archive}
use Rattle.cta_model.specs.Recalls.{Recall, live_recall}
use Rattle.cta_model.specs.RepackItems.{items_named, waiting_for}
use Rattle.cta_model.specs.Repacks.{Repack, is_live_item, repack_of}
use Rattle.cta_model.specs.Space.{is_safe}
use Rattle.cta_model.specs.Stages.{StageRequest, request_of}
use Rattle.cta_model.specs.Answers.{answer_of}
use Rattle.cta_model.specs.Legal.{IsLegal, greatest_moment}
use Rattle.cta_laws.specs.Pins.{frees_path, pins_by, stage_pins_by, will_keep}
use Rattle.cta_laws.specs.Stages.{waits, waits_for_file}
use Rattle.cta_laws.proofs.Tests.{bool_cases, or_left, or_right, or_cases}
use Rattle.cta_laws.proofs.Bools.{and_none, or_none, turned}
use Rattle.cta_laws.proofs.Claims.{AllOf}
use Rattle.cta_laws.proofs.Sums.{size_older}
use Rattle.cta_laws.proofs.BufferLaw.{claimed_file}
use Rattle.cta_laws.proofs.LengthLaw.{not_unknown}
use Rattle.cta_laws.proofs.JobLaw.{not_true}
use Rattle.cta_laws.proofs.JobFiles.{archive_resident}
use Rattle.cta_laws.proofs.MountLaw.{number_filter}
use Rattle.cta_laws.proofs.ResidentLaw.{birth_some, recall_live}
use Rattle.cta_laws.proofs.Requests.{files_in}
use Rattle.cta_laws.proofs.RecalledCopy.{done_live, fit_reads, recalled_copy}
use Rattle.cta_laws.proofs.RepackLaw.{ItemHas, ItemStands, items_stand}
use Rattle.cta_laws.proofs.Waiting.{FileStands, files_stand}
use Rattle.cta_laws.proofs.StagePins.{stage_pins_newest, staged_by}
use Rattle.cta_laws.proofs.PinLaw.{stage_pins_recalled}
use Rattle.part_model.specs.declared.space.Resident.{Resident}
use Rattle.part_model.specs.declared.space.HeldPin.{HeldPin}
use Rattle.part_model.specs.Held.{ArePinsHeld, Held, HeldAgree, enter, numbers, pin_all, pins_in, set_all, set_safe, unhold, unpin_all}
use Rattle.part_laws.specs.Buffer.{entering, is_file_of, leaving, residents, touches}
use Rattle.part_laws.proofs.After.{aside_after}
use Rattle.part_laws.specs.Held.{IsHeld, is_unpinned}
use Rattle.part_laws.proofs.Asks.{recalled_files}
use Rattle.part_laws.proofs.Residents.{recalled_away}
use Rattle.part_laws.proofs.Told.{held_is}
use Rattle.part_laws.proofs.OwnerPins.{pins_file, pins_some, repack_less, repack_new, repack_pins_are}
use Rattle.part_laws.specs.BufferCalls.{after_read, files_repacked, has_pair, pins_told}
use Rattle.part_laws.proofs.PinLists.{pin_all_is, pins_append, unpin_all_is}
use Rattle.part_laws.proofs.FileAsks.{answered, quiet_by}
use Rattle.part_laws.proofs.PinAsks.{among_pinned, told_files, told_owners}
use Rattle.part_laws.proofs.Stands.{IsGentle, IsQuiet, Stayed, away_no_pin, brings_is, flags_are, gentle_on, held_by, no_own, none_enters, none_new, quiet_stand, set_all_rest, stand_by}

-- ---- what pins a file that a recall brings in

keep_waits : (at t f : ℕ) (s : RequestFile) → will_keep at t f s ≡ true → (waits s.state ≡ true) × (is_number f s.file ≡ true)
keep_waits at t f s e = (let p = and_parts (waits s.state) _ (and_parts (waits_for_file f s) _ e).0 in (p.0, p.1))

keep_among : (site : Site) (h : History) (id at t f : ℕ) (ss : List RequestFile) → AllOf (FileStands site h id) ss → list_any (will_keep at t f) ss ≡ true → has_number id (waiting_for (live_recall site h f)) ≡ true
keep_among site h id at t f [] all e = absurd (cc)
keep_among site h id at t f (s ∷ ss) all e =
    elim (or_cases (will_keep at t f s) _ e) [
      | inl hit ↦
          (let k = keep_waits at t f s hit in
          let r = all.0.waiting k.0 in
          let same : r.number ≡ f = (let both : Some r.number ≡ Some f = sym r.names ∙ some_number s.file k.1 in cc) in
          ap (λ (o : Option Recall). has_number id (waiting_for o)) (subst (λ (n : ℕ). live_recall site h n ≡ Some r.recall) same r.on) ∙ r.among)
      | inr rest ↦ keep_among site h id at t f ss all.1 rest
    ]
  where
    some_number : (o : Option ℕ) → is_number f o ≡ true → o ≡ Some f
    some_number None x = absurd (cc)
    some_number (Some g) x = ap (λ (n : ℕ). Some n) (sym (eqb-true f g x))

item_waits : (site : Site) (h : History) → IsLegal site h → (id f c : ℕ) (s : ItemState) → is_resident h f ≡ false → 1 ≤ c → ItemHas site h id f c s → is_live_item s ≡ true → has_number id (waiting_for (live_recall site h f)) ≡ true
item_waits site h legal id f c item.Reading away low has live = ap (λ (o : Option Recall). has_number id (waiting_for o)) has.1 ∙ has.2
item_waits site h legal id f zero item.Writing away low has live = absurd (omega arith)
item_waits site h legal id f (suc c) item.Writing away low has live = (let here : is_resident h f ≡ true = archive_resident site h legal f c has in absurd (cc))
item_waits site h legal id f c item.Done away low has live = absurd (cc)
item_waits site h legal id f c item.Failed away low has live = absurd (cc)
item_waits site h legal id f c item.Gone away low has live = absurd (cc)

items_among : (site : Site) (h : History) → IsLegal site h → (id f : ℕ) (xs : List RepackCopy) → AllOf (ItemStands site h id) xs → is_resident h f ≡ false → list_any (pins_file f) xs ≡ true → has_number id (waiting_for (live_recall site h f)) ≡ true
items_among site h legal id f [] all away e = absurd (cc)
items_among site h legal id f (i ∷ xs) all away e =
    elim (or_cases (pins_file f i) _ e) [
      | inl hit ↦
          (let p = and_parts (i.file == f) _ hit in
          let same : i.file ≡ f = eqb-true _ _ p.0 in
          subst (λ (n : ℕ). has_number id (waiting_for (live_recall site h n)) ≡ true) same (item_waits site h legal id i.file i.copy i.state (ap (is_resident h) same ∙ away) all.0.from all.0.has p.1))
      | inr rest ↦ items_among site h legal id f xs all.1 away rest
    ]

-- who pins the file of a completed recall has waited for the recall
waited : (site : Site) (h : History) (e : Entry) (t id m : ℕ) (job : Job) → IsLegal site (e ∷ h) → e.ask ≡ ask.Recalled m job → e.answer ≡ answer.Arrived fate.Done → is_live h job.file ≡ true → is_resident h job.file ≡ false → e.at ≤ t → IsQuiet site h e → pins_by site (e ∷ h) t job.file id ≡ true → has_number id (waiting_for (live_recall site h job.file)) ≡ true
waited site h e t id m job legal ek ea live away now q on =
    elim (bool_cases (length h + 1 == id)) [
      | inl new ↦ (let none : pins_by site (e ∷ h) t job.file id ≡ false = subst (λ (n : ℕ). pins_by site (e ∷ h) t job.file n ≡ false) (eqb-true _ _ new) (none_new site h e t job.file q.stages q.names) in absurd (cc))
      | inr old ↦
          elim (or_cases (stage_pins_by site (e ∷ h) t job.file id) _ on) [
            | inl s ↦ staged (request_of site h id) refl (sym (stage_pins_recalled site h e t id m job legal ek ea live away now old) ∙ s)
            | inr r ↦ repacked (repack_of site h id) refl (sym (repack_pins_are site h job.file id) ∙ repack_less site h e job.file id old r)
          ]
    ]
  where
    staged : (o : Option StageRequest) → request_of site h id ≡ o → list_any (will_keep e.at t job.file) (files_in o) ≡ true → has_number id (waiting_for (live_recall site h job.file)) ≡ true
    staged None is x = absurd (cc)
    staged (Some r) is x = keep_among site h id e.at t job.file r.files (files_stand site h legal.0 id r is) x

    repacked : (o : Option Repack) → repack_of site h id ≡ o → pins_some job.file o ≡ true → has_number id (waiting_for (live_recall site h job.file)) ≡ true
    repacked None is x = absurd (cc)
    repacked (Some r) is x = items_among site h legal.0 id job.file r.items (items_stand site h legal.0 id r is) away x

-- ---- a completed recall

set_last : (f : ℕ) (s : Bool) (len : ℕ) (rs : List Resident) → has_number f (numbers rs) ≡ false → map (λ (r : Resident). if r.file == f then record r { safe = s } else r) (rs ++ record { file = f; len = len; safe = false } ∷ []) ≡ rs ++ record { file = f; len = len; safe = s } ∷ []
set_last f s len [] none = by (f == f) (eq-eqb f f refl)
  where
    by : (b : Bool) → b ≡ true → ◌≡◌ {A = List Resident} ((if b then record { file = f; len = len; safe = s } else record { file = f; len = len; safe = false }) ∷ []) (record { file = f; len = len; safe = s } ∷ [])
    by true e = refl
    by false e = absurd (cc)
set_last f s len (r ∷ rs) none =
    let p = or_parts (f == r.file) (has_number f (numbers rs)) none in
    rw (turned f r.file p.0) (ap (λ (xs : List Resident). r ∷ xs) (set_last f s len rs p.1))

pub recalled_moves : (site : Site) (h : History) (e : Entry) (m : ℕ) (job : Job) (v v' : Held) → IsLegal site (e ∷ h) → e.ask ≡ ask.Recalled m job → e.answer ≡ answer.Arrived fate.Done → IsHeld site h v → ArePinsHeld v → HeldAgree v' (after_read site h e job.file v) → IsHeld site (e ∷ h) v'
recalled_moves site h e m job v v' legal ek ea is pinned c =
    let told : answer.Arrived fate.Done ≡ answer_of site h e.at (ask.Recalled m job) = sym ea ∙ legal.1.answered ∙ ap (answer_of site h e.at) ek in
    let way = fit_reads site h e legal.1 (ask.Recalled m job) ek m job refl in
    let copy : job.copy ≡ 0 = recalled_copy site h legal.0 e.at m job (answer.Arrived fate.Done) told refl way in
    let live : is_live h job.file ≡ true = recall_live site h legal.0 job.file (birth_some job.birth (live_recall site h job.file) (done_live site h e.at m job told copy)) in
    let away : is_resident h job.file ≡ false = recalled_away site h legal.0 e.at m job told way in
    let comes : entering h e.ask e.answer ≡ job.file ∷ [] = ap (λ (k : Ask). entering h k e.answer) ek ∙ ap (entering h (ask.Recalled m job)) ea in
    let q : IsQuiet site h e = quiet_by site h e (ask.Recalled m job) ek refl refl (λ id p. refl) (λ f c b here. refl) in
    let low : job.file ≤ length h = claimed_file site h legal.0 m job (not_unknown _ _ e.answer (legal.1.answered ∙ ap (answer_of site h e.at) ek) legal.1.accepted) in
    let p = pin_all_is (flat_map (λ id. pins_told site (e ∷ h) id job.file) (waiting_for (live_recall site h job.file))) (set_safe (enter (unhold v (size_of h job.file)) job.file (size_of h job.file)) job.file (is_safe site (e ∷ h) job.file)) in
    held_by site h e v (after_read site h e job.file v) v' legal is p.3
    (p.1
    ∙ set_last job.file (is_safe site (e ∷ h) job.file) (size_of h job.file) v.files (held_is site h v job.file is ∙ away)
    ∙ ap (λ (rs : List Resident). rs ++ record { file = job.file; len = size_of h job.file; safe = is_safe site (e ∷ h) job.file } ∷ []) is.files
    ∙ ap (λ (n : ℕ). residents site h ++ record { file = job.file; len = n; safe = is_safe site (e ∷ h) job.file } ∷ []) (sym (size_older e h job.file low))
    ∙ sym (recalled_files site h e m job legal ek ea))
    (p.2 ∙ sym (ap (λ (k : Ask). aside_after h k e.answer v.aside) ek))
    (stand_by site h e v _ legal is
    (λ t f id s old now top.
    sum t f id p.0 top
    ∙ ap (λ (b : Bool). (b && (has_number id (waiting_for (live_recall site h job.file)) && pins_by site (e ∷ h) t job.file id)) || pins_in v.pins t f id) (not_mine f comes s)
    ∙ sym (gentle_on site h e v.pins t f id legal q.gentle s old))
    (λ t f s now top.
    sum t f (length h + 1) p.0 top
    ∙ ap (λ (b : Bool). (b && (has_number (length h + 1) (waiting_for (live_recall site h job.file)) && pins_by site (e ∷ h) t job.file (length h + 1))) || pins_in v.pins t f (length h + 1)) (not_mine f comes s)
    ∙ no_own site h e v t f legal is s now top ∙ sym (none_new site h e t f q.stages q.names))
    (λ t f id here there now top.
    (let same : f ≡ job.file = eqb-true f job.file (sym (or_none (f == job.file)) ∙ sym (ap (has_number f) comes) ∙ there) in
    sum t f id p.0 top
    ∙ ap (λ (b : Bool). ((job.file == f) && (has_number id (waiting_for (live_recall site h job.file)) && pins_by site (e ∷ h) t job.file id)) || b) (away_no_pin site h v t f id is pinned (ap (is_resident h) same ∙ away))
    ∙ or_none _
    ∙ ap (λ (b : Bool). b && (has_number id (waiting_for (live_recall site h job.file)) && pins_by site (e ∷ h) t job.file id)) (eq-eqb job.file f (sym same))
    ∙ among_pinned (has_number id (waiting_for (live_recall site h job.file))) (pins_by site (e ∷ h) t job.file id) (λ on. waited site h e t id m job legal ek ea live away now q on)
    ∙ ap (λ (n : ℕ). pins_by site (e ∷ h) t n id) (sym same))))
    c
  where
    sum : (t f id : ℕ) → (after_read site h e job.file v).pins ≡ flat_map (λ id. pins_told site (e ∷ h) id job.file) (waiting_for (live_recall site h job.file)) ++ v.pins → t ≤ greatest_moment → pins_in (after_read site h e job.file v).pins t f id ≡ (((job.file == f) && (has_number id (waiting_for (live_recall site h job.file)) && pins_by site (e ∷ h) t job.file id)) || pins_in v.pins t f id)
    sum t f id pins top =
        ap (λ (ps : List HeldPin). pins_in ps t f id) pins
        ∙ pins_append (flat_map (λ id. pins_told site (e ∷ h) id job.file) (waiting_for (live_recall site h job.file))) v.pins t f id
        ∙ ap (λ (b : Bool). b || pins_in v.pins t f id) (told_owners site (e ∷ h) t job.file f id (waiting_for (live_recall site h job.file)) top)

    not_mine : (f : ℕ) → entering h e.ask e.answer ≡ job.file ∷ [] → Stayed site h e f → (job.file == f) ≡ false
    not_mine f comes s =
        not_true (job.file == f) (λ hit.
        (let there : has_number f (entering h e.ask e.answer) ≡ true = ap (has_number f) comes ∙ or_left (f == job.file) false (eq-eqb f job.file (sym (eqb-true job.file f hit))) in
        let out : has_number f (entering h e.ask e.answer) ≡ false = sym (brings_is h e.ask e.answer f) ∙ s.brings in
        absurd (cc)))

-- ---- flags alone

pub flags_move : (site : Site) (h : History) (e : Entry) (v v' : Held) (fs : List ℕ) → IsLegal site (e ∷ h) → IsHeld site h v → IsQuiet site h e → entering h e.ask e.answer ≡ [] → leaving h e.ask e.answer ≡ [] → v.aside ≡ aside_after h e.ask e.answer v.aside → ((f : ℕ) → has_number f fs ≡ touches site h e.ask e.answer f) → HeldAgree v' (set_all (is_safe site (e ∷ h)) fs v) → IsHeld site (e ∷ h) v'
flags_move site h e v v' fs legal is q enters leaves aside files c =
    let rest = set_all_rest (is_safe site (e ∷ h)) fs v in
    held_by site h e v (set_all (is_safe site (e ∷ h)) fs v) v' legal is rest.0
    (flags_are site h e v fs legal is enters leaves files)
    (rest.1 ∙ aside)
    (quiet_stand site h e v _ legal is q (λ t f id s. ap (λ (ps : List HeldPin). pins_in ps t f id) rest.2) (none_enters site h e enters _))
    c

-- ---- archive jobs that end

ended_bools : (p u : Bool) → (not u && p) ≡ (p && (not false && not u))
ended_bools true true = refl
ended_bools true false = refl
ended_bools false true = refl
ended_bools false false = refl

pub jobs_move : (site : Site) (h : History) (e : Entry) (v v' : Held) (fs : List ℕ) (outs : List (ℕ × ℕ)) (aside : ℕ) → IsLegal site (e ∷ h) → IsHeld site h v → staged_by site h e.ask ≡ [] → items_named e.ask e.answer ≡ [] → ((id : ℕ) (path : List ℕ) → frees_path e.ask id path ≡ false) → entering h e.ask e.answer ≡ [] → leaving h e.ask e.answer ≡ [] → aside ≡ aside_after h e.ask e.answer v.aside
    → ((f : ℕ) → has_number f fs ≡ touches site h e.ask e.answer f) → ((f id : ℕ) → is_resident h f ≡ true → has_pair f id outs ≡ is_unpinned site h e f id)
    → HeldAgree v' (record (unpin_all outs (set_all (is_safe site (e ∷ h)) fs v)) { aside = aside }) → IsHeld site (e ∷ h) v'
jobs_move site h e v v' fs outs aside legal is stages names frees enters leaves bytes files unpinned c =
    let rest = set_all_rest (is_safe site (e ∷ h)) fs v in
    let u = unpin_all_is outs (set_all (is_safe site (e ∷ h)) fs v) in
    held_by site h e v (record (unpin_all outs (set_all (is_safe site (e ∷ h)) fs v)) { aside = aside }) v' legal is (u.3 ∙ rest.0)
    (u.1 ∙ flags_are site h e v fs legal is enters leaves files)
    bytes
    (stand_by site h e v _ legal is
    (λ t f id s old now top.
    u.0 t f id
    ∙ ap (λ (ps : List HeldPin). not (has_pair f id outs) && pins_in ps t f id) rest.2
    ∙ ap (λ (b : Bool). not b && pins_in v.pins t f id) (unpinned f id s.was)
    ∙ ended_bools (pins_in v.pins t f id) (is_unpinned site h e f id)
    ∙ ap (λ (b : Bool). pins_in v.pins t f id && (not b && not (is_unpinned site h e f id))) (sym (frees id (path_of h f))))
    (λ t f s now top.
    u.0 t f (length h + 1)
    ∙ ap (λ (ps : List HeldPin). not (has_pair f (length h + 1) outs) && pins_in ps t f (length h + 1)) rest.2
    ∙ ap (λ (b : Bool). not (has_pair f (length h + 1) outs) && b) (no_own site h e v t f legal is s now top)
    ∙ and_none _ ∙ sym (none_new site h e t f stages names))
    (none_enters site h e enters _))
    c

-- ---- Repack

repacked_among : (h : History) (f : ℕ) (js : List Job) → is_resident h f ≡ true → is_file_of f js ≡ true → has_number f (files_repacked h js) ≡ true
repacked_among h f js here e = number_filter (is_resident h) f (map (λ (j : Job). j.file) js) here (by js e)
  where
    by : (js : List Job) → is_file_of f js ≡ true → has_number f (map (λ (j : Job). j.file) js) ≡ true
    by [] x = absurd (cc)
    by (j ∷ js) x = elim (or_cases (j.file == f) _ x) [ inl hit ↦ or_left (f == j.file) _ (eq-eqb f j.file (sym (eqb-true j.file f hit))) | inr rest ↦ or_right (f == j.file) _ (by js rest) ]

pub repack_moves : (site : Site) (h : History) (e : Entry) (who : Who) (tape : ℕ) (v v' : Held) (fs : List ℕ) → IsLegal site (e ∷ h) → e.ask ≡ ask.Repack who tape → IsHeld site h v → ((f : ℕ) → has_number f fs ≡ touches site h e.ask e.answer f)
    → HeldAgree v' (pin_all (flat_map (pins_told site (e ∷ h) (length h + 1)) (files_repacked h (items_named e.ask e.answer))) (set_all (is_safe site (e ∷ h)) fs v)) → IsHeld site (e ∷ h) v'
repack_moves site h e who tape v v' fs legal ek is files c =
    let rest = set_all_rest (is_safe site (e ∷ h)) fs v in
    let p = pin_all_is (flat_map (pins_told site (e ∷ h) (length h + 1)) (files_repacked h (items_named e.ask e.answer))) (set_all (is_safe site (e ∷ h)) fs v) in
    let a = answered site h e (ask.Repack who tape) legal ek in
    let enters : entering h e.ask e.answer ≡ [] = ap (λ (k : Ask). entering h k e.answer) ek in
    let leaves : leaving h e.ask e.answer ≡ [] = ap (λ (k : Ask). leaving h k e.answer) ek in
    let gentle : IsGentle site h e = record { frees = λ id p. ap (λ (k : Ask). frees_path k id p) ek; ends = λ f c b here. ap (λ (k : Ask). ends_archive site h k e.answer (job_of b f c)) ek } in
    held_by site h e v _ v' legal is (p.3 ∙ rest.0)
    (p.1 ∙ flags_are site h e v fs legal is enters leaves files)
    (p.2 ∙ rest.1 ∙ sym (ap (λ (k : Ask). aside_after h k e.answer v.aside) ek))
    (stand_by site h e v _ legal is
    (λ t f id s old now top.
    sum t f id p.0 rest.2 top
    ∙ ap (λ (b : Bool). (b && (has_number f (files_repacked h (items_named e.ask e.answer)) && pins_by site (e ∷ h) t f (length h + 1))) || pins_in v.pins t f id) old
    ∙ sym (gentle_on site h e v.pins t f id legal gentle s old))
    (λ t f s now top.
    sum t f (length h + 1) p.0 rest.2 top
    ∙ ap (λ (b : Bool). ((length h + 1 == length h + 1) && (has_number f (files_repacked h (items_named e.ask e.answer)) && pins_by site (e ∷ h) t f (length h + 1))) || b) (no_own site h e v t f legal is s now top)
    ∙ ap (λ (b : Bool). (b && (has_number f (files_repacked h (items_named e.ask e.answer)) && pins_by site (e ∷ h) t f (length h + 1))) || false) (eq-eqb (length h + 1) (length h + 1) refl)
    ∙ or_none _ ∙ among_pinned _ _ (among t f s.was))
    (none_enters site h e enters _))
    c
  where
    sum : (t f id : ℕ) → (pin_all (flat_map (pins_told site (e ∷ h) (length h + 1)) (files_repacked h (items_named e.ask e.answer))) (set_all (is_safe site (e ∷ h)) fs v)).pins ≡ flat_map (pins_told site (e ∷ h) (length h + 1)) (files_repacked h (items_named e.ask e.answer)) ++ (set_all (is_safe site (e ∷ h)) fs v).pins → (set_all (is_safe site (e ∷ h)) fs v).pins ≡ v.pins → t ≤ greatest_moment
        → pins_in (pin_all (flat_map (pins_told site (e ∷ h) (length h + 1)) (files_repacked h (items_named e.ask e.answer))) (set_all (is_safe site (e ∷ h)) fs v)).pins t f id ≡ (((length h + 1 == id) && (has_number f (files_repacked h (items_named e.ask e.answer)) && pins_by site (e ∷ h) t f (length h + 1))) || pins_in v.pins t f id)
    sum t f id pins same top =
        ap (λ (ps : List HeldPin). pins_in ps t f id) (pins ∙ ap (λ (ps : List HeldPin). flat_map (pins_told site (e ∷ h) (length h + 1)) (files_repacked h (items_named e.ask e.answer)) ++ ps) same)
        ∙ pins_append (flat_map (pins_told site (e ∷ h) (length h + 1)) (files_repacked h (items_named e.ask e.answer))) v.pins t f id
        ∙ ap (λ (b : Bool). b || pins_in v.pins t f id) (told_files site (e ∷ h) t f (length h + 1) id (files_repacked h (items_named e.ask e.answer)) top)

    among : (t f : ℕ) → is_resident h f ≡ true → pins_by site (e ∷ h) t f (length h + 1) ≡ true → has_number f (files_repacked h (items_named e.ask e.answer)) ≡ true
    among t f here on =
        elim (or_cases (stage_pins_by site (e ∷ h) t f (length h + 1)) _ on) [
          | inl s ↦ (let none : stage_pins_by site (e ∷ h) t f (length h + 1) ≡ false = stage_pins_newest site h e t f ∙ ap (λ (k : Ask). list_any (λ (s : StageFile). is_number f s.file && (is_resident h f && nat_lt t (e.at + s.lifetime))) (staged_by site h k)) ek in absurd (cc))
          | inr r ↦ repacked_among h f (items_named e.ask e.answer) here (sym (repack_new site h e f) ∙ r)
        ]
