-- The items of repacks: one that is READING has a live recall, and one that is WRITING a live archive job.
use Rattle.std.proofs.Common.{◌≡◌, ℕ, ◌+◌, ◌≤◌, inl, inr, List, [], ◌∷◌, Bool, true, false, not, refl, sym, ◌∙◌, ap, subst, arith, length}
use Rattle.std.specs.Prelude.{Option, Some, None, is_some, is_none, option_map, if◌then◌else◌, ◌==◌, ◌&&◌, filter, map}
use Rattle.std.specs.List.{list_any, AllByRecursion}
use Rattle.std.proofs.lemmas.Bool.{and_parts, and_from, eqb-true, eq-eqb}
use Rattle.cta_site.specs.declared.site.Site.{Site}
use Rattle.cta_site.specs.declared.site.TapeState.{TapeState}
use Rattle.cta_site.specs.Listed.{rows}
use Rattle.cta_model.specs.declared.entries.Entry.{Entry}
use Rattle.cta_model.specs.declared.asks.Ask.{Ask}
use Rattle.cta_model.specs.declared.asks.Who.{Who}
use Rattle.cta_model.specs.declared.asks.Item.{Item}
use Rattle.cta_model.specs.declared.asks.Job.{Job}
use Rattle.cta_model.specs.declared.answers.Answer.{Answer}
use Rattle.cta_model.specs.declared.reports.ItemState.{ItemState}
use Rattle.cta_model.specs.declared.states.Place.{Place}
use Rattle.cta_model.specs.declared.states.RepackCopy.{RepackCopy}
use Rattle.cta_model.specs.History.{History, entry_of, has_number, is_empty, moment_of}
use Rattle.cta_model.specs.Files.{path_of}
use Rattle.cta_model.specs.Tapes.{tape_state, tape_items, is_broken, may_be_repacked}
use Rattle.cta_model.specs.Places.{place_of, all_places, places_of, has_place_on, live_items_on, is_at}
use Rattle.cta_model.specs.Buffer.{is_resident}
use Rattle.cta_model.specs.Mounts.{same_job, job_of, has_copy}
use Rattle.cta_model.specs.Recalls.{Recall, live_recall, recall_after, recall_goes_on, recall_job, waits_for, lives_unless}
use Rattle.cta_model.specs.Jobs.{archive_birth, archive_after, bears_archive, ends_archive}
use Rattle.cta_model.specs.RepackItems.{items_named, items_in, waiting_for, repack_items}
use Rattle.cta_model.specs.Stages.{request_of, request_by, request_after}
use Rattle.cta_model.specs.Repacks.{Repack, new_item, after_reading, after_writing, state_behind, item_after, repack_by, repack_after, repack_of}
use Rattle.cta_model.specs.Legal.{IsLegal}
use Rattle.cta_laws.specs.Stages.{takes_path}
use Rattle.cta_laws.specs.Repacks.{WaitsForRecall, ReadingHasRecall, WritingHasJob}
use Rattle.cta_laws.proofs.Tests.{bool_cases, or_left, or_right, or_cases, not_next}
use Rattle.cta_laws.proofs.Claims.{AllOf, all_mono, all_pass}
use Rattle.cta_laws.proofs.Ranges.{all_map}
use Rattle.cta_laws.proofs.Accepted.{answer_is}
use Rattle.cta_laws.specs.Asks.{AnswerIs}
use Rattle.cta_laws.proofs.PlaceLaw.{live_place, named_within}
use Rattle.cta_laws.proofs.RangeLaw.{placed}
use Rattle.cta_laws.proofs.KeyLaw.{place_any}
use Rattle.cta_laws.proofs.Paths.{newest_entry}
use Rattle.cta_laws.proofs.FlushedCopies.{flushed_range}
use Rattle.cta_laws.proofs.WaitLists.{goes_on, new_recall, waits_still}
use Rattle.cta_site.specs.declared.site.TapeState.TheVariants as state
use Rattle.cta_model.specs.declared.asks.Ask.TheVariants as ask
use Rattle.cta_model.specs.declared.answers.Answer.TheVariants as answer
use Rattle.cta_model.specs.declared.asks.Fate.TheVariants as fate
use Rattle.cta_model.specs.declared.reports.ItemState.TheVariants as item

-- ---- a repack is no stage request

pub repack_low : (site : Site) (h : History) (id : ℕ) → is_some (repack_of site h id) ≡ true → id ≤ length h
repack_low site [] id on = absurd (cc)
repack_low site (e ∷ h) id on =
    elim (bool_cases (length h + 1 == id)) [
      | inl hit ↦ (let same : length h + 1 ≡ id = eqb-true _ _ hit in omega arith)
      | inr miss ↦ (let low : id ≤ length h = repack_low site h id (was (repack_of site h id) (rw miss at on)) in omega arith)
    ]
  where
    was : (o : Option Repack) → is_some (option_map (repack_after site (e ∷ h) e.ask) o) ≡ true → is_some o ≡ true
    was None x = absurd (cc)
    was (Some r) x = refl

made_no_request : (site : Site) (h : History) (e : Entry) (k : Ask) (a : Answer) → is_some (repack_by h k a) ≡ true → request_by site h e k ≡ None
made_no_request site h e (ask.Stage who files) a on = absurd (cc)
made_no_request site h e _ a on = refl

pub no_request : (site : Site) (h : History) (id : ℕ) → is_some (repack_of site h id) ≡ true → request_of site h id ≡ None
no_request site [] id on = refl
no_request site (e ∷ h) id on =
    elim (bool_cases (length h + 1 == id)) [
      | inl hit ↦ rw hit (made_no_request site h e e.ask e.answer (rw hit at on))
      | inr miss ↦ rw miss (ap (request_after site h e id) (no_request site h id (was (repack_of site h id) (rw miss at on))))
    ]
  where
    was : (o : Option Repack) → is_some (option_map (repack_after site (e ∷ h) e.ask) o) ≡ true → is_some o ≡ true
    was None x = absurd (cc)
    was (Some r) x = refl

-- nobody takes a path from what is no request
pub none_takes : (site : Site) (h : History) (t : ℕ) (k : Ask) (a : Answer) (id : ℕ) (path : List ℕ) → AnswerIs site h t k a → request_of site h id ≡ None → takes_path k id path ≡ false
none_takes site h t (ask.Cancel who k paths) a id path is none =
    elim (bool_cases (k == id)) [
      | inl hit ↦ (let bad : is_some (request_of site h id) ≡ true = subst (λ (n : ℕ). is_some (request_of site h n) ≡ true) (eqb-true k id hit) is.1 in let worse : is_some (request_of site h id) ≡ false = ap is_some none in absurd (cc))
      | inr miss ↦ rw miss refl
    ]
none_takes site h t (ask.DropStage who k) a id path is none =
    elim (bool_cases (k == id)) [
      | inl hit ↦ (let bad : is_none (request_of site h id) ≡ false = subst (λ (n : ℕ). is_none (request_of site h n) ≡ false) (eqb-true k id hit) is.1 in let worse : is_none (request_of site h id) ≡ true = ap is_none none in absurd (cc))
      | inr miss ↦ miss
    ]
none_takes site h t _ a id path is none = refl

-- ---- what an item stands on

-- an item that is READING has its recall, and one that is WRITING its archive job
abbrev pub ItemHas : Site → History → ℕ → ℕ → ℕ → ItemState → Type 0
ItemHas site h id f c item.Reading = WaitsForRecall site h id f
ItemHas site h id f c item.Writing = is_some (archive_birth site h f c) ≡ true
ItemHas site h id f c _ = Unit {0}

-- an item is of an entry's file and of a copy, is one that its entry names, and has its job
pub record ItemStands (site : Site) (h : History) (id : ℕ) (i : RepackCopy) : Type 0 where
  pub low : i.file ≤ length h
  pub from : 1 ≤ i.copy
  pub named : has_copy i.file i.copy (items_in (entry_of h id)) ≡ true
  pub has : ItemHas site h id i.file i.copy i.state

-- ---- the items of a new repack

-- a copy from 1 whose place is on the tape
abbrev pub IsItemOn : Site → History → ℕ → Job → Type 0
IsItemOn site h v j = (j.file ≤ length h) × (1 ≤ j.copy) × (has_place_on v (all_places site h j.file) ≡ true)

pub repack_has : (site : Site) (h : History) → IsLegal site h → (v : ℕ) → AllOf (IsItemOn site h v) (repack_items h v)
repack_has site h legal v =
    all_map (IsItemOn site h v) (λ (i : Item). job_of 0 i.job.file i.job.copy) (live_items_on h v)
    (all_mono (λ (i : Item). is_at v i.fseq (place_of h i.job.file i.job.copy) ≡ true) (λ (i : Item). IsItemOn site h v (job_of 0 i.job.file i.job.copy)) (live_items_on h v) (λ i there. here i there) (all_pass (λ (i : Item). is_at v i.fseq (place_of h i.job.file i.job.copy)) (tape_items h v)))
  where
    here : (i : Item) → is_at v i.fseq (place_of h i.job.file i.job.copy) ≡ true → IsItemOn site h v (job_of 0 i.job.file i.job.copy)
    here i there =
        (let p = placed v i.fseq (place_of h i.job.file i.job.copy) there in
        let parts = live_place h i.job.file i.job.copy p.0 p.1 in
        let range = flushed_range site h legal i.job.file i.job.copy p.0 parts.1 in
        let on : (p.0.tape == v) ≡ true = (and_parts (p.0.tape == v) _ (ap (is_at v i.fseq) (sym p.1) ∙ there)).0 in
        ((named_within h i.job.file (path_of h i.job.file) parts.0).1, range.0, place_any (λ (q : Place). q.tape == v) site h i.job.file i.job.copy p.0 range.0 range.1 p.1 on))

-- a tape that may be repacked is not BROKEN, so that its places count
whole : (s : TapeState) → may_be_repacked s ≡ true → is_broken s ≡ false
whole state.Active e = absurd (cc)
whole state.Disabled e = absurd (cc)
whole state.Broken e = absurd (cc)
whole state.Repacking e = refl

counts_on : (site : Site) (h : History) (v : ℕ) (ps : List Place) → is_broken (tape_state site h v) ≡ false → has_place_on v ps ≡ true → has_place_on v (filter (λ (p : Place). not (is_broken (tape_state site h p.tape))) ps) ≡ true
counts_on site h v [] ok e = absurd (cc)
counts_on site h v (p ∷ ps) ok e =
    elim (bool_cases (p.tape == v)) [
      | inl hit ↦
          (let here : is_broken (tape_state site h p.tape) ≡ false = subst (λ (n : ℕ). is_broken (tape_state site h n) ≡ false) (sym (eqb-true _ _ hit)) ok in
          rw here (or_left (p.tape == v) _ hit))
      | inr miss ↦
          (let rest : has_place_on v (filter (λ (p : Place). not (is_broken (tape_state site h p.tape))) ps) ≡ true = counts_on site h v ps ok (rw miss at e) in
          elim (not (is_broken (tape_state site h p.tape))) as (λ b. has_place_on v (if b then p ∷ filter (λ (p : Place). not (is_broken (tape_state site h p.tape))) ps else filter (λ (p : Place). not (is_broken (tape_state site h p.tape))) ps) ≡ true) [ true ↦ or_right (p.tape == v) _ rest | false ↦ rest ])
    ]

some_on : (v : ℕ) (ps : List Place) → has_place_on v ps ≡ true → is_empty ps ≡ false
some_on v [] e = absurd (cc)
some_on v (p ∷ ps) e = refl

-- a copy has a live archive job behind an entry that bears one and ends none
archive_there : (site : Site) (h : History) (e : Entry) (f c : ℕ) → bears_archive site h e.ask e.answer f c ≡ true → ((b : ℕ) → ends_archive site h e.ask e.answer (job_of b f c) ≡ false) → is_some (archive_birth site (e ∷ h) f c) ≡ true
archive_there site h e f c bears ends = by (archive_birth site h f c)
  where
    by : (o : Option ℕ) → is_some (archive_after site h e f c o) ≡ true
    by None = ap (λ (b : Bool). is_some (if b then Some (length h + 1) else None)) bears
    by (Some n) = ap (λ (b : Bool). is_some (if b then None else Some n)) (ends n)

new_stands : (site : Site) (h : History) (e : Entry) (who : Who) (v : ℕ) (j : Job) → IsLegal site (e ∷ h) → e.ask ≡ ask.Repack who v → e.answer ≡ answer.Repacking (length h + 1) (rows (repack_items h v)) → may_be_repacked (tape_state site h v) ≡ true → IsItemOn site h v j → has_copy j.file j.copy (repack_items h v) ≡ true → ItemStands site (e ∷ h) (length h + 1) (new_item h j)
new_stands site h e who v j legal ek ea may is there =
    let low : j.file ≤ length h = is.0 in
    let named : has_copy j.file j.copy (items_in (entry_of (e ∷ h) (length h + 1))) ≡ true =
    ap (λ (o : Option Entry). has_copy j.file j.copy (items_in o)) (newest_entry e h) ∙ ap (λ (k : Ask). has_copy j.file j.copy (items_named k e.answer)) ek ∙ ap (λ (a : Answer). has_copy j.file j.copy (items_named (ask.Repack who v) a)) ea ∙ there in
    record { low = omega arith; from = is.1; named = named; has = by (is_resident h j.file) refl }
  where
    on : has_place_on v (places_of site h j.file) ≡ true
    on = counts_on site h v (all_places site h j.file) (whole (tape_state site h v) may) is.2

    by : (b : Bool) → is_resident h j.file ≡ b → ItemHas site (e ∷ h) (length h + 1) j.file j.copy (if b then item.Writing else item.Reading)
    by true here =
        archive_there site h e j.file j.copy (ap (λ (k : Ask). bears_archive site h k e.answer j.file j.copy) ek ∙ ap (λ (a : Answer). bears_archive site h (ask.Repack who v) a j.file j.copy) ea ∙ and_from _ _ here there) (λ b. ap (λ (k : Ask). ends_archive site h k e.answer (job_of b j.file j.copy)) ek)
    by false away =
        (let r = new_recall site h e j.file (ap (λ (k : Ask). waits_for site h k j.file) ek ∙ on) away (some_on v (places_of site h j.file) on) in
        (r.recall, r.on, r.among))

-- ---- an item of an older repack

any_member : (test : ℕ → Bool) (id : ℕ) (ns : List ℕ) → has_number id ns ≡ true → test id ≡ true → list_any test ns ≡ true
any_member test id [] there e = absurd (cc)
any_member test id (n ∷ ns) there e =
    elim (or_cases (id == n) (has_number id ns) there)
    [ inl hit ↦ or_left (test n) _ (subst (λ (m : ℕ). test m ≡ true) (eqb-true id n hit) e) | inr rest ↦ or_right (test n) _ (any_member test id ns rest e) ]

-- a Recalled that ends a recall bears the archive jobs of the repacks that wait for it
recalled_bears : (site : Site) (h : History) (e : Entry) (id f c : ℕ) (r : Recall) (m : ℕ) (job : Job) (a : Answer) → live_recall site h f ≡ Some r → has_number id r.waiting ≡ true → has_copy f c (items_in (entry_of h id)) ≡ true → is_some (recall_goes_on site h e f r (ask.Recalled m job) a) ≡ false → bears_archive site h (ask.Recalled m job) a f c ≡ true
recalled_bears site h e id f c r m job (answer.Arrived fate.Done) on among named ended =
    let same : same_job job (recall_job r.birth f) ≡ true = by (same_job job (recall_job r.birth f)) ended in
    let file : (job.file == f) ≡ true = (and_parts (job.file == f) _ (and_parts (job.birth == r.birth) _ same).1).0 in
    and_from _ _ file (ap (λ (o : Option Recall). list_any (λ s. has_copy f c (items_in (entry_of h s))) (waiting_for o)) on ∙ any_member (λ s. has_copy f c (items_in (entry_of h s))) id r.waiting among named)
  where
    by : (b : Bool) → is_some (lives_unless b r) ≡ false → b ≡ true
    by true x = refl
    by false x = absurd (cc)
recalled_bears site h e id f c r m job (answer.Arrived fate.Stale) on among named ended = absurd (cc)
recalled_bears site h e id f c r m job _ on among named ended = absurd (cc)

reading_ends : (site : Site) (h : History) (e : Entry) (id f c : ℕ) (k : Ask) → e.ask ≡ k → WaitsForRecall site h id f → has_copy f c (items_in (entry_of h id)) ≡ true → is_some (live_recall site (e ∷ h) f) ≡ false → ItemHas site (e ∷ h) id f c (after_reading false k)
reading_ends site h e id f c (ask.Recalled m job) ek was named ended =
    let goes : live_recall site (e ∷ h) f ≡ recall_goes_on site h e f was.0 (ask.Recalled m job) e.answer = ap (recall_after site h e f) was.1 ∙ ap (λ (k : Ask). recall_goes_on site h e f was.0 k e.answer) ek in
    archive_there site h e f c (ap (λ (k : Ask). bears_archive site h k e.answer f c) ek ∙ recalled_bears site h e id f c was.0 m job e.answer was.1 was.2 named (sym (ap is_some goes) ∙ ended)) (λ b. ap (λ (k : Ask). ends_archive site h k e.answer (job_of b f c)) ek)
reading_ends site h e id f c (ask.Delete who path) ek was named ended = tt
reading_ends site h e id f c _ ek was named ended = tt

writing_ends : (site : Site) (h : History) (id f c : ℕ) (k : Ask) → ItemHas site h id f c (after_writing false k)
writing_ends site h id f c (ask.Flushed m items) = tt
writing_ends site h id f c (ask.Delete who path) = tt
writing_ends site h id f c _ = tt

the_recall : (o : Option Recall) → is_some o ≡ true → (r : Recall) × (o ≡ Some r)
the_recall None e = absurd (cc)
the_recall (Some r) e = (r, refl)

state_stands : (site : Site) (h : History) (e : Entry) (id f c : ℕ) (s : ItemState) → IsLegal site (e ∷ h) → is_some (repack_of site h id) ≡ true → has_copy f c (items_in (entry_of h id)) ≡ true → ItemHas site h id f c s → ItemHas site (e ∷ h) id f c (state_behind site (e ∷ h) e.ask f c s)
state_stands site h e id f c item.Reading legal there named was =
    elim (bool_cases (is_some (live_recall site (e ∷ h) f))) [
      | inl on ↦
          (let r = the_recall (live_recall site (e ∷ h) f) on in
          let stays : takes_path e.ask id (path_of h f) ≡ false = none_takes site h _ e.ask e.answer id (path_of h f) (answer_is site h e.at e.ask e.answer legal.1.answered legal.1.accepted) (no_request site h id there) in
          let stands : ItemHas site (e ∷ h) id f c item.Reading = (r.0, r.1, waits_still site h e f id was.0 r.0 (goes_on site h e f was.0 r.0 was.1 r.1) was.2 stays) in
          subst (λ (b : Bool). ItemHas site (e ∷ h) id f c (after_reading b e.ask)) (sym on) stands)
      | inr off ↦ subst (λ (b : Bool). ItemHas site (e ∷ h) id f c (after_reading b e.ask)) (sym off) (reading_ends site h e id f c e.ask refl was named off)
    ]
state_stands site h e id f c item.Writing legal there named was =
    elim (bool_cases (is_some (archive_birth site (e ∷ h) f c))) [
      | inl on ↦ subst (λ (b : Bool). ItemHas site (e ∷ h) id f c (after_writing b e.ask)) (sym on) on
      | inr off ↦ subst (λ (b : Bool). ItemHas site (e ∷ h) id f c (after_writing b e.ask)) (sym off) (writing_ends site (e ∷ h) id f c e.ask)
    ]
state_stands site h e id f c item.Done legal there named was = tt
state_stands site h e id f c item.Failed legal there named was = tt
state_stands site h e id f c item.Gone legal there named was = tt

older_stands : (site : Site) (h : History) (e : Entry) (id : ℕ) (i : RepackCopy) → IsLegal site (e ∷ h) → is_some (repack_of site h id) ≡ true → ItemStands site h id i → ItemStands site (e ∷ h) id (item_after site (e ∷ h) e.ask i)
older_stands site h e id i legal there was =
    let low : id ≤ length h = repack_low site h id there in
    let file : i.file ≤ length h = was.low in
    record { low = omega arith; from = was.from; named = rw (not_next id (length h) low) was.named; has = state_stands site h e id i.file i.copy i.state legal there was.named was.has }

-- ---- all items

items_of : Option Repack → List RepackCopy
items_of None = []
items_of (Some r) = r.items

pub each_copy : (js : List Job) → AllOf (λ (j : Job). has_copy j.file j.copy js ≡ true) js
each_copy [] = tt
each_copy (j ∷ js) =
    (or_left (j.file == j.file && j.copy == j.copy) _ (and_from _ _ (eq-eqb j.file j.file refl) (eq-eqb j.copy j.copy refl)), all_mono (λ (k : Job). has_copy k.file k.copy js ≡ true) (λ (k : Job). has_copy k.file k.copy (j ∷ js) ≡ true) js (λ k e. or_right (j.file == k.file && j.copy == k.copy) _ e) (each_copy js))

all_two : {A : Type 0} (P Q R : A → Type 0) (xs : List A) → ((x : A) → P x → Q x → R x) → AllOf P xs → AllOf Q xs → AllOf R xs
all_two P Q R [] f p q = tt
all_two P Q R (x ∷ xs) f p q = (f x p.0 q.0, all_two P Q R xs f p.1 q.1)

new_items : (site : Site) (h : History) (e : Entry) (k : Ask) (a : Answer) → IsLegal site (e ∷ h) → e.ask ≡ k → e.answer ≡ a → AnswerIs site h (moment_of h e.at) k a → AllOf (ItemStands site (e ∷ h) (length h + 1)) (items_of (repack_by h k a))
unfolding items_of
new_items site h e (ask.Repack who v) (answer.Repacking id items) legal ek ea is =
    let same : items.items ≡ repack_items h v = items_are (answer.Repacking id items) is.0 in
    subst (λ (js : List Job). AllOf (ItemStands site (e ∷ h) (length h + 1)) (map (new_item h) js)) (sym same)
    (all_map (ItemStands site (e ∷ h) (length h + 1)) (new_item h) (repack_items h v)
    (all_two (IsItemOn site h v) (λ (j : Job). has_copy j.file j.copy (repack_items h v) ≡ true) (λ (j : Job). ItemStands site (e ∷ h) (length h + 1) (new_item h j)) (repack_items h v) (λ j on there. new_stands site h e who v j legal ek (ea ∙ is.0) is.1 on there) (repack_has site h legal.0 v) (each_copy (repack_items h v))))
  where
    items_are : (a : Answer) → a ≡ answer.Repacking (length h + 1) (rows (repack_items h v)) → items_named (ask.Repack who v) a ≡ repack_items h v
    items_are a x = ap (items_named (ask.Repack who v)) x
new_items site h e _ a legal ek ea is = tt

old_items : (site : Site) (h : History) (e : Entry) (id : ℕ) (o : Option Repack) → repack_of site h id ≡ o → IsLegal site (e ∷ h) → AllOf (ItemStands site h id) (items_of o) → AllOf (ItemStands site (e ∷ h) id) (items_of (option_map (repack_after site (e ∷ h) e.ask) o))
unfolding items_of
old_items site h e id None is legal all = tt
old_items site h e id (Some r) is legal all =
    all_map (ItemStands site (e ∷ h) id) (item_after site (e ∷ h) e.ask) r.items (all_mono (ItemStands site h id) (λ i. ItemStands site (e ∷ h) id (item_after site (e ∷ h) e.ask i)) r.items (λ i x. older_stands site h e id i legal (ap is_some is) x) all)

all_items : (site : Site) (h : History) → IsLegal site h → (id : ℕ) → AllOf (ItemStands site h id) (items_of (repack_of site h id))
unfolding items_of
all_items site [] legal id = tt
all_items site (e ∷ h) legal id =
    elim (bool_cases (length h + 1 == id)) [
      | inl hit ↦ rw hit (subst (λ (n : ℕ). AllOf (ItemStands site (e ∷ h) n) (items_of (repack_by h e.ask e.answer))) (eqb-true _ _ hit) (new_items site h e e.ask e.answer legal refl refl (answer_is site h e.at e.ask e.answer legal.1.answered legal.1.accepted)))
      | inr miss ↦ rw miss (old_items site h e id (repack_of site h id) refl legal (all_items site h legal.0 id))
    ]

pub items_stand : (site : Site) (h : History) → IsLegal site h → (id : ℕ) (q : Repack) → repack_of site h id ≡ Some q → AllOf (ItemStands site h id) q.items
unfolding items_of
items_stand site h legal id q is = subst (λ (o : Option Repack). AllOf (ItemStands site h id) (items_of o)) is (all_items site h legal id)

pub reading_has_recall : ReadingHasRecall
reading_has_recall site h legal id q is = by q.items (items_stand site h legal id q is)
  where
    by : (xs : List RepackCopy) → AllOf (ItemStands site h id) xs → AllByRecursion (λ (i : RepackCopy). i.state ≡ item.Reading → WaitsForRecall site h id i.file) xs
    by [] all = tt
    by (i ∷ xs) all = (λ reads. subst (ItemHas site h id i.file i.copy) reads all.0.has, by xs all.1)

pub writing_has_job : WritingHasJob
writing_has_job site h legal id q is = by q.items (items_stand site h legal id q is)
  where
    by : (xs : List RepackCopy) → AllOf (ItemStands site h id) xs → AllByRecursion (λ (i : RepackCopy). i.state ≡ item.Writing → is_some (archive_birth site h i.file i.copy) ≡ true) xs
    by [] all = tt
    by (i ∷ xs) all = (λ writes. subst (ItemHas site h id i.file i.copy) writes all.0.has, by xs all.1)
