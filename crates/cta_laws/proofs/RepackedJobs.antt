-- A live archive job of a copy that was flushed stands for an item, WRITING, of a repack of the tape on which the copy has its place.
use Rattle.std.proofs.Common.{◌≡◌, ◌∙◌, ℕ, suc, ◌+◌, ◌≤◌, inl, inr, List, [], ◌∷◌, Bool, true, false, ◌&&◌, not, refl, sym, ap, subst, arith, length}
use Rattle.std.specs.Prelude.{Option, Some, None, is_some, option_map, if◌then◌else◌, ◌==◌, map, zip, bytes_eq}
use Rattle.std.specs.List.{list_any}
use Rattle.std.proofs.lemmas.Bool.{and_from, and_parts, eqb-true, eq-eqb}
use Rattle.cta_site.specs.declared.site.Site.{Site}
use Rattle.cta_site.specs.Listed.{rows}
use Rattle.cta_model.specs.declared.entries.Entry.{Entry}
use Rattle.cta_model.specs.declared.asks.Ask.{Ask}
use Rattle.cta_model.specs.declared.asks.Ask.TheVariants as ask
use Rattle.cta_model.specs.declared.asks.Fate.{Fate}
use Rattle.cta_model.specs.declared.asks.Fate.TheVariants as fate
use Rattle.cta_model.specs.declared.asks.Item.{Item}
use Rattle.cta_model.specs.declared.asks.Job.{Job}
use Rattle.cta_model.specs.declared.asks.Who.{Who}
use Rattle.cta_model.specs.declared.answers.Answer.{Answer}
use Rattle.cta_model.specs.declared.answers.Answer.TheVariants as answer
use Rattle.cta_model.specs.declared.reports.ItemState.{ItemState}
use Rattle.cta_model.specs.declared.reports.ItemState.TheVariants as item
use Rattle.cta_model.specs.declared.states.Place.{Place}
use Rattle.cta_model.specs.declared.states.RepackCopy.{RepackCopy}
use Rattle.cta_model.specs.History.{History, entry_of, has_number, has_text, is_empty, is_number, moment_of}
use Rattle.cta_model.specs.Files.{path_of}
use Rattle.cta_model.specs.Mounts.{asked_mount, has_copy, job_of, same_job, tape_of_mount}
use Rattle.cta_model.specs.Places.{flushed_in, fseq_after, is_copy_of, is_done, last_flushed, place_after, place_of, places_of, was_flushed}
use Rattle.cta_model.specs.Buffer.{is_resident}
use Rattle.cta_model.specs.Charges.{is_last_charge}
use Rattle.cta_model.specs.Recalls.{Recall, bears_recall, left_with, live_recall, lives_unless, recall_after, recall_goes_on, recall_job, subscribed, unsubscribed, waits_for}
use Rattle.cta_model.specs.RepackItems.{is_repacked, items_in, items_named, repack_items, waiting_for}
use Rattle.cta_model.specs.Jobs.{archive_after, archive_birth, bears_archive, ends_archive, is_live_job, live_birth}
use Rattle.cta_model.specs.Repacks.{Repack, after_reading, is_live_item, is_live_on, is_repack_live, item_after, makes_repack, new_item, repack_after, repack_by, repack_of, repacks_made, state_behind}
use Rattle.cta_model.specs.Answers.{fate_of, retried_jobs}
use Rattle.cta_model.specs.Legal.{IsLegal}
use Rattle.cta_laws.specs.Changes.{may_flush}
use Rattle.cta_laws.specs.Jobs.{NoBirthIsLost}
use Rattle.cta_laws.proofs.Accepted.{answer_is}
use Rattle.cta_laws.specs.Asks.{AnswerIs}
use Rattle.cta_laws.proofs.Claims.{AllOf, all_append, all_filter, all_mono}
use Rattle.cta_laws.proofs.FlushedLaw.{flushed_done}
use Rattle.cta_laws.proofs.Frames.{flushed_same}
use Rattle.cta_laws.proofs.JobFiles.{IsFailedCopy, births_meet_none, copy_failed, goes_quietly, no_archive, older_live, recall_absent, retry_failed}
use Rattle.cta_laws.proofs.PlaceLaw.{flushed_below, live_place}
use Rattle.cta_laws.proofs.RangeLaw.{told_job}
use Rattle.cta_laws.proofs.Ranges.{any_map, any_mono}
use Rattle.cta_laws.proofs.RepackedCopies.{repacked_copy, on_some}
use Rattle.cta_laws.proofs.ResidentLaw.{recall_live}
use Rattle.cta_laws.proofs.Tests.{bool_cases, next_not, not_next, or_cases, or_left, or_right}

-- ---- items of repacks

abbrev pub is_reading : ItemState → Bool
is_reading item.Reading = true
is_reading _ = false

abbrev pub is_writing : ItemState → Bool
is_writing item.Writing = true
is_writing _ = false

-- whether an item is of this copy, and its state passes a test
abbrev pub is_item : (ItemState → Bool) → ℕ → ℕ → RepackCopy → Bool
is_item test f c i = (i.file == f) && ((i.copy == c) && test i.state)

-- a repack of this number is of this tape, and has the copy among its items, in a state that passes a test
pub record HasItem (site : Site) (h : History) (id v f c : ℕ) (test : ItemState → Bool) : Type 0 where
  pub repack : Repack
  pub is : repack_of site h id ≡ Some repack
  pub tape : repack.tape ≡ v
  pub there : list_any (is_item test f c) repack.items ≡ true

repack_low : (site : Site) (h : History) (id : ℕ) (q : Repack) → repack_of site h id ≡ Some q → id ≤ length h
repack_low site [] id q is = absurd (cc)
repack_low site (e ∷ h) id q is =
    elim (bool_cases (length h + 1 == id)) [
      | inl hit ↦ (let same : length h + 1 ≡ id = eqb-true _ _ hit in omega arith)
      | inr miss ↦ by (repack_of site h id) (λ r was. repack_low site h id r was) refl (rw miss at is)
    ]
  where
    by : (o : Option Repack) → ((r : Repack) → repack_of site h id ≡ Some r → id ≤ length h) → repack_of site h id ≡ o → option_map (repack_after site (e ∷ h) e.ask) o ≡ Some q → id ≤ length (e ∷ h)
    by None older was x = absurd (cc)
    by (Some r) older was x = (let low : id ≤ length h = older r was in omega arith)

-- an item of an older repack, in the state that it has behind the newest entry
older_item : (site : Site) (h : History) (e : Entry) (id v f c : ℕ) (p q : ItemState → Bool) → ((s : ItemState) → p s ≡ true → q (state_behind site (e ∷ h) e.ask f c s) ≡ true) → HasItem site h id v f c p → HasItem site (e ∷ h) id v f c q
older_item site h e id v f c p q says was = record {
  repack = repack_after site (e ∷ h) e.ask was.repack;
  is = (let low : id ≤ length h = repack_low site h id was.repack was.is in let other : (length h + 1 == id) ≡ false = next_not id (length h) low in rw other (ap (option_map (repack_after site (e ∷ h) e.ask)) was.is));
  tape = was.tape;
  there = any_map (is_item q f c) (item_after site (e ∷ h) e.ask) was.repack.items
      ∙ any_mono (is_item p f c) (λ i. is_item q f c (item_after site (e ∷ h) e.ask i)) was.repack.items (λ i hit. one i hit) was.there;
}
  where
    one : (i : RepackCopy) → is_item p f c i ≡ true → is_item q f c (item_after site (e ∷ h) e.ask i) ≡ true
    one i hit =
        (let file = and_parts (i.file == f) _ hit in
        let copy = and_parts (i.copy == c) _ file.1 in
        let state : q (state_behind site (e ∷ h) e.ask i.file i.copy i.state) ≡ true =
        subst (λ (n : ℕ). q (state_behind site (e ∷ h) e.ask n i.copy i.state) ≡ true) (sym (eqb-true i.file f file.0))
        (subst (λ (n : ℕ). q (state_behind site (e ∷ h) e.ask f n i.state) ≡ true) (sym (eqb-true i.copy c copy.0)) (says i.state copy.1)) in
        and_from _ _ file.0 (and_from _ _ copy.0 state))

-- an item of the newest entry's repack
newest_item : (site : Site) (h : History) (e : Entry) (who : Who) (v f c : ℕ) (q : ItemState → Bool) → IsLegal site h → e.ask ≡ ask.Repack who v → e.answer ≡ answer.Repacking (length h + 1) (rows (repack_items h v)) → has_copy f c (repack_items h v) ≡ true
    → q (if is_resident h f then item.Writing else item.Reading) ≡ true → HasItem site (e ∷ h) (length h + 1) v f c q
newest_item site h e who v f c q legal ek ea there state = record {
  repack = record { tape = v; items = map (new_item h) (repack_items h v) };
  is = (let here : (length h + 1 == length h + 1) ≡ true = eq-eqb (length h + 1) (length h + 1) refl in rw here (ap (λ (k : Ask). repack_by h k e.answer) ek ∙ ap (repack_by h (ask.Repack who v)) ea));
  tape = refl;
  there = any_map (is_item q f c) (new_item h) (repack_items h v) ∙ any_mono (λ (j : Job). j.file == f && j.copy == c) (λ j. is_item q f c (new_item h j)) (repack_items h v) (λ j hit. one j hit) there;
}
  where
    one : (j : Job) → (j.file == f && j.copy == c) ≡ true → is_item q f c (new_item h j) ≡ true
    one j hit =
        (let both = and_parts (j.file == f) (j.copy == c) hit in
        and_from _ _ both.0 (and_from _ _ both.1 (subst (λ (n : ℕ). q (if is_resident h n then item.Writing else item.Reading) ≡ true) (sym (eqb-true j.file f both.0)) state)))

-- ---- what an entry flushes had a live job, which ends

some_fseq : (site : Site) (h : History) (e : Entry) (f c : ℕ) → IsLegal site (e ∷ h) → (s : ℕ) → fseq_after (flushed_in e.ask e.answer) f c None ≡ Some s → (j : Job) × (j.file ≡ f) × (j.copy ≡ c) × (is_live_job site h j ≡ true)
some_fseq site h e f c legal s is = told_job site h (moment_of h e.at) f c s e.ask e.answer (answer_is site h e.at e.ask e.answer legal.1.answered legal.1.accepted) is

-- a copy with no live job is not flushed
pub not_flushed : (site : Site) (h : History) (e : Entry) (f c : ℕ) → IsLegal site (e ∷ h) → archive_birth site h f (suc c) ≡ None → last_flushed (e ∷ h) f (suc c) ≡ last_flushed h f (suc c)
not_flushed site h e f c legal dead = ap (λ (o : Option ℕ). place_after (suc c) (tape_of_mount h (asked_mount e.ask)) o (last_flushed h f (suc c))) (by (fseq_after (flushed_in e.ask e.answer) f (suc c) None) refl)
  where
    by : (o : Option ℕ) → fseq_after (flushed_in e.ask e.answer) f (suc c) None ≡ o → fseq_after (flushed_in e.ask e.answer) f (suc c) None ≡ None
    by None is = is
    by (Some s) is =
        (let j = some_fseq site h e f (suc c) legal s is in
        let live : is_number j.0.birth (archive_birth site h f (suc c)) ≡ true = subst (λ (n : ℕ). is_number j.0.birth (live_birth site h f n) ≡ true) j.2 (subst (λ (n : ℕ). is_number j.0.birth (live_birth site h n j.0.copy) ≡ true) j.1 j.3) in
        let flat : is_number j.0.birth None ≡ true = subst (λ (o : Option ℕ). is_number j.0.birth o ≡ true) dead live in
        absurd (cc))

told_ends : (site : Site) (h : History) (b f c : ℕ) (items : List Item) → archive_birth site h f (suc c) ≡ Some b → list_any (is_copy_of f (suc c)) (zip items (map (λ (i : Item). fate_of site h i.job) items)) ≡ true
    → list_any (λ (x : Item × Fate). is_done x.1 && same_job x.0.job (job_of b f (suc c))) (zip items (map (λ (i : Item). fate_of site h i.job) items)) ≡ true
told_ends site h b f c [] is e = absurd (cc)
told_ends site h b f c (i ∷ items) is e =
    elim (or_cases (is_copy_of f (suc c) (i, fate_of site h i.job)) _ e) [
      | inr rest ↦ or_right _ _ (told_ends site h b f c items is rest)
      | inl hit ↦
          (let done = and_parts (is_done (fate_of site h i.job)) _ hit in
          let both = and_parts (i.job.file == f) (i.job.copy == suc c) done.1 in
          let live : is_live_job site h i.job ≡ true = was_live (is_live_job site h i.job) done.0 in
          let here : is_number i.job.birth (archive_birth site h f (suc c)) ≡ true =
          subst (λ (n : ℕ). is_number i.job.birth (live_birth site h f n) ≡ true) (eqb-true i.job.copy (suc c) both.1) (subst (λ (n : ℕ). is_number i.job.birth (live_birth site h n i.job.copy) ≡ true) (eqb-true i.job.file f both.0) live) in
          let birth : (i.job.birth == b) ≡ true = subst (λ (o : Option ℕ). is_number i.job.birth o ≡ true) is here in
          or_left _ _ (and_from _ _ done.0 (and_from _ _ birth (and_from _ _ both.0 both.1))))
    ]
  where
    was_live : (t : Bool) → is_done (if t then fate.Done else fate.Stale) ≡ true → t ≡ true
    was_live true x = refl
    was_live false x = absurd (cc)

flush_ends : (site : Site) (h : History) (t b f c s : ℕ) (k : Ask) (a : Answer) → AnswerIs site h t k a → archive_birth site h f (suc c) ≡ Some b → fseq_after (flushed_in k a) f (suc c) None ≡ Some s → ends_archive site h k a (job_of b f (suc c)) ≡ true
flush_ends site h t b f c s (ask.Flushed m items) a is on e =
    (let told : fseq_after (zip items.items (map (λ (i : Item). fate_of site h i.job) items.items)) f (suc c) None ≡ Some s = subst (λ (x : Answer). fseq_after (flushed_in (ask.Flushed m items) x) f (suc c) None ≡ Some s) is e in
    subst (λ (x : Answer). ends_archive site h (ask.Flushed m items) x (job_of b f (suc c)) ≡ true) (sym is)
    (told_ends site h b f c items.items on (flushed_done (zip items.items (map (λ (i : Item). fate_of site h i.job) items.items)) f (suc c) (ap is_some told))))
flush_ends site h t b f c s _ a is on e = absurd (cc)

-- a job that lives on is not flushed
pub lives_on : (site : Site) (h : History) (e : Entry) (b f c : ℕ) → IsLegal site (e ∷ h) → archive_birth site h f (suc c) ≡ Some b → ends_archive site h e.ask e.answer (job_of b f (suc c)) ≡ false → last_flushed (e ∷ h) f (suc c) ≡ last_flushed h f (suc c)
lives_on site h e b f c legal on goes = ap (λ (o : Option ℕ). place_after (suc c) (tape_of_mount h (asked_mount e.ask)) o (last_flushed h f (suc c))) (by (fseq_after (flushed_in e.ask e.answer) f (suc c) None) refl)
  where
    by : (o : Option ℕ) → fseq_after (flushed_in e.ask e.answer) f (suc c) None ≡ o → fseq_after (flushed_in e.ask e.answer) f (suc c) None ≡ None
    by None is = is
    by (Some s) is =
        (let ends : ends_archive site h e.ask e.answer (job_of b f (suc c)) ≡ true = flush_ends site h (moment_of h e.at) b f c s e.ask e.answer (answer_is site h e.at e.ask e.answer legal.1.answered legal.1.accepted) on is in
        absurd (cc))

-- ---- each repack that waits for a recall has its items of the file READING

-- an entry that waits for the recall of a file, and repacks a copy of it, has the copy as an item, READING, and its place is on the tape
abbrev ReadsFor : Site → History → ℕ → ℕ → Type 0
ReadsFor site h f id = (id ≤ length h) × ((c : ℕ) → has_copy f (suc c) (items_in (entry_of h id)) ≡ true → (p : Place) × (last_flushed h f (suc c) ≡ Some p) × HasItem site h id p.tape f (suc c) is_reading)

abbrev AllWaiting : (ℕ → Type 0) → Option Recall → Type 0
AllWaiting P None = Unit {0}
AllWaiting P (Some r) = AllOf P r.waiting

left_all : (P : ℕ → Type 0) (birth : ℕ) (ss : List ℕ) → AllOf P ss → AllWaiting P (left_with birth ss)
left_all P birth [] all = tt
left_all P birth (s ∷ ss) all = all

subscribed_all : (P : ℕ → Type 0) (n : ℕ) (r : Recall) (t : Bool) → (t ≡ true → P n) → AllOf P r.waiting → AllWaiting P (Some (subscribed t n r))
subscribed_all P n r true new all = all_append P r.waiting (n ∷ []) all (new refl, tt)
subscribed_all P n r false new all = all

unless_all : (P : ℕ → Type 0) (r : Recall) (t : Bool) → AllOf P r.waiting → AllWaiting P (lives_unless t r)
unless_all P r true all = tt
unless_all P r false all = all

-- what holds of those that wait, and of the newest entry where it waits, holds of those that wait behind it
goes_on_all : (P : ℕ → Type 0) (site : Site) (h : History) (e : Entry) (f : ℕ) (r : Recall) (k : Ask) (a : Answer) → (waits_for site h k f ≡ true → P (length h + 1)) → AllOf P r.waiting → AllWaiting P (recall_goes_on site h e f r k a)
goes_on_all P site h e f r (ask.Stage who files) a new all = subscribed_all P (length h + 1) r (waits_for site h (ask.Stage who files) f) new all
goes_on_all P site h e f r (ask.Repack who v) a new all = subscribed_all P (length h + 1) r (waits_for site h (ask.Repack who v) f) new all
goes_on_all P site h e f r (ask.Cancel who id paths) a new all =
    elim (has_text (path_of h f) paths.items) as (λ t. AllWaiting P (if t then unsubscribed id r else Some r)) [ true ↦ left_all P r.birth _ (all_filter P (λ s. not (s == id)) r.waiting all) | false ↦ all ]
goes_on_all P site h e f r (ask.DropStage who id) a new all = left_all P r.birth _ (all_filter P (λ s. not (s == id)) r.waiting all)
goes_on_all P site h e f r (ask.Recalled m job) (answer.Arrived fate.Done) new all = unless_all P r (same_job job (recall_job r.birth f)) all
goes_on_all P site h e f r (ask.Failed m fault charged returned) a new all = unless_all P r (is_last_charge site h (ask.Failed m fault charged returned) (recall_job r.birth f)) all
goes_on_all P site h e f r (ask.Delete who path) a new all = unless_all P r (bytes_eq path (path_of h f)) all
goes_on_all P site h e f r (ask.TapeState who v s) a new all = unless_all P r (is_empty (places_of site (e ∷ h) f)) all
goes_on_all P site h e f r _ a new all = all

newest_reads : (site : Site) (h : History) (e : Entry) (f : ℕ) → IsLegal site (e ∷ h) → is_resident h f ≡ false → ReadsFor site (e ∷ h) f (length h + 1)
newest_reads site h e f legal away = (omega arith, λ c there. by c e.ask e.answer refl refl (answer_is site h e.at e.ask e.answer legal.1.answered legal.1.accepted) (newest c there))
  where
    newest : (c : ℕ) → has_copy f (suc c) (items_in (entry_of (e ∷ h) (length h + 1))) ≡ true → has_copy f (suc c) (items_named e.ask e.answer) ≡ true
    newest c there = (let here : (length h + 1 == length h + 1) ≡ true = eq-eqb (length h + 1) (length h + 1) refl in rw here at there)

    by : (c : ℕ) (k : Ask) (a : Answer) → e.ask ≡ k → e.answer ≡ a → AnswerIs site h (moment_of h e.at) k a → has_copy f (suc c) (items_named k a) ≡ true → (p : Place) × (last_flushed (e ∷ h) f (suc c) ≡ Some p) × HasItem site (e ∷ h) (length h + 1) p.tape f (suc c) is_reading
    by c (ask.Repack who v) a ek ea is there =
        (let among : has_copy f (suc c) (repack_items h v) ≡ true = subst (λ (x : Answer). has_copy f (suc c) (items_named (ask.Repack who v) x) ≡ true) is.0 there in
        let p = on_some v (place_of h f (suc c)) (sym (repacked_copy site h legal.0 v f (suc c)) ∙ among) in
        let flushed : last_flushed (e ∷ h) f (suc c) ≡ Some p.0 = flushed_same e h f (suc c) (ap may_flush ek) ∙ (live_place h f (suc c) p.0 p.1).1 in
        let reads : is_reading (if is_resident h f then item.Writing else item.Reading) ≡ true = rw away refl in
        (p.0, flushed, subst (λ (u : ℕ). HasItem site (e ∷ h) (length h + 1) u f (suc c) is_reading) (sym (eqb-true _ _ p.2)) (newest_item site h e who v f (suc c) is_reading legal.0 ek (ea ∙ is.0) among reads)))
    by c _ a ek ea is there = absurd (cc)

older_reads : (site : Site) (h : History) (e : Entry) (f id : ℕ) → IsLegal site (e ∷ h) → is_some (live_recall site h f) ≡ true → is_some (live_recall site (e ∷ h) f) ≡ true → ReadsFor site h f id → ReadsFor site (e ∷ h) f id
older_reads site h e f id legal was now reads =
    (let low : id ≤ length h = reads.0 in (
      omega arith,
      λ c there. (let other : (id == length h + 1) ≡ false = not_next id (length h) low in let r = reads.1 c (rw other at there) in
          (r.0, not_flushed site h e f c legal (no_archive site h legal.0 f c was) ∙ r.1, older_item site h e id r.0.tape f (suc c) is_reading is_reading (λ s x. stays c s x) r.2)),
    ))
  where
    stays : (c : ℕ) (s : ItemState) → is_reading s ≡ true → is_reading (state_behind site (e ∷ h) e.ask f (suc c) s) ≡ true
    stays c item.Reading x = rw now refl
    stays c item.Writing x = absurd (cc)
    stays c item.Done x = absurd (cc)
    stays c item.Failed x = absurd (cc)
    stays c item.Gone x = absurd (cc)

reads_step : (site : Site) (h : History) (e : Entry) (f : ℕ) → IsLegal site (e ∷ h) → (o : Option Recall) → live_recall site h f ≡ o → AllWaiting (ReadsFor site h f) o → AllWaiting (ReadsFor site (e ∷ h) f) (recall_after site h e f o)
reads_step site h e f legal None is all =
    elim (bool_cases (bears_recall site h e.ask f)) [
      | inr d ↦ rw d tt
      | inl b ↦ rw b (newest_reads site h e f legal (away (is_resident h f) (and_parts (not (is_resident h f)) _ (and_parts (waits_for site h e.ask f) _ b).1).0), tt)
    ]
  where
    away : (t : Bool) → not t ≡ true → t ≡ false
    away true x = absurd (cc)
    away false x = refl
reads_step site h e f legal (Some r) is all = by (recall_goes_on site h e f r e.ask e.answer) refl
  where
    was : is_some (live_recall site h f) ≡ true
    was = ap is_some is

    by : (o : Option Recall) → recall_goes_on site h e f r e.ask e.answer ≡ o → AllWaiting (ReadsFor site (e ∷ h) f) (recall_goes_on site h e f r e.ask e.answer)
    by None gone = subst (AllWaiting (ReadsFor site (e ∷ h) f)) (sym gone) tt
    by (Some q) goes =
        (let now : is_some (live_recall site (e ∷ h) f) ≡ true = ap is_some (ap (recall_after site h e f) is ∙ goes) in
        goes_on_all (ReadsFor site (e ∷ h) f) site h e f r e.ask e.answer (λ w. newest_reads site h e f legal (recall_absent site h legal.0 f was)) (all_mono (ReadsFor site h f) (ReadsFor site (e ∷ h) f) r.waiting (λ id x. older_reads site h e f id legal was now x) all))

reads : (site : Site) (h : History) → IsLegal site h → (f : ℕ) → AllWaiting (ReadsFor site h f) (live_recall site h f)
reads site [] legal f = tt
reads site (e ∷ h) legal f = reads_step site h e f legal (live_recall site h f) refl (reads site h legal.0 f)

-- ---- a live job of a flushed copy

-- a live archive job of a flushed copy has an item, WRITING, of a repack of its tape
abbrev WritesFor : Site → History → ℕ → ℕ → Type 0
WritesFor site h f c = (p : Place) → is_some (archive_birth site h f (suc c)) ≡ true → last_flushed h f (suc c) ≡ Some p → (id : ℕ) × HasItem site h id p.tape f (suc c) is_writing

pub read_item : (site : Site) (h : History) → IsLegal site h → (f c : ℕ) → is_repacked site h f (suc c) ≡ true → (id : ℕ) × (p : Place) × (last_flushed h f (suc c) ≡ Some p) × HasItem site h id p.tape f (suc c) is_reading
read_item site h legal f c there = by (live_recall site h f) (reads site h legal f) there
  where
    among : (ss : List ℕ) → AllOf (ReadsFor site h f) ss → list_any (λ s. has_copy f (suc c) (items_in (entry_of h s))) ss ≡ true → (id : ℕ) × (p : Place) × (last_flushed h f (suc c) ≡ Some p) × HasItem site h id p.tape f (suc c) is_reading
    among [] all e = absurd (cc)
    among (s ∷ ss) all e =
        elim (or_cases (has_copy f (suc c) (items_in (entry_of h s))) _ e) [ inl hit ↦ (let r = all.0.1 c hit in (s, r.0, r.1, r.2)) | inr rest ↦ among ss all.1 rest ]

    by : (o : Option Recall) → AllWaiting (ReadsFor site h f) o → list_any (λ s. has_copy f (suc c) (items_in (entry_of h s))) (waiting_for o) ≡ true → (id : ℕ) × (p : Place) × (last_flushed h f (suc c) ≡ Some p) × HasItem site h id p.tape f (suc c) is_reading
    by None all e = absurd (cc)
    by (Some r) all e = among r.waiting all e

born_writes : (site : Site) (h : History) (e : Entry) (f c : ℕ) (p : Place) (k : Ask) (a : Answer) → IsLegal site (e ∷ h) → e.ask ≡ k → e.answer ≡ a → AnswerIs site h (moment_of h e.at) k a → bears_archive site h k a f (suc c) ≡ true → last_flushed h f (suc c) ≡ Some p → (id : ℕ) × HasItem site (e ∷ h) id p.tape f (suc c) is_writing
born_writes site h e f c p (ask.Put who path sum) a legal ek ea is b flushed =
    (let file : length h + 1 ≡ f = eqb-true _ _ (and_parts (length h + 1 == f) _ b).0 in let low : f ≤ length h = flushed_below site h legal.0 f (suc c) p flushed in absurd (omega arith))
born_writes site h e f c p (ask.Retry who paths) a legal ek ea is b flushed =
    (let there : has_copy f (suc c) (retried_jobs site h [] paths.items) ≡ true = subst (λ (x : Answer). bears_archive site h (ask.Retry who paths) x f (suc c) ≡ true) is b in
    let failed : IsFailedCopy site h (job_of 0 f (suc c)) = copy_failed site h f (suc c) (retried_jobs site h [] paths.items) (retry_failed site h [] paths.items) there in
    let never : was_flushed h f (suc c) ≡ false = failed.1 in
    let some : was_flushed h f (suc c) ≡ true = ap is_some flushed in
    absurd (cc))
born_writes site h e f c p (ask.Repack who v) a legal ek ea is b flushed =
    (let both : (is_resident h f && has_copy f (suc c) (repack_items h v)) ≡ true = subst (λ (x : Answer). bears_archive site h (ask.Repack who v) x f (suc c) ≡ true) is.0 b in
    let parts = and_parts (is_resident h f) _ both in
    let q = on_some v (place_of h f (suc c)) (sym (repacked_copy site h legal.0 v f (suc c)) ∙ parts.1) in
    let same : p ≡ q.0 = one_place p q.0 (sym flushed ∙ (live_place h f (suc c) q.0 q.1).1) in
    let writes : is_writing (if is_resident h f then item.Writing else item.Reading) ≡ true = rw parts.0 refl in
    (length h + 1, subst (λ (u : ℕ). HasItem site (e ∷ h) (length h + 1) u f (suc c) is_writing) (sym (ap (λ (x : Place). x.tape) same ∙ eqb-true _ _ q.2)) (newest_item site h e who v f (suc c) is_writing legal.0 ek (ea ∙ is.0) parts.1 writes)))
  where
    place_in : Option Place → Place
    place_in None = p
    place_in (Some q) = q

    one_place : (x y : Place) → Some x ≡ Some y → x ≡ y
    one_place x y e = ap place_in e
born_writes site h e f c p (ask.Recalled m job) (answer.Arrived fate.Done) legal ek ea is b flushed =
    (let parts = and_parts (job.file == f) (is_repacked site h f (suc c)) b in
    let r = read_item site h legal.0 f c parts.1 in
    let same : r.1 ≡ p = one_place r.1 p (sym r.2 ∙ flushed) in
    (r.0, subst (λ (u : ℕ). HasItem site (e ∷ h) r.0 u f (suc c) is_writing) (ap (λ (x : Place). x.tape) same) (older_item site h e r.0 r.1.tape f (suc c) is_reading is_writing (λ s x. writes parts.0 s x) r.3)))
  where
    place_in : Option Place → Place
    place_in None = p
    place_in (Some q) = q

    one_place : (x y : Place) → Some x ≡ Some y → x ≡ y
    one_place x y e = ap place_in e

    recall_after_none : Site → History → Ask → ℕ → Option Recall
    recall_after_none site h k f = if bears_recall site h k f then Some (record { birth = length h + 1; waiting = (length h + 1) ∷ [] }) else None

    ended : (job.file == f) ≡ true → (o : Option Recall) → live_recall site h f ≡ o → is_some (recall_after site h e f o) ≡ false
    ended hit None was = ap (λ (k : Ask). is_some (recall_after_none site h k f)) ek
    ended hit (Some q) was =
        elim (bool_cases (is_some (recall_goes_on site h e f q e.ask e.answer))) [
          | inr gone ↦ gone
          | inl goes ↦
              (let low : f ≤ length h = older_live h f (recall_live site h legal.0 f (ap is_some was)) in
              let on : is_some (recall_goes_on site h e f q (ask.Recalled m job) (answer.Arrived fate.Done)) ≡ true = sym (ap (λ (k : Ask). is_some (recall_goes_on site h e f q k e.answer)) ek ∙ ap (λ (x : Answer). is_some (recall_goes_on site h e f q (ask.Recalled m job) x)) ea) ∙ goes in
              let quiet : (job.file == f) ≡ false = goes_quietly site h e f q legal was low (ask.Recalled m job) (answer.Arrived fate.Done) ek ea on in
              absurd (cc))
        ]

    writes : (job.file == f) ≡ true → (s : ItemState) → is_reading s ≡ true → is_writing (state_behind site (e ∷ h) e.ask f (suc c) s) ≡ true
    writes hit item.Reading x = (let off : is_some (live_recall site (e ∷ h) f) ≡ false = ended hit (live_recall site h f) refl in rw off (ap (λ (k : Ask). is_writing (after_reading false k)) ek))
    writes hit item.Writing x = absurd (cc)
    writes hit item.Done x = absurd (cc)
    writes hit item.Failed x = absurd (cc)
    writes hit item.Gone x = absurd (cc)
born_writes site h e f c p _ a legal ek ea is b flushed = absurd (cc)

writes_step : (site : Site) (h : History) (e : Entry) (f c : ℕ) → IsLegal site (e ∷ h) → WritesFor site h f c → (o : Option ℕ) → archive_birth site h f (suc c) ≡ o → (p : Place) → is_some (archive_after site h e f (suc c) o) ≡ true → last_flushed (e ∷ h) f (suc c) ≡ Some p → (id : ℕ) × HasItem site (e ∷ h) id p.tape f (suc c) is_writing
writes_step site h e f c legal before None was p on flushed =
    elim (bool_cases (bears_archive site h e.ask e.answer f (suc c))) [
      | inr d ↦ (let bad : false ≡ true = rw d at on in absurd (cc))
      | inl b ↦ born_writes site h e f c p e.ask e.answer legal refl refl (answer_is site h e.at e.ask e.answer legal.1.answered legal.1.accepted) b (sym (not_flushed site h e f c legal was) ∙ flushed)
    ]
writes_step site h e f c legal before (Some b) was p on flushed =
    elim (bool_cases (ends_archive site h e.ask e.answer (job_of b f (suc c)))) [
      | inl t ↦ (let bad : false ≡ true = rw t at on in absurd (cc))
      | inr goes ↦
          (let now : is_some (archive_birth site (e ∷ h) f (suc c)) ≡ true = ap (λ (o : Option ℕ). is_some (archive_after site h e f (suc c) o)) was ∙ on in
          let i = before p (ap is_some was) (sym (lives_on site h e b f c legal was goes) ∙ flushed) in
          (i.0, older_item site h e i.0 p.tape f (suc c) is_writing is_writing (λ s x. stays now s x) i.1))
    ]
  where
    stays : is_some (archive_birth site (e ∷ h) f (suc c)) ≡ true → (s : ItemState) → is_writing s ≡ true → is_writing (state_behind site (e ∷ h) e.ask f (suc c) s) ≡ true
    stays now item.Writing x = rw now refl
    stays now item.Reading x = absurd (cc)
    stays now item.Done x = absurd (cc)
    stays now item.Failed x = absurd (cc)
    stays now item.Gone x = absurd (cc)

writes : (site : Site) (h : History) → IsLegal site h → (f c : ℕ) → WritesFor site h f c
writes site [] legal f c p on flushed = absurd (cc)
writes site (e ∷ h) legal f c p on flushed = writes_step site h e f c legal (writes site h legal.0 f c) (archive_birth site h f (suc c)) refl p on flushed

-- ---- no birth is lost

was_made : (site : Site) (h : History) (id : ℕ) (q : Repack) → repack_of site h id ≡ Some q → has_number id (repacks_made h) ≡ true
was_made site [] id q is = absurd (cc)
was_made site (e ∷ h) id q is =
    elim (bool_cases (length h + 1 == id)) [
      | inl hit ↦
          (let made : makes_repack e.ask ≡ true = makes e.ask e.answer (rw hit at is) in
          rw made (or_left (id == length h + 1) _ (eq-eqb id (length h + 1) (sym (eqb-true _ _ hit)))))
      | inr miss ↦ by (repack_of site h id) (λ r was. was_made site h id r was) refl (rw miss at is)
    ]
  where
    makes : (k : Ask) (a : Answer) → repack_by h k a ≡ Some q → makes_repack k ≡ true
    makes (ask.Repack who v) (answer.Repacking n items) x = refl
    makes _ _ x = absurd (cc)

    keeps : (t : Bool) (n : ℕ) (ns : List ℕ) → has_number id ns ≡ true → has_number id (if t then n ∷ ns else ns) ≡ true
    keeps true n ns x = or_right (id == n) _ x
    keeps false n ns x = x

    by : (o : Option Repack) → ((r : Repack) → repack_of site h id ≡ Some r → has_number id (repacks_made h) ≡ true) → repack_of site h id ≡ o → option_map (repack_after site (e ∷ h) e.ask) o ≡ Some q → has_number id (if makes_repack e.ask then (length h + 1) ∷ repacks_made h else repacks_made h) ≡ true
    by None older was x = absurd (cc)
    by (Some r) older was x = keeps (makes_repack e.ask) (length h + 1) (repacks_made h) (older r was)

-- where a copy that was flushed has a live archive job, a repack of the tape of its place is live
pub repack_lives : (site : Site) (h : History) → IsLegal site h → (f c : ℕ) (p : Place) → is_some (archive_birth site h f (suc c)) ≡ true → last_flushed h f (suc c) ≡ Some p → is_repack_live site h p.tape ≡ true
repack_lives site h legal f c p on flushed =
    (let i = writes site h legal f c p on flushed in
    any_has (λ id. is_live_on p.tape (repack_of site h id)) i.0 (repacks_made h) (was_made site h i.0 i.1.repack i.1.is)
    (ap (is_live_on p.tape) i.1.is ∙ and_from _ _ (eq-eqb _ _ i.1.tape) (any_mono (is_item is_writing f (suc c)) (λ (x : RepackCopy). is_live_item x.state) i.1.repack.items (λ x hit. live x.state (and_parts (x.copy == suc c) _ (and_parts (x.file == f) _ hit).1).1) i.1.there)))
  where
    live : (s : ItemState) → is_writing s ≡ true → is_live_item s ≡ true
    live item.Writing x = refl
    live item.Reading x = absurd (cc)
    live item.Done x = absurd (cc)
    live item.Failed x = absurd (cc)
    live item.Gone x = absurd (cc)

    any_has : (test : ℕ → Bool) (n : ℕ) (ns : List ℕ) → has_number n ns ≡ true → test n ≡ true → list_any test ns ≡ true
    any_has test n [] there t = absurd (cc)
    any_has test n (m ∷ ns) there t =
        elim (or_cases (n == m) _ there) [ inl hit ↦ or_left (test m) _ (subst (λ (x : ℕ). test x ≡ true) (eqb-true n m hit) t) | inr rest ↦ or_right (test m) _ (any_has test n ns rest t) ]

repack_meets_none : (site : Site) (h : History) (e : Entry) (who : Who) (v f c : ℕ) (a : Answer) → IsLegal site h → AnswerIs site h (moment_of h e.at) (ask.Repack who v) a → bears_archive site h (ask.Repack who v) a f (suc c) ≡ true → archive_birth site h f (suc c) ≡ None
repack_meets_none site h e who v f c a legal is b = by (archive_birth site h f (suc c)) refl
  where
    there : has_copy f (suc c) (repack_items h v) ≡ true
    there = (and_parts (is_resident h f) _ (subst (λ (x : Answer). bears_archive site h (ask.Repack who v) x f (suc c) ≡ true) is.0 b)).1

    by : (o : Option ℕ) → archive_birth site h f (suc c) ≡ o → archive_birth site h f (suc c) ≡ None
    by None was = was
    by (Some n) was =
        (let p = on_some v (place_of h f (suc c)) (sym (repacked_copy site h legal v f (suc c)) ∙ there) in
        let lives : is_repack_live site h v ≡ true = subst (λ (u : ℕ). is_repack_live site h u ≡ true) (eqb-true _ _ p.2) (repack_lives site h legal f c p.0 (ap is_some was) (live_place h f (suc c) p.0 p.1).1) in
        let none : is_repack_live site h v ≡ false = is.2 in
        absurd (cc))

pub no_birth_is_lost : NoBirthIsLost
no_birth_is_lost site h e legal f c b = by e.ask e.answer refl refl (answer_is site h e.at e.ask e.answer legal.1.answered legal.1.accepted) b
  where
    by : (k : Ask) (a : Answer) → e.ask ≡ k → e.answer ≡ a → AnswerIs site h (moment_of h e.at) k a → bears_archive site h k a f (suc c) ≡ true → archive_birth site h f (suc c) ≡ None
    by (ask.Repack who v) a ek ea is b = repack_meets_none site h e who v f c a legal.0 is b
    by (ask.Put who path sum) a ek ea is b = births_meet_none site h e f c (ask.Put who path sum) a legal ek ea (λ w v x. absurd (cc)) b
    by (ask.Retry who paths) a ek ea is b = births_meet_none site h e f c (ask.Retry who paths) a legal ek ea (λ w v x. absurd (cc)) b
    by (ask.Recalled m job) a ek ea is b = births_meet_none site h e f c (ask.Recalled m job) a legal ek ea (λ w v x. absurd (cc)) b
    by _ a ek ea is b = absurd (cc)
