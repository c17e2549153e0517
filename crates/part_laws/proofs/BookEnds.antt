-- How a Flushed, a Failed, a Recalled, a Stage, a Cancel, a DropStage, a TapeState, a Repack and a Retry move a job book.
use Rattle.std.proofs.Common.{◌≡◌, ◌∙◌, ℕ, suc, ◌+◌, inl, inr, List, [], ◌∷◌, ◌++◌, Bool, true, false, ◌&&◌, ◌||◌, refl, sym, ap, subst, arith, length}
use Rattle.std.specs.Prelude.{Option, Some, None, is_none, is_some, option_map, if◌then◌else◌, ◌==◌, filter, nat_le}
use Rattle.std.proofs.lemmas.Bool.{eqb-true, eq-eqb}
use Rattle.cta_site.specs.declared.site.Site.{Site}
use Rattle.cta_site.specs.declared.site.TapeState.{TapeState}
use Rattle.cta_site.specs.Listed.{Listed, rows}
use Rattle.cta_model.specs.declared.entries.Entry.{Entry}
use Rattle.cta_model.specs.declared.asks.Ask.{Ask}
use Rattle.cta_model.specs.declared.answers.Answer.{Answer}
use Rattle.cta_model.specs.declared.asks.Fault.{Fault}
use Rattle.cta_model.specs.declared.asks.Who.{Who}
use Rattle.cta_model.specs.declared.asks.Wanted.{Wanted}
use Rattle.cta_model.specs.declared.asks.Item.{Item}
use Rattle.cta_model.specs.declared.asks.Job.{Job}
use Rattle.cta_model.specs.History.{History, is_number, has_number, has_text, is_empty}
use Rattle.cta_model.specs.Files.{path_of}
use Rattle.cta_model.specs.Mounts.{claimer_of, has_job, item_jobs, same_job, tape_of_mount, drive_of_mount, has_copy, job_of}
use Rattle.cta_model.specs.Places.{places_of}
use Rattle.cta_model.specs.Charges.{charges_of, is_last_charge}
use Rattle.cta_model.specs.Recalls.{Recall, live_recall, recall_after, recall_goes_on, lives_unless, subscribed, unsubscribed, waits_for, bears_recall}
use Rattle.cta_model.specs.Jobs.{archive_birth, archive_after, live_birth, is_live_job, ends_archive}
use Rattle.cta_model.specs.RepackItems.{is_repacked}
use Rattle.cta_model.specs.Buffer.{is_resident}
use Rattle.cta_model.specs.Legal.{IsLegal}
use Rattle.cta_model.specs.Answers.{answer_of}
use Rattle.cta_laws.proofs.Tests.{bool_cases}
use Rattle.cta_laws.proofs.OnceLaw.{birth_in, same_job_eq}
use Rattle.cta_model.specs.declared.asks.Ask.TheVariants as ask
use Rattle.cta_model.specs.declared.asks.Fate.TheVariants as fate
use Rattle.cta_model.specs.declared.answers.Answer.TheVariants as answer
use Rattle.cta_model.specs.declared.asks.Direction.TheVariants as direction
use Rattle.part_laws.proofs.LastSteps.{TellLive}
use Rattle.part_model.specs.JobBook.{bear_jobs, charge_jobs, drop_files, drop_from, end_jobs, give_back_jobs, subscribe_files}
use Rattle.part_laws.proofs.EndSteps.{done_among, fates_of, flip_same, flushed_recall, flushed_told, flushed_way}
use Rattle.part_laws.proofs.BookSteps.{archive_unless, either, ended_archive, ended_recall, recall_unless}
use Rattle.cta_laws.specs.Changes.{may_change_claims, may_charge}
use Rattle.cta_laws.proofs.Claimers.{claimer_step}
use Rattle.cta_laws.proofs.Frames.{charges_same, claimer_same}
use Rattle.cta_laws.specs.Claims.{claimer_after}
use Rattle.part_laws.specs.QueueBooks.{book_of}
use Rattle.part_laws.proofs.Orders.{has_filter}
use Rattle.part_laws.proofs.FailSteps.{failed_charges}
use Rattle.cta_laws.proofs.JobFiles.{no_archive, recall_copy, recalled_way}

-- ---- Flushed

pub and_true : (x : Bool) → (x && true) ≡ x
and_true true = refl
and_true false = refl

-- a Flushed gives back what it names, and ends what is live of it
pub flushed_live : (site : Site) (h : History) (e : Entry) (m : ℕ) (items : Listed Item) → IsLegal site (e ∷ h) → e.ask ≡ ask.Flushed m items
    → TellLive (end_jobs (filter (is_live_job site h) (item_jobs items.items)) (give_back_jobs (item_jobs items.items) (book_of site h))) (book_of site (e ∷ h))
flushed_live site h e m items legal ek = record {
  recall = λ f. ended_recall site h f (item_jobs items.items) (live_recall site h f) refl ∙ stays f (live_recall site h f) ∙ sym (flushed_recall site h e m items f (live_recall site h f) ek);
  archive = λ f c. ended_archive site h f c (item_jobs items.items) (archive_birth site h f (suc c)) refl ∙ archive f c (archive_birth site h f (suc c)) refl;
  claimer = λ j. sym (claimer_step site h e legal j ∙ ap (λ (k : Ask). claimer_after k e.answer j (claimer_of h j)) ek);
  charges = λ j. sym (charges_same e h j (ap may_charge ek));
}
  where
    told : e.answer ≡ answer.Told (rows (fates_of site h items.items))
    told = flushed_told site h e.at m items e.answer (legal.1.answered ∙ ap (answer_of site h e.at) ek) legal.1.accepted

    not_named : (b f : ℕ) → has_job (job_of b f 0) (item_jobs items.items) ≡ false
    not_named b f =
        elim (bool_cases (has_job (job_of b f 0) (item_jobs items.items)))
        [ inl there ↦ (let way : direction.Retrieve ≡ direction.Archive = flushed_way site h e m items legal ek (job_of b f 0) there in absurd (cc)) | inr none ↦ none ]

    stays : (f : ℕ) (o : Option Recall) → recall_unless f (item_jobs items.items) o ≡ o
    stays f None = refl
    stays f (Some r) = rw (not_named r.birth f) refl

    archive : (f c : ℕ) (o : Option ℕ) → archive_birth site h f (suc c) ≡ o → archive_unless f (suc c) (item_jobs items.items) o ≡ archive_after site h e f (suc c) o
    archive f c None is = sym (rw ek refl)
    archive f c (Some b) is =
        (let live : is_live_job site h (job_of b f (suc c)) ≡ true = subst (λ (o : Option ℕ). is_number b o ≡ true) (sym is) (eq-eqb b b refl) in
        let ends : ends_archive site h e.ask e.answer (job_of b f (suc c)) ≡ has_job (job_of b f (suc c)) (item_jobs items.items) =
        ap (λ (k : Ask). ends_archive site h k e.answer (job_of b f (suc c))) ek ∙ ap (λ (a : Answer). ends_archive site h (ask.Flushed m items) a (job_of b f (suc c))) told
        ∙ done_among site h items.items (job_of b f (suc c)) ∙ ap (λ (t : Bool). has_job (job_of b f (suc c)) (item_jobs items.items) && t) live ∙ and_true (has_job (job_of b f (suc c)) (item_jobs items.items)) in
        ap (λ (t : Bool). if t then None else Some b) (sym ends))

-- ---- Failed

-- a Failed gives back what it names, charges what it charges, and ends what is live of that and charged for the last time
pub failed_live : (site : Site) (h : History) (e : Entry) (m : ℕ) (fault : Fault) (charged returned : Listed Job) → IsLegal site (e ∷ h) → e.ask ≡ ask.Failed m fault charged returned
    → TellLive (end_jobs (filter (is_live_job site h) (filter (is_last_charge site h (ask.Failed m fault charged returned)) charged.items))
    (charge_jobs charged.items (record { drive = drive_of_mount h m; tape = tape_of_mount h m; fault = fault }) (give_back_jobs (charged.items ++ returned.items) (book_of site h)))) (book_of site (e ∷ h))
failed_live site h e m fault charged returned legal ek = record {
  recall = λ f. ended_recall site h f (filter (is_last_charge site h (ask.Failed m fault charged returned)) charged.items) (live_recall site h f) refl ∙ recall f (live_recall site h f);
  archive = λ f c. ended_archive site h f c (filter (is_last_charge site h (ask.Failed m fault charged returned)) charged.items) (archive_birth site h f (suc c)) refl ∙ archive f (suc c) (archive_birth site h f (suc c));
  claimer = λ j. sym (claimer_step site h e legal j ∙ ap (λ (k : Ask). claimer_after k e.answer j (claimer_of h j)) ek);
  charges = λ j. sym (failed_charges e h m fault charged returned j ek);
}
  where
    both : (a b : Bool) → (a && (a && b)) ≡ (a && b)
    both true b = refl
    both false b = refl

    last : (j : Job) → has_job j (filter (is_last_charge site h (ask.Failed m fault charged returned)) charged.items) ≡ is_last_charge site h (ask.Failed m fault charged returned) j
    last j = has_filter (is_last_charge site h (ask.Failed m fault charged returned)) j charged.items ∙ both (has_job j charged.items) (nat_le site.limits.tries (length (charges_of h j) + 1))

    recall : (f : ℕ) (o : Option Recall) → recall_unless f (filter (is_last_charge site h (ask.Failed m fault charged returned)) charged.items) o ≡ recall_after site h e f o
    recall f None = sym (rw ek refl)
    recall f (Some r) = ap (λ (t : Bool). lives_unless t r) (last (job_of r.birth f 0)) ∙ sym (rw ek refl)

    archive : (f c : ℕ) (o : Option ℕ) → archive_unless f c (filter (is_last_charge site h (ask.Failed m fault charged returned)) charged.items) o ≡ archive_after site h e f c o
    archive f c None = sym (rw ek refl)
    archive f c (Some b) = ap (λ (t : Bool). if t then None else Some b) (last (job_of b f c)) ∙ sym (rw ek refl)

-- ---- Recalled

-- a Recalled that is told Stale gives its job back
pub recalled_stale_live : (site : Site) (h : History) (e : Entry) (m : ℕ) (job : Job) → IsLegal site (e ∷ h) → e.ask ≡ ask.Recalled m job → e.answer ≡ answer.Arrived fate.Stale
    → TellLive (give_back_jobs (job ∷ []) (book_of site h)) (book_of site (e ∷ h))
recalled_stale_live site h e m job legal ek ea = record {
  recall = λ f. sym (recall f (live_recall site h f));
  archive = λ f c. sym (archive f (suc c) (archive_birth site h f (suc c)));
  claimer = λ j. sym (claimer_step site h e legal j ∙ ap (λ (k : Ask). claimer_after k e.answer j (claimer_of h j)) ek);
  charges = λ j. sym (charges_same e h j (ap may_charge ek));
}
  where
    recall : (f : ℕ) (o : Option Recall) → recall_after site h e f o ≡ o
    recall f None = rw ek refl
    recall f (Some r) = rw (ek, ea) refl

    archive : (f c : ℕ) (o : Option ℕ) → archive_after site h e f c o ≡ o
    archive f c None = rw (ek, ea) refl
    archive f c (Some b) = rw ek refl

-- a Recalled that is told Done gives its job back, ends it, and bears an archive job for each repacked copy of its file
pub recalled_live : (site : Site) (h : History) (e : Entry) (m : ℕ) (job : Job) (births : List Job) → IsLegal site (e ∷ h) → e.ask ≡ ask.Recalled m job → e.answer ≡ answer.Arrived fate.Done
    → ((f : ℕ) → has_copy f 0 births ≡ false) → ((f c : ℕ) → has_copy f (suc c) births ≡ ((job.file == f) && is_repacked site h f (suc c))) → is_live_job site h job ≡ true
    → TellLive (bear_jobs births (length h + 1) (end_jobs (filter (is_live_job site h) (job ∷ [])) (give_back_jobs (job ∷ []) (book_of site h)))) (book_of site (e ∷ h))
recalled_live site h e m job births legal ek ea no_recall copies live = record {
  recall = λ f. ap (λ (t : Bool). if t then Some (record { birth = length h + 1; waiting = (length h + 1) ∷ [] }) else (if has_copy f 0 (filter (is_live_job site h) (job ∷ [])) then None else live_recall site h f)) (no_recall f)
      ∙ ended_recall site h f (job ∷ []) (live_recall site h f) refl ∙ recall f (live_recall site h f);
  archive = λ f c. ap (λ (t : Bool). if t then Some (length h + 1) else (if has_copy f (suc c) (filter (is_live_job site h) (job ∷ [])) then None else archive_birth site h f (suc c))) (copies f c)
      ∙ ap (λ (o : Option ℕ). if (job.file == f) && is_repacked site h f (suc c) then Some (length h + 1) else o) (ended_archive site h f c (job ∷ []) (archive_birth site h f (suc c)) refl)
      ∙ archive f c (archive_birth site h f (suc c)) refl;
  claimer = λ j. sym (claimer_step site h e legal j ∙ ap (λ (k : Ask). claimer_after k e.answer j (claimer_of h j)) ek);
  charges = λ j. sym (charges_same e h j (ap may_charge ek));
}
  where
    or_none : (b : Bool) → (b || false) ≡ b
    or_none true = refl
    or_none false = refl

    copy : job.copy ≡ 0
    copy = recall_copy job.copy (recalled_way site h e m job legal ek)

    on : is_number job.birth (birth_in (live_recall site h job.file)) ≡ true
    on = subst (λ (c : ℕ). is_number job.birth (live_birth site h job.file c) ≡ true) copy live

    some_recall : (o : Option Recall) → is_number job.birth (birth_in o) ≡ true → is_some o ≡ true
    some_recall None x = absurd (cc)
    some_recall (Some r) x = refl

    recall : (f : ℕ) (o : Option Recall) → recall_unless f (job ∷ []) o ≡ recall_after site h e f o
    recall f None = sym (rw ek refl)
    recall f (Some r) = ap (λ (t : Bool). lives_unless t r) (or_none (same_job (job_of r.birth f 0) job) ∙ flip_same (job_of r.birth f 0) job) ∙ sym (rw (ek, ea) refl)

    other_copy : (b f c : ℕ) → has_job (job_of b f (suc c)) (job ∷ []) ≡ false
    other_copy b f c =
        or_none (same_job (job_of b f (suc c)) job)
        ∙ elim (bool_cases (same_job (job_of b f (suc c)) job)) [ inl hit ↦ (let same : suc c ≡ job.copy = ap (λ (k : Job). k.copy) (same_job_eq (job_of b f (suc c)) job hit) in let none : job.copy ≡ 0 = copy in absurd (omega arith)) | inr miss ↦ miss ]

    archive : (f c : ℕ) (o : Option ℕ) → archive_birth site h f (suc c) ≡ o → (if (job.file == f) && is_repacked site h f (suc c) then Some (length h + 1) else archive_unless f (suc c) (job ∷ []) o) ≡ archive_after site h e f (suc c) o
    archive f c None is = sym (rw (ek, ea) refl)
    archive f c (Some b) is =
        (let other : (job.file == f) ≡ false = elim (bool_cases (job.file == f)) [
          | inr miss ↦ miss
          | inl hit ↦
              (let file : job.file ≡ f = eqb-true job.file f hit in
              let some : is_some (live_recall site h f) ≡ true = subst (λ (n : ℕ). is_some (live_recall site h n) ≡ true) file (some_recall (live_recall site h job.file) on) in
              let none : archive_birth site h f (suc c) ≡ None = no_archive site h legal.0 f c some in
              let bad : Some b ≡ None = sym is ∙ none in
              absurd (cc))
        ] in
        ap (λ (t : Bool). if t && is_repacked site h f (suc c) then Some (length h + 1) else archive_unless f (suc c) (job ∷ []) (Some b)) other
        ∙ ap (λ (t : Bool). if t then None else Some b) (other_copy b f c) ∙ sym (rw ek refl))

-- ---- Stage

waits_or : (t : Bool) (n : ℕ) (r : Recall) → (if t then option_map (subscribed true n) (Some r) else Some r) ≡ Some (subscribed t n r)
waits_or true n r = refl
waits_or false n r = refl

-- a Stage subscribes to the live recalls of the files that it names, and bears recalls for those of the others that want one
pub stage_live : (site : Site) (h : History) (e : Entry) (who : Who) (wanted : Listed Wanted) (births : List Job) (files : List ℕ) → IsLegal site (e ∷ h) → e.ask ≡ ask.Stage who wanted
    → ((f c : ℕ) → has_copy f (suc c) births ≡ false) → ((f : ℕ) → has_copy f 0 births ≡ (is_none (live_recall site h f) && bears_recall site h e.ask f))
    → ((f : ℕ) → has_number f files ≡ (is_some (live_recall site h f) && waits_for site h e.ask f))
    → TellLive (bear_jobs births (length h + 1) (subscribe_files files (length h + 1) (book_of site h))) (book_of site (e ∷ h))
stage_live site h e who wanted births files legal ek no_archive_job new old = record {
  recall = λ f. ap (λ (t : Bool). if t then Some (record { birth = length h + 1; waiting = (length h + 1) ∷ [] }) else (if has_number f files then option_map (subscribed true (length h + 1)) (live_recall site h f) else live_recall site h f)) (new f)
      ∙ ap (λ (t : Bool). if is_none (live_recall site h f) && bears_recall site h e.ask f then Some (record { birth = length h + 1; waiting = (length h + 1) ∷ [] }) else (if t then option_map (subscribed true (length h + 1)) (live_recall site h f) else live_recall site h f)) (old f)
      ∙ recall f (live_recall site h f);
  archive = λ f c. ap (λ (t : Bool). if t then Some (length h + 1) else archive_birth site h f (suc c)) (no_archive_job f c) ∙ sym (archive f (suc c) (archive_birth site h f (suc c)));
  claimer = λ j. sym (claimer_same site h e j legal (ap may_change_claims ek));
  charges = λ j. sym (charges_same e h j (ap may_charge ek));
}
  where
    recall : (f : ℕ) (o : Option Recall) → (if is_none o && bears_recall site h e.ask f then Some (record { birth = length h + 1; waiting = (length h + 1) ∷ [] }) else (if is_some o && waits_for site h e.ask f then option_map (subscribed true (length h + 1)) o else o)) ≡ recall_after site h e f o
    recall f None = refl
    recall f (Some r) = waits_or (waits_for site h e.ask f) (length h + 1) r ∙ sym (rw ek refl)

    archive : (f c : ℕ) (o : Option ℕ) → archive_after site h e f c o ≡ o
    archive f c None = rw ek refl
    archive f c (Some b) = rw ek refl

-- ---- Cancel and DropStage

-- a Cancel takes the request from the recalls of the files of its paths
pub cancel_live : (site : Site) (h : History) (e : Entry) (who : Who) (id : ℕ) (paths : Listed (List ℕ)) (files : List ℕ) → IsLegal site (e ∷ h) → e.ask ≡ ask.Cancel who id paths
    → ((f : ℕ) → is_some (live_recall site h f) ≡ true → has_number f files ≡ has_text (path_of h f) paths.items)
    → TellLive (drop_files files id (book_of site h)) (book_of site (e ∷ h))
cancel_live site h e who id paths files legal ek named = record {
  recall = λ f. recall f (live_recall site h f) refl;
  archive = λ f c. sym (archive f (suc c) (archive_birth site h f (suc c)));
  claimer = λ j. sym (claimer_same site h e j legal (ap may_change_claims ek));
  charges = λ j. sym (charges_same e h j (ap may_charge ek));
}
  where
    recall : (f : ℕ) (o : Option Recall) → live_recall site h f ≡ o → (if has_number f files then drop_from id o else o) ≡ recall_after site h e f o
    recall f None is = either {A = Option Recall} (has_number f files) None ∙ sym (rw ek refl)
    recall f (Some r) is = ap (λ (t : Bool). if t then unsubscribed id r else Some r) (named f (ap is_some is)) ∙ sym (rw ek refl)

    archive : (f c : ℕ) (o : Option ℕ) → archive_after site h e f c o ≡ o
    archive f c None = rw ek refl
    archive f c (Some b) = rw ek refl

-- a DropStage takes the request from all recalls: from those of the files that wait for it
pub drop_live : (site : Site) (h : History) (e : Entry) (who : Who) (id : ℕ) (files : List ℕ) → IsLegal site (e ∷ h) → e.ask ≡ ask.DropStage who id
    → ((f : ℕ) (r : Recall) → live_recall site h f ≡ Some r → has_number f files ≡ false → unsubscribed id r ≡ Some r)
    → TellLive (drop_files files id (book_of site h)) (book_of site (e ∷ h))
drop_live site h e who id files legal ek others = record {
  recall = λ f. recall f (live_recall site h f) refl;
  archive = λ f c. sym (archive f (suc c) (archive_birth site h f (suc c)));
  claimer = λ j. sym (claimer_same site h e j legal (ap may_change_claims ek));
  charges = λ j. sym (charges_same e h j (ap may_charge ek));
}
  where
    recall : (f : ℕ) (o : Option Recall) → live_recall site h f ≡ o → (if has_number f files then drop_from id o else o) ≡ recall_after site h e f o
    recall f None is = either {A = Option Recall} (has_number f files) None ∙ sym (rw ek refl)
    recall f (Some r) is =
        elim (bool_cases (has_number f files)) [
          | inl hit ↦ rw hit (sym (rw ek refl))
          | inr miss ↦ rw miss (sym (others f r is miss) ∙ sym (rw ek refl))
        ]

    archive : (f c : ℕ) (o : Option ℕ) → archive_after site h e f c o ≡ o
    archive f c None = rw ek refl
    archive f c (Some b) = rw ek refl

-- ---- TapeState

-- a TapeState ends the recalls of files that have no place after it
pub tape_state_live : (site : Site) (h : History) (e : Entry) (who : Who) (v : ℕ) (s : TapeState) (gone : List Job) → IsLegal site (e ∷ h) → e.ask ≡ ask.TapeState who v s
    → ((f c : ℕ) → has_copy f (suc c) gone ≡ false) → ((f : ℕ) → is_some (live_recall site h f) ≡ true → has_copy f 0 gone ≡ is_empty (places_of site (e ∷ h) f))
    → TellLive (end_jobs gone (book_of site h)) (book_of site (e ∷ h))
tape_state_live site h e who v s gone legal ek no_archive_job lost = record {
  recall = λ f. recall f (live_recall site h f) refl;
  archive = λ f c. ap (λ (t : Bool). if t then None else archive_birth site h f (suc c)) (no_archive_job f c) ∙ sym (archive f (suc c) (archive_birth site h f (suc c)));
  claimer = λ j. sym (claimer_same site h e j legal (ap may_change_claims ek));
  charges = λ j. sym (charges_same e h j (ap may_charge ek));
}
  where
    goes : (b : Bool) (r : Recall) → (if b then None else Some r) ≡ lives_unless b r
    goes true r = refl
    goes false r = refl

    recall : (f : ℕ) (o : Option Recall) → live_recall site h f ≡ o → (if has_copy f 0 gone then None else o) ≡ recall_after site h e f o
    recall f None is = either {A = Option Recall} (has_copy f 0 gone) None ∙ sym (rw ek refl)
    recall f (Some r) is = goes (has_copy f 0 gone) r ∙ ap (λ (t : Bool). lives_unless t r) (lost f (ap is_some is)) ∙ sym (ap (recall_goes_on_by f r) ek)
      where
        recall_goes_on_by : (f : ℕ) (r : Recall) → Ask → Option Recall
        recall_goes_on_by f r k = recall_goes_on site h e f r k e.answer

    archive : (f c : ℕ) (o : Option ℕ) → archive_after site h e f c o ≡ o
    archive f c None = rw ek refl
    archive f c (Some b) = rw ek refl

-- ---- Retry

-- a Retry bears the jobs that it is told
pub retry_live : (site : Site) (h : History) (e : Entry) (who : Who) (paths : Listed (List ℕ)) (jobs : Listed Job) → IsLegal site (e ∷ h) → e.ask ≡ ask.Retry who paths → e.answer ≡ answer.Retried jobs
    → ((f : ℕ) → has_copy f 0 jobs.items ≡ false) → ((f c : ℕ) → has_copy f (suc c) jobs.items ≡ true → archive_birth site h f (suc c) ≡ None)
    → TellLive (bear_jobs jobs.items (length h + 1) (book_of site h)) (book_of site (e ∷ h))
retry_live site h e who paths jobs legal ek ea no_recall dead = record {
  recall = λ f. ap (λ (t : Bool). if t then Some (record { birth = length h + 1; waiting = (length h + 1) ∷ [] }) else live_recall site h f) (no_recall f) ∙ sym (recall f (live_recall site h f));
  archive = λ f c. archive f c (archive_birth site h f (suc c)) refl;
  claimer = λ j. sym (claimer_same site h e j legal (ap may_change_claims ek));
  charges = λ j. sym (charges_same e h j (ap may_charge ek));
}
  where
    recall : (f : ℕ) (o : Option Recall) → recall_after site h e f o ≡ o
    recall f None = rw ek refl
    recall f (Some r) = rw ek refl

    archive : (f c : ℕ) (o : Option ℕ) → archive_birth site h f (suc c) ≡ o → (if has_copy f (suc c) jobs.items then Some (length h + 1) else o) ≡ archive_after site h e f (suc c) o
    archive f c None is = sym (rw (ek, ea) refl)
    archive f c (Some b) is =
        elim (bool_cases (has_copy f (suc c) jobs.items)) [
          | inl hit ↦ (let none : archive_birth site h f (suc c) ≡ None = dead f c hit in let bad : Some b ≡ None = sym is ∙ none in absurd (cc))
          | inr miss ↦ rw miss (sym (rw ek refl))
        ]

-- ---- Repack

-- a Repack subscribes to live recalls, and bears recalls of files that are not resident and archive jobs of those that are
pub repack_live : (site : Site) (h : History) (e : Entry) (who : Who) (v id : ℕ) (items : Listed Job) (births : List Job) (files : List ℕ) → IsLegal site (e ∷ h) → e.ask ≡ ask.Repack who v → e.answer ≡ answer.Repacking id items
    → ((f c : ℕ) → has_copy f (suc c) births ≡ (is_none (archive_birth site h f (suc c)) && (is_resident h f && has_copy f (suc c) items.items)))
    → ((f : ℕ) → has_copy f 0 births ≡ (is_none (live_recall site h f) && bears_recall site h e.ask f))
    → ((f : ℕ) → has_number f files ≡ (is_some (live_recall site h f) && waits_for site h e.ask f))
    → TellLive (bear_jobs births (length h + 1) (subscribe_files files (length h + 1) (book_of site h))) (book_of site (e ∷ h))
repack_live site h e who v id items births files legal ek ea copies new old = record {
  recall = λ f. ap (λ (t : Bool). if t then Some (record { birth = length h + 1; waiting = (length h + 1) ∷ [] }) else (if has_number f files then option_map (subscribed true (length h + 1)) (live_recall site h f) else live_recall site h f)) (new f)
      ∙ ap (λ (t : Bool). if is_none (live_recall site h f) && bears_recall site h e.ask f then Some (record { birth = length h + 1; waiting = (length h + 1) ∷ [] }) else (if t then option_map (subscribed true (length h + 1)) (live_recall site h f) else live_recall site h f)) (old f)
      ∙ recall f (live_recall site h f);
  archive = λ f c. ap (λ (t : Bool). if t then Some (length h + 1) else archive_birth site h f (suc c)) (copies f c) ∙ archive f (suc c) (archive_birth site h f (suc c));
  claimer = λ j. sym (claimer_same site h e j legal (ap may_change_claims ek));
  charges = λ j. sym (charges_same e h j (ap may_charge ek));
}
  where
    recall : (f : ℕ) (o : Option Recall) → (if is_none o && bears_recall site h e.ask f then Some (record { birth = length h + 1; waiting = (length h + 1) ∷ [] }) else (if is_some o && waits_for site h e.ask f then option_map (subscribed true (length h + 1)) o else o)) ≡ recall_after site h e f o
    recall f None = refl
    recall f (Some r) = waits_or (waits_for site h e.ask f) (length h + 1) r ∙ sym (rw ek refl)

    archive : (f c : ℕ) (o : Option ℕ) → (if is_none o && (is_resident h f && has_copy f c items.items) then Some (length h + 1) else o) ≡ archive_after site h e f c o
    archive f c None = sym (rw (ek, ea) refl)
    archive f c (Some b) = sym (rw ek refl)
