-- How each ask moves a job book, with what it says of past births and Claims.
use Rattle.std.proofs.Common.{◌≡◌, ◌∙◌, ℕ, zero, suc, ◌+◌, List, [], ◌∷◌, ◌++◌, Bool, true, false, ◌&&◌, ◌||◌, refl, sym, ap, length}
use Rattle.std.specs.Prelude.{Option, Some, None, is_none, is_some, if◌then◌else◌, ◌==◌, filter}
use Rattle.cta_model.specs.Jobs.{is_live_job, live_birth, archive_birth, may_bear}
use Rattle.part_laws.proofs.BookSteps.{claim_live, delete_live, put_live, stays_live}
use Rattle.part_laws.proofs.BookEnds.{cancel_live, drop_live, failed_live, flushed_live, recalled_live, recalled_stale_live, repack_live, retry_live, stage_live, tape_state_live}
use Rattle.part_laws.proofs.LastSteps.{bears_by, may_claim, named_stays, none_new, none_said, same_births, stays_by}
use Rattle.cta_site.specs.declared.site.Site.{Site}
use Rattle.cta_site.specs.Listed.{Listed}
use Rattle.cta_site.specs.Lookups.{copies_of}
use Rattle.blob.specs.declared.sum.Sum256.{Sum256}
use Rattle.cta_model.specs.declared.entries.Entry.{Entry}
use Rattle.cta_model.specs.declared.asks.Ask.{Ask}
use Rattle.cta_model.specs.declared.answers.Answer.{Answer}
use Rattle.cta_model.specs.declared.asks.Who.{Who}
use Rattle.cta_model.specs.declared.asks.Item.{Item}
use Rattle.cta_model.specs.declared.asks.Job.{Job}
use Rattle.cta_model.specs.History.{History, has_number, has_text, is_empty, is_number}
use Rattle.cta_model.specs.Files.{live_file, path_of}
use Rattle.cta_model.specs.Mounts.{claim_names, drive_of_mount, has_copy, has_job, item_jobs, tape_of_mount, was_claimed}
use Rattle.cta_model.specs.Recalls.{Recall, bears_recall, live_recall, unsubscribed, waits_for}
use Rattle.cta_model.specs.Legal.{IsLegal}
use Rattle.cta_laws.proofs.OnceLaw.{birth_in}
use Rattle.part_model.specs.JobBook.{Book, TellSame, bear_jobs, charge_jobs, claim_jobs, drop_files, end_jobs, give_back_jobs, subscribe_files}
use Rattle.cta_laws.specs.Changes.{may_change_claims, may_change_jobs, may_charge}
use Rattle.part_laws.specs.QueueBooks.{book_of, jobs_of_file}
use Rattle.part_laws.specs.Queued.{put_jobs}
use Rattle.cta_model.specs.declared.asks.Ask.TheVariants as ask
use Rattle.cta_model.specs.declared.answers.Answer.TheVariants as answer
use Rattle.cta_site.specs.declared.site.TapeState.{TapeState}
use Rattle.cta_model.specs.declared.asks.Fault.{Fault}
use Rattle.cta_model.specs.declared.asks.Wanted.{Wanted}
use Rattle.cta_model.specs.Places.{places_of}
use Rattle.cta_model.specs.Charges.{is_last_charge}
use Rattle.cta_model.specs.RepackItems.{is_repacked}
use Rattle.cta_model.specs.Buffer.{is_resident}
use Rattle.cta_model.specs.declared.asks.Fate.TheVariants as fate
use Rattle.part_laws.proofs.BirthSteps.{birth_said, subscribed_birth}

-- what bears, claims or charges nothing

claims_none : (k : Ask) → may_change_claims k ≡ false → may_claim k ≡ false
claims_none (ask.Claim m) e = absurd (cc)
claims_none _ e = refl

bears_none : (k : Ask) → may_change_jobs k ≡ false → may_bear k ≡ false
bears_none (ask.Release who id paths) e = refl
bears_none (ask.Next d) e = refl
bears_none (ask.Claim m) e = refl
bears_none (ask.End m fault) e = refl
bears_none (ask.DriveUp who d) e = refl
bears_none (ask.DriveDown who d) e = refl
bears_none (ask.Reclaim who v) e = refl
bears_none _ e = absurd (cc)

claim_named : (h : History) (e : Entry) (m : ℕ) (items : Listed Item) (evicted : Listed ℕ) (j : Job) → e.ask ≡ ask.Claim m → e.answer ≡ answer.Batch items evicted → (has_job j (item_jobs items.items) || was_claimed h j) ≡ was_claimed (e ∷ h) j
claim_named h e m items evicted j ek ea = sym (ap (λ (k : Ask). claim_names k e.answer j || was_claimed h j) ek ∙ ap (λ (a : Answer). claim_names (ask.Claim m) a j || was_claimed h j) ea)

stale_births : (site : Site) (h : History) (e : Entry) (m : ℕ) (job : Job) → IsLegal site (e ∷ h) → e.ask ≡ ask.Recalled m job → e.answer ≡ answer.Arrived fate.Stale → (f c : ℕ) → live_birth site (e ∷ h) f c ≡ live_birth site h f c
stale_births site h e m job legal ek ea f zero = sym (ap birth_in ((recalled_stale_live site h e m job legal ek ea).recall f))
stale_births site h e m job legal ek ea f (suc c) = sym ((recalled_stale_live site h e m job legal ek ea).archive f c)

none_if : (t : Bool) (n : ℕ) (o : Option ℕ) → is_number n o ≡ false → is_number n (if t then None else o) ≡ false
none_if true n o d = refl
none_if false n o d = d

none_recall : (t : Bool) (n : ℕ) (o : Option Recall) → is_number n (birth_in o) ≡ false → is_number n (birth_in (if t then None else o)) ≡ false
none_recall true n o d = refl
none_recall false n o d = d

none_ended : (site : Site) (h : History) (js : List Job) (b : Book) (f c : ℕ) → is_number (length h + 1) (birth_said b f c) ≡ false → is_number (length h + 1) (birth_said (end_jobs js b) f c) ≡ false
none_ended site h js b f zero d = none_recall (has_copy f 0 js) (length h + 1) (b.recall f) d
none_ended site h js b f (suc c) d = none_if (has_copy f (suc c) js) (length h + 1) (b.archive f (suc c)) d

none_subscribed : (site : Site) (h : History) (files : List ℕ) (f c : ℕ) → is_number (length h + 1) (birth_said (subscribe_files files (length h + 1) (book_of site h)) f c) ≡ false
none_subscribed site h files f zero = ap (is_number (length h + 1)) (subscribed_birth (has_number f files) (length h + 1) (live_recall site h f)) ∙ none_said site h f zero
none_subscribed site h files f (suc c) = none_said site h f (suc c)

-- ---- all asks

pub book_stays : (site : Site) (h : History) (e : Entry) → IsLegal site (e ∷ h) → may_change_jobs e.ask ≡ false → may_change_claims e.ask ≡ false → may_charge e.ask ≡ false → TellSame (book_of site h) (book_of site (e ∷ h))
book_stays site h e legal jobs claims charge = stays_by site h e _ (stays_live site h e legal jobs claims charge) (λ f c. refl) (λ j. named_stays h e j (claims_none e.ask claims)) (λ f c. none_new site h e f c (bears_none e.ask jobs))

pub book_claim : (site : Site) (h : History) (e : Entry) (m : ℕ) (items : Listed Item) (evicted : Listed ℕ) → IsLegal site (e ∷ h) → e.ask ≡ ask.Claim m → e.answer ≡ answer.Batch items evicted
    → TellSame (claim_jobs (item_jobs items.items) m (book_of site h)) (book_of site (e ∷ h))
book_claim site h e m items evicted legal ek ea = stays_by site h e _ (claim_live site h e m items evicted legal ek ea) (λ f c. refl) (λ j. claim_named h e m items evicted j ek ea) (λ f c. none_new site h e f c (ap may_bear ek))

pub book_put : (site : Site) (h : History) (e : Entry) (who : Who) (path : List ℕ) (sum : Sum256) → IsLegal site (e ∷ h) → e.ask ≡ ask.Put who path sum
    → TellSame (bear_jobs (put_jobs (length h + 1) (copies_of site path)) (length h + 1) (book_of site h)) (book_of site (e ∷ h))
book_put site h e who path sum legal ek = bears_by site h e (put_jobs (length h + 1) (copies_of site path)) (book_of site h) (put_live site h e who path sum legal ek) (λ f c. refl) (λ j. named_stays h e j (ap may_claim ek)) (λ f c. none_said site h f c)

-- a Delete ends the live jobs of the file
pub book_delete : (site : Site) (h : History) (e : Entry) (who : Who) (path : List ℕ) (g : ℕ) → IsLegal site (e ∷ h) → e.ask ≡ ask.Delete who path → live_file h path ≡ Some g
    → TellSame (end_jobs (jobs_of_file site h g) (book_of site h)) (book_of site (e ∷ h))
book_delete site h e who path g legal ek is = stays_by site h e _ (delete_live site h e who path g legal ek is) (λ f c. refl) (λ j. named_stays h e j (ap may_claim ek)) (λ f c. none_new site h e f c (ap may_bear ek))

-- a Flushed gives back what it names, and ends what is live of it
pub book_flushed : (site : Site) (h : History) (e : Entry) (m : ℕ) (items : Listed Item) → IsLegal site (e ∷ h) → e.ask ≡ ask.Flushed m items
    → TellSame (end_jobs (filter (is_live_job site h) (item_jobs items.items)) (give_back_jobs (item_jobs items.items) (book_of site h))) (book_of site (e ∷ h))
book_flushed site h e m items legal ek = stays_by site h e _ (flushed_live site h e m items legal ek) (λ f c. refl) (λ j. named_stays h e j (ap may_claim ek)) (λ f c. none_new site h e f c (ap may_bear ek))

-- a Failed gives back what it names, charges what it charges, and ends what is live of that and charged for the last time
pub book_failed : (site : Site) (h : History) (e : Entry) (m : ℕ) (fault : Fault) (charged returned : Listed Job) → IsLegal site (e ∷ h) → e.ask ≡ ask.Failed m fault charged returned
    → TellSame (end_jobs (filter (is_live_job site h) (filter (is_last_charge site h (ask.Failed m fault charged returned)) charged.items))
    (charge_jobs charged.items (record { drive = drive_of_mount h m; tape = tape_of_mount h m; fault = fault }) (give_back_jobs (charged.items ++ returned.items) (book_of site h)))) (book_of site (e ∷ h))
book_failed site h e m fault charged returned legal ek = stays_by site h e _ (failed_live site h e m fault charged returned legal ek) (λ f c. refl) (λ j. named_stays h e j (ap may_claim ek)) (λ f c. none_new site h e f c (ap may_bear ek))

-- a Recalled that is told Stale gives its job back
pub book_recalled_stale : (site : Site) (h : History) (e : Entry) (m : ℕ) (job : Job) → IsLegal site (e ∷ h) → e.ask ≡ ask.Recalled m job → e.answer ≡ answer.Arrived fate.Stale
    → TellSame (give_back_jobs (job ∷ []) (book_of site h)) (book_of site (e ∷ h))
book_recalled_stale site h e m job legal ek ea = stays_by site h e _ (recalled_stale_live site h e m job legal ek ea) (λ f c. refl) (λ j. named_stays h e j (ap may_claim ek)) (λ f c. same_births site h e f c (stale_births site h e m job legal ek ea f c))

-- a Recalled that is told Done gives its job back, ends it, and bears an archive job for each repacked copy of its file
pub book_recalled : (site : Site) (h : History) (e : Entry) (m : ℕ) (job : Job) (births : List Job) → IsLegal site (e ∷ h) → e.ask ≡ ask.Recalled m job → e.answer ≡ answer.Arrived fate.Done
    → ((f : ℕ) → has_copy f 0 births ≡ false) → ((f c : ℕ) → has_copy f (suc c) births ≡ ((job.file == f) && is_repacked site h f (suc c))) → is_live_job site h job ≡ true
    → TellSame (bear_jobs births (length h + 1) (end_jobs (filter (is_live_job site h) (job ∷ [])) (give_back_jobs (job ∷ []) (book_of site h)))) (book_of site (e ∷ h))
book_recalled site h e m job births legal ek ea no_recall copies live = bears_by site h e births (end_jobs (filter (is_live_job site h) (job ∷ [])) (give_back_jobs (job ∷ []) (book_of site h))) (recalled_live site h e m job births legal ek ea no_recall copies live) (λ f c. refl) (λ j. named_stays h e j (ap may_claim ek)) (λ f c. none_ended site h (filter (is_live_job site h) (job ∷ [])) (give_back_jobs (job ∷ []) (book_of site h)) f c (none_said site h f c))

-- a Stage subscribes to the live recalls of the files that it names, and bears recalls for those of the others that want one
pub book_stage : (site : Site) (h : History) (e : Entry) (who : Who) (wanted : Listed Wanted) (births : List Job) (files : List ℕ) → IsLegal site (e ∷ h) → e.ask ≡ ask.Stage who wanted
    → ((f c : ℕ) → has_copy f (suc c) births ≡ false) → ((f : ℕ) → has_copy f 0 births ≡ (is_none (live_recall site h f) && bears_recall site h e.ask f))
    → ((f : ℕ) → has_number f files ≡ (is_some (live_recall site h f) && waits_for site h e.ask f))
    → TellSame (bear_jobs births (length h + 1) (subscribe_files files (length h + 1) (book_of site h))) (book_of site (e ∷ h))
book_stage site h e who wanted births files legal ek no_archive_job new old = bears_by site h e births (subscribe_files files (length h + 1) (book_of site h)) (stage_live site h e who wanted births files legal ek no_archive_job new old) (λ f c. refl) (λ j. named_stays h e j (ap may_claim ek)) (λ f c. none_subscribed site h files f c)

-- a Cancel takes the request from the recalls of the files of its paths
pub book_cancel : (site : Site) (h : History) (e : Entry) (who : Who) (id : ℕ) (paths : Listed (List ℕ)) (files : List ℕ) → IsLegal site (e ∷ h) → e.ask ≡ ask.Cancel who id paths
    → ((f : ℕ) → is_some (live_recall site h f) ≡ true → has_number f files ≡ has_text (path_of h f) paths.items)
    → TellSame (drop_files files id (book_of site h)) (book_of site (e ∷ h))
book_cancel site h e who id paths files legal ek named = stays_by site h e _ (cancel_live site h e who id paths files legal ek named) (λ f c. refl) (λ j. named_stays h e j (ap may_claim ek)) (λ f c. none_new site h e f c (ap may_bear ek))

-- a DropStage takes the request from all recalls: from those of the files that wait for it
pub book_drop : (site : Site) (h : History) (e : Entry) (who : Who) (id : ℕ) (files : List ℕ) → IsLegal site (e ∷ h) → e.ask ≡ ask.DropStage who id
    → ((f : ℕ) (r : Recall) → live_recall site h f ≡ Some r → has_number f files ≡ false → unsubscribed id r ≡ Some r)
    → TellSame (drop_files files id (book_of site h)) (book_of site (e ∷ h))
book_drop site h e who id files legal ek others = stays_by site h e _ (drop_live site h e who id files legal ek others) (λ f c. refl) (λ j. named_stays h e j (ap may_claim ek)) (λ f c. none_new site h e f c (ap may_bear ek))

-- a TapeState ends the recalls of files that have no place after it
pub book_tape_state : (site : Site) (h : History) (e : Entry) (who : Who) (v : ℕ) (s : TapeState) (gone : List Job) → IsLegal site (e ∷ h) → e.ask ≡ ask.TapeState who v s
    → ((f c : ℕ) → has_copy f (suc c) gone ≡ false) → ((f : ℕ) → is_some (live_recall site h f) ≡ true → has_copy f 0 gone ≡ is_empty (places_of site (e ∷ h) f))
    → TellSame (end_jobs gone (book_of site h)) (book_of site (e ∷ h))
book_tape_state site h e who v s gone legal ek no_archive_job lost = stays_by site h e _ (tape_state_live site h e who v s gone legal ek no_archive_job lost) (λ f c. refl) (λ j. named_stays h e j (ap may_claim ek)) (λ f c. none_new site h e f c (ap may_bear ek))

-- a Retry bears the jobs that it is told
pub book_retry : (site : Site) (h : History) (e : Entry) (who : Who) (paths : Listed (List ℕ)) (jobs : Listed Job) → IsLegal site (e ∷ h) → e.ask ≡ ask.Retry who paths → e.answer ≡ answer.Retried jobs
    → ((f : ℕ) → has_copy f 0 jobs.items ≡ false) → ((f c : ℕ) → has_copy f (suc c) jobs.items ≡ true → archive_birth site h f (suc c) ≡ None)
    → TellSame (bear_jobs jobs.items (length h + 1) (book_of site h)) (book_of site (e ∷ h))
book_retry site h e who paths jobs legal ek ea no_recall dead = bears_by site h e jobs.items (book_of site h) (retry_live site h e who paths jobs legal ek ea no_recall dead) (λ f c. refl) (λ j. named_stays h e j (ap may_claim ek)) (λ f c. none_said site h f c)

-- a Repack subscribes to live recalls, and bears recalls of files that are not resident and archive jobs of those that are
pub book_repack : (site : Site) (h : History) (e : Entry) (who : Who) (v id : ℕ) (items : Listed Job) (births : List Job) (files : List ℕ) → IsLegal site (e ∷ h) → e.ask ≡ ask.Repack who v → e.answer ≡ answer.Repacking id items
    → ((f c : ℕ) → has_copy f (suc c) births ≡ (is_none (archive_birth site h f (suc c)) && (is_resident h f && has_copy f (suc c) items.items)))
    → ((f : ℕ) → has_copy f 0 births ≡ (is_none (live_recall site h f) && bears_recall site h e.ask f))
    → ((f : ℕ) → has_number f files ≡ (is_some (live_recall site h f) && waits_for site h e.ask f))
    → TellSame (bear_jobs births (length h + 1) (subscribe_files files (length h + 1) (book_of site h))) (book_of site (e ∷ h))
book_repack site h e who v id items births files legal ek ea copies new old = bears_by site h e births (subscribe_files files (length h + 1) (book_of site h)) (repack_live site h e who v id items births files legal ek ea copies new old) (λ f c. refl) (λ j. named_stays h e j (ap may_claim ek)) (λ f c. none_subscribed site h files f c)
