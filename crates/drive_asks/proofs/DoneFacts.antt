-- What an accepted Recalled of a live recall finds.
use Rattle.std.proofs.Common.{◌≡◌, ◌∙◌, ◌+◌, ◌*◌, ◌≤◌, ◌<◌, ◌^◌, ℕ, List, [], ◌∷◌, true, false, not, refl, sym, ap, subst, arith, length}
use Rattle.std.specs.Prelude.{Option, Some, None, is_some, ◌==◌, filter}
use Rattle.std.specs.List.{range_with_len}
use Rattle.cta_site.specs.declared.site.Site.{Site}
use Rattle.cta_site.specs.ValidSite.{IsValidSite}
use Rattle.cta_site.specs.WellFormed.{IsWellFormed}
use Rattle.cta_model.specs.declared.answers.Answer.TheVariants as answer
use Rattle.cta_model.specs.declared.asks.Ask.{Ask}
use Rattle.cta_model.specs.declared.asks.Ask.TheVariants as ask
use Rattle.cta_model.specs.declared.asks.Direction.TheVariants as direction
use Rattle.cta_model.specs.declared.asks.Fate.TheVariants as fate
use Rattle.cta_model.specs.declared.asks.Job.{Job}
use Rattle.cta_model.specs.declared.entries.Entry.{Entry}
use Rattle.cta_model.specs.Answers.{answer_of, is_known}
use Rattle.cta_model.specs.Files.{copies_of_file, is_live, path_of, size_of}
use Rattle.cta_model.specs.History.{History, entry_of, is_number}
use Rattle.cta_model.specs.Jobs.{is_live_job}
use Rattle.cta_model.specs.Legal.{IsLegal}
use Rattle.cta_model.specs.Recalls.{Recall, live_recall}
use Rattle.cta_model.specs.RepackItems.{is_repacked, waiting_for}
use Rattle.cta_model.specs.Space.{bytes_to_read, resident_files, size_of_files}
use Rattle.cta_model.proofs.Appends.{is_next}
use Rattle.cta_laws.specs.Jobs.{HasPut, IsPutOf, JobFileHasPut, RecallIsAway}
use Rattle.cta_laws.specs.Lengths.{StaysShort}
use Rattle.cta_laws.specs.Space.{BufferHasRoom}
use Rattle.cta_laws.specs.Stages.{SubscribersWait}
use Rattle.cta_laws.proofs.FileFrames.{copies_older}
use Rattle.cta_laws.proofs.JobFiles.{arrived_live, job_file_live}
use Rattle.cta_laws.proofs.OnceLaw.{birth_in}
use Rattle.cta_laws.proofs.PlaceLaw.{named_within}
use Rattle.cta_laws.proofs.RecalledCopy.{done_live, recalled_copy}
use Rattle.part_model.specs.Held.{bytes_of, is_held}
use Rattle.part_model.specs.Queues.{lines_in}
use Rattle.part_laws.specs.Laws.{AreSmall, FilesFitBuffer, LinesAreSmall}
use Rattle.job_queues.specs.Waiting as queued
use Rattle.kept_history.specs.Puts.{is_put, puts_file}
use Rattle.part_laws.proofs.Told.{bytes_is, held_is}
use Rattle.archive_parts.specs.PartsKept.{ArePartsKept}
use Rattle.archive_parts.specs.declared.parts.ArchiveParts.{ArchiveParts}
use Rattle.drive_asks.specs.Reading.{CanQueue}
use Rattle.drive_asks.proofs.DoneReads.{done_entry}
use Rattle.drive_asks.proofs.ReadCopies.{can_queue, lacks_new}
use Rattle.drive_asks.proofs.RecallFacts.{IsRead, read_done_is}
use Rattle.part_moves.proofs.WaitLists.{waiting_few}
use Rattle.part_moves.proofs.Charged.{asked_put}
use Rattle.part_moves.proofs.NewJobs.{not_newest}

-- ---- the job and its file

pub done_live_is : (site : Site) (h : History) (t m : ℕ) (job : Job) → IsLegal site (done_entry h t m job ∷ h) → is_live_job site h job ≡ true
done_live_is site h t m job legal = arrived_live (is_live_job site h job) (not (is_known h m (job ∷ []))) legal.1.answered

pub done_there : (site : Site) (h : History) (t m : ℕ) (job : Job) → IsLegal site (done_entry h t m job ∷ h) → is_live h job.file ≡ true
done_there site h t m job legal = job_file_live site h legal.0 job (done_live_is site h t m job legal)

pub done_low : (site : Site) (h : History) (t m : ℕ) (job : Job) → IsLegal site (done_entry h t m job ∷ h) → job.file ≤ length h
done_low site h t m job legal = (named_within h job.file (path_of h job.file) (done_there site h t m job legal)).1

-- the entry may follow
pub done_legal : (site : Site) (h : History) (t m : ℕ) (job : Job) → IsRead site h t m job → is_live_job site h job ≡ true → IsLegal site (done_entry h t m job ∷ h)
done_legal site h t m job f live = (f.legal, is_next site h t (ask.Recalled m job) (answer.Arrived fate.Done) f.legal f.within f.fit (read_done_is site h t m job f live) refl)

some_birth : (n : ℕ) (o : Option Recall) → is_number n (birth_in o) ≡ true → is_some o ≡ true
some_birth n None e = absurd (cc)
some_birth n (Some r) e = refl

-- ---- the buffer

-- the file is not there yet
pub done_lacks : RecallIsAway → (site : Site) (h : History) (t m : ℕ) (job : Job) (p : ArchiveParts) → IsRead site h t m job → is_live_job site h job ≡ true → ArePartsKept site h p → is_held p.buffer.held.value job.file ≡ false
done_lacks law site h t m job p f live kept =
    let copy : job.copy ≡ 0 = recalled_copy site h f.legal t m job (answer_of site h t (ask.Recalled m job)) refl f.accepted f.fit in
    let on : is_some (live_recall site h job.file) ≡ true = some_birth job.birth (live_recall site h job.file) (done_live site h t m job (read_done_is site h t m job f live) copy) in
    held_is site h p.buffer.held.value job.file kept.stand.space.buffer ∙ law site h f.legal job.file on

pub held_low : BufferHasRoom → (site : Site) (h : History) (p : ArchiveParts) → IsWellFormed site → IsLegal site h → ArePartsKept site h p → bytes_of p.buffer.held.value.files + p.buffer.held.value.aside < 2 ^ 64
held_low law site h p well legal kept =
    let top : site.limits.buffer ≤ 2147483648 = well.limits.buffer_to in
    let all : bytes_of p.buffer.held.value.files ≡ size_of_files h (resident_files h) = ap bytes_of kept.stand.space.buffer.files ∙ bytes_is site h (resident_files h) in
    let aside : p.buffer.held.value.aside ≡ bytes_to_read h = kept.stand.space.buffer.aside in
    let room : size_of_files h (resident_files h) + bytes_to_read h ≤ site.limits.buffer = law site h legal in
    omega (arith, top, all, aside, room)

-- ---- who waits

-- so few wait that their pins can be counted
pub waiting_low : (site : Site) (h : History) (f : ℕ) (o : Option Recall) → SubscribersWait → StaysShort → IsLegal site h → IsWellFormed site → o ≡ live_recall site h f → length (waiting_for o) ≤ 2000000
waiting_low site h f o wait short legal formed is =
    let few : length (waiting_for o) ≤ length h = waiting_few site h f wait legal o (sym is) in
    let most : length h ≤ 2 * site.limits.history = short site h legal in
    let low : site.limits.history ≤ 1000000 = formed.limits.history_to in
    omega (arith, few, most, low)

-- ---- the queues

-- the file has its Put
pub done_put : JobFileHasPut → (site : Site) (h : History) (t m : ℕ) (job : Job) → IsLegal site (done_entry h t m job ∷ h) → is_put (entry_of (done_entry h t m job ∷ h) job.file) ≡ true
done_put law site h t m job legal =
    let put : HasPut h job.file (path_of h job.file) = law site h legal.0 job (done_live_is site h t m job legal) in
    rw (not_newest job.file (length h) (done_low site h t m job legal)) (ap is_put put.1 ∙ asked_put put.0 put.0.ask (path_of h job.file) refl put.2)

-- the copies to be written again have no job in a queue
pub done_queues : (site : Site) (h : History) (t m n copies : ℕ) (job : Job) (ids born : List ℕ) (p : ArchiveParts) → IsLegal site (done_entry h t m job ∷ h) → ArePartsKept site h p → n ≡ length h + 1 → copies ≡ copies_of_file site h job.file
    → born ≡ filter (is_repacked site h job.file) (range_with_len 1 copies) → CanQueue site (done_entry h t m job ∷ h) (lines_in p.pools.value) n job.file born
done_queues site h t m n copies job ids born p legal kept number count reads =
    let same : copies ≡ copies_of_file site (done_entry h t m job ∷ h) job.file = count ∙ sym (copies_older site (done_entry h t m job) h job.file (done_low site h t m job legal)) in
    subst (CanQueue site (done_entry h t m job ∷ h) (lines_in p.pools.value) n job.file) (sym reads)
    (can_queue site (done_entry h t m job ∷ h) (lines_in p.pools.value) n job.file (is_repacked site h job.file) (λ c k. lacks_new site h (lines_in p.pools.value) n job.file c k legal.0 kept.stand.jobs.pools number) copies 1 (omega arith) (omega (arith, same)))

pub done_small : FilesFitBuffer → (site : Site) (h : History) (t m : ℕ) (job : Job) → IsWellFormed site → IsLegal site (done_entry h t m job ∷ h) → size_of (done_entry h t m job ∷ h) job.file ≤ 2147483648
done_small law site h t m job well legal =
    let fits : size_of (done_entry h t m job ∷ h) job.file ≤ site.limits.buffer = law site (done_entry h t m job ∷ h) legal job.file in
    let top : site.limits.buffer ≤ 2147483648 = well.limits.buffer_to in
    omega (arith, fits, top)

pub done_bytes : LinesAreSmall → (site : Site) (h : History) (p : ArchiveParts) (born : List ℕ) (k : ℕ) → IsValidSite site → IsLegal site h → ArePartsKept site h p → length born ≤ 4 → queued.bytes_of (lines_in p.pools.value k) + 2147483648 * length born < 2 ^ 64
done_bytes law site h p born k valid legal kept few =
    let small : AreSmall site (queued.bytes_of (lines_in p.pools.value k)) = law site h direction.Archive (lines_in p.pools.value) valid legal kept.stand.jobs.pools k in
    let low : queued.bytes_of (lines_in p.pools.value k) ≤ 36028797018963968 = small.low in
    omega (arith, low, few)
