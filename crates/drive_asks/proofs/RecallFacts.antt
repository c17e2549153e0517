-- What an accepted Recalled of a mount that reads finds.
use Rattle.std.proofs.Common.{◌≡◌, ◌∙◌, ◌+◌, ◌≤◌, ℕ, zero, suc, [], ◌∷◌, Bool, true, false, refl, sym, ap, arith}
use Rattle.std.specs.Prelude.{Option, Some, None, option_map, ◌==◌, if◌then◌else◌}
use Rattle.std.proofs.lemmas.Bool.{and_parts}
use Rattle.std.proofs.lemmas.List.Sums.{sum_by-cons}
use Rattle.cta_site.specs.declared.site.Site.{Site}
use Rattle.cta_model.specs.declared.answers.Answer.{Answer}
use Rattle.cta_model.specs.declared.answers.Answer.TheVariants as answer
use Rattle.cta_model.specs.declared.asks.Ask.TheVariants as ask
use Rattle.cta_model.specs.declared.asks.Direction.{Direction}
use Rattle.cta_model.specs.declared.asks.Direction.TheVariants as direction
use Rattle.cta_model.specs.declared.asks.Fate.TheVariants as fate
use Rattle.cta_model.specs.declared.asks.Job.{Job}
use Rattle.cta_model.specs.declared.states.Mount.{Mount}
use Rattle.cta_model.specs.Answers.{answer_of, fate_of, is_accepted, is_known}
use Rattle.cta_model.specs.Files.{size_of}
use Rattle.cta_model.specs.History.{History, is_number}
use Rattle.cta_model.specs.Jobs.{is_live_job, live_birth}
use Rattle.cta_model.specs.Legal.{IsLegal, IsMountOf, IsNext, greatest_moment, new_entry}
use Rattle.cta_model.specs.Mounts.{is_mount, is_open, mount_of, same_direction}
use Rattle.cta_model.specs.Recalls.{Recall}
use Rattle.cta_model.specs.Space.{bytes_to_read}
use Rattle.cta_model.proofs.Appends.{is_next}
use Rattle.cta_laws.specs.Claims.{claimed_total, reads, size_of_jobs}
use Rattle.cta_laws.specs.Jobs.{ClaimedBytesMove}
use Rattle.cta_laws.proofs.Accepted.{answer_is}
use Rattle.cta_laws.proofs.LengthLaw.{not_unknown}
use Rattle.job_book.specs.Live.{lives}
use Rattle.part_model.specs.JobRows.{JobRows, book_in}
use Rattle.part_laws.specs.QueueBooks.{IsBook}
use Rattle.archive_parts.specs.PartsKept.{ArePartsKept}
use Rattle.archive_parts.specs.declared.parts.ArchiveParts.{ArchiveParts}
use Rattle.part_moves.proofs.Charged.{is_asked_for, lives_is}

-- a Recalled that is accepted, of a mount that reads, in a legal history
pub record IsRead (site : Site) (h : History) (t m : ℕ) (job : Job) : Type 0 where
  pub legal : IsLegal site h
  pub within : t ≤ greatest_moment
  pub fit : IsMountOf direction.Retrieve (mount_of h m)
  pub accepted : is_accepted (answer_of site h t (ask.Recalled m job)) ≡ true

-- the mount is open
pub read_known : (site : Site) (h : History) (t m : ℕ) (job : Job) → IsRead site h t m job → is_known h m (job ∷ []) ≡ true
read_known site h t m job f = not_unknown _ _ (answer_of site h t (ask.Recalled m job)) refl f.accepted

pub read_opened : (site : Site) (h : History) (t m : ℕ) (job : Job) → IsRead site h t m job → is_open h m ≡ true
read_opened site h t m job f = (and_parts (is_open h m) _ (read_known site h t m job f)).0

-- ---- the fate

pub read_told : (site : Site) (h : History) (t m : ℕ) (job : Job) → IsRead site h t m job → answer_of site h t (ask.Recalled m job) ≡ answer.Arrived (fate_of site h job)
read_told site h t m job f = answer_is site h t (ask.Recalled m job) (answer_of site h t (ask.Recalled m job)) refl f.accepted

-- the answer where the job is live, or is not
pub read_done_is : (site : Site) (h : History) (t m : ℕ) (job : Job) → IsRead site h t m job → is_live_job site h job ≡ true → answer.Arrived fate.Done ≡ answer_of site h t (ask.Recalled m job)
read_done_is site h t m job f live = sym (read_told site h t m job f ∙ ap (λ (b : Bool). answer.Arrived (if b then fate.Done else fate.Stale)) live)

pub read_stale_is : (site : Site) (h : History) (t m : ℕ) (job : Job) → IsRead site h t m job → is_live_job site h job ≡ false → answer.Arrived fate.Stale ≡ answer_of site h t (ask.Recalled m job)
read_stale_is site h t m job f dead = sym (read_told site h t m job f ∙ ap (λ (b : Bool). answer.Arrived (if b then fate.Done else fate.Stale)) dead)

-- ---- the bytes that were set aside

-- the bytes of the file are among those that are set aside
pub read_aside : ClaimedBytesMove → (site : Site) (h : History) (t m : ℕ) (job : Job) → IsRead site h t m job → size_of h job.file ≤ bytes_to_read h
read_aside law site h t m job f =
    let a : Answer = answer_of site h t (ask.Recalled m job) in
    let next : IsNext site h (new_entry h t (ask.Recalled m job) (answer_of site h t (ask.Recalled m job))) = is_next site h t (ask.Recalled m job) (answer_of site h t (ask.Recalled m job)) f.legal f.within f.fit refl f.accepted in
    let moved = law reads site h (new_entry h t (ask.Recalled m job) (answer_of site h t (ask.Recalled m job))) (f.legal, next) in
    let asked : is_mount reads (mount_of h m) ≡ true = is_asked_for (mount_of h m) f.fit in
    let one : size_of_jobs h (job ∷ []) ≡ size_of h job.file + 0 = sum_by-cons (λ (j : Job). size_of h j.file) job [] in
    sums (claimed_total reads (new_entry h t (ask.Recalled m job) (answer_of site h t (ask.Recalled m job)) ∷ h)) (size_of_jobs h (job ∷ [])) (claimed_total reads h) (size_of h job.file) (is_mount reads (mount_of h m)) moved asked one
  where
    sums : (now out was size : ℕ) (b : Bool) → now + (if b then out else 0) ≡ was + (if b then 0 else 0) → b ≡ true → out ≡ size + 0 → size ≤ was
    sums now out was size true moved on one = omega arith
    sums now out was size false moved on one = absurd (cc)

pub held_aside : ClaimedBytesMove → (site : Site) (h : History) (t m n : ℕ) (job : Job) (p : ArchiveParts) → IsRead site h t m job → ArePartsKept site h p → n ≡ size_of h job.file → n ≤ p.buffer.held.value.aside
held_aside law site h t m n job p f kept size =
    let low : size_of h job.file ≤ bytes_to_read h = read_aside law site h t m job f in
    let aside : p.buffer.held.value.aside ≡ bytes_to_read h = kept.stand.space.buffer.aside in
    omega arith
