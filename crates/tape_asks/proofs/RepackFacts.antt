-- What holds where a Repack is accepted in a legal history.
use Rattle.std.proofs.Common.{◌≡◌, ◌∙◌, ◌+◌, ◌<◌, ◌≤◌, ◌⊎◌, ℕ, zero, suc, inl, inr, List, [], ◌∷◌, Bool, true, false, ◌||◌, refl, sym, ap, arith, length}
use Rattle.std.specs.Prelude.{Option, Some, option_map, ◌==◌, ◌&&◌, if◌then◌else◌}
use Rattle.std.proofs.lemmas.Bool.{and_from, and_parts, eq-eqb}
use Rattle.cta_site.specs.declared.site.Site.{Site}
use Rattle.cta_site.specs.Laws.{ClassesAreKnown}
use Rattle.cta_site.specs.Listed.{rows}
use Rattle.cta_site.specs.ValidSite.{IsValidSite}
use Rattle.cta_site.specs.WellFormed.{IsWellFormed}
use Rattle.cta_model.specs.declared.answers.Answer.{Answer}
use Rattle.cta_model.specs.declared.answers.Answer.TheVariants as answer
use Rattle.cta_model.specs.declared.asks.Ask.{Ask}
use Rattle.cta_model.specs.declared.asks.Ask.TheVariants as ask
use Rattle.cta_model.specs.declared.asks.Direction.{Direction}
use Rattle.cta_model.specs.declared.asks.Job.{Job}
use Rattle.cta_model.specs.declared.asks.Who.{Who}
use Rattle.cta_model.specs.declared.entries.Entry.{Entry}
use Rattle.cta_model.specs.Answers.{answer_of, is_accepted, names_twice}
use Rattle.cta_model.specs.History.{History, has_number, is_number}
use Rattle.cta_model.specs.Jobs.{is_live_job, live_birth}
use Rattle.cta_model.specs.Legal.{IsLegal, greatest_moment, new_entry}
use Rattle.cta_model.specs.Mounts.{has_copy, has_job, same_job}
use Rattle.cta_model.specs.Places.{all_places, has_place_on, places_of}
use Rattle.cta_model.specs.Queues.{is_queued, queue_of}
use Rattle.cta_model.specs.Recalls.{Recall}
use Rattle.cta_model.specs.RepackItems.{repack_items}
use Rattle.cta_model.specs.Tapes.{is_broken, tape_state}
use Rattle.cta_laws.proofs.Accepted.{answer_is}
use Rattle.cta_laws.proofs.EndLaw.{live_before}
use Rattle.cta_laws.proofs.JobLaw.{queued_stands}
use Rattle.cta_laws.proofs.OnceLaw.{same_job_eq}
use Rattle.cta_laws.proofs.RangeLaw.{InRange, job_range}
use Rattle.cta_laws.proofs.RepackedCopies.{repacked_file}
use Rattle.cta_laws.proofs.Tests.{bool_cases, or_left, or_right}
use Rattle.part_model.specs.declared.jobs.Line.{Line}
use Rattle.part_model.specs.JobBook.{Book, subscribe_files}
use Rattle.part_model.specs.JobRows.{book_in}
use Rattle.part_model.specs.Queues.{Lines}
use Rattle.part_laws.specs.Lines.{AreLines}
use Rattle.job_queues.specs.Waiting.{jobs_of}
use Rattle.part_laws.specs.AllAsks.{parts_after}
use Rattle.part_laws.specs.Births.{files_of, recalled, repack_births}
use Rattle.part_laws.specs.JobParts.{JobPartsStand}
use Rattle.part_laws.proofs.AllAsks.{job_parts_move}
use Rattle.part_laws.specs.AllParts.{jobs_in}
use Rattle.archive_parts.specs.PartsKept.{ArePartsKept, values_of}
use Rattle.archive_parts.specs.declared.parts.ArchiveParts.{ArchiveParts}
use Rattle.part_moves.specs.Flags.{job_files}
use Rattle.fault_asks.specs.Failing.{CanQueue, IsBack}
use Rattle.archive_parts.proofs.Behind.{legal_behind}
use Rattle.fault_asks.proofs.Claimed.{IsClaimable, live_claimable}
use Rattle.fault_asks.proofs.FailFacts.{jobs_map}
use Rattle.tape_asks.proofs.LostFiles.{file_among}
use Rattle.tape_asks.proofs.TakenLists.{not_broken, whole_there}
use Rattle.fault_asks.proofs.BackLists.{parts_none}

-- the ask, its answer and its entry
abbrev pub packed : Who → ℕ → Ask
packed who v = ask.Repack who v

abbrev pub packed_answer : History → ℕ → Answer
packed_answer h v = answer.Repacking (length h + 1) (rows (repack_items h v))

abbrev pub packed_entry : History → ℕ → Who → ℕ → Entry
packed_entry h t who v = new_entry h t (packed who v) (packed_answer h v)

-- a Repack that is accepted in a legal history, and the parts before it
pub record IsPacking (site : Site) (h : History) (t : ℕ) (who : Who) (v : ℕ) (p : ArchiveParts) : Type 0 where
  pub legal : IsLegal site h
  pub within : t ≤ greatest_moment
  pub accepted : is_accepted (answer_of site h t (packed who v)) ≡ true
  pub kept : ArePartsKept site h p
  pub valid : IsValidSite site
  pub good : IsWellFormed site
  pub classes : ClassesAreKnown site

-- a job that is born by the next entry waits in no queue yet
pub new_lacks : (site : Site) (h : History) (way : Direction) (lines : Lines) (j : Job) → AreLines site h way lines → length h < j.birth → (k : ℕ) → has_job j (jobs_of (lines k)) ≡ false
new_lacks site h way lines j are late k = ap (λ (ls : List Line). has_job j (jobs_of ls)) (are k) ∙ ap (has_job j) (jobs_map site h way (queue_of site h way k)) ∙ by (bool_cases (has_job j (queue_of site h way k)))
  where
    by : (has_job j (queue_of site h way k) ≡ true) ⊎ (has_job j (queue_of site h way k) ≡ false) → has_job j (queue_of site h way k) ≡ false
    by (inr none) = none
    by (inl there) =
        (let queued : is_queued site h way k j ≡ true = queued_stands site h way k j there in
        let low : j.birth ≤ length h = live_before site h j (and_parts (is_live_job site h j) _ queued).0 in
        absurd (omega (arith, low, late)))

-- jobs of which each may wait can be queued
pub all_back : (site : Site) (g : History) (b : Book) (lines : Lines) (js : List Job) → names_twice js ≡ false → ((j : Job) → has_job j js ≡ true → IsBack site g lines j) → CanQueue site g b lines js
all_back site g b lines [] once each = tt
all_back site g b lines (j ∷ js) once each =
    let both = parts_none (has_job j js) (names_twice js) once in
    (λ live. each j (or_left (same_job j j) (has_job j js) (grind arith)), both.0, all_back site g b lines js both.1 (λ i there. each i (or_right (same_job i j) (has_job i js) there)))

-- a job is of a copy of its file
copy_of_job : (j : Job) (js : List Job) → has_job j js ≡ true → has_copy j.file j.copy js ≡ true
copy_of_job j [] e = absurd (cc)
copy_of_job j (k ∷ js) e = by (same_job j k) refl e (λ x. copy_of_job j js x)
  where
    by : (b : Bool) → same_job j k ≡ b → (b || has_job j js) ≡ true → (has_job j js ≡ true → has_copy j.file j.copy js ≡ true) → has_copy j.file j.copy (k ∷ js) ≡ true
    by true same x rest =
        (let eq : j ≡ k = same_job_eq j k same in
        or_left (k.file == j.file && k.copy == j.copy) (has_copy j.file j.copy js) (and_from (k.file == j.file) (k.copy == j.copy) (eq-eqb k.file j.file (ap (λ (y : Job). y.file) (sym eq))) (eq-eqb k.copy j.copy (ap (λ (y : Job). y.copy) (sym eq)))))
    by false other x rest = or_right (k.file == j.file && k.copy == j.copy) (has_copy j.file j.copy js) (rest x)

module _ (site : Site) (h : History) (t : ℕ) (who : Who) (v : ℕ) (p : ArchiveParts) (w : IsPacking site h t who v p) where
  pub answered : packed_answer h v ≡ answer_of site h t (packed who v)
  answered = sym (answer_is site h t (packed who v) (answer_of site h t (packed who v)) refl w.accepted).0

  whole : is_broken (tape_state site h v) ≡ false
  whole = not_broken (tape_state site h v) (answer_is site h t (packed who v) (answer_of site h t (packed who v)) refl w.accepted).1

  pub longer : IsLegal site (packed_entry h t who v ∷ h)
  longer = legal_behind site h t (packed who v) (packed_answer h v) w.legal w.within tt answered w.accepted

  -- a file of an item has a place on the tape, which is not BROKEN
  pub items_placed : (f : ℕ) → has_number f (job_files (repack_items h v)) ≡ true → has_place_on v (places_of site h f) ≡ true
  items_placed f there = whole_there site h v (all_places site h f) whole (sym (file_among f (repack_items h v) ∙ repacked_file site h w.legal v f) ∙ there)

  -- ---- what is born

  pub jobs_stand : JobPartsStand site (packed_entry h t who v ∷ h) (parts_after site h (packed_entry h t who v) (packed who v) (packed_answer h v) (jobs_in (values_of p)))
  jobs_stand = job_parts_move site h (packed_entry h t who v) (jobs_in (values_of p)) longer w.kept.stand.jobs

  pub born_live : (j : Job) → has_job j (repack_births site h (packed who v) (length h + 1) (repack_items h v)) ≡ true → j.birth ≡ length h + 1 → is_live_job site (packed_entry h t who v ∷ h) j ≡ true
  born_live j there birth = by j.copy refl (copy_of_job j _ there)
    where
      same : (j.birth == length (packed_entry h t who v ∷ h)) ≡ true
      same = (let next : length (packed_entry h t who v ∷ h) ≡ length h + 1 = omega arith in eq-eqb j.birth (length (packed_entry h t who v ∷ h)) (birth ∙ sym next))

      by : (c : ℕ) → j.copy ≡ c → has_copy j.file c (repack_births site h (packed who v) (length h + 1) (repack_items h v)) ≡ true → is_number j.birth (live_birth site (packed_entry h t who v ∷ h) j.file c) ≡ true
      by zero is copy =
          ap (λ (o : Option Recall). is_number j.birth (option_map (λ (r : Recall). r.birth) o))
          (sym (jobs_stand.book.recall j.file) ∙ ap (λ (b : Bool). if b then Some (record { birth = length (packed_entry h t who v ∷ h); waiting = length (packed_entry h t who v ∷ h) ∷ [] }) else Book.recall (subscribe_files (recalled site h (files_of (repack_items h v) [])) (length (packed_entry h t who v ∷ h)) (book_in p.book.value)) j.file) copy)
          ∙ same
      by (suc c) is copy =
          ap (is_number j.birth)
          (sym (jobs_stand.book.archive j.file c) ∙ ap (λ (b : Bool). if b then Some (length (packed_entry h t who v ∷ h)) else Book.archive (subscribe_files (recalled site h (files_of (repack_items h v) [])) (length (packed_entry h t who v ∷ h)) (book_in p.book.value)) j.file (suc c)) copy)
          ∙ same

  -- each can wait in a queue
  pub born_back : (way : Direction) (lines : Lines) → AreLines site h way lines → (j : Job) → has_job j (repack_births site h (packed who v) (length h + 1) (repack_items h v)) ≡ true → j.birth ≡ length h + 1 → IsBack site (packed_entry h t who v ∷ h) lines j
  born_back way lines are j there birth =
      let live : is_live_job site (packed_entry h t who v ∷ h) j ≡ true = born_live j there birth in
      let known : IsClaimable site (packed_entry h t who v ∷ h) j = live_claimable site (packed_entry h t who v ∷ h) w.good.limits.tries_from longer j live in
      let range : InRange site (packed_entry h t who v ∷ h) j = job_range site (packed_entry h t who v ∷ h) longer j live in
      record { put = known.put; to = range.2; lacks = new_lacks site h way lines j are (let late : j.birth ≡ length h + 1 = birth in omega (arith, late)) }
