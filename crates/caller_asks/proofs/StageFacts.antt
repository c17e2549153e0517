-- What an accepted Stage finds.
use Rattle.std.proofs.Common.{◌≡◌, ◌∙◌, ℕ, ◌+◌, ◌*◌, ◌≤◌, ◌<◌, ◌^◌, ◌⊎◌, inl, inr, List, [], ◌∷◌, Bool, true, false, not, refl, sym, ap, subst, arith, length, map}
use Rattle.std.specs.Prelude.{Option, Some, None, is_none, is_some, if◌then◌else◌, ◌==◌, ◌&&◌, filter, bytes_eq, slice_get}
use Rattle.std.specs.List.{AllByRecursion, filter_map}
use Rattle.std.proofs.lemmas.Bool.{eq-eqb}
use Rattle.cta_site.specs.declared.site.Site.{Site}
use Rattle.cta_site.specs.Listed.{rows}
use Rattle.cta_site.specs.ValidSite.{IsValidSite}
use Rattle.cta_site.specs.WellFormed.{IsWellFormed}
use Rattle.cta_model.specs.declared.answers.Answer.TheVariants as answer
use Rattle.cta_model.specs.declared.asks.Ask.{Ask}
use Rattle.cta_model.specs.declared.asks.Ask.TheVariants as ask
use Rattle.cta_model.specs.declared.asks.Direction.TheVariants as direction
use Rattle.cta_model.specs.declared.asks.Wanted.{Wanted}
use Rattle.cta_model.specs.declared.asks.Who.{Who}
use Rattle.cta_model.specs.declared.entries.Entry.{Entry}
use Rattle.cta_model.specs.declared.states.Place.{Place}
use Rattle.cta_model.specs.declared.states.StageFile.{StageFile}
use Rattle.cta_model.specs.Answers.{answer_of, is_accepted}
use Rattle.cta_model.specs.Files.{live_after, live_file, size_of}
use Rattle.cta_model.specs.History.{History, entry_of, has_number}
use Rattle.cta_model.specs.Legal.{IsLegal, greatest_moment}
use Rattle.cta_model.specs.Mounts.{has_job}
use Rattle.cta_model.specs.Recalls.{recall_job}
use Rattle.cta_model.specs.Stages.{first_named, stage_files}
use Rattle.cta_laws.specs.Places.{PlacesAreOnSite}
use Rattle.cta_laws.specs.Stages.{files_staged}
use Rattle.cta_laws.proofs.JobLists.{filter_le}
use Rattle.cta_laws.proofs.Paths.{known_path}
use Rattle.job_queues.specs.Waiting.{bytes_of, jobs_of}
use Rattle.kept_history.specs.Puts.{is_put, puts_file}
use Rattle.part_model.specs.Held.{is_held}
use Rattle.part_model.specs.JobRows.{book_in}
use Rattle.part_model.specs.Names.{Names}
use Rattle.part_model.specs.Queues.{lines_in}
use Rattle.part_laws.specs.Laws.{AreSmall, FilesFitBuffer, LinesAreSmall}
use Rattle.part_laws.specs.Names.{AreNames}
use Rattle.stage_book.specs.Requested.{AreApart, ArePathsApart}
use Rattle.tape_table.specs.Sources.{sources_in}
use Rattle.archive_parts.specs.PartsKept.{ArePartsKept}
use Rattle.archive_parts.specs.declared.parts.ArchiveParts.{ArchiveParts}
use Rattle.caller_asks.specs.Sorted.{IsSorted}
use Rattle.caller_asks.specs.declared.sorting.Sorted.{Sorted}
use Rattle.caller_asks.specs.Wanted.{AreOnce, asked_in, bears_by, has_source}
use Rattle.archive_parts.proofs.Behind.{legal_behind}
use Rattle.caller_asks.proofs.NewRecalls.{not_queued}
use Rattle.caller_asks.proofs.Sources.{source_placed}
use Rattle.caller_asks.proofs.StageCalls.{stage_answered, stage_entry}
use Rattle.caller_asks.proofs.StagedFiles.{all_kept, apart, asked_are, filter_once, kinds_few, staged_apart, staged_few, staged_named, staged_once}
use Rattle.caller_asks.proofs.Standing.{places_low}
use Rattle.part_moves.proofs.NewJobs.{live_put, not_newest, put_older, put_there, sizes_small}

-- ---- the request's files

pub files_found : (site : Site) (h : History) (names : Names) (lifetime : ℕ) (ws : List Wanted) (files : List StageFile) → AreNames h names → lifetime ≡ site.limits.lifetime → files ≡ map (asked_in names lifetime) (first_named [] ws) → files ≡ stage_files site h ws
files_found site h names lifetime ws files are is found = found ∙ ap (λ (n : ℕ). map (asked_in names n) (first_named [] ws)) is ∙ asked_are site h names ws are

pub numbers_found : (site : Site) (h : History) (ws : List Wanted) (files : List StageFile) (numbers : List ℕ) → files ≡ stage_files site h ws → numbers ≡ filter_map (λ (s : StageFile). s.file) files → numbers ≡ files_staged site h ws
numbers_found site h ws files numbers are found = found ∙ ap (filter_map (λ (s : StageFile). s.file)) are

pub files_apart : (site : Site) (h : History) (ws : List Wanted) (files : List StageFile) → files ≡ stage_files site h ws → AreApart files
files_apart site h ws files are = apart files (subst (λ (xs : List StageFile). AreOnce (filter_map (λ (s : StageFile). s.file) xs)) (sym are) (staged_once site h ws))

pub paths_apart : (site : Site) (h : History) (ws : List Wanted) (files : List StageFile) → files ≡ stage_files site h ws → ArePathsApart files
paths_apart site h ws files are = subst ArePathsApart (sym are) (staged_apart site h ws)

-- ---- the lists by how the files stand

module _ (site : Site) (h : History) (ws : List Wanted) (p : ArchiveParts) (fs : List ℕ) (s : Sorted) (named : fs ≡ files_staged site h ws) (sorted : IsSorted p.buffer.held.value p.tapes.value (book_in p.book.value) fs s) where
  once : AreOnce fs
  once = subst AreOnce (sym named) (staged_once site h ws)

  pub recalled_once : AreOnce s.recalled.items
  recalled_once = subst AreOnce (sym sorted.recalled) (filter_once (λ f. is_some ((book_in p.book.value).recall f)) fs once)

  pub bearing_once : AreOnce s.bearing.items
  bearing_once = subst AreOnce (sym sorted.bearing) (filter_once (bears_by p.buffer.held.value p.tapes.value (book_in p.book.value)) fs once)

  pub files_few : length fs ≤ length ws
  files_few = subst (λ (xs : List ℕ). length xs ≤ length ws) (sym named) (staged_few site h ws)

  pub bearing_few : length s.bearing.items ≤ length ws
  bearing_few =
      let a : length (filter (bears_by p.buffer.held.value p.tapes.value (book_in p.book.value)) fs) ≤ length fs = filter_le (bears_by p.buffer.held.value p.tapes.value (book_in p.book.value)) fs in
      let b : length fs ≤ length ws = files_few in
      subst (λ (xs : List ℕ). length xs ≤ length ws) (sym sorted.bearing) (omega (arith, a, b))

  pub jobs_few : length s.recalled.items + length s.bearing.items ≤ length ws
  jobs_few =
      let a : length (filter (λ f. is_some ((book_in p.book.value).recall f)) fs) + length (filter (bears_by p.buffer.held.value p.tapes.value (book_in p.book.value)) fs) ≤ length fs =
      kinds_few (λ f. is_some ((book_in p.book.value).recall f)) (bears_by p.buffer.held.value p.tapes.value (book_in p.book.value)) fs (λ f e. neither ((book_in p.book.value).recall f) (not (is_held p.buffer.held.value f) && has_source p.tapes.value f) e) in
      let b : length fs ≤ length ws = files_few in
      let c : length s.recalled.items ≡ length (filter (λ f. is_some ((book_in p.book.value).recall f)) fs) = ap length sorted.recalled in
      let d : length s.bearing.items ≡ length (filter (bears_by p.buffer.held.value p.tapes.value (book_in p.book.value)) fs) = ap length sorted.bearing in
      omega (arith, a, b, c, d)
    where
      neither : {A : Type 0} (o : Option A) (b : Bool) → is_some o ≡ true → (is_none o && b) ≡ false
      neither None b e = absurd (cc)
      neither (Some x) b e = refl

-- ---- the Puts of the files

pub puts_there : (site : Site) (h : History) (e : Entry) (who : Who) (ws : List Wanted) (p : ArchiveParts) (fs : List ℕ) (s : Sorted) → fs ≡ files_staged site h ws → IsSorted p.buffer.held.value p.tapes.value (book_in p.book.value) fs s
    → AllByRecursion (λ (f : ℕ). is_put (entry_of (e ∷ h) f) ≡ true) s.bearing.items
puts_there site h e who ws p fs s named sorted =
    subst (AllByRecursion (λ (f : ℕ). is_put (entry_of (e ∷ h) f) ≡ true)) (sym sorted.bearing)
    (all_kept (λ f. is_put (entry_of (e ∷ h) f) ≡ true) (bears_by p.buffer.held.value p.tapes.value (book_in p.book.value)) fs
    (λ f among. (let n = staged_named site h who ws f (ap (has_number f) (sym named) ∙ among) in put_older e h f (known_path h n.0 f n.1).0 (put_there h n.0 f n.1))))

-- ---- the queues

pub sources_low : PlacesAreOnSite → (site : Site) (h : History) (p : ArchiveParts) → IsLegal site h → ArePartsKept site h p → (f : ℕ) (x : Place) → slice_get (sources_in p.tapes.value f) 0 ≡ Some x → x.tape < length p.recalls.value
sources_low law site h p legal kept f x at = (let there = source_placed p.tapes.value f x at in places_low law site h p legal kept f there.0 x there.1)

pub lacks_new : (site : Site) (h : History) (p : ArchiveParts) (n : ℕ) → IsLegal site h → ArePartsKept site h p → n ≡ length h + 1 → (f k : ℕ) → has_job (recall_job n f) (jobs_of (lines_in p.recalls.value k)) ≡ false
lacks_new site h p n legal kept is f k = not_queued site h (lines_in p.recalls.value) n f k legal kept.stand.jobs.recalls is

pub bytes_few : LinesAreSmall → (site : Site) (h : History) (p : ArchiveParts) (bearing : List ℕ) (k : ℕ) → IsValidSite site → IsLegal site h → ArePartsKept site h p → length bearing ≤ 1000000
    → bytes_of (lines_in p.recalls.value k) + 2147483648 * length bearing < 2 ^ 64
bytes_few law site h p bearing k valid legal kept few =
    let small : AreSmall site (bytes_of (lines_in p.recalls.value k)) = law site h direction.Retrieve (lines_in p.recalls.value) valid legal kept.stand.jobs.recalls k in
    let low : bytes_of (lines_in p.recalls.value k) ≤ 36028797018963968 = small.low in
    omega (arith, low, few)

-- ---- the entry

pub stage_legal : (site : Site) (h : History) (t n : ℕ) (who : Who) (ws : List Wanted) → IsLegal site h → t ≤ greatest_moment → n ≡ length h + 1 → is_accepted (answer_of site h t (ask.Stage who (rows ws))) ≡ true
    → IsLegal site (stage_entry h t who ws n ∷ h)
stage_legal site h t n who ws legal low is accepted = legal_behind site h t (ask.Stage who (rows ws)) (answer.Staged n) legal low tt (stage_answered site h t who ws n is accepted) accepted
