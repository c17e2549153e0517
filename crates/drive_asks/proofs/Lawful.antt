-- What holds where a Flushed is accepted in a legal history.
use Rattle.std.proofs.Common.{◌≡◌, ◌∙◌, ◌+◌, ◌*◌, ◌^◌, ◌<◌, ◌≤◌, ℕ, List, [], ◌∷◌, ◌++◌, length, Bool, true, false, not, refl, sym, ap, subst, arith}
use Rattle.std.specs.Prelude.{Option, Some, None, option_map, if◌then◌else◌, ◌==◌, map}
use Rattle.std.proofs.lemmas.Bool.{and_parts}
use Rattle.cta_site.specs.declared.site.Site.{Site}
use Rattle.cta_site.specs.Laws.{ClassesAreKnown}
use Rattle.cta_site.specs.Listed.{rows}
use Rattle.cta_site.specs.Lookups.{class_of, copies_of, copies_of_class}
use Rattle.cta_site.specs.WellFormed.{IsWellFormed}
use Rattle.cta_model.specs.declared.asks.Ask.{Ask}
use Rattle.cta_model.specs.declared.asks.Ask.TheVariants as ask
use Rattle.cta_model.specs.declared.asks.Direction.{Direction}
use Rattle.cta_model.specs.declared.asks.Direction.TheVariants as direction
use Rattle.cta_model.specs.declared.asks.Fate.{Fate}
use Rattle.cta_model.specs.declared.asks.Item.{Item}
use Rattle.cta_model.specs.declared.asks.Job.{Job}
use Rattle.cta_model.specs.declared.answers.Answer.{Answer}
use Rattle.cta_model.specs.declared.answers.Answer.TheVariants as answer
use Rattle.cta_model.specs.declared.entries.Actor.TheVariants as actor
use Rattle.cta_model.specs.declared.entries.Entry.{Entry}
use Rattle.cta_model.specs.History.{History, moment_of}
use Rattle.cta_model.specs.Files.{copies_of_file, path_of}
use Rattle.cta_model.specs.Jobs.{is_live_job, jobs_born}
use Rattle.cta_model.specs.Mounts.{claimed_after, claimed_items, claims, drive_by, drive_of_mount, has_job, is_open, item_jobs, mount_of, tape_by, tape_of_mount, without_jobs}
use Rattle.cta_model.specs.Queues.{is_queued, queue_of}
use Rattle.cta_model.specs.Tapes.{next_fseq}
use Rattle.cta_model.specs.Answers.{answer_of, claims_all, fate_of, is_accepted}
use Rattle.cta_model.specs.Legal.{greatest_moment, IsLegal, IsMountOf, IsNext, new_entry}
use Rattle.cta_model.proofs.Appends.{is_next}
use Rattle.cta_laws.proofs.Accepted.{answer_is}
use Rattle.cta_laws.proofs.BatchLaw.{flushes_are_short}
use Rattle.cta_laws.proofs.Claims.{AllOf, all_append, all_filter, all_mono, all_pass, claim_all, OfJob}
use Rattle.cta_laws.proofs.EndLaw.{job_among}
use Rattle.cta_laws.proofs.FseqLaw.{way_of}
use Rattle.cta_laws.proofs.KeyLaw.{open_good, OpenIsGood}
use Rattle.cta_laws.proofs.LengthLaw.{fseqs_are_low, stays_short}
use Rattle.cta_laws.proofs.PlaceLaw.{flushed_known}
use Rattle.cta_laws.proofs.RangeLaw.{InRange, job_range, range_older}
use Rattle.cta_laws.proofs.Ways.{IsOfWay, claimed_way, writes_some}
use Rattle.part_model.specs.declared.mounts.OpenMount.{OpenMount}
use Rattle.part_model.specs.declared.space.TapeRow.{TapeRow}
use Rattle.part_model.specs.Mounts.{has_mount, row_of}
use Rattle.part_model.specs.Tapes.{Table, row_in}
use Rattle.part_laws.specs.Mounts.{AreOpenMounts, IsRow}
use Rattle.part_laws.proofs.RowAnswers.{rows_tell_mounts}
use Rattle.part_laws.specs.Tapes.{IsTable}
use Rattle.drive_asks.specs.Items.{AreOfCopies}
use Rattle.part_moves.proofs.Charged.{few_copies}

-- the ask
abbrev pub flushed : ℕ → List Item → Ask
flushed m items = ask.Flushed m (rows items)

-- the entry
abbrev pub flush_entry : History → ℕ → ℕ → List Item → List Fate → Entry
flush_entry h t m items fates = new_entry h t (flushed m items) (answer.Told (rows fates))

-- a Flushed that is accepted, of a mount that writes, in a legal history
pub record IsFlush (site : Site) (h : History) (t m : ℕ) (items : List Item) : Type 0 where
  pub legal : IsLegal site h
  pub within : t ≤ greatest_moment
  pub fit : IsMountOf direction.Archive (mount_of h m)
  pub accepted : is_accepted (answer_of site h t (flushed m items)) ≡ true

-- ---- the entry

pub told_is : (site : Site) (h : History) (t m : ℕ) (items : List Item) → IsFlush site h t m items → answer_of site h t (flushed m items) ≡ answer.Told (rows (map (λ (i : Item). fate_of site h i.job) items))
told_is site h t m items f = answer_is site h t (flushed m items) (answer_of site h t (flushed m items)) refl f.accepted

pub entry_next : (site : Site) (h : History) (t m : ℕ) (items : List Item) (fates : List Fate) → IsFlush site h t m items → fates ≡ map (λ (i : Item). fate_of site h i.job) items → IsNext site h (flush_entry h t m items fates)
entry_next site h t m items fates f is =
    is_next site h t (flushed m items) (answer.Told (rows fates)) f.legal f.within f.fit (ap (λ (fs : List Fate). answer.Told (rows fs)) is ∙ sym (told_is site h t m items f)) refl

-- ---- the items

-- a Flushed names at most 1000 items
pub few_items : (site : Site) (h : History) (t m : ℕ) (items : List Item) → IsWellFormed site → IsFlush site h t m items → length items ≤ 1000
few_items site h t m items good f =
    let next : IsNext site h (flush_entry h t m items (map (λ (i : Item). fate_of site h i.job) items)) = entry_next site h t m items _ f refl in
    let short : length items ≤ site.limits.batch_files = flushes_are_short site h (flush_entry h t m items (map (λ (i : Item). fate_of site h i.job) items)) (f.legal, next) m (rows items) refl in
    let most : site.limits.batch_files ≤ 1000 = good.limits.batch_files_to in
    omega arith

-- the mount is open, and claims the jobs of the items
pub is_open_mount : (site : Site) (h : History) (t m : ℕ) (items : List Item) → IsFlush site h t m items → is_open h m ≡ true
is_open_mount site h t m items f = (and_parts (is_open h m) _ (flushed_known site h t m (rows items) (answer_of site h t (flushed m items)) refl f.accepted).0).0

claims_items : (site : Site) (h : History) (t m : ℕ) (items : List Item) → IsFlush site h t m items → claims_all h m (item_jobs items) ≡ true
claims_items site h t m items f = (and_parts (claims_all h m (item_jobs items)) _ (and_parts (is_open h m) _ (flushed_known site h t m (rows items) (answer_of site h t (flushed m items)) refl f.accepted).0).1).0

-- ---- copies

-- the jobs of a queue are of copies of their files' classes
queue_range : (site : Site) (h : History) → IsLegal site h → (way : Direction) (key : ℕ) → AllOf (InRange site h) (queue_of site h way key)
queue_range site h legal way key =
    all_mono (λ j. is_queued site h way key j ≡ true) (InRange site h) (queue_of site h way key) (λ j e. job_range site h legal j (and_parts (is_live_job site h j) _ e).0) (all_pass (is_queued site h way key) (jobs_born site h))

if_range : (site : Site) (h : History) (b : Bool) (js : List Job) (xs : List Item) → AllOf (OfJob (InRange site h)) xs → AllOf (OfJob (InRange site h)) (if b then without_jobs js xs else xs)
if_range site h true js xs all = all_filter (OfJob (InRange site h)) (λ (i : Item). not (has_job i.job js)) xs all
if_range site h false js xs all = all

claimed_step : (site : Site) (h : History) (t : ℕ) (k : Ask) (a : Answer) (m : ℕ) (before : List Item) → IsLegal site h → a ≡ answer_of site h t k → AllOf (OfJob (InRange site h)) before → AllOf (OfJob (InRange site h)) (claimed_after k a m before)
claimed_step site h t (ask.Claim k) (answer.Batch items evicted) m before legal is all =
    elim (k == m) as (λ b. AllOf (OfJob (InRange site h)) (if b then before ++ items.items else before)) [
      | true ↦ all_append (OfJob (InRange site h)) before items.items all (claim_all (InRange site h) site h t k items evicted is (λ way key. queue_range site h legal way key))
      | false ↦ all
    ]
claimed_step site h t (ask.Flushed k items) a m before legal is all = if_range site h (k == m) (item_jobs items.items) before all
claimed_step site h t (ask.Recalled k job) a m before legal is all = if_range site h (k == m) (job ∷ []) before all
claimed_step site h t (ask.Failed k f charged returned) a m before legal is all = if_range site h (k == m) (charged.items ++ returned.items) before all
claimed_step site h t _ a m before legal is all = all

-- what a mount claims is of copies of its files' classes
claimed_range : (site : Site) (h : History) → IsLegal site h → (m : ℕ) → AllOf (OfJob (InRange site h)) (claimed_items h m)
claimed_range site [] legal m = tt
claimed_range site (e ∷ h) legal m =
    all_mono (OfJob (InRange site h)) (OfJob (InRange site (e ∷ h))) (claimed_items (e ∷ h) m) (λ i r. range_older site e h i.job r)
    (claimed_step site h e.at e.ask e.answer m (claimed_items h m) legal.0 legal.1.answered (claimed_range site h legal.0 m))

-- each of the items is of a copy from 1 to 4
pub are_of_copies : (site : Site) (h : History) (t m : ℕ) (items : List Item) → ClassesAreKnown site → IsFlush site h t m items → AreOfCopies items
are_of_copies site h t m items known f = each items (claims_items site h t m items f)
  where
    one : (j : Job) → claims h m j ≡ true → (1 ≤ j.copy) × (j.copy ≤ 4)
    one j there =
        (let way : IsOfWay (mount_of h m) j = job_among (IsOfWay (mount_of h m)) (claimed_items h m) (claimed_way site h f.legal m) j there in
        let range : InRange site h j = job_among (InRange site h) (claimed_items h m) (claimed_range site h f.legal m) j there in
        let high : j.copy ≤ copies_of_file site h j.file = range.2 in
        let most : copies_of_file site h j.file ≤ 4 = few_copies site h j.file known in
        (writes_some (mount_of h m) j f.fit way, omega arith))

    each : (xs : List Item) → claims_all h m (item_jobs xs) ≡ true → AreOfCopies xs
    each [] all = tt
    each (x ∷ xs) all = (let parts = and_parts (claims h m x.job) _ all in (one x.job parts.0, each xs parts.1))

-- ---- the mount

-- the open mount has a row
pub has_row : (site : Site) (h : History) (t m : ℕ) (items : List Item) (mounts : List OpenMount) → IsFlush site h t m items → AreOpenMounts site h mounts → has_mount m mounts ≡ true
has_row site h t m items mounts f are = (rows_tell_mounts site h mounts are).opens m ∙ is_open_mount site h t m items f

row_tape : (site : Site) (h : History) (m tape : ℕ) (mounts : List OpenMount) → AreOpenMounts site h mounts → is_open h m ≡ true → option_map (λ (r : OpenMount). r.tape) (row_of m mounts) ≡ Some tape → tape_of_mount h m ≡ tape
row_tape site h m tape mounts are op is =
    let row = (rows_tell_mounts site h mounts are).row m op in
    let there : row_of m mounts ≡ Some row.0 = row.1 in
    let same : ◌≡◌ {A = Option ℕ} (Some row.0.tape) (Some tape) = ap (option_map (λ (r : OpenMount). r.tape)) (sym there) ∙ is in
    let stands : IsRow site h m row.0 = row.2 in
    ap tape_by stands.mount ∙ cc

row_drive : (site : Site) (h : History) (m drive : ℕ) (mounts : List OpenMount) → AreOpenMounts site h mounts → is_open h m ≡ true → option_map (λ (r : OpenMount). r.drive) (row_of m mounts) ≡ Some drive → drive_of_mount h m ≡ drive
row_drive site h m drive mounts are op is =
    let row = (rows_tell_mounts site h mounts are).row m op in
    let there : row_of m mounts ≡ Some row.0 = row.1 in
    let same : ◌≡◌ {A = Option ℕ} (Some row.0.drive) (Some drive) = ap (option_map (λ (r : OpenMount). r.drive)) (sym there) ∙ is in
    let stands : IsRow site h m row.0 = row.2 in
    ap drive_by stands.mount ∙ cc

-- the tape of the mount's row is its tape
pub tape_is : (site : Site) (h : History) (t m tape : ℕ) (items : List Item) (mounts : List OpenMount) → IsFlush site h t m items → AreOpenMounts site h mounts
    → option_map (λ (r : OpenMount). r.tape) (row_of m mounts) ≡ Some tape → tape_of_mount h m ≡ tape
tape_is site h t m tape items mounts f are is = row_tape site h m tape mounts are (is_open_mount site h t m items f) is

-- the drive of the mount's row is its drive
pub drive_is : (site : Site) (h : History) (t m drive : ℕ) (items : List Item) (mounts : List OpenMount) → IsFlush site h t m items → AreOpenMounts site h mounts
    → option_map (λ (r : OpenMount). r.drive) (row_of m mounts) ≡ Some drive → drive_of_mount h m ≡ drive
drive_is site h t m drive items mounts f are is = row_drive site h m drive mounts are (is_open_mount site h t m items f) is

-- the tape of the mount is one of the site
pub tape_low : (site : Site) (h : History) (t m : ℕ) (items : List Item) → IsFlush site h t m items → tape_of_mount h m < length site.tapes.items
tape_low site h t m items f =
    let x : OpenIsGood site h m = open_good site h f.legal m (is_open_mount site h t m items f) in
    let tape : tape_of_mount h m ≡ x.0.tape = ap tape_by x.1 in
    subst (λ (v : ℕ). v < length site.tapes.items) (sym tape) (x.2.1 (way_of (mount_of h m) x.0 x.1 f.fit))

-- its fSeqs do not pass 32 bits
pub fseqs_fit : (site : Site) (h : History) (t m tape : ℕ) (items : List Item) (v : Table) → IsWellFormed site → IsFlush site h t m items → IsTable site h v → tape_of_mount h m ≡ tape → (row_in v tape).next + length items < 2 ^ 32
fseqs_fit site h t m tape items v good f table is =
    let low : tape < length site.tapes.items = subst (λ (n : ℕ). n < length site.tapes.items) is (tape_low site h t m items f) in
    let next : (row_in v tape).next ≡ next_fseq h tape = ap (λ (r : TapeRow). r.next) (table.rows tape low) in
    let most : next_fseq h tape ≤ site.limits.history + 1 = fseqs_are_low site h f.legal tape in
    let limit : site.limits.history ≤ 1000000 = good.limits.history_to in
    let few : length items ≤ 1000 = few_items site h t m items good f in
    omega arith

-- the history has room for another entry
pub entries_fit : (site : Site) (h : History) → IsWellFormed site → IsLegal site h → length h + 2 < 2 ^ 32
entries_fit site h good legal =
    let short : length h ≤ 2 * site.limits.history = stays_short site h legal in
    let limit : site.limits.history ≤ 1000000 = good.limits.history_to in
    omega arith

-- the table has a row for the tape
pub tape_fits : (site : Site) (h : History) (t m tape : ℕ) (items : List Item) (v : Table) → IsFlush site h t m items → length v.rows ≡ length site.tapes.items → tape_of_mount h m ≡ tape → tape < length v.rows
tape_fits site h t m tape items v f sized is =
    let low : tape < length site.tapes.items = subst (λ (n : ℕ). n < length site.tapes.items) is (tape_low site h t m items f) in
    omega arith

-- what is pushed is the entry
pub entry_is : (h : History) (t m at d : ℕ) (items : List Item) (fates : List Fate) → at ≡ moment_of h t → drive_of_mount h m ≡ d
    → ◌≡◌ {A = History} (record { at = at; actor = actor.Drive d; ask = flushed m items; answer = answer.Told (rows fates) } ∷ h) (flush_entry h t m items fates ∷ h)
entry_is h t m at d items fates moment drive =
    ap (λ (n : ℕ). record { at = n; actor = actor.Drive d; ask = flushed m items; answer = answer.Told (rows fates) } ∷ h) moment
    ∙ ap (λ (n : ℕ). record { at = moment_of h t; actor = actor.Drive n; ask = flushed m items; answer = answer.Told (rows fates) } ∷ h) (sym drive)
