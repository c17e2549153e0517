-- A Failed of a mount that writes, carried out on all parts.
use Rattle.std.proofs.Common.{◌≡◌, ◌∙◌, ◌+◌, ◌≤◌, ◌⊎◌, ℕ, zero, suc, inl, inr, List, [], ◌∷◌, ◌++◌, length, Bool, true, false, ◌||◌, not, refl, sym, ap, subst, arith}
use Rattle.std.specs.Prelude.{Option, Some, None, option_map, is_none, if◌then◌else◌, ◌==◌, ◌&&◌, filter, map, nat_le}
use Rattle.std.specs.List.{list_any}
use Rattle.std.proofs.lemmas.List.Elements.{filter-append}
use Rattle.blob.specs.declared.sum.Sum256.{Sum256}
use Rattle.cta_site.specs.declared.site.Site.{Site}
use Rattle.cta_site.specs.Lookups.{class_of, pool_of}
use Rattle.cta_model.specs.declared.asks.Direction.{Direction}
use Rattle.cta_model.specs.declared.asks.Direction.TheVariants as direction
use Rattle.cta_model.specs.declared.asks.Fault.{Fault}
use Rattle.cta_model.specs.declared.asks.Job.{Job}
use Rattle.cta_model.specs.declared.entries.Entry.{Entry}
use Rattle.cta_model.specs.declared.reports.ItemState.TheVariants as item
use Rattle.cta_model.specs.declared.states.Mount.{Mount}
use Rattle.cta_model.specs.declared.states.Place.{Place}
use Rattle.cta_model.specs.declared.states.RepackCopy.{RepackCopy}
use Rattle.cta_model.specs.Charges.{is_last_charge}
use Rattle.cta_model.specs.Files.{copies_of_file, is_live, live_file, path_of}
use Rattle.cta_model.specs.History.{History, has_number, is_empty, is_number, moment_of}
use Rattle.cta_model.specs.Jobs.{is_live_job}
use Rattle.cta_model.specs.Mounts.{drive_by, has_job, mount_of, same_direction, tape_by}
use Rattle.cta_model.specs.Pins.{Pin, repack_pins}
use Rattle.cta_model.specs.Places.{place_of}
use Rattle.cta_model.specs.Queues.{direction_of, key_by, key_of, way_by}
use Rattle.cta_model.specs.Repacks.{Repack, is_live_item, repack_of}
use Rattle.cta_model.specs.Space.{is_safe}
use Rattle.cta_model.specs.Legal.{IsLegal}
use Rattle.cta_laws.specs.Claims.{size_of_jobs}
use Rattle.cta_laws.specs.Pins.{repack_pins_by}
use Rattle.cta_laws.proofs.Bools.{eq_flip}
use Rattle.cta_laws.proofs.FileFrames.{copies_older}
use Rattle.cta_laws.proofs.JobFiles.{resident_parts}
use Rattle.cta_laws.proofs.PlaceLaw.{named_within, path_older}
use Rattle.cta_laws.proofs.Tests.{bool_cases}
use Rattle.part_model.specs.declared.space.Resident.{Resident}
use Rattle.part_model.specs.Failed.{added_copies}
use Rattle.part_model.specs.Held.{Held, HeldAgree, numbers, set_all, set_safe, unpin_all}
use Rattle.part_model.specs.JobBook.{TellSame, charge_jobs, end_jobs, give_back_jobs}
use Rattle.part_model.specs.JobRows.{JobRows, book_in}
use Rattle.part_model.specs.Queues.{Lines, Queues, lines_in}
use Rattle.part_model.specs.Repacks.{Repacks, RepacksAgree, has_item_by, set_states}
use Rattle.part_model.specs.Requests.{RequestsAgree, finish_all}
use Rattle.part_model.specs.Room.{Roomed}
use Rattle.part_model.specs.Tapes.{HasTurned, Table, place_in, safe_in, unclaimed_row}
use Rattle.part_laws.specs.QueueBooks.{IsBook}
use Rattle.part_laws.specs.Failed.{is_lost}
use Rattle.part_laws.specs.Lines.{add_jobs, line_of, of_way}
use Rattle.part_laws.proofs.LineSteps.{line_older}
use Rattle.part_laws.specs.JobParts.{still_live}
use Rattle.part_laws.specs.Books.{AreRepacks}
use Rattle.part_laws.specs.BookCalls.{jobs_failed, readers, recall_end, recalls_in, waiters, writers}
use Rattle.part_laws.specs.BufferCalls.{AreTouched, AreUnpinned, JobsCalled, has_pair, left_aside}
use Rattle.part_laws.specs.Tapes.{IsTable}
use Rattle.part_laws.specs.TableCalls.{TurnedBy}
use Rattle.part_laws.proofs.Flags.{flag_is_found}
use Rattle.part_laws.proofs.PinLists.{unpin_all_is}
use Rattle.part_laws.proofs.RepackCalls.{calls_move_repacks}
use Rattle.part_laws.proofs.Stands.{set_all_rest}
use Rattle.part_laws.proofs.TableMoves.{calls_move_table}
use Rattle.part_laws.proofs.Told.{held_is}
use Rattle.part_laws.specs.AllParts.{jobs_in}
use Rattle.repack_book.specs.NamedRepacks.{NamedRepacks, NamesAgree, repacks_of}
use Rattle.disk_buffer.specs.Stays.{content_in}
use Rattle.disk_buffer.specs.Stored.{Stored}
use Rattle.archive_parts.specs.Called.{AreKeptCalled}
use Rattle.archive_parts.specs.PartsKept.{ArePartsKept, values_of}
use Rattle.archive_parts.specs.declared.parts.ArchiveParts.{ArchiveParts}
use Rattle.job_book.specs.Live.{lives}
use Rattle.part_moves.specs.Flags.{job_files}
use Rattle.fault_asks.specs.Failing.{add_by, jobs_ended, jobs_live, jobs_unplaced}
use Rattle.part_moves.specs.Unpinned.{AreTakenOff, is_pinned_by}
use Rattle.fault_asks.proofs.AddedLines.{all_way, by_both, by_jobs, by_same, none_way}
use Rattle.fault_asks.proofs.Claimed.{IsClaimable, in_front}
use Rattle.fault_asks.proofs.EndedJobs.{book_behind, book_called, charge_by, ended_are, ended_has, files_are, filter_both, filter_has, filter_on}
use Rattle.fault_asks.proofs.FailFacts.{IsFailure, failed, failed_entry, longer, named_claimable, named_way, sizes_both}
use Rattle.part_moves.proofs.Charged.{lives_is}
use Rattle.part_moves.proofs.HeldPins.{both_agree, pinned_is, pins_are}

-- ---- pins

-- ---- flags

-- whether a live file is safe behind the entry is told by the table and the book
pub flag_is : (site : Site) (h : History) (e : Entry) (v : Table) (b : JobRows) (g : ℕ) → IsLegal site (e ∷ h) → IsTable site (e ∷ h) v → IsBook site (e ∷ h) (book_in b) → ((path : List ℕ) → live_file (e ∷ h) path ≡ live_file h path) → is_live h g ≡ true
    → safe_in v (book_in b).archive g (copies_of_file site h g) ≡ is_safe site (e ∷ h) g
flag_is site h e v b g legal table book stays live =
    let low : g ≤ length h = (named_within h g (path_of h g) live).1 in
    let path : path_of (e ∷ h) g ≡ path_of h g = path_older e h g low in
    let now : is_live (e ∷ h) g ≡ true = ap (λ (q : List ℕ). is_number g (live_file (e ∷ h) q)) path ∙ ap (is_number g) (stays (path_of h g)) ∙ live in
    ap (safe_in v (book_in b).archive g) (sym (copies_older site e h g low))
    ∙ sym (flag_is_found site (e ∷ h) v (book_in b).archive g legal table now (λ c. book.archive g c))

safe_numbers : (safe : Bool) (f : ℕ) (rs : List Resident) → numbers (map (λ (r : Resident). if r.file == f then record r { safe = safe } else r) rs) ≡ numbers rs
safe_numbers safe f [] = refl
safe_numbers safe f (r ∷ rs) = ap (λ (ns : List ℕ). Resident.file (if r.file == f then record r { safe = safe } else r) ∷ ns) (safe_numbers safe f rs) ∙ by (r.file == f)
  where
    by : (b : Bool) → (Resident.file (if b then record r { safe = safe } else r) ∷ numbers rs) ≡ (r.file ∷ numbers rs)
    by true = refl
    by false = refl

not_held : (a b : Bool) (f : ℕ) (rs : List Resident) → has_number f (numbers rs) ≡ false
    → map (λ (r : Resident). if r.file == f then record r { safe = a } else r) rs ≡ map (λ (r : Resident). if r.file == f then record r { safe = b } else r) rs
not_held a b f [] none = refl
not_held a b f (r ∷ rs) none =
    let parts = parts_none (f == r.file) (has_number f (numbers rs)) none in
    let other : (r.file == f) ≡ false = eq_flip r.file f ∙ parts.0 in
    rw other (ap (λ (xs : List Resident). r ∷ xs) (not_held a b f rs parts.1))
  where
    parts_none : (a b : Bool) → (a || b) ≡ false → (a ≡ false) × (b ≡ false)
    parts_none true b e = absurd (cc)
    parts_none false b e = (refl, e)

-- flags that are the same for files that are held are set the same
pub flags_on : (p q : ℕ → Bool) (fs : List ℕ) (v : Held) → ((f : ℕ) → has_number f (numbers v.files) ≡ true → p f ≡ q f) → set_all p fs v ≡ set_all q fs v
flags_on p q [] v same = refl
flags_on p q (f ∷ fs) v same =
    ap (λ (w : Held). set_all p fs w) (one (bool_cases (has_number f (numbers v.files))))
    ∙ flags_on p q fs (set_safe v f (q f)) (λ g there. same g (sym (ap (has_number g) (safe_numbers (q f) f v.files)) ∙ there))
  where
    one : (has_number f (numbers v.files) ≡ true) ⊎ (has_number f (numbers v.files) ≡ false) → set_safe v f (p f) ≡ set_safe v f (q f)
    one (inl here) = ap (set_safe v f) (same f here)
    one (inr none) = ap (λ (rs : List Resident). record v { files = rs }) (not_held (p f) (q f) f v.files none)

-- ---- archive jobs

archive_way : (c : ℕ) → way_by c ≡ direction.Archive → (1 ≤ c) × (c == 0 ≡ false)
archive_way zero e = absurd (cc)
archive_way (suc c) e = (omega arith, grind arith)

-- the pool of an archive job is the same behind one more entry
pub pool_key : (site : Site) (h : History) (e : Entry) (j : Job) → j.file ≤ length h → direction_of j ≡ direction.Archive → key_of site h j ≡ key_of site (e ∷ h) j
pool_key site h e j low way = by j.copy way
  where
    by : (c : ℕ) → way_by c ≡ direction.Archive → key_by c site h j ≡ key_by c site (e ∷ h) j
    by zero way = absurd (cc)
    by (suc c) way = ap (λ (q : List ℕ). option_map (λ class. pool_of site class j.copy) (class_of site q)) (sym (path_older e h j.file low))

-- archive jobs name no recall
pub no_recalls : (js : List Job) → ((j : Job) → has_job j js ≡ true → (j.copy == 0) ≡ false) → recalls_in js ≡ []
no_recalls js each = ap (map (λ (j : Job). j.file)) (filter_on (λ (j : Job). j.copy == 0) (λ j. false) js each ∙ none js)
  where
    none : (xs : List Job) → filter (λ (j : Job). false) xs ≡ []
    none [] = refl
    none (x ∷ xs) = none xs

-- ---- what was done to each part

-- what the calls for a Failed of a mount that writes have done, where mid are the queues with the returned jobs and c the buffer with its flags
pub record IsWritten (site : Site) (h : History) (t m : ℕ) (fault : Fault) (charged returned ended : List Job) (x : Mount) (n : ℕ) (p : ArchiveParts) (failures : Roomed (List Job)) (tapes : Roomed Table) (book : Roomed JobRows) (mid pools : Roomed Queues) (c buffer : Stored) (repacks : NamedRepacks) : Type 0 where
  pub failure : IsFailure site h t m fault charged returned
  pub some : 1 ≤ site.limits.tries
  pub kept : ArePartsKept site h p
  pub mount : mount_of h m ≡ Some x
  pub way : x.direction ≡ direction.Archive
  pub over : ended ≡ jobs_ended site.limits.tries (book_in p.book.value) charged
  pub lost : failures.value ≡ added_copies (jobs_unplaced p.tapes.value ended) p.failed.value
  pub bytes : n ≡ size_of_jobs h charged + size_of_jobs h returned
  pub unclaimed : HasTurned x.tape (unclaimed_row n) p.tapes.value tapes.value
  pub sized : length tapes.value.rows ≡ length p.tapes.value.rows
  pub resolved : TellSame (book_in book.value) (end_jobs ended (charge_jobs charged (record { drive = x.drive; tape = x.tape; fault = fault }) (give_back_jobs (charged ++ returned) (book_in p.book.value))))
  pub others : (k : ℕ) → lines_in mid.value k ≡ add_by (key_of site h) (line_of site h direction.Archive) (jobs_live (book_in book.value) returned) (lines_in p.pools.value) k
  pub waits : (k : ℕ) → lines_in pools.value k ≡ add_by (key_of site h) (line_of site h direction.Archive) (jobs_live (book_in book.value) charged) (lines_in mid.value) k
  pub keys : length pools.value ≡ length p.pools.value
  pub flags : HeldAgree c.held.value (set_all (λ f. safe_in tapes.value (book_in book.value).archive f (copies_of_file site h f)) (job_files charged) p.buffer.held.value)
  pub same : c.contents ≡ p.buffer.contents
  pub finished : RepacksAgree (repacks_of repacks) (set_states item.Failed (writers (repacks_of p.repacks) ended) (repacks_of p.repacks))
  pub named : NamesAgree repacks p.repacks
  pub pins : AreTakenOff (repacks_of p.repacks) (repacks_of repacks) c.held.value buffer.held.value
  pub still : buffer.contents ≡ c.contents

module _ (site : Site) (h : History) (t m : ℕ) (fault : Fault) (charged returned ended : List Job) (x : Mount) (n : ℕ) (p : ArchiveParts) (failures : Roomed (List Job)) (tapes : Roomed Table) (book : Roomed JobRows) (mid pools : Roomed Queues) (c buffer : Stored) (repacks : NamedRepacks)
    (w : IsWritten site h t m fault charged returned ended x n p failures tapes book mid pools c buffer repacks) where
  legal : IsLegal site (failed_entry h t m fault charged returned ∷ h)
  legal = longer site h t m fault charged returned w.failure

  ended_is : ended ≡ jobs_failed site h (failed m fault charged returned)
  ended_is = w.over ∙ ended_are site h t m fault charged returned p.book.value w.failure w.kept.stand.jobs.book

  writes : (j : Job) → has_job j (charged ++ returned) ≡ true → direction_of j ≡ direction.Archive
  writes j there = named_way site h t m fault charged returned w.failure x w.mount j there ∙ w.way

  copies : (j : Job) → has_job j ended ≡ true → (1 ≤ j.copy) × ((j.copy == 0) ≡ false)
  copies j there =
      let has : has_job j charged ≡ true = (ended_has site h t m fault charged returned p.book.value w.failure w.kept.stand.jobs.book j (subst (λ (js : List Job). has_job j js ≡ true) w.over there)).0 in
      archive_way j.copy (writes j (in_front j charged returned has))

  -- ---- the book

  resolved_by : TellSame (book_in book.value) (end_jobs ended (charge_jobs charged (charge_by h m fault) (give_back_jobs (charged ++ returned) (book_in p.book.value))))
  resolved_by =
      subst (λ (d : ℕ). TellSame (book_in book.value) (end_jobs ended (charge_jobs charged (record { drive = d; tape = tape_by (mount_of h m); fault = fault }) (give_back_jobs (charged ++ returned) (book_in p.book.value))))) (sym (ap drive_by w.mount))
      (subst (λ (v : ℕ). TellSame (book_in book.value) (end_jobs ended (charge_jobs charged (record { drive = x.drive; tape = v; fault = fault }) (give_back_jobs (charged ++ returned) (book_in p.book.value))))) (sym (ap tape_by w.mount)) w.resolved)

  book_stands : IsBook site (failed_entry h t m fault charged returned ∷ h) (book_in book.value)
  book_stands = book_behind site h t m fault charged returned ended (jobs_in (values_of p)) p.book.value book.value w.failure w.kept.stand.jobs w.over resolved_by

  -- ---- the table

  table_called : (y : Mount) → mount_of h m ≡ Some y → TurnedBy y (unclaimed_row (size_of_jobs h (charged ++ returned))) p.tapes.value tapes.value
  table_called y is =
      let both : Some x ≡ Some y = sym w.mount ∙ is in
      let same : x ≡ y = cc in
      subst (λ (z : Mount). TurnedBy z (unclaimed_row (size_of_jobs h (charged ++ returned))) p.tapes.value tapes.value) same
      (subst (λ (d : Direction). TurnedBy (record { drive = x.drive; direction = d; tape = x.tape }) (unclaimed_row (size_of_jobs h (charged ++ returned))) p.tapes.value tapes.value) (sym w.way)
      (subst (λ (k : ℕ). HasTurned x.tape (unclaimed_row k) p.tapes.value tapes.value) (w.bytes ∙ sym (sizes_both h charged returned)) w.unclaimed))

  table_stands : IsTable site (failed_entry h t m fault charged returned ∷ h) tapes.value
  table_stands = calls_move_table site h (failed_entry h t m fault charged returned) p.tapes.value tapes.value legal w.kept.stand.space.tapes table_called

  -- ---- queues

  live_same : (js : List Job) → jobs_live (book_in book.value) js ≡ still_live site (failed_entry h t m fault charged returned ∷ h) js
  live_same js = filter_on (λ j. lives j (book_in book.value)) (is_live_job site (failed_entry h t m fault charged returned ∷ h)) js (λ j there. lives_is site (failed_entry h t m fault charged returned ∷ h) book.value j book_stands)

  live_both : jobs_live (book_in book.value) charged ++ jobs_live (book_in book.value) returned ≡ still_live site (failed_entry h t m fault charged returned ∷ h) (charged ++ returned)
  live_both = sym (filter-append (λ j. lives j (book_in book.value)) charged returned) ∙ live_same (charged ++ returned)

  back_has : (j : Job) → has_job j (still_live site (failed_entry h t m fault charged returned ∷ h) (charged ++ returned)) ≡ true → has_job j (charged ++ returned) ≡ true
  back_has j there = (filter_has (is_live_job site (failed_entry h t m fault charged returned ∷ h)) j (charged ++ returned) there).0

  same_way : (way : Direction) → way ≡ direction.Archive → (same_direction direction.Archive way ≡ true) × (same_direction direction.Retrieve way ≡ false)
  same_way direction.Archive e = (refl, refl)
  same_way direction.Retrieve e = absurd (cc)

  pools_called : (k : ℕ) → lines_in pools.value k ≡ add_jobs site (failed_entry h t m fault charged returned ∷ h) direction.Archive (of_way direction.Archive (still_live site (failed_entry h t m fault charged returned ∷ h) (charged ++ returned))) (lines_in p.pools.value) k
  pools_called k =
      w.waits k
      ∙ by_same (key_of site h) (line_of site h direction.Archive) (jobs_live (book_in book.value) charged) (lines_in mid.value) (add_by (key_of site h) (line_of site h direction.Archive) (jobs_live (book_in book.value) returned) (lines_in p.pools.value)) k (w.others k)
      ∙ ap (λ (ls : Lines). ls k) (by_both (key_of site h) (line_of site h direction.Archive) (jobs_live (book_in book.value) charged) (jobs_live (book_in book.value) returned) (lines_in p.pools.value))
      ∙ ap (λ (js : List Job). add_by (key_of site h) (line_of site h direction.Archive) js (lines_in p.pools.value) k) live_both
      ∙ ap (λ (ls : Lines). ls k) (by_jobs site (failed_entry h t m fault charged returned ∷ h) direction.Archive (key_of site h) (line_of site h direction.Archive) (still_live site (failed_entry h t m fault charged returned ∷ h) (charged ++ returned)) (lines_in p.pools.value)
      (λ j there. (let known : IsClaimable site h j = named_claimable site h t m fault charged returned w.failure w.some j (back_has j there) in
      (pool_key site h (failed_entry h t m fault charged returned) j known.low (writes j (back_has j there)), sym (line_older site (failed_entry h t m fault charged returned) h direction.Archive j known.low known.birth)))))
      ∙ ap (λ (js : List Job). add_jobs site (failed_entry h t m fault charged returned ∷ h) direction.Archive js (lines_in p.pools.value) k)
      (sym (all_way direction.Archive (still_live site (failed_entry h t m fault charged returned ∷ h) (charged ++ returned)) (λ j there. (same_way (direction_of j) (writes j (back_has j there))).0)))

  tapes_called : (k : ℕ) → lines_in p.recalls.value k ≡ add_jobs site (failed_entry h t m fault charged returned ∷ h) direction.Retrieve (of_way direction.Retrieve (still_live site (failed_entry h t m fault charged returned ∷ h) (charged ++ returned))) (lines_in p.recalls.value) k
  tapes_called k =
      ap (λ (js : List Job). add_jobs site (failed_entry h t m fault charged returned ∷ h) direction.Retrieve js (lines_in p.recalls.value) k)
      (sym (none_way direction.Retrieve (still_live site (failed_entry h t m fault charged returned ∷ h) (charged ++ returned)) (λ j there. (same_way (direction_of j) (writes j (back_has j there))).1)))

  -- ---- requests and repacks

  no_recall : recalls_in (jobs_failed site h (failed m fault charged returned)) ≡ []
  no_recall = ap recalls_in (sym ended_is) ∙ no_recalls ended (λ j there. (copies j there).1)

  repacks_called : RepacksAgree (repacks_of repacks) (set_states item.Failed (writers (repacks_of p.repacks) (jobs_failed site h (failed m fault charged returned))) (set_states item.Failed (readers site h (repacks_of p.repacks) (recalls_in (jobs_failed site h (failed m fault charged returned)))) (repacks_of p.repacks)))
  repacks_called =
      subst (λ (fs : List ℕ). RepacksAgree (repacks_of repacks) (set_states item.Failed (writers (repacks_of p.repacks) (jobs_failed site h (failed m fault charged returned))) (set_states item.Failed (readers site h (repacks_of p.repacks) fs) (repacks_of p.repacks)))) (sym no_recall)
      (subst (λ (js : List Job). RepacksAgree (repacks_of repacks) (set_states item.Failed (writers (repacks_of p.repacks) js) (repacks_of p.repacks))) ended_is w.finished)

  repacks_stand : AreRepacks site (failed_entry h t m fault charged returned ∷ h) (repacks_of repacks)
  repacks_stand = calls_move_repacks site h (failed_entry h t m fault charged returned) (repacks_of p.repacks) (repacks_of repacks) legal w.kept.stand.space.repacks repacks_called

  -- ---- the buffer

  flags_set : HeldAgree c.held.value (set_all (is_safe site (failed_entry h t m fault charged returned ∷ h)) (job_files charged) p.buffer.held.value)
  flags_set =
      subst (λ (v : Held). HeldAgree c.held.value v)
      (flags_on (λ f. safe_in tapes.value (book_in book.value).archive f (copies_of_file site h f)) (is_safe site (failed_entry h t m fault charged returned ∷ h)) (job_files charged) p.buffer.held.value
      (λ f there. flag_is site h (failed_entry h t m fault charged returned) tapes.value book.value f legal table_stands book_stands (λ path. refl) (resident_parts h f (sym (held_is site h p.buffer.held.value f w.kept.stand.space.buffer) ∙ there)).0))
      w.flags

  touched : AreTouched site h (failed_entry h t m fault charged returned) (job_files charged)
  touched g = files_are g charged

  unpinned : AreUnpinned site h (failed_entry h t m fault charged returned) w.pins.outs
  unpinned g id here =
      w.pins.told g id
      ∙ ap (λ (b : Bool). b && not (is_pinned_by (repacks_of repacks) g id)) (pinned_is site h (repacks_of p.repacks) w.kept.stand.space.repacks g id)
      ∙ ap (λ (b : Bool). repack_pins_by site h g id && not b) (pinned_is site (failed_entry h t m fault charged returned ∷ h) (repacks_of repacks) repacks_stand g id)

  -- ---- failed copies

  lost_and : (one live last none : Bool) → one ≡ true → (none && (live && last)) ≡ (one && (live && (last && none)))
  lost_and true true true none e = by none
    where
      by : (b : Bool) → (b && true) ≡ b
      by true = refl
      by false = refl
  lost_and true true false none e = by none
    where
      by : (b : Bool) → (b && false) ≡ false
      by true = refl
      by false = refl
  lost_and true false last none e = by none
    where
      by : (b : Bool) → (b && false) ≡ false
      by true = refl
      by false = refl
  lost_and false live last none e = absurd (cc)

  failed_called : failures.value ≡ added_copies (filter (is_lost site h (failed m fault charged returned)) charged) p.failed.value
  failed_called =
      w.lost
      ∙ ap (λ (js : List Job). added_copies (jobs_unplaced p.tapes.value js) p.failed.value) ended_is
      ∙ ap (λ (js : List Job). added_copies js p.failed.value)
      (filter_both (λ (j : Job). is_none (place_in p.tapes.value j.file j.copy)) (λ j. is_live_job site h j && is_last_charge site h (failed m fault charged returned) j) charged
      ∙ filter_on (λ (j : Job). is_none (place_in p.tapes.value j.file j.copy) && (is_live_job site h j && is_last_charge site h (failed m fault charged returned) j)) (is_lost site h (failed m fault charged returned)) charged
      (λ j there.
      ap (λ (o : Option Place). is_none o && (is_live_job site h j && is_last_charge site h (failed m fault charged returned) j)) (w.kept.stand.space.tapes.places j.file j.copy)
      ∙ lost_and (nat_le 1 j.copy) (is_live_job site h j) (is_last_charge site h (failed m fault charged returned) j) (is_none (place_of h j.file j.copy)) (let low : 1 ≤ j.copy = (archive_way j.copy (writes j (in_front j charged returned there))).0 in grind (arith, low))))

  -- ---- all parts

  left_is : (y : Mount) → mount_of h m ≡ Some y → y.direction ≡ direction.Archive
  left_is y is = (let both : Some x ≡ Some y = sym w.mount ∙ is in let same : x ≡ y = cc in subst (λ (z : Mount). z.direction ≡ direction.Archive) same w.way)

  -- what was done is what the calls for the entry do
  pub written_called : AreKeptCalled site h (failed_entry h t m fault charged returned) p (record p { tapes = tapes; book = book; pools = pools; buffer = buffer; repacks = repacks; failed = failures })
  written_called = record {
    parts = record {
      space = record {
        names = λ path. refl;
        tapes = table_called;
        buffer = λ y is.
            subst (λ (d : Direction). JobsCalled site h (failed_entry h t m fault charged returned) (left_aside d p.buffer.held.value.aside (size_of_jobs h (charged ++ returned))) p.buffer.held.value buffer.held.value) (sym (left_is y is)) (
              job_files charged,
              w.pins.outs,
              touched,
              unpinned,
              both_agree (is_safe site (failed_entry h t m fault charged returned ∷ h)) (job_files charged) w.pins.outs p.buffer.held.value c.held.value buffer.held.value flags_set w.pins.held,
            );
        requests = subst (λ (fs : List ℕ). RequestsAgree p.requests (finish_all (moment_of h t) (recall_end site h (failed_entry h t m fault charged returned) (failed m fault charged returned)) (waiters site h p.requests fs) p.requests)) (sym no_recall) (λ id. refl);
        repacks = repacks_called;
      };
      jobs = record {
        book = book_called site h t m fault charged returned ended (jobs_in (values_of p)) p.book.value book.value w.failure w.kept.stand.jobs w.over resolved_by;
        pools = pools_called;
        recalls = tapes_called;
        counts = λ way vo. refl;
      };
      mounts = refl;
      downs = λ d. refl;
      failed = failed_called;
    };
    contents = λ g. ap (λ (xs : List (ℕ × Sum256)). content_in xs g) (w.still ∙ w.same);
    fit = record { tapes = w.sized ∙ w.kept.fit.tapes; pools = w.keys ∙ w.kept.fit.pools; recalls = w.kept.fit.recalls; vos = w.kept.fit.vos; drives = w.kept.fit.drives };
    named = w.named;
  }
