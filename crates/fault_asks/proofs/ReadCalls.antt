-- A Failed of a mount that reads, carried out on all parts.
use Rattle.std.proofs.Common.{◌≡◌, ◌∙◌, ◌+◌, ◌≤◌, ◌⊎◌, ℕ, suc, inl, inr, List, [], ◌∷◌, ◌++◌, length, Bool, true, false, not, refl, sym, ap, subst, arith}
use Rattle.std.specs.Prelude.{Option, Some, None, option_map, is_none, is_some, if◌then◌else◌, ◌&&◌, filter, map, nat_le}
use Rattle.std.proofs.lemmas.List.Elements.{filter-append}
use Rattle.blob.specs.declared.sum.Sum256.{Sum256}
use Rattle.cta_site.specs.declared.site.Site.{Site}
use Rattle.cta_site.specs.Listed.{rows}
use Rattle.cta_model.specs.declared.asks.Direction.{Direction}
use Rattle.cta_model.specs.declared.asks.Direction.TheVariants as direction
use Rattle.cta_model.specs.declared.asks.Fault.{Fault}
use Rattle.cta_model.specs.declared.asks.Job.{Job}
use Rattle.cta_model.specs.declared.reports.ItemState.TheVariants as item
use Rattle.cta_model.specs.declared.states.Mount.{Mount}
use Rattle.cta_model.specs.declared.states.Place.{Place}
use Rattle.cta_model.specs.Charges.{is_last_charge}
use Rattle.cta_model.specs.Files.{copies_of_file, is_live}
use Rattle.cta_model.specs.History.{History, has_number, is_number, moment_of}
use Rattle.cta_model.specs.Jobs.{is_live_job}
use Rattle.cta_model.specs.Mounts.{drive_by, has_job, mount_of, same_direction, tape_by}
use Rattle.cta_model.specs.Places.{place_of}
use Rattle.cta_model.specs.Queues.{direction_of, key_by, key_of}
use Rattle.cta_model.specs.Space.{is_safe}
use Rattle.cta_model.specs.Legal.{IsLegal}
use Rattle.cta_laws.specs.Claims.{size_of_jobs}
use Rattle.cta_laws.specs.Pins.{repack_pins_by}
use Rattle.cta_laws.proofs.JobFiles.{resident_parts}
use Rattle.cta_laws.proofs.Tests.{bool_cases}
use Rattle.part_model.specs.declared.space.Resident.{Resident}
use Rattle.part_model.specs.Failed.{added_copies}
use Rattle.part_model.specs.Held.{Held, HeldAgree, numbers, set_all}
use Rattle.part_model.specs.JobBook.{TellSame, charge_jobs, end_jobs, give_back_jobs}
use Rattle.part_model.specs.JobRows.{JobRows, book_in}
use Rattle.part_model.specs.Queues.{Lines, Queues, lines_in}
use Rattle.part_model.specs.Repacks.{RepacksAgree, set_states}
use Rattle.part_model.specs.Requests.{RequestsAgree, finish_all}
use Rattle.part_model.specs.Room.{Roomed}
use Rattle.part_model.specs.Tapes.{unclaimed_row}
use Rattle.part_laws.specs.QueueBooks.{IsBook}
use Rattle.part_laws.specs.Failed.{is_lost}
use Rattle.part_laws.specs.Lines.{add_jobs, line_of, of_way}
use Rattle.part_laws.proofs.LineSteps.{line_older}
use Rattle.part_laws.specs.JobParts.{still_live}
use Rattle.part_laws.specs.Books.{AreRepacks}
use Rattle.part_laws.specs.BookCalls.{jobs_failed, readers, recall_end, recalls_in, waiters, writers}
use Rattle.part_laws.specs.BufferCalls.{AreUnpinned, JobsCalled, left_aside}
use Rattle.part_laws.specs.Tapes.{IsTable}
use Rattle.part_laws.specs.TableCalls.{TurnedBy, TurnedThisWay}
use Rattle.part_laws.proofs.Flags.{flag_is_found}
use Rattle.part_laws.proofs.RepackCalls.{calls_move_repacks}
use Rattle.part_laws.proofs.TableMoves.{calls_move_table}
use Rattle.part_laws.proofs.Told.{held_is}
use Rattle.part_laws.specs.AllParts.{jobs_in}
use Rattle.repack_book.specs.NamedRepacks.{NamedRepacks, NamesAgree, repacks_of}
use Rattle.disk_buffer.specs.Stays.{content_in}
use Rattle.disk_buffer.specs.Stored.{Stored}
use Rattle.archive_parts.specs.Called.{AreKeptCalled}
use Rattle.archive_parts.specs.PartsKept.{values_of}
use Rattle.archive_parts.specs.declared.parts.ArchiveParts.{ArchiveParts}
use Rattle.job_book.specs.Live.{lives}
use Rattle.part_moves.specs.Flags.{job_files}
use Rattle.fault_asks.specs.Failing.{add_by, jobs_live}
use Rattle.part_moves.specs.Unpinned.{is_pinned_by}
use Rattle.fault_asks.proofs.Claimed.{IsClaimable, in_front}
use Rattle.fault_asks.proofs.EndedJobs.{book_called, ended_are, ended_has, files_are, filter_has, filter_on}
use Rattle.fault_asks.proofs.FailFacts.{failed, failed_entry, longer, sizes_both}
use Rattle.std.specs.Prelude.{◌-◌, ◌%◌, slice_get}
use Rattle.cta_model.specs.declared.states.Charge.{Charge}
use Rattle.cta_model.specs.Charges.{charges_of}
use Rattle.cta_model.specs.Buffer.{is_resident}
use Rattle.cta_model.specs.Jobs.{archive_after, archive_birth, live_birth}
use Rattle.cta_laws.proofs.Claims.{AllOf}
use Rattle.cta_model.specs.Mounts.{job_of}
use Rattle.cta_model.specs.Recalls.{Recall, live_recall, recall_job}
use Rattle.cta_model.specs.Space.{resident_files}
use Rattle.cta_model.specs.Stages.{charge_text, joined_texts, recall_error}
use Rattle.cta_laws.specs.Places.{PlacesAreOfCopies, PlacesAreOnSite}
use Rattle.cta_laws.proofs.JobFiles.{recall_absent}
use Rattle.part_model.specs.declared.space.FileEnd.TheVariants as ends
use Rattle.part_model.specs.Held.{unhold}
use Rattle.part_model.specs.Requests.{Requests}
use Rattle.part_model.specs.Tapes.{TablesAgree}
use Rattle.part_laws.proofs.FailSteps.{failed_charges}
use Rattle.tape_table.specs.Sources.{sources_in}
use Rattle.fault_asks.specs.declared.endings.Ending.{Ending}
use Rattle.fault_asks.specs.Reading.{ending_of, error_told, error_with, failed_all, pair_targets, source_in}
use Rattle.part_moves.specs.Waiting.{waits_for_all}
use Rattle.fault_asks.proofs.EndedFiles.{failed_are}
use Rattle.fault_asks.proofs.EndedRepacks.{failed_items, pins_stay}
use Rattle.fault_asks.proofs.ReadFacts.{IsRead, book_stands, copy_zero, job_way, known_job, reads_way, resolved_by}
use Rattle.fault_asks.proofs.RecallLists.{all_recalls, all_residents, file_there, live_there, numbers_all, set_again}
use Rattle.part_moves.proofs.Sources.{sources_are}
use Rattle.fault_asks.proofs.AddedLines.{all_way, by_both, by_jobs, by_same, none_way}
use Rattle.fault_asks.proofs.WrittenCalls.{flag_is}
use Rattle.part_moves.proofs.Charged.{few_copies, lives_is}
use Rattle.part_moves.proofs.HeldPins.{pinned_is}

-- ---- what was done to each part

-- what the calls for a Failed of a mount that reads have done, where mid are the queues with the returned recalls
pub record IsReadBack (site : Site) (h : History) (t m : ℕ) (fault : Fault) (charged returned ended : List Job) (x : Mount) (n at : ℕ) (pairs : List (ℕ × ℕ)) (endings : List Ending) (p : ArchiveParts) (buffer : Stored) (book : Roomed JobRows) (mid recalls : Roomed Queues) (repacks : NamedRepacks) (requests : Requests) : Type 0 where
  pub read : IsRead site h t m fault charged returned ended x p
  pub moment : at ≡ moment_of h t
  pub bytes : n ≡ size_of_jobs h charged + size_of_jobs h returned
  pub waits : pairs ≡ waits_for_all (book_in p.book.value).recall (job_files ended)
  pub told : endings ≡ map (ending_of site (book_in p.book.value) (record { drive = x.drive; tape = x.tape; fault = fault })) pairs
  pub free : HeldAgree buffer.held.value (unhold p.buffer.held.value n)
  pub still : buffer.contents ≡ p.buffer.contents
  pub resolved : TellSame (book_in book.value) (end_jobs ended (charge_jobs charged (record { drive = x.drive; tape = x.tape; fault = fault }) (give_back_jobs (charged ++ returned) (book_in p.book.value))))
  pub others : (k : ℕ) → lines_in mid.value k ≡ add_by (source_in p.tapes.value (book_in book.value)) (line_of site h direction.Retrieve) (jobs_live (book_in book.value) returned) (lines_in p.recalls.value) k
  pub back : (k : ℕ) → lines_in recalls.value k ≡ add_by (source_in p.tapes.value (book_in book.value)) (line_of site h direction.Retrieve) (jobs_live (book_in book.value) charged) (lines_in mid.value) k
  pub keys : length recalls.value ≡ length p.recalls.value
  pub failed : RepacksAgree (repacks_of repacks) (set_states item.Failed (pair_targets pairs) (repacks_of p.repacks))
  pub named : NamesAgree repacks p.repacks
  pub files : RequestsAgree requests (failed_all at endings p.requests)

module _ (of_copies : PlacesAreOfCopies) (on_site : PlacesAreOnSite) (site : Site) (h : History) (t m : ℕ) (fault : Fault) (charged returned ended : List Job) (x : Mount) (n at : ℕ) (pairs : List (ℕ × ℕ)) (endings : List Ending) (p : ArchiveParts) (buffer : Stored) (book : Roomed JobRows) (mid recalls : Roomed Queues) (repacks : NamedRepacks) (requests : Requests)
    (w : IsReadBack site h t m fault charged returned ended x n at pairs endings p buffer book mid recalls repacks requests) where
  legal : IsLegal site (failed_entry h t m fault charged returned ∷ h)
  legal = longer site h t m fault charged returned w.read.failure

  stands : IsBook site (failed_entry h t m fault charged returned ∷ h) (book_in book.value)
  stands = book_stands site h t m fault charged returned ended x p w.read book.value w.resolved

  ended_is : ended ≡ jobs_failed site h (failed m fault charged returned)
  ended_is = w.read.over ∙ ended_are site h t m fault charged returned p.book.value w.read.failure w.read.kept.stand.jobs.book

  ended_one : (j : Job) → has_job j ended ≡ true → (has_job j charged ≡ true) × (is_live_job site h j ≡ true)
  ended_one j there = ended_has site h t m fault charged returned p.book.value w.read.failure w.read.kept.stand.jobs.book j (subst (λ (js : List Job). has_job j js ≡ true) w.read.over there)

  ended_zero : (j : Job) → has_job j ended ≡ true → j.copy ≡ 0
  ended_zero j there = copy_zero site h t m fault charged returned ended x p w.read j (in_front j charged returned (ended_one j there).0)

  files_are_recalls : recalls_in (jobs_failed site h (failed m fault charged returned)) ≡ job_files ended
  files_are_recalls = ap recalls_in (sym ended_is) ∙ all_recalls ended ended_zero

  -- a file whose recall ends has the recall of a charged job
  recall_ends : (f : ℕ) → has_number f (job_files ended) ≡ true → (r : Recall) × (live_recall site h f ≡ Some r) × (has_job (recall_job r.birth f) charged ≡ true)
  recall_ends f there =
      let j = file_there f ended there in
      let one = ended_one j.0 j.1 in
      let live : is_number j.0.birth (live_birth site h f 0) ≡ true = ap (λ (c : ℕ). is_number j.0.birth (live_birth site h f c)) (sym (ended_zero j.0 j.1)) ∙ ap (λ (g : ℕ). is_number j.0.birth (live_birth site h g j.0.copy)) (sym j.2) ∙ one.1 in
      let r = live_there j.0.birth (live_recall site h f) live in
      let job : recall_job r.0.birth f ≡ j.0 = ap (λ (b : ℕ). recall_job b f) r.2 ∙ ap (λ (g : ℕ). recall_job j.0.birth g) (sym j.2) ∙ ap (λ (c : ℕ). job_of j.0.birth j.0.file c) (sym (ended_zero j.0 j.1)) in
      (r.0, r.1, ap (λ (i : Job). has_job i charged) job ∙ one.0)

  -- ---- the table

  same_table : TablesAgree p.tapes.value p.tapes.value
  same_table = record { rows = λ t. refl; places = λ f c. refl; distinct = w.read.kept.stand.space.tapes.distinct }

  reads_all : (y : Mount) → mount_of h m ≡ Some y → y.direction ≡ direction.Retrieve
  reads_all y is = (let both : Some x ≡ Some y = sym w.read.mount ∙ is in let same : x ≡ y = cc in subst (λ (z : Mount). z.direction ≡ direction.Retrieve) same (reads_way site h t m fault charged returned ended x p w.read))

  table_called : (y : Mount) → mount_of h m ≡ Some y → TurnedBy y (unclaimed_row (size_of_jobs h (charged ++ returned))) p.tapes.value p.tapes.value
  table_called y is = by y.direction (reads_all y is)
    where
      by : (d : Direction) → d ≡ direction.Retrieve → TurnedThisWay d y.tape (unclaimed_row (size_of_jobs h (charged ++ returned))) p.tapes.value p.tapes.value
      by direction.Retrieve e = same_table
      by direction.Archive e = absurd (cc)

  table_stands : IsTable site (failed_entry h t m fault charged returned ∷ h) p.tapes.value
  table_stands = calls_move_table site h (failed_entry h t m fault charged returned) p.tapes.value p.tapes.value legal w.read.kept.stand.space.tapes table_called

  -- ---- queues

  live_same : (js : List Job) → jobs_live (book_in book.value) js ≡ still_live site (failed_entry h t m fault charged returned ∷ h) js
  live_same js = filter_on (λ j. lives j (book_in book.value)) (is_live_job site (failed_entry h t m fault charged returned ∷ h)) js (λ j there. lives_is site (failed_entry h t m fault charged returned ∷ h) book.value j stands)

  live_both : jobs_live (book_in book.value) charged ++ jobs_live (book_in book.value) returned ≡ still_live site (failed_entry h t m fault charged returned ∷ h) (charged ++ returned)
  live_both = sym (filter-append (λ j. lives j (book_in book.value)) charged returned) ∙ live_same (charged ++ returned)

  back_has : (j : Job) → has_job j (still_live site (failed_entry h t m fault charged returned ∷ h) (charged ++ returned)) ≡ true → has_job j (charged ++ returned) ≡ true
  back_has j there = (filter_has (is_live_job site (failed_entry h t m fault charged returned ∷ h)) j (charged ++ returned) there).0

  same_way : (way : Direction) → way ≡ direction.Retrieve → (same_direction direction.Retrieve way ≡ true) × (same_direction direction.Archive way ≡ false)
  same_way direction.Retrieve e = (refl, refl)
  same_way direction.Archive e = absurd (cc)

  key_is : (j : Job) → j.copy ≡ 0 → source_in p.tapes.value (book_in book.value) j ≡ key_of site (failed_entry h t m fault charged returned ∷ h) j
  key_is j zero_copy =
      ap (λ (cs : List Charge). option_map (λ (q : Place). q.tape) (slice_get (sources_in p.tapes.value j.file) (length cs % length (sources_in p.tapes.value j.file)))) (stands.charges j)
      ∙ ap (λ (xs : List Place). option_map (λ (q : Place). q.tape) (slice_get xs (length (charges_of (failed_entry h t m fault charged returned ∷ h) j) % length xs)))
      (sym (sources_are of_copies on_site site (failed_entry h t m fault charged returned ∷ h) p.tapes.value j.file legal table_stands (few_copies site (failed_entry h t m fault charged returned ∷ h) j.file w.read.classes)))
      ∙ ap (λ (c : ℕ). key_by c site (failed_entry h t m fault charged returned ∷ h) j) (sym zero_copy)

  tapes_called : (k : ℕ) → lines_in recalls.value k ≡ add_jobs site (failed_entry h t m fault charged returned ∷ h) direction.Retrieve (of_way direction.Retrieve (still_live site (failed_entry h t m fault charged returned ∷ h) (charged ++ returned))) (lines_in p.recalls.value) k
  tapes_called k =
      w.back k
      ∙ by_same (source_in p.tapes.value (book_in book.value)) (line_of site h direction.Retrieve) (jobs_live (book_in book.value) charged) (lines_in mid.value) (add_by (source_in p.tapes.value (book_in book.value)) (line_of site h direction.Retrieve) (jobs_live (book_in book.value) returned) (lines_in p.recalls.value)) k (w.others k)
      ∙ ap (λ (ls : Lines). ls k) (by_both (source_in p.tapes.value (book_in book.value)) (line_of site h direction.Retrieve) (jobs_live (book_in book.value) charged) (jobs_live (book_in book.value) returned) (lines_in p.recalls.value))
      ∙ ap (λ (js : List Job). add_by (source_in p.tapes.value (book_in book.value)) (line_of site h direction.Retrieve) js (lines_in p.recalls.value) k) live_both
      ∙ ap (λ (ls : Lines). ls k) (by_jobs site (failed_entry h t m fault charged returned ∷ h) direction.Retrieve (source_in p.tapes.value (book_in book.value)) (line_of site h direction.Retrieve) (still_live site (failed_entry h t m fault charged returned ∷ h) (charged ++ returned)) (lines_in p.recalls.value)
      (λ j there. (let known : IsClaimable site h j = known_job site h t m fault charged returned ended x p w.read j (back_has j there) in
      (key_is j (copy_zero site h t m fault charged returned ended x p w.read j (back_has j there)), sym (line_older site (failed_entry h t m fault charged returned) h direction.Retrieve j known.low known.birth)))))
      ∙ ap (λ (js : List Job). add_jobs site (failed_entry h t m fault charged returned ∷ h) direction.Retrieve js (lines_in p.recalls.value) k)
      (sym (all_way direction.Retrieve (still_live site (failed_entry h t m fault charged returned ∷ h) (charged ++ returned)) (λ j there. (same_way (direction_of j) (job_way site h t m fault charged returned ended x p w.read j (back_has j there))).0)))

  pools_called : (k : ℕ) → lines_in p.pools.value k ≡ add_jobs site (failed_entry h t m fault charged returned ∷ h) direction.Archive (of_way direction.Archive (still_live site (failed_entry h t m fault charged returned ∷ h) (charged ++ returned))) (lines_in p.pools.value) k
  pools_called k =
      ap (λ (js : List Job). add_jobs site (failed_entry h t m fault charged returned ∷ h) direction.Archive js (lines_in p.pools.value) k)
      (sym (none_way direction.Archive (still_live site (failed_entry h t m fault charged returned ∷ h) (charged ++ returned)) (λ j there. (same_way (direction_of j) (job_way site h t m fault charged returned ended x p w.read j (back_has j there))).1)))

  -- ---- requests

  error_is : (f : ℕ) → has_number f (job_files ended) ≡ true
      → ends.Failed (error_told site (book_in p.book.value) (record { drive = x.drive; tape = x.tape; fault = fault }) f) ≡ recall_end site h (failed_entry h t m fault charged returned) (failed m fault charged returned) f
  error_is f there =
      let r = recall_ends f there in
      let more : charges_of (failed_entry h t m fault charged returned ∷ h) (recall_job r.0.birth f) ≡ charges_of h (recall_job r.0.birth f) ++ record { drive = drive_by (mount_of h m); tape = tape_by (mount_of h m); fault = fault } ∷ [] =
      failed_charges (failed_entry h t m fault charged returned) h m fault (rows charged) (rows returned) (recall_job r.0.birth f) refl ∙ ap (λ (b : Bool). if b then charges_of h (recall_job r.0.birth f) ++ record { drive = drive_by (mount_of h m); tape = tape_by (mount_of h m); fault = fault } ∷ [] else charges_of h (recall_job r.0.birth f)) r.2 in
      let now : ◌≡◌ {A = List Charge} ((book_in p.book.value).charges (recall_job r.0.birth f) ++ record { drive = x.drive; tape = x.tape; fault = fault } ∷ []) (charges_of (failed_entry h t m fault charged returned ∷ h) (recall_job r.0.birth f)) =
      ap (λ (cs : List Charge). cs ++ record { drive = x.drive; tape = x.tape; fault = fault } ∷ []) (w.read.kept.stand.jobs.book.charges (recall_job r.0.birth f))
      ∙ ap (λ (d : ℕ). charges_of h (recall_job r.0.birth f) ++ record { drive = d; tape = x.tape; fault = fault } ∷ []) (sym (ap drive_by w.read.mount))
      ∙ ap (λ (v : ℕ). charges_of h (recall_job r.0.birth f) ++ record { drive = drive_by (mount_of h m); tape = v; fault = fault } ∷ []) (sym (ap tape_by w.read.mount))
      ∙ sym more in
      ap (λ (ts : List ℕ). ends.Failed ts)
      (ap (error_with site (book_in p.book.value) (record { drive = x.drive; tape = x.tape; fault = fault }) f) (w.read.kept.stand.jobs.book.recall f ∙ r.1)
      ∙ ap (λ (cs : List Charge). joined_texts (map (charge_text site) cs)) now
      ∙ ap (recall_error site (failed_entry h t m fault charged returned ∷ h) f) (sym r.1))

  requests_called : RequestsAgree requests (finish_all (moment_of h t) (recall_end site h (failed_entry h t m fault charged returned) (failed m fault charged returned)) (waiters site h p.requests (recalls_in (jobs_failed site h (failed m fault charged returned)))) p.requests)
  requests_called =
      subst (λ (fs : List ℕ). RequestsAgree requests (finish_all (moment_of h t) (recall_end site h (failed_entry h t m fault charged returned) (failed m fault charged returned)) (waiters site h p.requests fs) p.requests)) (sym files_are_recalls)
      (failed_are site h (book_in p.book.value) (record { drive = x.drive; tape = x.tape; fault = fault }) (moment_of h t) (recall_end site h (failed_entry h t m fault charged returned) (failed m fault charged returned)) pairs (job_files ended) p.requests requests w.read.kept.stand.jobs.book.recall w.waits error_is
      (subst (λ (k : ℕ). RequestsAgree requests (failed_all k (map (ending_of site (book_in p.book.value) (record { drive = x.drive; tape = x.tape; fault = fault })) pairs) p.requests)) w.moment
      (subst (λ (es : List Ending). RequestsAgree requests (failed_all at es p.requests)) w.told w.files)))

  -- ---- repacks

  failed_pairs : RepacksAgree (repacks_of repacks) (set_states item.Failed (pair_targets (waits_for_all (book_in p.book.value).recall (job_files ended))) (repacks_of p.repacks))
  failed_pairs = subst (λ (xs : List (ℕ × ℕ)). RepacksAgree (repacks_of repacks) (set_states item.Failed (pair_targets xs) (repacks_of p.repacks))) w.waits w.failed

  all_live : (f : ℕ) → has_number f (job_files ended) ≡ true → is_some (live_recall site h f) ≡ true
  all_live f there = ap is_some (recall_ends f there).1

  few : (f : ℕ) → copies_of_file site h f ≤ 4
  few f = few_copies site h f w.read.classes

  repacks_called : RepacksAgree (repacks_of repacks) (set_states item.Failed (writers (repacks_of p.repacks) (jobs_failed site h (failed m fault charged returned))) (set_states item.Failed (readers site h (repacks_of p.repacks) (recalls_in (jobs_failed site h (failed m fault charged returned)))) (repacks_of p.repacks)))
  repacks_called =
      subst (λ (fs : List ℕ). RepacksAgree (repacks_of repacks) (set_states item.Failed (writers (repacks_of p.repacks) (jobs_failed site h (failed m fault charged returned))) (set_states item.Failed (readers site h (repacks_of p.repacks) fs) (repacks_of p.repacks)))) (sym files_are_recalls)
      (subst (λ (js : List Job). RepacksAgree (repacks_of repacks) (set_states item.Failed (writers (repacks_of p.repacks) js) (set_states item.Failed (readers site h (repacks_of p.repacks) (job_files ended)) (repacks_of p.repacks)))) ended_is
      (failed_items site h (repacks_of p.repacks) (book_in p.book.value).recall (job_files ended) ended w.read.failure.legal w.read.kept.stand.space.repacks few w.read.kept.stand.jobs.book.recall all_live ended_zero (repacks_of repacks) failed_pairs))

  repacks_stand : AreRepacks site (failed_entry h t m fault charged returned ∷ h) (repacks_of repacks)
  repacks_stand = calls_move_repacks site h (failed_entry h t m fault charged returned) (repacks_of p.repacks) (repacks_of repacks) legal w.read.kept.stand.space.repacks repacks_called

  -- ---- the buffer

  not_among : (f : ℕ) → is_resident h f ≡ true → has_number f (job_files ended) ≡ false
  not_among f here = by (bool_cases (has_number f (job_files ended)))
    where
      by : (has_number f (job_files ended) ≡ true) ⊎ (has_number f (job_files ended) ≡ false) → has_number f (job_files ended) ≡ false
      by (inr none) = none
      by (inl there) = (let away : is_resident h f ≡ false = recall_absent site h w.read.failure.legal f (all_live f there) in absurd (cc))

  unpinned : AreUnpinned site h (failed_entry h t m fault charged returned) []
  unpinned g id here =
      let stays : is_pinned_by (repacks_of repacks) g id ≡ is_pinned_by (repacks_of p.repacks) g id =
      pins_stay site h (repacks_of p.repacks) (book_in p.book.value).recall (job_files ended) ended w.read.failure.legal w.read.kept.stand.space.repacks few w.read.kept.stand.jobs.book.recall all_live ended_zero (repacks_of repacks) failed_pairs g id (not_among g here) in
      let was = pinned_is site h (repacks_of p.repacks) w.read.kept.stand.space.repacks g id in
      let is = pinned_is site (failed_entry h t m fault charged returned ∷ h) (repacks_of repacks) repacks_stand g id in
      sym (ap (λ (b : Bool). repack_pins_by site h g id && not b) (sym is ∙ stays ∙ was) ∙ none (repack_pins_by site h g id))
    where
      none : (b : Bool) → (b && not b) ≡ false
      none true = refl
      none false = refl

  -- no archive job ends
  archive_same : (f c : ℕ) → archive_birth site (failed_entry h t m fault charged returned ∷ h) f (suc c) ≡ archive_birth site h f (suc c)
  archive_same f c = by (archive_birth site h f (suc c))
    where
      not_charged : (b : ℕ) → has_job (job_of b f (suc c)) charged ≡ false
      not_charged b = one (bool_cases (has_job (job_of b f (suc c)) charged))
        where
          one : (has_job (job_of b f (suc c)) charged ≡ true) ⊎ (has_job (job_of b f (suc c)) charged ≡ false) → has_job (job_of b f (suc c)) charged ≡ false
          one (inr none) = none
          one (inl there) = (let bad : suc c ≡ 0 = copy_zero site h t m fault charged returned ended x p w.read (job_of b f (suc c)) (in_front (job_of b f (suc c)) charged returned there) in absurd (omega (arith, bad)))

      by : (o : Option ℕ) → archive_after site h (failed_entry h t m fault charged returned) f (suc c) o ≡ o
      by None = refl
      by (Some b) = ap (λ (x : Bool). if x && nat_le site.limits.tries (length (charges_of h (job_of b f (suc c))) + 1) then None else Some b) (not_charged b)

  safe_same : (f : ℕ) → is_resident h f ≡ true → is_safe site h f ≡ is_safe site (failed_entry h t m fault charged returned ∷ h) f
  safe_same f here =
      let live : is_live h f ≡ true = (resident_parts h f here).0 in
      flag_is_found site h p.tapes.value (book_in book.value).archive f w.read.failure.legal w.read.kept.stand.space.tapes live (λ c. stands.archive f c ∙ archive_same f c)
      ∙ flag_is site h (failed_entry h t m fault charged returned) p.tapes.value book.value f legal table_stands stands (λ path. refl) live

  flags_stay : set_all (is_safe site (failed_entry h t m fault charged returned ∷ h)) (job_files charged) p.buffer.held.value ≡ p.buffer.held.value
  flags_stay =
      set_again (is_safe site (failed_entry h t m fault charged returned ∷ h)) (job_files charged) p.buffer.held.value
      (subst (λ (rs : List Resident). AllOf (λ (r : Resident). r.safe ≡ is_safe site (failed_entry h t m fault charged returned ∷ h) r.file) rs) (sym w.read.kept.stand.space.buffer.files)
      (all_residents site h (is_safe site (failed_entry h t m fault charged returned ∷ h)) (resident_files h)
      (λ f there. safe_same f (sym (held_is site h p.buffer.held.value f w.read.kept.stand.space.buffer) ∙ ap (λ (rs : List Resident). has_number f (numbers rs)) w.read.kept.stand.space.buffer.files ∙ ap (has_number f) (numbers_all site h (resident_files h)) ∙ there))))

  held_called : HeldAgree buffer.held.value (record (set_all (is_safe site (failed_entry h t m fault charged returned ∷ h)) (job_files charged) p.buffer.held.value) { aside = p.buffer.held.value.aside - size_of_jobs h (charged ++ returned) })
  held_called =
      subst (λ (v : Held). HeldAgree buffer.held.value (record v { aside = p.buffer.held.value.aside - size_of_jobs h (charged ++ returned) })) (sym flags_stay)
      (subst (λ (k : ℕ). HeldAgree buffer.held.value (unhold p.buffer.held.value k)) (w.bytes ∙ sym (sizes_both h charged returned)) w.free)

  -- ---- failed copies

  none_lost : filter (is_lost site h (failed m fault charged returned)) charged ≡ []
  none_lost =
      filter_on (is_lost site h (failed m fault charged returned)) (λ j. false) charged
      (λ j there. (let none : j.copy ≡ 0 = copy_zero site h t m fault charged returned ended x p w.read j (in_front j charged returned there) in
      ap (λ (c : ℕ). nat_le 1 c && (is_live_job site h j && (is_last_charge site h (failed m fault charged returned) j && is_none (place_of h j.file j.copy)))) none))
      ∙ nothing charged
    where
      nothing : (xs : List Job) → filter (λ (j : Job). false) xs ≡ []
      nothing [] = refl
      nothing (x ∷ xs) = nothing xs

  -- ---- all parts

  -- what was done is what the calls for the entry do
  pub read_called : AreKeptCalled site h (failed_entry h t m fault charged returned) p (record p { buffer = buffer; book = book; recalls = recalls; repacks = repacks; requests = requests })
  read_called = record {
    parts = record {
      space = record {
        names = λ path. refl;
        tapes = table_called;
        buffer = λ y is.
            subst (λ (d : Direction). JobsCalled site h (failed_entry h t m fault charged returned) (left_aside d p.buffer.held.value.aside (size_of_jobs h (charged ++ returned))) p.buffer.held.value buffer.held.value) (sym (reads_all y is))
            (job_files charged, [], (λ g. files_are g charged), unpinned, held_called);
        requests = requests_called;
        repacks = repacks_called;
      };
      jobs = record {
        book = book_called site h t m fault charged returned ended (jobs_in (values_of p)) p.book.value book.value w.read.failure w.read.kept.stand.jobs w.read.over (resolved_by site h t m fault charged returned ended x p w.read book.value w.resolved);
        pools = pools_called;
        recalls = tapes_called;
        counts = λ way vo. refl;
      };
      mounts = refl;
      downs = λ d. refl;
      failed = sym (ap (λ (js : List Job). added_copies js p.failed.value) none_lost);
    };
    contents = λ g. ap (λ (xs : List (ℕ × Sum256)). content_in xs g) w.still;
    fit = record { tapes = w.read.kept.fit.tapes; pools = w.read.kept.fit.pools; recalls = w.keys ∙ w.read.kept.fit.recalls; vos = w.read.kept.fit.vos; drives = w.read.kept.fit.drives };
    named = w.named;
  }
