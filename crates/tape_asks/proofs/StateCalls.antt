-- A TapeState, carried out on all parts.
use Rattle.std.proofs.Common.{◌≡◌, ◌∙◌, ℕ, List, [], ◌∷◌, length, true, refl, sym, ap, subst}
use Rattle.std.specs.Prelude.{◌==◌, codes}
use Rattle.std.specs.List.{list_any}
use Rattle.blob.specs.declared.sum.Sum256.{Sum256}
use Rattle.cta_site.specs.declared.site.Site.{Site}
use Rattle.cta_site.specs.declared.site.TapeState.{TapeState}
use Rattle.cta_model.specs.declared.answers.Answer.TheVariants as answer
use Rattle.cta_model.specs.declared.asks.Direction.{Direction}
use Rattle.cta_model.specs.declared.asks.Direction.TheVariants as direction
use Rattle.cta_model.specs.declared.asks.Job.{Job}
use Rattle.cta_model.specs.declared.asks.Who.{Who}
use Rattle.cta_model.specs.declared.reports.ItemState.TheVariants as item
use Rattle.cta_model.specs.Files.{copies_of_file}
use Rattle.cta_model.specs.History.{History, is_empty, moment_of}
use Rattle.cta_model.specs.Jobs.{is_live_job}
use Rattle.cta_model.specs.Legal.{IsLegal}
use Rattle.cta_model.specs.Mounts.{has_job, same_direction}
use Rattle.cta_model.specs.Places.{places_of}
use Rattle.cta_model.specs.Queues.{direction_of}
use Rattle.cta_model.specs.Recalls.{live_recall}
use Rattle.cta_model.specs.Space.{is_safe}
use Rattle.cta_laws.specs.Places.{PlacesAreOfCopies, PlacesAreOnSite}
use Rattle.cta_laws.proofs.JobFiles.{resident_parts}
use Rattle.cta_laws.proofs.RepackedCopies.{repacked_file}
use Rattle.part_model.specs.declared.space.FileEnd.TheVariants as ends
use Rattle.part_model.specs.Held.{Held, HeldAgree, set_all}
use Rattle.part_model.specs.JobBook.{TellSame, end_jobs}
use Rattle.part_model.specs.JobRows.{JobRows, book_in}
use Rattle.part_model.specs.Queues.{Lines, Queues, drop_jobs, lines_in}
use Rattle.part_model.specs.Repacks.{RepacksAgree, set_states}
use Rattle.part_model.specs.Requests.{Requests, RequestsAgree, finish_all}
use Rattle.part_model.specs.Room.{Roomed}
use Rattle.part_model.specs.Tapes.{HasTurned, Table, row_in_state, safe_in}
use Rattle.part_laws.specs.QueueBooks.{IsBook, book_of}
use Rattle.part_laws.specs.Lines.{add_jobs, line_of, of_way}
use Rattle.part_laws.proofs.LineSteps.{line_older}
use Rattle.part_laws.specs.AllAsks.{parts_after}
use Rattle.part_laws.specs.JobParts.{JobPartsStand, still_live}
use Rattle.part_laws.specs.StateLists.{ended_recalls, moved_recalls, recalls_on}
use Rattle.part_laws.proofs.AllAsks.{job_parts_move}
use Rattle.part_laws.proofs.BookSteps.{tell_chain}
use Rattle.part_laws.proofs.PartSteps.{filter_on}
use Rattle.part_laws.specs.BookCalls.{files_lost, readers, waiters, writers}
use Rattle.part_laws.specs.BufferCalls.{AreTouched}
use Rattle.part_laws.specs.Tapes.{IsTable}
use Rattle.part_laws.proofs.TableMoves.{calls_move_table}
use Rattle.part_laws.proofs.Told.{held_is}
use Rattle.part_laws.specs.AllParts.{jobs_in}
use Rattle.repack_book.specs.NamedRepacks.{NamedRepacks, NamesAgree, repacks_of}
use Rattle.disk_buffer.specs.Stays.{content_in}
use Rattle.disk_buffer.specs.Stored.{Stored}
use Rattle.archive_parts.specs.Called.{AreKeptCalled}
use Rattle.archive_parts.specs.PartsKept.{values_of}
use Rattle.archive_parts.specs.declared.parts.ArchiveParts.{ArchiveParts}
use Rattle.job_book.specs.Live.{lives}
use Rattle.part_moves.specs.Flags.{job_files}
use Rattle.fault_asks.specs.Failing.{add_by, jobs_live}
use Rattle.fault_asks.specs.Reading.{pair_targets, source_in}
use Rattle.part_moves.specs.Waiting.{waits_for_all}
use Rattle.fault_asks.proofs.AddedLines.{all_way, by_jobs, by_same}
use Rattle.fault_asks.proofs.Claimed.{IsClaimable}
use Rattle.fault_asks.proofs.EndedJobs.{filter_has}
use Rattle.fault_asks.proofs.EndedRepacks.{failed_items}
use Rattle.part_moves.proofs.Sources.{places_are}
use Rattle.fault_asks.proofs.WrittenCalls.{flag_is, flags_on}
use Rattle.tape_asks.specs.declared.found.Found.{Found}
use Rattle.tape_asks.specs.Losses.{is_lost_in}
use Rattle.tape_asks.specs.Takings.{IsFound}
use Rattle.tape_asks.proofs.LostFiles.{file_among, lost_files, lost_is, lost_live, waiting_fail}
use Rattle.tape_asks.proofs.StateFacts.{IsChange, longer, moved_known, moved_way, moved_zero, source_is, turned, turned_entry}
use Rattle.part_moves.proofs.Charged.{few_copies, lives_is}

-- what the calls for a TapeState have done, where mid are the queues that the recalls have left
pub record IsTurnedBack (site : Site) (h : History) (t : ℕ) (who : Who) (v : ℕ) (s : TapeState) (at : ℕ) (x : Found) (p : ArchiveParts) (mid recalls : Roomed Queues) (tapes : Roomed Table) (book : Roomed JobRows) (repacks : NamedRepacks) (requests : Requests) (buffer : Stored) : Type 0 where
  pub change : IsChange site h t who v s p
  pub moment : at ≡ moment_of h t
  pub found : IsFound site h p.tapes.value v s x
  pub away : (k : ℕ) → lines_in mid.value k ≡ drop_jobs x.moved.items (lines_in p.recalls.value) k
  pub stated : HasTurned v (row_in_state s) p.tapes.value tapes.value
  pub sized : length tapes.value.rows ≡ length p.tapes.value.rows
  pub ended : TellSame (book_in book.value) (end_jobs x.ended.items (book_in p.book.value))
  pub back : (k : ℕ) → lines_in recalls.value k ≡ add_by (source_in tapes.value (book_in book.value)) (line_of site h direction.Retrieve) (jobs_live (book_in book.value) x.moved.items) (lines_in mid.value) k
  pub keys : length recalls.value ≡ length p.recalls.value
  pub failed : RepacksAgree (repacks_of repacks) (set_states item.Failed (pair_targets x.waiters.items) (repacks_of p.repacks))
  pub named : NamesAgree repacks p.repacks
  pub files : RequestsAgree requests (finish_all at (λ f. ends.Failed (codes "no tape is left")) x.waiters.items p.requests)
  pub flags : HeldAgree buffer.held.value (set_all (λ f. safe_in tapes.value (book_in book.value).archive f (copies_of_file site h f)) (job_files x.items.items) p.buffer.held.value)
  pub still : buffer.contents ≡ p.buffer.contents

module _ (of_copies : PlacesAreOfCopies) (on_site : PlacesAreOnSite) (site : Site) (h : History) (t : ℕ) (who : Who) (v : ℕ) (s : TapeState) (at : ℕ) (x : Found) (p : ArchiveParts) (mid recalls : Roomed Queues) (tapes : Roomed Table) (book : Roomed JobRows) (repacks : NamedRepacks) (requests : Requests) (buffer : Stored)
    (w : IsTurnedBack site h t who v s at x p mid recalls tapes book repacks requests buffer) where
  legal : IsLegal site (turned_entry h t who v s ∷ h)
  legal = longer site h t who v s p w.change

  -- ---- the table

  table_stands : IsTable site (turned_entry h t who v s ∷ h) tapes.value
  table_stands = calls_move_table site h (turned_entry h t who v s) p.tapes.value tapes.value legal w.change.kept.stand.space.tapes w.stated

  lost_place : (f : ℕ) → is_lost_in p.tapes.value v s f ≡ is_empty (places_of site (turned_entry h t who v s ∷ h) f)
  lost_place f =
      sym (ap is_empty (places_are of_copies on_site site (turned_entry h t who v s ∷ h) tapes.value f legal table_stands (few_copies site (turned_entry h t who v s ∷ h) f w.change.classes))
      ∙ lost_is v s p.tapes.value tapes.value w.stated f)

  ended_is : x.ended.items ≡ ended_recalls site h (turned_entry h t who v s) v
  ended_is = w.found.ended ∙ filter_on (λ (j : Job). is_lost_in p.tapes.value v s j.file) (λ (j : Job). is_empty (places_of site (turned_entry h t who v s ∷ h) j.file)) (recalls_on site h v) (λ j there. lost_place j.file)

  -- ---- the book

  jobs_stand : JobPartsStand site (turned_entry h t who v s ∷ h) (parts_after site h (turned_entry h t who v s) (turned who v s) answer.Done (jobs_in (values_of p)))
  jobs_stand = job_parts_move site h (turned_entry h t who v s) (jobs_in (values_of p)) legal w.change.kept.stand.jobs

  book_called : TellSame (book_in book.value) (end_jobs (ended_recalls site h (turned_entry h t who v s) v) (book_in p.book.value))
  book_called = subst (λ (js : List Job). TellSame (book_in book.value) (end_jobs js (book_in p.book.value))) ended_is w.ended

  book_stands : IsBook site (turned_entry h t who v s ∷ h) (book_in book.value)
  book_stands = tell_chain (book_in book.value) _ (book_of site (turned_entry h t who v s ∷ h)) book_called jobs_stand.book

  -- ---- queues

  live_same : (js : List Job) → jobs_live (book_in book.value) js ≡ still_live site (turned_entry h t who v s ∷ h) js
  live_same js = filter_on (λ j. lives j (book_in book.value)) (is_live_job site (turned_entry h t who v s ∷ h)) js (λ j there. lives_is site (turned_entry h t who v s ∷ h) book.value j book_stands)

  still_has : (j : Job) → has_job j (still_live site (turned_entry h t who v s ∷ h) x.moved.items) ≡ true → has_job j (moved_recalls site h v) ≡ true
  still_has j there = subst (λ (js : List Job). has_job j js ≡ true) w.found.moved (filter_has (is_live_job site (turned_entry h t who v s ∷ h)) j x.moved.items there).0

  goes_back : (way : Direction) → way ≡ direction.Retrieve → same_direction direction.Retrieve way ≡ true
  goes_back direction.Retrieve e = refl
  goes_back direction.Archive e = absurd (cc)

  tapes_moved : (k : ℕ) → lines_in recalls.value k ≡ add_jobs site (turned_entry h t who v s ∷ h) direction.Retrieve (of_way direction.Retrieve (still_live site (turned_entry h t who v s ∷ h) x.moved.items)) (drop_jobs x.moved.items (lines_in p.recalls.value)) k
  tapes_moved k =
      w.back k
      ∙ by_same (source_in tapes.value (book_in book.value)) (line_of site h direction.Retrieve) (jobs_live (book_in book.value) x.moved.items) (lines_in mid.value) (drop_jobs x.moved.items (lines_in p.recalls.value)) k (w.away k)
      ∙ ap (λ (js : List Job). add_by (source_in tapes.value (book_in book.value)) (line_of site h direction.Retrieve) js (drop_jobs x.moved.items (lines_in p.recalls.value)) k) (live_same x.moved.items)
      ∙ ap (λ (ls : Lines). ls k) (by_jobs site (turned_entry h t who v s ∷ h) direction.Retrieve (source_in tapes.value (book_in book.value)) (line_of site h direction.Retrieve) (still_live site (turned_entry h t who v s ∷ h) x.moved.items) (drop_jobs x.moved.items (lines_in p.recalls.value))
      (λ j there. (let known : IsClaimable site h j = moved_known site h t who v s p w.change j (still_has j there) in (
        source_is of_copies on_site site (turned_entry h t who v s ∷ h) tapes.value (book_in book.value) j w.change.classes legal table_stands book_stands (moved_zero site h t who v s p w.change j (still_has j there)),
        sym (line_older site (turned_entry h t who v s) h direction.Retrieve j known.low known.birth),
      ))))
      ∙ ap (λ (js : List Job). add_jobs site (turned_entry h t who v s ∷ h) direction.Retrieve js (drop_jobs x.moved.items (lines_in p.recalls.value)) k)
      (sym (all_way direction.Retrieve (still_live site (turned_entry h t who v s ∷ h) x.moved.items) (λ j there. goes_back (direction_of j) (moved_way site h t who v s p w.change j (still_has j there)))))

  tapes_called : (k : ℕ) → lines_in recalls.value k ≡ add_jobs site (turned_entry h t who v s ∷ h) direction.Retrieve (of_way direction.Retrieve (still_live site (turned_entry h t who v s ∷ h) (moved_recalls site h v))) (drop_jobs (moved_recalls site h v) (lines_in p.recalls.value)) k
  tapes_called = subst (λ (js : List Job). (k : ℕ) → lines_in recalls.value k ≡ add_jobs site (turned_entry h t who v s ∷ h) direction.Retrieve (of_way direction.Retrieve (still_live site (turned_entry h t who v s ∷ h) js)) (drop_jobs js (lines_in p.recalls.value)) k) w.found.moved tapes_moved

  -- ---- requests and repacks

  files_are : job_files x.ended.items ≡ files_lost site h (turned_entry h t who v s) v
  files_are = ap job_files ended_is ∙ lost_files site h (turned_entry h t who v s) v w.found.once

  waiters_are : x.waiters.items ≡ waits_for_all (live_recall site h) (files_lost site h (turned_entry h t who v s) v)
  waiters_are = w.found.waiters ∙ ap (waits_for_all (live_recall site h)) files_are

  requests_called : RequestsAgree requests (finish_all (moment_of h t) (λ f. ends.Failed (codes "no tape is left")) (waiters site h p.requests (files_lost site h (turned_entry h t who v s) v)) p.requests)
  requests_called =
      waiting_fail site h (moment_of h t) (λ f. ends.Failed (codes "no tape is left")) (files_lost site h (turned_entry h t who v s) v) p.requests requests
      (subst (λ (n : ℕ). RequestsAgree requests (finish_all n (λ f. ends.Failed (codes "no tape is left")) (waits_for_all (live_recall site h) (files_lost site h (turned_entry h t who v s) v)) p.requests)) w.moment
      (subst (λ (xs : List (ℕ × ℕ)). RequestsAgree requests (finish_all at (λ f. ends.Failed (codes "no tape is left")) xs p.requests)) waiters_are w.files))

  repacks_called : RepacksAgree (repacks_of repacks) (set_states item.Failed (writers (repacks_of p.repacks) []) (set_states item.Failed (readers site h (repacks_of p.repacks) (files_lost site h (turned_entry h t who v s) v)) (repacks_of p.repacks)))
  repacks_called =
      failed_items site h (repacks_of p.repacks) (live_recall site h) (files_lost site h (turned_entry h t who v s) v) [] w.change.legal w.change.kept.stand.space.repacks (λ f. few_copies site h f w.change.classes) (λ f. refl)
      (λ f there. lost_live site h (turned_entry h t who v s) v f there) (λ j there. absurd (cc)) (repacks_of repacks)
      (subst (λ (xs : List (ℕ × ℕ)). RepacksAgree (repacks_of repacks) (set_states item.Failed (pair_targets xs) (repacks_of p.repacks))) waiters_are w.failed)

  -- ---- the buffer

  touched : AreTouched site h (turned_entry h t who v s) (job_files x.items.items)
  touched f = file_among f x.items.items ∙ ap (list_any (λ (j : Job). f == j.file)) w.found.items ∙ repacked_file site h w.change.legal v f

  flags_set : HeldAgree buffer.held.value (set_all (is_safe site (turned_entry h t who v s ∷ h)) (job_files x.items.items) p.buffer.held.value)
  flags_set =
      subst (λ (b : Held). HeldAgree buffer.held.value b)
      (flags_on (λ f. safe_in tapes.value (book_in book.value).archive f (copies_of_file site h f)) (is_safe site (turned_entry h t who v s ∷ h)) (job_files x.items.items) p.buffer.held.value
      (λ f there. flag_is site h (turned_entry h t who v s) tapes.value book.value f legal table_stands book_stands (λ path. refl) (resident_parts h f (sym (held_is site h p.buffer.held.value f w.change.kept.stand.space.buffer) ∙ there)).0))
      w.flags

  -- ---- all parts

  -- what was done is what the calls for the entry do
  pub turned_called : AreKeptCalled site h (turned_entry h t who v s) p (record p { recalls = recalls; tapes = tapes; book = book; repacks = repacks; requests = requests; buffer = buffer })
  turned_called = record {
    parts = record {
      space = record {
        names = λ path. refl;
        tapes = w.stated;
        buffer = (job_files x.items.items, touched, flags_set);
        requests = requests_called;
        repacks = repacks_called;
      };
      jobs = record { book = book_called; pools = λ key. refl; recalls = tapes_called; counts = λ way vo. refl };
      mounts = refl;
      downs = λ d. refl;
      failed = refl;
    };
    contents = λ g. ap (λ (xs : List (ℕ × Sum256)). content_in xs g) w.still;
    fit = record { tapes = w.sized ∙ w.change.kept.fit.tapes; pools = w.change.kept.fit.pools; recalls = w.keys ∙ w.change.kept.fit.recalls; vos = w.change.kept.fit.vos; drives = w.change.kept.fit.drives };
    named = w.named;
  }
