-- The calls for a Recalled of a live recall.
use Rattle.std.proofs.Common.{◌≡◌, ◌∙◌, ◌+◌, ◌≤◌, ℕ, zero, suc, List, [], ◌∷◌, Bool, true, false, ◌||◌, refl, sym, ap, subst, arith, length}
use Rattle.std.specs.Prelude.{Option, Some, ◌==◌, if◌then◌else◌, filter}
use Rattle.std.specs.List.{flat_map, range_with_len}
use Rattle.std.proofs.lemmas.Bool.{eqb-true}
use Rattle.blob.specs.declared.sum.Sum256.{Sum256}
use Rattle.cta_site.specs.declared.site.Site.{Site}
use Rattle.cta_model.specs.declared.answers.Answer.TheVariants as answer
use Rattle.cta_model.specs.declared.asks.Ask.TheVariants as ask
use Rattle.cta_model.specs.declared.asks.Direction.TheVariants as direction
use Rattle.cta_model.specs.declared.asks.Fate.TheVariants as fate
use Rattle.cta_model.specs.declared.asks.Job.{Job}
use Rattle.cta_model.specs.declared.entries.Entry.{Entry}
use Rattle.cta_model.specs.declared.reports.ItemState.TheVariants as item
use Rattle.cta_model.specs.Files.{copies_of_file, is_live, live_file, path_of, size_of}
use Rattle.cta_model.specs.Files as files
use Rattle.cta_model.specs.History.{History, has_number, is_number, moment_of}
use Rattle.cta_model.specs.Jobs.{is_live_job}
use Rattle.cta_model.specs.Legal.{IsLegal, new_entry}
use Rattle.cta_model.specs.Mounts.{job_of, same_direction}
use Rattle.cta_model.specs.Queues.{direction_of}
use Rattle.cta_model.specs.Recalls.{live_recall}
use Rattle.cta_model.specs.RepackItems.{is_repacked, waiting_for}
use Rattle.cta_model.specs.Space.{is_safe}
use Rattle.cta_laws.proofs.FileFrames.{copies_older, sum_older}
use Rattle.cta_laws.proofs.PlaceLaw.{path_older}
use Rattle.disk_buffer.specs.Stays.{content_in}
use Rattle.disk_buffer.specs.Stored.{Stored}
use Rattle.part_model.specs.declared.space.FileEnd.TheVariants as ends
use Rattle.part_model.specs.declared.space.HeldPin.{HeldPin}
use Rattle.part_model.specs.Held.{HeldAgree, enter, pin_all, set_safe, unhold}
use Rattle.part_model.specs.JobBook.{TellSame, bear_jobs, end_jobs, give_back_jobs}
use Rattle.part_model.specs.JobRows.{JobRows, book_in}
use Rattle.part_model.specs.Queues.{Queues, lines_in}
use Rattle.part_model.specs.Repacks.{RepacksAgree, set_states}
use Rattle.part_model.specs.Requests.{Requests, RequestsAgree, finish_all}
use Rattle.part_model.specs.Room.{Roomed}
use Rattle.part_model.specs.Tapes.{safe_in}
use Rattle.part_laws.specs.QueueBooks.{IsBook}
use Rattle.part_laws.specs.Lines.{add_jobs, of_way}
use Rattle.part_laws.specs.Ends.{repacked_jobs}
use Rattle.part_laws.proofs.BookSteps.{bear_same, end_same, tell_chain}
use Rattle.part_laws.proofs.RepackLists.{parts_recalled_by}
use Rattle.part_laws.specs.Books.{AreRepacks, AreRequests}
use Rattle.part_laws.specs.BookCalls.{readers, waiters}
use Rattle.part_laws.specs.BufferCalls.{after_read, pins_told}
use Rattle.part_laws.specs.Tapes.{IsTable}
use Rattle.part_laws.proofs.Flags.{flag_is_found}
use Rattle.part_laws.proofs.RepackCalls.{calls_move_repacks}
use Rattle.part_laws.proofs.StageCalls.{calls_move_requests}
use Rattle.part_laws.proofs.TableMoves.{calls_move_table}
use Rattle.part_laws.specs.AllParts.{jobs_in}
use Rattle.repack_book.specs.NamedRepacks.{NamedRepacks, NamesAgree, repacks_of}
use Rattle.archive_parts.specs.Called.{AreKeptCalled}
use Rattle.archive_parts.specs.PartsKept.{ArePartsKept, values_of}
use Rattle.archive_parts.specs.declared.parts.ArchiveParts.{ArchiveParts}
use Rattle.drive_asks.specs.Reading.{all_targets, born_of, pins_by}
use Rattle.part_moves.specs.Waiting.{with_file}
use Rattle.drive_asks.proofs.ArrivalPins.{entered_pinned}
use Rattle.drive_asks.proofs.CompletedFiles.{completed_are}
use Rattle.drive_asks.proofs.MarkedItems.{marked_are}
use Rattle.drive_asks.proofs.ToldPins.{all_pins_are}
use Rattle.part_moves.proofs.SameParts.{same_table}

-- the entry
abbrev pub done_entry : History → ℕ → ℕ → Job → Entry
done_entry h t m job = new_entry h t (ask.Recalled m job) (answer.Arrived fate.Done)

-- what is known of a Recalled of a live recall, and what was done to the parts, where b is the book with the claim and the recall ended
-- and c the buffer with the pins
pub record IsDone (site : Site) (h : History) (t m : ℕ) (job : Job) (p : ArchiveParts) (at n copies len : ℕ) (ids born : List ℕ) (sum : Sum256) (safe : Bool) (requests : Requests) (repacks : NamedRepacks) (given ended book : Roomed JobRows) (pools : Roomed Queues) (c buffer : Stored) : Type 0 where
  pub legal : IsLegal site (done_entry h t m job ∷ h)
  pub kept : ArePartsKept site h p
  pub live : is_live_job site h job ≡ true
  pub there : is_live h job.file ≡ true
  pub low : job.file ≤ length h
  pub moment : at ≡ moment_of h t
  pub number : n ≡ length h + 1
  pub content : sum ≡ files.sum_of h job.file
  pub length_is : len ≡ sum.len
  pub count : copies ≡ copies_of_file site h job.file
  pub waits : ids ≡ waiting_for (live_recall site h job.file)
  pub reads : born ≡ filter (is_repacked site h job.file) (range_with_len 1 copies)
  pub completed : RequestsAgree requests (finish_all at (λ f. ends.Completed) (with_file job.file ids) p.requests)
  pub marked : RepacksAgree (repacks_of repacks) (set_states item.Writing (all_targets ids job.file copies) (repacks_of p.repacks))
  pub named : NamesAgree repacks p.repacks
  pub gave : TellSame (book_in given.value) (give_back_jobs (job ∷ []) (book_in p.book.value))
  pub over : TellSame (book_in ended.value) (end_jobs (job ∷ []) (book_in given.value))
  pub bore : TellSame (book_in book.value) (bear_jobs (born_of n job.file born) n (book_in ended.value))
  pub lines : (k : ℕ) → lines_in pools.value k ≡ add_jobs site (done_entry h t m job ∷ h) direction.Archive (born_of n job.file born) (lines_in p.pools.value) k
  pub keys : length pools.value ≡ length p.pools.value
  pub flag : safe ≡ safe_in p.tapes.value (book_in book.value).archive job.file copies
  pub pinned : HeldAgree c.held.value (pin_all (flat_map (pins_by requests (repacks_of repacks) job.file) ids) p.buffer.held.value)
  pub still : c.contents ≡ p.buffer.contents
  pub entered : HeldAgree buffer.held.value (set_safe (enter (unhold c.held.value len) job.file len) job.file safe)
  pub stored : (f : ℕ) → content_in buffer.contents f ≡ (if f == job.file then Some sum else content_in c.contents f)

module _ (site : Site) (h : History) (t m : ℕ) (job : Job) (p : ArchiveParts) (at n copies len : ℕ) (ids born : List ℕ) (sum : Sum256) (safe : Bool) (requests : Requests) (repacks : NamedRepacks) (given ended book : Roomed JobRows) (pools : Roomed Queues) (c buffer : Stored) (x : IsDone site h t m job p at n copies len ids born sum safe requests repacks given ended book pools c buffer) where
  -- ---- requests and repacks

  requests_are : RequestsAgree requests (finish_all (moment_of h t) (λ f. ends.Completed) (waiters site h p.requests (job.file ∷ [])) p.requests)
  requests_are = completed_are site h (moment_of h t) job.file ids p.requests requests x.waits (subst (λ (k : ℕ). RequestsAgree requests (finish_all k (λ f. ends.Completed) (with_file job.file ids) p.requests)) x.moment x.completed)

  repacks_are : RepacksAgree (repacks_of repacks) (set_states item.Writing (readers site h (repacks_of p.repacks) (job.file ∷ [])) (repacks_of p.repacks))
  repacks_are = marked_are site h (repacks_of p.repacks) (repacks_of repacks) job.file copies ids x.legal.0 x.kept.stand.space.repacks x.waits x.count x.marked

  requests_stand : AreRequests site (done_entry h t m job ∷ h) requests
  requests_stand = calls_move_requests site h (done_entry h t m job) p.requests requests x.legal x.kept.stand.space.requests requests_are

  repacks_stand : AreRepacks site (done_entry h t m job ∷ h) (repacks_of repacks)
  repacks_stand = calls_move_repacks site h (done_entry h t m job) (repacks_of p.repacks) (repacks_of repacks) x.legal x.kept.stand.space.repacks repacks_are

  -- ---- jobs

  born_are : born_of n job.file born ≡ repacked_jobs site h (length h + 1) job.file
  born_are =
      ap (λ (k : ℕ). born_of k job.file born) x.number
      ∙ ap (λ (cs : List ℕ). born_of (length h + 1) job.file cs) (x.reads ∙ ap (λ (k : ℕ). filter (is_repacked site h job.file) (range_with_len 1 k)) x.count)

  longer : n ≡ length (done_entry h t m job ∷ h)
  longer = let number : n ≡ length h + 1 = x.number in omega arith

  live_alone : job ∷ [] ≡ filter (is_live_job site h) (job ∷ [])
  live_alone = sym (ap (λ (b : Bool). if b then job ∷ [] else []) x.live)

  book_is : TellSame (book_in book.value) (bear_jobs (repacked_jobs site h (length h + 1) job.file) (length (done_entry h t m job ∷ h)) (end_jobs (filter (is_live_job site h) (job ∷ [])) (give_back_jobs (job ∷ []) (book_in p.book.value))))
  book_is =
      subst (λ (js : List Job). TellSame (book_in book.value) (bear_jobs (repacked_jobs site h (length h + 1) job.file) (length (done_entry h t m job ∷ h)) (end_jobs js (give_back_jobs (job ∷ []) (book_in p.book.value))))) live_alone
      (subst (λ (k : ℕ). TellSame (book_in book.value) (bear_jobs (repacked_jobs site h (length h + 1) job.file) k (end_jobs (job ∷ []) (give_back_jobs (job ∷ []) (book_in p.book.value))))) longer
      (subst (λ (js : List Job). TellSame (book_in book.value) (bear_jobs js n (end_jobs (job ∷ []) (give_back_jobs (job ∷ []) (book_in p.book.value))))) born_are
      (tell_chain _ _ _ x.bore (bear_same (born_of n job.file born) n _ _ (tell_chain _ _ _ x.over (end_same (job ∷ []) _ _ x.gave))))))

  book_stands : IsBook site (done_entry h t m job ∷ h) (book_in book.value)
  book_stands = tell_chain _ _ _ book_is (parts_recalled_by site h (done_entry h t m job) m job (jobs_in (values_of p)) x.legal refl refl x.kept.stand.jobs).book

  -- ---- queues

  way_archive : (k : ℕ) → 1 ≤ k → same_direction direction.Archive (direction_of (job_of n job.file k)) ≡ true
  way_archive zero low = absurd (omega arith)
  way_archive (suc k) low = refl

  way_retrieve : (k : ℕ) → 1 ≤ k → same_direction direction.Retrieve (direction_of (job_of n job.file k)) ≡ false
  way_retrieve zero low = absurd (omega arith)
  way_retrieve (suc k) low = refl

  all_archive : (test : ℕ → Bool) (k a : ℕ) → 1 ≤ a → of_way direction.Archive (born_of n job.file (filter test (range_with_len a k))) ≡ born_of n job.file (filter test (range_with_len a k))
  unfolding way_archive
  all_archive test zero a low = refl
  all_archive test (suc k) a low =
      let rest : of_way direction.Archive (born_of n job.file (filter test (range_with_len (a + 1) k))) ≡ born_of n job.file (filter test (range_with_len (a + 1) k)) = all_archive test k (a + 1) (omega arith) in
      elim (test a) as (λ b. of_way direction.Archive (born_of n job.file (if b then a ∷ filter test (range_with_len (a + 1) k) else filter test (range_with_len (a + 1) k))) ≡ born_of n job.file (if b then a ∷ filter test (range_with_len (a + 1) k) else filter test (range_with_len (a + 1) k))) [
        | true ↦ rw (way_archive a low) (ap (λ (js : List Job). job_of n job.file a ∷ js) rest)
        | false ↦ rest
      ]

  none_retrieve : (test : ℕ → Bool) (k a : ℕ) → 1 ≤ a → of_way direction.Retrieve (born_of n job.file (filter test (range_with_len a k))) ≡ []
  none_retrieve test zero a low = refl
  none_retrieve test (suc k) a low =
      let rest : of_way direction.Retrieve (born_of n job.file (filter test (range_with_len (a + 1) k))) ≡ [] = none_retrieve test k (a + 1) (omega arith) in
      elim (test a) as (λ b. of_way direction.Retrieve (born_of n job.file (if b then a ∷ filter test (range_with_len (a + 1) k) else filter test (range_with_len (a + 1) k))) ≡ []) [
        | true ↦ rw (way_retrieve a low) rest
        | false ↦ rest
      ]

  born_way : born_of n job.file born ≡ of_way direction.Archive (repacked_jobs site h (length h + 1) job.file)
  born_way =
      ap (born_of n job.file) x.reads ∙ sym (all_archive (is_repacked site h job.file) copies 1 (omega arith))
      ∙ ap (of_way direction.Archive) (sym (ap (born_of n job.file) x.reads) ∙ born_are)

  born_other : of_way direction.Retrieve (repacked_jobs site h (length h + 1) job.file) ≡ []
  born_other = ap (of_way direction.Retrieve) (sym born_are ∙ ap (born_of n job.file) x.reads) ∙ none_retrieve (is_repacked site h job.file) copies 1 (omega arith)

  pools_are : (k : ℕ) → lines_in pools.value k ≡ add_jobs site (done_entry h t m job ∷ h) direction.Archive (of_way direction.Archive (repacked_jobs site h (length h + 1) job.file)) (lines_in p.pools.value) k
  pools_are k = x.lines k ∙ ap (λ (js : List Job). add_jobs site (done_entry h t m job ∷ h) direction.Archive js (lines_in p.pools.value) k) born_way

  recalls_are : (k : ℕ) → lines_in p.recalls.value k ≡ add_jobs site (done_entry h t m job ∷ h) direction.Retrieve (of_way direction.Retrieve (repacked_jobs site h (length h + 1) job.file)) (lines_in p.recalls.value) k
  recalls_are k = ap (λ (js : List Job). add_jobs site (done_entry h t m job ∷ h) direction.Retrieve js (lines_in p.recalls.value) k) (sym born_other)

  -- ---- the buffer

  size_is : len ≡ size_of h job.file
  size_is = x.length_is ∙ ap (λ (s : Sum256). s.len) x.content

  table_stands : IsTable site (done_entry h t m job ∷ h) p.tapes.value
  table_stands = calls_move_table site h (done_entry h t m job) p.tapes.value p.tapes.value x.legal x.kept.stand.space.tapes (same_table p.tapes.value x.kept.stand.space.tapes.distinct)

  safe_is : safe ≡ is_safe site (done_entry h t m job ∷ h) job.file
  safe_is =
      let on : is_live (done_entry h t m job ∷ h) job.file ≡ true = ap (is_number job.file) (ap (live_file h) (path_older (done_entry h t m job) h job.file x.low)) ∙ x.there in
      x.flag ∙ ap (safe_in p.tapes.value (book_in book.value).archive job.file) (x.count ∙ sym (copies_older site (done_entry h t m job) h job.file x.low))
      ∙ sym (flag_is_found site (done_entry h t m job ∷ h) p.tapes.value (book_in book.value).archive job.file x.legal table_stands on (λ k. book_stands.archive job.file k))

  pins_same : flat_map (pins_by requests (repacks_of repacks) job.file) ids ≡ flat_map (λ id. pins_told site (done_entry h t m job ∷ h) id job.file) (waiting_for (live_recall site h job.file))
  pins_same =
      all_pins_are site (done_entry h t m job ∷ h) requests (repacks_of repacks) job.file ids x.legal requests_stand repacks_stand
      ∙ ap (flat_map (λ id. pins_told site (done_entry h t m job ∷ h) id job.file)) x.waits

  held_is : HeldAgree buffer.held.value (after_read site h (done_entry h t m job) job.file p.buffer.held.value)
  held_is =
      subst (λ (ps : List HeldPin). HeldAgree buffer.held.value (pin_all ps (set_safe (enter (unhold p.buffer.held.value (size_of h job.file)) job.file (size_of h job.file)) job.file (is_safe site (done_entry h t m job ∷ h) job.file)))) pins_same
      (entered_pinned (flat_map (pins_by requests (repacks_of repacks) job.file) ids) job.file (size_of h job.file) (is_safe site (done_entry h t m job ∷ h) job.file) p.buffer.held.value c.held.value buffer.held.value x.pinned
      (subst (λ (b : Bool). HeldAgree buffer.held.value (set_safe (enter (unhold c.held.value (size_of h job.file)) job.file (size_of h job.file)) job.file b)) safe_is
      (subst (λ (k : ℕ). HeldAgree buffer.held.value (set_safe (enter (unhold c.held.value k) job.file k) job.file safe)) size_is x.entered)))

  contents_are : (f : ℕ) → content_in buffer.contents f ≡ (if has_number f (job.file ∷ []) then Some (files.sum_of (done_entry h t m job ∷ h) f) else content_in p.buffer.contents f)
  contents_are f = x.stored f ∙ ap (λ (cs : List (ℕ × Sum256)). if f == job.file then Some sum else content_in cs f) x.still ∙ by (f == job.file) refl
    where
      by : (b : Bool) → (f == job.file) ≡ b → ◌≡◌ {A = Option Sum256} (if b then Some sum else content_in p.buffer.contents f) (if b || false then Some (files.sum_of (done_entry h t m job ∷ h) f) else content_in p.buffer.contents f)
      by true hit = ap (λ (s : Sum256). Some s) (x.content ∙ sym (sum_older (done_entry h t m job) h job.file x.low) ∙ ap (files.sum_of (done_entry h t m job ∷ h)) (sym (eqb-true f job.file hit)))
      by false miss = refl

  -- ---- all parts

  pub done_called : AreKeptCalled site h (done_entry h t m job) p (record p { buffer = buffer; requests = requests; repacks = repacks; book = book; pools = pools })
  done_called = record {
    parts = record {
      space = record {
        names = λ path. refl;
        tapes = same_table p.tapes.value x.kept.stand.space.tapes.distinct;
        buffer = held_is;
        requests = requests_are;
        repacks = repacks_are;
      };
      jobs = record { book = book_is; pools = pools_are; recalls = recalls_are; counts = λ way vo. refl };
      mounts = refl;
      downs = λ d. refl;
      failed = refl;
    };
    contents = contents_are;
    fit = record { tapes = x.kept.fit.tapes; pools = x.keys ∙ x.kept.fit.pools; recalls = x.kept.fit.recalls; vos = x.kept.fit.vos; drives = x.kept.fit.drives };
    named = x.named;
  }
