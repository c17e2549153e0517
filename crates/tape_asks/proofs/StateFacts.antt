-- What the calls for a TapeState may count on.
use Rattle.std.proofs.Common.{◌≡◌, ◌∙◌, ◌+◌, ◌*◌, ◌^◌, ◌<◌, ◌≤◌, ℕ, List, [], ◌∷◌, Bool, true, false, not, refl, sym, ap, subst, arith, length}
use Rattle.std.specs.Prelude.{Option, Some, None, option_map, is_none, ◌%◌, if◌then◌else◌, filter, slice_get}
use Rattle.std.proofs.lemmas.Bool.{and_parts, eqb-true}
use Rattle.std.proofs.lemmas.List.Sums.{sum_by-cons}
use Rattle.cta_site.specs.declared.site.Site.{Site}
use Rattle.cta_site.specs.declared.site.TapeState.{TapeState}
use Rattle.cta_site.specs.Laws.{ClassesAreKnown}
use Rattle.cta_site.specs.ValidSite.{IsValidSite}
use Rattle.cta_site.specs.WellFormed.{IsWellFormed}
use Rattle.cta_model.specs.declared.answers.Answer.TheVariants as answer
use Rattle.cta_model.specs.declared.answers.Refusal.TheVariants as refusal
use Rattle.cta_model.specs.declared.asks.Ask.{Ask}
use Rattle.cta_model.specs.declared.asks.Ask.TheVariants as ask
use Rattle.cta_model.specs.declared.asks.Direction.{Direction}
use Rattle.cta_model.specs.declared.asks.Direction.TheVariants as direction
use Rattle.cta_model.specs.declared.asks.Job.{Job}
use Rattle.cta_model.specs.declared.asks.Who.{Who}
use Rattle.cta_model.specs.declared.entries.Entry.{Entry}
use Rattle.cta_model.specs.declared.states.Charge.{Charge}
use Rattle.cta_model.specs.declared.states.Place.{Place}
use Rattle.cta_model.specs.Answers.{answer_of, is_accepted, is_too_heavy, names_twice, on_free_tape}
use Rattle.cta_model.specs.Charges.{charges_of}
use Rattle.cta_model.specs.History.{History, is_number}
use Rattle.cta_model.specs.Jobs.{is_live_job}
use Rattle.cta_model.specs.Legal.{IsLegal, greatest_moment, new_entry}
use Rattle.cta_model.specs.Mounts.{claimer_of, has_job, same_direction, same_job}
use Rattle.cta_model.specs.Places.{all_places, has_place_on}
use Rattle.cta_model.specs.Queues.{direction_of, is_queued, key_by, key_of, queue_of}
use Rattle.cta_laws.specs.Places.{PlacesAreOfCopies, PlacesAreOnSite}
use Rattle.cta_laws.proofs.Accepted.{answer_is, past}
use Rattle.cta_laws.proofs.JobFiles.{recall_copy}
use Rattle.cta_laws.proofs.JobLaw.{queued_stands}
use Rattle.part_model.specs.declared.jobs.Line.{Line}
use Rattle.part_model.specs.JobBook.{Book}
use Rattle.part_model.specs.JobRows.{JobRows, book_in}
use Rattle.part_model.specs.Queues.{Lines, drop_jobs, lines_in}
use Rattle.part_model.specs.Tapes.{HasTurned, Table, row_in_state}
use Rattle.part_laws.specs.QueueBooks.{IsBook}
use Rattle.part_laws.specs.Lines.{AreLines}
use Rattle.part_laws.specs.Queued.{waits_in_queue}
use Rattle.part_laws.specs.Laws.{AreSmall, LinesAreSmall}
use Rattle.job_queues.specs.Waiting.{bytes_of, jobs_of}
use Rattle.part_laws.specs.StateLists.{AreRecallsOf, ended_recalls, moved_recalls}
use Rattle.part_laws.proofs.StateLists.{state_lists}
use Rattle.part_laws.specs.Tapes.{IsTable}
use Rattle.tape_table.specs.Sources.{sources_in}
use Rattle.archive_parts.specs.PartsKept.{ArePartsKept}
use Rattle.archive_parts.specs.declared.parts.ArchiveParts.{ArchiveParts}
use Rattle.fault_asks.specs.Failing.{CanQueue}
use Rattle.fault_asks.specs.Reading.{source_in}
use Rattle.archive_parts.proofs.Behind.{legal_behind}
use Rattle.fault_asks.proofs.Claimed.{IsClaimable, live_claimable}
use Rattle.fault_asks.proofs.FailFacts.{can_queue, jobs_map, room_in}
use Rattle.part_moves.proofs.Sources.{source_placed, sources_are}
use Rattle.tape_asks.proofs.Reclaims.{on_site}
use Rattle.part_moves.proofs.Charged.{few_copies}

-- the ask and its entry
abbrev pub turned : Who → ℕ → TapeState → Ask
turned who v s = ask.TapeState who v s

abbrev pub turned_entry : History → ℕ → Who → ℕ → TapeState → Entry
turned_entry h t who v s = new_entry h t (turned who v s) answer.Done

-- a TapeState that is accepted in a legal history, and the parts before it
pub record IsChange (site : Site) (h : History) (t : ℕ) (who : Who) (v : ℕ) (s : TapeState) (p : ArchiveParts) : Type 0 where
  pub legal : IsLegal site h
  pub within : t ≤ greatest_moment
  pub accepted : is_accepted (answer_of site h t (turned who v s)) ≡ true
  pub kept : ArePartsKept site h p
  pub valid : IsValidSite site
  pub good : IsWellFormed site
  pub classes : ClassesAreKnown site

-- a recall's source by the table and the book is its key
pub source_is : PlacesAreOfCopies → PlacesAreOnSite → (site : Site) (h : History) (v : Table) (b : Book) (j : Job) → ClassesAreKnown site → IsLegal site h → IsTable site h v → IsBook site h b → j.copy ≡ 0 → source_in v b j ≡ key_of site h j
source_is of_copies on_site site h v b j classes legal table book recall =
    ap (λ (cs : List Charge). option_map (λ (q : Place). q.tape) (slice_get (sources_in v j.file) (length cs % length (sources_in v j.file)))) (book.charges j)
    ∙ ap (λ (xs : List Place). option_map (λ (q : Place). q.tape) (slice_get xs (length (charges_of h j) % length xs))) (sym (sources_are of_copies on_site site h v j.file legal table (few_copies site h j.file classes)))
    ∙ ap (λ (c : ℕ). key_by c site h j) (sym recall)

number_is : (k : ℕ) (o : Option ℕ) → is_number k o ≡ true → o ≡ Some k
number_is k None e = absurd (cc)
number_is k (Some n) e = ap (λ (m : ℕ). Some m) (let same : k ≡ n = eqb-true k n e in sym same)

-- a job that waits under a key has the key
pub key_waits : (site : Site) (h : History) (lines : Lines) (j : Job) → AreLines site h direction.Retrieve lines → (k : ℕ) → has_job j (jobs_of (lines k)) ≡ true → key_of site h j ≡ Some k
key_waits site h lines j are k there =
    let queued : has_job j (queue_of site h direction.Retrieve k) ≡ true = sym (ap (λ (ls : List Line). has_job j (jobs_of ls)) (are k) ∙ ap (has_job j) (jobs_map site h direction.Retrieve (queue_of site h direction.Retrieve k))) ∙ there in
    let stands : is_queued site h direction.Retrieve k j ≡ true = queued_stands site h direction.Retrieve k j queued in
    number_is k (key_of site h j) (and_parts (is_none (claimer_of h j)) _ (and_parts _ _ (and_parts (is_live_job site h j) _ stands).1).1).1

same_way : (way : Direction) → same_direction direction.Retrieve way ≡ true → way ≡ direction.Retrieve
same_way direction.Retrieve e = refl
same_way direction.Archive e = absurd (cc)

-- the lines of a queue without some have no more bytes
dropped_bytes : (js : List Job) (ls : List Line) → bytes_of (filter (λ (l : Line). not (has_job l.job js)) ls) ≤ bytes_of ls
dropped_bytes js [] = omega arith
dropped_bytes js (l ∷ ls) = by (has_job l.job js) (dropped_bytes js ls)
  where
    by : (b : Bool) → bytes_of (filter (λ (l : Line). not (has_job l.job js)) ls) ≤ bytes_of ls → bytes_of (if not b then l ∷ filter (λ (l : Line). not (has_job l.job js)) ls else filter (λ (l : Line). not (has_job l.job js)) ls) ≤ bytes_of (l ∷ ls)
    by true rest = (let all : bytes_of (l ∷ ls) ≡ l.len + bytes_of ls = sum_by-cons (λ (x : Line). x.len) l ls in omega (arith, rest, all))
    by false rest =
        (let all : bytes_of (l ∷ ls) ≡ l.len + bytes_of ls = sum_by-cons (λ (x : Line). x.len) l ls in
        let some : bytes_of (l ∷ filter (λ (l : Line). not (has_job l.job js)) ls) ≡ l.len + bytes_of (filter (λ (l : Line). not (has_job l.job js)) ls) = sum_by-cons (λ (x : Line). x.len) l (filter (λ (l : Line). not (has_job l.job js)) ls) in
        omega (arith, rest, all, some))

-- and have none of these jobs
dropped_lacks : (j : Job) (js : List Job) (ls : List Line) → has_job j js ≡ true → has_job j (jobs_of (filter (λ (l : Line). not (has_job l.job js)) ls)) ≡ false
dropped_lacks j js [] there = refl
dropped_lacks j js (l ∷ ls) there = by (has_job l.job js) refl (dropped_lacks j js ls there)
  where
    other : (b : Bool) → same_job j l.job ≡ b → has_job l.job js ≡ false → b ≡ false
    other false is out = refl
    other true is out =
        (let swapped : has_job l.job js ≡ has_job j js = moved js is in
        let bad : true ≡ false = sym there ∙ sym swapped ∙ out in
        absurd (cc))
      where
        moved : (ks : List Job) → same_job j l.job ≡ true → has_job l.job ks ≡ has_job j ks
        moved [] e = refl
        moved (k ∷ ks) e = (let one : same_job l.job k ≡ same_job j k = grind (arith, e) in rw (one, moved ks e) refl)

    by : (b : Bool) → has_job l.job js ≡ b → has_job j (jobs_of (filter (λ (l : Line). not (has_job l.job js)) ls)) ≡ false → has_job j (jobs_of (if not b then l ∷ filter (λ (l : Line). not (has_job l.job js)) ls else filter (λ (l : Line). not (has_job l.job js)) ls)) ≡ false
    by true is rest = rest
    by false is rest = rw (other (same_job j l.job) refl is) rest

module _ (site : Site) (h : History) (t : ℕ) (who : Who) (v : ℕ) (s : TapeState) (p : ArchiveParts) (w : IsChange site h t who v s p) where
  pub done_is : answer.Done ≡ answer_of site h t (turned who v s)
  done_is = sym (answer_is site h t (turned who v s) (answer_of site h t (turned who v s)) refl w.accepted).0

  pub longer : IsLegal site (turned_entry h t who v s ∷ h)
  longer = legal_behind site h t (turned who v s) answer.Done w.legal w.within tt done_is w.accepted

  -- the tape is one of the site's
  pub tape_there : v < length p.tapes.value.rows
  tape_there =
      let free : answer_of site h t (turned who v s) ≡ on_free_tape site h v answer.Done = (past refusal.HistoryFull (is_too_heavy site h (turned who v s) (on_free_tape site h v answer.Done)) (on_free_tape site h v answer.Done) (answer_of site h t (turned who v s)) refl w.accepted).1 in
      let low : v < length site.tapes.items = on_site site h v answer.Done (answer_of site h t (turned who v s)) free w.accepted in
      let sized : length p.tapes.value.rows ≡ length site.tapes.items = w.kept.fit.tapes in
      omega (arith, low, sized)

  -- ---- the recalls that wait in queues

  pub lists : AreRecallsOf site h (turned_entry h t who v s) v (moved_recalls site h v) (ended_recalls site h (turned_entry h t who v s) v)
  lists = state_lists site h (turned_entry h t who v s) who v s longer refl

  waits : (j : Job) → has_job j (moved_recalls site h v) ≡ true → waits_in_queue site h j ≡ true
  waits j there = (and_parts (waits_in_queue site h j) (has_place_on v (all_places site h j.file)) (sym (lists.queued j) ∙ there)).0

  pub moved_live : (j : Job) → has_job j (moved_recalls site h v) ≡ true → is_live_job site h j ≡ true
  moved_live j there = (and_parts (is_live_job site h j) _ (waits j there)).0

  pub moved_way : (j : Job) → has_job j (moved_recalls site h v) ≡ true → direction_of j ≡ direction.Retrieve
  moved_way j there = same_way (direction_of j) (and_parts (same_direction direction.Retrieve (direction_of j)) _ (and_parts (is_live_job site h j) _ (waits j there)).1).0

  pub moved_zero : (j : Job) → has_job j (moved_recalls site h v) ≡ true → j.copy ≡ 0
  moved_zero j there = recall_copy j.copy (moved_way j there)

  pub moved_known : (j : Job) → has_job j (moved_recalls site h v) ≡ true → IsClaimable site h j
  moved_known j there = live_claimable site h w.good.limits.tries_from w.legal j (moved_live j there)

  -- ---- keys

  pub keys_low : PlacesAreOnSite → (f n : ℕ) (q : Place) → slice_get (sources_in p.tapes.value f) n ≡ Some q → q.tape < length p.recalls.value
  keys_low law f n q at =
      let c = source_placed p.tapes.value f n q at in
      let low : q.tape < length site.tapes.items = law site h w.legal f c.0 q (sym (w.kept.stand.space.tapes.places f c.0) ∙ c.1) in
      let sized : length p.recalls.value ≡ length site.tapes.items = w.kept.fit.recalls in
      omega (arith, low, sized)

  -- they wait where their sources say
  pub moved_stand : PlacesAreOfCopies → PlacesAreOnSite → (js : List Job) → js ≡ moved_recalls site h v → (j : Job) → has_job j js ≡ true → (k : ℕ) → has_job j (jobs_of (lines_in p.recalls.value k)) ≡ true
      → source_in p.tapes.value (book_in p.book.value) j ≡ Some k
  moved_stand of_copies on_site js is j there k waits_there =
      source_is of_copies on_site site h p.tapes.value (book_in p.book.value) j w.classes w.legal w.kept.stand.space.tapes w.kept.stand.jobs.book (moved_zero j (subst (λ (xs : List Job). has_job j xs ≡ true) is there))
      ∙ key_waits site h (lines_in p.recalls.value) j w.kept.stand.jobs.recalls k waits_there

  -- ---- behind the change of the state

  pub keys_still_low : PlacesAreOnSite → (tapes : Table) (n : ℕ) → HasTurned v (row_in_state s) p.tapes.value tapes → n ≡ length p.recalls.value → (f i : ℕ) (q : Place) → slice_get (sources_in tapes f) i ≡ Some q → q.tape < n
  keys_still_low law tapes n change same f i q at =
      let c = source_placed tapes f i q at in
      let low : q.tape < length site.tapes.items = law site h w.legal f c.0 q (sym (w.kept.stand.space.tapes.places f c.0) ∙ sym (change.places f c.0) ∙ c.1) in
      let sized : length p.recalls.value ≡ length site.tapes.items = w.kept.fit.recalls in
      omega (arith, low, sized, same)

  -- and can be put back
  pub moved_back : (js : List Job) (b : JobRows) (mid : Lines) → js ≡ moved_recalls site h v → ((k : ℕ) → mid k ≡ drop_jobs js (lines_in p.recalls.value) k) → CanQueue site h (book_in b) mid js
  moved_back js b mid is left =
      can_queue site h b mid js (subst (λ (xs : List Job). names_twice xs ≡ false) (sym is) lists.once)
      (λ j there live. record {
        put = (moved_known j (subst (λ (xs : List Job). has_job j xs ≡ true) is there)).put;
        to = (let none : j.copy ≡ 0 = moved_zero j (subst (λ (xs : List Job). has_job j xs ≡ true) is there) in omega (arith, none));
        lacks = λ k. ap (λ (ls : List Line). has_job j (jobs_of ls)) (left k) ∙ dropped_lacks j js (lines_in p.recalls.value k) there;
      })

  pub moved_fits : LinesAreSmall → (js : List Job) (mid : Lines) → length js ≤ 1000000 → ((k : ℕ) → mid k ≡ drop_jobs js (lines_in p.recalls.value) k) → (k : ℕ) → bytes_of (mid k) + 2147483648 * length js < 2 ^ 64
  moved_fits law js mid few left k =
      let small : AreSmall site (bytes_of (lines_in p.recalls.value k)) = law site h direction.Retrieve (lines_in p.recalls.value) w.valid w.legal w.kept.stand.jobs.recalls k in
      let room : bytes_of (lines_in p.recalls.value k) + 2147483648 * length js < 2 ^ 64 = room_in site (bytes_of (lines_in p.recalls.value k)) (length js) (length js) small (omega arith) (omega (arith, few)) in
      let less : bytes_of (filter (λ (l : Line). not (has_job l.job js)) (lines_in p.recalls.value k)) ≤ bytes_of (lines_in p.recalls.value k) = dropped_bytes js (lines_in p.recalls.value k) in
      let same : bytes_of (mid k) ≡ bytes_of (filter (λ (l : Line). not (has_job l.job js)) (lines_in p.recalls.value k)) = ap bytes_of (left k) in
      omega (arith, room, less, same)
