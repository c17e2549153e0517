-- The calls for a Stage.
use Rattle.std.proofs.Common.{◌≡◌, ◌∙◌, ℕ, ◌+◌, ◌≤◌, List, [], ◌∷◌, Bool, true, false, ◌||◌, not, refl, sym, ap, subst, arith, length}
use Rattle.std.specs.Prelude.{Option, Some, None, is_none, is_some, option_map, if◌then◌else◌, ◌==◌, ◌&&◌, filter, codes, slice_get}
use Rattle.std.specs.List.{flat_map}
use Rattle.std.proofs.lemmas.Bool.{eq-eqb}
use Rattle.blob.specs.declared.sum.Sum256.{Sum256}
use Rattle.cta_site.specs.declared.site.Site.{Site}
use Rattle.cta_site.specs.Laws.{ClassesAreKnown}
use Rattle.cta_site.specs.Listed.{rows}
use Rattle.cta_model.specs.declared.answers.Answer.TheVariants as answer
use Rattle.cta_model.specs.declared.asks.Ask.TheVariants as ask
use Rattle.cta_model.specs.declared.asks.Direction.TheVariants as direction
use Rattle.cta_model.specs.declared.asks.Job.{Job}
use Rattle.cta_model.specs.declared.asks.Wanted.{Wanted}
use Rattle.cta_model.specs.declared.asks.Who.{Who}
use Rattle.cta_model.specs.declared.entries.Entry.{Entry}
use Rattle.cta_model.specs.declared.states.Place.{Place}
use Rattle.cta_model.specs.Answers.{answer_of, is_accepted}
use Rattle.cta_model.specs.Buffer.{is_resident}
use Rattle.cta_model.specs.History.{History, has_number, is_empty, moment_of}
use Rattle.cta_model.specs.Legal.{IsLegal, new_entry}
use Rattle.cta_model.specs.Mounts.{was_claimed}
use Rattle.cta_model.specs.Places.{places_of}
use Rattle.cta_model.specs.Recalls.{Recall, bears_recall, live_recall, recall_after, recall_job, subscribed, waits_for}
use Rattle.cta_model.specs.Stages.{is_claimed_before, stage_files, started}
use Rattle.cta_laws.specs.Places.{PlacesAreOfCopies, PlacesAreOnSite}
use Rattle.cta_laws.specs.Stages.{files_staged}
use Rattle.cta_laws.proofs.Accepted.{answer_is}
use Rattle.cta_laws.proofs.Paths.{known_path}
use Rattle.disk_buffer.specs.Stays.{content_in}
use Rattle.disk_buffer.specs.Stored.{Stored}
use Rattle.part_model.specs.declared.space.FileEnd.{FileEnd}
use Rattle.part_model.specs.declared.space.FileEnd.TheVariants as ends
use Rattle.part_model.specs.declared.space.HeldPin.{HeldPin}
use Rattle.part_model.specs.Held.{HeldAgree, is_held, pin_all}
use Rattle.part_model.specs.JobBook.{TellSame, bear_jobs, subscribe_files}
use Rattle.part_model.specs.JobRows.{JobRows, book_in}
use Rattle.part_model.specs.Queues.{Lines, Queues, add_at, lines_in}
use Rattle.part_model.specs.Requests.{Requests, RequestsAgree, add_request, ended_file, finish_all, start_all}
use Rattle.part_model.specs.Room.{Roomed}
use Rattle.part_laws.specs.Lines.{add_jobs, line_of, of_way}
use Rattle.part_laws.specs.BookCalls.{after_stage, asked_by, is_lost, starts_at_once}
use Rattle.part_laws.specs.BufferCalls.{pins_told}
use Rattle.part_laws.proofs.RequestTurns.{all_turned, finished_are, started_are, with_files}
use Rattle.part_laws.proofs.StageCalls.{calls_move_requests}
use Rattle.part_laws.proofs.Told.{held_is}
use Rattle.part_laws.specs.Births.{bearing, recalled, recalls_of, wanted_files}
use Rattle.part_laws.proofs.BookSteps.{bear_same, tell_chain}
use Rattle.archive_parts.specs.Called.{AreKeptCalled}
use Rattle.archive_parts.specs.PartsKept.{ArePartsKept}
use Rattle.archive_parts.specs.declared.parts.ArchiveParts.{ArchiveParts}
use Rattle.caller_asks.specs.Sorted.{IsSorted}
use Rattle.caller_asks.specs.declared.sorting.Sorted.{Sorted}
use Rattle.caller_asks.specs.Wanted.{add_recalls, bears_by, claimed_by, has_source, lost_by, named_with, source_in, starts_by}
use Rattle.part_moves.specs.Pinned.{request_pin}
use Rattle.part_moves.proofs.AddedLines.{add_same}
use Rattle.caller_asks.proofs.NewPins.{all_pins_are}
use Rattle.caller_asks.proofs.NewRecalls.{first_source, not_named}
use Rattle.caller_asks.proofs.Sources.{source_is}
use Rattle.part_moves.proofs.Sources.{sources_are}
use Rattle.caller_asks.proofs.StagedFiles.{filter_alike, staged_are, staged_named, staged_waits}
use Rattle.caller_asks.proofs.Standing.{few_copies}
use Rattle.part_moves.proofs.SameParts.{same_table}

-- the entry of a Stage
abbrev pub stage_entry : History → ℕ → Who → List Wanted → ℕ → Entry
stage_entry h t who ws n = new_entry h t (ask.Stage who (rows ws)) (answer.Staged n)

pub stage_answered : (site : Site) (h : History) (t : ℕ) (who : Who) (ws : List Wanted) (n : ℕ) → n ≡ length h + 1 → is_accepted (answer_of site h t (ask.Stage who (rows ws))) ≡ true → answer.Staged n ≡ answer_of site h t (ask.Stage who (rows ws))
stage_answered site h t who ws n is accepted = ap (λ (m : ℕ). answer.Staged m) is ∙ sym (answer_is site h t (ask.Stage who (rows ws)) (answer_of site h t (ask.Stage who (rows ws))) refl accepted)

-- ---- how the files stand, by the parts and by the history

module _ (site : Site) (h : History) (of_copies : PlacesAreOfCopies) (on_site : PlacesAreOnSite) (known : ClassesAreKnown site) (legal : IsLegal site h) (p : ArchiveParts) (kept : ArePartsKept site h p) where
  there : (f : ℕ) → is_held p.buffer.held.value f ≡ is_resident h f
  there f = held_is site h p.buffer.held.value f kept.stand.space.buffer

  placed : (f : ℕ) → has_source p.tapes.value f ≡ not (is_empty (places_of site h f))
  placed f = source_is of_copies on_site site h p.tapes.value f legal kept.stand.space.tapes (few_copies site h f known)

  recall : (f : ℕ) → (book_in p.book.value).recall f ≡ live_recall site h f
  recall f = kept.stand.jobs.book.recall f

  pub here_are : (fs : List ℕ) → filter (is_held p.buffer.held.value) fs ≡ filter (is_resident h) fs
  here_are fs = filter_alike (is_held p.buffer.held.value) (is_resident h) fs (λ f e. there f)

  not_not : (b : Bool) → not (not b) ≡ b
  not_not true = refl
  not_not false = refl

  pub lost_are : (fs : List ℕ) → filter (lost_by p.buffer.held.value p.tapes.value) fs ≡ filter (is_lost site h) fs
  lost_are fs = filter_alike (lost_by p.buffer.held.value p.tapes.value) (is_lost site h) fs (λ f e.
      ap (λ (b : Bool). not b && not (has_source p.tapes.value f)) (there f)
      ∙ ap (λ (b : Bool). not (is_resident h f) && not b) (placed f)
      ∙ ap (λ (b : Bool). not (is_resident h f) && b) (not_not (is_empty (places_of site h f))))

  pub recalled_are : (fs : List ℕ) → filter (λ f. is_some ((book_in p.book.value).recall f)) fs ≡ recalled site h fs
  recalled_are fs = filter_alike (λ f. is_some ((book_in p.book.value).recall f)) (λ f. is_some (live_recall site h f)) fs (λ f e. ap is_some (recall f))

  pub bearing_are : (who : Who) (ws : List Wanted) → filter (bears_by p.buffer.held.value p.tapes.value (book_in p.book.value)) (files_staged site h ws) ≡ bearing site h (ask.Stage who (rows ws)) (files_staged site h ws)
  bearing_are who ws =
      filter_alike (bears_by p.buffer.held.value p.tapes.value (book_in p.book.value)) (λ f. is_none (live_recall site h f) && bears_recall site h (ask.Stage who (rows ws)) f) (files_staged site h ws) (λ f e.
      ap (λ (o : Option Recall). is_none o && (not (is_held p.buffer.held.value f) && has_source p.tapes.value f)) (recall f)
      ∙ ap (λ (b : Bool). is_none (live_recall site h f) && (not b && has_source p.tapes.value f)) (there f)
      ∙ ap (λ (b : Bool). is_none (live_recall site h f) && (not (is_resident h f) && b)) (placed f)
      ∙ ap (λ (b : Bool). is_none (live_recall site h f) && (b && (not (is_resident h f) && not (is_empty (places_of site h f))))) (sym (sym (staged_waits site h who ws f) ∙ e)))

  claimed : (t n : ℕ) (who : Who) (ws : List Wanted) (f : ℕ) → waits_for site h (ask.Stage who (rows ws)) f ≡ true → is_resident h f ≡ false → is_empty (places_of site h f) ≡ false
      → claimed_by (book_in p.book.value) f ≡ is_claimed_before h f (live_recall site (stage_entry h t who ws n ∷ h) f)
  claimed t n who ws f waits away some =
      ap (named_with (book_in p.book.value).named f) (recall f)
      ∙ by (live_recall site h f)
    where
      by : (o : Option Recall) → named_with (book_in p.book.value).named f o ≡ is_claimed_before h f (recall_after site h (stage_entry h t who ws n) f o)
      by None =
          sym (ap (λ (b : Bool). is_claimed_before h f (if b && (not (is_resident h f) && not (is_empty (places_of site h f))) then Some (record { birth = length h + 1; waiting = (length h + 1) ∷ [] }) else None)) waits
          ∙ ap (λ (b : Bool). is_claimed_before h f (if true && (not b && not (is_empty (places_of site h f))) then Some (record { birth = length h + 1; waiting = (length h + 1) ∷ [] }) else None)) away
          ∙ ap (λ (b : Bool). is_claimed_before h f (if true && (true && not b) then Some (record { birth = length h + 1; waiting = (length h + 1) ∷ [] }) else None)) some
          ∙ not_named site h (recall_job (length h + 1) f) legal (omega arith))
      by (Some r) = kept.stand.jobs.book.named (recall_job r.birth f) ∙ sub (waits_for site h (ask.Stage who (rows ws)) f)
        where
          sub : (b : Bool) → was_claimed h (recall_job r.birth f) ≡ was_claimed h (recall_job (subscribed b (length h + 1) r).birth f)
          sub true = refl
          sub false = refl

  pub started_are_so : (t n : ℕ) (who : Who) (ws : List Wanted) → filter (starts_by p.buffer.held.value p.tapes.value (book_in p.book.value)) (files_staged site h ws) ≡ filter (starts_at_once site h (stage_entry h t who ws n)) (files_staged site h ws)
  started_are_so t n who ws =
      filter_alike (starts_by p.buffer.held.value p.tapes.value (book_in p.book.value)) (starts_at_once site h (stage_entry h t who ws n)) (files_staged site h ws) (λ f e.
      ap (λ (b : Bool). b || (has_source p.tapes.value f && claimed_by (book_in p.book.value) f)) (there f)
      ∙ ap (λ (b : Bool). is_resident h f || (b && claimed_by (book_in p.book.value) f)) (placed f)
      ∙ by f (is_resident h f) refl (is_empty (places_of site h f)) refl (sym (staged_waits site h who ws f) ∙ e))
    where
      by : (f : ℕ) (a : Bool) → is_resident h f ≡ a → (b : Bool) → is_empty (places_of site h f) ≡ b → waits_for site h (ask.Stage who (rows ws)) f ≡ true
          → (a || (not b && claimed_by (book_in p.book.value) f)) ≡ (a || (not b && is_claimed_before h f (live_recall site (stage_entry h t who ws n ∷ h) f)))
      by f true ea b eb waits = refl
      by f false ea true eb waits = refl
      by f false ea false eb waits = claimed t n who ws f waits ea eb

  -- ---- the queues

  pub queued_so : (t n : ℕ) (who : Who) (ws : List Wanted) (lines : Lines) (gs : List ℕ) (k : ℕ) → n ≡ length h + 1 → ((f : ℕ) → has_number f gs ≡ true → f ≤ length h)
      → add_recalls site (stage_entry h t who ws n ∷ h) p.tapes.value n gs lines k ≡ add_jobs site (stage_entry h t who ws n ∷ h) direction.Retrieve (recalls_of n gs) lines k
  queued_so t n who ws lines [] k is low = refl
  queued_so t n who ws lines (g ∷ gs) k is low =
      add_same (source_in p.tapes.value g) (line_of site (stage_entry h t who ws n ∷ h) direction.Retrieve (recall_job n g)) (add_recalls site (stage_entry h t who ws n ∷ h) p.tapes.value n gs lines) (add_jobs site (stage_entry h t who ws n ∷ h) direction.Retrieve (recalls_of n gs) lines) k
      (queued_so t n who ws lines gs k is (λ f e. low f (behind f e)))
      ∙ ap (λ (o : Option ℕ). add_at o (line_of site (stage_entry h t who ws n ∷ h) direction.Retrieve (recall_job n g)) (add_jobs site (stage_entry h t who ws n ∷ h) direction.Retrieve (recalls_of n gs) lines) k)
      (ap (λ (ps : List Place). option_map (λ (x : Place). x.tape) (slice_get ps 0)) (sym (sources_are of_copies on_site site h p.tapes.value g legal kept.stand.space.tapes (few_copies site h g known)))
      ∙ sym (first_source site (stage_entry h t who ws n) h n g legal is (low g (ap (λ (b : Bool). b || has_number g gs) (eq-eqb g g refl))) refl))
    where
      behind : (f : ℕ) → has_number f gs ≡ true → has_number f (g ∷ gs) ≡ true
      behind f e = by (f == g)
        where
          by : (b : Bool) → (b || has_number f gs) ≡ true
          by true = refl
          by false = e

-- ---- the requests

agree_start : (at : ℕ) (xs : List (ℕ × ℕ)) (v w : Requests) → RequestsAgree v w → RequestsAgree (start_all at xs v) (start_all at xs w)
agree_start at xs v w same k = started_are at k xs v ∙ ap (option_map (with_files (all_turned (λ f s. started s at) k xs))) (same k) ∙ sym (started_are at k xs w)

agree_finish : (at : ℕ) (how : ℕ → FileEnd) (xs : List (ℕ × ℕ)) (v w : Requests) → RequestsAgree v w → RequestsAgree (finish_all at how xs v) (finish_all at how xs w)
agree_finish at how xs v w same k = finished_are at k how xs v ∙ ap (option_map (with_files (all_turned (λ f. ended_file at (how f)) k xs))) (same k) ∙ sym (finished_are at k how xs w)

-- three calls in turn over books that agree with those before
pub settled_so : (at n : ℕ) (here lost began : List ℕ) (v r0 r1 r2 r3 : Requests) → RequestsAgree r0 v → RequestsAgree r1 (start_all at (asked_by n began) r0) → RequestsAgree r2 (finish_all at (λ f. ends.Completed) (asked_by n here) r1)
    → RequestsAgree r3 (finish_all at (λ f. ends.Failed (codes "no tape is left")) (asked_by n lost) r2)
    → RequestsAgree r3 (finish_all at (λ f. ends.Failed (codes "no tape is left")) (asked_by n lost) (finish_all at (λ f. ends.Completed) (asked_by n here) (start_all at (asked_by n began) v)))
settled_so at n here lost began v r0 r1 r2 r3 a b c d k =
    d k
    ∙ agree_finish at (λ f. ends.Failed (codes "no tape is left")) (asked_by n lost) r2 (finish_all at (λ f. ends.Completed) (asked_by n here) (start_all at (asked_by n began) v))
    (λ i. c i ∙ agree_finish at (λ f. ends.Completed) (asked_by n here) r1 (start_all at (asked_by n began) v) (λ j. b j ∙ agree_start at (asked_by n began) r0 v a j) i) k

-- ---- recalls go one way

pub recalls_read : (n : ℕ) (fs : List ℕ) → of_way direction.Retrieve (recalls_of n fs) ≡ recalls_of n fs
recalls_read n [] = refl
recalls_read n (f ∷ fs) = ap (λ (js : List Job). recall_job n f ∷ js) (recalls_read n fs)

pub recalls_not_written : (n : ℕ) (fs : List ℕ) → of_way direction.Archive (recalls_of n fs) ≡ []
recalls_not_written n [] = refl
recalls_not_written n (f ∷ fs) = recalls_not_written n fs

-- ---- all calls together

pub record IsStaged (site : Site) (h : History) (t n : ℕ) (who : Who) (ws : List Wanted) (fs : List ℕ) (s : Sorted) (p : ArchiveParts) (r0 r1 r2 r3 : Requests) (buffer : Stored) (joined book : Roomed JobRows) (recalls : Roomed Queues) : Type 0 where
  pub legal : IsLegal site (stage_entry h t who ws n ∷ h)
  pub kept : ArePartsKept site h p
  pub number : n ≡ length h + 1
  pub named : fs ≡ files_staged site h ws
  pub sorted : IsSorted p.buffer.held.value p.tapes.value (book_in p.book.value) fs s
  pub added : RequestsAgree r0 (add_request n (moment_of h t) (stage_files site h ws) p.requests)
  pub began : RequestsAgree r1 (start_all (moment_of h t) (asked_by n s.started.items) r0)
  pub done : RequestsAgree r2 (finish_all (moment_of h t) (λ f. ends.Completed) (asked_by n s.here.items) r1)
  pub failed : RequestsAgree r3 (finish_all (moment_of h t) (λ f. ends.Failed (codes "no tape is left")) (asked_by n s.lost.items) r2)
  pub subscribed : TellSame (book_in joined.value) (subscribe_files s.recalled.items n (book_in p.book.value))
  pub born : TellSame (book_in book.value) (bear_jobs (recalls_of n s.bearing.items) n (book_in joined.value))
  pub lines : (k : ℕ) → lines_in recalls.value k ≡ add_recalls site (stage_entry h t who ws n ∷ h) p.tapes.value n s.bearing.items (lines_in p.recalls.value) k
  pub keys : length recalls.value ≡ length p.recalls.value
  pub pinned : HeldAgree buffer.held.value (pin_all (flat_map (request_pin r3 n) fs) p.buffer.held.value)
  pub contents : buffer.contents ≡ p.buffer.contents

low_files : (site : Site) (h : History) (who : Who) (ws : List Wanted) (f : ℕ) → has_number f (files_staged site h ws) ≡ true → f ≤ length h
low_files site h who ws f among = (let named = staged_named site h who ws f among in (known_path h named.0 f named.1).0)

kept_number : (test : ℕ → Bool) (f : ℕ) (fs : List ℕ) → has_number f (filter test fs) ≡ true → has_number f fs ≡ true
kept_number test f [] e = e
kept_number test f (g ∷ fs) e = by (f == g) refl (test g) e (λ x. kept_number test f fs x)
  where
    by : (a : Bool) → (f == g) ≡ a → (b : Bool) → has_number f (if b then g ∷ filter test fs else filter test fs) ≡ true → (has_number f (filter test fs) ≡ true → has_number f fs ≡ true) → (a || has_number f fs) ≡ true
    by true ea b x rest = refl
    by false ea true x rest = rest (rw ea at x)
    by false ea false x rest = rest x

longer : (h : History) (e : Entry) (n : ℕ) → n ≡ length h + 1 → n ≡ length (e ∷ h)
longer h e n is = omega arith

pub stage_called : (of_copies : PlacesAreOfCopies) (on_site : PlacesAreOnSite) (site : Site) (h : History) (t n : ℕ) (who : Who) (ws : List Wanted) (fs : List ℕ) (s : Sorted) (p : ArchiveParts) (r0 r1 r2 r3 : Requests) (buffer : Stored) (joined book : Roomed JobRows) (recalls : Roomed Queues)
    → ClassesAreKnown site → IsStaged site h t n who ws fs s p r0 r1 r2 r3 buffer joined book recalls
    → AreKeptCalled site h (stage_entry h t who ws n) p (record p { buffer = buffer; requests = r3; book = book; recalls = recalls })
stage_called of_copies on_site site h t n who ws fs s p r0 r1 r2 r3 buffer joined book recalls known d =
    let here : s.here.items ≡ filter (is_resident h) (files_staged site h ws) = d.sorted.here ∙ ap (filter (is_held p.buffer.held.value)) d.named ∙ here_are site h of_copies on_site known d.legal.0 p d.kept (files_staged site h ws) in
    let lost : s.lost.items ≡ filter (is_lost site h) (files_staged site h ws) =
    d.sorted.lost ∙ ap (filter (lost_by p.buffer.held.value p.tapes.value)) d.named ∙ lost_are site h of_copies on_site known d.legal.0 p d.kept (files_staged site h ws) in
    let began : s.started.items ≡ filter (starts_at_once site h (stage_entry h t who ws n)) (files_staged site h ws) =
    d.sorted.started ∙ ap (filter (starts_by p.buffer.held.value p.tapes.value (book_in p.book.value))) d.named ∙ started_are_so site h of_copies on_site known d.legal.0 p d.kept t n who ws in
    let joins : s.recalled.items ≡ recalled site h (wanted_files h ws []) =
    d.sorted.recalled ∙ ap (filter (λ f. is_some ((book_in p.book.value).recall f))) d.named ∙ recalled_are site h of_copies on_site known d.legal.0 p d.kept (files_staged site h ws) ∙ ap (recalled site h) (staged_are site h ws) in
    let bears : s.bearing.items ≡ bearing site h (ask.Stage who (rows ws)) (files_staged site h ws) =
    d.sorted.bearing ∙ ap (filter (bears_by p.buffer.held.value p.tapes.value (book_in p.book.value))) d.named ∙ bearing_are site h of_copies on_site known d.legal.0 p d.kept who ws in
    let births_are : s.bearing.items ≡ bearing site h (ask.Stage who (rows ws)) (wanted_files h ws []) = bears ∙ ap (bearing site h (ask.Stage who (rows ws))) (staged_are site h ws) in
    let r : RequestsAgree r3 (after_stage site h (stage_entry h t who ws n) (files_staged site h ws) (add_request (length h + 1) (moment_of h t) (stage_files site h ws) p.requests)) =
    requests_so here lost began in
    record {
      parts = record {
        space = record {
          names = λ path. refl;
          tapes = same_table p.tapes.value d.kept.stand.space.tapes.distinct;
          buffer = held_so r;
          requests = r;
          repacks = λ k. refl;
        };
        jobs = record {
          book = book_so joins births_are;
          pools = λ k. sym (ap (λ (js : List Job). add_jobs site (stage_entry h t who ws n ∷ h) direction.Archive js (lines_in p.pools.value) k) (recalls_not_written (length (stage_entry h t who ws n ∷ h)) (bearing site h (ask.Stage who (rows ws)) (wanted_files h ws []))));
          recalls = λ k. tapes_so births_are k;
          counts = λ way vo. refl;
        };
        mounts = refl;
        downs = λ k. refl;
        failed = refl;
      };
      contents = λ f. ap (λ (xs : List (ℕ × Sum256)). content_in xs f) d.contents;
      fit = record { tapes = d.kept.fit.tapes; pools = d.kept.fit.pools; recalls = d.keys ∙ d.kept.fit.recalls; vos = d.kept.fit.vos; drives = d.kept.fit.drives };
      named = λ k. refl;
    }
  where
    requests_so : s.here.items ≡ filter (is_resident h) (files_staged site h ws) → s.lost.items ≡ filter (is_lost site h) (files_staged site h ws) → s.started.items ≡ filter (starts_at_once site h (stage_entry h t who ws n)) (files_staged site h ws)
        → RequestsAgree r3 (after_stage site h (stage_entry h t who ws n) (files_staged site h ws) (add_request (length h + 1) (moment_of h t) (stage_files site h ws) p.requests))
    requests_so here lost began =
        subst (λ (m : ℕ). RequestsAgree r3 (finish_all (moment_of h t) (λ f. ends.Failed (codes "no tape is left")) (asked_by m (filter (is_lost site h) (files_staged site h ws))) (finish_all (moment_of h t) (λ f. ends.Completed) (asked_by m (filter (is_resident h) (files_staged site h ws))) (start_all (moment_of h t) (asked_by m (filter (starts_at_once site h (stage_entry h t who ws n)) (files_staged site h ws))) (add_request m (moment_of h t) (stage_files site h ws) p.requests))))) d.number
        (subst (λ (xs : List ℕ). RequestsAgree r3 (finish_all (moment_of h t) (λ f. ends.Failed (codes "no tape is left")) (asked_by n xs) (finish_all (moment_of h t) (λ f. ends.Completed) (asked_by n (filter (is_resident h) (files_staged site h ws))) (start_all (moment_of h t) (asked_by n (filter (starts_at_once site h (stage_entry h t who ws n)) (files_staged site h ws))) (add_request n (moment_of h t) (stage_files site h ws) p.requests))))) lost
        (subst (λ (xs : List ℕ). RequestsAgree r3 (finish_all (moment_of h t) (λ f. ends.Failed (codes "no tape is left")) (asked_by n s.lost.items) (finish_all (moment_of h t) (λ f. ends.Completed) (asked_by n xs) (start_all (moment_of h t) (asked_by n (filter (starts_at_once site h (stage_entry h t who ws n)) (files_staged site h ws))) (add_request n (moment_of h t) (stage_files site h ws) p.requests))))) here
        (subst (λ (xs : List ℕ). RequestsAgree r3 (finish_all (moment_of h t) (λ f. ends.Failed (codes "no tape is left")) (asked_by n s.lost.items) (finish_all (moment_of h t) (λ f. ends.Completed) (asked_by n s.here.items) (start_all (moment_of h t) (asked_by n xs) (add_request n (moment_of h t) (stage_files site h ws) p.requests))))) began
        (settled_so (moment_of h t) n s.here.items s.lost.items s.started.items (add_request n (moment_of h t) (stage_files site h ws) p.requests) r0 r1 r2 r3 d.added d.began d.done d.failed))))

    held_so : RequestsAgree r3 (after_stage site h (stage_entry h t who ws n) (files_staged site h ws) (add_request (length h + 1) (moment_of h t) (stage_files site h ws) p.requests))
        → HeldAgree buffer.held.value (pin_all (flat_map (pins_told site (stage_entry h t who ws n ∷ h) (length h + 1)) (files_staged site h ws)) p.buffer.held.value)
    held_so r =
        subst (λ (ps : List HeldPin). HeldAgree buffer.held.value (pin_all ps p.buffer.held.value))
        (ap (λ (m : ℕ). flat_map (request_pin r3 m) fs) d.number
        ∙ all_pins_are site h (stage_entry h t who ws n) who (rows ws) r3 fs d.legal refl (calls_move_requests site h (stage_entry h t who ws n) p.requests r3 d.legal d.kept.stand.space.requests r)
        ∙ ap (flat_map (pins_told site (stage_entry h t who ws n ∷ h) (length h + 1))) d.named)
        d.pinned

    book_so : s.recalled.items ≡ recalled site h (wanted_files h ws []) → s.bearing.items ≡ bearing site h (ask.Stage who (rows ws)) (wanted_files h ws [])
        → TellSame (book_in book.value) (bear_jobs (recalls_of (length (stage_entry h t who ws n ∷ h)) (bearing site h (ask.Stage who (rows ws)) (wanted_files h ws []))) (length (stage_entry h t who ws n ∷ h)) (subscribe_files (recalled site h (wanted_files h ws [])) (length (stage_entry h t who ws n ∷ h)) (book_in p.book.value)))
    book_so joins births_are =
        subst (λ (m : ℕ). TellSame (book_in book.value) (bear_jobs (recalls_of m (bearing site h (ask.Stage who (rows ws)) (wanted_files h ws []))) m (subscribe_files (recalled site h (wanted_files h ws [])) m (book_in p.book.value)))) (longer h (stage_entry h t who ws n) n d.number)
        (subst (λ (xs : List ℕ). TellSame (book_in book.value) (bear_jobs (recalls_of n xs) n (subscribe_files (recalled site h (wanted_files h ws [])) n (book_in p.book.value)))) births_are
        (subst (λ (xs : List ℕ). TellSame (book_in book.value) (bear_jobs (recalls_of n s.bearing.items) n (subscribe_files xs n (book_in p.book.value)))) joins
        (tell_chain _ _ _ d.born (bear_same (recalls_of n s.bearing.items) n (book_in joined.value) (subscribe_files s.recalled.items n (book_in p.book.value)) d.subscribed))))

    tapes_so : s.bearing.items ≡ bearing site h (ask.Stage who (rows ws)) (wanted_files h ws []) → (k : ℕ)
        → lines_in recalls.value k ≡ add_jobs site (stage_entry h t who ws n ∷ h) direction.Retrieve (of_way direction.Retrieve (recalls_of (length (stage_entry h t who ws n ∷ h)) (bearing site h (ask.Stage who (rows ws)) (wanted_files h ws [])))) (lines_in p.recalls.value) k
    tapes_so births_are k =
        d.lines k
        ∙ queued_so site h of_copies on_site known d.legal.0 p d.kept t n who ws (lines_in p.recalls.value) s.bearing.items k d.number
        (λ f among. low_files site h who ws f (ap (has_number f) (sym d.named) ∙ kept_number (bears_by p.buffer.held.value p.tapes.value (book_in p.book.value)) f fs (ap (has_number f) (sym d.sorted.bearing) ∙ among)))
        ∙ ap (λ (xs : List ℕ). add_jobs site (stage_entry h t who ws n ∷ h) direction.Retrieve (recalls_of n xs) (lines_in p.recalls.value) k) births_are
        ∙ ap (λ (m : ℕ). add_jobs site (stage_entry h t who ws n ∷ h) direction.Retrieve (recalls_of m (bearing site h (ask.Stage who (rows ws)) (wanted_files h ws []))) (lines_in p.recalls.value) k) (longer h (stage_entry h t who ws n) n d.number)
        ∙ ap (λ (js : List Job). add_jobs site (stage_entry h t who ws n ∷ h) direction.Retrieve js (lines_in p.recalls.value) k) (sym (recalls_read (length (stage_entry h t who ws n ∷ h)) (bearing site h (ask.Stage who (rows ws)) (wanted_files h ws []))))
