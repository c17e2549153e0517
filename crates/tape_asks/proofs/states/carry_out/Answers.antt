use Rattle.std.proofs.Common.{◌≡◌, ◌∙◌, ℕ, List, length, sym, subst}
use Rattle.std.specs.Prelude.{codes}
use Rattle.cta_site.specs.declared.site.Site.{Site}
use Rattle.cta_site.specs.Laws.{ClassesAreKnown}
use Rattle.cta_site.specs.ValidSite.{IsValidSite}
use Rattle.cta_site.specs.WellFormed.{IsWellFormed}
use Rattle.cta_model.specs.declared.answers.Answer.TheVariants as answer
use Rattle.cta_model.specs.declared.asks.Direction.TheVariants as direction
use Rattle.cta_model.specs.declared.asks.Job.{Job}
use Rattle.cta_model.specs.declared.reports.ItemState.TheVariants as item
use Rattle.cta_model.specs.Files.{copies_of_file}
use Rattle.part_model.specs.declared.space.FileEnd.TheVariants as ends
use Rattle.part_model.specs.Held.{HeldAgree, set_all}
use Rattle.part_model.specs.JobBook.{TellSame, end_jobs}
use Rattle.part_model.specs.JobRows.{book_in}
use Rattle.part_model.specs.Queues.{drop_jobs, lines_in}
use Rattle.part_model.specs.Repacks.{RepacksAgree, set_states}
use Rattle.part_model.specs.Requests.{RequestsAgree, finish_all}
use Rattle.part_model.specs.Tapes.{safe_in}
use Rattle.part_laws.specs.Lines.{line_of}
use Rattle.repack_book.specs.NamedRepacks.{repacks_of}
use Rattle.part_moves.specs.Flags.{job_files}
use Rattle.fault_asks.specs.Failing.{CanQueue, add_by, jobs_live}
use Rattle.fault_asks.specs.Reading.{pair_targets, source_in}
use Rattle.archive_parts.proofs.Behind.{kept_behind}
use Rattle.fault_asks.proofs.FailFacts.{entries_fit, small_files}
use Rattle.tape_asks.proofs.FoundLists.{waits_few}
use Rattle.tape_asks.proofs.StateCalls.{IsTurnedBack, turned_called}
use Rattle.tape_asks.proofs.StateFacts.{IsChange, done_is, keys_low, keys_still_low, moved_back, moved_fits, moved_stand, turned}
use Rattle.tape_asks.proofs.states.carry_out.Goals as goal

pub leave_reads-requires-clause-keys : goal.leave_reads-requires-clause-keys
leave_reads-requires-clause-keys c =
    let w : IsChange c.args.site.now c.args.history.now.value c.args.at c.args.who c.args.tape c.args.state c.args.parts.now = record {
      legal = c.requires.carrying.legal;
      within = c.requires.carrying.at;
      accepted = c.requires.carrying.accepted;
      kept = c.requires.carrying.kept;
      valid = subst IsValidSite c.site-rules.ensures c.keeps_rules.ensures.valid;
      good = subst IsWellFormed c.site-rules.ensures c.keeps_rules.ensures.parts;
      classes = subst ClassesAreKnown c.site-rules.ensures c.numbers_are_known.ensures.classes;
    } in
    keys_low c.args.site.now c.args.history.now.value c.args.at c.args.who c.args.tape c.args.state c.args.parts.now w c.places_are_on_site.ensures

pub leave_reads-requires-clause-stand : goal.leave_reads-requires-clause-stand
leave_reads-requires-clause-stand c =
    let w : IsChange c.args.site.now c.args.history.now.value c.args.at c.args.who c.args.tape c.args.state c.args.parts.now = record {
      legal = c.requires.carrying.legal;
      within = c.requires.carrying.at;
      accepted = c.requires.carrying.accepted;
      kept = c.requires.carrying.kept;
      valid = subst IsValidSite c.site-rules.ensures c.keeps_rules.ensures.valid;
      good = subst IsWellFormed c.site-rules.ensures c.keeps_rules.ensures.parts;
      classes = subst ClassesAreKnown c.site-rules.ensures c.numbers_are_known.ensures.classes;
    } in
    moved_stand c.args.site.now c.args.history.now.value c.args.at c.args.who c.args.tape c.args.state c.args.parts.now w c.places_are_of_copies.ensures c.places_are_on_site.ensures c.as_slice-waits.result.now (c.as_slice-waits.ensures.value ∙ c.requires.found.moved)

pub queue_reads-requires-clause-keys : goal.queue_reads-requires-clause-keys
queue_reads-requires-clause-keys c =
    let w : IsChange c.args.site.now c.args.history.now.value c.args.at c.args.who c.args.tape c.args.state c.args.parts.now = record {
      legal = c.requires.carrying.legal;
      within = c.requires.carrying.at;
      accepted = c.requires.carrying.accepted;
      kept = c.requires.carrying.kept;
      valid = subst IsValidSite c.site-rules.ensures c.keeps_rules.ensures.valid;
      good = subst IsWellFormed c.site-rules.ensures c.keeps_rules.ensures.parts;
      classes = subst ClassesAreKnown c.site-rules.ensures c.numbers_are_known.ensures.classes;
    } in
    keys_still_low c.args.site.now c.args.history.now.value c.args.at c.args.who c.args.tape c.args.state c.args.parts.now w c.places_are_on_site.ensures c.set_state.new.self.value (length c.leave_reads.new.recalls.value) c.set_state.ensures.table c.leave_reads.ensures.keys

pub queue_reads-requires-clause-jobs : goal.queue_reads-requires-clause-jobs
queue_reads-requires-clause-jobs c =
    let w : IsChange c.args.site.now c.args.history.now.value c.args.at c.args.who c.args.tape c.args.state c.args.parts.now = record {
      legal = c.requires.carrying.legal;
      within = c.requires.carrying.at;
      accepted = c.requires.carrying.accepted;
      kept = c.requires.carrying.kept;
      valid = subst IsValidSite c.site-rules.ensures c.keeps_rules.ensures.valid;
      good = subst IsWellFormed c.site-rules.ensures c.keeps_rules.ensures.parts;
      classes = subst ClassesAreKnown c.site-rules.ensures c.numbers_are_known.ensures.classes;
    } in
    subst (λ (x : Site). CanQueue x c.args.history.now.value (book_in c.end_all.new.book.value) (lines_in c.leave_reads.new.recalls.value) c.as_slice-waits.result.now) (sym c.site-rules.ensures)
    (moved_back c.args.site.now c.args.history.now.value c.args.at c.args.who c.args.tape c.args.state c.args.parts.now w c.as_slice-waits.result.now c.end_all.new.book.value (lines_in c.leave_reads.new.recalls.value) (c.as_slice-waits.ensures.value ∙ c.requires.found.moved) c.leave_reads.ensures.lines)

pub queue_reads-requires-clause-small : goal.queue_reads-requires-clause-small
queue_reads-requires-clause-small c =
    let w : IsChange c.args.site.now c.args.history.now.value c.args.at c.args.who c.args.tape c.args.state c.args.parts.now = record {
      legal = c.requires.carrying.legal;
      within = c.requires.carrying.at;
      accepted = c.requires.carrying.accepted;
      kept = c.requires.carrying.kept;
      valid = subst IsValidSite c.site-rules.ensures c.keeps_rules.ensures.valid;
      good = subst IsWellFormed c.site-rules.ensures c.keeps_rules.ensures.parts;
      classes = subst ClassesAreKnown c.site-rules.ensures c.numbers_are_known.ensures.classes;
    } in
    small_files c.files_fit_buffer.ensures c.args.site.now c.args.history.now.value w.good w.legal

pub queue_reads-requires-clause-fits : goal.queue_reads-requires-clause-fits
queue_reads-requires-clause-fits c =
    let w : IsChange c.args.site.now c.args.history.now.value c.args.at c.args.who c.args.tape c.args.state c.args.parts.now = record {
      legal = c.requires.carrying.legal;
      within = c.requires.carrying.at;
      accepted = c.requires.carrying.accepted;
      kept = c.requires.carrying.kept;
      valid = subst IsValidSite c.site-rules.ensures c.keeps_rules.ensures.valid;
      good = subst IsWellFormed c.site-rules.ensures c.keeps_rules.ensures.parts;
      classes = subst ClassesAreKnown c.site-rules.ensures c.numbers_are_known.ensures.classes;
    } in
    moved_fits c.args.site.now c.args.history.now.value c.args.at c.args.who c.args.tape c.args.state c.args.parts.now w c.lines_are_small.ensures c.as_slice-waits.result.now (lines_in c.leave_reads.new.recalls.value)
    (waits_few c.args.site.now c.args.history.now.value c.args.tape c.as_slice-waits.result.now c.fseqs_are_low.ensures w.good w.legal c.requires.found.once (c.as_slice-waits.ensures.value ∙ c.requires.found.moved)) c.leave_reads.ensures.lines

pub append-requires-clause-few : goal.append-requires-clause-few
append-requires-clause-few c =
    let w : IsChange c.args.site.now c.args.history.now.value c.args.at c.args.who c.args.tape c.args.state c.args.parts.now = record {
      legal = c.requires.carrying.legal;
      within = c.requires.carrying.at;
      accepted = c.requires.carrying.accepted;
      kept = c.requires.carrying.kept;
      valid = subst IsValidSite c.site-rules.ensures c.keeps_rules.ensures.valid;
      good = subst IsWellFormed c.site-rules.ensures c.keeps_rules.ensures.parts;
      classes = subst ClassesAreKnown c.site-rules.ensures c.numbers_are_known.ensures.classes;
    } in
    entries_fit c.args.site.now c.args.history.now.value w.good w.legal

pub returns-clause-kept : goal.returns-clause-kept
returns-clause-kept c =
    let w : IsChange c.args.site.now c.args.history.now.value c.args.at c.args.who c.args.tape c.args.state c.args.parts.now = record {
      legal = c.requires.carrying.legal;
      within = c.requires.carrying.at;
      accepted = c.requires.carrying.accepted;
      kept = c.requires.carrying.kept;
      valid = subst IsValidSite c.site-rules.ensures c.keeps_rules.ensures.valid;
      good = subst IsWellFormed c.site-rules.ensures c.keeps_rules.ensures.parts;
      classes = subst ClassesAreKnown c.site-rules.ensures c.numbers_are_known.ensures.classes;
    } in
    let done : IsTurnedBack c.args.site.now c.args.history.now.value c.args.at c.args.who c.args.tape c.args.state c.moment_of-now.result c.args.ready.found c.args.parts.now c.leave_reads.new.recalls c.queue_reads.new.recalls c.set_state.new.self c.end_all.new.book c.fail_readers.new.repacks c.fail_all.new.requests c.set_flags.new.buffer = record {
      change = w;
      moment = c.moment_of-now.ensures;
      found = c.requires.found;
      away = λ k. subst (λ (js : List Job). lines_in c.leave_reads.new.recalls.value k ≡ drop_jobs js (lines_in c.args.parts.now.recalls.value) k) c.as_slice-waits.ensures.value (c.leave_reads.ensures.lines k);
      stated = c.set_state.ensures.table;
      sized = c.set_state.ensures.tapes;
      ended = subst (λ (js : List Job). TellSame (book_in c.end_all.new.book.value) (end_jobs js (book_in c.args.parts.now.book.value))) c.as_slice.ensures.value c.end_all.ensures;
      back = λ k. subst (λ (x : Site). lines_in c.queue_reads.new.recalls.value k ≡ add_by (source_in c.set_state.new.self.value (book_in c.end_all.new.book.value)) (line_of x c.args.history.now.value direction.Retrieve) (jobs_live (book_in c.end_all.new.book.value) c.args.ready.found.moved.items) (lines_in c.leave_reads.new.recalls.value) k) c.site-rules.ensures
          (subst (λ (js : List Job). lines_in c.queue_reads.new.recalls.value k ≡ add_by (source_in c.set_state.new.self.value (book_in c.end_all.new.book.value)) (line_of c.site-rules.result.now c.args.history.now.value direction.Retrieve) (jobs_live (book_in c.end_all.new.book.value) js) (lines_in c.leave_reads.new.recalls.value) k) c.as_slice-waits.ensures.value (c.queue_reads.ensures.lines k));
      keys = c.queue_reads.ensures.keys ∙ c.leave_reads.ensures.keys;
      failed = subst (λ (xs : List (ℕ × ℕ)). RepacksAgree (repacks_of c.fail_readers.new.repacks) (set_states item.Failed (pair_targets xs) (repacks_of c.args.parts.now.repacks))) c.as_slice-losers.ensures.value c.fail_readers.ensures.repacks;
      named = c.fail_readers.ensures.names;
      files = subst (λ (xs : List (ℕ × ℕ)). RequestsAgree c.fail_all.new.requests (finish_all c.moment_of-now.result (λ f. ends.Failed (codes "no tape is left")) xs c.args.parts.now.requests)) c.as_slice-losers.ensures.value c.fail_all.ensures;
      flags = subst (λ (x : Site). HeldAgree c.set_flags.new.buffer.held.value (set_all (λ f. safe_in c.set_state.new.self.value (book_in c.end_all.new.book.value).archive f (copies_of_file x c.args.history.now.value f)) (job_files c.args.ready.found.items.items) c.args.parts.now.buffer.held.value)) c.site-rules.ensures
          (subst (λ (js : List Job). HeldAgree c.set_flags.new.buffer.held.value (set_all (λ f. safe_in c.set_state.new.self.value (book_in c.end_all.new.book.value).archive f (copies_of_file c.site-rules.result.now c.args.history.now.value f)) (job_files js) c.args.parts.now.buffer.held.value)) c.as_slice-2.ensures.value c.set_flags.ensures.held);
      still = c.set_flags.ensures.contents;
    } in
    kept_behind c.args.site.now c.args.history.now.value c.append.new.self.value c.args.at (turned c.args.who c.args.tape c.args.state) answer.Done c.args.parts.now _ c.kept_parts_move.ensures c.requires.carrying.legal c.requires.carrying.kept c.requires.carrying.at tt
    (done_is c.args.site.now c.args.history.now.value c.args.at c.args.who c.args.tape c.args.state c.args.parts.now w) c.requires.carrying.accepted
    (turned_called c.places_are_of_copies.ensures c.places_are_on_site.ensures c.args.site.now c.args.history.now.value c.args.at c.args.who c.args.tape c.args.state c.moment_of-now.result c.args.ready.found c.args.parts.now c.leave_reads.new.recalls c.queue_reads.new.recalls c.set_state.new.self c.end_all.new.book c.fail_readers.new.repacks c.fail_all.new.requests c.set_flags.new.buffer done)
    c.append.ensures
