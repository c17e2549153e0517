use Rattle.std.proofs.Common.{◌∙◌, ℕ, List, ap, subst}
use Rattle.std.specs.Prelude.{codes}
use Rattle.cta_model.specs.History.{History}
use Rattle.cta_model.specs.Stages.{stage_files}
use Rattle.part_model.specs.declared.space.FileEnd.TheVariants as ends
use Rattle.part_model.specs.JobBook.{TellSame, bear_jobs, subscribe_files}
use Rattle.part_model.specs.JobRows.{book_in}
use Rattle.part_model.specs.Queues.{lines_in}
use Rattle.part_model.specs.Requests.{RequestsAgree, add_request, finish_all, start_all}
use Rattle.part_laws.specs.BookCalls.{asked_by}
use Rattle.part_laws.specs.Births.{recalls_of}
use Rattle.caller_asks.specs.Wanted.{add_recalls}
use Rattle.caller_asks.proofs.StageCalls.{stage_called}
use Rattle.caller_asks.proofs.stages.settle_stage.Goals as goal

pub returns : goal.returns
returns c =
    λ h t who wanted requests legal is at number kept added named.
    stage_called c.places_are_of_copies.ensures c.places_are_on_site.ensures c.args.site.now h t c.args.number who wanted c.args.numbers.now c.args.sorted.now (record c.args.parts.now { requests = requests })
    c.args.parts.now.requests c.start_all.new.requests c.complete_all.new.requests c.fail_all.new.requests c.pin_files.new.buffer c.join_all.new.book c.bear_all.new.book c.queue_all.new.recalls c.numbers_are_known.ensures.classes
    (record {
      legal = legal;
      kept = kept;
      number = number;
      named = named;
      sorted = c.requires.sorted;
      added = subst (λ (m : ℕ). RequestsAgree c.args.parts.now.requests (add_request c.args.number m (stage_files c.args.site.now h wanted) requests)) at added;
      began = subst (λ (m : ℕ). RequestsAgree c.start_all.new.requests (start_all m (asked_by c.args.number c.args.sorted.now.started.items) c.args.parts.now.requests)) at
          (subst (λ (xs : List ℕ). RequestsAgree c.start_all.new.requests (start_all c.args.at (asked_by c.args.number xs) c.args.parts.now.requests)) c.as_slice.ensures.value c.start_all.ensures);
      done = subst (λ (m : ℕ). RequestsAgree c.complete_all.new.requests (finish_all m (λ f. ends.Completed) (asked_by c.args.number c.args.sorted.now.here.items) c.start_all.new.requests)) at
          (subst (λ (xs : List ℕ). RequestsAgree c.complete_all.new.requests (finish_all c.args.at (λ f. ends.Completed) (asked_by c.args.number xs) c.start_all.new.requests)) c.as_slice-2.ensures.value c.complete_all.ensures);
      failed = subst (λ (m : ℕ). RequestsAgree c.fail_all.new.requests (finish_all m (λ f. ends.Failed (codes "no tape is left")) (asked_by c.args.number c.args.sorted.now.lost.items) c.complete_all.new.requests)) at
          (subst (λ (xs : List ℕ). RequestsAgree c.fail_all.new.requests (finish_all c.args.at (λ f. ends.Failed (codes "no tape is left")) (asked_by c.args.number xs) c.complete_all.new.requests)) c.as_slice-3.ensures.value c.fail_all.ensures);
      subscribed = subst (λ (xs : List ℕ). TellSame (book_in c.join_all.new.book.value) (subscribe_files xs c.args.number (book_in c.args.parts.now.book.value))) c.as_slice-4.ensures.value c.join_all.ensures.book;
      born = subst (λ (xs : List ℕ). TellSame (book_in c.bear_all.new.book.value) (bear_jobs (recalls_of c.args.number xs) c.args.number (book_in c.join_all.new.book.value))) c.as_slice-bearing.ensures.value c.bear_all.ensures;
      lines = λ k.
          c.queue_all.ensures.lines k
          ∙ ap (λ (xs : List ℕ). add_recalls c.args.site.now c.args.history.now.value c.args.parts.now.tapes.value c.args.number xs (lines_in c.args.parts.now.recalls.value) k) c.as_slice-bearing.ensures.value
          ∙ ap (λ (g : History). add_recalls c.args.site.now g c.args.parts.now.tapes.value c.args.number c.args.sorted.now.bearing.items (lines_in c.args.parts.now.recalls.value) k) is;
      keys = c.queue_all.ensures.keys;
      pinned = c.pin_files.ensures.held;
      contents = c.pin_files.ensures.contents;
    })
