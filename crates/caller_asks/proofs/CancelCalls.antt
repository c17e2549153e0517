-- The calls for a Cancel.
use Rattle.std.proofs.Common.{◌≡◌, ◌∙◌, ℕ, List, [], ◌∷◌, ◌++◌, true, refl, sym, ap, subst, length}
use Rattle.std.specs.Prelude.{Option}
use Rattle.std.specs.List.{filter_map}
use Rattle.cta_site.specs.declared.site.Site.{Site}
use Rattle.cta_site.specs.Listed.{rows}
use Rattle.cta_model.specs.declared.answers.Answer.TheVariants as answer
use Rattle.cta_model.specs.declared.asks.Ask.TheVariants as ask
use Rattle.cta_model.specs.declared.asks.Job.{Job}
use Rattle.cta_model.specs.declared.asks.Who.{Who}
use Rattle.cta_model.specs.declared.entries.Actor.TheVariants as actor
use Rattle.cta_model.specs.Answers.{answer_of, is_accepted}
use Rattle.cta_model.specs.History.{History}
use Rattle.cta_model.specs.Legal.{IsLegal}
use Rattle.cta_model.specs.Recalls.{Recall, live_recall}
use Rattle.cta_laws.proofs.Accepted.{answer_is}
use Rattle.part_model.specs.declared.space.FileEnd.TheVariants as ends
use Rattle.part_model.specs.JobBook.{TellSame, drop_files}
use Rattle.part_model.specs.JobRows.{JobRows, book_in}
use Rattle.part_model.specs.Names.{file_in}
use Rattle.part_model.specs.Queues.{Queues, drop_jobs, lines_in}
use Rattle.part_model.specs.Requests.{Requests, RequestsAgree, finish_all}
use Rattle.part_model.specs.Room.{Roomed}
use Rattle.part_laws.specs.BookCalls.{asked_by}
use Rattle.part_laws.specs.AllAsks.{leave_paths}
use Rattle.part_laws.specs.Ends.{last_of, last_recalls, named_files}
use Rattle.part_laws.specs.AllParts.{TellSameJobs, jobs_in}
use Rattle.archive_parts.specs.Called.{AreKeptCalled}
use Rattle.archive_parts.specs.PartsKept.{ArePartsKept, values_of}
use Rattle.archive_parts.specs.declared.parts.ArchiveParts.{ArchiveParts}
use Rattle.caller_asks.specs.Recalls.{lasts_of}
use Rattle.caller_asks.proofs.CancelledFiles.{cancelled_same, names_are}
use Rattle.part_moves.proofs.SameParts.{same_buffer, same_table}

pub cancel_answered : (site : Site) (h : History) (t id : ℕ) (who : Who) (paths : List (List ℕ)) → is_accepted (answer_of site h t (ask.Cancel who id (rows paths))) ≡ true → answer.Done ≡ answer_of site h t (ask.Cancel who id (rows paths))
cancel_answered site h t id who paths accepted = sym (answer_is site h t (ask.Cancel who id (rows paths)) (answer_of site h t (ask.Cancel who id (rows paths))) refl accepted).0

-- the recalls that end, by a book that stands for the history
lasts_are : (site : Site) (h : History) (recalls : ℕ → Option Recall) (id : ℕ) (fs : List ℕ) → ((f : ℕ) → recalls f ≡ live_recall site h f) → lasts_of recalls id fs ≡ last_recalls site h id fs
lasts_are site h recalls id [] same = refl
lasts_are site h recalls id (f ∷ fs) same =
    ap (λ (o : Option Recall). last_of id f o ++ lasts_of recalls id fs) (same f)
    ∙ ap (λ (js : List Job). last_of id f (live_recall site h f) ++ js) (lasts_are site h recalls id fs same)

-- paths are taken from a request
pub paths_left : (site : Site) (h : History) (id : ℕ) (files : List ℕ) (paths : List (List ℕ)) (p : ArchiveParts) (book : Roomed JobRows) (recalls : Roomed Queues) → ArePartsKept site h p
    → files ≡ named_files h paths → TellSame (book_in book.value) (drop_files files id (book_in p.book.value))
    → ((k : ℕ) → lines_in recalls.value k ≡ drop_jobs (lasts_of (book_in p.book.value).recall id files) (lines_in p.recalls.value) k)
    → TellSameJobs (jobs_in (values_of (record p { book = book; recalls = recalls }))) (leave_paths site h id paths (jobs_in (values_of p)))
paths_left site h id files paths p book recalls kept are told lines = record {
  book = subst (λ (fs : List ℕ). TellSame (book_in book.value) (drop_files fs id (book_in p.book.value))) are told;
  pools = λ key. refl;
  recalls = λ k.
      lines k
      ∙ ap (λ (js : List Job). drop_jobs js (lines_in p.recalls.value) k) (lasts_are site h (book_in p.book.value).recall id files kept.stand.jobs.book.recall)
      ∙ ap (λ (fs : List ℕ). drop_jobs (last_recalls site h id fs) (lines_in p.recalls.value) k) are;
  counts = λ way vo. refl;
}

pub cancel_called : (site : Site) (h : History) (t id : ℕ) (who : Who) (paths : List (List ℕ)) (files : List ℕ) (p : ArchiveParts) (requests : Requests) (book : Roomed JobRows) (recalls : Roomed Queues) → IsLegal site h → ArePartsKept site h p
    → files ≡ filter_map (file_in p.names) paths → RequestsAgree requests (finish_all t (λ f. ends.Cancelled) (asked_by id files) p.requests)
    → TellSame (book_in book.value) (drop_files files id (book_in p.book.value))
    → ((k : ℕ) → lines_in recalls.value k ≡ drop_jobs (lasts_of (book_in p.book.value).recall id files) (lines_in p.recalls.value) k) → length recalls.value ≡ length p.recalls.value
    → AreKeptCalled site h (record { at = t; actor = actor.Caller who; ask = ask.Cancel who id (rows paths); answer = answer.Done }) p (record p { requests = requests; book = book; recalls = recalls })
cancel_called site h t id who paths files p requests book recalls legal kept found cancelled told lines keys =
    let are : files ≡ named_files h paths = found ∙ names_are h p.names paths kept.stand.space.names in
    record {
      parts = record {
        space = record {
          names = λ path. refl;
          tapes = same_table p.tapes.value kept.stand.space.tapes.distinct;
          buffer = same_buffer p.buffer.held.value;
          requests = cancelled_same site h legal p.requests kept.stand.space.requests t id paths requests (subst (λ (fs : List ℕ). RequestsAgree requests (finish_all t (λ f. ends.Cancelled) (asked_by id fs) p.requests)) are cancelled);
          repacks = λ k. refl;
        };
        jobs = paths_left site h id files paths p book recalls kept are told lines;
        mounts = refl;
        downs = λ d. refl;
        failed = refl;
      };
      contents = λ f. refl;
      fit = record { tapes = kept.fit.tapes; pools = kept.fit.pools; recalls = keys ∙ kept.fit.recalls; vos = kept.fit.vos; drives = kept.fit.drives };
      named = λ k. refl;
    }
