-- The calls for a DropStage.
use Rattle.std.proofs.Common.{◌≡◌, ◌∙◌, ℕ, List, [], ◌∷◌, true, refl, sym, ap, subst, length}
use Rattle.std.specs.Prelude.{Option, Some, None, map}
use Rattle.std.specs.List.{filter_map}
use Rattle.blob.specs.declared.sum.Sum256.{Sum256}
use Rattle.cta_site.specs.declared.site.Site.{Site}
use Rattle.cta_model.specs.declared.answers.Answer.TheVariants as answer
use Rattle.cta_model.specs.declared.asks.Ask.TheVariants as ask
use Rattle.cta_model.specs.declared.asks.Who.{Who}
use Rattle.cta_model.specs.declared.entries.Actor.TheVariants as actor
use Rattle.cta_model.specs.declared.states.RequestFile.{RequestFile}
use Rattle.cta_model.specs.Answers.{answer_of, is_accepted}
use Rattle.cta_model.specs.History.{History}
use Rattle.cta_model.specs.Stages.{StageRequest, request_of}
use Rattle.cta_laws.proofs.Accepted.{answer_is}
use Rattle.disk_buffer.specs.Stays.{content_in}
use Rattle.disk_buffer.specs.Stored.{Stored}
use Rattle.part_model.specs.Held.{HeldAgree, unpin_all}
use Rattle.part_model.specs.JobBook.{TellSame, drop_files}
use Rattle.part_model.specs.JobRows.{JobRows, book_in}
use Rattle.part_model.specs.Names.{Names, file_in}
use Rattle.part_model.specs.Queues.{Queues, drop_jobs, lines_in}
use Rattle.part_model.specs.Requests.{Requests, RequestsAgree, remove_request, request_in}
use Rattle.part_model.specs.Room.{Roomed}
use Rattle.part_laws.specs.BufferCalls.{files_where, owned_by}
use Rattle.part_laws.specs.Names.{AreNames}
use Rattle.part_laws.specs.AllAsks as asks
use Rattle.part_laws.specs.AllAsks.{leave_paths}
use Rattle.part_laws.specs.Ends.{file_before, named_files}
use Rattle.part_laws.specs.JobParts.{JobParts}
use Rattle.part_laws.specs.AllParts.{TellSameJobs, jobs_in}
use Rattle.stage_book.specs.Reports.{files_of}
use Rattle.archive_parts.specs.Called.{AreKeptCalled}
use Rattle.archive_parts.specs.PartsKept.{ArePartsKept, values_of}
use Rattle.archive_parts.specs.declared.parts.ArchiveParts.{ArchiveParts}
use Rattle.caller_asks.specs.Recalls.{lasts_of}
use Rattle.caller_asks.proofs.CancelledFiles.{before_is}
use Rattle.caller_asks.proofs.CancelCalls.{paths_left}
use Rattle.caller_asks.proofs.Leaves.{dropped_none}
use Rattle.part_moves.proofs.SameParts.{same_table}

pub drop_answered : (site : Site) (h : History) (t id : ℕ) (who : Who) → is_accepted (answer_of site h t (ask.DropStage who id)) ≡ true → answer.Done ≡ answer_of site h t (ask.DropStage who id)
drop_answered site h t id who accepted = sym (answer_is site h t (ask.DropStage who id) (answer_of site h t (ask.DropStage who id)) refl accepted).0

-- the files that the paths of a request's files name
paths_name : (h : History) (names : Names) (ss : List RequestFile) → AreNames h names → filter_map (λ (s : RequestFile). file_in names s.path) ss ≡ named_files h (map (λ (s : RequestFile). s.path) ss)
paths_name h names [] are = refl
paths_name h names (s ∷ ss) are =
    before_is (file_in names s.path) (filter_map (λ (s : RequestFile). file_in names s.path) ss) (named_files h (map (λ (s : RequestFile). s.path) ss)) (paths_name h names ss are)
    ∙ ap (λ (o : Option ℕ). file_before o (named_files h (map (λ (s : RequestFile). s.path) ss))) (are s.path)

-- a request that is not there takes nothing along
dropped : (site : Site) (h : History) (id : ℕ) (o : Option StageRequest) (now was : JobParts) → TellSameJobs now (leave_paths site h id (map (λ (s : RequestFile). s.path) (files_of o)) was) → TellSameJobs now (asks.drop_request site h id o was)
dropped site h id (Some r) now was told = told
dropped site h id None now was told = record {
  book = record { recall = told.book.recall; archive = told.book.archive; claimer = told.book.claimer; charges = told.book.charges; last_birth = told.book.last_birth; named = told.book.named };
  pools = told.pools;
  recalls = λ k. told.recalls k ∙ sym (dropped_none was.recalls k);
  counts = told.counts;
}

pub drop_called : (site : Site) (h : History) (t id : ℕ) (who : Who) (found files : List ℕ) (p : ArchiveParts) (buffer : Stored) (requests : Requests) (book : Roomed JobRows) (recalls : Roomed Queues) → ArePartsKept site h p
    → found ≡ filter_map (λ (s : RequestFile). file_in p.names s.path) (files_of (request_in p.requests id)) → files ≡ files_where (λ q. true) (request_in p.requests id)
    → RequestsAgree requests (remove_request id p.requests)
    → HeldAgree buffer.held.value (unpin_all (owned_by id files) p.buffer.held.value) → buffer.contents ≡ p.buffer.contents
    → TellSame (book_in book.value) (drop_files found id (book_in p.book.value))
    → ((k : ℕ) → lines_in recalls.value k ≡ drop_jobs (lasts_of (book_in p.book.value).recall id found) (lines_in p.recalls.value) k) → length recalls.value ≡ length p.recalls.value
    → AreKeptCalled site h (record { at = t; actor = actor.Caller who; ask = ask.DropStage who id; answer = answer.Done }) p (record p { buffer = buffer; requests = requests; book = book; recalls = recalls })
drop_called site h t id who found files p buffer requests book recalls kept named are removed held contents told lines keys =
    let names : found ≡ named_files h (map (λ (s : RequestFile). s.path) (files_of (request_of site h id))) =
    named ∙ paths_name h p.names (files_of (request_in p.requests id)) kept.stand.space.names
    ∙ ap (λ (o : Option StageRequest). named_files h (map (λ (s : RequestFile). s.path) (files_of o))) (kept.stand.space.requests id) in
    record {
      parts = record {
        space = record {
          names = λ path. refl;
          tapes = same_table p.tapes.value kept.stand.space.tapes.distinct;
          buffer = subst (λ (fs : List ℕ). HeldAgree buffer.held.value (unpin_all (owned_by id fs) p.buffer.held.value)) (are ∙ ap (λ (o : Option StageRequest). files_where (λ q. true) o) (kept.stand.space.requests id)) held;
          requests = removed;
          repacks = λ k. refl;
        };
        jobs = dropped site h id (request_of site h id) (jobs_in (values_of (record p { book = book; recalls = recalls }))) (jobs_in (values_of p))
            (paths_left site h id found (map (λ (s : RequestFile). s.path) (files_of (request_of site h id))) p book recalls kept names told lines);
        mounts = refl;
        downs = λ d. refl;
        failed = refl;
      };
      contents = λ f. ap (λ (xs : List (ℕ × Sum256)). content_in xs f) contents;
      fit = record { tapes = kept.fit.tapes; pools = kept.fit.pools; recalls = keys ∙ kept.fit.recalls; vos = kept.fit.vos; drives = kept.fit.drives };
      named = λ k. refl;
    }
