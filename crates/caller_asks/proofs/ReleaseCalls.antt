-- The calls for a Release.
use Rattle.std.proofs.Common.{◌≡◌, ◌∙◌, ℕ, List, true, refl, sym, ap, subst}
use Rattle.std.specs.Prelude.{Option}
use Rattle.blob.specs.declared.sum.Sum256.{Sum256}
use Rattle.cta_site.specs.declared.site.Site.{Site}
use Rattle.cta_site.specs.Listed.{rows}
use Rattle.cta_model.specs.declared.answers.Answer.TheVariants as answer
use Rattle.cta_model.specs.declared.asks.Ask.TheVariants as ask
use Rattle.cta_model.specs.declared.asks.Who.{Who}
use Rattle.cta_model.specs.declared.entries.Actor.TheVariants as actor
use Rattle.cta_model.specs.Answers.{answer_of, is_accepted}
use Rattle.cta_model.specs.History.{History, has_text}
use Rattle.cta_model.specs.Stages.{StageRequest}
use Rattle.cta_laws.proofs.Accepted.{answer_is}
use Rattle.disk_buffer.specs.Stays.{content_in}
use Rattle.disk_buffer.specs.Stored.{Stored}
use Rattle.part_model.specs.Held.{HeldAgree, unpin_all}
use Rattle.part_model.specs.JobRows.{book_in}
use Rattle.part_model.specs.Requests.{Requests, RequestsAgree, release_all, request_in}
use Rattle.part_laws.specs.BufferCalls.{files_where, owned_by}
use Rattle.archive_parts.specs.Called.{AreKeptCalled}
use Rattle.archive_parts.specs.PartsKept.{ArePartsKept}
use Rattle.archive_parts.specs.declared.parts.ArchiveParts.{ArchiveParts}
use Rattle.part_moves.proofs.SameParts.{same_book, same_table}

pub release_answered : (site : Site) (h : History) (t id : ℕ) (who : Who) (paths : List (List ℕ)) → is_accepted (answer_of site h t (ask.Release who id (rows paths))) ≡ true → answer.Done ≡ answer_of site h t (ask.Release who id (rows paths))
release_answered site h t id who paths accepted = sym (answer_is site h t (ask.Release who id (rows paths)) (answer_of site h t (ask.Release who id (rows paths))) refl accepted).0

pub release_called : (site : Site) (h : History) (t id : ℕ) (who : Who) (paths : List (List ℕ)) (files : List ℕ) (p : ArchiveParts) (buffer : Stored) (requests : Requests) → ArePartsKept site h p
    → files ≡ files_where (λ q. has_text q paths) (request_in p.requests id) → RequestsAgree requests (release_all id paths p.requests)
    → HeldAgree buffer.held.value (unpin_all (owned_by id files) p.buffer.held.value) → buffer.contents ≡ p.buffer.contents
    → AreKeptCalled site h (record { at = t; actor = actor.Caller who; ask = ask.Release who id (rows paths); answer = answer.Done }) p (record p { buffer = buffer; requests = requests })
release_called site h t id who paths files p buffer requests kept are released held contents = record {
  parts = record {
    space = record {
      names = λ path. refl;
      tapes = same_table p.tapes.value kept.stand.space.tapes.distinct;
      buffer = subst (λ (fs : List ℕ). HeldAgree buffer.held.value (unpin_all (owned_by id fs) p.buffer.held.value)) (are ∙ ap (λ (o : Option StageRequest). files_where (λ q. has_text q paths) o) (kept.stand.space.requests id)) held;
      requests = released;
      repacks = λ k. refl;
    };
    jobs = record { book = same_book (book_in p.book.value); pools = λ key. refl; recalls = λ key. refl; counts = λ way vo. refl };
    mounts = refl;
    downs = λ d. refl;
    failed = refl;
  };
  contents = λ f. ap (λ (xs : List (ℕ × Sum256)). content_in xs f) contents;
  fit = record { tapes = kept.fit.tapes; pools = kept.fit.pools; recalls = kept.fit.recalls; vos = kept.fit.vos; drives = kept.fit.drives };
  named = λ k. refl;
}
