-- The calls for a Recalled whose recall had ended.
use Rattle.std.proofs.Common.{◌≡◌, ℕ, List, [], ◌∷◌, refl, ap, subst}
use Rattle.blob.specs.declared.sum.Sum256.{Sum256}
use Rattle.cta_site.specs.declared.site.Site.{Site}
use Rattle.cta_model.specs.declared.answers.Answer.TheVariants as answer
use Rattle.cta_model.specs.declared.asks.Ask.TheVariants as ask
use Rattle.cta_model.specs.declared.asks.Fate.TheVariants as fate
use Rattle.cta_model.specs.declared.asks.Job.{Job}
use Rattle.cta_model.specs.declared.entries.Actor.TheVariants as actor
use Rattle.cta_model.specs.Files.{size_of}
use Rattle.cta_model.specs.History.{History}
use Rattle.disk_buffer.specs.Stays.{content_in}
use Rattle.disk_buffer.specs.Stored.{Stored}
use Rattle.part_model.specs.Held.{HeldAgree, unhold}
use Rattle.part_model.specs.JobBook.{TellSame, give_back_jobs}
use Rattle.part_model.specs.JobRows.{JobRows, book_in}
use Rattle.part_model.specs.Room.{Roomed}
use Rattle.archive_parts.specs.Called.{AreKeptCalled}
use Rattle.archive_parts.specs.PartsKept.{ArePartsKept}
use Rattle.archive_parts.specs.declared.parts.ArchiveParts.{ArchiveParts}
use Rattle.part_moves.proofs.SameParts.{same_table}

pub stale_called : (site : Site) (h : History) (t m d n : ℕ) (job : Job) (p : ArchiveParts) (buffer : Stored) (book : Roomed JobRows) → ArePartsKept site h p → n ≡ size_of h job.file
    → HeldAgree buffer.held.value (unhold p.buffer.held.value n) → buffer.contents ≡ p.buffer.contents → TellSame (book_in book.value) (give_back_jobs (job ∷ []) (book_in p.book.value))
    → AreKeptCalled site h (record { at = t; actor = actor.Drive d; ask = ask.Recalled m job; answer = answer.Arrived fate.Stale }) p (record p { buffer = buffer; book = book })
stale_called site h t m d n job p buffer book kept size held contents given = record {
  parts = record {
    space = record {
      names = λ path. refl;
      tapes = same_table p.tapes.value kept.stand.space.tapes.distinct;
      buffer = subst (λ (k : ℕ). HeldAgree buffer.held.value (unhold p.buffer.held.value k)) size held;
      requests = λ id. refl;
      repacks = λ id. refl;
    };
    jobs = record { book = given; pools = λ key. refl; recalls = λ key. refl; counts = λ way vo. refl };
    mounts = refl;
    downs = λ k. refl;
    failed = refl;
  };
  contents = λ f. ap (λ (xs : List (ℕ × Sum256)). content_in xs f) contents;
  fit = record { tapes = kept.fit.tapes; pools = kept.fit.pools; recalls = kept.fit.recalls; vos = kept.fit.vos; drives = kept.fit.drives };
  named = λ id. refl;
}
