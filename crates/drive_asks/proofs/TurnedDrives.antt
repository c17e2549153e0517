-- The calls for a DriveUp and a DriveDown.
use Rattle.std.proofs.Common.{◌≡◌, ◌∙◌, ℕ, true, refl, sym}
use Rattle.cta_site.specs.declared.site.Site.{Site}
use Rattle.cta_model.specs.declared.answers.Answer.TheVariants as answer
use Rattle.cta_model.specs.declared.asks.Ask.TheVariants as ask
use Rattle.cta_model.specs.declared.asks.Who.{Who}
use Rattle.cta_model.specs.declared.entries.Actor.TheVariants as actor
use Rattle.cta_model.specs.Answers.{answer_of, is_accepted}
use Rattle.cta_model.specs.History.{History, has_number}
use Rattle.cta_laws.proofs.Accepted.{answer_is}
use Rattle.part_model.specs.JobRows.{book_in}
use Rattle.part_model.specs.Mounts.{set_down, set_up}
use Rattle.part_model.specs.Room.{Roomed}
use Rattle.open_mounts.specs.Table.{MountTable}
use Rattle.archive_parts.specs.Called.{AreKeptCalled}
use Rattle.archive_parts.specs.PartsKept.{ArePartsKept}
use Rattle.archive_parts.specs.declared.parts.ArchiveParts.{ArchiveParts}
use Rattle.part_moves.proofs.SameParts.{same_book, same_buffer, same_table}

-- ---- the answers

pub up_answered : (site : Site) (h : History) (t : ℕ) (who : Who) (d : ℕ) → is_accepted (answer_of site h t (ask.DriveUp who d)) ≡ true → answer.Done ≡ answer_of site h t (ask.DriveUp who d)
up_answered site h t who d accepted = sym (answer_is site h t (ask.DriveUp who d) (answer_of site h t (ask.DriveUp who d)) refl accepted)

pub down_answered : (site : Site) (h : History) (t : ℕ) (who : Who) (d : ℕ) → is_accepted (answer_of site h t (ask.DriveDown who d)) ≡ true → answer.Done ≡ answer_of site h t (ask.DriveDown who d)
down_answered site h t who d accepted = sym (answer_is site h t (ask.DriveDown who d) (answer_of site h t (ask.DriveDown who d)) refl accepted)

-- ---- the calls

pub up_called : (site : Site) (h : History) (t d : ℕ) (who : Who) (p : ArchiveParts) (mounts : Roomed MountTable) → ArePartsKept site h p → mounts.value.rows ≡ p.mounts.value.rows
    → ((k : ℕ) → has_number k mounts.value.downs ≡ has_number k (set_up d p.mounts.value.downs)) → mounts.value.drives ≡ p.mounts.value.drives
    → AreKeptCalled site h (record { at = t; actor = actor.Caller who; ask = ask.DriveUp who d; answer = answer.Done }) p (record p { mounts = mounts })
up_called site h t d who p mounts kept rows downs drives = record {
  parts = record {
    space = record { names = λ path. refl; tapes = same_table p.tapes.value kept.stand.space.tapes.distinct; buffer = same_buffer p.buffer.held.value; requests = λ id. refl; repacks = λ id. refl };
    jobs = record { book = same_book (book_in p.book.value); pools = λ key. refl; recalls = λ key. refl; counts = λ way vo. refl };
    mounts = rows;
    downs = downs;
    failed = refl;
  };
  contents = λ f. refl;
  fit = record { tapes = kept.fit.tapes; pools = kept.fit.pools; recalls = kept.fit.recalls; vos = kept.fit.vos; drives = drives ∙ kept.fit.drives };
  named = λ id. refl;
}

pub down_called : (site : Site) (h : History) (t d : ℕ) (who : Who) (p : ArchiveParts) (mounts : Roomed MountTable) → ArePartsKept site h p → mounts.value.rows ≡ p.mounts.value.rows
    → ((k : ℕ) → has_number k mounts.value.downs ≡ has_number k (set_down d p.mounts.value.downs)) → mounts.value.drives ≡ p.mounts.value.drives
    → AreKeptCalled site h (record { at = t; actor = actor.Caller who; ask = ask.DriveDown who d; answer = answer.Done }) p (record p { mounts = mounts })
down_called site h t d who p mounts kept rows downs drives = record {
  parts = record {
    space = record { names = λ path. refl; tapes = same_table p.tapes.value kept.stand.space.tapes.distinct; buffer = same_buffer p.buffer.held.value; requests = λ id. refl; repacks = λ id. refl };
    jobs = record { book = same_book (book_in p.book.value); pools = λ key. refl; recalls = λ key. refl; counts = λ way vo. refl };
    mounts = rows;
    downs = downs;
    failed = refl;
  };
  contents = λ f. refl;
  fit = record { tapes = kept.fit.tapes; pools = kept.fit.pools; recalls = kept.fit.recalls; vos = kept.fit.vos; drives = drives ∙ kept.fit.drives };
  named = λ id. refl;
}
