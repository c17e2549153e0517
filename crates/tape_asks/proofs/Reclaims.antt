-- The calls for a Reclaim.
use Rattle.std.proofs.Common.{◌≡◌, ◌∙◌, ◌<◌, ℕ, List, [], ◌∷◌, true, false, refl, sym, arith, length}
use Rattle.std.specs.Prelude.{nat_le}
use Rattle.cta_site.specs.declared.site.Site.{Site}
use Rattle.cta_model.specs.declared.answers.Answer.{Answer}
use Rattle.cta_model.specs.declared.answers.Answer.TheVariants as answer
use Rattle.cta_model.specs.declared.answers.Refusal.TheVariants as refusal
use Rattle.cta_model.specs.declared.asks.Ask.TheVariants as ask
use Rattle.cta_model.specs.declared.asks.Who.{Who}
use Rattle.cta_model.specs.declared.entries.Actor.TheVariants as actor
use Rattle.cta_model.specs.Answers.{answer_of, is_accepted, is_too_heavy, on_free_tape, reclaim_answer}
use Rattle.cta_model.specs.History.{History, is_empty}
use Rattle.cta_model.specs.Legal.{IsLegal}
use Rattle.cta_model.specs.Places.{live_items_on}
use Rattle.cta_model.specs.declared.asks.Item.{Item}
use Rattle.cta_laws.proofs.Accepted.{answer_is, past}
use Rattle.part_model.specs.Held.{Held, HeldAgree}
use Rattle.part_model.specs.JobBook.{Book, TellSame}
use Rattle.part_model.specs.JobRows.{book_in}
use Rattle.part_model.specs.Room.{Roomed}
use Rattle.part_model.specs.Tapes.{HasTurned, Table, live_in, reclaimed_row}
use Rattle.part_laws.proofs.Count.{live_is}
use Rattle.archive_parts.specs.Called.{AreKeptCalled}
use Rattle.archive_parts.specs.PartsKept.{ArePartsKept}
use Rattle.archive_parts.specs.declared.parts.ArchiveParts.{ArchiveParts}
use Rattle.part_moves.proofs.SameParts.{same_book, same_buffer}

-- ---- what an accepted ask of a free tape says of the site

pub on_site : (site : Site) (h : History) (v : ℕ) (x a : Answer) → a ≡ on_free_tape site h v x → is_accepted a ≡ true → v < length site.tapes.items
on_site site h v x a e y =
    let p = past refusal.NoTape (nat_le (length site.tapes.items) v) _ a e y in
    let below : nat_le (length site.tapes.items) v ≡ false = p.0 in
    grind (arith, below)

-- ---- the answer

pub reclaim_answered : (site : Site) (h : History) (t : ℕ) (who : Who) (v : ℕ) → is_accepted (answer_of site h t (ask.Reclaim who v)) ≡ true → answer.Done ≡ answer_of site h t (ask.Reclaim who v)
reclaim_answered site h t who v accepted = sym (answer_is site h t (ask.Reclaim who v) (answer_of site h t (ask.Reclaim who v)) refl accepted).0

reclaim_free : (site : Site) (h : History) (t : ℕ) (who : Who) (v : ℕ) → is_accepted (answer_of site h t (ask.Reclaim who v)) ≡ true → answer_of site h t (ask.Reclaim who v) ≡ reclaim_answer site h v
reclaim_free site h t who v accepted = (past refusal.HistoryFull (is_too_heavy site h (ask.Reclaim who v) (reclaim_answer site h v)) (reclaim_answer site h v) (answer_of site h t (ask.Reclaim who v)) refl accepted).1

none_live : (xs : List Item) → is_empty xs ≡ true → length xs ≡ 0
none_live [] e = refl
none_live (x ∷ xs) e = absurd (cc)

-- a tape that may be reclaimed is one of the site's
pub reclaim_there : (site : Site) (h : History) (t : ℕ) (who : Who) (v : ℕ) (p : ArchiveParts) → ArePartsKept site h p → is_accepted (answer_of site h t (ask.Reclaim who v)) ≡ true → v < length p.tapes.value.rows
reclaim_there site h t who v p kept accepted =
    let low : v < length site.tapes.items = on_site site h v _ (answer_of site h t (ask.Reclaim who v)) (reclaim_free site h t who v accepted) accepted in
    let sized : length p.tapes.value.rows ≡ length site.tapes.items = kept.fit.tapes in
    omega (arith, low, sized)

-- and no copy has its place there
pub reclaim_empty : (site : Site) (h : History) (t : ℕ) (who : Who) (v : ℕ) (p : ArchiveParts) → IsLegal site h → ArePartsKept site h p → is_accepted (answer_of site h t (ask.Reclaim who v)) ≡ true → live_in p.tapes.value v ≡ 0
reclaim_empty site h t who v p legal kept accepted =
    live_is site h p.tapes.value v legal kept.stand.space.tapes ∙ none_live (live_items_on h v) (answer_is site h t (ask.Reclaim who v) (answer_of site h t (ask.Reclaim who v)) refl accepted).2

-- ---- the calls

pub reclaim_called : (site : Site) (h : History) (t : ℕ) (who : Who) (v : ℕ) (p : ArchiveParts) (tapes : Roomed Table) → ArePartsKept site h p → HasTurned v reclaimed_row p.tapes.value tapes.value → length tapes.value.rows ≡ length p.tapes.value.rows
    → AreKeptCalled site h (record { at = t; actor = actor.Caller who; ask = ask.Reclaim who v; answer = answer.Done }) p (record p { tapes = tapes })
reclaim_called site h t who v p tapes kept turned sized = record {
  parts = record {
    space = record { names = λ path. refl; tapes = turned; buffer = same_buffer p.buffer.held.value; requests = λ id. refl; repacks = λ id. refl };
    jobs = record { book = same_book (book_in p.book.value); pools = λ key. refl; recalls = λ key. refl; counts = λ way vo. refl };
    mounts = refl;
    downs = λ d. refl;
    failed = refl;
  };
  contents = λ f. refl;
  fit = record { tapes = sized ∙ kept.fit.tapes; pools = kept.fit.pools; recalls = kept.fit.recalls; vos = kept.fit.vos; drives = kept.fit.drives };
  named = λ id. refl;
}
