-- The calls for a Put move all parts.
use Rattle.std.proofs.Common.{◌≡◌, ◌∙◌, ℕ, ◌+◌, inl, inr, List, [], ◌∷◌, refl, ap, subst, length}
use Rattle.std.specs.Prelude.{Option, Some, None, ◌==◌, if◌then◌else◌}
use Rattle.blob.specs.declared.sum.Sum256.{Sum256}
use Rattle.cta_site.specs.declared.site.Site.{Site}
use Rattle.cta_site.specs.Lookups.{copies_of}
use Rattle.cta_model.specs.declared.asks.Direction.TheVariants as direction
use Rattle.cta_model.specs.declared.asks.Who.{Who}
use Rattle.cta_model.specs.Files.{sum_of}
use Rattle.cta_model.specs.History.{History, has_number, moment_of}
use Rattle.cta_laws.proofs.Tests.{bool_cases}
use Rattle.disk_buffer.specs.Stays.{content_in}
use Rattle.disk_buffer.specs.Stored.{Stored}
use Rattle.part_model.specs.Held.{Held, HeldAgree, enter, evict}
use Rattle.part_model.specs.JobBook.{TellSame, bear_jobs}
use Rattle.part_model.specs.JobRows.{JobRows, book_in}
use Rattle.part_model.specs.Names.{Names, NamesAgree, add_name}
use Rattle.part_model.specs.Queues.{Queues, lines_in}
use Rattle.part_model.specs.Room.{Roomed}
use Rattle.part_model.specs.Tapes.{Table, TablesAgree}
use Rattle.part_laws.specs.Queued.{put_jobs}
use Rattle.part_laws.specs.Lines.{add_jobs}
use Rattle.part_laws.proofs.SameBuffers.{buffer_calls_agree}
use Rattle.part_laws.specs.Tapes.{IsTable}
use Rattle.archive_parts.specs.Called.{AreKeptCalled}
use Rattle.archive_parts.specs.PartsKept.{ArePartsKept}
use Rattle.archive_parts.specs.declared.parts.ArchiveParts.{ArchiveParts}
use Rattle.caller_asks.proofs.Puts.{put_entry}
use Rattle.part_moves.proofs.Marks.{held_chain}

table_same : (site : Site) (h : History) (v : Table) → IsTable site h v → TablesAgree v v
table_same site h v is = record { rows = λ t. refl; places = λ f c. refl; distinct = is.distinct }

put_content : (h : History) (t : ℕ) (who : Who) (path : List ℕ) (sum : Sum256) (gone : List ℕ) (f : ℕ) (was mid now : Option Sum256) → mid ≡ (if has_number f gone then None else was) → now ≡ (if f == length h + 1 then Some sum else mid)
    → now ≡ (if has_number f ((length h + 1) ∷ []) then Some (sum_of (put_entry h t who path sum gone ∷ h) f) else (if has_number f gone then None else was))
put_content h t who path sum gone f was mid now out enters =
    enters ∙ elim (bool_cases (f == length h + 1)) [
      | inl hit ↦ rw hit refl
      | inr miss ↦ rw miss out
    ]

pub put_called : (site : Site) (h : History) (t : ℕ) (who : Who) (path : List ℕ) (sum : Sum256) (gone : List ℕ) (p : ArchiveParts) (names : Names) (b1 b2 : Stored) (book : Roomed JobRows) (pools : Roomed Queues) (n copies : ℕ)
    → ArePartsKept site h p → n ≡ length h + 1 → copies ≡ copies_of site path
    → NamesAgree names (add_name path n p.names)
    → HeldAgree b1.held.value (evict p.buffer.held.value (moment_of h t) sum.len)
    → ((f : ℕ) → content_in b1.contents f ≡ (if has_number f gone then None else content_in p.buffer.contents f))
    → HeldAgree b2.held.value (enter b1.held.value n sum.len)
    → ((f : ℕ) → content_in b2.contents f ≡ (if f == n then Some sum else content_in b1.contents f))
    → TellSame (book_in book.value) (bear_jobs (put_jobs n copies) n (book_in p.book.value))
    → ((k : ℕ) → lines_in pools.value k ≡ add_jobs site (put_entry h t who path sum gone ∷ h) direction.Archive (put_jobs n copies) (lines_in p.pools.value) k)
    → length pools.value ≡ length p.pools.value
    → AreKeptCalled site h (put_entry h t who path sum gone) p (record p { names = names; buffer = b2; book = book; pools = pools })
put_called site h t who path sum gone p names b1 b2 book pools n copies kept number count named evicted out entered content born lines keys = record {
  parts = record {
    space = record {
      names = subst (λ (m : ℕ). NamesAgree names (add_name path m p.names)) number named;
      tapes = table_same site h p.tapes.value kept.stand.space.tapes;
      buffer = held_chain b2.held.value (enter b1.held.value (length h + 1) sum.len) (enter (evict p.buffer.held.value (moment_of h t) sum.len) (length h + 1) sum.len)
          (subst (λ (m : ℕ). HeldAgree b2.held.value (enter b1.held.value m sum.len)) number entered)
          ((buffer_calls_agree b1.held.value (evict p.buffer.held.value (moment_of h t) sum.len) evicted).enters (length h + 1) sum.len);
      requests = λ id. refl;
      repacks = λ id. refl;
    };
    jobs = record {
      book = subst (λ (m : ℕ). TellSame (book_in book.value) (bear_jobs (put_jobs (length h + 1) m) (length h + 1) (book_in p.book.value))) count (subst (λ (m : ℕ). TellSame (book_in book.value) (bear_jobs (put_jobs m copies) m (book_in p.book.value))) number born);
      pools = λ k. lines k ∙ ap (λ (m : ℕ). add_jobs site (put_entry h t who path sum gone ∷ h) direction.Archive (put_jobs m copies) (lines_in p.pools.value) k) number
          ∙ ap (λ (m : ℕ). add_jobs site (put_entry h t who path sum gone ∷ h) direction.Archive (put_jobs (length h + 1) m) (lines_in p.pools.value) k) count;
      recalls = λ k. refl;
      counts = λ way vo. refl;
    };
    mounts = refl;
    downs = λ d. refl;
    failed = refl;
  };
  contents = λ f. put_content h t who path sum gone f (content_in p.buffer.contents f) (content_in b1.contents f) (content_in b2.contents f) (out f) (subst (λ (m : ℕ). content_in b2.contents f ≡ (if f == m then Some sum else content_in b1.contents f)) number (content f));
  fit = record { tapes = kept.fit.tapes; pools = keys ∙ kept.fit.pools; recalls = kept.fit.recalls; vos = kept.fit.vos; drives = kept.fit.drives };
  named = λ id. refl;
}
