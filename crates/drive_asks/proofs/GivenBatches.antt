-- The calls for the Claim of a mount that writes.
use Rattle.std.proofs.Common.{◌≡◌, ◌∙◌, ℕ, List, [], refl, sym, ap, subst, length}
use Rattle.std.specs.Prelude.{Option, Some}
use Rattle.cta_site.specs.declared.site.Site.{Site}
use Rattle.cta_site.specs.Listed.{Listed, rows}
use Rattle.cta_site.specs.Lookups.{pool_of_tape}
use Rattle.cta_model.specs.declared.answers.Answer.TheVariants as answer
use Rattle.cta_model.specs.declared.asks.Ask.TheVariants as ask
use Rattle.cta_model.specs.declared.asks.Direction.TheVariants as direction
use Rattle.cta_model.specs.declared.asks.Item.{Item}
use Rattle.cta_model.specs.declared.entries.Actor.TheVariants as actor
use Rattle.cta_model.specs.declared.entries.Entry.{Entry}
use Rattle.cta_model.specs.declared.states.Mount.{Mount}
use Rattle.cta_model.specs.History.{History, has_number}
use Rattle.cta_model.specs.Mounts.{item_jobs, mount_of}
use Rattle.cta_model.specs.Tapes.{size_of_items}
use Rattle.cta_laws.proofs.KeyLaw.{same_mount}
use Rattle.part_model.specs.Held.{HeldAgree}
use Rattle.part_model.specs.JobBook.{TellSame, claim_jobs}
use Rattle.part_model.specs.JobRows.{JobRows, book_in}
use Rattle.part_model.specs.Mounts.{claimed}
use Rattle.part_model.specs.Queues.{Queues, lines_in, taken_out}
use Rattle.part_model.specs.Requests.{request_in, start_all}
use Rattle.part_model.specs.Room.{Roomed}
use Rattle.part_model.specs.Tapes.{HasTurned, Table, claimed_row}
use Rattle.open_mounts.specs.Table.{MountTable}
use Rattle.part_laws.specs.BookCalls.{recalls_in, waiters}
use Rattle.part_laws.specs.BufferCalls.{after_claim}
use Rattle.part_laws.specs.TableCalls.{TurnedBy}
use Rattle.part_laws.specs.AllAsks.{claim_of_mount}
use Rattle.part_laws.specs.AllParts.{TellSameJobs, jobs_in}
use Rattle.archive_parts.specs.Called.{AreKeptCalled}
use Rattle.archive_parts.specs.PartsKept.{ArePartsKept, values_of}
use Rattle.archive_parts.specs.declared.parts.ArchiveParts.{ArchiveParts}
use Rattle.part_moves.proofs.SameParts.{same_buffer}

-- a mount of this tape that writes
abbrev writing : ℕ → ℕ → Mount
writing d v = record { drive = d; direction = direction.Archive; tape = v }

-- whatever mount it is said to be, it is this one
is_writing : (h : History) (m d v : ℕ) (x : Mount) → mount_of h m ≡ Some (writing d v) → mount_of h m ≡ Some x → writing d v ≡ x
is_writing h m d v x mounted is = same_mount (writing d v) x (sym mounted ∙ is)

pub claim_called : (site : Site) (h : History) (t d m v : ℕ) (batch : Listed Item) (p : ArchiveParts) (tapes : Roomed Table) (book : Roomed JobRows) (pools : Roomed Queues) (mounts : Roomed MountTable)
    → ArePartsKept site h p → mount_of h m ≡ Some (record { drive = d; direction = direction.Archive; tape = v }) → recalls_in (item_jobs batch.items) ≡ []
    → HasTurned v (claimed_row (size_of_items batch.items)) p.tapes.value tapes.value → length tapes.value.rows ≡ length p.tapes.value.rows
    → TellSame (book_in book.value) (claim_jobs (item_jobs batch.items) m (book_in p.book.value))
    → ((k : ℕ) → lines_in pools.value k ≡ taken_out (pool_of_tape site v) (item_jobs batch.items) (lines_in p.pools.value) k) → length pools.value ≡ length p.pools.value
    → mounts.value.rows ≡ claimed m batch p.mounts.value.rows → mounts.value.downs ≡ p.mounts.value.downs → mounts.value.drives ≡ p.mounts.value.drives
    → AreKeptCalled site h (record { at = t; actor = actor.Drive d; ask = ask.Claim m; answer = answer.Batch batch (rows []) }) p (record p { tapes = tapes; book = book; pools = pools; mounts = mounts })
claim_called site h t d m v batch p tapes book pools mounts kept mounted none table sized claimed_all taken keys rows_are downs drives = record {
  parts = record {
    space = record {
      names = λ path. refl;
      tapes = λ x is. subst (λ (y : Mount). TurnedBy y (claimed_row (size_of_items batch.items)) p.tapes.value tapes.value) (is_writing h m d v x mounted is) table;
      buffer = λ x is. subst (λ (y : Mount). HeldAgree p.buffer.held.value (after_claim made y.direction p.buffer.held.value)) (is_writing h m d v x mounted is) (same_buffer p.buffer.held.value);
      requests = λ id. ap (λ (fs : List ℕ). request_in (start_all t (waiters site h p.requests fs) p.requests) id) (sym none);
      repacks = λ id. refl;
    };
    jobs = subst (λ (o : Option Mount). TellSameJobs (jobs_in (values_of (record p { tapes = tapes; book = book; pools = pools; mounts = mounts }))) (claim_of_mount site m o batch.items (jobs_in (values_of p)))) (sym mounted)
        (record { book = claimed_all; pools = taken; recalls = λ key. refl; counts = λ way vo. refl });
    mounts = rows_are;
    downs = λ k. ap (has_number k) downs;
    failed = refl;
  };
  contents = λ f. refl;
  fit = record { tapes = sized ∙ kept.fit.tapes; pools = keys ∙ kept.fit.pools; recalls = kept.fit.recalls; vos = kept.fit.vos; drives = drives ∙ kept.fit.drives };
  named = λ id. refl;
}
  where
    made : Entry
    made = record { at = t; actor = actor.Drive d; ask = ask.Claim m; answer = answer.Batch batch (rows []) }
