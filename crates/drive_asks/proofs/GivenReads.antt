-- The calls for the Claim of a mount that reads.
use Rattle.std.proofs.Common.{◌≡◌, ◌∙◌, ℕ, List, refl, sym, ap, subst, length}
use Rattle.std.specs.Prelude.{Option, Some, None, if◌then◌else◌}
use Rattle.cta_site.specs.declared.site.Site.{Site}
use Rattle.cta_site.specs.Listed.{Listed, rows}
use Rattle.cta_model.specs.declared.answers.Answer.TheVariants as answer
use Rattle.cta_model.specs.declared.asks.Ask.TheVariants as ask
use Rattle.cta_model.specs.declared.asks.Direction.TheVariants as direction
use Rattle.cta_model.specs.declared.asks.Item.{Item}
use Rattle.cta_model.specs.declared.entries.Actor.TheVariants as actor
use Rattle.cta_model.specs.declared.entries.Entry.{Entry}
use Rattle.cta_model.specs.declared.states.Mount.{Mount}
use Rattle.cta_model.specs.History.{History, has_number}
use Rattle.cta_model.specs.Mounts.{item_jobs, mount_of}
use Rattle.cta_model.specs.Recalls.{live_recall}
use Rattle.cta_model.specs.Tapes.{size_of_items}
use Rattle.cta_laws.proofs.KeyLaw.{same_mount}
use Rattle.disk_buffer.specs.Stays.{content_in}
use Rattle.disk_buffer.specs.Stored.{Stored}
use Rattle.part_model.specs.Held.{Held, HeldAgree, evict, evicted_for, hold}
use Rattle.part_model.specs.JobBook.{TellSame, claim_jobs}
use Rattle.part_model.specs.JobRows.{JobRows, book_in}
use Rattle.part_model.specs.Mounts.{claimed}
use Rattle.part_model.specs.Queues.{Queues, lines_in, taken_out}
use Rattle.part_model.specs.Requests.{Requests, RequestsAgree, request_in, start_all}
use Rattle.part_model.specs.Room.{Roomed}
use Rattle.part_model.specs.Tapes.{AreDistinct, Table, TablesAgree, claimed_row}
use Rattle.open_mounts.specs.Table.{MountTable}
use Rattle.part_laws.specs.BookCalls.{recalls_in, waiters}
use Rattle.part_laws.specs.BufferCalls.{after_claim}
use Rattle.part_laws.specs.TableCalls.{TurnedBy}
use Rattle.part_laws.specs.AllAsks.{claim_of_mount}
use Rattle.part_laws.specs.AllParts.{TellSameJobs, jobs_in}
use Rattle.archive_parts.specs.Called.{AreKeptCalled}
use Rattle.archive_parts.specs.PartsKept.{ArePartsKept, values_of}
use Rattle.archive_parts.specs.declared.parts.ArchiveParts.{ArchiveParts}
use Rattle.drive_asks.specs.Waiting.{files_in}
use Rattle.part_moves.specs.Waiting.{waits_for_all}
use Rattle.drive_asks.proofs.WaitLists.{started_alone}
use Rattle.part_moves.proofs.SameParts.{same_table}

-- a mount of this tape that reads
abbrev reading : ℕ → ℕ → Mount
reading d v = record { drive = d; direction = direction.Retrieve; tape = v }

-- whatever mount it is said to be, it is this one
is_reading : (h : History) (m d v : ℕ) (x : Mount) → mount_of h m ≡ Some (reading d v) → mount_of h m ≡ Some x → reading d v ≡ x
is_reading h m d v x mounted is = same_mount (reading d v) x (sym mounted ∙ is)

-- the starts of those that wait are those of the requests among them
pub started_called : (t : ℕ) (site : Site) (h : History) (items : List Item) (v w : Requests) → recalls_in (item_jobs items) ≡ files_in items → RequestsAgree w (start_all t (waits_for_all (live_recall site h) (files_in items)) v)
    → RequestsAgree w (start_all t (waiters site h v (recalls_in (item_jobs items))) v)
started_called t site h items v w all started k = started k ∙ started_alone t site h (files_in items) v k ∙ ap (λ (fs : List ℕ). request_in (start_all t (waiters site h v fs) v) k) (sym all)

pub claim_called : (site : Site) (h : History) (t d m v : ℕ) (batch : Listed Item) (p : ArchiveParts) (buffer : Stored) (requests : Requests) (book : Roomed JobRows) (recalls : Roomed Queues) (mounts : Roomed MountTable)
    → ArePartsKept site h p → mount_of h m ≡ Some (record { drive = d; direction = direction.Retrieve; tape = v }) → recalls_in (item_jobs batch.items) ≡ files_in batch.items
    → HeldAgree buffer.held.value (hold (evict p.buffer.held.value t (size_of_items batch.items)) (size_of_items batch.items))
    → ((f : ℕ) → content_in buffer.contents f ≡ (if has_number f (evicted_for p.buffer.held.value t (size_of_items batch.items)) then None else content_in p.buffer.contents f))
    → RequestsAgree requests (start_all t (waits_for_all (live_recall site h) (files_in batch.items)) p.requests)
    → TellSame (book_in book.value) (claim_jobs (item_jobs batch.items) m (book_in p.book.value))
    → ((k : ℕ) → lines_in recalls.value k ≡ taken_out v (item_jobs batch.items) (lines_in p.recalls.value) k) → length recalls.value ≡ length p.recalls.value
    → mounts.value.rows ≡ claimed m batch p.mounts.value.rows → mounts.value.downs ≡ p.mounts.value.downs → mounts.value.drives ≡ p.mounts.value.drives
    → AreKeptCalled site h (record { at = t; actor = actor.Drive d; ask = ask.Claim m; answer = answer.Batch batch (rows (evicted_for p.buffer.held.value t (size_of_items batch.items))) }) p
    (record p { buffer = buffer; requests = requests; book = book; recalls = recalls; mounts = mounts })
claim_called site h t d m v batch p buffer requests book recalls mounts kept mounted all held contents started claimed_all taken keys rows_are downs drives = record {
  parts = record {
    space = record {
      names = λ path. refl;
      tapes = λ x is. subst (λ (y : Mount). TurnedBy y (claimed_row (size_of_items batch.items)) p.tapes.value p.tapes.value) (is_reading h m d v x mounted is) (same_table p.tapes.value kept.stand.space.tapes.distinct);
      buffer = λ x is. subst (λ (y : Mount). HeldAgree buffer.held.value (after_claim made y.direction p.buffer.held.value)) (is_reading h m d v x mounted is) held;
      requests = started_called t site h batch.items p.requests requests all started;
      repacks = λ id. refl;
    };
    jobs = subst (λ (o : Option Mount). TellSameJobs (jobs_in (values_of moved)) (claim_of_mount site m o batch.items (jobs_in (values_of p)))) (sym mounted) (record { book = claimed_all; pools = λ key. refl; recalls = taken; counts = λ way vo. refl });
    mounts = rows_are;
    downs = λ k. ap (has_number k) downs;
    failed = refl;
  };
  contents = contents;
  fit = record { tapes = kept.fit.tapes; pools = kept.fit.pools; recalls = keys ∙ kept.fit.recalls; vos = kept.fit.vos; drives = drives ∙ kept.fit.drives };
  named = λ id. refl;
}
  where
    made : Entry
    made = record { at = t; actor = actor.Drive d; ask = ask.Claim m; answer = answer.Batch batch (rows (evicted_for p.buffer.held.value t (size_of_items batch.items))) }

    moved : ArchiveParts
    moved = record p { buffer = buffer; requests = requests; book = book; recalls = recalls; mounts = mounts }

-- the same, where the bytes of the batch and those that wait were found before
pub reads_called : (site : Site) (h : History) (t d m v n : ℕ) (batch : Listed Item) (p : ArchiveParts) (buffer : Stored) (requests : Requests) (book : Roomed JobRows) (recalls : Roomed Queues) (mounts : Roomed MountTable) (pairs : List (ℕ × ℕ))
    → ArePartsKept site h p → mount_of h m ≡ Some (record { drive = d; direction = direction.Retrieve; tape = v }) → recalls_in (item_jobs batch.items) ≡ files_in batch.items
    → n ≡ size_of_items batch.items → pairs ≡ waits_for_all (live_recall site h) (files_in batch.items)
    → HeldAgree buffer.held.value (hold (evict p.buffer.held.value t n) n)
    → ((f : ℕ) → content_in buffer.contents f ≡ (if has_number f (evicted_for p.buffer.held.value t n) then None else content_in p.buffer.contents f))
    → RequestsAgree requests (start_all t pairs p.requests)
    → TellSame (book_in book.value) (claim_jobs (item_jobs batch.items) m (book_in p.book.value))
    → ((k : ℕ) → lines_in recalls.value k ≡ taken_out v (item_jobs batch.items) (lines_in p.recalls.value) k) → length recalls.value ≡ length p.recalls.value
    → mounts.value.rows ≡ claimed m batch p.mounts.value.rows → mounts.value.downs ≡ p.mounts.value.downs → mounts.value.drives ≡ p.mounts.value.drives
    → AreKeptCalled site h (record { at = t; actor = actor.Drive d; ask = ask.Claim m; answer = answer.Batch batch (rows (evicted_for p.buffer.held.value t n)) }) p
    (record p { buffer = buffer; requests = requests; book = book; recalls = recalls; mounts = mounts })
reads_called site h t d m v n batch p buffer requests book recalls mounts pairs kept mounted all size waits held contents started claimed_all taken keys rows_are downs drives =
    subst (λ (k : ℕ). AreKeptCalled site h (record { at = t; actor = actor.Drive d; ask = ask.Claim m; answer = answer.Batch batch (rows (evicted_for p.buffer.held.value t k)) }) p
    (record p { buffer = buffer; requests = requests; book = book; recalls = recalls; mounts = mounts })) (sym size)
    (claim_called site h t d m v batch p buffer requests book recalls mounts kept mounted all
    (subst (λ (k : ℕ). HeldAgree buffer.held.value (hold (evict p.buffer.held.value t k) k)) size held)
    (subst (λ (k : ℕ). (f : ℕ) → content_in buffer.contents f ≡ (if has_number f (evicted_for p.buffer.held.value t k) then None else content_in p.buffer.contents f)) size contents)
    (subst (λ (xs : List (ℕ × ℕ)). RequestsAgree requests (start_all t xs p.requests)) waits started) claimed_all taken keys rows_are downs drives)

-- the calls are those for the entry of the Claim, whatever the moment, the drive, the items and their bytes are said to be
pub called_as : (site : Site) (h : History) (t u d c m n k : ℕ) (last batch : Listed Item) (v : Held) (p p' : ArchiveParts)
    → AreKeptCalled site h (record { at = t; actor = actor.Drive d; ask = ask.Claim m; answer = answer.Batch last (rows (evicted_for v t n)) }) p p'
    → t ≡ u → d ≡ c → last ≡ batch → n ≡ k
    → AreKeptCalled site h (record { at = u; actor = actor.Drive c; ask = ask.Claim m; answer = answer.Batch batch (rows (evicted_for v u k)) }) p p'
called_as site h t u d c m n k last batch v p p' called at drive items size =
    subst (λ (s : ℕ). AreKeptCalled site h (record { at = u; actor = actor.Drive c; ask = ask.Claim m; answer = answer.Batch batch (rows (evicted_for v u s)) }) p p') size
    (subst (λ (l : Listed Item). AreKeptCalled site h (record { at = u; actor = actor.Drive c; ask = ask.Claim m; answer = answer.Batch l (rows (evicted_for v u n)) }) p p') items
    (subst (λ (s : ℕ). AreKeptCalled site h (record { at = u; actor = actor.Drive s; ask = ask.Claim m; answer = answer.Batch last (rows (evicted_for v u n)) }) p p') drive
    (subst (λ (s : ℕ). AreKeptCalled site h (record { at = s; actor = actor.Drive d; ask = ask.Claim m; answer = answer.Batch last (rows (evicted_for v s n)) }) p p') at called)))
