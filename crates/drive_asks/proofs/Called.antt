-- A Flushed carried out on all parts.
use Rattle.std.proofs.Common.{◌≡◌, ◌∙◌, ◌≤◌, ℕ, List, [], ◌∷◌, length, Bool, true, false, not, refl, sym, ap, subst}
use Rattle.std.specs.Prelude.{Option, Some, None, if◌then◌else◌, ◌==◌, ◌&&◌, map, filter, zip}
use Rattle.std.specs.List.{list_any}
use Rattle.blob.specs.declared.sum.Sum256.{Sum256}
use Rattle.cta_site.specs.declared.site.Site.{Site}
use Rattle.cta_site.specs.Listed.{rows}
use Rattle.cta_model.specs.declared.asks.Fate.{Fate}
use Rattle.cta_model.specs.declared.asks.Item.{Item}
use Rattle.cta_model.specs.declared.asks.Job.{Job}
use Rattle.cta_model.specs.declared.entries.Entry.{Entry}
use Rattle.cta_model.specs.declared.reports.ItemState.TheVariants as item
use Rattle.cta_model.specs.declared.states.RepackCopy.{RepackCopy}
use Rattle.cta_model.specs.History.{History, has_number, is_empty, is_number}
use Rattle.cta_model.specs.Files.{copies_of_file, is_live, live_file, path_of}
use Rattle.cta_model.specs.Jobs.{is_live_job}
use Rattle.cta_model.specs.Mounts.{item_jobs, tape_of_mount}
use Rattle.cta_model.specs.Repacks.{Repack, is_live_item, repack_of}
use Rattle.cta_model.specs.Pins.{Pin, repack_pins}
use Rattle.cta_model.specs.Space.{is_safe}
use Rattle.cta_model.specs.Answers.{fate_of}
use Rattle.cta_model.specs.Legal.{IsLegal, IsNext}
use Rattle.cta_laws.specs.Pins.{repack_pins_by}
use Rattle.cta_laws.proofs.Claims.{AllOf, all_mono, all_pass}
use Rattle.cta_laws.proofs.FileFrames.{copies_older}
use Rattle.cta_laws.proofs.JobFiles.{job_file_live}
use Rattle.cta_laws.proofs.PlaceLaw.{named_within, path_older}
use Rattle.cta_laws.proofs.Ranges.{all_map}
use Rattle.part_model.specs.Held.{Held, HeldAgree, set_all, unpin_all}
use Rattle.part_model.specs.JobBook.{TellSame, end_jobs, give_back_jobs}
use Rattle.part_model.specs.JobRows.{JobRows, book_in}
use Rattle.part_model.specs.Repacks.{Repacks, RepacksAgree, has_item_by, set_states}
use Rattle.part_model.specs.Room.{Roomed}
use Rattle.part_model.specs.Tapes.{HaveFlushed, Table, safe_in}
use Rattle.part_laws.specs.QueueBooks.{IsBook, book_of}
use Rattle.part_laws.proofs.BookSteps.{end_same, tell_chain}
use Rattle.part_laws.proofs.PartSteps.{parts_flushed}
use Rattle.part_laws.specs.Buffer.{is_put_of}
use Rattle.part_laws.specs.Tapes.{IsTable}
use Rattle.part_laws.proofs.Flags.{flag_is_found}
use Rattle.part_laws.proofs.TableMoves.{calls_move_table}
use Rattle.part_laws.specs.Books.{AreRepacks}
use Rattle.part_laws.specs.BookCalls.{jobs_done, writers}
use Rattle.part_laws.proofs.RepackCalls.{calls_move_repacks}
use Rattle.part_laws.specs.BufferCalls.{AreTouched, AreUnpinned, has_pair}
use Rattle.part_laws.proofs.PinLists.{unpin_all_is}
use Rattle.part_laws.proofs.Stands.{set_all_rest}
use Rattle.part_laws.specs.AllParts.{jobs_in}
use Rattle.repack_book.specs.NamedRepacks.{NamedRepacks, NamesAgree, repacks_of}
use Rattle.disk_buffer.specs.Stays.{content_in}
use Rattle.disk_buffer.specs.Stored.{Stored}
use Rattle.archive_parts.specs.Called.{AreKeptCalled}
use Rattle.archive_parts.specs.PartsKept.{ArePartsKept, values_of}
use Rattle.archive_parts.specs.declared.parts.ArchiveParts.{ArchiveParts}
use Rattle.part_moves.specs.Flags.{job_files}
use Rattle.drive_asks.specs.Items.{fates_told, live_jobs, with_fates}
use Rattle.part_moves.specs.Unpinned.{AreTakenOff, is_pinned_by}
use Rattle.drive_asks.proofs.Lawful.{IsFlush, entry_next, flush_entry}
use Rattle.part_moves.proofs.Marks.{flags_same}
use Rattle.drive_asks.proofs.Told.{done_are, fates_are, jobs_are, put_are, zip_is}
use Rattle.part_moves.proofs.HeldPins.{both_agree, pinned_is, pins_are}

-- ---- what was done to each part

-- what the calls for a Flushed have done, where b is the book with the claims ended and c the buffer with the flags set
pub record HasFlushedParts (site : Site) (h : History) (m tape : ℕ) (items : List Item) (fates : List Fate) (live : List Job) (p : ArchiveParts) (tapes : Roomed Table) (b : JobRows) (book : Roomed JobRows) (c buffer : Stored) (repacks : NamedRepacks) : Type 0 where
  pub told : fates ≡ fates_told p.book.value items
  pub jobs : live ≡ live_jobs p.book.value items
  pub on : tape_of_mount h m ≡ tape
  pub put : HaveFlushed tape (with_fates p.book.value items) p.tapes.value tapes.value
  pub sized : length tapes.value.rows ≡ length p.tapes.value.rows
  pub given : TellSame (book_in b) (give_back_jobs (item_jobs items) (book_in p.book.value))
  pub ended : TellSame (book_in book.value) (end_jobs live (book_in b))
  pub flags : HeldAgree c.held.value (set_all (λ f. safe_in tapes.value (book_in book.value).archive f (copies_of_file site h f)) (job_files live) p.buffer.held.value)
  pub same : c.contents ≡ p.buffer.contents
  pub finished : RepacksAgree (repacks_of repacks) (set_states item.Done (writers (repacks_of p.repacks) live) (repacks_of p.repacks))
  pub named : NamesAgree repacks p.repacks
  pub pins : AreTakenOff (repacks_of p.repacks) (repacks_of repacks) c.held.value buffer.held.value
  pub still : buffer.contents ≡ c.contents

-- ---- pins

-- ---- the entry

pub fates_right : (site : Site) (h : History) (items : List Item) (fates : List Fate) (p : ArchiveParts) → ArePartsKept site h p → fates ≡ fates_told p.book.value items → fates ≡ map (λ (i : Item). fate_of site h i.job) items
fates_right site h items fates p kept told = told ∙ fates_are site h p.book.value kept.stand.jobs.book items

pub longer : (site : Site) (h : History) (t m : ℕ) (items : List Item) (fates : List Fate) (p : ArchiveParts) → IsFlush site h t m items → ArePartsKept site h p → fates ≡ fates_told p.book.value items → IsNext site h (flush_entry h t m items fates)
longer site h t m items fates p f kept told = entry_next site h t m items fates f (fates_right site h items fates p kept told)

-- ---- flags

-- whether a file of a live job is safe behind the entry is told by the table and the book
flag_is : (site : Site) (h : History) (e : Entry) (v : Table) (b : JobRows) (g : ℕ) → IsLegal site (e ∷ h) → IsTable site (e ∷ h) v → IsBook site (e ∷ h) (book_in b) → ((path : List ℕ) → live_file (e ∷ h) path ≡ live_file h path) → is_live h g ≡ true
    → safe_in v (book_in b).archive g (copies_of_file site h g) ≡ is_safe site (e ∷ h) g
flag_is site h e v b g legal table book stays live =
    let low : g ≤ length h = (named_within h g (path_of h g) live).1 in
    let there : is_live (e ∷ h) g ≡ true = ap (is_number g) (ap (live_file (e ∷ h)) (path_older e h g low) ∙ stays (path_of h g)) ∙ live in
    ap (safe_in v (book_in b).archive g) (sym (copies_older site e h g low)) ∙ sym (flag_is_found site (e ∷ h) v (book_in b).archive g legal table there (λ c. book.archive g c))

-- ---- part by part

put_is : (site : Site) (h : History) (t m tape : ℕ) (items : List Item) (fates : List Fate) (live : List Job) (p : ArchiveParts) (tapes : Roomed Table) (b : JobRows) (book : Roomed JobRows) (c buffer : Stored) (repacks : NamedRepacks) → IsFlush site h t m items → ArePartsKept site h p → HasFlushedParts site h m tape items fates live p tapes b book c buffer repacks
    → HaveFlushed (tape_of_mount h m) (zip items fates) p.tapes.value tapes.value
put_is site h t m tape items fates live p tapes b book c buffer repacks f kept x =
    subst (λ (n : ℕ). HaveFlushed n (zip items fates) p.tapes.value tapes.value) (sym x.on)
    (subst (λ (xs : List (Item × Fate)). HaveFlushed tape xs p.tapes.value tapes.value) (zip_is p.book.value items ∙ ap (λ (fs : List Fate). zip items fs) (sym x.told)) x.put)

table_is : (site : Site) (h : History) (t m tape : ℕ) (items : List Item) (fates : List Fate) (live : List Job) (p : ArchiveParts) (tapes : Roomed Table) (b : JobRows) (book : Roomed JobRows) (c buffer : Stored) (repacks : NamedRepacks) → IsFlush site h t m items → ArePartsKept site h p → HasFlushedParts site h m tape items fates live p tapes b book c buffer repacks
    → IsTable site (flush_entry h t m items fates ∷ h) tapes.value
table_is site h t m tape items fates live p tapes b book c buffer repacks f kept x =
    calls_move_table site h (flush_entry h t m items fates) p.tapes.value tapes.value (f.legal, longer site h t m items fates p f kept x.told) kept.stand.space.tapes (put_is site h t m tape items fates live p tapes b book c buffer repacks f kept x)

books_are : (site : Site) (h : History) (t m tape : ℕ) (items : List Item) (fates : List Fate) (live : List Job) (p : ArchiveParts) (tapes : Roomed Table) (b : JobRows) (book : Roomed JobRows) (c buffer : Stored) (repacks : NamedRepacks) → IsFlush site h t m items → ArePartsKept site h p → HasFlushedParts site h m tape items fates live p tapes b book c buffer repacks
    → TellSame (book_in book.value) (end_jobs (filter (is_live_job site h) (item_jobs items)) (give_back_jobs (item_jobs items) (book_in p.book.value)))
books_are site h t m tape items fates live p tapes b book c buffer repacks f kept x =
    subst (λ (js : List Job). TellSame (book_in book.value) (end_jobs js (give_back_jobs (item_jobs items) (book_in p.book.value)))) (x.jobs ∙ jobs_are site h p.book.value kept.stand.jobs.book items)
    (tell_chain (book_in book.value) (end_jobs live (book_in b)) (end_jobs live (give_back_jobs (item_jobs items) (book_in p.book.value))) x.ended (end_same live (book_in b) (give_back_jobs (item_jobs items) (book_in p.book.value)) x.given))

book_stands : (site : Site) (h : History) (t m tape : ℕ) (items : List Item) (fates : List Fate) (live : List Job) (p : ArchiveParts) (tapes : Roomed Table) (b : JobRows) (book : Roomed JobRows) (c buffer : Stored) (repacks : NamedRepacks) → IsFlush site h t m items → ArePartsKept site h p → HasFlushedParts site h m tape items fates live p tapes b book c buffer repacks
    → IsBook site (flush_entry h t m items fates ∷ h) (book_in book.value)
book_stands site h t m tape items fates live p tapes b book c buffer repacks f kept x =
    tell_chain (book_in book.value) (end_jobs (filter (is_live_job site h) (item_jobs items)) (give_back_jobs (item_jobs items) (book_in p.book.value))) (book_of site (flush_entry h t m items fates ∷ h)) (books_are site h t m tape items fates live p tapes b book c buffer repacks f kept x)
    (parts_flushed site h (flush_entry h t m items fates) m (rows items) (jobs_in (values_of p)) (f.legal, longer site h t m items fates p f kept x.told) refl kept.stand.jobs).book

done_is : (site : Site) (h : History) (t m tape : ℕ) (items : List Item) (fates : List Fate) (live : List Job) (p : ArchiveParts) (tapes : Roomed Table) (b : JobRows) (book : Roomed JobRows) (c buffer : Stored) (repacks : NamedRepacks) → IsFlush site h t m items → ArePartsKept site h p → HasFlushedParts site h m tape items fates live p tapes b book c buffer repacks
    → live ≡ jobs_done (zip items fates)
done_is site h t m tape items fates live p tapes b book c buffer repacks f kept x = x.jobs ∙ sym (done_are p.book.value items) ∙ ap (λ (fs : List Fate). jobs_done (zip items fs)) (sym x.told)

turned_is : (site : Site) (h : History) (t m tape : ℕ) (items : List Item) (fates : List Fate) (live : List Job) (p : ArchiveParts) (tapes : Roomed Table) (b : JobRows) (book : Roomed JobRows) (c buffer : Stored) (repacks : NamedRepacks) → IsFlush site h t m items → ArePartsKept site h p → HasFlushedParts site h m tape items fates live p tapes b book c buffer repacks
    → RepacksAgree (repacks_of repacks) (set_states item.Done (writers (repacks_of p.repacks) (jobs_done (zip items fates))) (repacks_of p.repacks))
turned_is site h t m tape items fates live p tapes b book c buffer repacks f kept x =
    subst (λ (js : List Job). RepacksAgree (repacks_of repacks) (set_states item.Done (writers (repacks_of p.repacks) js) (repacks_of p.repacks))) (done_is site h t m tape items fates live p tapes b book c buffer repacks f kept x) x.finished

repacks_stand : (site : Site) (h : History) (t m tape : ℕ) (items : List Item) (fates : List Fate) (live : List Job) (p : ArchiveParts) (tapes : Roomed Table) (b : JobRows) (book : Roomed JobRows) (c buffer : Stored) (repacks : NamedRepacks) → IsFlush site h t m items → ArePartsKept site h p → HasFlushedParts site h m tape items fates live p tapes b book c buffer repacks
    → AreRepacks site (flush_entry h t m items fates ∷ h) (repacks_of repacks)
repacks_stand site h t m tape items fates live p tapes b book c buffer repacks f kept x =
    calls_move_repacks site h (flush_entry h t m items fates) (repacks_of p.repacks) (repacks_of repacks) (f.legal, longer site h t m items fates p f kept x.told) kept.stand.space.repacks (turned_is site h t m tape items fates live p tapes b book c buffer repacks f kept x)

-- ---- the buffer

flags_are_right : (site : Site) (h : History) (t m tape : ℕ) (items : List Item) (fates : List Fate) (live : List Job) (p : ArchiveParts) (tapes : Roomed Table) (b : JobRows) (book : Roomed JobRows) (c buffer : Stored) (repacks : NamedRepacks) → IsFlush site h t m items → ArePartsKept site h p → HasFlushedParts site h m tape items fates live p tapes b book c buffer repacks
    → AllOf (λ g. safe_in tapes.value (book_in book.value).archive g (copies_of_file site h g) ≡ is_safe site (flush_entry h t m items fates ∷ h) g) (job_files live)
flags_are_right site h t m tape items fates live p tapes b book c buffer repacks f kept x =
    subst (λ (js : List Job). AllOf (λ g. safe_in tapes.value (book_in book.value).archive g (copies_of_file site h g) ≡ is_safe site (flush_entry h t m items fates ∷ h) g) (job_files js)) (sym (x.jobs ∙ jobs_are site h p.book.value kept.stand.jobs.book items))
    (all_map (λ g. safe_in tapes.value (book_in book.value).archive g (copies_of_file site h g) ≡ is_safe site (flush_entry h t m items fates ∷ h) g) (λ (j : Job). j.file) (filter (is_live_job site h) (item_jobs items))
    (all_mono (λ j. is_live_job site h j ≡ true) (λ (j : Job). safe_in tapes.value (book_in book.value).archive j.file (copies_of_file site h j.file) ≡ is_safe site (flush_entry h t m items fates ∷ h) j.file) (filter (is_live_job site h) (item_jobs items))
    (λ j on. flag_is site h (flush_entry h t m items fates) tapes.value book.value j.file (f.legal, longer site h t m items fates p f kept x.told) (table_is site h t m tape items fates live p tapes b book c buffer repacks f kept x) (book_stands site h t m tape items fates live p tapes b book c buffer repacks f kept x) (λ path. refl) (job_file_live site h f.legal j on))
    (all_pass (is_live_job site h) (item_jobs items))))

flags_set : (site : Site) (h : History) (t m tape : ℕ) (items : List Item) (fates : List Fate) (live : List Job) (p : ArchiveParts) (tapes : Roomed Table) (b : JobRows) (book : Roomed JobRows) (c buffer : Stored) (repacks : NamedRepacks) → IsFlush site h t m items → ArePartsKept site h p → HasFlushedParts site h m tape items fates live p tapes b book c buffer repacks
    → HeldAgree c.held.value (set_all (is_safe site (flush_entry h t m items fates ∷ h)) (job_files live) p.buffer.held.value)
flags_set site h t m tape items fates live p tapes b book c buffer repacks f kept x =
    subst (λ (v : Held). HeldAgree c.held.value v)
    (flags_same (λ g. safe_in tapes.value (book_in book.value).archive g (copies_of_file site h g)) (is_safe site (flush_entry h t m items fates ∷ h)) (job_files live) p.buffer.held.value (flags_are_right site h t m tape items fates live p tapes b book c buffer repacks f kept x))
    x.flags

touched_is : (site : Site) (h : History) (t m tape : ℕ) (items : List Item) (fates : List Fate) (live : List Job) (p : ArchiveParts) (tapes : Roomed Table) (b : JobRows) (book : Roomed JobRows) (c buffer : Stored) (repacks : NamedRepacks) → IsFlush site h t m items → ArePartsKept site h p → HasFlushedParts site h m tape items fates live p tapes b book c buffer repacks
    → AreTouched site h (flush_entry h t m items fates) (job_files live)
touched_is site h t m tape items fates live p tapes b book c buffer repacks f kept x g =
    ap (λ (js : List Job). has_number g (job_files js)) x.jobs ∙ put_are p.book.value items g ∙ ap (λ (fs : List Fate). list_any (is_put_of g) (zip items fs)) (sym x.told)

unpinned_is : (site : Site) (h : History) (t m tape : ℕ) (items : List Item) (fates : List Fate) (live : List Job) (p : ArchiveParts) (tapes : Roomed Table) (b : JobRows) (book : Roomed JobRows) (c buffer : Stored) (repacks : NamedRepacks) → IsFlush site h t m items → ArePartsKept site h p → (x : HasFlushedParts site h m tape items fates live p tapes b book c buffer repacks)
    → AreUnpinned site h (flush_entry h t m items fates) x.pins.outs
unpinned_is site h t m tape items fates live p tapes b book c buffer repacks f kept x g id here =
    x.pins.told g id
    ∙ ap (λ (t : Bool). t && not (is_pinned_by (repacks_of repacks) g id)) (pinned_is site h (repacks_of p.repacks) kept.stand.space.repacks g id)
    ∙ ap (λ (t : Bool). repack_pins_by site h g id && not t) (pinned_is site (flush_entry h t m items fates ∷ h) (repacks_of repacks) (repacks_stand site h t m tape items fates live p tapes b book c buffer repacks f kept x) g id)

-- ---- all parts

-- what was done is what the calls for the entry do
pub flush_called : (site : Site) (h : History) (t m tape : ℕ) (items : List Item) (fates : List Fate) (live : List Job) (p : ArchiveParts) (tapes : Roomed Table) (b : JobRows) (book : Roomed JobRows) (c buffer : Stored) (repacks : NamedRepacks) → IsFlush site h t m items → ArePartsKept site h p → HasFlushedParts site h m tape items fates live p tapes b book c buffer repacks
    → AreKeptCalled site h (flush_entry h t m items fates) p (record p { tapes = tapes; book = book; buffer = buffer; repacks = repacks })
flush_called site h t m tape items fates live p tapes b book c buffer repacks f kept x = record {
  parts = record {
    space = record {
      names = λ path. refl;
      tapes = put_is site h t m tape items fates live p tapes b book c buffer repacks f kept x;
      buffer = (
        job_files live,
        x.pins.outs,
        touched_is site h t m tape items fates live p tapes b book c buffer repacks f kept x,
        unpinned_is site h t m tape items fates live p tapes b book c buffer repacks f kept x,
        both_agree (is_safe site (flush_entry h t m items fates ∷ h)) (job_files live) x.pins.outs p.buffer.held.value c.held.value buffer.held.value (flags_set site h t m tape items fates live p tapes b book c buffer repacks f kept x) x.pins.held,
      );
      requests = λ id. refl;
      repacks = turned_is site h t m tape items fates live p tapes b book c buffer repacks f kept x;
    };
    jobs = record { book = books_are site h t m tape items fates live p tapes b book c buffer repacks f kept x; pools = λ key. refl; recalls = λ key. refl; counts = λ way vo. refl };
    mounts = refl;
    downs = λ d. refl;
    failed = refl;
  };
  contents = λ g. ap (λ (xs : List (ℕ × Sum256)). content_in xs g) (x.still ∙ x.same);
  fit = record { tapes = x.sized ∙ kept.fit.tapes; pools = kept.fit.pools; recalls = kept.fit.recalls; vos = kept.fit.vos; drives = kept.fit.drives };
  named = x.named;
}

-- parts that are kept for a history are kept for it under another name
pub kept_as : (site : Site) (g h : History) (p : ArchiveParts) → g ≡ h → ArePartsKept site h p → ArePartsKept site g p
kept_as site g h p same kept = subst (λ (x : History). ArePartsKept site x p) (sym same) kept
