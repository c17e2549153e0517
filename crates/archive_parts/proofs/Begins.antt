-- Parts at the start.
use Rattle.std.proofs.Common.{◌≡◌, ◌∙◌, ℕ, List, [], sym, ap, subst, length}
use Rattle.std.specs.Prelude.{map, slice_get}
use Rattle.std.proofs.lemmas.List.{length-map}
use Rattle.cta_site.specs.declared.site.Site.{Site}
use Rattle.cta_model.specs.declared.asks.Direction.{Direction}
use Rattle.part_model.specs.declared.space.Placed.{Placed}
use Rattle.part_model.specs.declared.space.TapeRow.{TapeRow}
use Rattle.part_model.specs.Counts.{count_in}
use Rattle.part_model.specs.Held.{ArePinsHeld}
use Rattle.part_model.specs.JobRows.{JobRows, book_in, no_rows}
use Rattle.part_model.specs.Tapes.{AreDistinct, place_among, row_or}
use Rattle.job_queues.specs.Waiting.{AreStarted}
use Rattle.tape_table.specs.Rows.{fresh_row}
use Rattle.disk_buffer.specs.Stays.{content_in}
use Rattle.disk_buffer.specs.Stored.{nothing_held}
use Rattle.repack_book.specs.NamedRepacks.{NamedRepacks, names_in, repacks_of}
use Rattle.part_laws.specs.QueueBooks.{IsBook}
use Rattle.part_laws.specs.JobParts.{JobPartsStand}
use Rattle.part_laws.specs.Mounts.{AreDown, AreOpenMounts}
use Rattle.part_laws.proofs.DownSteps.{mounts_start_empty}
use Rattle.part_laws.proofs.FailedSteps.{failed_start_empty}
use Rattle.part_laws.specs.Held.{IsHeld}
use Rattle.part_laws.specs.Names.{AreNames}
use Rattle.part_laws.specs.Tapes.{IsTable}
use Rattle.part_laws.specs.Books.{AreRepacks, AreRequests}
use Rattle.part_laws.specs.SpaceParts.{first_parts}
use Rattle.part_laws.proofs.Together.{first_parts_stand}
use Rattle.part_laws.specs.AllParts.{jobs_in}
use Rattle.part_laws.proofs.EntryMoves.{empty_parts_stand}
use Rattle.part_laws.proofs.ContentLaw.{contents_start_empty}
use Rattle.archive_parts.specs.PartsKept.{ArePartsKept, values_of}
use Rattle.archive_parts.specs.declared.parts.ArchiveParts.{ArchiveParts}

-- what each part is at the start
pub record AreFirst (site : Site) (p : ArchiveParts) : Type 0 where
  pub names : p.names ≡ []
  pub rows : p.tapes.value.rows ≡ map fresh_row site.tapes.items
  pub places : p.tapes.value.places ≡ []
  pub held : p.buffer.held.value ≡ nothing_held site.limits.buffer
  pub contents : p.buffer.contents ≡ []
  pub requests : p.requests ≡ []
  pub repacks : p.repacks ≡ []
  pub book : p.book.value ≡ no_rows
  pub pools : AreStarted (length site.pools.items) p.pools.value
  pub recalls : AreStarted (length site.tapes.items) p.recalls.value
  pub counts : (way : Direction) (vo : ℕ) → count_in p.counts way vo ≡ 0
  pub vos : length p.counts.archive ≡ length site.vos.items
  pub mounts : p.mounts.value.rows ≡ []
  pub downs : p.mounts.value.downs ≡ []
  pub drives : p.mounts.value.drives ≡ length site.drives.items
  pub failed : p.failed.value ≡ []

first_table : (site : Site) (p : ArchiveParts) → AreFirst site p → IsTable site [] p.tapes.value
first_table site p first =
    let is : IsTable site [] (first_parts site).tapes = (first_parts_stand site).tapes in
    record {
      rows = λ t low. ap (λ (rs : List TapeRow). row_or (slice_get rs t)) first.rows ∙ is.rows t low;
      places = λ f c. ap (λ (ps : List Placed). place_among ps f c) first.places ∙ is.places f c;
      distinct = subst AreDistinct (sym first.places) is.distinct;
    }

first_jobs : (site : Site) (p : ArchiveParts) → AreFirst site p → JobPartsStand site [] (jobs_in (values_of p))
first_jobs site p first = record {
  book = subst (λ (b : JobRows). IsBook site [] (book_in b)) (sym first.book) (empty_parts_stand site).jobs.book;
  pools = λ key. first.pools.empty key;
  recalls = λ key. first.recalls.empty key;
  counts = λ way vo. first.counts way vo;
}

fresh_rows_many : (site : Site) (p : ArchiveParts) → AreFirst site p → length p.tapes.value.rows ≡ length site.tapes.items
fresh_rows_many site p first = ap length first.rows ∙ length-map site.tapes.items fresh_row

pub first_parts_kept : (site : Site) (p : ArchiveParts) → AreFirst site p → ArePartsKept site [] p
first_parts_kept site p first = record {
  stand = record {
    space = record {
      names = subst (AreNames []) (sym first.names) (first_parts_stand site).names;
      tapes = first_table site p first;
      buffer = subst (IsHeld site []) (sym first.held) (first_parts_stand site).buffer;
      pins = subst ArePinsHeld (sym first.held) (first_parts_stand site).pins;
      requests = subst (AreRequests site []) (sym first.requests) (first_parts_stand site).requests;
      repacks = subst (λ (w : NamedRepacks). AreRepacks site [] (repacks_of w)) (sym first.repacks) (first_parts_stand site).repacks;
    };
    jobs = first_jobs site p first;
    mounts = subst (AreOpenMounts site []) (sym first.mounts) (mounts_start_empty site).0;
    downs = subst (AreDown []) (sym first.downs) (mounts_start_empty site).1;
    failed = first.failed ∙ sym (failed_start_empty site);
  };
  contents = λ f. ap (λ cs. content_in cs f) first.contents ∙ contents_start_empty f;
  fit = record {
    tapes = fresh_rows_many site p first;
    pools = first.pools.many;
    recalls = first.recalls.many;
    vos = first.vos;
    drives = first.drives;
  };
  named = λ id. ap (λ (w : NamedRepacks). names_in w id) first.repacks;
}
