-- The laws of kept parts.
use Rattle.std.proofs.Common.{◌∙◌, ◌∷◌, refl}
use Rattle.cta_site.specs.declared.site.Site.{Site}
use Rattle.cta_model.specs.History.{History}
use Rattle.cta_model.specs.Legal.{IsLegal}
use Rattle.part_laws.specs.JobParts.{JobPartsStand}
use Rattle.part_laws.specs.Tapes.{IsTable}
use Rattle.part_laws.specs.AllParts.{jobs_in}
use Rattle.part_laws.proofs.EntryMoves.{calls_move_all_parts}
use Rattle.part_laws.proofs.ContentLaw.{contents_move}
use Rattle.disk_buffer.specs.Stays.{content_in}
use Rattle.archive_parts.specs.PartsKept.{values_of}
use Rattle.archive_parts.specs.Same.{TellSameParts}
use Rattle.archive_parts.specs.Laws.{KeptPartsMove, SamePartsAreKept}
use Rattle.archive_parts.specs.declared.parts.ArchiveParts.{ArchiveParts}
use Rattle.archive_parts.proofs.Names.{names_move}

pub kept_parts_move : KeptPartsMove
kept_parts_move site h e p p' legal next kept called =
    let more : IsLegal site (e ∷ h) = (legal, next) in
    record {
      stand = calls_move_all_parts site h e (values_of p) (values_of p') more kept.stand called.parts;
      contents = λ f. called.contents f ∙ contents_move site h e (content_in p.buffer.contents) more kept.contents f;
      fit = called.fit;
      named = names_move site h e e.ask e.answer p.repacks p'.repacks refl refl more called.named kept.named;
    }

-- ---- parts that tell the same

same_jobs : (site : Site) (h : History) (p p' : ArchiveParts) → TellSameParts p' p → JobPartsStand site h (jobs_in (values_of p)) → JobPartsStand site h (jobs_in (values_of p'))
same_jobs site h p p' same stand = record {
  book = record {
    recall = λ f. same.book.recall f ∙ stand.book.recall f;
    archive = λ f c. same.book.archive f c ∙ stand.book.archive f c;
    claimer = λ j. same.book.claimer j ∙ stand.book.claimer j;
    charges = λ j. same.book.charges j ∙ stand.book.charges j;
    last_birth = λ f c. same.book.last_birth f c ∙ stand.book.last_birth f c;
    named = λ j. same.book.named j ∙ stand.book.named j;
  };
  pools = rw same.pools stand.pools;
  recalls = rw same.recalls stand.recalls;
  counts = rw same.counts stand.counts;
}

same_table : (site : Site) (h : History) (p p' : ArchiveParts) → TellSameParts p' p → IsTable site h p.tapes.value → IsTable site h p'.tapes.value
same_table site h p p' same is = record {
  rows = λ t low. same.table.rows t ∙ is.rows t low;
  places = λ f c. same.table.places f c ∙ is.places f c;
  distinct = same.table.distinct;
}

pub same_parts_are_kept : SamePartsAreKept
same_parts_are_kept site h p p' same kept = record {
  stand = record {
    space = record {
      names = rw same.names kept.stand.space.names;
      tapes = same_table site h p p' same kept.stand.space.tapes;
      buffer = rw same.held kept.stand.space.buffer;
      pins = rw same.held kept.stand.space.pins;
      requests = rw same.requests kept.stand.space.requests;
      repacks = rw same.repacks kept.stand.space.repacks;
    };
    jobs = same_jobs site h p p' same kept.stand.jobs;
    mounts = rw same.mounts kept.stand.mounts;
    downs = rw same.mounts kept.stand.downs;
    failed = same.failed ∙ kept.stand.failed;
  };
  contents = λ f. same.contents f ∙ kept.contents f;
  fit = record {
    tapes = same.tapes ∙ kept.fit.tapes;
    pools = rw same.pools kept.fit.pools;
    recalls = rw same.recalls kept.fit.recalls;
    vos = rw same.counts kept.fit.vos;
    drives = rw same.mounts kept.fit.drives;
  };
  named = rw same.repacks kept.named;
}
