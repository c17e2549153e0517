-- All parts of an archive, and when they are kept for a history.
use Rattle.std.specs.Prelude.{ℕ, ◌≡◌, length, option_map, map}
use Rattle.cta_site.specs.declared.site.Site.{Site}
use Rattle.cta_site.specs.Lookups.{vid_of}
use Rattle.cta_model.specs.declared.states.RepackCopy.{RepackCopy}
use Rattle.cta_model.specs.History.{History}
use Rattle.cta_model.specs.Files.{path_of}
use Rattle.cta_model.specs.Repacks.{Repack, repack_of}
use Rattle.repack_book.specs.NamedRepacks.{RepackNames, names_in, repacks_of}
use Rattle.disk_buffer.specs.Stays.{content_in}
use Rattle.part_laws.specs.AllParts.{AllParts}
use Rattle.part_laws.specs.Stands.{Stands}
use Rattle.part_laws.specs.Contents.{AreContents}
use Rattle.archive_parts.specs.declared.parts.ArchiveParts.{ArchiveParts}

-- the values of the parts, without the rooms that they have
abbrev pub values_of : ArchiveParts → AllParts
values_of p = record {
  space = record { names = p.names; tapes = p.tapes.value; buffer = p.buffer.held.value; requests = p.requests; repacks = repacks_of p.repacks };
  book = p.book.value;
  pools = p.pools.value;
  recalls = p.recalls.value;
  counts = p.counts;
  mounts = p.mounts.value.rows;
  downs = p.mounts.value.downs;
  failed = p.failed.value;
}

-- the parts are made for this site: they have its tapes, pools, VOs and drives
pub record AreOfSite (site : Site) (p : ArchiveParts) : Type 0 where
  pub tapes : length p.tapes.value.rows ≡ length site.tapes.items
  pub pools : length p.pools.value ≡ length site.pools.items
  pub recalls : length p.recalls.value ≡ length site.tapes.items
  pub vos : length p.counts.archive ≡ length site.vos.items
  pub drives : p.mounts.value.drives ≡ length site.drives.items

-- the VID of a repack's tape and the paths of its items' files
abbrev pub names_of_repack : Site → History → Repack → RepackNames
names_of_repack site h r = record { vid = vid_of site r.tape; paths = map (λ (i : RepackCopy). path_of h i.file) r.items }

-- the parts are kept for a history: they stand for it, the buffer has a content of each resident file and of no other, they are made for
-- the site, and the book of repacks has the names of tapes and files
pub record ArePartsKept (site : Site) (h : History) (p : ArchiveParts) : Type 0 where
  pub stand : Stands site h (values_of p)
  pub contents : AreContents h (content_in p.buffer.contents)
  pub fit : AreOfSite site p
  pub named : (id : ℕ) → names_in p.repacks id ≡ option_map (names_of_repack site h) (repack_of site h id)
