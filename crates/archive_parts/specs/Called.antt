-- The calls for an entry, made on all parts.
use Rattle.std.specs.Prelude.{ℕ, ◌≡◌, Some, if◌then◌else◌, ◌==◌, map}
use Rattle.cta_site.specs.declared.site.Site.{Site}
use Rattle.cta_site.specs.Lookups.{vid_of}
use Rattle.cta_model.specs.declared.asks.Ask.{Ask}
use Rattle.cta_model.specs.declared.asks.Ask.TheVariants as ask
use Rattle.cta_model.specs.declared.asks.Job.{Job}
use Rattle.cta_model.specs.declared.answers.Answer.{Answer}
use Rattle.cta_model.specs.declared.answers.Answer.TheVariants as answer
use Rattle.cta_model.specs.declared.entries.Entry.{Entry}
use Rattle.cta_model.specs.History.{History}
use Rattle.cta_model.specs.Files.{path_of}
use Rattle.disk_buffer.specs.Stays.{content_in}
use Rattle.repack_book.specs.NamedRepacks.{NamedRepacks, NamesAgree, names_in}
use Rattle.part_laws.specs.Stands.{AreCalled}
use Rattle.part_laws.specs.Contents.{contents_after}
use Rattle.archive_parts.specs.PartsKept.{AreOfSite, values_of}
use Rattle.archive_parts.specs.declared.parts.ArchiveParts.{ArchiveParts}

-- what the calls for an entry with this ask and answer do to the names that the book of repacks has: a Repack adds the VID of its tape and the
-- paths of its items' files
abbrev pub RepackNamesCalled : Site → History → Ask → Answer → NamedRepacks → NamedRepacks → Type 0
RepackNamesCalled site h (ask.Repack who v) (answer.Repacking id items) w w' =
    (q : ℕ) → names_in w' q ≡ (if id == q then Some (record { vid = vid_of site v; paths = map (λ (j : Job). path_of h j.file) items.items }) else names_in w q)
RepackNamesCalled site h _ a w w' = NamesAgree w' w

-- the calls for the entry e are made, on each of the parts, on the contents and on the names of repacks; the parts are still made for the site
pub record AreKeptCalled (site : Site) (h : History) (e : Entry) (p p' : ArchiveParts) : Type 0 where
  pub parts : AreCalled site h e (values_of p) (values_of p')
  pub contents : (f : ℕ) → content_in p'.buffer.contents f ≡ contents_after h e (content_in p.buffer.contents) f
  pub fit : AreOfSite site p'
  pub named : RepackNamesCalled site h e.ask e.answer p.repacks p'.repacks
