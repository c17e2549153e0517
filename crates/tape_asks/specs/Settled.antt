-- What a repack leaves in the parts, once its entry is there.
use Rattle.std.specs.Prelude.{ℕ, ◌≡◌, ◌+◌, ◌*◌, ◌<◌, ◌≤◌, ◌^◌, List, Some, length, slice_get}
use Rattle.std.specs.List.{AllByRecursion}
use Rattle.cta_site.specs.declared.site.Site.{Site}
use Rattle.cta_model.specs.declared.asks.Direction.TheVariants as direction
use Rattle.cta_model.specs.declared.asks.Job.{Job}
use Rattle.cta_model.specs.declared.reports.ItemState.TheVariants as item
use Rattle.cta_model.specs.declared.states.Place.{Place}
use Rattle.cta_model.specs.Files.{copies_of_file, size_of}
use Rattle.cta_model.specs.History.{History}
use Rattle.cta_model.specs.Queues.{key_of}
use Rattle.job_queues.specs.Waiting.{bytes_of}
use Rattle.part_model.specs.Held.{HeldAgree, pin_all, set_all}
use Rattle.part_model.specs.JobBook.{Book, TellSame, bear_jobs, subscribe_files}
use Rattle.part_model.specs.JobRows.{book_in}
use Rattle.part_model.specs.Queues.{lines_in}
use Rattle.part_model.specs.Repacks.{RepacksAgree, set_states}
use Rattle.part_model.specs.Tapes.{safe_in}
use Rattle.part_laws.specs.Lines.{line_of}
use Rattle.repack_book.specs.NamedRepacks.{NamesAgree, repacks_of}
use Rattle.tape_table.specs.Sources.{sources_in}
use Rattle.archive_parts.specs.declared.parts.ArchiveParts.{ArchiveParts}
use Rattle.part_moves.specs.Flags.{job_files}
use Rattle.fault_asks.specs.Failing.{CanQueue, add_by, jobs_live}
use Rattle.fault_asks.specs.Reading.{source_in}
use Rattle.tape_asks.specs.Lists.{AreOnce, pins_of, targets_of}

-- a repack that joins the recalls of these files and bears these recalls and these archive jobs can settle in the parts
pub record CanSettle (site : Site) (g : History) (joined : List ℕ) (newborn written : List Job) (p : ArchiveParts) : Type 0 where
  pub once : AreOnce joined
  pub jobs : length joined + (length newborn + length written) ≤ p.book.room
  pub reads : length newborn ≤ p.recalls.room
  pub writes : length written ≤ p.pools.room
  pub pins : length written ≤ p.buffer.held.room
  pub keys : (f n : ℕ) (q : Place) → slice_get (sources_in p.tapes.value f) n ≡ Some q → q.tape < length p.recalls.value
  pub pools : length p.pools.value ≡ length site.pools.items
  pub copies : AllByRecursion (λ (j : Job). 1 ≤ j.copy) written
  pub can_read : (b : Book) → CanQueue site g b (lines_in p.recalls.value) newborn
  pub can_write : (b : Book) → CanQueue site g b (lines_in p.pools.value) written
  pub small : (f : ℕ) → size_of g f ≤ 2147483648
  pub read_fits : (k : ℕ) → bytes_of (lines_in p.recalls.value k) + 2147483648 * length newborn < 2 ^ 64
  pub write_fits : (k : ℕ) → bytes_of (lines_in p.pools.value k) + 2147483648 * length written < 2 ^ 64

-- a repack of this number with these items has settled in the parts
pub record AreSettled (site : Site) (g : History) (n : ℕ) (items : List Job) (joined : List ℕ) (newborn written : List Job) (p q : ArchiveParts) : Type 0 where
  pub book : TellSame (book_in q.book.value) (bear_jobs written n (bear_jobs newborn n (subscribe_files joined n (book_in p.book.value))))
  pub recalls : (k : ℕ) → lines_in q.recalls.value k ≡ add_by (source_in p.tapes.value (book_in q.book.value)) (line_of site g direction.Retrieve) (jobs_live (book_in q.book.value) newborn) (lines_in p.recalls.value) k
  pub lines : (k : ℕ) → lines_in q.pools.value k ≡ add_by (key_of site g) (line_of site g direction.Archive) (jobs_live (book_in q.book.value) written) (lines_in p.pools.value) k
  pub recall_keys : length q.recalls.value ≡ length p.recalls.value
  pub pool_keys : length q.pools.value ≡ length p.pools.value
  pub states : RepacksAgree (repacks_of q.repacks) (set_states item.Writing (targets_of n written) (repacks_of p.repacks))
  pub names : NamesAgree q.repacks p.repacks
  pub held : HeldAgree q.buffer.held.value (set_all (λ f. safe_in p.tapes.value (book_in q.book.value).archive f (copies_of_file site g f)) (job_files items) (pin_all (pins_of n written) p.buffer.held.value))
  pub contents : q.buffer.contents ≡ p.buffer.contents
  pub rest : q ≡ record p { recalls = q.recalls; pools = q.pools; book = q.book; repacks = q.repacks; buffer = q.buffer }
