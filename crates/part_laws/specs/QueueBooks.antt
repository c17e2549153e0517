-- The job book of a history.
use Rattle.std.specs.Prelude.{ℕ, zero, suc, List, [], ◌++◌}
use Rattle.cta_site.specs.declared.site.Site.{Site}
use Rattle.cta_model.specs.declared.asks.Job.{Job}
use Rattle.cta_model.specs.History.{History}
use Rattle.cta_model.specs.Files.{copies_of_file}
use Rattle.cta_model.specs.Mounts.{claimer_of, was_claimed}
use Rattle.cta_model.specs.Charges.{charges_of}
use Rattle.cta_model.specs.Recalls.{live_recall}
use Rattle.cta_model.specs.Jobs.{archive_birth, live_birth}
use Rattle.part_laws.specs.LastBirths.{last_birth}
use Rattle.part_model.specs.JobBook.{Book, TellSame, job_if}

-- the book of a history
abbrev pub book_of : Site → History → Book
book_of site h = record { recall = live_recall site h; archive = archive_birth site h; claimer = claimer_of h; charges = charges_of h; last_birth = last_birth site h; named = was_claimed h }

-- a book stands for a history
abbrev pub IsBook : Site → History → Book → Type 0
IsBook site h b = TellSame b (book_of site h)

-- the live archive jobs of a file's copies from 1 to n
abbrev pub archive_jobs : Site → History → ℕ → ℕ → List Job
archive_jobs site h f zero = []
archive_jobs site h f (suc c) = archive_jobs site h f c ++ job_if f (suc c) (archive_birth site h f (suc c))

-- the live jobs of a file
abbrev pub jobs_of_file : Site → History → ℕ → List Job
jobs_of_file site h f = job_if f 0 (live_birth site h f 0) ++ archive_jobs site h f (copies_of_file site h f)
