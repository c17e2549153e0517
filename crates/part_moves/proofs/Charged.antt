-- What an accepted ask of a mount says of its jobs.
use Rattle.std.proofs.Common.{◌≡◌, ◌≤◌, ℕ, List, true, false, refl, sym, ap, subst, arith, zero, suc}
use Rattle.std.specs.Prelude.{Option, Some, None, if◌then◌else◌, option_map, ◌==◌}
use Rattle.cta_site.specs.declared.site.Site.{Site}
use Rattle.cta_site.specs.Laws.{ClassesAreKnown}
use Rattle.cta_site.specs.Lookups.{class_of, copies_of, copies_of_class}
use Rattle.cta_model.specs.Files.{path_of, copies_of_file}
use Rattle.cta_model.specs.Mounts.{is_mount, same_direction}
use Rattle.cta_laws.specs.Claims.{reads}
use Rattle.cta_model.specs.declared.asks.Direction.{Direction}
use Rattle.cta_model.specs.declared.asks.Direction.TheVariants as direction
use Rattle.cta_model.specs.declared.asks.Job.{Job}
use Rattle.cta_model.specs.declared.states.Mount.{Mount}
use Rattle.cta_model.specs.History.{History, is_number, last_moment, moment_of}
use Rattle.cta_model.specs.Legal.{IsMountOf}
use Rattle.job_book.specs.Live.{lives}
use Rattle.part_model.specs.JobRows.{JobRows, book_in}
use Rattle.part_laws.specs.QueueBooks.{IsBook}
use Rattle.cta_model.specs.declared.asks.Ask.TheVariants as ask
use Rattle.cta_model.specs.Jobs.{is_live_job, live_birth}
use Rattle.cta_model.specs.Recalls.{Recall}
use Rattle.cta_model.specs.declared.asks.Ask.{Ask}
use Rattle.cta_model.specs.declared.entries.Entry.{Entry}
use Rattle.cta_laws.specs.Jobs.{IsPutOf}
use Rattle.kept_history.specs.Puts.{puts_file}

-- a file has at most 4 copies
pub few_copies : (site : Site) (h : History) (f : ℕ) → ClassesAreKnown site → copies_of_file site h f ≤ 4
few_copies site h f known = by (class_of site (path_of h f)) refl
  where
    by : (o : Option ℕ) → class_of site (path_of h f) ≡ o → copies_of site (path_of h f) ≤ 4
    by None is = subst (λ (n : ℕ). n ≤ 4) (sym (ap (copies_of_class site) is)) (omega arith)
    by (Some class) is = (known (path_of h f) class is).2

pub is_asked_for : (o : Option Mount) → IsMountOf direction.Retrieve o → is_mount reads o ≡ true
is_asked_for None none = absurd none
is_asked_for (Some x) way = ap (λ (w : Direction). same_direction w direction.Retrieve) way

-- a book that stands for a history tells whether a job is live
pub lives_is : (site : Site) (h : History) (b : JobRows) (j : Job) → IsBook site h (book_in b) → lives j (book_in b) ≡ is_live_job site h j
lives_is site h b j is = by j.copy
  where
    by : (c : ℕ) → (if c == 0 then is_number j.birth (option_map (λ (r : Recall). r.birth) ((book_in b).recall j.file)) else is_number j.birth ((book_in b).archive j.file c)) ≡ is_number j.birth (live_birth site h j.file c)
    by zero = ap (λ (o : Option Recall). is_number j.birth (option_map (λ (r : Recall). r.birth) o)) (is.recall j.file)
    by (suc c) = (let other : (suc c == 0) ≡ false = grind arith in rw other (ap (is_number j.birth) (is.archive j.file c)))

pub asked_put : (e : Entry) (k : Ask) (path : List ℕ) → e.ask ≡ k → IsPutOf path k → puts_file k ≡ true
asked_put e (ask.Put who q sum) path is put = refl
asked_put e _ path is put = absurd put

pub later_of : (h : History) (t : ℕ) → last_moment h ≤ moment_of h t
later_of h t = omega arith
