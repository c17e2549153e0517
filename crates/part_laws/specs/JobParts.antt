-- The job book, the two queue parts and the counts together, what they say of a history, and how an ask moves them.
use Rattle.std.specs.Prelude.{ℕ, ◌+◌, length, List, [], ◌∷◌, ◌++◌, None, false, filter}
use Rattle.cta_site.specs.declared.site.Site.{Site}
use Rattle.cta_site.specs.Lookups.{copies_of}
use Rattle.cta_model.specs.declared.asks.Ask.{Ask}
use Rattle.cta_model.specs.declared.asks.Direction.{Direction}
use Rattle.cta_model.specs.declared.asks.Fault.{Fault}
use Rattle.cta_model.specs.declared.asks.Item.{Item}
use Rattle.cta_model.specs.declared.asks.Job.{Job}
use Rattle.cta_model.specs.declared.states.Mount.{Mount}
use Rattle.cta_model.specs.History.{History}
use Rattle.cta_model.specs.Mounts.{item_jobs, tape_of_mount, drive_of_mount}
use Rattle.cta_model.specs.Charges.{is_last_charge}
use Rattle.cta_model.specs.Jobs.{is_live_job}
use Rattle.cta_model.specs.Choice.{key_of_mount}
use Rattle.cta_model.specs.declared.asks.Direction.TheVariants as direction
use Rattle.part_model.specs.JobBook.{Book, bear_jobs, charge_jobs, claim_jobs, end_jobs, give_back_jobs}
use Rattle.part_model.specs.Queues.{Lines, drop_jobs, taken_out}
use Rattle.part_laws.specs.QueueBooks.{IsBook, jobs_of_file}
use Rattle.part_laws.specs.Counts.{AreCounts}
use Rattle.part_laws.specs.Lines.{AreLines, add_jobs, of_way}
use Rattle.part_laws.specs.Queued.{put_jobs}
use Rattle.part_model.specs.Counts.{ended_count, opened_count}

-- the values of the job book, of the queues by pool and by tape, and of the counts of open mounts
pub record JobParts : Type 0 where
  pub book : Book
  pub pools : Lines
  pub recalls : Lines
  pub counts : Direction → ℕ → ℕ

-- the parts stand for a history
pub record JobPartsStand (site : Site) (h : History) (p : JobParts) : Type 0 where
  pub book : IsBook site h p.book
  pub pools : AreLines site h direction.Archive p.pools
  pub recalls : AreLines site h direction.Retrieve p.recalls
  pub counts : AreCounts site h p.counts

-- a Put of this path bears an archive job for each copy, and adds each to the queue of its pool
abbrev pub after_put : Site → History → History → List ℕ → JobParts → JobParts
after_put site h g path p = record p {
  book = bear_jobs (put_jobs (length h + 1) (copies_of site path)) (length h + 1) p.book;
  pools = add_jobs site g direction.Archive (put_jobs (length h + 1) (copies_of site path)) p.pools;
}

-- a Delete of the path of this file ends the live jobs of the file, and takes them out of whatever queue they are in
abbrev pub after_delete : Site → History → ℕ → JobParts → JobParts
after_delete site h f p = record p {
  book = end_jobs (jobs_of_file site h f) p.book;
  pools = drop_jobs (jobs_of_file site h f) p.pools;
  recalls = drop_jobs (jobs_of_file site h f) p.recalls;
}

-- a Next counts its mount
abbrev pub after_next : Site → Mount → JobParts → JobParts
after_next site x p = record p { counts = opened_count site x p.counts }

-- an End counts its mount no more
abbrev pub after_end : Site → Mount → JobParts → JobParts
after_end site x p = record p { counts = ended_count site x p.counts }

-- a mount takes a batch out of the queue of its key
abbrev pub take_batch : Site → Direction → ℕ → List Job → JobParts → JobParts
take_batch site direction.Archive v js p = record p { pools = taken_out (key_of_mount site direction.Archive v) js p.pools }
take_batch site direction.Retrieve v js p = record p { recalls = taken_out (key_of_mount site direction.Retrieve v) js p.recalls }

-- a Claim takes its batch out of the queue of the mount, which claims each job of it
abbrev pub after_claim : Site → ℕ → Mount → List Item → JobParts → JobParts
after_claim site m x items p = take_batch site x.direction x.tape (item_jobs items) (record p { book = claim_jobs (item_jobs items) m p.book })

-- a Flushed gives back the jobs of its items, and ends those that were live
abbrev pub after_flushed : Site → History → List Item → JobParts → JobParts
after_flushed site h items p = record p { book = end_jobs (filter (is_live_job site h) (item_jobs items)) (give_back_jobs (item_jobs items) p.book) }

-- what a Failed charged for the last time
abbrev pub charged_out : Site → History → Ask → List Job → List Job
charged_out site h k charged = filter (is_live_job site h) (filter (is_last_charge site h k) charged)

-- what is live still of the jobs named
abbrev pub still_live : Site → History → List Job → List Job
still_live site g js = filter (is_live_job site g) js

-- a Failed gives back what it names, charges what it charges, ends what was charged for the last time, and puts what is live still back into its queues
abbrev pub after_failed : Site → History → History → Ask → ℕ → Fault → List Job → List Job → JobParts → JobParts
after_failed site h g k m fault charged returned p = record p {
  book = end_jobs (charged_out site h k charged) (charge_jobs charged (record { drive = drive_of_mount h m; tape = tape_of_mount h m; fault = fault }) (give_back_jobs (charged ++ returned) p.book));
  pools = add_jobs site g direction.Archive (of_way direction.Archive (still_live site g (charged ++ returned))) p.pools;
  recalls = add_jobs site g direction.Retrieve (of_way direction.Retrieve (still_live site g (charged ++ returned))) p.recalls;
}

-- a recall that had ended is read: it is given back
abbrev pub after_stale : Job → JobParts → JobParts
after_stale job p = record p { book = give_back_jobs (job ∷ []) p.book }

-- the parts of an empty history
abbrev pub no_job_parts : JobParts
no_job_parts = record { book = record { recall = λ f. None; archive = λ f c. None; claimer = λ j. None; charges = λ j. []; last_birth = λ f c. None; named = λ j. false }; pools = λ k. []; recalls = λ k. []; counts = λ way vo. 0 }
