-- Sites and histories to try the definitions on.
use Rattle.std.specs.Prelude.{ℕ, List, [], ◌∷◌, ◌++◌, None, codes}
use Rattle.cta_site.specs.Listed.{rows}
use Rattle.cta_site.specs.Sites.{small_limits}
use Rattle.cta_site.specs.declared.site.Site.{Site}
use Rattle.cta_site.specs.declared.site.TapePool.{TapePool}
use Rattle.cta_site.specs.declared.site.Tape.{Tape}
use Rattle.cta_site.specs.declared.site.Drive.{Drive}
use Rattle.cta_site.specs.declared.site.Class.{Class}
use Rattle.cta_site.specs.declared.site.Policy.{Policy}
use Rattle.cta_site.specs.declared.site.RuleKind.TheVariants as rule
use Rattle.cta_site.specs.declared.site.TapeState.TheVariants as state
use Rattle.blob.specs.declared.sum.Sum256.{Sum256}
use Rattle.cta_model.specs.declared.asks.Who.{Who}
use Rattle.cta_model.specs.declared.asks.Job.{Job}
use Rattle.cta_model.specs.declared.asks.Item.{Item}
use Rattle.cta_model.specs.declared.asks.Fault.TheVariants as fault
use Rattle.cta_model.specs.declared.asks.Wanted.{Wanted}
use Rattle.cta_model.specs.declared.asks.Ask.{Ask}
use Rattle.cta_model.specs.declared.asks.Ask.TheVariants as ask
use Rattle.cta_model.specs.History.{History}
use Rattle.cta_model.specs.Recalls.{recall_job}
use Rattle.cta_model.specs.Mounts.{job_of}
use Rattle.cta_model.specs.Kept.{history_of}

-- ---- sites

-- a pool of this name, of the VO atlas
abbrev pub pool : List ℕ → TapePool
pool name = record { name = name; vo = codes "atlas" }

-- an ACTIVE tape of this VID and pool, of 1,000 bytes, in the one library
abbrev pub tape : List ℕ → List ℕ → Tape
tape vid pool = record { vid = vid; pool = pool; library = codes "L1"; capacity = 1000; state = state.Active }

-- a drive of this name in the one library
abbrev pub drive : List ℕ → Drive
drive name = record { name = name; library = codes "L1" }

-- a class of this name, of the VO atlas and one copy
abbrev pub class : List ℕ → Class
class name = record { name = name; vo = codes "atlas"; copies = 1 }

-- priority 1 and a least age of 10 seconds, both ways
abbrev pub standard_policy : Policy
standard_policy = record { name = codes "std"; archive_priority = 1; archive_min_age = 10; retrieve_priority = 1; retrieve_min_age = 10 }

-- priority 5 and no least age, both ways
abbrev pub fast_policy : Policy
fast_policy = record { name = codes "fast"; archive_priority = 5; archive_min_age = 0; retrieve_priority = 5; retrieve_min_age = 0 }

-- one class of one copy, one pool, one tape, one drive
abbrev pub one_copy_site : Site
one_copy_site = record {
  version = 1;
  sitename = codes "T1";
  endpoint = codes "https://tape.example.org/api/v1";
  default_policy = codes "std";
  repack_policy = codes "std";
  limits = small_limits;
  vos = rows (record { name = codes "atlas"; read_drives = 1; write_drives = 1 } ∷ []);
  classes = rows (class (codes "raw") ∷ []);
  pools = rows (pool (codes "p1") ∷ []);
  routes = rows (record { class = codes "raw"; copy = 1; pool = codes "p1" } ∷ []);
  policies = rows (standard_policy ∷ []);
  rules = rows [];
  libraries = rows (codes "L1" ∷ []);
  tapes = rows (tape (codes "V1") (codes "p1") ∷ []);
  drives = rows (drive (codes "d1") ∷ []);
  directories = rows (record { path = codes "/atlas"; class = codes "raw" } ∷ []);
  failures = rows [];
}

-- the same with two copies, in two pools of a tape each
abbrev pub two_copy_site : Site
two_copy_site = record one_copy_site {
  classes = rows (record { name = codes "raw"; vo = codes "atlas"; copies = 2 } ∷ []);
  pools = rows (pool (codes "p1") ∷ pool (codes "p2") ∷ []);
  routes = rows (record { class = codes "raw"; copy = 1; pool = codes "p1" } ∷ record { class = codes "raw"; copy = 2; pool = codes "p2" } ∷ []);
  tapes = rows (tape (codes "V1") (codes "p1") ∷ tape (codes "V2") (codes "p2") ∷ []);
}

-- a site with a buffer of 10 bytes
abbrev pub with_small_buffer : Site → Site
with_small_buffer site = record site { limits = record small_limits { buffer = 10; file = 10 } }

-- one copy, and two tapes in its pool
abbrev pub two_tape_site : Site
two_tape_site = record one_copy_site { tapes = rows (tape (codes "V1") (codes "p1") ∷ tape (codes "V2") (codes "p1") ∷ []) }

-- the same with two drives, where recalls have a higher priority than writes
abbrev pub recalls_first_site : Site
recalls_first_site = record two_tape_site {
  drives = rows (drive (codes "d1") ∷ drive (codes "d2") ∷ []);
  policies = rows (record { name = codes "std"; archive_priority = 1; archive_min_age = 10; retrieve_priority = 2; retrieve_min_age = 10 } ∷ []);
}

-- two classes of one copy, each with a directory, a pool and a tape of its own; the requester `fast` has a policy of priority 5
abbrev pub two_class_site : Site
two_class_site = record one_copy_site {
  classes = rows (class (codes "hot") ∷ class (codes "raw") ∷ []);
  pools = rows (pool (codes "p1") ∷ pool (codes "p2") ∷ []);
  routes = rows (record { class = codes "raw"; copy = 1; pool = codes "p1" } ∷ record { class = codes "hot"; copy = 1; pool = codes "p2" } ∷ []);
  policies = rows (fast_policy ∷ standard_policy ∷ []);
  rules = rows (record { kind = rule.Requester; name = codes "fast"; policy = codes "fast" } ∷ []);
  tapes = rows (tape (codes "V1") (codes "p1") ∷ tape (codes "V2") (codes "p2") ∷ []);
  directories = rows (record { path = codes "/atlas"; class = codes "raw" } ∷ record { path = codes "/hot"; class = codes "hot" } ∷ []);
}

-- ---- asks, each with its moment

-- a caller with no name and no group
abbrev pub somebody : Who
somebody = record { requester = []; group = [] }

-- the requester `fast`, with no group
abbrev pub fast : Who
fast = record { requester = codes "fast"; group = [] }

-- the sum of a file of so many bytes; the digest says nothing here
abbrev pub sum_of_size : ℕ → Sum256
sum_of_size n = record { len = n; digest = [] }

-- a Put by this caller of a file of so many bytes at a path, at the moment 100
abbrev pub put_by : Who → List ℕ → ℕ → ℕ × Ask
put_by who path size = (100, ask.Put who path (sum_of_size size))

-- the same by somebody
abbrev pub put_of : List ℕ → ℕ → ℕ × Ask
put_of path size = put_by somebody path size

-- a Put of the file /atlas/a of 5 bytes
abbrev pub put_a : ℕ × Ask
put_a = put_of (codes "/atlas/a") 5

-- a Put of the file /atlas/b of 8 bytes
abbrev pub put_b : ℕ × Ask
put_b = put_of (codes "/atlas/b") 8

-- a Delete of a path, at the moment 100
abbrev pub delete_of : List ℕ → ℕ × Ask
delete_of path = (100, ask.Delete somebody path)

-- a path that a Stage wants, for as long as the site says
abbrev pub wanted : List ℕ → Wanted
wanted path = record { path = path; lifetime = None }

-- a Stage of /atlas/a at this moment
abbrev pub stage_a : ℕ → ℕ × Ask
stage_a at = (at, ask.Stage somebody (rows (wanted (codes "/atlas/a") ∷ [])))

-- a Cancel of /atlas/a in this request, at this moment
abbrev pub cancel_a : ℕ → ℕ → ℕ × Ask
cancel_a at id = (at, ask.Cancel somebody id (rows (codes "/atlas/a" ∷ [])))

-- the archive job of a file's first copy that its Put bore
abbrev pub first_job : ℕ → Job
first_job f = job_of f f 1

-- an item of a job at an fSeq, of so many bytes
abbrev pub item_of : Job → ℕ → ℕ → Item
item_of j size s = record { job = j; fseq = s; sum = sum_of_size size }

-- a copy of a file of so many bytes that its Put bore, at an fSeq
abbrev pub first_item : ℕ → ℕ → ℕ → ℕ → Item
first_item f c size s = item_of (job_of f f c) size s

-- a session of drive 0 at this moment that writes one item; m is the number of its Next
abbrev pub archive_one_at : ℕ → ℕ → Item → List (ℕ × Ask)
archive_one_at at m i = (at, ask.Next 0) ∷ (at, ask.Claim m) ∷ (at, ask.Flushed m (rows (i ∷ []))) ∷ (at, ask.End m None) ∷ []

-- the same at the moment 100
abbrev pub archive_one : ℕ → Item → List (ℕ × Ask)
archive_one m i = archive_one_at 100 m i

-- a session of drive 0 at this moment that reads one file; m is the number of its Next
abbrev pub recall_one : ℕ → ℕ → Job → List (ℕ × Ask)
recall_one at m j = (at, ask.Next 0) ∷ (at, ask.Claim m) ∷ (at, ask.Recalled m j) ∷ (at, ask.End m None) ∷ []

-- where the buffer has 10 bytes: /atlas/a is put and written to tape, and a Put of 8 bytes evicts it; these are deleted again
abbrev pub a_to_tape_alone : List (ℕ × Ask)
a_to_tape_alone = put_a ∷ (archive_one 2 (first_item 1 1 5 1) ++ (put_b ∷ delete_of (codes "/atlas/b") ∷ []))

-- ---- histories

-- a file of 5 bytes is put
abbrev pub one_put : History
one_put = history_of one_copy_site [] (put_a ∷ [])

-- an empty file is put and written to tape
abbrev pub empty_file_on_tape : History
empty_file_on_tape = history_of one_copy_site [] (put_of (codes "/atlas/z") 0 ∷ archive_one 2 (first_item 1 1 0 1))

-- a file of two copies of which the first is on tape
abbrev pub first_copy_on_tape : History
first_copy_on_tape = history_of two_copy_site [] (put_a ∷ archive_one 2 (first_item 1 1 5 1))

-- and then the second is
abbrev pub both_copies_on_tape : History
both_copies_on_tape = history_of two_copy_site first_copy_on_tape (archive_one 6 (first_item 1 2 5 1))

-- a file of two copies fills half of the buffer; its first copy is on tape, and the second is queued
abbrev pub second_copy_queued : History
second_copy_queued = history_of (with_small_buffer two_copy_site) [] (put_a ∷ archive_one 2 (first_item 1 1 5 1))

-- a mount claims the one job that there is
abbrev pub one_claimed : History
one_claimed = history_of one_copy_site [] (put_a ∷ (100, ask.Next 0) ∷ (100, ask.Claim 2) ∷ [])

-- two files are claimed and a third is put; then the write of the first fails, and the second goes back uncharged
abbrev pub one_returned : History
one_returned = history_of one_copy_site [] (put_a ∷ put_b ∷ (100, ask.Next 0) ∷ (100, ask.Claim 3) ∷ put_of (codes "/atlas/c") 3
    ∷ (100, ask.Failed 3 fault.Write (rows (first_job 1 ∷ [])) (rows (first_job 2 ∷ []))) ∷ [])

-- a file of priority 1 is put, and then one of priority 5 that goes to another pool
abbrev pub two_priorities : History
two_priorities = history_of two_class_site [] (put_a ∷ put_by fast (codes "/hot/a") 5 ∷ [])

-- a file is to be read from the first tape, one is to be written, and the first drive reads
abbrev pub one_reads : History
one_reads = history_of (with_small_buffer recalls_first_site) [] (a_to_tape_alone ++ (put_of (codes "/atlas/c") 5 ∷ stage_a 100 ∷ (100, ask.Next 0) ∷ []))

-- a recall is cancelled after the claim, and read all the same
abbrev pub read_late : History
read_late = history_of (with_small_buffer one_copy_site) [] (a_to_tape_alone ++ (stage_a 200 ∷ (200, ask.Next 0) ∷ (200, ask.Claim 9) ∷ cancel_a 200 8 ∷ (200, ask.Recalled 9 (recall_job 8 1)) ∷ []))

-- the first tape is repacked: its one file was read
abbrev pub repack_read : History
repack_read = history_of (with_small_buffer two_tape_site) [] (a_to_tape_alone ++ ((100, ask.TapeState somebody 0 state.Repacking) ∷ (100, ask.Repack somebody 0) ∷ recall_one 100 10 (recall_job 9 1)))

-- and then written to the second tape
abbrev pub repack_written : History
repack_written = history_of (with_small_buffer two_tape_site) repack_read (archive_one 14 (item_of (job_of 12 1 1) 5 1))
