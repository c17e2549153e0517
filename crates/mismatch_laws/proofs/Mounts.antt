-- Mounts, and the items that they have claimed, are the same without what mismatches have found.
use Rattle.std.proofs.Common.{refl, ap, ◌∙◌, ◌≡◌, ◌∷◌, [], List, option_map, ℕ, Bool}
use Rattle.std.specs.Prelude.{Option, Some, None, ◌==◌, filter, find}
use Rattle.std.specs.List.{list_any}
use Rattle.cta_model.specs.declared.entries.Entry.{Entry}
use Rattle.cta_model.specs.declared.asks.Ask.{Ask}
use Rattle.cta_model.specs.declared.asks.Ask.TheVariants as ask
use Rattle.cta_model.specs.declared.answers.Answer.{Answer}
use Rattle.cta_model.specs.declared.answers.Answer.TheVariants as answer
use Rattle.cta_model.specs.declared.asks.Job.{Job}
use Rattle.cta_model.specs.declared.asks.Item.{Item}
use Rattle.cta_model.specs.declared.states.Mount.{Mount}
use Rattle.cta_model.specs.History.{History, entry_of, has_number}
use Rattle.std.specs.Prelude.{◌||◌}
use Rattle.cta_model.specs.Mounts.{asked_mount, batch_in, batch_or, claim_names, claimed_after, claimed_items, claimer_of, claims, down_after, drive_by, drive_of_mount, has_job, is_busy, is_down, is_mount, is_mounted, is_open, item_jobs, last_batch, mount_by, mount_in, mount_of, open_after, open_mounts, open_where, tape_by, tape_of_mount, was_claimed}
use Rattle.mismatch_laws.specs.Alike.{ask_without_found, entry_without_found, history_without_found}
use Rattle.mismatch_laws.proofs.History.{entry_of_same, next_number_same}

pub mount_in_same : (k : Ask) (a : Answer) → mount_in (ask_without_found k) a ≡ mount_in k a
mount_in_same (ask.Next d) (answer.Mounted m way v) = refl
mount_in_same _ _ = refl

pub mount_by_same : (o : Option Entry) → mount_by (option_map entry_without_found o) ≡ mount_by o
mount_by_same None = refl
mount_by_same (Some e) = λ z. mount_in_same e.ask e.answer z

pub mount_of_same : (h : History) (m : ℕ) → mount_of (history_without_found h) m ≡ mount_of h m
mount_of_same h m = ap mount_by (entry_of_same h m) ∙ mount_by_same (entry_of h m)

pub open_after_same : (k : Ask) (a : Answer) (n : ℕ) (before : List ℕ) → open_after (ask_without_found k) a n before ≡ open_after k a n before
open_after_same (ask.Next d) (answer.Mounted m way v) n before = refl
open_after_same (ask.End m fault) a n before = refl
open_after_same _ _ n before = refl

pub open_mounts_same : (h : History) → open_mounts (history_without_found h) ≡ open_mounts h
open_mounts_same [] = refl
open_mounts_same (e ∷ h) = λ z. open_after_same e.ask e.answer (next_number_same h z) (open_mounts_same h z) z

pub is_open_same : (h : History) (m : ℕ) → is_open (history_without_found h) m ≡ is_open h m
is_open_same h m = λ z. has_number m (open_mounts_same h z)

pub asked_mount_same : (k : Ask) → asked_mount (ask_without_found k) ≡ asked_mount k
asked_mount_same (ask.Claim m) = refl
asked_mount_same (ask.Flushed m items) = refl
asked_mount_same (ask.Recalled m job) = refl
asked_mount_same (ask.Failed m fault charged returned) = refl
asked_mount_same (ask.End m fault) = refl
asked_mount_same _ = refl

pub tape_of_mount_same : (h : History) (m : ℕ) → tape_of_mount (history_without_found h) m ≡ tape_of_mount h m
tape_of_mount_same h m = λ z. tape_by (mount_of_same h m z)

pub drive_of_mount_same : (h : History) (m : ℕ) → drive_of_mount (history_without_found h) m ≡ drive_of_mount h m
drive_of_mount_same h m = λ z. drive_by (mount_of_same h m z)

pub open_where_same : (test : (Mount → Bool)) (h : History) → open_where test (history_without_found h) ≡ open_where test h
open_where_same test h = λ z. filter (λ m. is_mount test (mount_of_same h m z)) (open_mounts_same h z)

pub is_mounted_same : (h : History) (v : ℕ) → is_mounted (history_without_found h) v ≡ is_mounted h v
is_mounted_same h v = λ z. list_any (λ m. is_mount (λ (x : Mount). x.tape == v) (mount_of_same h m z)) (open_mounts_same h z)

pub is_busy_same : (h : History) (d : ℕ) → is_busy (history_without_found h) d ≡ is_busy h d
is_busy_same h d = λ z. list_any (λ m. is_mount (λ (x : Mount). x.drive == d) (mount_of_same h m z)) (open_mounts_same h z)

pub down_after_same : (k : Ask) (d : ℕ) (of_mount : ℕ) (before : Bool) → down_after (ask_without_found k) d of_mount before ≡ down_after k d of_mount before
down_after_same (ask.DriveUp who k) d of_mount before = refl
down_after_same (ask.DriveDown who k) d of_mount before = refl
down_after_same (ask.End m f) d of_mount before = refl
down_after_same _ d of_mount before = refl

pub is_down_same : (h : History) (d : ℕ) → is_down (history_without_found h) d ≡ is_down h d
is_down_same [] d = refl
is_down_same (e ∷ h) d = λ z. down_after_same e.ask d (drive_of_mount_same h (asked_mount_same e.ask z) z) (is_down_same h d z) z

pub claimed_after_same : (k : Ask) (a : Answer) (m : ℕ) (before : List Item) → claimed_after (ask_without_found k) a m before ≡ claimed_after k a m before
claimed_after_same (ask.Claim k) (answer.Batch items evicted) m before = refl
claimed_after_same (ask.Flushed k items) a m before = refl
claimed_after_same (ask.Recalled k job) a m before = refl
claimed_after_same (ask.Failed k f charged returned) a m before = refl
claimed_after_same _ a m before = refl

pub claimed_items_same : (h : History) (m : ℕ) → claimed_items (history_without_found h) m ≡ claimed_items h m
claimed_items_same [] m = refl
claimed_items_same (e ∷ h) m = λ z. claimed_after_same e.ask e.answer m (claimed_items_same h m z) z

pub claims_same : (h : History) (m : ℕ) (j : Job) → claims (history_without_found h) m j ≡ claims h m j
claims_same h m j = λ z. has_job j (item_jobs (claimed_items_same h m z))

pub claimer_of_same : (h : History) (j : Job) → claimer_of (history_without_found h) j ≡ claimer_of h j
claimer_of_same h j = λ z. find (λ m. (claims_same h m j z)) (open_mounts_same h z)

pub claim_names_same : (k : Ask) (a : Answer) (j : Job) → claim_names (ask_without_found k) a j ≡ claim_names k a j
claim_names_same (ask.Claim m) (answer.Batch items evicted) j = refl
claim_names_same _ _ j = refl

pub was_claimed_same : (h : History) (j : Job) → was_claimed (history_without_found h) j ≡ was_claimed h j
was_claimed_same [] j = refl
was_claimed_same (e ∷ h) j = λ i. claim_names_same e.ask e.answer j i || was_claimed_same h j i

pub batch_in_same : (k : Ask) (a : Answer) (m : ℕ) → batch_in (ask_without_found k) a m ≡ batch_in k a m
batch_in_same (ask.Claim k) (answer.Batch items evicted) m = refl
batch_in_same _ _ m = refl

pub last_batch_same : (h : History) (m : ℕ) → last_batch (history_without_found h) m ≡ last_batch h m
last_batch_same [] m = refl
last_batch_same (e ∷ h) m = λ z. batch_or (batch_in_same e.ask e.answer m z) (last_batch_same h m z)
