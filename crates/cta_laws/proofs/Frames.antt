-- What an ask that does not change a definition leaves as it was.
use Rattle.std.proofs.Common.{◌≡◌, ◌∙◌, ℕ, zero, suc, ◌+◌, ◌≤◌, List, [], ◌∷◌, Bool, false, not, refl, ap, length}
use Rattle.std.specs.Prelude.{Option, Some, None, option_map, filter, slice_get, ◌%◌, filter_map}
use Rattle.cta_site.specs.declared.site.Site.{Site}
use Rattle.cta_site.specs.declared.site.TapeState.{TapeState}
use Rattle.cta_site.specs.Lookups.{class_of, pool_of, copies_of}
use Rattle.cta_model.specs.declared.entries.Entry.{Entry}
use Rattle.cta_model.specs.declared.asks.Ask.{Ask}
use Rattle.cta_model.specs.declared.answers.Answer.{Answer}
use Rattle.cta_model.specs.declared.asks.Job.{Job}
use Rattle.cta_model.specs.declared.states.Place.{Place}
use Rattle.cta_model.specs.declared.states.Charge.{Charge}
use Rattle.cta_model.specs.History.{History, is_number}
use Rattle.cta_model.specs.Files.{live_file, live_after, is_live, path_of, copy_numbers}
use Rattle.cta_model.specs.Mounts.{open_mounts, open_after, claimer_of, asked_mount, tape_of_mount, drive_of_mount, job_of}
use Rattle.cta_model.specs.Tapes.{tape_state, state_after, is_broken, may_be_read}
use Rattle.cta_model.specs.Places.{place_of, place_after, places_of, all_places, last_flushed, fseq_after, flushed_in}
use Rattle.cta_model.specs.Charges.{charges_of, charges_after}
use Rattle.cta_model.specs.Recalls.{Recall, live_recall, recall_after, recall_goes_on, bears_recall}
use Rattle.cta_model.specs.Jobs.{archive_birth, archive_after, bears_archive, ends_archive, live_birth, is_live_job}
use Rattle.cta_model.specs.Queues.{key_of, key_by, sources_of, or_else, tape_of_recall, pool_of_job}
use Rattle.cta_model.specs.Legal.{IsLegal}
use Rattle.cta_laws.proofs.PlaceLaw.{path_older}
use Rattle.cta_model.specs.declared.asks.Ask.TheVariants as ask
use Rattle.cta_laws.specs.Changes.{may_change_claims, may_change_files, may_change_jobs, may_change_keys, may_change_mounts, may_change_states, may_charge, may_flush}
use Rattle.cta_laws.specs.Claims.{claimer_after}
use Rattle.cta_laws.proofs.Claimers.{claimer_step}
use Rattle.std.specs.List.{range_with_len}
use Rattle.cta_laws.proofs.Ranges.{filter_map_same}

-- ---- jobs

goes_on_same : (site : Site) (h : History) (e : Entry) (f : ℕ) (r : Recall) (k : Ask) (a : Answer) → may_change_jobs k ≡ false → recall_goes_on site h e f r k a ≡ Some r
goes_on_same site h e f r (ask.Release who id paths) a c = refl
goes_on_same site h e f r (ask.Next d) a c = refl
goes_on_same site h e f r (ask.Claim m) a c = refl
goes_on_same site h e f r (ask.End m fault) a c = refl
goes_on_same site h e f r (ask.DriveUp who d) a c = refl
goes_on_same site h e f r (ask.DriveDown who d) a c = refl
goes_on_same site h e f r (ask.Reclaim who v) a c = refl
goes_on_same site h e f r _ a c = absurd (cc)

bears_no_recall : (site : Site) (h : History) (k : Ask) (f : ℕ) → may_change_jobs k ≡ false → bears_recall site h k f ≡ false
bears_no_recall site h (ask.Release who id paths) f c = refl
bears_no_recall site h (ask.Next d) f c = refl
bears_no_recall site h (ask.Claim m) f c = refl
bears_no_recall site h (ask.End m fault) f c = refl
bears_no_recall site h (ask.DriveUp who d) f c = refl
bears_no_recall site h (ask.DriveDown who d) f c = refl
bears_no_recall site h (ask.Reclaim who v) f c = refl
bears_no_recall site h _ f c = absurd (cc)

bears_no_archive : (site : Site) (h : History) (k : Ask) (a : Answer) (f c : ℕ) → may_change_jobs k ≡ false → bears_archive site h k a f c ≡ false
bears_no_archive site h (ask.Release who id paths) a f c d = refl
bears_no_archive site h (ask.Next x) a f c d = refl
bears_no_archive site h (ask.Claim m) a f c d = refl
bears_no_archive site h (ask.End m fault) a f c d = refl
bears_no_archive site h (ask.DriveUp who x) a f c d = refl
bears_no_archive site h (ask.DriveDown who x) a f c d = refl
bears_no_archive site h (ask.Reclaim who v) a f c d = refl
bears_no_archive site h _ a f c d = absurd (cc)

ends_no_archive : (site : Site) (h : History) (k : Ask) (a : Answer) (j : Job) → may_change_jobs k ≡ false → ends_archive site h k a j ≡ false
ends_no_archive site h (ask.Release who id paths) a j d = refl
ends_no_archive site h (ask.Next x) a j d = refl
ends_no_archive site h (ask.Claim m) a j d = refl
ends_no_archive site h (ask.End m fault) a j d = refl
ends_no_archive site h (ask.DriveUp who x) a j d = refl
ends_no_archive site h (ask.DriveDown who x) a j d = refl
ends_no_archive site h (ask.Reclaim who v) a j d = refl
ends_no_archive site h _ a j d = absurd (cc)

pub recall_same : (site : Site) (h : History) (e : Entry) (f : ℕ) → may_change_jobs e.ask ≡ false → live_recall site (e ∷ h) f ≡ live_recall site h f
recall_same site h e f c = by (live_recall site h f)
  where
    by : (o : Option Recall) → recall_after site h e f o ≡ o
    by None = rw (bears_no_recall site h e.ask f c) refl
    by (Some r) = goes_on_same site h e f r e.ask e.answer c

pub archive_same : (site : Site) (h : History) (e : Entry) (f c : ℕ) → may_change_jobs e.ask ≡ false → archive_birth site (e ∷ h) f c ≡ archive_birth site h f c
archive_same site h e f c d = by (archive_birth site h f c)
  where
    by : (o : Option ℕ) → archive_after site h e f c o ≡ o
    by None = rw (bears_no_archive site h e.ask e.answer f c d) refl
    by (Some b) = rw (ends_no_archive site h e.ask e.answer (job_of b f c) d) refl

pub birth_same : (site : Site) (h : History) (e : Entry) (f c : ℕ) → may_change_jobs e.ask ≡ false → live_birth site (e ∷ h) f c ≡ live_birth site h f c
birth_same site h e f zero d = ap (λ (o : Option Recall). option_map (λ (r : Recall). r.birth) o) (recall_same site h e f d)
birth_same site h e f (suc c) d = archive_same site h e f (suc c) d

pub live_same : (site : Site) (h : History) (e : Entry) (j : Job) → may_change_jobs e.ask ≡ false → is_live_job site (e ∷ h) j ≡ is_live_job site h j
live_same site h e j d = ap (is_number j.birth) (birth_same site h e j.file j.copy d)

-- ---- mounts, claims and charges

opens_same : (k : Ask) (a : Answer) (n : ℕ) (ms : List ℕ) → may_change_mounts k ≡ false → open_after k a n ms ≡ ms
opens_same (ask.Next d) a n ms c = absurd (cc)
opens_same (ask.End m f) a n ms c = absurd (cc)
opens_same _ a n ms c = refl

pub mounts_same : (e : Entry) (h : History) → may_change_mounts e.ask ≡ false → open_mounts (e ∷ h) ≡ open_mounts h
mounts_same e h c = opens_same e.ask e.answer (length h + 1) (open_mounts h) c

claims_same : (k : Ask) (a : Answer) (j : Job) (o : Option ℕ) → may_change_claims k ≡ false → claimer_after k a j o ≡ o
claims_same (ask.Claim m) a j o c = absurd (cc)
claims_same (ask.Flushed m items) a j o c = absurd (cc)
claims_same (ask.Recalled m job) a j o c = absurd (cc)
claims_same (ask.Failed m f charged returned) a j o c = absurd (cc)
claims_same _ a j o c = refl

pub claimer_same : (site : Site) (h : History) (e : Entry) (j : Job) → IsLegal site (e ∷ h) → may_change_claims e.ask ≡ false → claimer_of (e ∷ h) j ≡ claimer_of h j
claimer_same site h e j legal c = claimer_step site h e legal j ∙ claims_same e.ask e.answer j (claimer_of h j) c

charged_same : (k : Ask) (j : Job) (d v : ℕ) (before : List Charge) → may_charge k ≡ false → charges_after k j d v before ≡ before
charged_same (ask.Failed m f charged returned) j d v before c = absurd (cc)
charged_same _ j d v before c = refl

pub charges_same : (e : Entry) (h : History) (j : Job) → may_charge e.ask ≡ false → charges_of (e ∷ h) j ≡ charges_of h j
charges_same e h j c = charged_same e.ask j (drive_of_mount h (asked_mount e.ask)) (tape_of_mount h (asked_mount e.ask)) (charges_of h j) c

-- ---- files, places and states

named_same : (k : Ask) (n : ℕ) (path : List ℕ) (o : Option ℕ) → may_change_files k ≡ false → live_after k n path o ≡ o
named_same (ask.Put who p sum) n path o c = absurd (cc)
named_same (ask.Delete who p) n path o c = absurd (cc)
named_same _ n path o c = refl

pub file_same : (e : Entry) (h : History) (path : List ℕ) → may_change_files e.ask ≡ false → live_file (e ∷ h) path ≡ live_file h path
file_same e h path c = named_same e.ask (length h + 1) path (live_file h path) c

pub is_live_same : (e : Entry) (h : History) (f : ℕ) → f ≤ length h → may_change_files e.ask ≡ false → is_live (e ∷ h) f ≡ is_live h f
is_live_same e h f low c = ap (λ (p : List ℕ). is_number f (live_file (e ∷ h) p)) (path_older e h f low) ∙ ap (is_number f) (file_same e h (path_of h f) c)

state_kept : (k : Ask) (v : ℕ) (s : TapeState) → may_change_states k ≡ false → state_after k v s ≡ s
state_kept (ask.TapeState who u s) v before c = absurd (cc)
state_kept _ v before c = refl

pub state_same : (site : Site) (e : Entry) (h : History) (v : ℕ) → may_change_states e.ask ≡ false → tape_state site (e ∷ h) v ≡ tape_state site h v
state_same site e h v c = state_kept e.ask v (tape_state site h v) c

flushes_none : (k : Ask) (a : Answer) (f c : ℕ) → may_flush k ≡ false → fseq_after (flushed_in k a) f c None ≡ None
flushes_none (ask.Flushed m items) a f c d = absurd (cc)
flushes_none _ a f c d = refl

pub flushed_same : (e : Entry) (h : History) (f c : ℕ) → may_flush e.ask ≡ false → last_flushed (e ∷ h) f c ≡ last_flushed h f c
flushed_same e h f c d = ap (λ (o : Option ℕ). place_after c (tape_of_mount h (asked_mount e.ask)) o (last_flushed h f c)) (flushes_none e.ask e.answer f c d)

-- ---- keys

pub filter_same : {A : Type 0} (p q : A → Bool) (xs : List A) → ((x : A) → p x ≡ q x) → filter p xs ≡ filter q xs
filter_same p q [] same = refl
filter_same p q (x ∷ xs) same = rw (same x) (rw (filter_same p q xs same) refl)

-- what the sources of a file are made of, as it was
pub record SameSources (site : Site) (e : Entry) (h : History) (f : ℕ) : Type 0 where
  pub low : f ≤ length h
  pub live : is_live (e ∷ h) f ≡ is_live h f
  pub flushed : (c : ℕ) → last_flushed (e ∷ h) f c ≡ last_flushed h f c
  pub state : (v : ℕ) → tape_state site (e ∷ h) v ≡ tape_state site h v

pub places_kept : (site : Site) (e : Entry) (h : History) (f : ℕ) → SameSources site e h f → places_of site (e ∷ h) f ≡ places_of site h f
places_kept site e h f same =
    filter_same (λ (p : Place). not (is_broken (tape_state site (e ∷ h) p.tape))) (λ (p : Place). not (is_broken (tape_state site h p.tape))) (all_places site (e ∷ h) f) (λ p. ap (λ (s : TapeState). not (is_broken s)) (same.state p.tape))
    ∙ ap (filter (λ (p : Place). not (is_broken (tape_state site h p.tape)))) (ap (λ (n : ℕ). filter_map (place_of (e ∷ h) f) (range_with_len 1 n)) (ap (copies_of site) (path_older e h f same.low)) ∙ filter_map_same (place_of (e ∷ h) f) (place_of h f) (copy_numbers site h f) place_same)
  where
    place_same : (c : ℕ) → place_of (e ∷ h) f c ≡ place_of h f c
    place_same c = rw same.live (rw (same.flushed c) refl)

pub sources_kept : (site : Site) (e : Entry) (h : History) (f : ℕ) → SameSources site e h f → sources_of site (e ∷ h) f ≡ sources_of site h f
sources_kept site e h f same =
    (let places : places_of site (e ∷ h) f ≡ places_of site h f = places_kept site e h f same in
    ap (λ (xs : List Place). or_else (filter (λ (p : Place). may_be_read (tape_state site (e ∷ h) p.tape)) xs) xs) places
    ∙ ap (λ (xs : List Place). or_else xs (places_of site h f)) (filter_same (λ (p : Place). may_be_read (tape_state site (e ∷ h) p.tape)) (λ (p : Place). may_be_read (tape_state site h p.tape)) (places_of site h f) (λ p. ap may_be_read (same.state p.tape))))

pub pool_kept : (site : Site) (e : Entry) (h : History) (j : Job) → j.file ≤ length h → pool_of_job site (e ∷ h) j ≡ pool_of_job site h j
pool_kept site e h j low = ap (λ (p : List ℕ). option_map (λ class. pool_of site class j.copy) (class_of site p)) (path_older e h j.file low)

pub recall_key_kept : (site : Site) (e : Entry) (h : History) (j : Job) → sources_of site (e ∷ h) j.file ≡ sources_of site h j.file → charges_of (e ∷ h) j ≡ charges_of h j → tape_of_recall site (e ∷ h) j ≡ tape_of_recall site h j
recall_key_kept site e h j sources charges =
    ap (λ (xs : List Place). option_map (λ (p : Place). p.tape) (slice_get xs (length (charges_of (e ∷ h) j) % length xs))) sources
    ∙ ap (λ (cs : List Charge). option_map (λ (p : Place). p.tape) (slice_get (sources_of site h j.file) (length cs % length (sources_of site h j.file)))) charges

-- a job's key where its file's sources and its charges are as they were
pub key_kept : (site : Site) (e : Entry) (h : History) (j : Job) → SameSources site e h j.file → charges_of (e ∷ h) j ≡ charges_of h j → key_of site (e ∷ h) j ≡ key_of site h j
key_kept site e h j same charges = by j.copy
  where
    by : (c : ℕ) → key_by c site (e ∷ h) j ≡ key_by c site h j
    by zero = recall_key_kept site e h j (sources_kept site e h j.file same) charges
    by (suc c) = pool_kept site e h j same.low

-- the key of an archive job stays
pub archive_key_kept : (site : Site) (e : Entry) (h : History) (b f c : ℕ) → f ≤ length h → key_of site (e ∷ h) (job_of b f (suc c)) ≡ key_of site h (job_of b f (suc c))
archive_key_kept site e h b f c low = pool_kept site e h (job_of b f (suc c)) low

keys_by : (k : Ask) → may_change_keys k ≡ false → (may_change_files k ≡ false) × (may_flush k ≡ false) × (may_change_states k ≡ false) × (may_charge k ≡ false)
keys_by (ask.Put who path sum) c = absurd (cc)
keys_by (ask.Delete who path) c = absurd (cc)
keys_by (ask.Flushed m items) c = absurd (cc)
keys_by (ask.Failed m f charged returned) c = absurd (cc)
keys_by (ask.TapeState who v s) c = absurd (cc)
keys_by _ c = (refl, refl, refl, refl)

pub key_same : (site : Site) (e : Entry) (h : History) (j : Job) → j.file ≤ length h → may_change_keys e.ask ≡ false → key_of site (e ∷ h) j ≡ key_of site h j
key_same site e h j low c =
    (let p : (may_change_files e.ask ≡ false) × (may_flush e.ask ≡ false) × (may_change_states e.ask ≡ false) × (may_charge e.ask ≡ false) = keys_by e.ask c in
    key_kept site e h j (record { low = low; live = is_live_same e h j.file low p.0; flushed = λ c. flushed_same e h j.file c p.1; state = λ v. state_same site e h v p.2 }) (charges_same e h j p.3))
