-- What an entry leaves of older files, of tapes and of claims.
use Rattle.std.proofs.Common.{◌≡◌, ℕ, ◌≤◌, List, ◌∷◌, false, not, refl, ◌∙◌, ap, length, arith, []}
use Rattle.std.specs.Prelude.{Option, Some, None, filter, filter_map, is_some}
use Rattle.std.proofs.lemmas.List.Elements.{filter_agree}
use Rattle.cta_site.specs.declared.site.Site.{Site}
use Rattle.cta_site.specs.declared.site.TapeState.{TapeState}
use Rattle.cta_site.specs.Lookups.{copies_of}
use Rattle.cta_model.specs.declared.entries.Entry.{Entry}
use Rattle.cta_model.specs.declared.asks.Ask.{Ask}
use Rattle.cta_model.specs.declared.answers.Answer.{Answer}
use Rattle.cta_model.specs.declared.asks.Item.{Item}
use Rattle.cta_model.specs.declared.states.Place.{Place}
use Rattle.cta_model.specs.History.{History}
use Rattle.cta_model.specs.Files.{sum_of, entry_sum, copies_of_file, copy_numbers}
use Rattle.cta_model.specs.Mounts.{claimed_items, claimed_after, tape_of_mount, asked_mount, job_of}
use Rattle.cta_model.specs.Tapes.{tape_state, is_broken, tape_items, items_after}
use Rattle.cta_model.specs.Places.{last_flushed, place_of, all_places, places_of, is_taped, was_flushed}
use Rattle.cta_model.specs.Jobs.{archive_birth, archive_after, bears_archive, ends_archive}
use Rattle.cta_model.specs.Space.{has_archive_job}
use Rattle.cta_laws.proofs.PlaceLaw.{path_older, live_place}
use Rattle.cta_laws.proofs.Claims.{AllOf}
use Rattle.cta_laws.proofs.RangeLaw.{flushed_copy}
use Rattle.cta_model.specs.declared.asks.Ask.TheVariants as ask
use Rattle.cta_laws.proofs.Sums.{entry_older}
use Rattle.cta_laws.proofs.Frames.{flushed_same, is_live_same}
use Rattle.cta_laws.specs.Changes.{may_change_claims, may_change_files, may_change_items, may_flush}
use Rattle.std.specs.List.{list_any, list_all, range_with_len}
use Rattle.cta_laws.proofs.Ranges.{all_filter_map, range_all, any_same, filter_map_same}

-- ---- files

pub sum_older : (e : Entry) (h : History) (f : ℕ) → f ≤ length h → sum_of (e ∷ h) f ≡ sum_of h f
sum_older e h f low = ap entry_sum (entry_older e h f low)

pub copies_older : (site : Site) (e : Entry) (h : History) (f : ℕ) → f ≤ length h → copies_of_file site (e ∷ h) f ≡ copies_of_file site h f
copies_older site e h f low = ap (copies_of site) (path_older e h f low)

-- ---- arrivals

-- ---- places

pub place_same : (e : Entry) (h : History) (f c : ℕ) → f ≤ length h → may_change_files e.ask ≡ false → may_flush e.ask ≡ false → place_of (e ∷ h) f c ≡ place_of h f c
place_same e h f c low dp df = rw (is_live_same e h f low dp, flushed_same e h f c df) refl

-- ---- tapes

items_same_by : (k : Ask) (v w : ℕ) (before : List Item) → may_change_items k ≡ false → items_after k v w before ≡ before
items_same_by (ask.Flushed m items) v w before d = absurd (cc)
items_same_by (ask.Reclaim who k) v w before d = absurd (cc)
items_same_by _ v w before d = refl

pub items_same : (e : Entry) (h : History) (v : ℕ) → may_change_items e.ask ≡ false → tape_items (e ∷ h) v ≡ tape_items h v
items_same e h v d = items_same_by e.ask v (tape_of_mount h (asked_mount e.ask)) (tape_items h v) d

-- ---- claims and mounts

claims_same_by : (k : Ask) (a : Answer) (m : ℕ) (before : List Item) → may_change_claims k ≡ false → claimed_after k a m before ≡ before
claims_same_by (ask.Claim k) a m before d = absurd (cc)
claims_same_by (ask.Flushed k items) a m before d = absurd (cc)
claims_same_by (ask.Recalled k job) a m before d = absurd (cc)
claims_same_by (ask.Failed k fault charged returned) a m before d = absurd (cc)
claims_same_by _ a m before d = refl

pub claims_same : (e : Entry) (h : History) (m : ℕ) → may_change_claims e.ask ≡ false → claimed_items (e ∷ h) m ≡ claimed_items h m
claims_same e h m d = claims_same_by e.ask e.answer m (claimed_items h m) d

-- ---- archive jobs

archive_same_by : (site : Site) (h : History) (e : Entry) (f c : ℕ) (o : Option ℕ) → bears_archive site h e.ask e.answer f c ≡ false → ((b : ℕ) → ends_archive site h e.ask e.answer (job_of b f c) ≡ false) → archive_after site h e f c o ≡ o
archive_same_by site h e f c None none ends = rw none refl
archive_same_by site h e f c (Some b) none ends = rw (ends b) refl

-- which copies of a file have live jobs, where the entry bears none and ends none of them
pub archive_same_at : (site : Site) (h : History) (e : Entry) (f c : ℕ) → bears_archive site h e.ask e.answer f c ≡ false → ((b : ℕ) → ends_archive site h e.ask e.answer (job_of b f c) ≡ false) → archive_birth site (e ∷ h) f c ≡ archive_birth site h f c
archive_same_at site h e f c none ends = archive_same_by site h e f c (archive_birth site h f c) none ends

-- ---- safe flags, by their three parts

flushed_same_by : (e : Entry) (h : History) (f : ℕ) (copies : List ℕ) → ((c : ℕ) → last_flushed (e ∷ h) f c ≡ last_flushed h f c) → list_all (was_flushed (e ∷ h) f) copies ≡ list_all (was_flushed h f) copies
flushed_same_by e h f [] same = refl
flushed_same_by e h f (c ∷ copies) same = rw (same c, flushed_same_by e h f copies same) refl

numbers_older : (site : Site) (e : Entry) (h : History) (f : ℕ) → f ≤ length h → copy_numbers site (e ∷ h) f ≡ copy_numbers site h f
numbers_older site e h f low = ap (range_with_len 1) (copies_older site e h f low)

pub taped_same : (site : Site) (e : Entry) (h : History) (f : ℕ) → f ≤ length h → ((c : ℕ) → last_flushed (e ∷ h) f c ≡ last_flushed h f c) → is_taped site (e ∷ h) f ≡ is_taped site h f
taped_same site e h f low same = flushed_same_by e h f (copy_numbers site (e ∷ h) f) same ∙ ap (list_all (was_flushed h f)) (numbers_older site e h f low)

pub all_places_same : (site : Site) (e : Entry) (h : History) (f : ℕ) → f ≤ length h → ((c : ℕ) → place_of (e ∷ h) f c ≡ place_of h f c) → all_places site (e ∷ h) f ≡ all_places site h f
all_places_same site e h f low same = filter_map_same (place_of (e ∷ h) f) (place_of h f) (copy_numbers site (e ∷ h) f) same ∙ ap (filter_map (place_of h f)) (numbers_older site e h f low)

pub places_same : (site : Site) (e : Entry) (h : History) (f : ℕ) → f ≤ length h → ((c : ℕ) → place_of (e ∷ h) f c ≡ place_of h f c) → ((v : ℕ) → tape_state site (e ∷ h) v ≡ tape_state site h v) → places_of site (e ∷ h) f ≡ places_of site h f
places_same site e h f low same states =
    ap (filter (λ (p : Place). not (is_broken (tape_state site (e ∷ h) p.tape)))) (all_places_same site e h f low same)
    ∙ filter_agree (λ (p : Place). not (is_broken (tape_state site (e ∷ h) p.tape))) (λ (p : Place). not (is_broken (tape_state site h p.tape))) (λ p. ap (λ (s : TapeState). not (is_broken s)) (states p.tape)) (all_places site h f)

pub jobs_same : (site : Site) (e : Entry) (h : History) (f : ℕ) → f ≤ length h → ((c : ℕ) → archive_birth site (e ∷ h) f c ≡ archive_birth site h f c) → has_archive_job site (e ∷ h) f ≡ has_archive_job site h f
jobs_same site e h f low same =
    any_same (λ c. is_some (archive_birth site (e ∷ h) f c)) (λ c. is_some (archive_birth site h f c)) (copy_numbers site (e ∷ h) f) (λ c. ap is_some (same c))
    ∙ ap (list_any (λ c. is_some (archive_birth site h f c))) (numbers_older site e h f low)

-- each place of a file is of a copy from 1
pub places_from : (site : Site) (h : History) (f : ℕ) → AllOf (λ (p : Place). 1 ≤ p.copy) (all_places site h f)
places_from site h f =
    all_filter_map (λ (p : Place). 1 ≤ p.copy) (place_of h f) (copy_numbers site h f)
    (range_all (λ c. (p : Place) → place_of h f c ≡ Some p → 1 ≤ p.copy) 1 (copies_of_file site h f) (λ c low high p is. (let same : p.copy ≡ c = flushed_copy h f c p (live_place h f c p is).1 in omega arith)))
