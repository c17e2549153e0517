-- A live file is resident or was flushed, and a recalled file is resident.
use Rattle.std.proofs.Common.{◌≡◌, ℕ, zero, suc, ◌+◌, ◌-◌, ◌≤◌, ◌⊎◌, inl, inr, List, [], ◌∷◌, ◌++◌, Bool, true, false, not, refl, sym, subst, length}
use Rattle.std.specs.Prelude.{Option, Some, None, is_some, is_none, if◌then◌else◌, ◌==◌, nat_lt, bytes_eq}
use Rattle.std.specs.List.{list_all, range_with_len}
use Rattle.std.proofs.lemmas.Bool.{and_parts, and_from, eqb-true, eq-eqb}
use Rattle.cta_site.specs.declared.site.Site.{Site}
use Rattle.cta_site.specs.Listed.{rows}
use Rattle.cta_site.specs.Lookups.{class_of, copies_of}
use Rattle.cta_model.specs.declared.entries.Entry.{Entry}
use Rattle.cta_model.specs.declared.asks.Ask.{Ask}
use Rattle.cta_model.specs.declared.asks.Ask.TheVariants as ask
use Rattle.cta_model.specs.declared.answers.Answer.{Answer}
use Rattle.cta_model.specs.declared.answers.Answer.TheVariants as answer
use Rattle.cta_model.specs.declared.answers.Refusal.{Refusal}
use Rattle.cta_model.specs.declared.answers.Refusal.TheVariants as refusal
use Rattle.cta_model.specs.declared.asks.Direction.{Direction}
use Rattle.cta_model.specs.declared.asks.Direction.TheVariants as direction
use Rattle.cta_model.specs.declared.asks.Item.{Item}
use Rattle.cta_model.specs.declared.states.Mount.{Mount}
use Rattle.cta_model.specs.History.{History, moment_of, has_number, is_number}
use Rattle.cta_model.specs.Files.{live_file, live_after, is_live, path_of, size_of, copy_numbers}
use Rattle.cta_model.specs.Mounts.{mount_of, is_open}
use Rattle.cta_model.specs.Tapes.{size_of_items}
use Rattle.cta_model.specs.Places.{is_taped, was_flushed}
use Rattle.cta_model.specs.Buffer.{brings_in, evicted_in, evicts, arrival_after, last_arrival, is_resident}
use Rattle.cta_model.specs.Space.{free_space, evictable_size, evictable_files, evicted_for, prefix_of_size, may_be_evicted, resident_files}
use Rattle.cta_model.specs.Pins.{is_pinned}
use Rattle.cta_model.specs.Batches.{batch_of}
use Rattle.cta_site.specs.Paths.{is_path}
use Rattle.cta_model.specs.Answers.{refuse, answer_of, light_answer, is_too_heavy, batch_answer, claim_by}
use Rattle.cta_model.specs.Legal.{IsLegal, IsNext}
use Rattle.cta_laws.specs.Localities.{ResidentOrFlushed}
use Rattle.cta_laws.specs.Recalls.{StaysResident, is_kept}
use Rattle.cta_laws.proofs.Tests.{bool_cases}
use Rattle.cta_laws.proofs.Claims.{AllOf, all_pass}
use Rattle.cta_laws.proofs.FlushedLaw.{each_flushed}
use Rattle.cta_laws.proofs.PlaceLaw.{flushed_stays, named_within, live_before, path_older}

-- ---- what is evicted is taped

pub prefix_all : (P : ℕ → Type 0) (h : History) (n : ℕ) (files : List ℕ) → AllOf P files → AllOf P (prefix_of_size h n files)
prefix_all P h zero files all = tt
prefix_all P h (suc n) [] all = tt
prefix_all P h (suc n) (f ∷ files) all = (all.0, prefix_all P h (suc n - size_of h f) files all.1)

pub number_among : (P : ℕ → Type 0) (ns : List ℕ) → AllOf P ns → (n : ℕ) → has_number n ns ≡ true → P n
number_among P [] all n e = absurd (cc)
number_among P (m ∷ ns) all n e =
    elim (bool_cases (n == m))
    [ inl hit ↦ subst P (sym (eqb-true n m hit)) all.0 | inr miss ↦ number_among P ns all.1 n (rw miss at e) ]

pub evicted_all : (site : Site) (h : History) (t need : ℕ) → AllOf (λ f. may_be_evicted site h t f ≡ true) (evicted_for site h t need)
evicted_all site h t need = prefix_all (λ f. may_be_evicted site h t f ≡ true) h (need - free_space site h) (evictable_files site h t) (all_pass (may_be_evicted site h t) (resident_files h))

pub evicted_may : (site : Site) (h : History) (t need f : ℕ) → has_number f (evicted_for site h t need) ≡ true → may_be_evicted site h t f ≡ true
evicted_may site h t need f e = number_among (λ n. may_be_evicted site h t n ≡ true) (evicted_for site h t need) (evicted_all site h t need) f e

-- ---- what an entry evicts may be evicted

refused_evicts : (k : Ask) (r : Refusal) → evicted_in k (answer.Refused r) ≡ []
refused_evicts (ask.Put who path sum) r = refl
refused_evicts (ask.Claim m) r = refl
refused_evicts _ r = refl

refuse_evicts : (k : Ask) (r : Refusal) (t : Bool) (a : Answer) (f : ℕ) → evicts k (refuse r t a) f ≡ true → evicts k a f ≡ true
refuse_evicts k r true a f e = (let none : has_number f [] ≡ true = subst (λ (ns : List ℕ). has_number f ns ≡ true) (refused_evicts k r) e in absurd (cc))
refuse_evicts k r false a f e = e

batch_may : (site : Site) (h : History) (t m : ℕ) (way : Direction) (b : List Item) (f : ℕ) → evicts (ask.Claim m) (batch_answer site h t way b) f ≡ true → may_be_evicted site h t f ≡ true
batch_may site h t m way [] f e = absurd (cc)
batch_may site h t m direction.Archive (i ∷ b) f e = absurd (cc)
batch_may site h t m direction.Retrieve (i ∷ b) f e = evicted_may site h t (size_of_items (i ∷ b)) f e

claim_may : (site : Site) (h : History) (t m : ℕ) (o : Option Mount) (f : ℕ) → evicts (ask.Claim m) (claim_by site h t o) f ≡ true → may_be_evicted site h t f ≡ true
claim_may site h t m None f e = absurd (cc)
claim_may site h t m (Some x) f e = batch_may site h t m x.direction (batch_of site h t x) f e

light_may : (site : Site) (h : History) (t : ℕ) (k : Ask) (f : ℕ) → evicts k (light_answer site h t k) f ≡ true → may_be_evicted site h t f ≡ true
light_may site h t (ask.Put who path sum) f e =
    evicted_may site h t sum.len f
    (refuse_evicts (ask.Put who path sum) refusal.NoSpace (nat_lt (free_space site h + evictable_size site h t) sum.len) (answer.Stored (rows (evicted_for site h t sum.len))) f
    (refuse_evicts (ask.Put who path sum) refusal.PathTaken (is_some (live_file h path)) _ f
    (refuse_evicts (ask.Put who path sum) refusal.NoDirectory (is_none (class_of site path)) _ f
    (refuse_evicts (ask.Put who path sum) refusal.BadPath (not (is_path path)) _ f e))))
light_may site h t (ask.Claim m) f e = claim_may site h t m (mount_of h m) f (refuse_evicts (ask.Claim m) refusal.Unknown (not (is_open h m)) _ f e)
light_may site h t _ f e = absurd (cc)

-- what an entry evicts may be evicted
pub evicts_may : (site : Site) (h : History) (t : ℕ) (k : Ask) (a : Answer) (f : ℕ) → a ≡ answer_of site h t k → evicts k a f ≡ true → may_be_evicted site h (moment_of h t) f ≡ true
evicts_may site h t k a f is e =
    let there : evicts k (answer_of site h t k) f ≡ true = subst (λ (x : Answer). evicts k x f ≡ true) is e in
    light_may site h (moment_of h t) k f (refuse_evicts k refusal.HistoryFull (is_too_heavy site h k (light_answer site h (moment_of h t) k)) (light_answer site h (moment_of h t) k) f there)

pub evicts_taped : (site : Site) (h : History) (t : ℕ) (k : Ask) (a : Answer) (f : ℕ) → a ≡ answer_of site h t k → evicts k a f ≡ true → is_taped site h f ≡ true
evicts_taped site h t k a f is e = (and_parts (is_taped site h f) _ (and_parts (not (is_pinned site h (moment_of h t) f)) _ (evicts_may site h t k a f is e)).1).0

-- ---- what is taped stays taped

pub copies_stay : (e : Entry) (h : History) (f : ℕ) (copies : List ℕ) → list_all (was_flushed h f) copies ≡ true → list_all (was_flushed (e ∷ h) f) copies ≡ true
copies_stay e h f [] all = refl
copies_stay e h f (c ∷ copies) all =
    let parts : (was_flushed h f c ≡ true) × (list_all (was_flushed h f) copies ≡ true) = and_parts _ _ all in
    and_from _ _ (flushed_stays (e ∷ []) h f c parts.0) (copies_stay e h f copies parts.1)

pub taped_stays : (site : Site) (e : Entry) (h : History) (f : ℕ) → f ≤ length h → is_taped site h f ≡ true → is_taped site (e ∷ h) f ≡ true
taped_stays site e h f low all = subst (λ (p : List ℕ). list_all (was_flushed (e ∷ h) f) (range_with_len 1 (copies_of site p)) ≡ true) (sym (path_older e h f low)) (copies_stay e h f (copy_numbers site h f) all)

-- ---- a live file is new, or was live

pub new_file : (k : Ask) (a : Answer) (n f : ℕ) (p : List ℕ) (o : Option ℕ) → is_number f (live_after k n p o) ≡ true → (is_number f o ≡ true) ⊎ (brings_in k a n f ≡ true)
new_file (ask.Put who q sum) a n f p o =
    elim (bytes_eq q p) as (λ b. is_number f (if b then Some n else o) ≡ true → (is_number f o ≡ true) ⊎ (n == f ≡ true))
    [ true ↦ λ e. inr (eq-eqb n f (sym (eqb-true f n e))) | false ↦ λ e. inl e ]
new_file (ask.Delete who q) a n f p o =
    elim (bytes_eq q p) as (λ b. is_number f (if b then None else o) ≡ true → (is_number f o ≡ true) ⊎ (brings_in (ask.Delete who q) a n f ≡ true))
    [ true ↦ λ e. absurd (cc) | false ↦ λ e. inl e ]
new_file _ a n f p o = λ e. inl e

pub live_cases : (e : Entry) (h : History) (f : ℕ) → is_live (e ∷ h) f ≡ true → ((f ≤ length h) × (is_live h f ≡ true)) ⊎ (brings_in e.ask e.answer (length h + 1) f ≡ true)
live_cases e h f live =
    elim (new_file e.ask e.answer (length h + 1) f (path_of (e ∷ h) f) (live_file h (path_of (e ∷ h) f)) live) [
      | inl old ↦ (let low : f ≤ length h = (named_within h f (path_of (e ∷ h) f) old).1 in inl (low, live_before e h f low live))
      | inr new ↦ inr new
    ]

-- ---- the invariant

abbrev pub IsSomewhere : Site → History → ℕ → Type 0
IsSomewhere site h f = (is_some (last_arrival h f) ≡ true) ⊎ (is_taped site h f ≡ true)

pub arrives : (out : Bool) (n : ℕ) (o : Option ℕ) (b : Bool) → b ≡ true → is_some (arrival_after b out n o) ≡ true
arrives out n o true e = refl
arrives out n o false e = absurd (cc)

pub arrival_cases : (brings out : Bool) (n : ℕ) (o : Option ℕ) → is_some o ≡ true → (is_some (arrival_after brings out n o) ≡ true) ⊎ (out ≡ true)
arrival_cases true out n o e = inl refl
arrival_cases false true n o e = inr refl
arrival_cases false false n o e = inl e

pub kept_step : (site : Site) (h : History) (e : Entry) (f : ℕ) → IsNext site h e → f ≤ length h → IsSomewhere site h f → IsSomewhere site (e ∷ h) f
kept_step site h e f next low kept =
    elim kept [
      | inl here ↦
          elim (arrival_cases (brings_in e.ask e.answer (length h + 1) f) (evicts e.ask e.answer f) (length h + 1) (last_arrival h f) here)
          [ inl still ↦ inl still | inr out ↦ inr (taped_stays site e h f low (evicts_taped site h e.at e.ask e.answer f next.answered out)) ]
      | inr taped ↦ inr (taped_stays site e h f low taped)
    ]

pub kept_live : (site : Site) (h : History) → IsLegal site h → (f : ℕ) → is_live h f ≡ true → IsSomewhere site h f
kept_live site [] legal f live = absurd (cc)
kept_live site (e ∷ h) legal f live =
    elim (live_cases e h f live) [
      | inl old ↦ kept_step site h e f legal.1 old.0 (kept_live site h legal.0 f old.1)
      | inr new ↦ inl (arrives (evicts e.ask e.answer f) (length h + 1) (last_arrival h f) (brings_in e.ask e.answer (length h + 1) f) new)
    ]

pub resident_by : (h : History) (f : ℕ) → is_live h f ≡ true → is_some (last_arrival h f) ≡ true → is_resident h f ≡ true
resident_by h f live here = rw live here

pub resident_or_flushed : ResidentOrFlushed
resident_or_flushed site h legal f live =
    elim (kept_live site h legal f live) [ inl here ↦ inl (resident_by h f live here) | inr taped ↦ inr (each_flushed site h f taped) ]

-- ---- a resident file stays

pub was_here : (live : Bool) (o : Option ℕ) → is_some (if live then o else None) ≡ true → is_some o ≡ true
was_here true o e = e
was_here false o e = absurd (cc)

pub arrival_kept : (brings out : Bool) (n : ℕ) (o : Option ℕ) → is_some o ≡ true → not out ≡ true → is_some (arrival_after brings out n o) ≡ true
arrival_kept true out n o e d = refl
arrival_kept false true n o e d = absurd (cc)
arrival_kept false false n o e d = e

pub arrival_stays : (newer h : History) (f : ℕ) → is_some (last_arrival h f) ≡ true → is_kept f newer ≡ true → is_some (last_arrival (newer ++ h) f) ≡ true
arrival_stays [] h f here kept = here
arrival_stays (e ∷ newer) h f here kept =
    let parts : (not (evicts e.ask e.answer f) ≡ true) × (is_kept f newer ≡ true) = and_parts _ _ kept in
    arrival_kept (brings_in e.ask e.answer (length (newer ++ h) + 1) f) (evicts e.ask e.answer f) (length (newer ++ h) + 1) (last_arrival (newer ++ h) f) (arrival_stays newer h f here parts.1) parts.0

pub stays_resident : StaysResident
stays_resident newer h f here live kept = resident_by (newer ++ h) f live (arrival_stays newer h f (was_here (is_live h f) (last_arrival h f) here) kept)
