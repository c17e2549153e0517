-- What the buffer tells: which files are resident and pinned, its free space, and what is evicted.
use Rattle.std.proofs.Common.{◌≡◌, ℕ, zero, suc, ◌+◌, ◌-◌, ◌≤◌, ◌⊎◌, inl, inr, List, [], ◌∷◌, Bool, true, false, not, refl, sym, ◌∙◌, ap, length}
use Rattle.std.specs.Prelude.{Option, Some, None, is_some, if◌then◌else◌, ◌==◌, ◌&&◌, filter, map, nat_lt}
use Rattle.std.proofs.lemmas.Bool.{and_parts, and_from, eqb-true, eq-eqb}
use Rattle.std.proofs.lemmas.List.Sums.{sum_by-cons}
use Rattle.cta_site.specs.declared.site.Site.{Site}
use Rattle.cta_model.specs.declared.asks.Ask.{Ask}
use Rattle.cta_model.specs.declared.asks.Ask.TheVariants as ask
use Rattle.cta_model.specs.declared.asks.Fate.TheVariants as fate
use Rattle.cta_model.specs.declared.answers.Answer.{Answer}
use Rattle.cta_model.specs.declared.answers.Answer.TheVariants as answer
use Rattle.cta_model.specs.History.{History, has_number, last_moment, is_number}
use Rattle.cta_model.specs.Files.{size_of}
use Rattle.cta_model.specs.Buffer.{is_resident, arrival_of, last_arrival, arrival_after, brings_in, evicts}
use Rattle.cta_model.specs.Space.{file_brought, arrived_in, resident_files, size_of_files, free_space, is_safe, may_be_evicted, evictable_files, evictable_size, prefix_of_size, evicted_for}
use Rattle.cta_model.specs.Pins.{is_pinned}
use Rattle.cta_model.specs.Legal.{greatest_moment}
use Rattle.cta_laws.proofs.Tests.{or_left, or_right, or_cases}
use Rattle.cta_laws.proofs.Bools.{same_bool}
use Rattle.cta_laws.proofs.Claims.{AllOf, all_append, all_pass, all_mono}
use Rattle.cta_laws.proofs.LostLaw.{number_among}
use Rattle.cta_laws.proofs.MountLaw.{number_filter}
use Rattle.cta_laws.proofs.PinLaw.{pinned_found, pinned_from}
use Rattle.cta_laws.proofs.WaitLists.{number_append}
use Rattle.part_model.specs.declared.space.Resident.{Resident}
use Rattle.part_model.specs.declared.space.HeldPin.{HeldPin}
use Rattle.part_model.specs.Held.{Held, bytes_of, evictable_in, evicted_for as evicted_in, free_in, is_held, numbers, pinned_in, pins_in, prefix_of}
use Rattle.part_laws.specs.Buffer.{resident_at}
use Rattle.part_laws.specs.Held.{IsHeld}
use Rattle.part_laws.specs.SpaceLaws.{BufferTells, BufferTellsFiles}

-- ---- the pins of the buffer, by owners

pub some_owner : (ps : List HeldPin) (t f : ℕ) → pinned_in ps t f ≡ true → (id : ℕ) × (pins_in ps t f id ≡ true)
some_owner [] t f e = absurd (cc)
some_owner (p ∷ ps) t f e =
    elim (or_cases (p.file == f && nat_lt t p.until) (pinned_in ps t f) e) [
      | inl hit ↦ (p.owner, or_left (p.owner == p.owner && (p.file == f && nat_lt t p.until)) _ (and_from _ _ (eq-eqb p.owner p.owner refl) hit))
      | inr rest ↦ (let x = some_owner ps t f rest in (x.0, or_right (p.owner == x.0 && (p.file == f && nat_lt t p.until)) _ x.1))
    ]

pub from_owner : (ps : List HeldPin) (t f id : ℕ) → pins_in ps t f id ≡ true → pinned_in ps t f ≡ true
from_owner [] t f id e = absurd (cc)
from_owner (p ∷ ps) t f id e =
    elim (or_cases (p.owner == id && (p.file == f && nat_lt t p.until)) (pins_in ps t f id) e) [
      | inl hit ↦ or_left (p.file == f && nat_lt t p.until) _ (and_parts (p.owner == id) _ hit).1
      | inr rest ↦ or_right (p.file == f && nat_lt t p.until) _ (from_owner ps t f id rest)
    ]

-- whether a resident file is pinned
pub pinned_is : (site : Site) (h : History) (v : Held) (t f : ℕ) → IsHeld site h v → is_resident h f ≡ true → last_moment h ≤ t → t ≤ greatest_moment → pinned_in v.pins t f ≡ is_pinned site h t f
pinned_is site h v t f is here now top =
    same_bool (pinned_in v.pins t f) (is_pinned site h t f)
    (λ e. (let x = some_owner v.pins t f e in pinned_from site h t f x.0 (sym (is.pins t f x.0 here now top) ∙ x.1)))
    (λ e. (let x = pinned_found site h t f e in from_owner v.pins t f x.0 (is.pins t f x.0 here now top ∙ x.1)))

-- ---- free space, evictable files and what is evicted

pub bytes_is : (site : Site) (h : History) (fs : List ℕ) → bytes_of (map (resident_at site h) fs) ≡ size_of_files h fs
bytes_is site h [] = refl
bytes_is site h (f ∷ fs) = rw (bytes_is site h fs) (sym (sum_by-cons (size_of h) f fs))

pub free_is : (site : Site) (h : History) (v : Held) → IsHeld site h v → free_in v ≡ free_space site h
free_is site h v is = rw (is.size, is.files, is.aside, bytes_is site h (resident_files h)) refl

-- the files of the list are resident
pub resident_some : (o : Option ℕ) (k : ℕ) → is_number k o ≡ true → is_some o ≡ true
resident_some None k e = absurd (cc)
resident_some (Some n) k e = refl

pub arrived_resident : (h older : History) → AllOf (λ f. is_resident h f ≡ true) (arrived_in h older)
arrived_resident h [] = tt
arrived_resident h (e ∷ older) =
    all_append (λ f. is_resident h f ≡ true) (arrived_in h older) _ (arrived_resident h older)
    (all_mono (λ f. is_number (length older + 1) (arrival_of h f) ≡ true) (λ f. is_resident h f ≡ true) (filter (λ f. is_number (length older + 1) (arrival_of h f)) (file_brought e.ask (length older + 1))) (λ f x. resident_some (arrival_of h f) (length older + 1) x) (all_pass (λ f. is_number (length older + 1) (arrival_of h f)) (file_brought e.ask (length older + 1))))

pub evictable_by : (site : Site) (h : History) (v : Held) (t : ℕ) → IsHeld site h v → last_moment h ≤ t → t ≤ greatest_moment → (fs : List ℕ) → AllOf (λ f. is_resident h f ≡ true) fs → filter (λ (r : Resident). not (pinned_in v.pins t r.file) && r.safe) (map (resident_at site h) fs) ≡ map (resident_at site h) (filter (may_be_evicted site h t) fs)
evictable_by site h v t is now top [] all = refl
evictable_by site h v t is now top (f ∷ fs) all =
    let rest : filter (λ (r : Resident). not (pinned_in v.pins t r.file) && r.safe) (map (resident_at site h) fs) ≡ map (resident_at site h) (filter (may_be_evicted site h t) fs) = evictable_by site h v t is now top fs all.1 in
    let same : (not (pinned_in v.pins t f) && is_safe site h f) ≡ may_be_evicted site h t f = ap (λ (b : Bool). not b && is_safe site h f) (pinned_is site h v t f is all.0 now top) in
    by (not (pinned_in v.pins t f) && is_safe site h f) (may_be_evicted site h t f) same rest
  where
    by : (a b : Bool) → a ≡ b → filter (λ (r : Resident). not (pinned_in v.pins t r.file) && r.safe) (map (resident_at site h) fs) ≡ map (resident_at site h) (filter (may_be_evicted site h t) fs) → (if a then resident_at site h f ∷ filter (λ (r : Resident). not (pinned_in v.pins t r.file) && r.safe) (map (resident_at site h) fs) else filter (λ (r : Resident). not (pinned_in v.pins t r.file) && r.safe) (map (resident_at site h) fs)) ≡ map (resident_at site h) (if b then f ∷ filter (may_be_evicted site h t) fs else filter (may_be_evicted site h t) fs)
    by true true e rest = ap (λ (rs : List Resident). resident_at site h f ∷ rs) rest
    by true false e rest = absurd (cc)
    by false true e rest = absurd (cc)
    by false false e rest = rest

pub evictable_is : (site : Site) (h : History) (v : Held) (t : ℕ) → IsHeld site h v → last_moment h ≤ t → t ≤ greatest_moment → evictable_in v t ≡ map (resident_at site h) (evictable_files site h t)
evictable_is site h v t is now top = rw (is.files) (evictable_by site h v t is now top (resident_files h) (arrived_resident h h))

pub evictable_bytes : (site : Site) (h : History) (v : Held) (t : ℕ) → IsHeld site h v → last_moment h ≤ t → t ≤ greatest_moment → bytes_of (evictable_in v t) ≡ evictable_size site h t
evictable_bytes site h v t is now top = ap bytes_of (evictable_is site h v t is now top) ∙ bytes_is site h (evictable_files site h t)

pub prefix_is : (site : Site) (h : History) (n : ℕ) (fs : List ℕ) → numbers (prefix_of n (map (resident_at site h) fs)) ≡ prefix_of_size h n fs
prefix_is site h zero fs = refl
prefix_is site h (suc n) [] = refl
prefix_is site h (suc n) (f ∷ fs) = ap (λ (xs : List ℕ). f ∷ xs) (prefix_is site h (suc n - size_of h f) fs)

-- what the buffer evicts is what the archive does
pub evicted_is : (site : Site) (h : History) (v : Held) (t need : ℕ) → IsHeld site h v → last_moment h ≤ t → t ≤ greatest_moment → evicted_in v t need ≡ evicted_for site h t need
evicted_is site h v t need is now top =
    ap (λ (rs : List Resident). numbers (prefix_of (need - free_in v) rs)) (evictable_is site h v t is now top)
    ∙ prefix_is site h (need - free_in v) (evictable_files site h t)
    ∙ ap (λ (n : ℕ). prefix_of_size h (need - n) (evictable_files site h t)) (free_is site h v is)

pub buffer_tells : BufferTells
buffer_tells site h v t is now top = record {
  free = free_is site h v is;
  evictable = evictable_bytes site h v t is now top;
  evicted = λ need. evicted_is site h v t need is now top;
  pinned = λ f here. pinned_is site h v t f is here now top;
}

-- ---- which files are held

pub numbers_are : (site : Site) (h : History) (fs : List ℕ) → numbers (map (resident_at site h) fs) ≡ fs
numbers_are site h [] = refl
numbers_are site h (f ∷ fs) = ap (λ (xs : List ℕ). f ∷ xs) (numbers_are site h fs)

-- a file that an entry brings in is among those that it may bring in
brought : (k : Ask) (a : Answer) (n f : ℕ) → brings_in k a n f ≡ true → has_number f (file_brought k n) ≡ true
brought (ask.Put who path sum) a n f e = or_left (f == n) false (eq-eqb f n (sym (eqb-true n f e)))
brought (ask.Recalled m job) (answer.Arrived fate.Done) n f e = or_left (f == job.file) false (eq-eqb f job.file (sym (eqb-true job.file f e)))
brought (ask.Recalled m job) _ n f e = absurd (cc)
brought _ a n f e = absurd (cc)

-- how an arrival came about
arrival_cases : (brings out : Bool) (n k : ℕ) (o : Option ℕ) → arrival_after brings out n o ≡ Some k → ((brings ≡ true) × (n ≡ k)) ⊎ (o ≡ Some k)
arrival_cases true out n k o e = (let same : n ≡ k = cc in inl (refl, same))
arrival_cases false true n k o e = absurd (cc)
arrival_cases false false n k o e = inr e

arrived_there : (h older : History) (f k : ℕ) → arrival_of h f ≡ Some k → last_arrival older f ≡ Some k → has_number f (arrived_in h older) ≡ true
arrived_there h [] f k is e = absurd (cc)
arrived_there h (x ∷ older) f k is e =
    number_append f (arrived_in h older) (filter (λ g. is_number (length older + 1) (arrival_of h g)) (file_brought x.ask (length older + 1)))
    ∙ elim (arrival_cases (brings_in x.ask x.answer (length older + 1) f) (evicts x.ask x.answer f) (length older + 1) k (last_arrival older f) e) [
      | inl new ↦
          (let here : is_number (length older + 1) (arrival_of h f) ≡ true = ap (is_number (length older + 1)) is ∙ eq-eqb (length older + 1) k new.1 in
          or_right (has_number f (arrived_in h older)) _ (number_filter (λ g. is_number (length older + 1) (arrival_of h g)) f (file_brought x.ask (length older + 1)) here (brought x.ask x.answer (length older + 1) f new.0)))
      | inr old ↦ or_left (has_number f (arrived_in h older)) _ (arrived_there h older f k is old)
    ]

was_arrival : (live : Bool) (o : Option ℕ) (k : ℕ) → (if live then o else None) ≡ Some k → o ≡ Some k
was_arrival true o k e = e
was_arrival false o k e = absurd (cc)

pub resident_among : (h : History) (f : ℕ) → is_resident h f ≡ true → has_number f (resident_files h) ≡ true
resident_among h f here = by (arrival_of h f) refl here
  where
    by : (o : Option ℕ) → arrival_of h f ≡ o → is_some o ≡ true → has_number f (resident_files h) ≡ true
    by None is e = absurd (cc)
    by (Some k) is e = arrived_there h h f k is (was_arrival _ (last_arrival h f) k is)

pub among_is : (h : History) (f : ℕ) → has_number f (resident_files h) ≡ is_resident h f
among_is h f = same_bool (has_number f (resident_files h)) (is_resident h f) (λ e. number_among (λ n. is_resident h n ≡ true) (resident_files h) (arrived_resident h h) f e) (λ e. resident_among h f e)

pub held_is : (site : Site) (h : History) (v : Held) (f : ℕ) → IsHeld site h v → is_held v f ≡ is_resident h f
held_is site h v f is =
    ap (λ (rs : List Resident). has_number f (numbers rs)) is.files
    ∙ ap (has_number f) (numbers_are site h (resident_files h))
    ∙ among_is h f

pub buffer_tells_files : BufferTellsFiles
buffer_tells_files site h v f is = held_is site h v f is
