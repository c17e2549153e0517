-- What the parts of a state tell at a moment.
use Rattle.std.proofs.Common.{◌≡◌, ◌∙◌, ℕ, ◌+◌, ◌-◌, ◌^◌, ◌≤◌, ◌<◌, [], ◌∷◌, List, Bool, true, false, not, refl, sym, ap, subst, arith, length}
use Rattle.std.specs.Prelude.{Option, Some, None, Result, Ok, Err, IfOk, ◌&&◌, filter, if◌then◌else◌, nat_le, nat_lt}
use Rattle.cta_site.specs.declared.site.Site.{Site}
use Rattle.cta_site.specs.Laws.{ClassesAreKnown}
use Rattle.cta_site.specs.Lookups.{class_of, copies_of, copies_of_class}
use Rattle.cta_model.specs.History.{History, last_moment, moment_of}
use Rattle.cta_model.specs.declared.reports.Locality.{Locality}
use Rattle.cta_model.specs.Files.{copies_of_file, live_file}
use Rattle.cta_model.specs.Legal.{IsLegal, greatest_moment}
use Rattle.cta_model.specs.Localities.{locality_of}
use Rattle.cta_model.specs.Space.{bytes_to_read, evictable_size, evicted_for, free_space, resident_files, size_of_files}
use Rattle.cta_model.specs.Choice.{mount_choice}
use Rattle.part_model.specs.declared.space.Resident.{Resident}
use Rattle.part_model.specs.Held.{Held, bytes_of, evictable_in, evicted_for as held_evicted, free_in, pinned_in}
use Rattle.part_laws.specs.Choices.{choice_told}
use Rattle.part_laws.proofs.ChoiceTold.{choice_is}
use Rattle.part_answers.specs.Seen.{ChoiceIsSeen, seen_parts}
use Rattle.part_laws.specs.Files.{locality_told}
use Rattle.part_laws.proofs.PlaceTold.{locality_is}
use Rattle.cta_laws.proofs.JobFiles.{named_live}
use Rattle.part_laws.specs.SpaceLaws.{Tells}
use Rattle.part_laws.proofs.Told.{buffer_tells, bytes_is}
use Rattle.cta_laws.specs.Space.{BufferHasRoom}
use Rattle.cta_site.specs.WellFormed.{IsWellFormed}
use Rattle.archive_parts.specs.declared.parts.ArchiveParts.{ArchiveParts}
use Rattle.archive_parts.specs.PartsKept.{ArePartsKept, values_of}
use Rattle.drive_asks.proofs.ReadFacts.{few_of, last_low, now_low}

pub now_late : (h : History) (t : ℕ) → last_moment h ≤ moment_of h t
now_late h t = omega arith

-- what the buffer tells at the moment of a call
pub buffer_now : (site : Site) (h : History) (p : ArchiveParts) (t : ℕ) → IsLegal site h → ArePartsKept site h p → t ≤ greatest_moment → Tells site h p.buffer.held.value (moment_of h t)
buffer_now site h p t legal kept low = buffer_tells site h p.buffer.held.value (moment_of h t) kept.stand.space.buffer (now_late h t) (now_low site h t legal low)

-- a path has at most four copies
pub few_copies : (site : Site) → ClassesAreKnown site → (path : List ℕ) → copies_of site path ≤ 4
few_copies site known path = by (class_of site path) refl
  where
    by : (o : Option ℕ) → class_of site path ≡ o → copies_of site path ≤ 4
    by None is = subst (λ (n : ℕ). n ≤ 4) (sym (ap (copies_of_class site) is)) (omega arith)
    by (Some c) is = (known path c is).2

-- ---- space

enough : (size free more : ℕ) → size ≤ free → true ≡ not (nat_lt (free + more) size)
enough size free more fits = grind arith

beyond : (size free more : ℕ) → free < size → nat_le (size - free) more ≡ not (nat_lt (free + more) size)
beyond size free more over = grind arith

pub space_free : (site : Site) (h : History) (p : ArchiveParts) (t size free : ℕ) → IsLegal site h → ArePartsKept site h p → t ≤ greatest_moment → free ≡ free_in p.buffer.held.value → size ≤ free
    → true ≡ not (nat_lt (free_space site h + evictable_size site h (moment_of h t)) size)
space_free site h p t size free legal kept low is fits =
    enough size (free_space site h) (evictable_size site h (moment_of h t)) (subst (λ (n : ℕ). size ≤ n) (is ∙ (buffer_now site h p t legal kept low).free) fits)

pub space_beyond : (site : Site) (h : History) (p : ArchiveParts) (t now size free more : ℕ) → IsLegal site h → ArePartsKept site h p → t ≤ greatest_moment → free ≡ free_in p.buffer.held.value → now ≡ moment_of h t → more ≡ bytes_of (evictable_in p.buffer.held.value now) → free < size
    → nat_le (size - free) more ≡ not (nat_lt (free_space site h + evictable_size site h (moment_of h t)) size)
space_beyond site h p t now size free more legal kept low is at more_is over =
    let tells : Tells site h p.buffer.held.value (moment_of h t) = buffer_now site h p t legal kept low in
    let same_free : free ≡ free_space site h = is ∙ tells.free in
    let same_more : more ≡ evictable_size site h (moment_of h t) = more_is ∙ ap (λ (m : ℕ). bytes_of (evictable_in p.buffer.held.value m)) at ∙ tells.evictable in
    rw (← same_free) (rw (← same_more) (beyond size free more over))

pub evicted_now : (site : Site) (h : History) (p : ArchiveParts) (t now size count : ℕ) → IsLegal site h → ArePartsKept site h p → t ≤ greatest_moment → now ≡ moment_of h t → count ≡ length (held_evicted p.buffer.held.value now size) → count ≡ length (evicted_for site h (moment_of h t) size)
evicted_now site h p t now size count legal kept low at is =
    is ∙ ap (λ (m : ℕ). length (held_evicted p.buffer.held.value m size)) at ∙ ap length ((buffer_now site h p t legal kept low).evicted size)

-- ---- localities

pub locality_now : (site : Site) (h : History) (p : ArchiveParts) (f copies : ℕ) (told : Locality) → IsLegal site h → ArePartsKept site h p → copies ≡ copies_of_file site h f → told ≡ locality_told p.tapes.value p.buffer.held.value f copies
    → (path : List ℕ) → live_file h path ≡ Some f → told ≡ locality_of site h f
locality_now site h p f copies told legal kept many is path named =
    is ∙ ap (locality_told p.tapes.value p.buffer.held.value f) many ∙ locality_is site h p.tapes.value p.buffer.held.value f legal kept.stand.space.tapes kept.stand.space.buffer (named_live h path f named)

-- ---- mounts

pub choice_now : ChoiceIsSeen → (site : Site) (h : History) (p : ArchiveParts) (t now room d : ℕ) → IsLegal site h → ArePartsKept site h p → t ≤ greatest_moment → now ≡ moment_of h t → room ≡ free_in p.buffer.held.value + bytes_of (evictable_in p.buffer.held.value now)
    → choice_told site (seen_parts p.tapes.value p.mounts.value.rows p.mounts.value.downs p.counts p.pools.value p.recalls.value room) now d ≡ mount_choice site h (moment_of h t) d
choice_now seen site h p t now room d legal kept low at is =
    ap (λ (r : ℕ). choice_told site (seen_parts p.tapes.value p.mounts.value.rows p.mounts.value.downs p.counts p.pools.value p.recalls.value r) now d) is
    ∙ seen site (values_of p) now d
    ∙ ap (λ (m : ℕ). choice_told site (values_of p) m d) at
    ∙ choice_is site h (values_of p) (moment_of h t) kept.stand (now_late h t) (now_low site h t legal low) d

pub told_ok : {A E : Type 0} (r : Result A E) (x y : A) → IfOk r (λ o. o ≡ x) → x ≡ y → IfOk r (λ o. o ≡ y)
told_ok (Ok o) x y is same = is ∙ same
told_ok (Err e) x y is same = tt

-- what is free and what may be evicted are numbers of the buffer's size
pub room_fits : (v : Held) (now most : ℕ) → v.size < most → bytes_of v.files + v.aside < most → free_in v + bytes_of (evictable_in v now) < most
room_fits v now most size held =
    let few : bytes_of (evictable_in v now) ≤ bytes_of v.files = few_of (λ (r : Resident). not (pinned_in v.pins now r.file) && r.safe) v.files in omega (arith, few, size, held)

-- so they are for each buffer that stands for a legal history of a valid site
pub room_low : BufferHasRoom → (site : Site) (h : History) (p : ArchiveParts) (now : ℕ) → IsWellFormed site → IsLegal site h → ArePartsKept site h p → free_in p.buffer.held.value + bytes_of (evictable_in p.buffer.held.value now) < 2 ^ 64
room_low law site h p now well legal kept =
    let top : site.limits.buffer ≤ 2147483648 = well.limits.buffer_to in
    let size : p.buffer.held.value.size ≡ site.limits.buffer = kept.stand.space.buffer.size in
    let files : bytes_of p.buffer.held.value.files ≡ size_of_files h (resident_files h) = ap bytes_of kept.stand.space.buffer.files ∙ bytes_is site h (resident_files h) in
    let aside : p.buffer.held.value.aside ≡ bytes_to_read h = kept.stand.space.buffer.aside in
    let fits : size_of_files h (resident_files h) + bytes_to_read h ≤ site.limits.buffer = law site h legal in
    room_fits p.buffer.held.value now (2 ^ 64) (omega (arith, top, size)) (omega (arith, top, files, aside, fits))
