-- What a drive mounts next is told by the parts.
use Rattle.std.proofs.Common.{◌≡◌, ◌∙◌, ℕ, zero, suc, ◌+◌, ◌-◌, ◌<◌, ◌≤◌, List, [], ◌∷◌, ◌++◌, Bool, ◌&&◌, not, refl, sym, ap, arith, length}
use Rattle.std.specs.Prelude.{Option, Some, None, is_some, if◌then◌else◌, ◌==◌, nat_le, nat_lt, find}
use Rattle.std.specs.List.{flat_map, range_with_len}
use Rattle.std.specs.Option.{option_or}
use Rattle.cta_site.specs.declared.site.Site.{Site}
use Rattle.cta_site.specs.Lookups.{capacity_of, is_in_reach, pool_of_tape}
use Rattle.cta_model.specs.declared.asks.Direction.{Direction}
use Rattle.cta_model.specs.declared.asks.Direction.TheVariants as direction
use Rattle.cta_model.specs.declared.answers.Answer.{Answer}
use Rattle.cta_model.specs.declared.answers.Answer.TheVariants as answer
use Rattle.cta_model.specs.declared.answers.Refusal.TheVariants as refusal
use Rattle.cta_model.specs.declared.states.Candidate.{Candidate}
use Rattle.cta_model.specs.declared.states.Sums.{Sums}
use Rattle.cta_model.specs.History.{History, has_number, last_moment, next_number}
use Rattle.cta_model.specs.Mounts.{is_busy, is_down, is_mounted}
use Rattle.cta_model.specs.Tapes.{may_be_read, may_be_written, tape_state, used_bytes}
use Rattle.cta_model.specs.Space.{evictable_size, free_space}
use Rattle.cta_model.specs.Queues.{queue_of, sums_of}
use Rattle.cta_model.specs.Choice.{all_tapes, candidate_by, candidate_of, candidates_by, first_of, is_warranted_by, may_read_from, may_write_on, mount_choice, mounts_of_key, quota_of, some_job_fits, tape_for, tape_of_pool, vo_of_key}
use Rattle.cta_model.specs.Answers.{mounted, next_answer, refuse}
use Rattle.cta_model.specs.Legal.{greatest_moment}
use Rattle.part_model.specs.declared.space.TapeRow.{TapeRow}
use Rattle.part_model.specs.Held.{bytes_of, evictable_in}
use Rattle.part_model.specs.Mounts.{count_of_key, has_drive, has_tape}
use Rattle.part_model.specs.Queues.{fits_in, lines_in}
use Rattle.part_model.specs.Tapes.{row_in}
use Rattle.part_laws.proofs.SumsLaw.{fits_tell, sums_tell}
use Rattle.part_laws.specs.Mounts.{RowsTell}
use Rattle.part_laws.proofs.RowAnswers.{rows_tell_mounts}
use Rattle.part_laws.specs.SpaceLaws.{Tells}
use Rattle.part_laws.proofs.Told.{buffer_tells}
use Rattle.part_laws.specs.AllParts.{AllParts}
use Rattle.part_laws.specs.Stands.{Stands}
use Rattle.part_laws.specs.Choices.{candidate_told, choice_told, may_read_told, may_write_told, next_told, quota_told, room_told, sums_told, tape_for_told, tape_of_pool_told}

-- ---- lists of numbers

-- two tests that agree below a bound find the same
find_range : (p q : ℕ → Bool) (a n : ℕ) → ((t : ℕ) → t < a + n → p t ≡ q t) → find p (range_with_len a n) ≡ find q (range_with_len a n)
find_range p q a zero same = refl
find_range p q a (suc n) same = rw (same a (omega arith)) (rw (find_range p q (a + 1) n (λ t low. same t (omega arith))) refl)

-- so it is for the lists that two functions give
flat_range : {A : Type 0} (f g : ℕ → List A) (a n : ℕ) → ((t : ℕ) → t < a + n → f t ≡ g t) → flat_map f (range_with_len a n) ≡ flat_map g (range_with_len a n)
flat_range f g a zero same = refl
flat_range f g a (suc n) same = rw (same a (omega arith)) (rw (flat_range f g (a + 1) n (λ t low. same t (omega arith))) refl)

-- candidates are those of each key
by_keys : (site : Site) (h : History) (t d : ℕ) (way : Direction) (keys : List ℕ) → candidates_by site h t d way keys ≡ flat_map (candidate_of site h t d way) keys
by_keys site h t d way [] = refl
by_keys site h t d way (key ∷ keys) = ap (λ (cs : List Candidate). candidate_of site h t d way key ++ cs) (by_keys site h t d way keys)

-- ---- queues and rows

pub sums_are : (site : Site) (h : History) (v : AllParts) → Stands site h v → (way : Direction) (key : ℕ) → sums_told v way key ≡ sums_of site h way (queue_of site h way key)
sums_are site h v s direction.Archive key = sums_tell site h direction.Archive (lines_in v.pools) s.jobs.pools key
sums_are site h v s direction.Retrieve key = sums_tell site h direction.Retrieve (lines_in v.recalls) s.jobs.recalls key

fits_are : (site : Site) (h : History) (v : AllParts) → Stands site h v → (way : Direction) (key room : ℕ) → fits_in room (sums_told v way key) ≡ some_job_fits h (queue_of site h way key) room
fits_are site h v s direction.Archive key room = fits_tell site h direction.Archive (lines_in v.pools) s.jobs.pools key room
fits_are site h v s direction.Retrieve key room = fits_tell site h direction.Retrieve (lines_in v.recalls) s.jobs.recalls key room

pub tells_mounts : (site : Site) (h : History) (v : AllParts) → Stands site h v → RowsTell site h v.mounts
tells_mounts site h v s = rows_tell_mounts site h v.mounts s.mounts

pub room_is : (site : Site) (h : History) (v : AllParts) (t : ℕ) → Stands site h v → last_moment h ≤ t → t ≤ greatest_moment → room_told v t ≡ free_space site h + evictable_size site h t
room_is site h v t s now top =
    let tells : Tells site h v.space.buffer t = buffer_tells site h v.space.buffer t s.space.buffer now top in
    ap (λ (n : ℕ). n + bytes_of (evictable_in v.space.buffer t)) tells.free ∙ ap (λ (n : ℕ). free_space site h + n) tells.evictable

-- ---- what a drive may mount

write_is : (site : Site) (h : History) (v : AllParts) → Stands site h v → (d key t : ℕ) → t < length site.tapes.items
    → may_write_told site v d key (sums_told v direction.Archive key) t ≡ may_write_on site h d key (queue_of site h direction.Archive key) t
write_is site h v s d key t low =
    ap (λ (r : TapeRow). pool_of_tape site t == key && (may_be_written r.state && (is_in_reach site d t && (not (has_tape t v.mounts) && fits_in (capacity_of site t - r.used) (sums_told v direction.Archive key))))) (s.space.tapes.rows t low)
    ∙ ap (λ (b : Bool). pool_of_tape site t == key && (may_be_written (tape_state site h t) && (is_in_reach site d t && (not b && fits_in (capacity_of site t - used_bytes h t) (sums_told v direction.Archive key))))) ((tells_mounts site h v s).mounts t)
    ∙ ap (λ (b : Bool). pool_of_tape site t == key && (may_be_written (tape_state site h t) && (is_in_reach site d t && (not (is_mounted h t) && b)))) (fits_are site h v s direction.Archive key (capacity_of site t - used_bytes h t))

read_is : (site : Site) (h : History) (v : AllParts) (t : ℕ) → Stands site h v → last_moment h ≤ t → t ≤ greatest_moment → (d key : ℕ) → key < length site.tapes.items
    → may_read_told site v t d (sums_told v direction.Retrieve key) key ≡ may_read_from site h t d (queue_of site h direction.Retrieve key) key
read_is site h v t s now top d key low =
    ap (λ (r : TapeRow). may_be_read r.state && (is_in_reach site d key && (not (has_tape key v.mounts) && fits_in (room_told v t) (sums_told v direction.Retrieve key)))) (s.space.tapes.rows key low)
    ∙ ap (λ (b : Bool). may_be_read (tape_state site h key) && (is_in_reach site d key && (not b && fits_in (room_told v t) (sums_told v direction.Retrieve key)))) ((tells_mounts site h v s).mounts key)
    ∙ ap (λ (b : Bool). may_be_read (tape_state site h key) && (is_in_reach site d key && (not (is_mounted h key) && b))) (fits_are site h v s direction.Retrieve key (room_told v t))
    ∙ ap (λ (n : ℕ). may_be_read (tape_state site h key) && (is_in_reach site d key && (not (is_mounted h key) && some_job_fits h (queue_of site h direction.Retrieve key) n))) (room_is site h v t s now top)

pool_tape_is : (site : Site) (h : History) (v : AllParts) → Stands site h v → (d key : ℕ) → tape_of_pool_told site v d key (sums_told v direction.Archive key) ≡ tape_of_pool site h d key (queue_of site h direction.Archive key)
pool_tape_is site h v s d key =
    ap (λ (o : Option ℕ). option_or o (find (may_write_told site v d key (sums_told v direction.Archive key)) (all_tapes site)))
    (find_range _ (λ t. nat_lt 0 (used_bytes h t) && may_write_on site h d key (queue_of site h direction.Archive key) t) 0 (length site.tapes.items) (λ t low. used t (omega arith)))
    ∙ ap (option_or (find (λ t. nat_lt 0 (used_bytes h t) && may_write_on site h d key (queue_of site h direction.Archive key) t) (all_tapes site)))
    (find_range _ (may_write_on site h d key (queue_of site h direction.Archive key)) 0 (length site.tapes.items) (λ t low. write_is site h v s d key t (omega arith)))
  where
    used : (t : ℕ) → t < length site.tapes.items → (nat_lt 0 (row_in v.space.tapes t).used && may_write_told site v d key (sums_told v direction.Archive key) t) ≡ (nat_lt 0 (used_bytes h t) && may_write_on site h d key (queue_of site h direction.Archive key) t)
    used t low =
        ap (λ (r : TapeRow). nat_lt 0 r.used && may_write_told site v d key (sums_told v direction.Archive key) t) (s.space.tapes.rows t low)
        ∙ ap (λ (b : Bool). nat_lt 0 (used_bytes h t) && b) (write_is site h v s d key t low)

-- a key that is asked for: any pool, and a tape of the site
abbrev pub IsKey : Site → Direction → ℕ → Type 0
IsKey site direction.Archive key = Unit {0}
IsKey site direction.Retrieve key = key < length site.tapes.items

tape_is : (site : Site) (h : History) (v : AllParts) (t : ℕ) → Stands site h v → last_moment h ≤ t → t ≤ greatest_moment → (d : ℕ) (way : Direction) (key : ℕ) → IsKey site way key
    → tape_for_told site v t d way key (sums_told v way key) ≡ tape_for site h t d way key (queue_of site h way key)
tape_is site h v t s now top d direction.Archive key is = pool_tape_is site h v s d key
tape_is site h v t s now top d direction.Retrieve key is = ap (λ (b : Bool). if b then Some key else None) (read_is site h v t s now top d key is)

-- ---- the choice

abbrev pub fits_by : Bool → Bool → Bool → Option ℕ → Bool
fits_by down busy quota tape = not down && (not busy && (quota && is_some tape))

-- a candidate by what is asked of its key
abbrev pub candidate_from : Site → ℕ → Direction → ℕ → ℕ → Bool → Bool → Bool → Option Sums → Option ℕ → List Candidate
candidate_from site t way key n down busy quota sums tape = if is_warranted_by site t way n sums && fits_by down busy quota tape then candidate_by way key sums tape else []

candidate_is : (site : Site) (h : History) (v : AllParts) (t : ℕ) → Stands site h v → last_moment h ≤ t → t ≤ greatest_moment → (d : ℕ) (way : Direction) (key : ℕ) → IsKey site way key
    → candidate_told site v t d way key ≡ candidate_of site h t d way key
candidate_is site h v t s now top d way key is =
    ap (λ (o : Option ℕ). candidate_from site t way key (count_of_key way key v.mounts) (has_number d v.downs) (has_drive d v.mounts) (quota_told site v way (vo_of_key site way key)) (sums_told v way key) o) (tape_is site h v t s now top d way key is)
    ∙ ap (λ (o : Option Sums). candidate_from site t way key (count_of_key way key v.mounts) (has_number d v.downs) (has_drive d v.mounts) (quota_told site v way (vo_of_key site way key)) o (tape_for site h t d way key (queue_of site h way key))) (sums_are site h v s way key)
    ∙ ap (λ (n : ℕ). candidate_from site t way key n (has_number d v.downs) (has_drive d v.mounts) (quota_told site v way (vo_of_key site way key)) (sums_of site h way (queue_of site h way key)) (tape_for site h t d way key (queue_of site h way key))) ((tells_mounts site h v s).keys way key)
    ∙ ap (λ (b : Bool). candidate_from site t way key (mounts_of_key site h way key) b (has_drive d v.mounts) (quota_told site v way (vo_of_key site way key)) (sums_of site h way (queue_of site h way key)) (tape_for site h t d way key (queue_of site h way key))) (s.downs d)
    ∙ ap (λ (b : Bool). candidate_from site t way key (mounts_of_key site h way key) (is_down h d) b (quota_told site v way (vo_of_key site way key)) (sums_of site h way (queue_of site h way key)) (tape_for site h t d way key (queue_of site h way key))) ((tells_mounts site h v s).busy d)
    ∙ ap (λ (n : ℕ). candidate_from site t way key (mounts_of_key site h way key) (is_down h d) (is_busy h d) (nat_lt n (quota_of site way (vo_of_key site way key))) (sums_of site h way (queue_of site h way key)) (tape_for site h t d way key (queue_of site h way key))) (s.jobs.counts way (vo_of_key site way key))

pub choice_is : (site : Site) (h : History) (v : AllParts) (t : ℕ) → Stands site h v → last_moment h ≤ t → t ≤ greatest_moment → (d : ℕ) → choice_told site v t d ≡ mount_choice site h t d
choice_is site h v t s now top d =
    ap (λ (cs : List Candidate). first_of (cs ++ flat_map (candidate_told site v t d direction.Retrieve) (all_tapes site)))
    (flat_range _ (candidate_of site h t d direction.Archive) 0 (length site.pools.items) (λ key low. candidate_is site h v t s now top d direction.Archive key tt) ∙ sym (by_keys site h t d direction.Archive (range_with_len 0 (length site.pools.items))))
    ∙ ap (λ (cs : List Candidate). first_of (candidates_by site h t d direction.Archive (range_with_len 0 (length site.pools.items)) ++ cs))
    (flat_range _ (candidate_of site h t d direction.Retrieve) 0 (length site.tapes.items) (λ key low. candidate_is site h v t s now top d direction.Retrieve key (omega arith)) ∙ sym (by_keys site h t d direction.Retrieve (all_tapes site)))

abbrev pub next_by : Site → ℕ → ℕ → Bool → Bool → Option Candidate → Answer
next_by site n d down busy c = refuse refusal.NoDrive (nat_le (length site.drives.items) d) (if down then answer.DriveDown else if busy then answer.DriveBusy else mounted n c)

pub next_is : (site : Site) (h : History) (v : AllParts) (t : ℕ) → Stands site h v → last_moment h ≤ t → t ≤ greatest_moment → (d : ℕ) → next_answer site h t d ≡ next_told site v (next_number h) t d
next_is site h v t s now top d =
    ap (λ (c : Option Candidate). next_by site (next_number h) d (is_down h d) (is_busy h d) c) (sym (choice_is site h v t s now top d))
    ∙ ap (λ (b : Bool). next_by site (next_number h) d b (is_busy h d) (choice_told site v t d)) (sym (s.downs d))
    ∙ ap (λ (b : Bool). next_by site (next_number h) d (has_number d v.downs) b (choice_told site v t d)) (sym ((tells_mounts site h v s).busy d))
