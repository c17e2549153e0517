-- The row of a tape, and the bytes held for claimed recalls, after one more entry.
use Rattle.std.proofs.Common.{◌≡◌, ℕ, ◌+◌, ◌-◌, inl, inr, List, [], ◌∷◌, ◌++◌, Bool, true, false, refl, sym, ◌∙◌, ap, subst, arith, length, length-append}
use Rattle.std.specs.Prelude.{Option, Some, None, if◌then◌else◌, ◌==◌, ◌&&◌, nat_le}
use Rattle.std.specs.List.{list_any}
use Rattle.std.proofs.lemmas.Bool.{eqb-true, or_parts}
use Rattle.cta_site.specs.declared.site.Site.{Site}
use Rattle.cta_site.specs.Listed.{Listed}
use Rattle.cta_model.specs.declared.entries.Entry.{Entry}
use Rattle.cta_model.specs.declared.asks.Ask.{Ask}
use Rattle.cta_model.specs.declared.asks.Direction.{Direction}
use Rattle.cta_model.specs.declared.answers.Answer.{Answer}
use Rattle.cta_model.specs.declared.asks.Item.{Item}
use Rattle.cta_model.specs.declared.asks.Job.{Job}
use Rattle.cta_model.specs.declared.states.Mount.{Mount}
use Rattle.cta_model.specs.History.{History, is_empty}
use Rattle.cta_model.specs.Files.{size_of}
use Rattle.cta_model.specs.Mounts.{mount_of, is_mount, is_mounted, open_mounts, item_jobs, asked_mount, tape_of_mount, tape_by, same_direction}
use Rattle.cta_model.specs.Tapes.{size_of_items, tape_items, items_after, used_bytes, next_fseq, bytes_to_write, tape_state, is_broken}
use Rattle.cta_model.specs.Space.{bytes_to_read}
use Rattle.cta_model.specs.Answers.{answer_of, is_accepted, is_too_heavy, reclaim_answer}
use Rattle.cta_model.specs.Places.{live_items_on}
use Rattle.cta_model.specs.Legal.{IsLegal, IsFit, IsMountOf}
use Rattle.cta_laws.proofs.Tests.{bool_cases}
use Rattle.cta_laws.proofs.PlaceLaw.{reclaim_none}
use Rattle.cta_laws.proofs.Sums.{total, size_is, items_total}
use Rattle.cta_laws.proofs.Loads.{flushed_of_file, one_size}
use Rattle.cta_model.specs.declared.asks.Ask.TheVariants as ask
use Rattle.cta_model.specs.declared.asks.Direction.TheVariants as direction
use Rattle.cta_laws.proofs.ClaimedSizes.{claimed_exact, claimed_is, held, jobs_total}
use Rattle.cta_laws.specs.Claims.{claimed_by, ended_jobs, is_asked, reads, size_of_jobs, writes_on}
use Rattle.cta_laws.proofs.CapacityLaw.{size_append}
use Rattle.part_laws.proofs.After.{aside_after, next_after, used_after}

-- ---- sizes

pub flushed_size : (site : Site) (h : History) → IsLegal site h → (t m : ℕ) (items : Listed Item) (a : Answer) → a ≡ answer_of site h t (ask.Flushed m items) → is_accepted a ≡ true → size_of_jobs h (item_jobs items.items) ≡ size_of_items items.items
flushed_size site h legal t m items a is y = jobs_total h (item_jobs items.items) ∙ items_total h items.items (flushed_of_file site h legal t m items a is y) ∙ sym (size_is items.items)

pub one_job : (h : History) (j : Job) → size_of_jobs h (j ∷ []) ≡ size_of h j.file
one_job h j = jobs_total h (j ∷ []) ∙ one_size h j

-- ---- tests of mounts that go one way

pub write_test : (o : Option Mount) (v : ℕ) → IsMountOf direction.Archive o → is_mount (writes_on v) o ≡ (tape_by o == v)
write_test None v way = absurd way
write_test (Some x) v way = ap (λ (d : Direction). same_direction d direction.Archive && x.tape == v) way

pub read_writes : (o : Option Mount) (v : ℕ) → IsMountOf direction.Retrieve o → is_mount (writes_on v) o ≡ false
read_writes None v way = absurd way
read_writes (Some x) v way = ap (λ (d : Direction). same_direction d direction.Archive && x.tape == v) way

pub read_reads : (o : Option Mount) → IsMountOf direction.Retrieve o → is_mount reads o ≡ true
read_reads None way = absurd way
read_reads (Some x) way = ap (λ (d : Direction). same_direction d direction.Retrieve) way

pub write_reads : (o : Option Mount) → IsMountOf direction.Archive o → is_mount reads o ≡ false
write_reads None way = absurd way
write_reads (Some x) way = ap (λ (d : Direction). same_direction d direction.Retrieve) way

-- ---- nothing is claimed for a tape that is not mounted

pub not_writes : (v : ℕ) (o : Option Mount) → is_mount (λ (x : Mount). x.tape == v) o ≡ false → is_mount (writes_on v) o ≡ false
not_writes v None d = refl
not_writes v (Some x) d = both (same_direction x.direction direction.Archive) d
  where
    both : (b : Bool) → (x.tape == v) ≡ false → (b && (x.tape == v)) ≡ false
    both true e = e
    both false e = refl

pub unmounted : (h : History) (v : ℕ) (ms : List ℕ) → list_any (λ m. is_mount (λ (x : Mount). x.tape == v) (mount_of h m)) ms ≡ false → total (held (writes_on v) h) ms ≡ 0
unfolding total held
unmounted h v [] d = refl
unmounted h v (m ∷ ms) d =
    let p = or_parts _ _ d in
    rw (not_writes v (mount_of h m) p.0) (omega (arith, unmounted h v ms p.1))

pub nothing_claimed_on : (h : History) (v : ℕ) → is_mounted h v ≡ false → bytes_to_write h v ≡ 0
nothing_claimed_on h v d = claimed_is (writes_on v) h ∙ unmounted h v (open_mounts h) d

-- ---- used

pub zero_if : (b : Bool) → ◌≡◌ {A = ℕ} (if b then 0 else 0) 0
zero_if true = refl
zero_if false = refl

pub Moved : (Mount → Bool) → History → Ask → Answer → ℕ → ℕ → Type 0
Moved test h k a was now = now + (if is_asked test h k then size_of_jobs h (ended_jobs k) else 0) ≡ was + (if is_asked test h k then size_of_items (claimed_by k a) else 0)

pub used_by : (site : Site) (h : History) → IsLegal site h → (t : ℕ) (k : Ask) (a : Answer) (v now : ℕ) → a ≡ answer_of site h t k → is_accepted a ≡ true → IsFit site h k → Moved (writes_on v) h k a (bytes_to_write h v) now → size_of_items (items_after k v (tape_of_mount h (asked_mount k)) (tape_items h v)) + now ≡ used_after h k a v (used_bytes h v)
unfolding Moved
used_by site h legal t (ask.Claim m) a v now is y fit moved =
    elim (is_mount (writes_on v) (mount_of h m)) as (λ b. now + (if b then 0 else 0) ≡ bytes_to_write h v + (if b then size_of_items (claimed_by (ask.Claim m) a) else 0) → size_of_items (tape_items h v) + now ≡ (if b then used_bytes h v + size_of_items (claimed_by (ask.Claim m) a) else used_bytes h v))
    [ true ↦ λ e. omega arith | false ↦ λ e. omega arith ] moved
used_by site h legal t (ask.Flushed m items) a v now is y fit moved =
    let size = flushed_size site h legal t m items a is y in
    let test : is_mount (writes_on v) (mount_of h m) ≡ (tape_of_mount h m == v) = write_test (mount_of h m) v fit in
    elim (bool_cases (tape_of_mount h m == v)) [
      | inl hit ↦
          (let e : now + size_of_jobs h (item_jobs items.items) ≡ bytes_to_write h v + 0 = rw (test ∙ hit) at moved in
          rw hit (omega (arith, size_append (tape_items h v) items.items, size)))
      | inr miss ↦
          (let e : now + 0 ≡ bytes_to_write h v + 0 = rw (test ∙ miss) at moved in
          rw miss (omega arith))
    ]
used_by site h legal t (ask.Recalled m job) a v now is y fit moved =
    let e : now + 0 ≡ bytes_to_write h v + 0 = rw (read_writes (mount_of h m) v fit) at moved in
    omega arith
used_by site h legal t (ask.Failed m fault charged returned) a v now is y fit moved =
    elim (is_mount (writes_on v) (mount_of h m)) as (λ b. now + (if b then size_of_jobs h (charged.items ++ returned.items) else 0) ≡ bytes_to_write h v + (if b then 0 else 0) → size_of_items (tape_items h v) + now ≡ (if b then used_bytes h v - size_of_jobs h (charged.items ++ returned.items) else used_bytes h v))
    [ true ↦ λ e. omega arith | false ↦ λ e. omega arith ] moved
used_by site h legal t (ask.Reclaim who u) a v now is y fit moved =
    elim (bool_cases (u == v)) [
      | inl hit ↦
          (let none = reclaim_none (is_too_heavy site h (ask.Reclaim who u) (reclaim_answer site h u)) (nat_le (length site.tapes.items) u) (is_mounted h u) (is_broken (tape_state site h u)) (is_empty (live_items_on h u)) a is y in
          let free : is_mounted h v ≡ false = subst (λ (x : ℕ). is_mounted h x ≡ false) (eqb-true u v hit) none.1 in
          rw hit (omega (arith, moved, nothing_claimed_on h v free, zero_if (is_mount (writes_on v) (mount_of h 0)))))
      | inr miss ↦ rw miss (omega (arith, moved, zero_if (is_mount (writes_on v) (mount_of h 0))))
    ]
used_by site h legal t (ask.End m fault) a v now is y fit moved = omega (arith, moved, zero_if (is_mount (writes_on v) (mount_of h m)))
used_by site h legal t _ a v now is y fit moved = omega (arith, moved, zero_if (is_mount (writes_on v) (mount_of h 0)))

-- the used bytes of a tape
pub used_is : (site : Site) (h : History) (e : Entry) (v : ℕ) → IsLegal site (e ∷ h) → used_bytes (e ∷ h) v ≡ used_after h e.ask e.answer v (used_bytes h v)
unfolding Moved
used_is site h e v legal = used_by site h legal.0 e.at e.ask e.answer v (bytes_to_write (e ∷ h) v) legal.1.answered legal.1.accepted legal.1.fit (claimed_exact (writes_on v) site h e legal)

-- the next fSeq
pub next_by : (h : History) (k : Ask) (v : ℕ) → length (items_after k v (tape_of_mount h (asked_mount k)) (tape_items h v)) + 1 ≡ next_after h k v (next_fseq h v)
next_by h (ask.Flushed m items) v = elim (tape_of_mount h m == v) as (λ b. length (if b then tape_items h v ++ items.items else tape_items h v) + 1 ≡ (if b then length (tape_items h v) + 1 + length items.items else length (tape_items h v) + 1)) [ true ↦ omega (arith, length-append (tape_items h v) items.items) | false ↦ refl ]
next_by h (ask.Reclaim who u) v = elim (u == v) as (λ b. length (if b then [] else tape_items h v) + 1 ≡ (if b then 1 else length (tape_items h v) + 1)) [ true ↦ refl | false ↦ refl ]
next_by h _ v = refl

pub next_is : (h : History) (e : Entry) (v : ℕ) → next_fseq (e ∷ h) v ≡ next_after h e.ask v (next_fseq h v)
next_is h e v = next_by h e.ask v

-- ---- held for recalls

pub aside_by : (site : Site) (h : History) (k : Ask) (a : Answer) (now : ℕ) → IsFit site h k → Moved reads h k a (bytes_to_read h) now → now ≡ aside_after h k a (bytes_to_read h)
unfolding Moved
aside_by site h (ask.Claim m) a now fit moved =
    elim (is_mount reads (mount_of h m)) as (λ b. now + (if b then 0 else 0) ≡ bytes_to_read h + (if b then size_of_items (claimed_by (ask.Claim m) a) else 0) → now ≡ (if b then bytes_to_read h + size_of_items (claimed_by (ask.Claim m) a) else bytes_to_read h))
    [ true ↦ λ e. omega arith | false ↦ λ e. omega arith ] moved
aside_by site h (ask.Flushed m items) a now fit moved = (let e : now + 0 ≡ bytes_to_read h + 0 = rw (write_reads (mount_of h m) fit) at moved in omega arith)
aside_by site h (ask.Recalled m job) a now fit moved = (let e : now + size_of_jobs h (job ∷ []) ≡ bytes_to_read h + 0 = rw (read_reads (mount_of h m) fit) at moved in omega (arith, one_job h job))
aside_by site h (ask.Failed m fault charged returned) a now fit moved =
    elim (is_mount reads (mount_of h m)) as (λ b. now + (if b then size_of_jobs h (charged.items ++ returned.items) else 0) ≡ bytes_to_read h + (if b then 0 else 0) → now ≡ (if b then bytes_to_read h - size_of_jobs h (charged.items ++ returned.items) else bytes_to_read h))
    [ true ↦ λ e. omega arith | false ↦ λ e. omega arith ] moved
aside_by site h (ask.End m fault) a now fit moved = omega (arith, moved, zero_if (is_mount reads (mount_of h m)))
aside_by site h _ a now fit moved = omega (arith, moved, zero_if (is_mount reads (mount_of h 0)))

-- the bytes held for claimed recalls
pub aside_is : (site : Site) (h : History) (e : Entry) → IsLegal site (e ∷ h) → bytes_to_read (e ∷ h) ≡ aside_after h e.ask e.answer (bytes_to_read h)
unfolding Moved
aside_is site h e legal = aside_by site h e.ask e.answer (bytes_to_read (e ∷ h)) legal.1.fit (claimed_exact reads site h e legal)
