-- The items of repacks behind a Delete.
use Rattle.std.proofs.Common.{◌≡◌, ◌∙◌, ℕ, ◌≤◌, inl, inr, List, [], ◌∷◌, Bool, true, false, ◌||◌, refl, sym, ap, subst, arith}
use Rattle.std.specs.Prelude.{Option, Some, None, option_map, ◌==◌, ◌&&◌, if◌then◌else◌, filter, map, nat_le}
use Rattle.std.specs.List.{list_any, range_with_len}
use Rattle.std.proofs.lemmas.Bool.{and_from, eqb-true, eq-eqb}
use Rattle.std.proofs.lemmas.Bool.Decides.{nat_tests}
use Rattle.cta_site.specs.declared.site.Site.{Site}
use Rattle.cta_model.specs.declared.asks.Job.{Job}
use Rattle.cta_model.specs.declared.reports.ItemState.{ItemState}
use Rattle.cta_model.specs.declared.reports.ItemState.TheVariants as item
use Rattle.cta_model.specs.declared.states.RepackCopy.{RepackCopy}
use Rattle.cta_model.specs.Files.{copies_of_file, copy_numbers}
use Rattle.cta_model.specs.History.{History, entry_of, has_number}
use Rattle.cta_model.specs.Legal.{IsLegal}
use Rattle.cta_model.specs.Mounts.{has_copy, job_of}
use Rattle.cta_model.specs.Recalls.{live_recall}
use Rattle.cta_model.specs.RepackItems.{items_in, waiting_for}
use Rattle.cta_model.specs.Repacks.{Repack, is_live_item}
use Rattle.cta_laws.proofs.Claims.{AllOf, all_mono}
use Rattle.cta_laws.proofs.RangeLaw.{copy_range, entry_range}
use Rattle.cta_laws.proofs.Ranges.{any_in_range, any_map}
use Rattle.cta_laws.proofs.RepackLaw.{ItemStands, items_stand}
use Rattle.cta_laws.proofs.Tests.{bool_cases, or_left, or_right}
use Rattle.part_model.specs.Repacks.{Repacks, RepacksAgree, is_reading, is_writing, reading_copies, repack_in, set_states, writers_in}
use Rattle.part_laws.specs.Books.{AreRepacks}
use Rattle.part_laws.specs.BookCalls.{copies_named, readers, writers}
use Rattle.part_laws.proofs.RepackTurns.{all_set, has_target, items_twice, readers_hit, set_live, set_off, sets_are, with_items, writers_are, writers_hit}
use Rattle.caller_asks.specs.Gone.{AreGone, gone_item, gone_items, is_copy_to, writes_copy}
use Rattle.caller_asks.proofs.Items.{gone_both}
use Rattle.part_moves.proofs.ItemsLeft.{map_on}

-- ---- an item is found among those of its repack

record IsFound (xs : List RepackCopy) (i : RepackCopy) : Type 0 where
  reading : i.state ≡ item.Reading → has_number i.copy (map (λ (j : RepackCopy). j.copy) (filter (λ (j : RepackCopy). j.file == i.file && is_reading j.state) xs)) ≡ true
  writing : i.state ≡ item.Writing → list_any (λ (j : RepackCopy). (j.file == i.file && j.copy == i.copy) && is_writing j.state) xs ≡ true

found_more : (j : RepackCopy) (xs : List RepackCopy) (i : RepackCopy) → IsFound xs i → IsFound (j ∷ xs) i
found_more j xs i was = record { reading = λ is. by (j.file == i.file && is_reading j.state) (was.reading is); writing = λ is. or_right ((j.file == i.file && j.copy == i.copy) && is_writing j.state) _ (was.writing is) }
  where
    by : (b : Bool) → has_number i.copy (map (λ (j : RepackCopy). j.copy) (filter (λ (j : RepackCopy). j.file == i.file && is_reading j.state) xs)) ≡ true
        → has_number i.copy (map (λ (j : RepackCopy). j.copy) (if b then j ∷ filter (λ (j : RepackCopy). j.file == i.file && is_reading j.state) xs else filter (λ (j : RepackCopy). j.file == i.file && is_reading j.state) xs)) ≡ true
    by true x = or_right (i.copy == j.copy) _ x
    by false x = x

found_here : (i : RepackCopy) (xs : List RepackCopy) → IsFound (i ∷ xs) i
found_here i xs =
    record {
      reading = λ is. ap (λ (b : Bool). has_number i.copy (map (λ (j : RepackCopy). j.copy) (if b then i ∷ filter (λ (j : RepackCopy). j.file == i.file && is_reading j.state) xs else filter (λ (j : RepackCopy). j.file == i.file && is_reading j.state) xs))) (and_from _ _ (eq-eqb i.file i.file refl) (ap is_reading is)) ∙ or_left (i.copy == i.copy) _ (eq-eqb i.copy i.copy refl);
      writing = λ is. or_left ((i.file == i.file && i.copy == i.copy) && is_writing i.state) _ (and_from _ _ (and_from _ _ (eq-eqb i.file i.file refl) (eq-eqb i.copy i.copy refl)) (ap is_writing is));
    }

all_found : (xs : List RepackCopy) → AllOf (IsFound xs) xs
all_found [] = tt
all_found (i ∷ xs) = (found_here i xs, all_mono (IsFound xs) (IsFound (i ∷ xs)) xs (λ j was. found_more i xs j was) (all_found xs))

-- ---- the copies of the file

other_named : (f c g : ℕ) (ns : List ℕ) → (g == f) ≡ false → has_copy f c (map (job_of 0 g) ns) ≡ false
other_named f c g [] miss = refl
other_named f c g (n ∷ ns) miss = rw miss (other_named f c g ns miss)

same_named : (c g n : ℕ) → 1 ≤ c → c ≤ n → has_copy g c (map (job_of 0 g) (range_with_len 1 n)) ≡ true
same_named c g n low high =
    any_map (λ (j : Job). j.file == g && j.copy == c) (job_of 0 g) (range_with_len 1 n)
    ∙ any_in_range (λ m. g == g && m == c) 1 n c low (omega arith) (and_from _ _ (eq-eqb g g refl) (eq-eqb c c refl))

copy_of_it : (g n f c : ℕ) → f ≡ g → 1 ≤ c → c ≤ n → is_copy_to g n f c ≡ true
copy_of_it g n f c is low high = and_from _ _ (eq-eqb f g is) (let within : (nat_le 1 c && nat_le c n) ≡ true = grind (arith, nat_tests) in within)

-- ---- one item

swapped : (a b : Bool) → (a || b) ≡ (b || a)
swapped true true = refl
swapped true false = refl
swapped false true = refl
swapped false false = refl

any_or : (b : Bool) → true ≡ (b || true)
any_or true = refl
any_or false = refl

none_both : (a b : Bool) → ((false && a) || (b && false)) ≡ false
none_both a true = refl
none_both a false = refl

all_both : (a b : Bool) → ((true && a) || (b && true)) ≡ (a || b)
all_both true b = refl
all_both false true = refl
all_both false false = refl

module _ (site : Site) (h : History) (legal : IsLegal site h) (v : Repacks) (g n : ℕ) (ids : List ℕ) (waits : ids ≡ waiting_for (live_recall site h g)) (count : n ≡ copies_of_file site h g) where
  -- what is called for
  read : ℕ → ℕ → ℕ → Bool
  read k f c = has_target k f c (readers site h v (g ∷ []))

  written : ℕ → ℕ → ℕ → Bool
  written k f c = has_target k f c (writers v (copies_named site h (Some g)))

  -- what was made GONE
  hit : ℕ → ℕ → ℕ → Bool
  hit k f c = (is_copy_to g n f c && writes_copy g c (repack_in v k)) || (has_number k ids && is_copy_to g n f c)

  written_is : (k f c : ℕ) → f ≡ g → 1 ≤ c → c ≤ n → written k f c ≡ writes_copy g c (repack_in v k)
  unfolding written
  written_is k f c is low high =
      writers_hit v k f c (copies_named site h (Some g))
      ∙ ap (λ (m : ℕ). has_copy m c (map (job_of 0 g) (copy_numbers site h g)) && has_number k (writers_in v m c)) is
      ∙ ap (λ (b : Bool). b && has_number k (writers_in v g c)) (ap (λ (m : ℕ). has_copy g c (map (job_of 0 g) (range_with_len 1 m))) (sym count) ∙ same_named c g n low high)
      ∙ writers_are v k g c

  read_is : (k f c : ℕ) → f ≡ g → read k f c ≡ (has_number c (reading_copies f (repack_in v k)) && has_number k ids)
  unfolding read
  read_is k f c is =
      readers_hit site h v k f c (g ∷ [])
      ∙ ap (λ (b : Bool). b && (has_number c (reading_copies f (repack_in v k)) && has_number k (waiting_for (live_recall site h f)))) (or_left (f == g) false (eq-eqb f g is))
      ∙ ap (λ (ns : List ℕ). has_number c (reading_copies f (repack_in v k)) && has_number k ns) (ap (λ (m : ℕ). waiting_for (live_recall site h m)) is ∙ sym waits)

  -- an item of another file
  other_file : (k f c : ℕ) → (f == g) ≡ false → hit k f c ≡ (read k f c || written k f c)
  unfolding hit read written
  other_file k f c miss =
      let turned : (g == f) ≡ false = grind (arith, nat_tests) in
      let a : hit k f c ≡ false = rw miss (none_both (writes_copy g c (repack_in v k)) (has_number k ids)) in
      let r : read k f c ≡ false = readers_hit site h v k f c (g ∷ []) ∙ rw miss refl in
      let w : written k f c ≡ false = writers_hit v k f c (copies_named site h (Some g)) ∙ ap (λ (b : Bool). b && has_number k (writers_in v f c)) (other_named f c g (copy_numbers site h g) turned) in
      a ∙ sym (ap (λ (b : Bool). b || written k f c) r ∙ w)

  -- an item of the file
  this_file : (k : ℕ) (r : Repack) (i : RepackCopy) → repack_in v k ≡ Some r → i.file ≡ g → 1 ≤ i.copy → i.copy ≤ n → IsFound r.items i → (s : ItemState) → i.state ≡ s → is_live_item s ≡ true → hit k i.file i.copy ≡ (read k i.file i.copy || written k i.file i.copy)
  unfolding hit
  this_file k r i at is low high found item.Reading state live =
      let on : is_copy_to g n i.file i.copy ≡ true = copy_of_it g n i.file i.copy is low high in
      let reads : has_number i.copy (reading_copies i.file (repack_in v k)) ≡ true = ap (λ (o : Option Repack). has_number i.copy (reading_copies i.file o)) at ∙ found.reading state in
      let rd : read k i.file i.copy ≡ has_number k ids = read_is k i.file i.copy is ∙ ap (λ (b : Bool). b && has_number k ids) reads in
      rw on (all_both (writes_copy g i.copy (repack_in v k)) (has_number k ids))
      ∙ swapped (writes_copy g i.copy (repack_in v k)) (has_number k ids)
      ∙ sym (ap (λ (b : Bool). b || written k i.file i.copy) rd ∙ ap (λ (b : Bool). has_number k ids || b) (written_is k i.file i.copy is low high))
  this_file k r i at is low high found item.Writing state live =
      let on : is_copy_to g n i.file i.copy ≡ true = copy_of_it g n i.file i.copy is low high in
      let writes : writes_copy g i.copy (repack_in v k) ≡ true = ap (writes_copy g i.copy) at ∙ ap (λ (f : ℕ). writes_copy f i.copy (Some r)) (sym is) ∙ found.writing state in
      rw on (all_both (writes_copy g i.copy (repack_in v k)) (has_number k ids))
      ∙ ap (λ (b : Bool). b || has_number k ids) writes
      ∙ any_or (read k i.file i.copy)
      ∙ sym (ap (λ (b : Bool). read k i.file i.copy || b) (written_is k i.file i.copy is low high ∙ writes))
  this_file k r i at is low high found item.Done state live = absurd (cc)
  this_file k r i at is low high found item.Failed state live = absurd (cc)
  this_file k r i at is low high found item.Gone state live = absurd (cc)

  -- a live item
  called_for : (k : ℕ) (r : Repack) (i : RepackCopy) → repack_in v k ≡ Some r → ItemStands site h k i → IsFound r.items i → is_live_item i.state ≡ true → hit k i.file i.copy ≡ (read k i.file i.copy || written k i.file i.copy)
  called_for k r i at stands found live =
      elim (bool_cases (i.file == g)) [
        | inr miss ↦ other_file k i.file i.copy miss
        | inl same ↦
            (let is : i.file ≡ g = eqb-true i.file g same in
            let range = copy_range site h i.file i.copy (items_in (entry_of h k)) (entry_range site h legal k) stands.named in
            let most : i.copy ≤ copies_of_file site h g = subst (λ (f : ℕ). i.copy ≤ copies_of_file site h f) is range.2 in
            let high : i.copy ≤ n = subst (λ (m : ℕ). i.copy ≤ m) (sym count) most in
            this_file k r i at is stands.from high found i.state refl live)
      ]

  both_calls : (k : ℕ) (i : RepackCopy) (a : Bool) → read k i.file i.copy ≡ a → is_live_item i.state ≡ true
      → ◌≡◌ {A = RepackCopy} (if a || written k i.file i.copy then record i { state = item.Gone } else i) (all_set item.Gone k (writers v (copies_named site h (Some g))) (if a then record i { state = item.Gone } else i))
  unfolding written
  both_calls k i true is live = sym (set_off item.Gone k (writers v (copies_named site h (Some g))) (record i { state = item.Gone }) refl)
  both_calls k i false is live = sym (set_live item.Gone k (writers v (copies_named site h (Some g))) i live)

  item_same : (k : ℕ) (r : Repack) (i : RepackCopy) → repack_in v k ≡ Some r → ItemStands site h k i → IsFound r.items i → (l : Bool) → is_live_item i.state ≡ l
      → ◌≡◌ {A = RepackCopy} (if hit k i.file i.copy && l then record i { state = item.Gone } else i) (all_set item.Gone k (writers v (copies_named site h (Some g))) (all_set item.Gone k (readers site h v (g ∷ [])) i))
  unfolding read
  item_same k r i at stands found false live =
      ap (λ (b : Bool). if b then record i { state = item.Gone } else i) (and_off (hit k i.file i.copy))
      ∙ sym (ap (all_set item.Gone k (writers v (copies_named site h (Some g)))) (set_off item.Gone k (readers site h v (g ∷ [])) i live) ∙ set_off item.Gone k (writers v (copies_named site h (Some g))) i live)
    where
      and_off : (b : Bool) → (b && false) ≡ false
      and_off true = refl
      and_off false = refl
  item_same k r i at stands found true live =
      ap (λ (b : Bool). if b then record i { state = item.Gone } else i) (and_on (hit k i.file i.copy) ∙ called_for k r i at stands found live)
      ∙ both_calls k i (read k i.file i.copy) refl live
      ∙ sym (ap (all_set item.Gone k (writers v (copies_named site h (Some g)))) (set_live item.Gone k (readers site h v (g ∷ [])) i live))
    where
      and_on : (b : Bool) → (b && true) ≡ b
      and_on true = refl
      and_on false = refl

  -- ---- all repacks

  repack_same : (k : ℕ) (o : Option Repack) → repack_in v k ≡ o → ((r : Repack) → o ≡ Some r → AllOf (ItemStands site h k) r.items)
      → ◌≡◌ {A = Option Repack} (option_map (gone_items (hit k)) o) (option_map (with_items (λ i. all_set item.Gone k (writers v (copies_named site h (Some g))) (all_set item.Gone k (readers site h v (g ∷ [])) i))) o)
  repack_same k None is stand = refl
  repack_same k (Some r) is stand =
      ap (λ (xs : List RepackCopy). Some (record { tape = r.tape; items = xs }))
      (map_on (ItemStands site h k) (IsFound r.items) (gone_item (hit k)) (λ i. all_set item.Gone k (writers v (copies_named site h (Some g))) (all_set item.Gone k (readers site h v (g ∷ [])) i)) r.items (stand r refl) (all_found r.items)
      (λ i stands found. item_same k r i is stands found (is_live_item i.state) refl))

  pub delete_gone : (u w : Repacks) → AreRepacks site h v → AreGone (λ k f c. is_copy_to g n f c && writes_copy g c (repack_in v k)) v u → AreGone (λ k f c. has_number k ids && is_copy_to g n f c) u w
      → RepacksAgree w (set_states item.Gone (writers v (copies_named site h (Some g))) (set_states item.Gone (readers site h v (g ∷ [])) v))
  unfolding hit
  delete_gone u w are first second k =
      gone_both (λ k f c. is_copy_to g n f c && writes_copy g c (repack_in v k)) (λ k f c. has_number k ids && is_copy_to g n f c) v u w first second k
      ∙ repack_same k (repack_in v k) refl (λ r is. items_stand site h legal k r (sym (are k) ∙ is))
      ∙ sym (sets_are item.Gone k (writers v (copies_named site h (Some g))) (set_states item.Gone (readers site h v (g ∷ [])) v)
      ∙ ap (option_map (with_items (all_set item.Gone k (writers v (copies_named site h (Some g)))))) (sets_are item.Gone k (readers site h v (g ∷ [])) v)
      ∙ items_twice (all_set item.Gone k (writers v (copies_named site h (Some g)))) (all_set item.Gone k (readers site h v (g ∷ []))) (repack_in v k))
