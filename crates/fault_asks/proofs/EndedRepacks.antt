-- The items of repacks that fail are those that were READING the files of recalls which end.
use Rattle.std.proofs.Common.{◌≡◌, ◌∙◌, ◌≤◌, ℕ, zero, suc, inl, inr, List, [], ◌∷◌, ◌++◌, Bool, true, false, ◌||◌, refl, sym, ap, arith}
use Rattle.std.specs.Prelude.{Option, Some, None, is_some, option_map, ◌==◌, ◌&&◌, if◌then◌else◌, filter, map}
use Rattle.std.specs.List.{list_any}
use Rattle.std.proofs.lemmas.Bool.{and_from, eq-eqb, eqb-true}
use Rattle.std.proofs.lemmas.List.Folds.{list_any-append}
use Rattle.cta_site.specs.declared.site.Site.{Site}
use Rattle.cta_model.specs.declared.asks.Job.{Job}
use Rattle.cta_model.specs.declared.reports.ItemState.{ItemState}
use Rattle.cta_model.specs.declared.reports.ItemState.TheVariants as item
use Rattle.cta_model.specs.declared.states.RepackCopy.{RepackCopy}
use Rattle.cta_model.specs.Files.{copies_of_file}
use Rattle.cta_model.specs.History.{History, entry_of, has_number}
use Rattle.cta_model.specs.Jobs.{archive_birth}
use Rattle.cta_model.specs.Mounts.{has_copy, has_job, same_job}
use Rattle.cta_model.specs.Legal.{IsLegal}
use Rattle.cta_model.specs.Recalls.{Recall, live_recall}
use Rattle.cta_model.specs.RepackItems.{items_in, waiting_for}
use Rattle.cta_model.specs.Repacks.{Repack, is_live_item}
use Rattle.cta_laws.proofs.Bools.{eq_flip}
use Rattle.cta_laws.proofs.Claims.{AllOf, all_mono}
use Rattle.cta_laws.proofs.JobFiles.{no_archive}
use Rattle.cta_laws.proofs.RangeLaw.{copy_range, entry_range}
use Rattle.cta_laws.proofs.RepackLaw.{ItemHas, ItemStands, items_stand}
use Rattle.cta_laws.proofs.Tests.{bool_cases, or_left, or_right}
use Rattle.part_model.specs.Repacks.{Repacks, RepacksAgree, Target, has_item_by, is_reading, reading_copies, repack_in, set_states, writers_in}
use Rattle.part_laws.specs.Books.{AreRepacks}
use Rattle.part_laws.specs.BookCalls.{readers, writers}
use Rattle.part_laws.proofs.RepackTurns.{all_set, has_target, readers_hit, set_live, set_miss, set_off, sets_are, with_items, writers_hit}
use Rattle.part_laws.proofs.RequestTurns.{has_call}
use Rattle.fault_asks.specs.Reading.{pair_targets, targets_down}
use Rattle.part_moves.specs.Waiting.{waits_for_all}
use Rattle.part_moves.specs.Unpinned.{is_pinned_by}
use Rattle.fault_asks.proofs.EndedFiles.{pair_call}
use Rattle.part_moves.proofs.ItemsLeft.{IsFound, found_here, found_more, in_down, map_on, states_both}

-- ---- for which items the calls are made

down_hit : (k f c id g n : ℕ) → has_target k f c (targets_down id g n) ≡ ((id == k && g == f) && in_down c n)
unfolding in_down
down_hit k f c id g zero = none (id == k && g == f)
  where
    none : (a : Bool) → false ≡ (a && false)
    none true = refl
    none false = refl
down_hit k f c id g (suc n) = ap (λ (b : Bool). (id == k && (f == g && c == suc n)) || b) (down_hit k f c id g n) ∙ rw (eq_flip f g) (by (id == k) (g == f) (c == suc n) (in_down c n))
  where
    by : (a b x y : Bool) → ((a && (b && x)) || ((a && b) && y)) ≡ ((a && b) && (x || y))
    by true true x y = refl
    by true false x y = refl
    by false b x y = refl

pairs_hit : (k f c : ℕ) (pairs : List (ℕ × ℕ)) → has_target k f c (pair_targets pairs) ≡ (has_call k f pairs && in_down c 4)
pairs_hit k f c [] = refl
pairs_hit k f c (x ∷ xs) =
    list_any-append (λ (y : Target). y.0 == k && (f == y.1 && c == y.2)) (targets_down x.0 x.1 4) (pair_targets xs)
    ∙ ap (λ (b : Bool). b || has_target k f c (pair_targets xs)) (down_hit k f c x.0 x.1 4)
    ∙ ap (λ (b : Bool). ((x.0 == k && x.1 == f) && in_down c 4) || b) (pairs_hit k f c xs)
    ∙ by (x.0 == k && x.1 == f) (has_call k f xs) (in_down c 4)
  where
    by : (a b y : Bool) → ((a && y) || (b && y)) ≡ ((a || b) && y)
    by true true true = refl
    by true true false = refl
    by true false true = refl
    by true false false = refl
    by false b y = refl

down_has : (c n : ℕ) → 1 ≤ c → c ≤ n → in_down c n ≡ true
unfolding in_down
down_has c zero low high = absurd (omega (arith, low, high))
down_has c (suc n) low high =
    elim (bool_cases (c == suc n)) [
      | inl hit ↦ or_left (c == suc n) (in_down c n) hit
      | inr miss ↦ (let less : c ≤ n = at_most c n high miss in or_right (c == suc n) (in_down c n) (down_has c n low less))
    ]
  where
    at_most : (c n : ℕ) → c ≤ suc n → (c == suc n) ≡ false → c ≤ n
    at_most c n high miss = grind arith

-- ---- an item is found among those of its repack

all_found : (xs : List RepackCopy) → AllOf (IsFound xs) xs
all_found [] = tt
all_found (i ∷ xs) = (found_here i xs, all_mono (IsFound xs) (IsFound (i ∷ xs)) xs (λ j was. found_more i xs j was) (all_found xs))

-- ---- the items that are called for are those that are READING

-- recalls are of no copy
pub no_copy : (js : List Job) → ((j : Job) → has_job j js ≡ true → j.copy ≡ 0) → (f c : ℕ) → 1 ≤ c → has_copy f c js ≡ false
no_copy [] each f c low = refl
no_copy (j ∷ js) each f c low = rw (other (j.file == f) (each j (or_left (same_job j j) (has_job j js) (grind arith))), no_copy js (λ k there. each k (or_right (same_job k j) (has_job k js) there)) f c low) refl
  where
    other : (a : Bool) → j.copy ≡ 0 → (a && j.copy == c) ≡ false
    other true is = grind (arith, is, low)
    other false is = refl

module _ (site : Site) (h : History) (v : Repacks) (recalls : ℕ → Option Recall) (fs : List ℕ) (jobs : List Job) (legal : IsLegal site h) (are : AreRepacks site h v) (few : (f : ℕ) → copies_of_file site h f ≤ 4)
    (same : (f : ℕ) → recalls f ≡ live_recall site h f) (live : (f : ℕ) → has_number f fs ≡ true → is_some (live_recall site h f) ≡ true) (zero_copies : (j : Job) → has_job j jobs ≡ true → j.copy ≡ 0) where
  mine : (k f c : ℕ) → has_target k f c (pair_targets (waits_for_all recalls fs)) ≡ ((has_number f fs && has_number k (waiting_for (live_recall site h f))) && in_down c 4)
  mine k f c = pairs_hit k f c (waits_for_all recalls fs) ∙ ap (λ (b : Bool). b && in_down c 4) (pair_call recalls k f fs ∙ ap (λ (o : Option Recall). has_number f fs && has_number k (waiting_for o)) (same f))

  theirs : (k f c : ℕ) → 1 ≤ c → has_target k f c (readers site h v fs ++ writers v jobs) ≡ (has_number f fs && (has_number c (reading_copies f (repack_in v k)) && has_number k (waiting_for (live_recall site h f))))
  theirs k f c low =
      list_any-append (λ (y : Target). y.0 == k && (f == y.1 && c == y.2)) (readers site h v fs) (writers v jobs)
      ∙ ap (λ (b : Bool). has_target k f c (readers site h v fs) || b) (writers_hit v k f c jobs ∙ ap (λ (b : Bool). b && has_number k (writers_in v f c)) (no_copy jobs zero_copies f c low))
      ∙ or_no (has_target k f c (readers site h v fs))
      ∙ readers_hit site h v k f c fs
    where
      or_no : (a : Bool) → (a || false) ≡ a
      or_no true = refl
      or_no false = refl

  no_writing : (f c : ℕ) → 1 ≤ c → is_some (archive_birth site h f c) ≡ true → has_number f fs ≡ true → ⊥
  no_writing f zero low on there = absurd (omega (arith, low))
  no_writing f (suc c) low on there =
      (let none : is_some (archive_birth site h f (suc c)) ≡ false = ap is_some (no_archive site h legal f c (live f there)) in
      let bad : true ≡ false = sym on ∙ none in
      cc)

  targets_same : (k : ℕ) (r : Repack) (i : RepackCopy) (s : ItemState) → repack_in v k ≡ Some r → ItemStands site h k i → IsFound r.items i → i.state ≡ s → is_live_item s ≡ true → (t : Bool) → has_number i.file fs ≡ t
      → has_target k i.file i.copy (pair_targets (waits_for_all recalls fs)) ≡ has_target k i.file i.copy (readers site h v fs ++ writers v jobs)
  targets_same k r i s at stands found is on false miss =
      mine k i.file i.copy ∙ ap (λ (b : Bool). (b && has_number k (waiting_for (live_recall site h i.file))) && in_down i.copy 4) miss
      ∙ sym (theirs k i.file i.copy stands.from ∙ ap (λ (b : Bool). b && (has_number i.copy (reading_copies i.file (repack_in v k)) && has_number k (waiting_for (live_recall site h i.file)))) miss)
  targets_same k r i item.Reading at stands found is on true hit =
      (let range = copy_range site h i.file i.copy (items_in (entry_of h k)) (entry_range site h legal k) stands.named in
      let most : i.copy ≤ copies_of_file site h i.file = range.2 in
      let top : copies_of_file site h i.file ≤ 4 = few i.file in
      let down : in_down i.copy 4 ≡ true = down_has i.copy 4 stands.from (omega (arith, most, top)) in
      let reads : has_number i.copy (reading_copies i.file (repack_in v k)) ≡ true = ap (λ (o : Option Repack). has_number i.copy (reading_copies i.file o)) at ∙ found.reading is in
      mine k i.file i.copy ∙ ap (λ (b : Bool). (has_number i.file fs && has_number k (waiting_for (live_recall site h i.file))) && b) down
      ∙ and_on (has_number i.file fs) (has_number k (waiting_for (live_recall site h i.file)))
      ∙ sym (theirs k i.file i.copy stands.from ∙ ap (λ (b : Bool). has_number i.file fs && (b && has_number k (waiting_for (live_recall site h i.file)))) reads))
    where
      and_on : (a b : Bool) → ((a && b) && true) ≡ (a && b)
      and_on true true = refl
      and_on true false = refl
      and_on false b = refl
  targets_same k r i item.Writing at stands found is on true hit = absurd (no_writing i.file i.copy stands.from (writes i.state is stands.has) hit)
    where
      writes : (s : ItemState) → s ≡ item.Writing → ItemHas site h k i.file i.copy s → is_some (archive_birth site h i.file i.copy) ≡ true
      writes item.Writing e has = has
      writes item.Reading e has = absurd (cc)
      writes item.Done e has = absurd (cc)
      writes item.Failed e has = absurd (cc)
      writes item.Gone e has = absurd (cc)
  targets_same k r i item.Done at stands found is on true hit = absurd (cc)
  targets_same k r i item.Failed at stands found is on true hit = absurd (cc)
  targets_same k r i item.Gone at stands found is on true hit = absurd (cc)

  item_same : (k : ℕ) (r : Repack) (i : RepackCopy) → repack_in v k ≡ Some r → ItemStands site h k i → IsFound r.items i → (l : Bool) → is_live_item i.state ≡ l
      → all_set item.Failed k (pair_targets (waits_for_all recalls fs)) i ≡ all_set item.Failed k (readers site h v fs ++ writers v jobs) i
  item_same k r i at stands found false off = set_off item.Failed k (pair_targets (waits_for_all recalls fs)) i off ∙ sym (set_off item.Failed k (readers site h v fs ++ writers v jobs) i off)
  item_same k r i at stands found true on =
      set_live item.Failed k (pair_targets (waits_for_all recalls fs)) i on
      ∙ ap (λ (b : Bool). if b then record i { state = item.Failed } else i) (targets_same k r i i.state at stands found refl on (has_number i.file fs) refl)
      ∙ sym (set_live item.Failed k (readers site h v fs ++ writers v jobs) i on)

  -- the calls for those that wait are those for what is READING, and for nothing that is WRITING
  pub failed_items : (w : Repacks) → RepacksAgree w (set_states item.Failed (pair_targets (waits_for_all recalls fs)) v) → RepacksAgree w (set_states item.Failed (writers v jobs) (set_states item.Failed (readers site h v fs) v))
  failed_items w call k =
      call k ∙ sets_are item.Failed k (pair_targets (waits_for_all recalls fs)) v ∙ by (repack_in v k) refl
      ∙ sym (sets_are item.Failed k (readers site h v fs ++ writers v jobs) v)
      ∙ ap (λ (r : Repacks). repack_in r k) (states_both item.Failed (readers site h v fs) (writers v jobs) v)
    where
      by : (o : Option Repack) → repack_in v k ≡ o
          → ◌≡◌ {A = Option Repack} (option_map (with_items (all_set item.Failed k (pair_targets (waits_for_all recalls fs)))) o) (option_map (with_items (all_set item.Failed k (readers site h v fs ++ writers v jobs))) o)
      by None is = refl
      by (Some r) is =
          ap (λ (xs : List RepackCopy). Some (record { tape = r.tape; items = xs }))
          (map_on (ItemStands site h k) (IsFound r.items) (all_set item.Failed k (pair_targets (waits_for_all recalls fs))) (all_set item.Failed k (readers site h v fs ++ writers v jobs)) r.items (items_stand site h legal k r (sym (are k) ∙ is)) (all_found r.items)
          (λ i stands found. item_same k r i is stands found (is_live_item i.state) refl))

  -- which repacks pin a file of which no recall ends
  pub pins_stay : (w : Repacks) → RepacksAgree w (set_states item.Failed (pair_targets (waits_for_all recalls fs)) v) → (f k : ℕ) → has_number f fs ≡ false → is_pinned_by w f k ≡ is_pinned_by v f k
  pins_stay w call f k none =
      ap (has_item_by (λ (i : RepackCopy). i.file == f && is_live_item i.state)) (call k ∙ sets_are item.Failed k (pair_targets (waits_for_all recalls fs)) v) ∙ by (repack_in v k)
    where
      missed : (i : RepackCopy) → (i.file == f) ≡ true → all_set item.Failed k (pair_targets (waits_for_all recalls fs)) i ≡ i
      missed i is =
          set_miss item.Failed k (pair_targets (waits_for_all recalls fs)) i
          (mine k i.file i.copy ∙ ap (λ (b : Bool). (b && has_number k (waiting_for (live_recall site h i.file))) && in_down i.copy 4) (ap (λ (n : ℕ). has_number n fs) (eqb-true i.file f is) ∙ none))

      file_of : (i : RepackCopy) → RepackCopy.file (all_set item.Failed k (pair_targets (waits_for_all recalls fs)) i) ≡ i.file
      file_of i = elim (bool_cases (is_live_item i.state)) [
        | inl on ↦ ap (λ (x : RepackCopy). x.file) (set_live item.Failed k (pair_targets (waits_for_all recalls fs)) i on) ∙ one (has_target k i.file i.copy (pair_targets (waits_for_all recalls fs)))
        | inr off ↦ ap (λ (x : RepackCopy). x.file) (set_off item.Failed k (pair_targets (waits_for_all recalls fs)) i off)
      ]
        where
          one : (b : Bool) → RepackCopy.file (if b then record i { state = item.Failed } else i) ≡ i.file
          one true = refl
          one false = refl

      each : (i : RepackCopy) (t : Bool) → (i.file == f) ≡ t
          → (RepackCopy.file (all_set item.Failed k (pair_targets (waits_for_all recalls fs)) i) == f && is_live_item (RepackCopy.state (all_set item.Failed k (pair_targets (waits_for_all recalls fs)) i))) ≡ (i.file == f && is_live_item i.state)
      each i true is = ap (λ (x : RepackCopy). x.file == f && is_live_item x.state) (missed i is)
      each i false is =
          ap (λ (n : ℕ). n == f && is_live_item (RepackCopy.state (all_set item.Failed k (pair_targets (waits_for_all recalls fs)) i))) (file_of i)
          ∙ ap (λ (b : Bool). b && is_live_item (RepackCopy.state (all_set item.Failed k (pair_targets (waits_for_all recalls fs)) i))) is
          ∙ sym (ap (λ (b : Bool). b && is_live_item i.state) is)

      all : (xs : List RepackCopy) → list_any (λ (i : RepackCopy). i.file == f && is_live_item i.state) (map (all_set item.Failed k (pair_targets (waits_for_all recalls fs))) xs) ≡ list_any (λ (i : RepackCopy). i.file == f && is_live_item i.state) xs
      all [] = refl
      all (i ∷ xs) =
          ap (λ (b : Bool). b || list_any (λ (i : RepackCopy). i.file == f && is_live_item i.state) (map (all_set item.Failed k (pair_targets (waits_for_all recalls fs))) xs)) (each i (i.file == f) refl)
          ∙ ap (λ (b : Bool). (i.file == f && is_live_item i.state) || b) (all xs)

      by : (o : Option Repack) → has_item_by (λ (i : RepackCopy). i.file == f && is_live_item i.state) (option_map (with_items (all_set item.Failed k (pair_targets (waits_for_all recalls fs)))) o) ≡ has_item_by (λ (i : RepackCopy). i.file == f && is_live_item i.state) o
      by None = refl
      by (Some r) = all r.items
