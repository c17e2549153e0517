-- The items of repacks that are WRITING once their file was read.
use Rattle.std.proofs.Common.{◌≡◌, ◌∙◌, ◌-◌, ◌+◌, ◌≤◌, ◌<◌, ℕ, zero, suc, inl, inr, List, [], ◌∷◌, ◌++◌, Bool, true, false, ◌||◌, refl, sym, ap, subst, arith, length, take, append-nil, append_assoc}
use Rattle.std.specs.Prelude.{Option, Some, None, option_map, ◌==◌, ◌&&◌, if◌then◌else◌, filter, map, get_or}
use Rattle.std.proofs.lemmas.Bool.{and_from, eqb-true, eq-eqb}
use Rattle.std.proofs.lemmas.List.{take_more}
use Rattle.std.proofs.lemmas.List.Folds.{list_any-append}
use Rattle.cta_site.specs.declared.site.Site.{Site}
use Rattle.cta_model.specs.declared.reports.ItemState.{ItemState}
use Rattle.cta_model.specs.declared.reports.ItemState.TheVariants as item
use Rattle.cta_model.specs.declared.states.RepackCopy.{RepackCopy}
use Rattle.cta_model.specs.Files.{copies_of_file}
use Rattle.cta_model.specs.History.{History, entry_of, has_number}
use Rattle.cta_model.specs.Legal.{IsLegal}
use Rattle.cta_model.specs.Recalls.{live_recall}
use Rattle.cta_model.specs.RepackItems.{items_in, waiting_for}
use Rattle.cta_model.specs.Repacks.{Repack, is_live_item}
use Rattle.cta_laws.proofs.Bools.{and_none, eq_flip}
use Rattle.cta_laws.proofs.Claims.{AllOf, all_mono}
use Rattle.cta_laws.proofs.RangeLaw.{copy_range, entry_range}
use Rattle.cta_laws.proofs.RepackLaw.{ItemStands, items_stand}
use Rattle.cta_laws.proofs.Tests.{bool_cases, or_left, or_right}
use Rattle.part_model.specs.Repacks.{Repacks, RepacksAgree, Target, is_reading, reading_copies, repack_in, set_state, set_states}
use Rattle.part_laws.specs.Books.{AreRepacks}
use Rattle.part_laws.specs.BookCalls.{readers}
use Rattle.part_laws.proofs.RepackTurns.{all_set, has_target, readers_hit, set_live, set_off, sets_are, with_items}
use Rattle.part_laws.proofs.SameBooks.{repack_calls_agree}
use Rattle.drive_asks.specs.Reading.{all_targets, targets_down}
use Rattle.part_moves.proofs.ItemsLeft.{IsFound, found_here, found_more, in_down, map_on, states_both, states_same}

-- ---- calls in turn

pub none_down : (id f n : ℕ) (v : Repacks) → n ≡ 0 → RepacksAgree v (set_states item.Writing (targets_down id f n) v)
none_down id f n v is k = ap (λ (m : ℕ). repack_in (set_states item.Writing (targets_down id f m) v) k) (sym is)

-- the highest copy, and then the lower ones
pub next_down : (id f n : ℕ) (v u w : Repacks) → 1 ≤ n → RepacksAgree u (set_state id f n item.Writing v) → RepacksAgree w (set_states item.Writing (targets_down id f (n - 1)) u) → RepacksAgree w (set_states item.Writing (targets_down id f n) v)
next_down id f zero v u w low set rest = absurd (omega arith)
next_down id f (suc n) v u w low set rest = λ k.
    (let less : suc n - 1 ≡ n = omega arith in
    rest k ∙ ap (λ (m : ℕ). repack_in (set_states item.Writing (targets_down id f m) u) k) less
    ∙ states_same item.Writing (targets_down id f n) u (set_state id f (suc n) item.Writing v) set k)

targets_last : (xs : List ℕ) (x f n : ℕ) → all_targets (xs ++ x ∷ []) f n ≡ all_targets xs f n ++ targets_down x f n
targets_last [] x f n = append-nil _
targets_last (y ∷ xs) x f n = ap (λ (ts : List Target). targets_down y f n ++ ts) (targets_last xs x f n) ∙ sym (append_assoc (targets_down y f n) (all_targets xs f n) (targets_down x f n))

-- one repack more
pub next_marked : (ids : List ℕ) (i d f n : ℕ) (v u w : Repacks) → i < length ids → RepacksAgree u (set_states item.Writing (all_targets (take i ids) f n) v) → RepacksAgree w (set_states item.Writing (targets_down (get_or ids i d) f n) u)
    → RepacksAgree w (set_states item.Writing (all_targets (take (i + 1) ids) f n) v)
next_marked ids i d f n v u w low before now k =
    now k
    ∙ states_same item.Writing (targets_down (get_or ids i d) f n) u (set_states item.Writing (all_targets (take i ids) f n) v) before k
    ∙ sym (ap (λ (ts : List Target). repack_in (set_states item.Writing ts v) k) (ap (λ (xs : List ℕ). all_targets xs f n) (take_more ids i d low) ∙ targets_last (take i ids) (get_or ids i d) f n)
    ∙ ap (λ (r : Repacks). repack_in r k) (states_both item.Writing (all_targets (take i ids) f n) (targets_down (get_or ids i d) f n) v))

-- ---- for which items the calls are made

down_hit : (k f c id g n : ℕ) → has_target k f c (targets_down id g n) ≡ (id == k && (f == g && in_down c n))
unfolding in_down
down_hit k f c id g zero = sym (ap (λ (b : Bool). id == k && b) (and_none (f == g)) ∙ and_none (id == k))
down_hit k f c id g (suc n) = ap (λ (b : Bool). (id == k && (f == g && c == suc n)) || b) (down_hit k f c id g n) ∙ by (id == k) (f == g) (c == suc n) (in_down c n)
  where
    by : (a b x y : Bool) → ((a && (b && x)) || (a && (b && y))) ≡ (a && (b && (x || y)))
    by true true x y = refl
    by true false x y = refl
    by false b x y = refl

all_hit : (k f c : ℕ) (ids : List ℕ) (g n : ℕ) → has_target k f c (all_targets ids g n) ≡ (has_number k ids && (f == g && in_down c n))
all_hit k f c [] g n = refl
all_hit k f c (id ∷ ids) g n =
    list_any-append (λ (x : Target). x.0 == k && (f == x.1 && c == x.2)) (targets_down id g n) (all_targets ids g n)
    ∙ ap (λ (b : Bool). b || has_target k f c (all_targets ids g n)) (down_hit k f c id g n ∙ ap (λ (b : Bool). b && (f == g && in_down c n)) (eq_flip id k))
    ∙ ap (λ (b : Bool). (k == id && (f == g && in_down c n)) || b) (all_hit k f c ids g n)
    ∙ by (k == id) (has_number k ids) (f == g && in_down c n)
  where
    by : (a b x : Bool) → ((a && x) || (b && x)) ≡ ((a || b) && x)
    by true true true = refl
    by true true false = refl
    by true false true = refl
    by true false false = refl
    by false b x = refl

down_has : (c n : ℕ) → 1 ≤ c → c ≤ n → in_down c n ≡ true
unfolding in_down
down_has c zero low high = absurd (omega arith)
down_has c (suc n) low high =
    elim (bool_cases (c == suc n)) [
      | inl hit ↦ or_left (c == suc n) (in_down c n) hit
      | inr miss ↦ (let less : c ≤ n = at_most c n high miss in or_right (c == suc n) (in_down c n) (down_has c n low less))
    ]
  where
    at_most : (c n : ℕ) → c ≤ suc n → (c == suc n) ≡ false → c ≤ n
    at_most c n high miss = grind arith

-- ---- an item is found among those of its repack

all_found : (xs : List RepackCopy) → AllOf (IsFound xs) xs
all_found [] = tt
all_found (i ∷ xs) = (found_here i xs, all_mono (IsFound xs) (IsFound (i ∷ xs)) xs (λ j was. found_more i xs j was) (all_found xs))

-- ---- the items that are called for are those that are READING

writing_again : (b : Bool) (i : RepackCopy) → i.state ≡ item.Writing → ◌≡◌ {A = RepackCopy} (if b then record i { state = item.Writing } else i) i
writing_again true i is = ap (λ (s : ItemState). record i { state = s }) (sym is)
writing_again false i is = refl

pick : (a b : Bool) (i : RepackCopy) → a ≡ b → ◌≡◌ {A = RepackCopy} (if a then record i { state = item.Writing } else i) (if b then record i { state = item.Writing } else i)
pick a b i same = ap (λ (t : Bool). if t then record i { state = item.Writing } else i) same

targets_same : (site : Site) (h : History) (v : Repacks) (g n k : ℕ) (ids : List ℕ) (r : Repack) (i : RepackCopy) → ids ≡ waiting_for (live_recall site h g) → repack_in v k ≡ Some r → i.file ≡ g → 1 ≤ i.copy → i.copy ≤ n → IsFound r.items i → i.state ≡ item.Reading
    → has_target k i.file i.copy (all_targets ids g n) ≡ has_target k i.file i.copy (readers site h v (g ∷ []))
targets_same site h v g n k ids r i waits at is low high found state =
    let mine : has_target k i.file i.copy (all_targets ids g n) ≡ has_number k ids =
    all_hit k i.file i.copy ids g n ∙ ap (λ (b : Bool). has_number k ids && (b && in_down i.copy n)) (eq-eqb i.file g is) ∙ ap (λ (b : Bool). has_number k ids && b) (down_has i.copy n low high) ∙ and_on (has_number k ids) in
    let reads : has_number i.copy (reading_copies i.file (repack_in v k)) ≡ true = ap (λ (o : Option Repack). has_number i.copy (reading_copies i.file o)) at ∙ found.reading state in
    let theirs : has_target k i.file i.copy (readers site h v (g ∷ [])) ≡ has_number k ids =
    readers_hit site h v k i.file i.copy (g ∷ [])
    ∙ ap (λ (b : Bool). b && (has_number i.copy (reading_copies i.file (repack_in v k)) && has_number k (waiting_for (live_recall site h i.file)))) (or_left (i.file == g) false (eq-eqb i.file g is))
    ∙ ap (λ (b : Bool). b && has_number k (waiting_for (live_recall site h i.file))) reads
    ∙ ap (λ (m : ℕ). has_number k (waiting_for (live_recall site h m))) is ∙ ap (has_number k) (sym waits) in
    mine ∙ sym theirs
  where
    and_on : (b : Bool) → (b && true) ≡ b
    and_on true = refl
    and_on false = refl

targets_off : (site : Site) (h : History) (v : Repacks) (g n k f c : ℕ) (ids : List ℕ) → (f == g) ≡ false → has_target k f c (all_targets ids g n) ≡ has_target k f c (readers site h v (g ∷ []))
targets_off site h v g n k f c ids miss =
    all_hit k f c ids g n ∙ ap (λ (b : Bool). has_number k ids && (b && in_down c n)) miss ∙ and_none (has_number k ids)
    ∙ sym (readers_hit site h v k f c (g ∷ []) ∙ ap (λ (b : Bool). (b || false) && (has_number c (reading_copies f (repack_in v k)) && has_number k (waiting_for (live_recall site h f)))) miss)

live_same : (site : Site) (h : History) (v : Repacks) (g n k : ℕ) (ids : List ℕ) (r : Repack) (i : RepackCopy) → ids ≡ waiting_for (live_recall site h g) → repack_in v k ≡ Some r → (i.file ≡ g → i.copy ≤ n) → 1 ≤ i.copy → IsFound r.items i → (s : ItemState) → i.state ≡ s → is_live_item s ≡ true
    → ◌≡◌ {A = RepackCopy} (if has_target k i.file i.copy (all_targets ids g n) then record i { state = item.Writing } else i) (if has_target k i.file i.copy (readers site h v (g ∷ [])) then record i { state = item.Writing } else i)
live_same site h v g n k ids r i waits at high low found item.Reading state live =
    elim (bool_cases (i.file == g)) [
      | inl hit ↦ (let is : i.file ≡ g = eqb-true i.file g hit in pick _ _ i (targets_same site h v g n k ids r i waits at is low (high is) found state))
      | inr miss ↦ pick _ _ i (targets_off site h v g n k i.file i.copy ids miss)
    ]
live_same site h v g n k ids r i waits at high low found item.Writing state live = writing_again (has_target k i.file i.copy (all_targets ids g n)) i state ∙ sym (writing_again (has_target k i.file i.copy (readers site h v (g ∷ []))) i state)
live_same site h v g n k ids r i waits at high low found item.Done state live = absurd (cc)
live_same site h v g n k ids r i waits at high low found item.Failed state live = absurd (cc)
live_same site h v g n k ids r i waits at high low found item.Gone state live = absurd (cc)

item_same : (site : Site) (h : History) (v : Repacks) (g n k : ℕ) (ids : List ℕ) (r : Repack) (i : RepackCopy) → IsLegal site h → ids ≡ waiting_for (live_recall site h g) → n ≡ copies_of_file site h g → repack_in v k ≡ Some r → ItemStands site h k i → IsFound r.items i → (l : Bool) → is_live_item i.state ≡ l
    → all_set item.Writing k (all_targets ids g n) i ≡ all_set item.Writing k (readers site h v (g ∷ [])) i
item_same site h v g n k ids r i legal waits count at stands found false live = set_off item.Writing k (all_targets ids g n) i live ∙ sym (set_off item.Writing k (readers site h v (g ∷ [])) i live)
item_same site h v g n k ids r i legal waits count at stands found true live =
    set_live item.Writing k (all_targets ids g n) i live
    ∙ live_same site h v g n k ids r i waits at high stands.from found i.state refl live
    ∙ sym (set_live item.Writing k (readers site h v (g ∷ [])) i live)
  where
    high : i.file ≡ g → i.copy ≤ n
    high is =
        (let range = copy_range site h i.file i.copy (items_in (entry_of h k)) (entry_range site h legal k) stands.named in
        let most : i.copy ≤ copies_of_file site h g = subst (λ (f : ℕ). i.copy ≤ copies_of_file site h f) is range.2 in
        subst (λ (m : ℕ). i.copy ≤ m) (sym count) most)

-- all copies in the repacks that wait are marked: so are those that are READING
pub marked_are : (site : Site) (h : History) (v w : Repacks) (g n : ℕ) (ids : List ℕ) → IsLegal site h → AreRepacks site h v → ids ≡ waiting_for (live_recall site h g) → n ≡ copies_of_file site h g → RepacksAgree w (set_states item.Writing (all_targets ids g n) v)
    → RepacksAgree w (set_states item.Writing (readers site h v (g ∷ [])) v)
marked_are site h v w g n ids legal are waits count marked k =
    marked k ∙ sets_are item.Writing k (all_targets ids g n) v ∙ by (repack_in v k) refl ∙ sym (sets_are item.Writing k (readers site h v (g ∷ [])) v)
  where
    by : (o : Option Repack) → repack_in v k ≡ o
        → ◌≡◌ {A = Option Repack} (option_map (with_items (all_set item.Writing k (all_targets ids g n))) o) (option_map (with_items (all_set item.Writing k (readers site h v (g ∷ [])))) o)
    by None is = refl
    by (Some r) is =
        ap (λ (xs : List RepackCopy). Some (record { tape = r.tape; items = xs }))
        (map_on (ItemStands site h k) (IsFound r.items) (all_set item.Writing k (all_targets ids g n)) (all_set item.Writing k (readers site h v (g ∷ []))) r.items (items_stand site h legal k r (sym (are k) ∙ is)) (all_found r.items)
        (λ i stands found. item_same site h v g n k ids r i legal waits count is stands found (is_live_item i.state) refl))
