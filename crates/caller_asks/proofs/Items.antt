-- Items that are GONE, call by call.
use Rattle.std.proofs.Common.{◌≡◌, ◌∙◌, ◌-◌, ◌+◌, ◌≤◌, ◌<◌, ℕ, inl, inr, List, [], ◌∷◌, Bool, true, false, ◌||◌, refl, sym, ap, subst, arith, length, take}
use Rattle.std.specs.Prelude.{Option, Some, None, option_map, ◌==◌, ◌&&◌, if◌then◌else◌, map, nat_le, get_or}
use Rattle.std.specs.List.{list_any}
use Rattle.std.proofs.lemmas.Bool.{and_parts, eqb-true}
use Rattle.std.proofs.lemmas.Bool.Decides.{nat_tests}
use Rattle.std.proofs.lemmas.List.{take_more}
use Rattle.cta_model.specs.declared.reports.ItemState.TheVariants as item
use Rattle.cta_model.specs.declared.states.RepackCopy.{RepackCopy}
use Rattle.cta_model.specs.History.{has_number}
use Rattle.cta_model.specs.Repacks.{Repack, is_live_item}
use Rattle.cta_laws.proofs.Bools.{eq_flip}
use Rattle.cta_laws.proofs.Tests.{bool_cases}
use Rattle.cta_laws.proofs.WaitLists.{number_append}
use Rattle.part_model.specs.Repacks.{Repacks, RepacksAgree, is_writing, repack_in, set_item, set_state}
use Rattle.part_laws.proofs.RepackTurns.{items_same, items_stay, items_twice, set_is, with_items}
use Rattle.caller_asks.specs.Gone.{AreGone, gone_item, gone_items, is_copy_to, writes_copy}

-- ---- steps in turn

pub none_gone : (v : Repacks) → AreGone (λ k g c. false) v v
none_gone v k = sym (items_stay (repack_in v k))

pub gone_same : (hit hit' : ℕ → ℕ → ℕ → Bool) (v w : Repacks) → ((k g c : ℕ) → hit k g c ≡ hit' k g c) → AreGone hit v w → AreGone hit' v w
gone_same hit hit' v w same gone k =
    gone k ∙ items_same (gone_item (hit k)) (gone_item (hit' k)) (repack_in v k) (λ i. ap (λ (b : Bool). if b && is_live_item i.state then record i { state = item.Gone } else i) (same k i.file i.copy))

gone_twice : (p q : ℕ → ℕ → Bool) (i : RepackCopy) (a b l : Bool) → p i.file i.copy ≡ a → q i.file i.copy ≡ b → is_live_item i.state ≡ l
    → ◌≡◌ {A = RepackCopy} (gone_item q (if a && l then record i { state = item.Gone } else i)) (if (a || b) && l then record i { state = item.Gone } else i)
gone_twice p q i true true true ea eb el = rw eb refl
gone_twice p q i true false true ea eb el = rw eb refl
gone_twice p q i true true false ea eb el = rw (eb, el) refl
gone_twice p q i true false false ea eb el = rw eb refl
gone_twice p q i false true true ea eb el = rw (eb, el) refl
gone_twice p q i false true false ea eb el = rw (eb, el) refl
gone_twice p q i false false l ea eb el = rw eb refl

pub gone_both : (hit more : ℕ → ℕ → ℕ → Bool) (v u w : Repacks) → AreGone hit v u → AreGone more u w → AreGone (λ k g c. hit k g c || more k g c) v w
gone_both hit more v u w first second k =
    second k
    ∙ ap (option_map (gone_items (more k))) (first k)
    ∙ items_twice (gone_item (more k)) (gone_item (hit k)) (repack_in v k)
    ∙ items_same (λ i. gone_item (more k) (gone_item (hit k) i)) (gone_item (λ g c. hit k g c || more k g c)) (repack_in v k)
    (λ i. gone_twice (hit k) (more k) i (hit k i.file i.copy) (more k i.file i.copy) (is_live_item i.state) refl refl refl)

-- ---- one call

pub set_gone : (id f c : ℕ) (v w : Repacks) → RepacksAgree w (set_state id f c item.Gone v) → AreGone (λ k g d. k == id && (g == f && d == c)) v w
set_gone id f c v w agree k = agree k ∙ set_is id k f c item.Gone v ∙ by (id == k) (eq_flip k id)
  where
    by : (b : Bool) → (k == id) ≡ b
        → ◌≡◌ {A = Option Repack} (if b then option_map (with_items (set_item f c item.Gone)) (repack_in v k) else repack_in v k) (option_map (gone_items (λ g d. k == id && (g == f && d == c))) (repack_in v k))
    by true e = items_same (set_item f c item.Gone) (gone_item (λ g d. k == id && (g == f && d == c))) (repack_in v k) (λ i. rw e refl)
    by false e = sym (items_stay (repack_in v k)) ∙ items_same (λ i. i) (gone_item (λ g d. k == id && (g == f && d == c))) (repack_in v k) (λ i. rw e refl)

-- ---- the copies up to a number

no_copy : (c n : ℕ) → n ≡ 0 → (nat_le 1 c && nat_le c n) ≡ false
no_copy c n is = grind (arith, nat_tests)

one_copy_more : (c n : ℕ) → 1 ≤ n → (c == n || (nat_le 1 c && nat_le c (n - 1))) ≡ (nat_le 1 c && nat_le c n)
one_copy_more c n low = grind (arith, nat_tests)

spread : (a b x y : Bool) → ((a && (b && x)) || (a && (b && y))) ≡ (a && (b && (x || y)))
spread true true x y = refl
spread true false x y = refl
spread false b x y = refl

and_off : (a : Bool) → (a && false) ≡ false
and_off true = refl
and_off false = refl

pub none_of_repack : (id f n : ℕ) (v : Repacks) → n ≡ 0 → AreGone (λ k g c. k == id && is_copy_to f n g c) v v
none_of_repack id f n v is = gone_same (λ k g c. false) (λ k g c. k == id && is_copy_to f n g c) v v (λ k g c. sym (off k g c)) (none_gone v)
  where
    off : (k g c : ℕ) → (k == id && is_copy_to f n g c) ≡ false
    off k g c = rw (no_copy c n is) (ap (λ (b : Bool). k == id && b) (and_off (g == f)) ∙ and_off (k == id))

-- the item of one copy, and then those of the lower ones
pub next_of_repack : (id f n : ℕ) (v u w : Repacks) → 1 ≤ n → RepacksAgree u (set_state id f n item.Gone v) → AreGone (λ k g c. k == id && is_copy_to f (n - 1) g c) u w → AreGone (λ k g c. k == id && is_copy_to f n g c) v w
next_of_repack id f n v u w low set rest =
    gone_same (λ k g c. (k == id && (g == f && c == n)) || (k == id && is_copy_to f (n - 1) g c)) (λ k g c. k == id && is_copy_to f n g c) v w
    (λ k g c. spread (k == id) (g == f) (c == n) (nat_le 1 c && nat_le c (n - 1)) ∙ ap (λ (b : Bool). k == id && (g == f && b)) (one_copy_more c n low))
    (gone_both (λ k g c. k == id && (g == f && c == n)) (λ k g c. k == id && is_copy_to f (n - 1) g c) v u w (set_gone id f n v u set) rest)

-- ---- one repack more

pub none_of_repacks : (f n : ℕ) (v : Repacks) → AreGone (λ k g c. false && is_copy_to f n g c) v v
none_of_repacks f n v = none_gone v

either_and : (a b x : Bool) → ((a && x) || (b && x)) ≡ ((a || (b || false)) && x)
either_and true true true = refl
either_and true true false = refl
either_and true false true = refl
either_and true false false = refl
either_and false true true = refl
either_and false true false = refl
either_and false false x = refl

pub next_repack : (ids : List ℕ) (i d f n : ℕ) (v u w : Repacks) → i < length ids → AreGone (λ k g c. has_number k (take i ids) && is_copy_to f n g c) v u → AreGone (λ k g c. k == get_or ids i d && is_copy_to f n g c) u w
    → AreGone (λ k g c. has_number k (take (i + 1) ids) && is_copy_to f n g c) v w
next_repack ids i d f n v u w low before now =
    gone_same (λ k g c. (has_number k (take i ids) && is_copy_to f n g c) || (k == get_or ids i d && is_copy_to f n g c)) (λ k g c. has_number k (take (i + 1) ids) && is_copy_to f n g c) v w
    (λ k g c. either_and (has_number k (take i ids)) (k == get_or ids i d) (is_copy_to f n g c) ∙ ap (λ (b : Bool). b && is_copy_to f n g c) (sym (ap (has_number k) (take_more ids i d low) ∙ number_append k (take i ids) (get_or ids i d ∷ []))))
    (gone_both (λ k g c. has_number k (take i ids) && is_copy_to f n g c) (λ k g c. k == get_or ids i d && is_copy_to f n g c) v u w before now)

-- ---- what repacks are WRITING

-- items of other copies are not told of
pub writes_same : (hit : ℕ → ℕ → Bool) (f c : ℕ) (o : Option Repack) → hit f c ≡ false → writes_copy f c (option_map (gone_items hit) o) ≡ writes_copy f c o
writes_same hit f c None off = refl
writes_same hit f c (Some r) off = each r.items
  where
    test : RepackCopy → Bool
    test i = (i.file == f && i.copy == c) && is_writing i.state

    other : (i : RepackCopy) → hit i.file i.copy ≡ true → (i.file == f && i.copy == c) ≡ false
    other i on =
        elim (bool_cases (i.file == f && i.copy == c)) [
          | inr miss ↦ miss
          | inl same ↦
              (let p = and_parts (i.file == f) (i.copy == c) same in
              let there : hit f c ≡ true = subst (λ (m : ℕ). hit f m ≡ true) (eqb-true i.copy c p.1) (subst (λ (m : ℕ). hit m i.copy ≡ true) (eqb-true i.file f p.0) on) in
              let bad : true ≡ false = sym there ∙ off in
              absurd (cc))
        ]

    one : (i : RepackCopy) (b : Bool) → (hit i.file i.copy && is_live_item i.state) ≡ b
        → (((RepackCopy.file (if b then record i { state = item.Gone } else i) == f && RepackCopy.copy (if b then record i { state = item.Gone } else i) == c) && is_writing (RepackCopy.state (if b then record i { state = item.Gone } else i))) ≡ ((i.file == f && i.copy == c) && is_writing i.state))
    one i false is = refl
    one i true is = (let miss : (i.file == f && i.copy == c) ≡ false = other i (and_parts (hit i.file i.copy) (is_live_item i.state) is).0 in rw miss refl)

    each : (xs : List RepackCopy) → list_any (λ (i : RepackCopy). (i.file == f && i.copy == c) && is_writing i.state) (map (gone_item hit) xs) ≡ list_any (λ (i : RepackCopy). (i.file == f && i.copy == c) && is_writing i.state) xs
    each [] = refl
    each (i ∷ xs) =
        ap (λ (b : Bool). b || list_any (λ (x : RepackCopy). (x.file == f && x.copy == c) && is_writing x.state) (map (gone_item hit) xs)) (one i (hit i.file i.copy && is_live_item i.state) refl)
        ∙ ap (λ (b : Bool). ((i.file == f && i.copy == c) && is_writing i.state) || b) (each xs)
