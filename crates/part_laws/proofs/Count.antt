-- How many copies have their place on a tape: a table with no copy twice has as many as the tape has live items.
use Rattle.std.proofs.Common.{◌≡◌, ℕ, zero, suc, ◌+◌, ◌≤◌, ◌<◌, inl, inr, List, [], ◌∷◌, Bool, true, false, refl, sym, ◌∙◌, ap, subst, arith, length}
use Rattle.std.specs.Prelude.{Option, Some, None, is_some, if◌then◌else◌, ◌==◌, ◌&&◌, filter, map}
use Rattle.std.specs.List.{list_any}
use Rattle.std.proofs.lemmas.Bool.{and_parts, and_from, eqb-true, eq-eqb, cases_lt, ne_eqb}
use Rattle.cta_site.specs.declared.site.Site.{Site}
use Rattle.cta_model.specs.declared.asks.Item.{Item}
use Rattle.cta_model.specs.declared.states.Place.{Place}
use Rattle.cta_model.specs.History.{History}
use Rattle.cta_model.specs.Files.{path_of, copies_of_file}
use Rattle.cta_model.specs.Tapes.{tape_items}
use Rattle.cta_model.specs.Places.{place_of, is_at, live_items_on}
use Rattle.cta_model.specs.Legal.{IsLegal}
use Rattle.cta_laws.specs.Places.{is_item_of}
use Rattle.cta_laws.specs.Places.{AreInTurn}
use Rattle.cta_laws.proofs.Tests.{bool_cases, or_left, or_right, or_cases}
use Rattle.cta_laws.proofs.Bools.{turned}
use Rattle.cta_laws.proofs.PlaceLaw.{live_place, named_within, places_on_tape}
use Rattle.cta_laws.proofs.TapeItems.{items_in_turn}
use Rattle.cta_laws.proofs.FlushedCopies.{flushed_range}
use Rattle.part_model.specs.declared.space.Placed.{Placed}
use Rattle.part_model.specs.Tapes.{AreDistinct, Table, is_placed, live_in, place_among}
use Rattle.part_laws.specs.Tapes.{IsTable}

-- ---- sums from 1 to n

pub up_to : (ℕ → ℕ) → ℕ → ℕ
up_to g zero = 0
up_to g (suc n) = up_to g n + g (suc n)

pub up_to_same : (g k : ℕ → ℕ) (n : ℕ) → ((m : ℕ) → g m ≡ k m) → up_to g n ≡ up_to k n
unfolding up_to
up_to_same g k zero h = refl
up_to_same g k (suc n) h = omega (arith, up_to_same g k n h, h (suc n))

pub up_to_zero : (g : ℕ → ℕ) (n : ℕ) → ((m : ℕ) → g m ≡ 0) → up_to g n ≡ 0
unfolding up_to
up_to_zero g zero h = refl
up_to_zero g (suc n) h = omega (arith, up_to_zero g n h, h (suc n))

pub up_to_apart : (g k : ℕ → ℕ) (i n : ℕ) → n < i → ((m : ℕ) → (m == i) ≡ false → g m ≡ k m) → up_to g n ≡ up_to k n
unfolding up_to
up_to_apart g k i zero high h = refl
up_to_apart g k i (suc n) high h = omega (arith, up_to_apart g k i n (omega arith) h, h (suc n) (ne_eqb (suc n) i (λ x. omega arith)))

-- where one number differs
pub up_to_one : (g k : ℕ → ℕ) (i n : ℕ) → 1 ≤ i → i ≤ n → ((m : ℕ) → (m == i) ≡ false → g m ≡ k m) → up_to g n + k i ≡ up_to k n + g i
unfolding up_to
up_to_one g k i zero low high h = absurd (omega arith)
up_to_one g k i (suc n) low high h =
    elim (cases_lt i (suc n)) [
      | inl less ↦ omega (arith, up_to_one g k i n low (omega arith) h, h (suc n) (ne_eqb (suc n) i (λ x. omega arith)))
      | inr more ↦
          (let same : i ≡ suc n = omega arith in
          let rest : up_to g n ≡ up_to k n = up_to_apart g k i n (omega arith) h in
          omega (arith, ap g same, ap k same))
    ]

-- ---- a place on a tape

pub on : ℕ → Option Place → ℕ
on t None = 0
on t (Some p) = if p.tape == t then 1 else 0

-- ---- the table

pub one_more : (b : Bool) (n : ℕ) (p : Placed) (qs : List Placed) → length qs ≡ n → length (if b then p ∷ qs else qs) ≡ n + (if b then 1 else 0)
one_more true n p qs e = omega arith
one_more false n p qs e = omega arith

pub here_is : (p : Placed) (qs : List Placed) → place_among (p ∷ qs) p.file p.copy ≡ Some p.place
here_is p qs = rw (eq-eqb p.file p.file refl, eq-eqb p.copy p.copy refl) refl

pub other_file : (p : Placed) (qs : List Placed) (f c : ℕ) → (f == p.file) ≡ false → place_among (p ∷ qs) f c ≡ place_among qs f c
other_file p qs f c d = rw (turned f p.file d) refl

pub other_copy : (p : Placed) (qs : List Placed) (c : ℕ) → (c == p.copy) ≡ false → place_among (p ∷ qs) p.file c ≡ place_among qs p.file c
other_copy p qs c d = rw (eq-eqb p.file p.file refl, turned c p.copy d) refl

-- the copies of a table's places
abbrev pub AreWithin : ℕ → (ℕ → ℕ) → List Placed → Type 0
AreWithin n copies ps = (f c : ℕ) → is_some (place_among ps f c) ≡ true → (1 ≤ f) × (f ≤ n) × (1 ≤ c) × (c ≤ copies f)

some_if : (b : Bool) (p : Place) (o : Option Place) → is_some o ≡ true → is_some (if b then Some p else o) ≡ true
some_if true p o e = refl
some_if false p o e = e

pub table_count : (t n : ℕ) (copies : ℕ → ℕ) (ps : List Placed) → AreDistinct ps → AreWithin n copies ps → length (filter (λ (p : Placed). p.place.tape == t) ps) ≡ up_to (λ f. up_to (λ c. on t (place_among ps f c)) (copies f)) n
unfolding AreDistinct on
table_count t n copies [] dis within = sym (up_to_zero (λ f. up_to (λ c. on t (place_among [] f c)) (copies f)) n (λ f. up_to_zero (λ c. on t (place_among [] f c)) (copies f) (λ c. refl)))
table_count t n copies (p ∷ qs) dis within =
    let rest : length (filter (λ (p : Placed). p.place.tape == t) qs) ≡ up_to (λ f. up_to (λ c. on t (place_among qs f c)) (copies f)) n = table_count t n copies qs dis.1 (λ f c e. within f c (some_if (is_placed f c p) p.place (place_among qs f c) e)) in
    let w = within p.file p.copy (ap is_some (here_is p qs)) in
    let inner : up_to (λ c. on t (place_among (p ∷ qs) p.file c)) (copies p.file) + on t (place_among qs p.file p.copy) ≡ up_to (λ c. on t (place_among qs p.file c)) (copies p.file) + on t (place_among (p ∷ qs) p.file p.copy) =
    up_to_one (λ c. on t (place_among (p ∷ qs) p.file c)) (λ c. on t (place_among qs p.file c)) p.copy (copies p.file) w.2 w.3 (λ c d. ap (on t) (other_copy p qs c d)) in
    let outer : up_to (λ f. up_to (λ c. on t (place_among (p ∷ qs) f c)) (copies f)) n + up_to (λ c. on t (place_among qs p.file c)) (copies p.file) ≡ up_to (λ f. up_to (λ c. on t (place_among qs f c)) (copies f)) n + up_to (λ c. on t (place_among (p ∷ qs) p.file c)) (copies p.file) =
    up_to_one (λ f. up_to (λ c. on t (place_among (p ∷ qs) f c)) (copies f)) (λ f. up_to (λ c. on t (place_among qs f c)) (copies f)) p.file n w.0 w.1 (λ f d. up_to_same (λ c. on t (place_among (p ∷ qs) f c)) (λ c. on t (place_among qs f c)) (copies f) (λ c. ap (on t) (other_file p qs f c d))) in
    let old : on t (place_among qs p.file p.copy) ≡ 0 = ap (on t) dis.0 in
    let new : on t (place_among (p ∷ qs) p.file p.copy) ≡ (if p.place.tape == t then 1 else 0) = ap (on t) (here_is p qs) in
    let more : length (filter (λ (p : Placed). p.place.tape == t) (p ∷ qs)) ≡ length (filter (λ (p : Placed). p.place.tape == t) qs) + (if p.place.tape == t then 1 else 0) = one_more (p.place.tape == t) (length (filter (λ (p : Placed). p.place.tape == t) qs)) p (filter (λ (p : Placed). p.place.tape == t) qs) refl in
    omega arith

-- ---- the live items of a tape, as places of a table

-- the place that an item of the tape puts its copy at
placed_item : ℕ → Item → Placed
placed_item t i = record { file = i.job.file; copy = i.job.copy; place = record { copy = i.job.copy; tape = t; fseq = i.fseq } }

-- whether an item is the place of its copy
is_live_item : History → ℕ → Item → Bool
is_live_item h t i = is_at t i.fseq (place_of h i.job.file i.job.copy)

-- the places that the live ones of these items are
live_placed : History → ℕ → List Item → List Placed
live_placed h t xs = map (placed_item t) (filter (is_live_item h t) xs)

at_place : (t s : ℕ) (o : Option Place) → is_at t s o ≡ true → (p : Place) × (o ≡ Some p) × (p.tape ≡ t) × (p.fseq ≡ s)
at_place t s None e = absurd (cc)
at_place t s (Some p) e = (let x = and_parts (p.tape == t) _ e in (p, refl, eqb-true _ _ x.0, eqb-true _ _ x.1))

-- a place of the copy on the tape, with an fSeq that is not below this one
OnFrom : History → ℕ → ℕ → ℕ → ℕ → Type 0
OnFrom h t s f c = (p : Place) × (place_of h f c ≡ Some p) × (p.tape ≡ t) × (s ≤ p.fseq)

on_later : (h : History) (t s f c : ℕ) → OnFrom h t (s + 1) f c → OnFrom h t s f c
unfolding OnFrom
on_later h t s f c x = (x.0, x.1, x.2, (let low : s + 1 ≤ x.0.fseq = x.3 in omega arith))

found_placed : (h : History) (t s f c : ℕ) (xs : List Item) → AreInTurn s xs → is_some (place_among (live_placed h t xs) f c) ≡ true → OnFrom h t s f c
unfolding placed_item is_live_item live_placed OnFrom AreInTurn
found_placed h t s f c [] numbered e = absurd (cc)
found_placed h t s f c (i ∷ xs) numbered e =
    elim (bool_cases (is_at t i.fseq (place_of h i.job.file i.job.copy))) [
      | inr out ↦ on_later h t s f c (found_placed h t (s + 1) f c xs numbered.1 (rw out at e))
      | inl live ↦
          elim (bool_cases ((i.job.file == f) && (i.job.copy == c))) [
            | inl here ↦
                (let parts = and_parts (i.job.file == f) _ here in
                let p = at_place t i.fseq (place_of h i.job.file i.job.copy) live in
                let low : s ≤ p.0.fseq = omega (arith, p.3, numbered.0) in
                (p.0, subst (λ (n : ℕ). place_of h n c ≡ Some p.0) (eqb-true _ _ parts.0) (subst (λ (n : ℕ). place_of h i.job.file n ≡ Some p.0) (eqb-true _ _ parts.1) p.1), p.2, low))
            | inr other ↦ on_later h t s f c (found_placed h t (s + 1) f c xs numbered.1 (rw other at (rw live at e)))
          ]
    ]

some_first : (b : Bool) (p : Place) (o : Option Place) → (b ≡ false → is_some o ≡ true) → is_some (if b then Some p else o) ≡ true
some_first true p o e = refl
some_first false p o e = e refl

there_placed : (h : History) (t f c : ℕ) (p : Place) (xs : List Item) → place_of h f c ≡ Some p → p.tape ≡ t → list_any (is_item_of f c p.fseq) xs ≡ true → is_some (place_among (live_placed h t xs) f c) ≡ true
unfolding placed_item is_live_item live_placed
there_placed h t f c p [] is tape e = absurd (cc)
there_placed h t f c p (i ∷ xs) is tape e =
    elim (bool_cases (is_item_of f c p.fseq i)) [
      | inl hit ↦
          (let a = and_parts (i.job.file == f) _ hit in
          let b = and_parts (i.job.copy == c) _ a.1 in
          let live : is_at t i.fseq (place_of h i.job.file i.job.copy) ≡ true =
          ap (λ (n : ℕ). is_at t i.fseq (place_of h n i.job.copy)) (eqb-true _ _ a.0) ∙ ap (λ (n : ℕ). is_at t i.fseq (place_of h f n)) (eqb-true _ _ b.0) ∙ ap (is_at t i.fseq) is ∙ and_from _ _ (eq-eqb p.tape t tape) (eq-eqb p.fseq i.fseq (sym (eqb-true _ _ b.1))) in
          rw live (some_first ((i.job.file == f) && (i.job.copy == c)) _ _ (λ d. (let here : ((i.job.file == f) && (i.job.copy == c)) ≡ true = and_from _ _ a.0 b.0 in absurd (cc)))))
      | inr miss ↦
          (let rest : is_some (place_among (live_placed h t xs) f c) ≡ true = there_placed h t f c p xs is tape (rw miss at e) in
          elim (bool_cases (is_at t i.fseq (place_of h i.job.file i.job.copy))) [ inl live ↦ rw live (some_first ((i.job.file == f) && (i.job.copy == c)) _ _ (λ d. rest)) | inr out ↦ rw out rest ])
    ]

none_there : (o : Option Place) → (is_some o ≡ true → ⊥) → o ≡ None
none_there None no_way = refl
none_there (Some p) no_way = absurd (no_way refl)

placed_distinct : (h : History) (t s : ℕ) (xs : List Item) → AreInTurn s xs → AreDistinct (live_placed h t xs)
unfolding placed_item is_live_item live_placed OnFrom AreDistinct AreInTurn
placed_distinct h t s [] numbered = tt
placed_distinct h t s (i ∷ xs) numbered =
    elim (bool_cases (is_at t i.fseq (place_of h i.job.file i.job.copy))) [
      | inr out ↦ rw out (placed_distinct h t (s + 1) xs numbered.1)
      | inl live ↦
          (let p = at_place t i.fseq (place_of h i.job.file i.job.copy) live in
          let once : place_among (live_placed h t xs) i.job.file i.job.copy ≡ None =
          none_there (place_among (live_placed h t xs) i.job.file i.job.copy) (λ e.
          (let q = found_placed h t (s + 1) i.job.file i.job.copy xs numbered.1 e in
          let same : q.0.fseq ≡ p.0.fseq = (let both : Some q.0 ≡ Some p.0 = sym q.1 ∙ p.1 in let eq : q.0 ≡ p.0 = cc in ap (λ (x : Place). x.fseq) eq) in
          let high : s + 1 ≤ q.0.fseq = q.3 in
          absurd (omega (arith, same, p.3, numbered.0)))) in
          rw live (once, placed_distinct h t (s + 1) xs numbered.1))
    ]

placed_many : (h : History) (t : ℕ) (xs : List Item) → length (filter (λ (p : Placed). p.place.tape == t) (live_placed h t xs)) ≡ length (filter (is_live_item h t) xs)
unfolding placed_item is_live_item live_placed
placed_many h t [] = refl
placed_many h t (i ∷ xs) =
    elim (bool_cases (is_at t i.fseq (place_of h i.job.file i.job.copy)))
    [ inl live ↦ rw (live, eq-eqb t t refl) (ap suc (placed_many h t xs)) | inr out ↦ rw out (placed_many h t xs) ]

among_on : (h : History) (t : ℕ) (xs : List Item) (f c : ℕ) (p : Place) → place_among (live_placed h t xs) f c ≡ Some p → p.tape ≡ t
unfolding placed_item is_live_item live_placed
among_on h t [] f c p e = absurd (cc)
among_on h t (i ∷ xs) f c p e =
    elim (bool_cases (is_at t i.fseq (place_of h i.job.file i.job.copy))) [
      | inr out ↦ among_on h t xs f c p (rw out at e)
      | inl live ↦ here ((i.job.file == f) && (i.job.copy == c)) (rw live at e) (λ x. among_on h t xs f c p x)
    ]
  where
    here : (b : Bool) → (if b then Some (record { copy = i.job.copy; tape = t; fseq = i.fseq }) else place_among (live_placed h t xs) f c) ≡ Some p → (place_among (live_placed h t xs) f c ≡ Some p → p.tape ≡ t) → p.tape ≡ t
    here true x rest = (let same : ◌≡◌ {A = Place} (record { copy = i.job.copy; tape = t; fseq = i.fseq }) p = cc in ap (λ (q : Place). q.tape) (sym same))
    here false x rest = rest x

-- ---- both

within_of : (site : Site) (h : History) → IsLegal site h → (f c : ℕ) (p : Place) → place_of h f c ≡ Some p → (1 ≤ f) × (f ≤ length h) × (1 ≤ c) × (c ≤ copies_of_file site h f)
within_of site h legal f c p is =
    let parts = live_place h f c p is in
    let w = named_within h f (path_of h f) parts.0 in
    let r = flushed_range site h legal f c p parts.1 in
    (w.0, w.1, r.0, r.1)

within_some : (site : Site) (h : History) → IsLegal site h → (f c : ℕ) → is_some (place_of h f c) ≡ true → (1 ≤ f) × (f ≤ length h) × (1 ≤ c) × (c ≤ copies_of_file site h f)
within_some site h legal f c some = by (place_of h f c) refl some
  where
    by : (o : Option Place) → place_of h f c ≡ o → is_some o ≡ true → (1 ≤ f) × (f ≤ length h) × (1 ≤ c) × (c ≤ copies_of_file site h f)
    by None is e = absurd (cc)
    by (Some p) is e = within_of site h legal f c p is

on_some : (t : ℕ) (o : Option Place) (p : Place) → o ≡ Some p → p.tape ≡ t → on t o ≡ 1
unfolding on
on_some t None p e tape = absurd (cc)
on_some t (Some q) p e tape = (let same : q ≡ p = cc in rw (eq-eqb q.tape t (ap (λ (x : Place). x.tape) same ∙ tape)) refl)

on_same : (site : Site) (h : History) → IsLegal site h → (t f c : ℕ) → on t (place_among (live_placed h t (tape_items h t)) f c) ≡ on t (place_of h f c)
unfolding OnFrom on
on_same site h legal t f c = by (place_among (live_placed h t (tape_items h t)) f c) refl (place_of h f c) refl
  where
    by : (o : Option Place) → place_among (live_placed h t (tape_items h t)) f c ≡ o → (q : Option Place) → place_of h f c ≡ q → on t o ≡ on t q
    by (Some p) is q iq =
        (let x = found_placed h t 1 f c (tape_items h t) (items_in_turn site h legal t) (ap is_some is) in
        on_some t (Some p) p refl (among_on h t (tape_items h t) f c p is) ∙ sym (on_some t q x.0 (sym iq ∙ x.1) x.2))
    by None is None iq = refl
    by None is (Some q) iq =
        elim (bool_cases (q.tape == t)) [
          | inr miss ↦ rw miss refl
          | inl hit ↦
              (let tape : q.tape ≡ t = eqb-true _ _ hit in
              let item : list_any (is_item_of f c q.fseq) (tape_items h t) ≡ true = subst (λ (v : ℕ). list_any (is_item_of f c q.fseq) (tape_items h v) ≡ true) tape (places_on_tape site h legal f c q iq) in
              let there : is_some (place_among (live_placed h t (tape_items h t)) f c) ≡ true = there_placed h t f c q (tape_items h t) iq tape item in
              let none : is_some (place_among (live_placed h t (tape_items h t)) f c) ≡ false = ap is_some is in
              absurd (cc))
        ]

-- the table has as many places on a tape as the tape has live items
pub live_is : (site : Site) (h : History) (v : Table) (t : ℕ) → IsLegal site h → IsTable site h v → live_in v t ≡ length (live_items_on h t)
unfolding OnFrom is_live_item
live_is site h v t legal is =
    table_count t (length h) (copies_of_file site h) v.places is.distinct (λ f c e. within_some site h legal f c (ap is_some (sym (is.places f c)) ∙ e))
    ∙ up_to_same (λ f. up_to (λ c. on t (place_among v.places f c)) (copies_of_file site h f)) (λ f. up_to (λ c. on t (place_among (live_placed h t (tape_items h t)) f c)) (copies_of_file site h f)) (length h) (λ f. up_to_same (λ c. on t (place_among v.places f c)) (λ c. on t (place_among (live_placed h t (tape_items h t)) f c)) (copies_of_file site h f) (λ c. ap (on t) (is.places f c) ∙ sym (on_same site h legal t f c)))
    ∙ sym (table_count t (length h) (copies_of_file site h) (live_placed h t (tape_items h t)) (placed_distinct h t 1 (tape_items h t) (items_in_turn site h legal t)) (λ f c e. (let x = found_placed h t 1 f c (tape_items h t) (items_in_turn site h legal t) e in within_of site h legal f c x.0 x.1)))
    ∙ placed_many h t (tape_items h t)
