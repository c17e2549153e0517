-- The copies that have their place on a tape, by fSeq, are the items of its repack.
use Rattle.std.proofs.Common.{◌≡◌, ◌∙◌, ℕ, ◌<◌, inl, inr, List, [], ◌∷◌, Bool, true, false, ◌&&◌, ◌||◌, refl, sym, ap, subst, arith}
use Rattle.std.specs.Prelude.{Option, Some, None, ◌==◌, filter, map}
use Rattle.std.specs.List.{AllByRecursion, list_any}
use Rattle.std.proofs.lemmas.Bool.{and_parts, eqb-true, eq-eqb}
use Rattle.cta_site.specs.declared.site.Site.{Site}
use Rattle.cta_model.specs.declared.asks.Item.{Item}
use Rattle.cta_model.specs.declared.asks.Job.{Job}
use Rattle.cta_model.specs.declared.states.Place.{Place}
use Rattle.cta_model.specs.History.{History}
use Rattle.cta_model.specs.Mounts.{job_of}
use Rattle.cta_model.specs.Tapes.{tape_items}
use Rattle.cta_model.specs.Places.{is_at, live_items_on, place_of}
use Rattle.cta_model.specs.RepackItems.{repack_items}
use Rattle.cta_model.specs.Legal.{IsLegal}
use Rattle.cta_laws.specs.Places.{AreRising, is_item_of}
use Rattle.cta_laws.proofs.TapeItems.{live_items_in_order}
use Rattle.cta_laws.proofs.Bools.{same_bool}
use Rattle.cta_laws.proofs.Tests.{bool_cases, or_cases, or_left}
use Rattle.part_model.specs.declared.space.Placed.{Placed}
use Rattle.part_model.specs.Tapes.{Table}
use Rattle.part_laws.specs.Tapes.{IsTable}
use Rattle.part_laws.specs.Operators.{AreCopiesOn, ByFseq, is_copy_at, items_told}

-- ---- two lists in order of fSeq with the same copies are equal

-- a copy of a file at an fSeq
record Spot : Type 0 where
  file : ℕ
  copy : ℕ
  fseq : ℕ

abbrev is_spot : ℕ → ℕ → ℕ → Spot → Bool
is_spot f c s x = x.file == f && (x.copy == c && x.fseq == s)

abbrev Rise : List Spot → Type 0
Rise [] = Unit {0}
Rise (x ∷ xs) = AllByRecursion (λ (y : Spot). x.fseq < y.fseq) xs × Rise xs

self_spot : (x : Spot) → is_spot x.file x.copy x.fseq x ≡ true
self_spot x = rw (eq-eqb x.file x.file refl, eq-eqb x.copy x.copy refl, eq-eqb x.fseq x.fseq refl) refl

fseq_of : (f c s : ℕ) (x : Spot) → is_spot f c s x ≡ true → x.fseq ≡ s
fseq_of f c s x e = eqb-true x.fseq s (and_parts (x.copy == c) (x.fseq == s) (and_parts (x.file == f) (x.copy == c && x.fseq == s) e).1).1

above : (n f c s : ℕ) (xs : List Spot) → AllByRecursion (λ (y : Spot). n < y.fseq) xs → list_any (is_spot f c s) xs ≡ true → n < s
above n f c s [] all there = absurd (cc)
above n f c s (x ∷ xs) all there =
    elim (or_cases (is_spot f c s x) (list_any (is_spot f c s) xs) there) [
      | inl here ↦ subst (λ (k : ℕ). n < k) (fseq_of f c s x here) all.0
      | inr rest ↦ above n f c s xs all.1 rest
    ]

same_spot : (x y : Spot) → is_spot x.file x.copy x.fseq y ≡ true → y ≡ x
same_spot x y e =
    let a = and_parts (y.file == x.file) (y.copy == x.copy && y.fseq == x.fseq) e in
    let b = and_parts (y.copy == x.copy) (y.fseq == x.fseq) a.1 in
    by y.file x.file y.copy x.copy y.fseq x.fseq (eqb-true y.file x.file a.0) (eqb-true y.copy x.copy b.0) (eqb-true y.fseq x.fseq b.1)
  where
    spot : ℕ → ℕ → ℕ → Spot
    spot f c s = record { file = f; copy = c; fseq = s }

    by : (f g c d s t : ℕ) → f ≡ g → c ≡ d → s ≡ t → spot f c s ≡ spot g d t
    by f g c d s t e1 e2 e3 = cc

heads : (x y : Spot) (xs ys : List Spot) → Rise (x ∷ xs) → Rise (y ∷ ys) → list_any (is_spot x.file x.copy x.fseq) (y ∷ ys) ≡ true → list_any (is_spot y.file y.copy y.fseq) (x ∷ xs) ≡ true → y ≡ x
heads x y xs ys rx ry there back =
    elim (or_cases (is_spot x.file x.copy x.fseq y) (list_any (is_spot x.file x.copy x.fseq) ys) there) [
      | inl here ↦ same_spot x y here
      | inr rest ↦
          (let low : y.fseq < x.fseq = above y.fseq x.file x.copy x.fseq ys ry.0 rest in
          elim (or_cases (is_spot y.file y.copy y.fseq x) (list_any (is_spot y.file y.copy y.fseq) xs) back) [
            | inl same ↦ (let equal : x.fseq ≡ y.fseq = fseq_of y.file y.copy y.fseq x same in absurd (omega arith))
            | inr high ↦ (let over : x.fseq < y.fseq = above x.fseq y.file y.copy y.fseq xs rx.0 high in absurd (omega arith))
          ])
    ]

none_behind : (f c s : ℕ) (x : Spot) (xs : List Spot) → AllByRecursion (λ (y : Spot). x.fseq < y.fseq) xs → is_spot f c s x ≡ true → list_any (is_spot f c s) xs ≡ false
none_behind f c s x xs all here =
    elim (bool_cases (list_any (is_spot f c s) xs)) [
      | inr none ↦ none
      | inl some ↦ (let high : x.fseq < s = above x.fseq f c s xs all some in let equal : x.fseq ≡ s = fseq_of f c s x here in absurd (omega arith))
    ]

tails : (f c s : ℕ) (x : Spot) (xs ys : List Spot) → Rise (x ∷ xs) → AllByRecursion (λ (y : Spot). x.fseq < y.fseq) ys → list_any (is_spot f c s) (x ∷ xs) ≡ list_any (is_spot f c s) (x ∷ ys) → list_any (is_spot f c s) xs ≡ list_any (is_spot f c s) ys
tails f c s x xs ys rx ry same =
    elim (bool_cases (is_spot f c s x)) [
      | inl here ↦ none_behind f c s x xs rx.0 here ∙ sym (none_behind f c s x ys ry here)
      | inr other ↦ rw other at same
    ]

same_spots : (xs ys : List Spot) → Rise xs → Rise ys → ((f c s : ℕ) → list_any (is_spot f c s) xs ≡ list_any (is_spot f c s) ys) → xs ≡ ys
same_spots [] [] rx ry same = refl
same_spots [] (y ∷ ys) rx ry same =
    let bad : false ≡ true = same y.file y.copy y.fseq ∙ or_left (is_spot y.file y.copy y.fseq y) (list_any (is_spot y.file y.copy y.fseq) ys) (self_spot y) in absurd (cc)
same_spots (x ∷ xs) [] rx ry same =
    let bad : true ≡ false = sym (or_left (is_spot x.file x.copy x.fseq x) (list_any (is_spot x.file x.copy x.fseq) xs) (self_spot x)) ∙ same x.file x.copy x.fseq in absurd (cc)
same_spots (x ∷ xs) (y ∷ ys) rx ry same =
    let there : list_any (is_spot x.file x.copy x.fseq) (y ∷ ys) ≡ true = sym (same x.file x.copy x.fseq) ∙ or_left (is_spot x.file x.copy x.fseq x) (list_any (is_spot x.file x.copy x.fseq) xs) (self_spot x) in
    let back : list_any (is_spot y.file y.copy y.fseq) (x ∷ xs) ≡ true = same y.file y.copy y.fseq ∙ or_left (is_spot y.file y.copy y.fseq y) (list_any (is_spot y.file y.copy y.fseq) ys) (self_spot y) in
    let head : y ≡ x = heads x y xs ys rx ry there back in
    let high : AllByRecursion (λ (z : Spot). x.fseq < z.fseq) ys = subst (λ (w : Spot). AllByRecursion (λ (z : Spot). w.fseq < z.fseq) ys) head ry.0 in
    let rest : xs ≡ ys = same_spots xs ys rx.1 ry.1 (λ f c s. tails f c s x xs ys rx high (same f c s ∙ ap (λ (w : Spot). list_any (is_spot f c s) (w ∷ ys)) head)) in
    ap (λ (zs : List Spot). x ∷ zs) rest ∙ ap (λ (w : Spot). w ∷ ys) (sym head)

-- ---- items and placed copies as such

item_spot : Item → Spot
item_spot i = record { file = i.job.file; copy = i.job.copy; fseq = i.fseq }

copy_spot : Placed → Spot
copy_spot p = record { file = p.file; copy = p.copy; fseq = p.place.fseq }

abbrev spot_job : Spot → Job
spot_job x = job_of 0 x.file x.copy

items_any : (f c s : ℕ) (items : List Item) → list_any (is_item_of f c s) items ≡ list_any (is_spot f c s) (map item_spot items)
unfolding item_spot
items_any f c s [] = refl
items_any f c s (i ∷ items) = ap (λ (b : Bool). is_item_of f c s i || b) (items_any f c s items)

copies_any : (f c s : ℕ) (ps : List Placed) → list_any (is_copy_at f c s) ps ≡ list_any (is_spot f c s) (map copy_spot ps)
unfolding copy_spot
copies_any f c s [] = refl
copies_any f c s (p ∷ ps) = ap (λ (b : Bool). is_copy_at f c s p || b) (copies_any f c s ps)

items_above : (n : ℕ) (items : List Item) → AllByRecursion (λ (k : Item). n < k.fseq) items → AllByRecursion (λ (y : Spot). n < y.fseq) (map item_spot items)
unfolding item_spot
items_above n [] all = tt
items_above n (i ∷ items) all = (all.0, items_above n items all.1)

items_rise : (items : List Item) → AreRising items → Rise (map item_spot items)
unfolding item_spot
items_rise [] r = tt
items_rise (i ∷ items) r = (items_above i.fseq items r.0, items_rise items r.1)

copies_above : (n : ℕ) (ps : List Placed) → AllByRecursion (λ (q : Placed). n < q.place.fseq) ps → AllByRecursion (λ (y : Spot). n < y.fseq) (map copy_spot ps)
unfolding copy_spot
copies_above n [] all = tt
copies_above n (p ∷ ps) all = (all.0, copies_above n ps all.1)

copies_rise : (ps : List Placed) → ByFseq ps → Rise (map copy_spot ps)
unfolding copy_spot
copies_rise [] r = tt
copies_rise (p ∷ ps) r = (copies_above p.place.fseq ps r.0, copies_rise ps r.1)

item_jobs_are : (items : List Item) → map spot_job (map item_spot items) ≡ map (λ (i : Item). job_of 0 i.job.file i.job.copy) items
unfolding item_spot
item_jobs_are [] = refl
item_jobs_are (i ∷ items) = ap (λ (js : List Job). job_of 0 i.job.file i.job.copy ∷ js) (item_jobs_are items)

copy_jobs_are : (ps : List Placed) → map spot_job (map copy_spot ps) ≡ items_told ps
unfolding copy_spot
copy_jobs_are [] = refl
copy_jobs_are (p ∷ ps) = ap (λ (js : List Job). job_of 0 p.file p.copy ∷ js) (copy_jobs_are ps)

-- ---- the live items of a tape have exactly the places on it

filter_at : (h : History) (v f c s : ℕ) (items : List Item) → list_any (is_item_of f c s) (filter (λ (i : Item). is_at v i.fseq (place_of h i.job.file i.job.copy)) items) ≡ true → is_at v s (place_of h f c) ≡ true
filter_at h v f c s [] there = absurd (cc)
filter_at h v f c s (i ∷ items) there =
    elim (bool_cases (is_at v i.fseq (place_of h i.job.file i.job.copy))) [
      | inr out ↦ filter_at h v f c s items (rw out at there)
      | inl keep ↦
          elim (or_cases (is_item_of f c s i) (list_any (is_item_of f c s) (filter (λ (k : Item). is_at v k.fseq (place_of h k.job.file k.job.copy)) items)) (rw keep at there)) [
            | inr rest ↦ filter_at h v f c s items rest
            | inl here ↦
                (let a = and_parts (i.job.file == f) ((i.job.copy == c) && (i.fseq == s)) here in
                let b = and_parts (i.job.copy == c) (i.fseq == s) a.1 in
                subst (λ (n : ℕ). is_at v n (place_of h f c) ≡ true) (eqb-true i.fseq s b.1)
                (subst (λ (n : ℕ). is_at v i.fseq (place_of h f n) ≡ true) (eqb-true i.job.copy c b.0) (subst (λ (n : ℕ). is_at v i.fseq (place_of h n i.job.copy) ≡ true) (eqb-true i.job.file f a.0) keep)))
          ]
    ]

place_there : (site : Site) (h : History) → IsLegal site h → (v f c s : ℕ) (o : Option Place) → place_of h f c ≡ o → is_at v s o ≡ true → list_any (is_item_of f c s) (live_items_on h v) ≡ true
place_there site h legal v f c s None is at_it = absurd (cc)
place_there site h legal v f c s (Some p) is at_it =
    let a = and_parts (p.tape == v) (p.fseq == s) at_it in
    let all : list_any (is_item_of f c p.fseq) (live_items_on h v) ≡ true = (live_items_in_order site h legal v).all f c p is (eqb-true p.tape v a.0) in
    subst (λ (n : ℕ). list_any (is_item_of f c n) (live_items_on h v) ≡ true) (eqb-true p.fseq s a.1) all

live_members : (site : Site) (h : History) → IsLegal site h → (v f c s : ℕ) → list_any (is_item_of f c s) (live_items_on h v) ≡ is_at v s (place_of h f c)
live_members site h legal v f c s =
    same_bool (list_any (is_item_of f c s) (live_items_on h v)) (is_at v s (place_of h f c)) (λ e. filter_at h v f c s (tape_items h v) e) (λ e. place_there site h legal v f c s (place_of h f c) refl e)

pub items_are : (site : Site) (h : History) (table : Table) (v : ℕ) (ps : List Placed) → IsLegal site h → IsTable site h table → AreCopiesOn table v ps → items_told ps ≡ repack_items h v
items_are site h table v ps legal is are =
    sym (copy_jobs_are ps)
    ∙ ap (map spot_job)
    (same_spots (map copy_spot ps) (map item_spot (live_items_on h v)) (copies_rise ps are.in_order) (items_rise (live_items_on h v) (live_items_in_order site h legal v).rising)
    (λ f c s. sym (copies_any f c s ps) ∙ are.members f c s ∙ ap (is_at v s) (is.places f c) ∙ sym (live_members site h legal v f c s) ∙ items_any f c s (live_items_on h v)))
    ∙ item_jobs_are (live_items_on h v)
