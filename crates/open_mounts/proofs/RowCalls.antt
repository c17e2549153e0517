-- What the calls do to rows of which each mount has one.
use Rattle.std.proofs.Common.{◌≡◌, ◌∙◌, ℕ, zero, suc, ◌+◌, ◌<◌, List, [], ◌∷◌, ◌++◌, length, Bool, true, false, not, ◌&&◌, ◌||◌, refl, sym, ap, subst, arith, get_or, None, Some}
use Rattle.std.specs.Prelude.{Option, is_some, option_map, if◌then◌else◌, ◌==◌, find, filter, nat_lt}
use Rattle.std.specs.List.{list_any, position, position_or_len}
use Rattle.std.proofs.Math.ListN.{set}
use Rattle.std.proofs.lemmas.Bool.{eqb-true, eq-eqb}
use Rattle.std.proofs.lemmas.Bool.Decides.{nat_tests}
use borrow.Author.Tests.{ltb-true}
use Rattle.std.proofs.lemmas.List.Folds.{list_any-append}
use Rattle.cta_model.specs.declared.asks.Item.{Item}
use Rattle.cta_site.specs.Listed.{Listed}
use Rattle.cta_model.specs.declared.asks.Direction.TheVariants as direction
use Rattle.part_model.specs.declared.mounts.OpenMount.{OpenMount}
use Rattle.part_model.specs.Mounts.{has_mount, opened, ended, claimed}
use Rattle.open_mounts.specs.Table.{differ}

-- a row is found where one passes
pub some_found : {B : Type 0} (f : B → OpenMount) (o : Option B) (p : OpenMount → Bool) (rows : List OpenMount) → option_map f o ≡ find p rows → is_some o ≡ list_any p rows
some_found {B = B} f o p rows e = lifted o ∙ ap is_some e ∙ found rows
  where
    lifted : (o : Option B) → is_some o ≡ is_some (option_map f o)
    lifted None = refl
    lifted (Some x) = refl

    found : (rows : List OpenMount) → is_some (find p rows) ≡ list_any p rows
    found [] = refl
    found (r ∷ rows) = elim (p r) as (λ b. is_some (if b then Some r else find p rows) ≡ (b || list_any p rows)) [ true ↦ refl | false ↦ found rows ]

-- the first of two tests, and the second
both : (a b : Bool) → (a && b) ≡ true → (a ≡ true) × (b ≡ true)
both true b e = (refl, e)
both false b e = absurd (cc)

was_false : (b : Bool) → not b ≡ true → b ≡ false
was_false true e = absurd (cc)
was_false false e = refl

neither : (a b : Bool) → (a || b) ≡ false → (a ≡ false) × (b ≡ false)
neither true b e = absurd (cc)
neither false b e = (refl, e)

same_way : (a b : ℕ) → (a == b) ≡ false → (b == a) ≡ false
same_way a b miss = by (b == a) refl
  where
    by : (t : Bool) → (b == a) ≡ t → (b == a) ≡ false
    by true hit = (let back : (a == b) ≡ true = eq-eqb a b (sym (eqb-true b a hit)) in absurd (cc))
    by false e = e

-- rows differ behind a new one
pub differ-opened : (r : OpenMount) (rows : List OpenMount) → differ rows ≡ true → has_mount r.number rows ≡ false → differ (opened r rows) ≡ true
differ-opened r [] apart new = refl
differ-opened r (k ∷ rows) apart new =
    (let old = both (not (has_mount k.number rows)) (differ rows) apart in
    let fresh = neither (k.number == r.number) (has_mount r.number rows) new in
    let gone : has_mount k.number (rows ++ r ∷ []) ≡ false = list_any-append (λ (x : OpenMount). x.number == k.number) rows (r ∷ []) ∙ joined (has_mount k.number rows) (r.number == k.number) (was_false (has_mount k.number rows) old.0) (same_way k.number r.number fresh.0) in
    rw gone (differ-opened r rows old.1 fresh.1))
  where
    joined : (a b : Bool) → a ≡ false → b ≡ false → (a || (b || false)) ≡ false
    joined true b e f = absurd (cc)
    joined false true e f = absurd (cc)
    joined false false e f = refl

lacks-filter : (p q : OpenMount → Bool) (rows : List OpenMount) → list_any p rows ≡ false → list_any p (filter q rows) ≡ false
lacks-filter p q [] e = refl
lacks-filter p q (k ∷ rows) e =
    (let parts = neither (p k) (list_any p rows) e in
    elim (q k) as (λ b. list_any p (if b then k ∷ filter q rows else filter q rows) ≡ false) [ true ↦ rw parts.0 (lacks-filter p q rows parts.1) | false ↦ lacks-filter p q rows parts.1 ])

-- rows differ without one
pub differ-ended : (m : ℕ) (rows : List OpenMount) → differ rows ≡ true → differ (ended m rows) ≡ true
differ-ended m [] apart = refl
differ-ended m (k ∷ rows) apart =
    (let old = both (not (has_mount k.number rows)) (differ rows) apart in
    let gone : has_mount k.number (ended m rows) ≡ false = lacks-filter (λ (x : OpenMount). x.number == k.number) (λ (r : OpenMount). not (r.number == m)) rows (was_false (has_mount k.number rows) old.0) in
    elim (not (k.number == m)) as (λ b. differ (if b then k ∷ ended m rows else ended m rows) ≡ true) [ true ↦ rw gone (differ-ended m rows old.1) | false ↦ differ-ended m rows old.1 ])

-- where the mount has no row, no items are put
claimed-lacks : (m : ℕ) (items : Listed Item) (rows : List OpenMount) → has_mount m rows ≡ false → claimed m items rows ≡ rows
claimed-lacks m items [] none = refl
claimed-lacks m items (k ∷ rows) none =
    (let parts = neither (k.number == m) (has_mount m rows) none in
    rw parts.0 (ap (λ (rs : List OpenMount). k ∷ rs) (claimed-lacks m items rows parts.1)))

has_at : (d : OpenMount) (rows : List OpenMount) (at : ℕ) → at < length rows → has_mount (get_or rows at d).number rows ≡ true
has_at d [] at low = absurd (omega arith)
has_at d (k ∷ rows) zero low = (let hit : (k.number == k.number) ≡ true = eq-eqb k.number k.number refl in rw hit refl)
has_at d (k ∷ rows) (suc at) low = rw (has_at d rows at (omega arith)) (by (k.number == (get_or rows at d).number))
  where
    by : (b : Bool) → (b || true) ≡ true
    by true = refl
    by false = refl

put : (m : ℕ) (items : Listed Item) (d : OpenMount) (rows : List OpenMount) (at : ℕ) → differ rows ≡ true → at < length rows → (get_or rows at d).number ≡ m
    → claimed m items rows ≡ set rows at (record (get_or rows at d) { last = Some items })
put m items d [] at apart low is = absurd (omega arith)
put m items d (k ∷ rows) zero apart low is =
    (let old = both (not (has_mount k.number rows)) (differ rows) apart in
    let hit : (k.number == m) ≡ true = eq-eqb k.number m is in
    let none : has_mount m rows ≡ false = subst (λ (n : ℕ). has_mount n rows ≡ false) is (was_false (has_mount k.number rows) old.0) in
    rw hit (ap (λ (rs : List OpenMount). record k { last = Some items } ∷ rs) (claimed-lacks m items rows none)))
put m items d (k ∷ rows) (suc at) apart low is =
    (let old = both (not (has_mount k.number rows)) (differ rows) apart in
    let miss : (k.number == m) ≡ false = other (k.number == m) refl (was_false (has_mount k.number rows) old.0) (subst (λ (n : ℕ). has_mount n rows ≡ true) is (has_at d rows at (omega arith))) in
    rw miss (ap (λ (rs : List OpenMount). k ∷ rs) (put m items d rows at old.1 (omega arith) is)))
  where
    other : (b : Bool) → (k.number == m) ≡ b → has_mount k.number rows ≡ false → has_mount m rows ≡ true → b ≡ false
    other true hit none there = (let found : has_mount k.number rows ≡ true = subst (λ (n : ℕ). has_mount n rows ≡ true) (sym (eqb-true k.number m hit)) there in absurd (cc))
    other false hit none there = refl

any_below : (p : OpenMount → Bool) (rows : List OpenMount) → list_any p rows ≡ true → position_or_len p rows < length rows
any_below p [] e = absurd (cc)
any_below p (r ∷ rows) e = by (p r) e (any_below p rows)
  where
    by : (b : Bool) → (b || list_any p rows) ≡ true → (list_any p rows ≡ true → position_or_len p rows < length rows) → (if not b then 1 + position_or_len p rows else 0) < length (r ∷ rows)
    by true e below = omega arith
    by false e below = (let low : position_or_len p rows < length rows = below e in omega arith)

at_place : (p : OpenMount → Bool) (d : OpenMount) (rows : List OpenMount) → position_or_len p rows < length rows → p (get_or rows (position_or_len p rows) d) ≡ true
at_place p d [] low = absurd (omega arith)
at_place p d (r ∷ rows) low = by (p r) refl low (at_place p d rows)
  where
    by : (b : Bool) → p r ≡ b → (if not b then 1 + position_or_len p rows else 0) < length (r ∷ rows) → (position_or_len p rows < length rows → p (get_or rows (position_or_len p rows) d) ≡ true)
        → p (get_or (r ∷ rows) (if not b then 1 + position_or_len p rows else 0) d) ≡ true
    by true is low more = is
    by false is low more = (let step : 1 + position_or_len p rows ≡ suc (position_or_len p rows) = omega arith in rw step (more (omega arith)))

-- the items of a Claim are put where the mount's row is
pub claimed-at : (m : ℕ) (items : Listed Item) (d : OpenMount) (rows : List OpenMount) (at : ℕ) → differ rows ≡ true → position (λ (r : OpenMount). r.number == m) rows ≡ Some at
    → claimed m items rows ≡ set rows at (record (get_or rows at d) { last = Some items })
claimed-at m items d rows at apart found =
    (let p : OpenMount → Bool = λ r. r.number == m in
    let u = unpacked (nat_lt (position_or_len p rows) (length rows)) (position_or_len p rows) at found in
    let low : position_or_len p rows < length rows = ltb-true _ _ u.0 in
    let here : (get_or rows (position_or_len p rows) d).number ≡ m = eqb-true _ m (at_place p d rows low) in
    subst (λ (n : ℕ). claimed m items rows ≡ set rows n (record (get_or rows n d) { last = Some items })) u.1 (put m items d rows (position_or_len p rows) apart low here))
  where
    unpacked : (b : Bool) (n at : ℕ) → ◌≡◌ {A = Option ℕ} (if b then Some n else None) (Some at) → (b ≡ true) × (n ≡ at)
    unpacked true n at e = (refl, cc)
    unpacked false n at e = absurd (cc)

-- nothing is put where the mount has no row
pub claimed-none : (m : ℕ) (items : Listed Item) (rows : List OpenMount) → position (λ (r : OpenMount). r.number == m) rows ≡ None → claimed m items rows ≡ rows
claimed-none m items rows none = claimed-lacks m items rows (by (has_mount m rows) refl)
  where
    none_is : (b : Bool) (n : ℕ) → ◌≡◌ {A = Option ℕ} (if b then Some n else None) None → b ≡ false
    none_is true n e = absurd (cc)
    none_is false n e = refl

    by : (b : Bool) → has_mount m rows ≡ b → has_mount m rows ≡ false
    by true e =
        (let p : OpenMount → Bool = λ r. r.number == m in
        let low : position_or_len p rows < length rows = any_below p rows e in
        let high : nat_lt (position_or_len p rows) (length rows) ≡ false = none_is (nat_lt (position_or_len p rows) (length rows)) (position_or_len p rows) none in
        absurd (grind (arith, nat_tests)))
    by false e = e

-- items that are put change no number
pub differ-claimed : (m : ℕ) (items : Listed Item) (rows : List OpenMount) → differ (claimed m items rows) ≡ differ rows
differ-claimed m items [] = refl
differ-claimed m items (k ∷ rows) = rw (same rows) (ap (λ (b : Bool). not (has_mount k.number rows) && b) (differ-claimed m items rows))
  where
    same : (rows : List OpenMount) → has_mount k.number (claimed m items rows) ≡ has_mount k.number rows
    same [] = refl
    same (r ∷ rows) = ap (λ (b : Bool). (r.number == k.number) || b) (same rows)

blank : OpenMount
blank = record { number = 0; drive = 0; direction = direction.Archive; tape = 0; key = 0; last = None }

-- rows into which a Claim's items were put, as the call says
pub claim-puts : (m : ℕ) (items : Listed Item) (old new : List OpenMount) (at : ℕ) → differ old ≡ true → position (λ (r : OpenMount). r.number == m) old ≡ Some at
    → ((d : OpenMount) → new ≡ set old at (record (get_or old at d) { last = Some items })) → new ≡ claimed m items old
claim-puts m items old new at apart found each = each blank ∙ sym (claimed-at m items blank old at apart found)

-- and they differ
pub claim-differ : (m : ℕ) (items : Listed Item) (old new : List OpenMount) (at : ℕ) → differ old ≡ true → position (λ (r : OpenMount). r.number == m) old ≡ Some at
    → ((d : OpenMount) → new ≡ set old at (record (get_or old at d) { last = Some items })) → differ new ≡ true
claim-differ m items old new at apart found each = ap differ (claim-puts m items old new at apart found each) ∙ differ-claimed m items old ∙ apart
