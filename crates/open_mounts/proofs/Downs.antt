-- The drives that are down, as places of flags.
use Rattle.std.proofs.Common.{◌≡◌, ◌∙◌, ℕ, zero, suc, ◌+◌, ◌<◌, ◌⊎◌, inl, inr, List, [], ◌∷◌, ◌++◌, Bool, true, false, ◌||◌, refl, sym, ap, subst, arith, get_or}
use Rattle.std.specs.Prelude.{if◌then◌else◌, ◌==◌, replicate}
use Rattle.std.proofs.lemmas.Bool.{eqb-true, eq-eqb}
use Rattle.cta_model.specs.History.{has_number}
use Rattle.part_model.specs.Mounts.{set_down, set_up}
use Rattle.open_mounts.specs.Table.{places_from}

bool_cases : (t : Bool) → (t ≡ true) ⊎ (t ≡ false)
bool_cases true = inl refl
bool_cases false = inr refl

apart : (a b : ℕ) → (a ≡ b → ⊥) → (a == b) ≡ false
apart a b other = by (a == b) refl
  where
    by : (t : Bool) → (a == b) ≡ t → (a == b) ≡ false
    by true e = absurd (other (eqb-true a b e))
    by false e = e

turned : (a b : ℕ) → (a == b) ≡ false → (b == a) ≡ false
turned a b miss = apart b a (λ e. clash a b (sym e) miss)
  where
    clash : (a b : ℕ) → a ≡ b → (a == b) ≡ false → ⊥
    clash a b e miss = (let hit : (a == b) ≡ true = eq-eqb a b e in cc)

-- ---- calls on lists of numbers

has_last : (d k : ℕ) (ks : List ℕ) → has_number d (ks ++ k ∷ []) ≡ ((d == k) || has_number d ks)
has_last d k [] = refl
has_last d k (j ∷ ks) = ap (λ (b : Bool). (d == j) || b) (has_last d k ks) ∙ swap (d == j) (d == k) (has_number d ks)
  where
    swap : (a b c : Bool) → (a || (b || c)) ≡ (b || (a || c))
    swap true true c = refl
    swap true false c = refl
    swap false b c = refl

pub has_number-set_down : (d k : ℕ) (ks : List ℕ) → has_number d (set_down k ks) ≡ (if k == d then true else has_number d ks)
has_number-set_down d k ks =
    elim (bool_cases (has_number k ks)) [
      | inl there ↦ rw there (by (k == d) refl there)
      | inr new ↦ rw new (has_last d k ks ∙ flip (k == d) refl)
    ]
  where
    by : (t : Bool) → (k == d) ≡ t → has_number k ks ≡ true → has_number d ks ≡ (if t then true else has_number d ks)
    by true hit there = subst (λ (n : ℕ). has_number n ks ≡ true) (eqb-true k d hit) there
    by false miss there = refl

    flip : (t : Bool) → (k == d) ≡ t → ((d == k) || has_number d ks) ≡ (if t then true else has_number d ks)
    flip true hit = (let same : (d == k) ≡ true = eq-eqb d k (sym (eqb-true k d hit)) in rw same refl)
    flip false miss = (let other : (d == k) ≡ false = turned k d miss in rw other refl)

pub has_number-set_up : (d k : ℕ) (ks : List ℕ) → has_number d (set_up k ks) ≡ (if k == d then false else has_number d ks)
has_number-set_up d k [] = elim (k == d) as (λ b. false ≡ (if b then false else false)) [ true ↦ refl | false ↦ refl ]
has_number-set_up d k (j ∷ ks) =
    elim (bool_cases (j == k)) [
      | inl hit ↦ rw hit (has_number-set_up d k ks ∙ drop (k == d) refl (eqb-true j k hit))
      | inr miss ↦ rw miss (ap (λ (b : Bool). (d == j) || b) (has_number-set_up d k ks) ∙ keep (k == d) refl miss)
    ]
  where
    drop : (t : Bool) → (k == d) ≡ t → j ≡ k → (if t then false else has_number d ks) ≡ (if t then false else ((d == j) || has_number d ks))
    drop true is same = refl
    drop false is same = (let other : (d == j) ≡ false = subst (λ (n : ℕ). (d == n) ≡ false) (sym same) (turned k d is) in rw other refl)

    keep : (t : Bool) → (k == d) ≡ t → (j == k) ≡ false → ((d == j) || (if t then false else has_number d ks)) ≡ (if t then false else ((d == j) || has_number d ks))
    keep true is other = (let far : (d == j) ≡ false = subst (λ (n : ℕ). (n == j) ≡ false) (eqb-true k d is) (turned j k other) in rw far refl)
    keep false is other = refl

-- ---- places of flags

below : (d n : ℕ) (flags : List Bool) → d < n → has_number d (places_from n flags) ≡ false
below d n [] low = refl
below d n (true ∷ flags) low = (let miss : (d == n) ≡ false = apart d n (λ e. absurd (omega arith)) in rw miss (below d (suc n) flags (omega arith)))
below d n (false ∷ flags) low = below d (suc n) flags (omega arith)

at : (i n : ℕ) (flags : List Bool) → has_number (n + i) (places_from n flags) ≡ get_or flags i false
at i n [] = refl
at zero n (true ∷ flags) = (let hit : (n + 0 == n) ≡ true = eq-eqb (n + 0) n (omega arith) in rw hit refl)
at zero n (false ∷ flags) = below (n + 0) (suc n) flags (omega arith)
at (suc i) n (true ∷ flags) =
    (let miss : (n + suc i == n) ≡ false = apart (n + suc i) n (λ e. absurd (omega arith)) in
    let e : n + suc i ≡ suc n + i = omega arith in
    rw miss (subst (λ (k : ℕ). has_number k (places_from (suc n) flags) ≡ get_or flags i false) (sym e) (at i (suc n) flags)))
at (suc i) n (false ∷ flags) =
    (let e : n + suc i ≡ suc n + i = omega arith in subst (λ (k : ℕ). has_number k (places_from (suc n) flags) ≡ get_or flags i false) (sym e) (at i (suc n) flags))

-- a drive is down where its flag is set
pub has_number-places_from : (d : ℕ) (flags : List Bool) → has_number d (places_from 0 flags) ≡ get_or flags d false
has_number-places_from d flags = (let e : 0 + d ≡ d = omega arith in subst (λ (k : ℕ). has_number k (places_from 0 flags) ≡ get_or flags d false) e (at d 0 flags))

-- no flag is set
pub places_from-replicate : (n k : ℕ) → places_from k (replicate n false) ≡ []
places_from-replicate zero k = refl
places_from-replicate (suc n) k = places_from-replicate n (suc k)

-- setting a flag, as setting a drive down
pub raised : (drive : ℕ) (old new : List Bool) (downs : List ℕ) → places_from 0 old ≡ downs → ((k : ℕ) → get_or new k false ≡ (if drive == k then true else get_or old k false)) → (d : ℕ) → has_number d (places_from 0 new) ≡ has_number d (set_down drive downs)
raised drive old new downs is each d =
    has_number-places_from d new ∙ each d ∙ ap (λ (b : Bool). if drive == d then true else b) (sym (has_number-places_from d old) ∙ ap (has_number d) is) ∙ sym (has_number-set_down d drive downs)

-- unsetting a flag, as setting a drive up
pub lowered : (drive : ℕ) (old new : List Bool) (downs : List ℕ) → places_from 0 old ≡ downs → ((k : ℕ) → get_or new k false ≡ (if drive == k then false else get_or old k false)) → (d : ℕ) → has_number d (places_from 0 new) ≡ has_number d (set_up drive downs)
lowered drive old new downs is each d =
    has_number-places_from d new ∙ each d ∙ ap (λ (b : Bool). if drive == d then false else b) (sym (has_number-places_from d old) ∙ ap (has_number d) is) ∙ sym (has_number-set_up d drive downs)
