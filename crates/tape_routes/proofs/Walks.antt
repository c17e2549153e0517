-- A walk over the rows of a router finds the route whose pattern a path fits, where each parameter goes up to the next slash or to the end.
use Rattle.std.proofs.Common.{◌≡◌, ◌⊎◌, inl, inr, ℕ, zero, suc, ◌-◌, ◌<◌, Bool, true, false, cond, not, ◌&&◌, ◌||◌, ◌==◌, ltb, List, [], ◌∷◌, length, drop, Option, Some, None, refl, sym, ap, ◌∙◌, arith, true≢false, nat_eq}
use Rattle.std.proofs.lemmas.Bool.Decides.{nat_tests}
use Rattle.std.specs.List.{AllByRecursion}
use Rattle.std.specs.Cmp.Lexicographic.{pointwise}
use Rattle.matchit.specs.Rows.{RowsOf, param_token, catch_all_token}
use Rattle.matchit.specs.Seek.{slash, segment, has_slash, cuts, better, own, step, or_else, longest_from, longest_suffix, with_suffix, same_text, param_step, seek}

-- the path from its first slash on
abbrev pub from_slash : List ℕ → List ℕ
from_slash [] = []
from_slash (b ∷ p) = cond (b == slash) (b ∷ p) (from_slash p)

-- a path fits a pattern: byte for byte, a parameter takes a name, and a catch-all takes the rest
abbrev pub fits : List ℕ → List ℕ → Bool
fits [] [] = true
fits [] (b ∷ p) = false
fits (x ∷ t) [] = false
fits (x ∷ t) (b ∷ p) =
    cond (x == param_token) (not (b == slash) && fits t (from_slash p))
    (cond (x == catch_all_token) (fits t []) (x == b && fits t p))

-- behind a parameter comes nothing, or a slash
abbrev pub ends_name : List ℕ → Bool
ends_name [] = true
ends_name (x ∷ t) = x == slash

-- the pattern goes on with a slash
abbrev pub is_slashed : List ℕ → Bool
is_slashed [] = false
is_slashed (x ∷ t) = x == slash

-- each parameter is a whole segment, up to its end
abbrev pub is_good : List ℕ → Bool
is_good [] = true
is_good (x ∷ t) = (not (x == param_token) || ends_name t) && is_good t

module _ {K : Type 0} where
  -- each row's pattern passes
  abbrev pub AllRows : (List ℕ → Bool) → RowsOf K → Type 0
  AllRows f [] = Unit {0}
  AllRows f ((t, k) ∷ rs) = (f t ≡ true) × AllRows f rs

  -- no row's pattern passes
  abbrev pub NoRow : (List ℕ → Bool) → RowsOf K → Type 0
  NoRow f [] = Unit {0}
  NoRow f ((t, k) ∷ rs) = (f t ≡ false) × NoRow f rs

  -- a row with this key has a pattern that passes
  abbrev pub HasRow : (List ℕ → Bool) → RowsOf K → K → Type 0
  HasRow f [] q = ⊥
  HasRow f ((t, k) ∷ rs) q = ((f t ≡ true) × (k ≡ q)) ⊎ HasRow f rs q

  -- the key of a row whose pattern passes, if there is one
  abbrev pub Finds : (List ℕ → Bool) → RowsOf K → Option K → Type 0
  Finds f rs None = NoRow f rs
  Finds f rs (Some q) = HasRow f rs q

  -- a row's pattern goes on with a slash
  abbrev pub any_slashed : RowsOf K → Bool
  any_slashed [] = false
  any_slashed ((t, k) ∷ rs) = is_slashed t || any_slashed rs

pub both : (a c : Bool) → (a && c) ≡ true → (a ≡ true) × (c ≡ true)
both true c h = (refl, h)
both false c h = absurd (true≢false (sym h))

name_ends : (x : ℕ) (t : List ℕ) → (x == param_token) ≡ true → is_good (x ∷ t) ≡ true → ends_name t ≡ true
name_ends x t e h = rw e at ((both (not (x == param_token) || ends_name t) (is_good t) h).0)

-- a path that fits by a byte, by a name or by the rest
fits_byte : (b : ℕ) (p t : List ℕ) → b < 256 → fits t p ≡ true → fits (b ∷ t) (b ∷ p) ≡ true
fits_byte b p t low h =
    let name : (b == param_token) ≡ false = grind (arith, nat_tests) in
    let rest : (b == catch_all_token) ≡ false = grind (arith, nat_tests) in
    let same : (b == b) ≡ true = grind (arith, nat_tests) in
    rw (name, rest, same) h

-- a path that fits by neither a byte nor a name nor the rest
fits_none : (b x : ℕ) (p t : List ℕ) → ((x == b) ≡ true → fits t p ≡ false) → ((x == param_token) ≡ true → (not (b == slash) && fits t (from_slash p)) ≡ false) → ((x == catch_all_token) ≡ true → fits t [] ≡ false) → fits (x ∷ t) (b ∷ p) ≡ false
fits_none b x p t byte name rest = by (x == param_token) (x == catch_all_token) (x == b) byte name rest
  where
    by : (u v w : Bool) → (w ≡ true → fits t p ≡ false) → (u ≡ true → (not (b == slash) && fits t (from_slash p)) ≡ false) → (v ≡ true → fits t [] ≡ false) → cond u (not (b == slash) && fits t (from_slash p)) (cond v (fits t []) (w && fits t p)) ≡ false
    by true v w h1 h2 h3 = h2 refl
    by false true w h1 h2 h3 = h3 refl
    by false false true h1 h2 h3 = h1 refl
    by false false false h1 h2 h3 = refl

module _ {K : Type 0} where
  -- what passes by another test that agrees
  no_row_too : (f g : List ℕ → Bool) (rs : RowsOf K) → ((t : List ℕ) → f t ≡ g t) → NoRow f rs → NoRow g rs
  no_row_too f g [] same h = tt
  no_row_too f g ((t, k) ∷ rs) same h = (sym (same t) ∙ h.0, no_row_too f g rs same h.1)

  has_row_too : (f g : List ℕ → Bool) (rs : RowsOf K) (q : K) → ((t : List ℕ) → f t ≡ g t) → HasRow f rs q → HasRow g rs q
  has_row_too f g [] q same h = absurd h
  has_row_too f g ((t, k) ∷ rs) q same (inl h) = inl (sym (same t) ∙ h.0, h.1)
  has_row_too f g ((t, k) ∷ rs) q same (inr h) = inr (has_row_too f g rs q same h)

  finds_too : (f g : List ℕ → Bool) (rs : RowsOf K) (r : Option K) → ((t : List ℕ) → f t ≡ g t) → Finds f rs r → Finds g rs r
  finds_too f g rs None same h = no_row_too f g rs same h
  finds_too f g rs (Some q) same h = has_row_too f g rs q same h

  -- the rows behind a token
  good_step : (b : ℕ) (rs : RowsOf K) → AllRows is_good rs → AllRows is_good (step b rs)
  good_step b [] h = tt
  good_step b (([], k) ∷ rs) h = good_step b rs h.1
  good_step b ((x ∷ t, k) ∷ rs) h =
      elim (x == b) as (λ v. AllRows is_good (cond v ((t, k) ∷ step b rs) (step b rs))) [
        | true ↦ ((both (not (x == param_token) || ends_name t) (is_good t) h.0).1, good_step b rs h.1)
        | false ↦ good_step b rs h.1
      ]

  ends_step : (rs : RowsOf K) → AllRows is_good rs → AllRows ends_name (step param_token rs)
  ends_step [] h = tt
  ends_step (([], k) ∷ rs) h = ends_step rs h.1
  ends_step ((x ∷ t, k) ∷ rs) h = by (x == param_token) refl (ends_step rs h.1)
    where
      by : (v : Bool) → (x == param_token) ≡ v → AllRows ends_name (step param_token rs) → AllRows ends_name (cond v ((t, k) ∷ step param_token rs) (step param_token rs))
      by true e later = (name_ends x t e h.0, later)
      by false e later = later

  -- a row behind a token stands for a row with it
  has_row_with : (b : ℕ) (f g : List ℕ → Bool) (rs : RowsOf K) (q : K) → ((t : List ℕ) → f t ≡ true → g (b ∷ t) ≡ true) → HasRow f (step b rs) q → HasRow g rs q
  has_row_with b f g [] q goes h = absurd h
  has_row_with b f g (([], k) ∷ rs) q goes h = inr (has_row_with b f g rs q goes h)
  has_row_with b f g ((x ∷ t, k) ∷ rs) q goes h = by (x == b) refl (has_row_with b f g rs q goes) h
    where
      here : x ≡ b → (HasRow f (step b rs) q → HasRow g rs q) → HasRow f ((t, k) ∷ step b rs) q → HasRow g ((x ∷ t, k) ∷ rs) q
      here same later (inl w) = inl (rw same (goes t w.0), w.1)
      here same later (inr w) = inr (later w)

      by : (v : Bool) → (x == b) ≡ v → (HasRow f (step b rs) q → HasRow g rs q) → HasRow f (cond v ((t, k) ∷ step b rs) (step b rs)) q → HasRow g ((x ∷ t, k) ∷ rs) q
      by true e later w = here (grind (arith, nat_tests)) later w
      by false e later w = inr (later w)

  -- no row behind a token passes: so none with it
  no_row_behind : (b : ℕ) (f : List ℕ → Bool) (x : ℕ) (t : List ℕ) (k : K) (rs : RowsOf K) → NoRow f (step b ((x ∷ t, k) ∷ rs)) → ((x == b) ≡ true → f t ≡ false) × NoRow f (step b rs)
  no_row_behind b f x t k rs h = by (x == b) refl h
    where
      by : (v : Bool) → (x == b) ≡ v → NoRow f (cond v ((t, k) ∷ step b rs) (step b rs)) → (v ≡ true → f t ≡ false) × NoRow f (step b rs)
      by true e w = (λ _. w.0, w.1)
      by false e w = (λ no. absurd (true≢false (sym no)), w)

  -- the row that ends here
  own_finds : (rs : RowsOf K) → Finds (λ t. fits t []) rs (own rs)
  own_finds [] = tt
  own_finds (([], k) ∷ rs) = inl (refl, refl)
  own_finds ((x ∷ t, k) ∷ rs) = by (own rs) (own_finds rs)
    where
      by : (r : Option K) → Finds (λ t. fits t []) rs r → Finds (λ t. fits t []) ((x ∷ t, k) ∷ rs) r
      by None h = (refl, h)
      by (Some q) h = inr h

  -- no row fits
  no_row_fits : (b : ℕ) (p : List ℕ) (rs : RowsOf K) → NoRow (λ t. fits t p) (step b rs) → NoRow (λ t. not (b == slash) && fits t (from_slash p)) (step param_token rs) → NoRow (λ t. fits t []) (step catch_all_token rs) → NoRow (λ t. fits t (b ∷ p)) rs
  no_row_fits b p [] h1 h2 h3 = tt
  no_row_fits b p (([], k) ∷ rs) h1 h2 h3 = (refl, no_row_fits b p rs h1 h2 h3)
  no_row_fits b p ((x ∷ t, k) ∷ rs) h1 h2 h3 =
      let a = no_row_behind b (λ (u : List ℕ). fits u p) x t k rs h1 in
      let c = no_row_behind param_token (λ (u : List ℕ). not (b == slash) && fits u (from_slash p)) x t k rs h2 in
      let d = no_row_behind catch_all_token (λ (u : List ℕ). fits u []) x t k rs h3 in
      (fits_none b x p t a.0 c.0 d.0, no_row_fits b p rs a.1 c.1 d.1)

  -- the three ways on
  three_ways : (b : ℕ) (p : List ℕ) (rs : RowsOf K) (l n c : Option K) → b < 256 → Finds (λ t. fits t p) (step b rs) l → Finds (λ t. not (b == slash) && fits t (from_slash p)) (step param_token rs) n → Finds (λ t. fits t []) (step catch_all_token rs) c → Finds (λ t. fits t (b ∷ p)) rs (or_else l (or_else n c))
  three_ways b p rs (Some q) n c low h1 h2 h3 = has_row_with b (λ t. fits t p) (λ t. fits t (b ∷ p)) rs q (λ t h. fits_byte b p t low h) h1
  three_ways b p rs None (Some q) c low h1 h2 h3 = has_row_with param_token (λ t. not (b == slash) && fits t (from_slash p)) (λ t. fits t (b ∷ p)) rs q (λ t h. h) h2
  three_ways b p rs None None (Some q) low h1 h2 h3 = has_row_with catch_all_token (λ t. fits t []) (λ t. fits t (b ∷ p)) rs q (λ t h. h) h3
  three_ways b p rs None None None low h1 h2 h3 = no_row_fits b p rs h1 h2 h3

-- what stands behind a parameter
slash_or_end : (t : List ℕ) → ends_name t ≡ true → ((segment t ≡ slash ∷ []) × (is_slashed t ≡ true)) ⊎ (t ≡ [])
slash_or_end [] h = inr refl
slash_or_end (x ∷ t) h =
    let same : x ≡ slash = grind (arith, nat_tests) in
    inl (rw h (ap (λ (y : ℕ). y ∷ []) same), h)

-- the tests of a path
ends_slashed : (c : ℕ) (p : List ℕ) → (c == slash) ≡ false → pointwise nat_eq (slash ∷ []) (drop (length (c ∷ segment p) - 1) (c ∷ segment p)) ≡ has_slash p
ends_slashed c [] e =
    let other : (slash == c) ≡ false = grind (arith, nat_tests) in
    rw other refl
ends_slashed c (d ∷ p) e = by (d == slash) refl (ends_slashed d p)
  where
    by : (v : Bool) → (d == slash) ≡ v → ((d == slash) ≡ false → pointwise nat_eq (slash ∷ []) (drop (length (d ∷ segment p) - 1) (d ∷ segment p)) ≡ has_slash p) → pointwise nat_eq (slash ∷ []) (drop (length (c ∷ cond v (d ∷ []) (d ∷ segment p)) - 1) (c ∷ cond v (d ∷ []) (d ∷ segment p))) ≡ cond v true (has_slash p)
    by true f later =
        let same : (slash == d) ≡ true = grind (arith, nat_tests) in
        rw same refl
    by false f later =
        let one : length (c ∷ d ∷ segment p) - 1 ≡ suc (length (d ∷ segment p) - 1) = omega arith in
        rw one (later f)

cuts_slash : (b : ℕ) (p : List ℕ) → (b == slash) ≡ false → cuts (b ∷ segment p) (slash ∷ []) ≡ has_slash p
cuts_slash b [] e = refl
cuts_slash b (d ∷ p) e = by (ltb 1 (length (b ∷ segment (d ∷ p)))) (long (d == slash)) (ends_slashed b (d ∷ p) e)
  where
    long : (v : Bool) → ltb 1 (length (b ∷ cond v (d ∷ []) (d ∷ segment p))) ≡ true
    long true = refl
    long false = grind (arith, nat_tests)

    by : (v : Bool) → v ≡ true → pointwise nat_eq (slash ∷ []) (drop (length (b ∷ segment (d ∷ p)) - 1) (b ∷ segment (d ∷ p))) ≡ has_slash (d ∷ p) → (v && pointwise nat_eq (slash ∷ []) (drop (length (b ∷ segment (d ∷ p)) - 1) (b ∷ segment (d ∷ p)))) ≡ has_slash (d ∷ p)
    by true e h = h
    by false e h = absurd (true≢false (sym e))

segment_some : (p : List ℕ) → has_slash p ≡ true → 0 < length (segment p)
segment_some [] h = absurd (true≢false (sym h))
segment_some (d ∷ p) h = by (d == slash)
  where
    by : (v : Bool) → 0 < length (cond v (d ∷ []) (d ∷ segment p))
    by true = omega arith
    by false = omega arith

drop_name : (p : List ℕ) → has_slash p ≡ true → drop (length (segment p) - 1) p ≡ from_slash p
drop_name [] h = absurd (true≢false (sym h))
drop_name (d ∷ p) h = by (d == slash) h (drop_name p)
  where
    by : (v : Bool) → cond v true (has_slash p) ≡ true → (has_slash p ≡ true → drop (length (segment p) - 1) p ≡ from_slash p) → drop (length (cond v (d ∷ []) (d ∷ segment p)) - 1) (d ∷ p) ≡ cond v (d ∷ p) (from_slash p)
    by true e later = refl
    by false e later =
        let some : 0 < length (segment p) = segment_some p e in
        let one : length (d ∷ segment p) - 1 ≡ suc (length (segment p) - 1) = omega arith in
        rw one (later e)

from_slash_some : (p : List ℕ) → has_slash p ≡ true → fits [] (from_slash p) ≡ false
from_slash_some [] h = absurd (true≢false (sym h))
from_slash_some (d ∷ p) h = by (d == slash) h (from_slash_some p)
  where
    by : (v : Bool) → cond v true (has_slash p) ≡ true → (has_slash p ≡ true → fits [] (from_slash p) ≡ false) → fits [] (cond v (d ∷ p) (from_slash p)) ≡ false
    by true e later = refl
    by false e later = later e

from_slash_none : (p : List ℕ) → has_slash p ≡ false → from_slash p ≡ []
from_slash_none [] h = refl
from_slash_none (d ∷ p) h = by (d == slash) h (from_slash_none p)
  where
    by : (v : Bool) → cond v true (has_slash p) ≡ false → (has_slash p ≡ false → from_slash p ≡ []) → cond v (d ∷ p) (from_slash p) ≡ []
    by true e later = absurd (true≢false e)
    by false e later = later e

drop_all : (p : List ℕ) → drop (length p) p ≡ []
drop_all [] = refl
drop_all (d ∷ p) = drop_all p

module _ {K : Type 0} where
  -- a slash found stays the longest suffix
  longest_kept : (seg : List ℕ) (rs : RowsOf K) → AllRows ends_name rs → longest_from seg (slash ∷ []) rs ≡ slash ∷ []
  longest_kept seg [] h = refl
  longest_kept seg ((t, k) ∷ rs) h = by (slash_or_end t h.0) (longest_kept seg rs h.1)
    where
      by : ((segment t ≡ slash ∷ []) × (is_slashed t ≡ true)) ⊎ (t ≡ []) → longest_from seg (slash ∷ []) rs ≡ slash ∷ [] → longest_from seg (better seg (slash ∷ []) (segment t)) rs ≡ slash ∷ []
      by (inl e) later = rw e.0 later
      by (inr e) later = rw e later

  -- the longest suffix is a slash, or none
  longest_is : (seg : List ℕ) (rs : RowsOf K) → AllRows ends_name rs → longest_suffix seg rs ≡ cond (cuts seg (slash ∷ []) && any_slashed rs) (slash ∷ []) []
  longest_is seg [] h = by (cuts seg (slash ∷ []))
    where
      by : (c : Bool) → [] ≡ cond (c && false) (slash ∷ []) []
      by true = refl
      by false = refl
  longest_is seg ((t, k) ∷ rs) h = by (slash_or_end t h.0) (longest_is seg rs h.1) (longest_kept seg rs h.1)
    where
      on : (c : Bool) → longest_from seg [] rs ≡ cond (c && any_slashed rs) (slash ∷ []) [] → longest_from seg (slash ∷ []) rs ≡ slash ∷ [] → longest_from seg (cond c (slash ∷ []) []) rs ≡ cond (c && true) (slash ∷ []) []
      on true later kept = kept
      on false later kept = later

      by : ((segment t ≡ slash ∷ []) × (is_slashed t ≡ true)) ⊎ (t ≡ []) → longest_from seg [] rs ≡ cond (cuts seg (slash ∷ []) && any_slashed rs) (slash ∷ []) [] → longest_from seg (slash ∷ []) rs ≡ slash ∷ [] → longest_from seg (better seg [] (segment t)) rs ≡ cond (cuts seg (slash ∷ []) && (is_slashed t || any_slashed rs)) (slash ∷ []) []
      by (inl e) later kept = rw (e.0, e.1) (on (cuts seg (slash ∷ [])) later kept)
      by (inr e) later kept = rw e later

  -- the rows that go on with a slash
  no_suffix : (f : List ℕ → Bool) (rs : RowsOf K) → f [] ≡ false → AllRows ends_name rs → NoRow f (with_suffix (slash ∷ []) rs) → NoRow f rs
  no_suffix f [] out h w = tt
  no_suffix f ((t, k) ∷ rs) out h w = by (slash_or_end t h.0) (no_suffix f rs out h.1) w
    where
      by : ((segment t ≡ slash ∷ []) × (is_slashed t ≡ true)) ⊎ (t ≡ []) → (NoRow f (with_suffix (slash ∷ []) rs) → NoRow f rs) → NoRow f (cond (same_text (segment t) (slash ∷ [])) ((t, k) ∷ with_suffix (slash ∷ []) rs) (with_suffix (slash ∷ []) rs)) → (f t ≡ false) × NoRow f rs
      by (inl e) later w = let z = rw e.0 at w in (z.0, later z.1)
      by (inr e) later w = (rw e out, later (rw e at w))

  has_suffix : (s : List ℕ) (f : List ℕ → Bool) (rs : RowsOf K) (q : K) → HasRow f (with_suffix s rs) q → HasRow f rs q
  has_suffix s f [] q h = absurd h
  has_suffix s f ((t, k) ∷ rs) q h = by (same_text (segment t) s) (has_suffix s f rs q) h
    where
      by : (v : Bool) → (HasRow f (with_suffix s rs) q → HasRow f rs q) → HasRow f (cond v ((t, k) ∷ with_suffix s rs) (with_suffix s rs)) q → HasRow f ((t, k) ∷ rs) q
      by true later (inl w) = inl w
      by true later (inr w) = inr (later w)
      by false later w = inr (later w)

  suffix_finds : (f : List ℕ → Bool) (rs : RowsOf K) (r : Option K) → f [] ≡ false → AllRows ends_name rs → Finds f (with_suffix (slash ∷ []) rs) r → Finds f rs r
  suffix_finds f rs None out h w = no_suffix f rs out h w
  suffix_finds f rs (Some q) out h w = has_suffix (slash ∷ []) f rs q w

  no_slashed : (f : List ℕ → Bool) (rs : RowsOf K) → f [] ≡ false → AllRows ends_name rs → any_slashed rs ≡ false → NoRow f rs
  no_slashed f [] out h e = tt
  no_slashed f ((t, k) ∷ rs) out h e = by (slash_or_end t h.0) e (no_slashed f rs out h.1)
    where
      by : ((segment t ≡ slash ∷ []) × (is_slashed t ≡ true)) ⊎ (t ≡ []) → (is_slashed t || any_slashed rs) ≡ false → (any_slashed rs ≡ false → NoRow f rs) → (f t ≡ false) × NoRow f rs
      by (inl e) none later = absurd (true≢false (rw e.1 at none))
      by (inr e) none later = (rw e out, later (rw e at none))

  good_suffix : (s : List ℕ) (rs : RowsOf K) → AllRows is_good rs → AllRows is_good (with_suffix s rs)
  good_suffix s [] h = tt
  good_suffix s ((t, k) ∷ rs) h =
      elim (same_text (segment t) s) as (λ v. AllRows is_good (cond v ((t, k) ∷ with_suffix s rs) (with_suffix s rs))) [
        | true ↦ (h.0, good_suffix s rs h.1)
        | false ↦ good_suffix s rs h.1
      ]

  good_param : (path : List ℕ) (rs : RowsOf K) → AllRows is_good rs → AllRows is_good ((param_step rs path).1)
  unfolding param_step
  good_param path rs h = by (ltb 0 (length (longest_suffix (segment path) rs))) (has_slash path) (good_suffix (longest_suffix (segment path) rs) rs h)
    where
      by : (u v : Bool) → AllRows is_good (with_suffix (longest_suffix (segment path) rs) rs) → AllRows is_good ((cond {A = ℕ × RowsOf K} u (length (segment path) - length (longest_suffix (segment path) rs), with_suffix (longest_suffix (segment path) rs) rs) (cond {A = ℕ × RowsOf K} v (0, []) (length path, rs))).1)
      by true v w = w
      by false true w = tt
      by false false w = h

  -- what a parameter takes
  param_is : (rs : RowsOf K) (path : List ℕ) → AllRows ends_name rs → param_step rs path ≡ cond {A = ℕ × RowsOf K} (cuts (segment path) (slash ∷ []) && any_slashed rs) (length (segment path) - 1, with_suffix (slash ∷ []) rs) (cond {A = ℕ × RowsOf K} (has_slash path) (0, []) (length path, rs))
  unfolding param_step
  param_is rs path h = rw (longest_is (segment path) rs h) (by (cuts (segment path) (slash ∷ []) && any_slashed rs))
    where
      by : (c : Bool) → cond {A = ℕ × RowsOf K} (ltb 0 (length (cond c (slash ∷ []) []))) (length (segment path) - length (cond c (slash ∷ []) []), with_suffix (cond c (slash ∷ []) []) rs) (cond {A = ℕ × RowsOf K} (has_slash path) (0, []) (length path, rs)) ≡ cond {A = ℕ × RowsOf K} c (length (segment path) - 1, with_suffix (slash ∷ []) rs) (cond {A = ℕ × RowsOf K} (has_slash path) (0, []) (length path, rs))
      by true = refl
      by false = refl

  -- a walk on from nothing finds nothing
  from_nothing : (f g : List ℕ → Bool) (rs : RowsOf K) (r : Option K) → NoRow g rs → Finds f [] r → Finds g rs r
  from_nothing f g rs None none w = none
  from_nothing f g rs (Some q) none w = absurd w

  all_no : (f : List ℕ → Bool) (rs : RowsOf K) → ((t : List ℕ) → f t ≡ false) → NoRow f rs
  all_no f [] none = tt
  all_no f ((t, k) ∷ rs) none = (none t, all_no f rs none)

  -- the walk on behind a name, by whether the path has a slash and a row goes on with one
  behind_some_name : (b : ℕ) (p : List ℕ) (rs : RowsOf K) (r : Option K) → AllRows ends_name rs → (s a : Bool) → has_slash p ≡ s → any_slashed rs ≡ a → Finds (λ t. fits t (drop ((cond {A = ℕ × RowsOf K} (s && a) (length (b ∷ segment p) - 1, with_suffix (slash ∷ []) rs) (cond {A = ℕ × RowsOf K} s (0, []) (length (b ∷ p), rs))).0 - 1) p)) ((cond {A = ℕ × RowsOf K} (s && a) (length (b ∷ segment p) - 1, with_suffix (slash ∷ []) rs) (cond {A = ℕ × RowsOf K} s (0, []) (length (b ∷ p), rs))).1) r → Finds (λ t. fits t (from_slash p)) rs r
  behind_some_name b p rs r h true true f g w =
      let one : length (b ∷ segment p) - 1 - 1 ≡ length (segment p) - 1 = omega arith in
      suffix_finds (λ t. fits t (from_slash p)) rs r (from_slash_some p f) h
      (finds_too (λ t. fits t (drop (length (b ∷ segment p) - 1 - 1) p)) (λ t. fits t (from_slash p)) (with_suffix (slash ∷ []) rs) r (λ t. rw one (ap (λ (q : List ℕ). fits t q) (drop_name p f))) w)
  behind_some_name b p rs r h true false f g w =
      from_nothing (λ t. fits t (drop (0 - 1) p)) (λ t. fits t (from_slash p)) rs r (no_slashed (λ t. fits t (from_slash p)) rs (from_slash_some p f) h g) w
  behind_some_name b p rs r h false a f g w =
      let one : length (b ∷ p) - 1 ≡ length p = omega arith in
      finds_too (λ t. fits t (drop (length (b ∷ p) - 1) p)) (λ t. fits t (from_slash p)) rs r (λ t. rw one (ap (λ (q : List ℕ). fits t q) (drop_all p ∙ sym (from_slash_none p f)))) w

  -- the walk on behind a parameter
  behind_name : (b : ℕ) (p : List ℕ) (rs : RowsOf K) (r : Option K) → AllRows ends_name rs → Finds (λ t. fits t (drop ((param_step rs (b ∷ p)).0 - 1) p)) ((param_step rs (b ∷ p)).1) r → Finds (λ t. not (b == slash) && fits t (from_slash p)) rs r
  behind_name b p rs r h w = by (b == slash) refl (rw (param_is rs (b ∷ p) h) at w)
    where
      -- what was taken, by whether the name begins with a slash
      Taken : Bool → Type 0
      Taken v = Finds (λ t. fits t (drop ((cond {A = ℕ × RowsOf K} (cuts (cond v (b ∷ []) (b ∷ segment p)) (slash ∷ []) && any_slashed rs) (length (cond v (b ∷ []) (b ∷ segment p)) - 1, with_suffix (slash ∷ []) rs) (cond {A = ℕ × RowsOf K} (cond v true (has_slash p)) (0, []) (length (b ∷ p), rs))).0 - 1) p)) ((cond {A = ℕ × RowsOf K} (cuts (cond v (b ∷ []) (b ∷ segment p)) (slash ∷ []) && any_slashed rs) (length (cond v (b ∷ []) (b ∷ segment p)) - 1, with_suffix (slash ∷ []) rs) (cond {A = ℕ × RowsOf K} (cond v true (has_slash p)) (0, []) (length (b ∷ p), rs))).1) r

      by : (v : Bool) → (b == slash) ≡ v → Taken v → Finds (λ t. not v && fits t (from_slash p)) rs r
      by true e w = from_nothing (λ t. fits t (drop (0 - 1) p)) (λ t. false) rs r (all_no (λ t. false) rs (λ t. refl)) w
      by false e w = behind_some_name b p rs r h (has_slash p) (any_slashed rs) refl refl (rw (cuts_slash b p e) at w)

  -- the walk finds the route
  pub exact : (skip : ℕ) (rs : RowsOf K) (p : List ℕ) → AllByRecursion (λ c. c < 256) p → AllRows is_good rs → Finds (λ t. fits t (drop skip p)) rs (seek skip rs p)
  unfolding seek
  exact zero rs [] bytes good = own_finds rs
  exact (suc n) rs [] bytes good = own_finds rs
  exact (suc n) rs (b ∷ p) bytes good = exact n rs p bytes.1 good
  exact zero rs (b ∷ p) bytes good =
      let names : AllRows ends_name (step param_token rs) = ends_step rs good in
      three_ways b p rs (seek 0 (step b rs) p) (seek ((param_step (step param_token rs) (b ∷ p)).0 - 1) ((param_step (step param_token rs) (b ∷ p)).1) p) (own (step catch_all_token rs)) bytes.0
      (exact 0 (step b rs) p bytes.1 (good_step b rs good))
      (behind_name b p (step param_token rs) (seek ((param_step (step param_token rs) (b ∷ p)).0 - 1) ((param_step (step param_token rs) (b ∷ p)).1) p) names
      (exact ((param_step (step param_token rs) (b ∷ p)).0 - 1) ((param_step (step param_token rs) (b ∷ p)).1) p bytes.1 (good_param (b ∷ p) (step param_token rs) (good_step param_token rs good))))
      (own_finds (step catch_all_token rs))
