-- What is UTF-8 is bytes.
use Rattle.std.proofs.Common.{◌≡◌, ℕ, ◌+◌, ◌/◌, ◌<◌, Bool, true, false, cond, List, [], ◌∷◌, ◌++◌, ltb, ◌≤◌, refl, subst, arith, inl, inr, ◌⊎◌}
use Rattle.std.proofs.lemmas.Bool.{ltb-true}
use Rattle.std.specs.List.{AllByRecursion}
use Rattle.std.specs.Str.{IsUtf8}
use lib.Utf8.{scalar, scalars, scalar_cases, next, encode, encodes}
use Rattle.tape_routes.proofs.Walks.{both}

abbrev are_bytes : List ℕ → Type 0
are_bytes bs = AllByRecursion (λ b. b < 256) bs

appended : (a b : List ℕ) → are_bytes a → are_bytes b → are_bytes (a ++ b)
appended [] b h w = w
appended (x ∷ a) b h w = (h.0, appended a b h.1 w)

later : (c : ℕ) → next c < 256
later c = omega arith

encoded : (c : ℕ) → scalar c ≡ true → are_bytes (encode c)
unfolding encode
encoded c h = by (ltb c 128) refl (ltb c 2048) refl (ltb c 65536) refl (scalar_cases c h)
  where
    by : (u : Bool) → ltb c 128 ≡ u → (v : Bool) → ltb c 2048 ≡ v → (w : Bool) → ltb c 65536 ≡ w → (c < 55296) ⊎ ((57344 ≤ c) × (c < 1114112)) → are_bytes (cond u (c ∷ []) (cond v ((192 + c / 64) ∷ next c ∷ []) (cond w ((224 + c / 4096) ∷ next (c / 64) ∷ next c ∷ []) ((240 + c / 262144) ∷ next (c / 4096) ∷ next (c / 64) ∷ next c ∷ []))))
    by true e v f w g s = let low : c < 128 = ltb-true c 128 e in (omega arith, tt)
    by false e true f w g s = let low : c < 2048 = ltb-true c 2048 f in (omega arith, (later c, tt))
    by false e false f true g s = let low : c < 65536 = ltb-true c 65536 g in (omega arith, (later (c / 64), (later c, tt)))
    by false e false f false g (inl s) = (omega arith, (later (c / 4096), (later (c / 64), (later c, tt))))
    by false e false f false g (inr s) = (omega arith, (later (c / 4096), (later (c / 64), (later c, tt))))

all_encoded : (cs : List ℕ) → scalars cs ≡ true → are_bytes (encodes cs)
all_encoded [] h = tt
all_encoded (c ∷ cs) h =
    let p = both (scalar c) (scalars cs) h in
    appended (encode c) (encodes cs) (encoded c p.0) (all_encoded cs p.1)

pub text_is_bytes : (bs : List ℕ) → IsUtf8 bs → AllByRecursion (λ b. b < 256) bs
text_is_bytes bs h = subst are_bytes h.1.1 (all_encoded h.0 h.1.0)
