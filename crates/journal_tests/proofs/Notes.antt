-- What isn't whole is no record.
use Rattle.std.proofs.Common.{◌≡◌, ℕ, ◌+◌, ◌^◌, ◌<◌, ◌≤◌, List, ◌++◌, length, take, drop, refl, sym, ◌∙◌, ap, arith, append_assoc, length-append, length-take, take-append-drop}
use Rattle.std.specs.Int.{w64, to_be_bytes, from_be_bytes}
use Rattle.std.proofs.lemmas.List.{take_at, drop_at}
use Rattle.std.proofs.lemmas.Nat.{from_be_bytes-to_be_bytes_8}
use Rattle.cta_journal.specs.Log.{counted}
use Rattle.cta_journal.proofs.Records.{length-counted}

-- fewer bytes than a length has
pub too_short : (b rest bytes : List ℕ) → length bytes < 8 → bytes ≡ counted b ++ rest → ⊥
too_short b rest bytes short is = absurd (omega (arith, short, ap length is, length-counted b rest))

-- fewer bytes than the length says
pub cut_off : (b r bytes rest : List ℕ) (n : ℕ) → n < 2 ^ 64 → length b < 2 ^ 64 → bytes ≡ to_be_bytes w64 n ++ rest → length rest < n → bytes ≡ counted b ++ r → ⊥
cut_off b r bytes rest n low fits is short other =
    let here = to_be_bytes w64 n in
    let there = to_be_bytes w64 (length b) in
    let both : here ++ rest ≡ there ++ (b ++ r) = sym is ∙ other ∙ append_assoc there b r in
    let fronts : here ≡ there = sym (take_at here rest 8 refl) ∙ ap (λ (l : List ℕ). take 8 l) both ∙ take_at there (b ++ r) 8 refl in
    let backs : rest ≡ b ++ r = sym (drop_at here rest 8 refl) ∙ ap (λ (l : List ℕ). drop 8 l) both ∙ drop_at there (b ++ r) 8 refl in
    let same : n ≡ length b = sym (from_be_bytes-to_be_bytes_8 n low) ∙ ap (λ (l : List ℕ). from_be_bytes w64 l) fronts ∙ from_be_bytes-to_be_bytes_8 (length b) fits in
    absurd (omega (arith, short, same, ap length backs, length-append b r))

-- as many as it says
pub whole : (bytes rest b : List ℕ) (n : ℕ) → bytes ≡ to_be_bytes w64 n ++ rest → n ≤ length rest → b ≡ take n rest → (length b ≡ n) × (bytes ≡ counted b ++ drop n rest)
whole bytes rest b n is le body =
    let long : length b ≡ n = omega (arith, le, ap length body, length-take n rest) in
    let split : rest ≡ b ++ drop n rest = sym (take-append-drop n rest) ∙ ap (λ (l : List ℕ). l ++ drop n rest) (sym body) in (
      long,
      is ∙ ap (λ (m : ℕ). to_be_bytes w64 m ++ rest) (sym long) ∙ ap (λ (l : List ℕ). to_be_bytes w64 (length b) ++ l) split ∙ sym (append_assoc (to_be_bytes w64 (length b)) b (drop n rest)),
    )
