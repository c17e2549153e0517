-- The body of a record is determined by the bytes in front of which its length stands.
use Rattle.std.proofs.Common.{◌≡◌, ◌∙◌, ◌++◌, inl, inr, List, [], ℕ, length, ap, sym, arith, length-append}
use Rattle.std.proofs.lemmas.List.{append_assoc, append-nil}
use Rattle.record_fields.specs.Numbers.{long_number, IsLong}
use Rattle.record_fields.proofs.ToldNumbers.{told_long, long_told}
use Rattle.cta_records.specs.Records.{content, body_of}
use Rattle.cta_records.specs.Reads.{NoneBegins, NoneGoesOn, IsNoBody, IsShort}
use Rattle.cta_records.proofs.ToldRecords.{told_content, content_told}

one_body : (b r d more : List ℕ) → IsLong (length b) → IsLong (length d) → content b r ≡ content d more → b ≡ d
one_body b r d more long wide bytes =
    ap (λ p. p.0) (sym (content_told b r long) ∙ ap told_content bytes ∙ content_told d more wide)

same_number : (n : ℕ) (rest b r : List ℕ) → IsLong n → IsLong (length b) → long_number n rest ≡ content b r → (n ≡ length b) × (length rest ≡ length (b ++ r))
same_number n rest b r long wide bytes =
    let same = sym (long_told n rest long) ∙ ap told_long bytes ∙ long_told (length b) (b ++ r) wide in
    (ap (λ p. p.0) same, ap (λ p. length p.1) same)

pub not_short : (bytes b r : List ℕ) → IsLong (length b) → bytes ≡ content b r → IsShort bytes → ⊥
not_short bytes b r long is (inl few) =
    let size = ap length is in
    omega (arith, few, size)
not_short bytes b r long is (inr cut) =
    let same = same_number cut.0 cut.1 b r cut.2 long (sym cut.3 ∙ is) in
    omega (arith, cut.4, same.0, same.1, length-append b r)

pub short_has_none : (bytes : List ℕ) → IsShort bytes → NoneBegins bytes
short_has_none bytes short kept begins = not_short bytes (body_of kept) begins.1.0 begins.0.1 begins.1.1 short

pub none_begins : (bytes b r : List ℕ) → IsLong (length b) → bytes ≡ content b r → IsNoBody b → NoneBegins bytes
none_begins bytes b r long is none kept begins =
    none kept begins.0.0 (one_body b r (body_of kept) begins.1.0 long begins.0.1 (sym is ∙ begins.1.1))

pub none_goes_on : (bytes b r : List ℕ) → IsLong (length b) → bytes ≡ content b r → IsNoBody b → NoneGoesOn bytes
none_goes_on bytes b r long is none kept rest fit bytes_on =
    let on = ap (λ xs. xs ++ rest) (sym is) ∙ bytes_on in
    let apart = ap (λ xs. long_number (length b) xs) (sym (append_assoc b r rest)) ∙ on ∙ ap (λ xs. long_number (length (body_of kept)) xs) (sym (append-nil (body_of kept))) in
    none kept fit.0 (one_body b (r ++ rest) (body_of kept) [] long fit.1 apart)
