-- The values behind one field.
use Rattle.std.proofs.Common.{◌≡◌, ◌<◌, ◌+◌, ℕ, true, false, List, ◌∷◌, length, map, drop, get_or, ap, ◌∙◌, add-one, drop-cons}
use Rattle.std.proofs.lemmas.Bool.{cond-true, cond-false}
use Rattle.httparse.specs.Spans.{header_bytes}
use Rattle.httparse.specs.declared.spans.HeaderSpan.{HeaderSpan}
use Rattle.wire_http.specs.Fields.{is_word, values}

pub values_here : (name : List ℕ) (buf : List ℕ) (hs : List HeaderSpan) (i : ℕ) (d : HeaderSpan) → i < length hs
    → is_word name (header_bytes buf (get_or hs i d)).0 ≡ true
    → values name (map (header_bytes buf) (drop i hs)) ≡ (header_bytes buf (get_or hs i d)).1 ∷ values name (map (header_bytes buf) (drop (i + 1) hs))
values_here name buf hs i d inside named =
    ap (λ xs. values name (map (header_bytes buf) xs)) (drop-cons hs i d inside) ∙ rw (add-one) (cond-true _ _ _ named)

pub values_past : (name : List ℕ) (buf : List ℕ) (hs : List HeaderSpan) (i : ℕ) (d : HeaderSpan) → i < length hs
    → is_word name (header_bytes buf (get_or hs i d)).0 ≡ false
    → values name (map (header_bytes buf) (drop i hs)) ≡ values name (map (header_bytes buf) (drop (i + 1) hs))
values_past name buf hs i d inside other =
    ap (λ xs. values name (map (header_bytes buf) xs)) (drop-cons hs i d inside) ∙ rw (add-one) (cond-false _ _ _ other)
