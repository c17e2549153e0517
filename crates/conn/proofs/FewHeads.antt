-- A head with at most 64 fields is none with more.
use Rattle.std.proofs.Common.{◌≡◌, ℕ, List, [], ◌∷◌, ◌++◌, length, refl, sym, ap, ◌∙◌, append_assoc, arith, length-append}
use Rattle.std.specs.List.{flat_map}
use Rattle.std.proofs.lemmas.List.{append_cancel_right, append-nil}
use Rattle.httparse.specs.Grammar.{RequestHead, IsRequestHead, LineEnd, crlf, lf, print_field, print_end, print_blank, print_version}
use Rattle.httparse.specs.Pieces.{RequestStart}
use Rattle.httparse.proofs.GrammarLemmas.{request_pieces, request_tree, print_request-append, cons-append}
use Rattle.httparse.proofs.PieceLemmas.{Section_skip, RequestStart_deterministic, Stops_token}
use Rattle.conn.specs.Unique.{FewIsNotMany}

-- a start line and what follows it
abbrev started : RequestHead → List ℕ → List ℕ
started k z = print_blank k.blank ++ (k.method ++ 32 ∷ (k.target ++ 32 ∷ (print_version k.minor ++ (print_end k.line_end ++ z))))

started-append : (k : RequestHead) (z y : List ℕ) → started k z ++ y ≡ started k (z ++ y)
started-append k z y = go (print_blank k.blank) k.method k.target (print_version k.minor) (print_end k.line_end) z y
  where
    go : (a b c d e z y : List ℕ) → (a ++ (b ++ 32 ∷ (c ++ 32 ∷ (d ++ (e ++ z))))) ++ y ≡ a ++ (b ++ 32 ∷ (c ++ 32 ∷ (d ++ (e ++ (z ++ y)))))
    go a b c d e z y = simp (append_assoc, cons-append)

-- the fields of a head that is the front and an LF stand in the bytes
record Stand (bytes : List ℕ) (k : RequestHead) : Type 0 where
  pub after : List ℕ
  pub text : bytes ≡ started k (flat_map print_field k.fields ++ after)

stand : (bytes front rest : List ℕ) (k : RequestHead) (last : LineEnd) → bytes ≡ front ++ rest
    → front ++ 10 ∷ [] ≡ started k ((flat_map print_field k.fields ++ print_end last) ++ []) → Stand bytes k
stand bytes front rest k lf e f =
    let fs : List ℕ = flat_map print_field k.fields in
    let whole : front ++ 10 ∷ [] ≡ started k fs ++ 10 ∷ [] = f ∙ ap (started k) (append-nil (fs ++ 10 ∷ [])) ∙ sym (started-append k fs (10 ∷ [])) in
    let same : front ≡ started k fs = append_cancel_right front (started k fs) (10 ∷ []) whole in
    record { after = rest; text = e ∙ ap (λ xs. xs ++ rest) same ∙ started-append k fs rest }
stand bytes front rest k crlf e f =
    let fs : List ℕ = flat_map print_field k.fields in
    let whole : front ++ 10 ∷ [] ≡ started k (fs ++ 13 ∷ []) ++ 10 ∷ [] =
    f ∙ ap (started k) (append-nil (fs ++ 13 ∷ 10 ∷ []) ∙ sym (append_assoc fs (13 ∷ []) (10 ∷ []))) ∙ sym (started-append k (fs ++ 13 ∷ []) (10 ∷ [])) in
    let same : front ≡ started k (fs ++ 13 ∷ []) = append_cancel_right front (started k (fs ++ 13 ∷ [])) (10 ∷ []) whole in
    record { after = 13 ∷ rest; text = e ∙ ap (λ xs. xs ++ rest) same ∙ started-append k (fs ++ 13 ∷ []) rest ∙ ap (started k) (append_assoc fs (13 ∷ []) rest) }

start_of : (bytes z : List ℕ) (k : RequestHead) → IsRequestHead k → bytes ≡ started k z → RequestStart (request_tree k).0 bytes z
start_of bytes z k is e = (
  _,
  (e, Stops_token k.method _ is.method.0 is.method.1),
  (
    _,
    (is.method.0, is.method.1, refl),
    (
      _,
      ((is.target.0, is.target.1, refl), is.target_text),
      (_, (is.minor, refl), refl),
    ),
  ),
)

pub few_heads : FewIsNotMany
few_heads bytes h rest e reads few =
    let k = e.3 in
    let s = stand bytes e.0 e.1 k k.last e.2 (e.4.1 ∙ print_request-append k []) in
    let fs : List ℕ = flat_map print_field k.fields in
    let pieces = request_pieces bytes h rest reads in
    let same = RequestStart_deterministic.unique (request_tree k).0 (request_tree h).0 bytes (fs ++ s.after) pieces.0 (start_of bytes (fs ++ s.after) k e.4.0 s.text) pieces.1 in
    let skipped = Section_skip k.fields h.fields h.last (fs ++ s.after) s.after rest (e.4.0.fields, refl) (rw same.1 pieces.2) in
    omega (arith, ap length skipped.1, length-append k.fields skipped.0, e.5, few)
