-- A text begins with at most one message.
use Rattle.std.proofs.Common.{◌≡◌, ℕ, List, [], ◌∷◌, ◌++◌, length, take, drop, refl, sym, ap, ap₂, ◌∙◌, append_assoc, arith}
use Rattle.std.specs.List.{AllByRecursion}
use Rattle.std.proofs.lemmas.List.{append_cancel_left}
use Rattle.std.proofs.lemmas.List.Elements.{All-from_recursion}
use Rattle.std.proofs.Math.Seq.{drop-append_seam, take-append_seam}
use Rattle.httparse.specs.Ascii.{crlf_bytes}
use Rattle.httparse.specs.Grammar.{RequestHead, print_request, ChunkLine, print_chunk_line, chunk_size, Field, LineEnd, print_section}
use Rattle.httparse.proofs.GrammarLemmas.{request_unique, section_unique}
use Rattle.httparse.proofs.ChunkLemmas.{chunk_line_unique}
use Rattle.conn.specs.Message.{Chunk, chunks_text, IsChunk, IsLast, IsTrailer, Body, Plain, InChunks, body_text, IsBody}
use Rattle.wire_http.specs.declared.head.BodyLen.TheVariants.{Sized, Chunked}
use Rattle.conn.specs.Unique.{HasOneMessage}

pub same_length : (a b x y : List ℕ) → length a ≡ length b → a ++ x ≡ b ++ y → (a ≡ b) × (x ≡ y)
same_length a b x y len e = (
  sym (take-append_seam a x) ∙ ap₂ take len e ∙ take-append_seam b y,
  sym (drop-append_seam a x) ∙ ap₂ drop len e ∙ drop-append_seam b y,
)

record SameChunks (cs ds : List Chunk) (l k : ChunkLine) (fs gs : List Field) (a b : LineEnd) (x y : List ℕ) : Type 0 where
  pub chunks : cs ≡ ds
  pub last : l ≡ k
  pub fields : fs ≡ gs
  pub end : a ≡ b
  pub rest : x ≡ y

abbrev pub ending : ChunkLine → List Field → LineEnd → List ℕ → List ℕ
ending l fs a x = print_chunk_line l ++ (print_section fs a ++ x)

-- a chunk and what follows it
pub split : (c : Chunk) (cs : List Chunk) (more : List ℕ) → chunks_text (c ∷ cs) ++ more ≡ print_chunk_line c.line ++ (c.bytes ++ (crlf_bytes ++ (chunks_text cs ++ more)))
split c cs more = simp append_assoc

chunks_unique : (cs ds : List Chunk) (l k : ChunkLine) (fs gs : List Field) (a b : LineEnd) (x y : List ℕ)
    → AllByRecursion IsChunk cs → AllByRecursion IsChunk ds → IsLast l → IsLast k → IsTrailer fs a → IsTrailer gs b
    → chunks_text cs ++ ending l fs a x ≡ chunks_text ds ++ ending k gs b y → SameChunks cs ds l k fs gs a b x y
chunks_unique [] [] l k fs gs a b x y ec ed il ik tf tg e =
    let line = chunk_line_unique (ending l fs a x) l k (print_section fs a ++ x) (print_section gs b ++ y) (il.line, refl) (ik.line, e) in
    let section = section_unique (print_section fs a ++ x) fs gs a b x y (All-from_recursion _ fs tf.each, refl) (All-from_recursion _ gs tg.each, line.1) in
    record { chunks = refl; last = line.0; fields = section.0; end = section.1; rest = section.2 }
chunks_unique [] (d ∷ ds) l k fs gs a b x y ec ed il ik tf tg e =
    let line = chunk_line_unique (ending l fs a x) l d.line (print_section fs a ++ x) (d.bytes ++ (crlf_bytes ++ (chunks_text ds ++ ending k gs b y))) (il.line, refl) (ed.0.line, e ∙ split d ds (ending k gs b y)) in
    absurd (omega (arith, ap chunk_size line.0, il.none, ed.0.sized, ed.0.not_last))
chunks_unique (c ∷ cs) [] l k fs gs a b x y ec ed il ik tf tg e =
    let line = chunk_line_unique (ending k gs b y) k c.line (print_section gs b ++ y) (c.bytes ++ (crlf_bytes ++ (chunks_text cs ++ ending l fs a x))) (ik.line, refl) (ec.0.line, sym e ∙ split c cs (ending l fs a x)) in
    absurd (omega (arith, ap chunk_size line.0, ik.none, ec.0.sized, ec.0.not_last))
chunks_unique (c ∷ cs) (d ∷ ds) l k fs gs a b x y ec ed il ik tf tg e =
    let after_c : List ℕ = crlf_bytes ++ (chunks_text cs ++ ending l fs a x) in
    let after_d : List ℕ = crlf_bytes ++ (chunks_text ds ++ ending k gs b y) in
    let line = chunk_line_unique (print_chunk_line c.line ++ (c.bytes ++ after_c)) c.line d.line (c.bytes ++ after_c) (d.bytes ++ after_d) (ec.0.line, refl) (ed.0.line, sym (split c cs (ending l fs a x)) ∙ e ∙ split d ds (ending k gs b y)) in
    let bytes = same_length c.bytes d.bytes after_c after_d (sym ec.0.sized ∙ ap chunk_size line.0 ∙ ed.0.sized) line.1 in
    let next = append_cancel_left crlf_bytes _ _ bytes.1 in
    let others = chunks_unique cs ds l k fs gs a b x y ec.1 ed.1 il ik tf tg next in
    let here : c ≡ d = ap₂ (λ m bs. record { line = m; bytes = bs }) line.0 bytes.0 in
    record { chunks = ap₂ (λ z zs. z ∷ zs) here others.chunks; last = others.last; fields = others.fields; end = others.end; rest = others.rest }

body_unique : (limit : ℕ) (h : RequestHead) (b c : Body) (x y : List ℕ) → IsBody limit h b → IsBody limit h c → body_text b ++ x ≡ body_text c ++ y → (b ≡ c) × (x ≡ y)
body_unique limit h (Plain bs) (Plain cs) x y ib ic e =
    let len : Sized (length bs) ≡ Sized (length cs) = sym ib ∙ ic in
    let same : length bs ≡ length cs = cc in
    let parts = same_length bs cs x y same e in
    (ap Plain parts.0, parts.1)
body_unique limit h (Plain bs) (InChunks cs l fs a) x y ib ic e = let no : Sized (length bs) ≡ Chunked = sym ib ∙ ic.0 in absurd (cc)
body_unique limit h (InChunks cs l fs a) (Plain bs) x y ib ic e = let no : Sized (length bs) ≡ Chunked = sym ic ∙ ib.0 in absurd (cc)
body_unique limit h (InChunks cs l fs a) (InChunks ds k gs b) x y ib ic e =
    let left : body_text (InChunks cs l fs a) ++ x ≡ chunks_text cs ++ ending l fs a x = simp append_assoc in
    let right : body_text (InChunks ds k gs b) ++ y ≡ chunks_text ds ++ ending k gs b y = simp append_assoc in
    let same = chunks_unique cs ds l k fs gs a b x y ib.1 ic.1 ib.3 ic.3 ib.4 ic.4 (sym left ∙ e ∙ right) in
    (λ i. InChunks (same.chunks i) (same.last i) (same.fields i) (same.end i), same.rest)

pub message_unique : HasOneMessage
message_unique limit m n x y im ip e =
    let text : print_request m.head ++ (body_text m.body ++ x) ≡ print_request n.head ++ (body_text n.body ++ y) = sym (append_assoc (print_request m.head) (body_text m.body) x) ∙ e ∙ append_assoc (print_request n.head) (body_text n.body) y in
    let head = request_unique (print_request m.head ++ (body_text m.body ++ x)) m.head n.head (body_text m.body ++ x) (body_text n.body ++ y) (im.0.head, refl) (ip.0.head, text) in
    let body = body_unique limit m.head m.body n.body x y im.1 (rw head.0 ip.1) head.1 in
    (λ i. record { head = head.0 i; body = body.0 i }, body.1)
