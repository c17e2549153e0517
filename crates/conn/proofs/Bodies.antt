-- Steps of reading a body.
use Rattle.std.proofs.Common.{◌≡◌, ◌≢◌, ◌≤◌, ◌+◌, ◌-◌, ℕ, List, [], ◌∷◌, ◌++◌, length, take, drop, refl, sym, ap, ◌∙◌, append_assoc, arith, length-append}
use Rattle.std.specs.List.{flat_map, AllByRecursion}
use Rattle.std.proofs.lemmas.Grind.{flat_map-append}
use Rattle.std.proofs.lemmas.List.{take-append-drop, append-nil, length-take-le}
use Rattle.httparse.specs.Ascii.{crlf_bytes}
use Rattle.httparse.specs.Grammar.{RequestHead, chunk_size, print_chunk_line}
use Rattle.wire_http.specs.Head.{framing}
use Rattle.conn.specs.Message.{Plain, Chunk, chunk_text, chunks_text, content, IsChunk}
use Rattle.conn.specs.Cut.{BodyPart, InPlain, AtLine, InData, AtTrailer, IsOpenPart}
use Rattle.conn.specs.Reading.{IsAt, Reached, Ends}
use Rattle.wire_http.specs.declared.head.BodyLen.TheVariants.{Sized}
use Rattle.conn.specs.declared.body_state.Phase.TheVariants as phase
use Rattle.conn.specs.declared.body_state.BodyState.{BodyState}

-- bytes of a body of stated length
pub sized_more : (limit : ℕ) (h : RequestHead) (p : BodyPart) (rest : List ℕ) (left n : ℕ) (q q' : BodyState)
    → q.phase ≡ phase.Sized left → IsAt limit h p q → n ≤ left → n ≤ length rest → q'.phase ≡ phase.Sized (left - n)
    → Reached limit h p rest n (take n rest) q'
sized_more limit h (InPlain bytes) rest left n q q' e inb few there e' =
    let at : framing h ≡ Sized (length bytes + left) = rw e at inb.at in
    let long : length (bytes ++ take n rest) ≡ length bytes + n = length-append bytes (take n rest) ∙ ap (λ k. length bytes + k) (length-take-le n rest there) in
    let sum : length bytes + left ≡ length (bytes ++ take n rest) + (left - n) = omega arith in
    record {
      now = InPlain (bytes ++ take n rest);
      place = record { part = (length bytes + left, at, omega arith); room = tt; at = rw e' (at ∙ ap Sized sum) };
      bytes = refl;
      within = there;
      text = sym (append_assoc bytes (take n rest) (drop n rest) ∙ ap (λ xs. bytes ++ xs) (take-append-drop n rest));
    }
sized_more limit h (AtLine chunks) rest left n q q' e inb few there e' = absurd (rw e at inb.at)
sized_more limit h (InData chunks line bytes) rest left n q q' e inb few there e' = absurd (rw e at inb.at)
sized_more limit h (AtTrailer chunks last) rest left n q q' e inb few there e' = absurd (rw e at inb.at)

pub sized_need : (limit : ℕ) (h : RequestHead) (p : BodyPart) (rest : List ℕ) (left : ℕ) (q : BodyState)
    → q.phase ≡ phase.Sized left → IsAt limit h p q → left ≢ 0 → rest ≡ [] → IsOpenPart h p rest
sized_need limit h (InPlain bytes) rest left q e inb some none =
    let at : framing h ≡ Sized (length bytes + left) = rw e at inb.at in
    (none, length bytes + left, at, omega (arith, some))
sized_need limit h (AtLine chunks) rest left q e inb some none = absurd (rw e at inb.at)
sized_need limit h (InData chunks line bytes) rest left q e inb some none = absurd (rw e at inb.at)
sized_need limit h (AtTrailer chunks last) rest left q e inb some none = absurd (rw e at inb.at)

pub sized_whole : (limit : ℕ) (h : RequestHead) (p : BodyPart) (rest : List ℕ) (left : ℕ) (q : BodyState)
    → q.phase ≡ phase.Sized left → IsAt limit h p q → left ≡ 0 → Ends limit h p rest 0
sized_whole limit h (InPlain bytes) rest left q e inb none =
    let at : framing h ≡ Sized (length bytes + left) = rw e at inb.at in
    let sum : length bytes + left ≡ length bytes = omega (arith, none) in
    record { body = Plain bytes; is_body = at ∙ ap Sized sum; bytes = refl; within = omega arith; text = refl }
sized_whole limit h (AtLine chunks) rest left q e inb none = absurd (rw e at inb.at)
sized_whole limit h (InData chunks line bytes) rest left q e inb none = absurd (rw e at inb.at)
sized_whole limit h (AtTrailer chunks last) rest left q e inb none = absurd (rw e at inb.at)

-- one more at the end
pub push : {A B : Type 0} (f : A → List B) (xs : List A) (x : A) → flat_map f (xs ++ x ∷ []) ≡ flat_map f xs ++ f x
push f xs x = flat_map-append f xs (x ∷ []) ∙ ap (λ ys. flat_map f xs ++ ys) (append-nil (f x))

pub each_push : {A : Type 0} (P : A → Type 0) (xs : List A) (x : A) → AllByRecursion P xs → P x → AllByRecursion P (xs ++ x ∷ [])
each_push P [] x each here = (here, tt)
each_push P (y ∷ xs) x each here = (each.0, each_push P xs x each.1 here)

-- bytes of a chunk
pub data_more : (limit : ℕ) (h : RequestHead) (p : BodyPart) (rest : List ℕ) (left n : ℕ) (q q' : BodyState)
    → q.phase ≡ phase.Data left → IsAt limit h p q → n ≤ left → n ≤ length rest → q'.phase ≡ phase.Data (left - n) → q'.room ≡ q.room
    → Reached limit h p rest n (take n rest) q'
data_more limit h (InPlain bytes) rest left n q q' e inb few there e' room = absurd (rw e at inb.at)
data_more limit h (AtLine chunks) rest left n q q' e inb few there e' room = absurd (rw e at inb.at)
data_more limit h (AtTrailer chunks last) rest left n q q' e inb few there e' room = absurd (rw e at inb.at)
data_more limit h (InData chunks line bytes) rest left n q q' e inb few there e' room =
    let at : length bytes + left ≡ chunk_size line = rw e at inb.at in
    let long : length (bytes ++ take n rest) ≡ length bytes + n = length-append bytes (take n rest) ∙ ap (λ k. length bytes + k) (length-take-le n rest there) in
    let sum : length (bytes ++ take n rest) + (left - n) ≡ chunk_size line = omega arith in
    let front = chunks_text chunks in
    let text = print_chunk_line line in
    record {
      now = InData chunks line (bytes ++ take n rest);
      place = record { part = (inb.part.0, inb.part.1, omega arith); room = rw room inb.room; at = rw e' sum };
      bytes = sym (append_assoc (content chunks) bytes (take n rest));
      within = there;
      text = simp append_assoc (ap (λ xs. front ++ (text ++ (bytes ++ xs))) (sym (take-append-drop n rest)));
    }

-- the CR LF behind a chunk
pub data_end : (limit : ℕ) (h : RequestHead) (p : BodyPart) (rest : List ℕ) (q q' : BodyState)
    → q.phase ≡ phase.Data 0 → IsAt limit h p q → rest ≡ 13 ∷ 10 ∷ drop 2 rest → q'.phase ≡ phase.Line → q'.room ≡ q.room
    → Reached limit h p rest 2 [] q'
data_end limit h (InPlain bytes) rest q q' e inb ends e' room = absurd (rw e at inb.at)
data_end limit h (AtLine chunks) rest q q' e inb ends e' room = absurd (rw e at inb.at)
data_end limit h (AtTrailer chunks last) rest q q' e inb ends e' room = absurd (rw e at inb.at)
data_end limit h (InData chunks line bytes) rest q q' e inb ends e' room =
    let at : length bytes + 0 ≡ chunk_size line = rw e at inb.at in
    let c : Chunk = record { line = line; bytes = bytes } in
    let carried : content (chunks ++ c ∷ []) ≡ content chunks ++ bytes = push (λ c. c.bytes) chunks c in
    let spelled : chunks_text (chunks ++ c ∷ []) ≡ chunks_text chunks ++ (print_chunk_line line ++ (bytes ++ crlf_bytes)) = push chunk_text chunks c in
    let is_chunk : IsChunk c = record { line = inb.part.1.line; short = inb.part.1.short; sized = omega arith; not_last = omega (arith, inb.part.1.some) } in
    let size : length (content (chunks ++ c ∷ [])) ≡ length (content chunks) + length bytes = ap length carried ∙ length-append (content chunks) bytes in
    record {
      now = AtLine (chunks ++ c ∷ []);
      place = record {
        part = (inb.part.0.0, each_push IsChunk chunks c inb.part.0.1 is_chunk, omega (arith, size, inb.part.0.2));
        room = omega (arith, size, at, inb.room, room);
        at = rw e' tt;
      };
      bytes = carried ∙ sym (append-nil (content chunks ++ bytes));
      within = omega (arith, ap length ends);
      text = ap (λ xs. (chunks_text chunks ++ (print_chunk_line line ++ bytes)) ++ xs) ends ∙ sym (ap (λ xs. xs ++ drop 2 rest) spelled ∙ simp append_assoc);
    }
