-- Chunk lines and trailers at the front of the rest.
use Rattle.std.proofs.Common.{◌≡◌, ◌<◌, ◌≤◌, ◌+◌, ◌-◌, ℕ, List, [], ◌++◌, length, take, drop, refl, sym, ap, ◌∙◌, append_assoc, arith, inl, inr, length-append}
use Rattle.std.proofs.lemmas.List.{take-append-drop, append-nil, length-take, length-map, take_all}
use Rattle.std.proofs.lemmas.List.Elements.{recursion_from_All}
use Rattle.std.proofs.Math.Seq.{drop-append_seam}
use Rattle.httparse.specs.Grammar.{RequestHead, ChunkLine, IsChunkLine, print_chunk_line, chunk_size, HasNoChunkLine, NeverHasChunkLine, MayBecomeChunkLine, Field, LineEnd, print_section, HasNoSection, NeverHasSection, MayBecomeSection, print_extension, print_end, crlf}
use Rattle.httparse.specs.Spans.{IsChunkLineAt, SectionExceeds, IsSectionWithin, IsSectionAt, header_bytes, name_and_value}
use Rattle.httparse.specs.declared.spans.HeaderSpan.{HeaderSpan}
use Rattle.wire_http.specs.Head.{most_body}
use Rattle.conn.specs.Message.{InChunks, most_trailer, chunks_text, content}
use Rattle.conn.specs.Cut.{BodyPart, InPlain, AtLine, InData, AtTrailer, IsOpenPart, IsBadLine, IsBadTrailer}
use Rattle.conn.specs.Reading.{IsAt, Reached, Ends, Fails}
use Rattle.wire_http.specs.declared.refusal.WireRefusal.TheVariants.{TooLarge, BadChunk}
use Rattle.conn.specs.declared.body_state.Phase.TheVariants as phase
use Rattle.conn.specs.declared.body_state.BodyState.{BodyState}

-- all bytes are the first ones and the others
pub behind : (n : ℕ) (bs more : List ℕ) → bs ++ more ≡ take n bs ++ (drop n bs ++ more)
behind n bs more = ap (λ xs. xs ++ more) (sym (take-append-drop n bs)) ∙ append_assoc (take n bs) (drop n bs) more

-- what the first bytes begin with
pub front_text : (n used : ℕ) (rest text after : List ℕ) → take n rest ≡ text ++ after → used ≡ length text → rest ≡ text ++ drop used rest
front_text n used rest text after e len =
    let whole : rest ≡ text ++ (after ++ drop n rest) = sym (take-append-drop n rest) ∙ ap (λ xs. xs ++ drop n rest) e ∙ append_assoc text after (drop n rest) in
    let others : drop used rest ≡ after ++ drop n rest = ap (λ k. drop k rest) len ∙ ap (drop (length text)) whole ∙ drop-append_seam text (after ++ drop n rest) in
    whole ∙ ap (λ xs. text ++ xs) (sym others)

pub front_within : (n used : ℕ) (rest text after : List ℕ) → take n rest ≡ text ++ after → used ≡ length text → (used ≤ length rest) × (used ≤ n)
front_within n used rest text after e len =
    (omega (arith, ap length e, length-append text after, length-take n rest), omega (arith, ap length e, length-append text after, length-take n rest))

pub never_line : (n : ℕ) (rest : List ℕ) → NeverHasChunkLine (take n rest) → NeverHasChunkLine rest
never_line n rest never more l after reads = never (drop n rest ++ more) l after (reads.0, sym (behind n rest more) ∙ reads.1)

pub line_positive : (l : ChunkLine) → IsChunkLine l → 0 < length (print_chunk_line l)
unfolding print_chunk_line
line_positive l is =
    let e : length (print_chunk_line l) ≡ length (l.digits ++ l.pad ++ print_extension l.extension) + 2 = length-append (l.digits ++ l.pad ++ print_extension l.extension) (print_end crlf) in
    omega arith

-- the line that ends the chunks
pub line_last : (limit : ℕ) (h : RequestHead) (p : BodyPart) (rest : List ℕ) (used size : ℕ) (l : ChunkLine) (q q' : BodyState)
    → q.phase ≡ phase.Line → IsAt limit h p q → IsChunkLineAt (take 256 rest) used size l → size ≡ 0 → q'.phase ≡ phase.Trailer
    → Reached limit h p rest used [] q'
line_last limit h (InPlain bytes) rest used size l q q' e inb at zero e' = absurd (rw e at inb.at)
line_last limit h (InData chunks line bytes) rest used size l q q' e inb at zero e' = absurd (rw e at inb.at)
line_last limit h (AtTrailer chunks last) rest used size l q q' e inb at zero e' = absurd (rw e at inb.at)
line_last limit h (AtLine chunks) rest used size l q q' e inb at zero e' =
    let in_rest = front_within 256 used rest (print_chunk_line l) (drop used (take 256 rest)) at.reads.1 at.len_is in
    let text = front_text 256 used rest (print_chunk_line l) (drop used (take 256 rest)) at.reads.1 at.len_is in
    record {
      now = AtTrailer chunks l;
      place = record {
        part = (inb.part, record { line = at.reads.0; short = omega (arith, at.len_is, in_rest.1); none = sym at.size_is ∙ zero });
        room = tt;
        at = rw e' tt;
      };
      bytes = sym (append-nil (content chunks));
      within = in_rest.0;
      text = ap (λ xs. chunks_text chunks ++ xs) text ∙ sym (append_assoc (chunks_text chunks) (print_chunk_line l) (drop used rest));
    }

pub line_more : (limit : ℕ) (h : RequestHead) (p : BodyPart) (rest : List ℕ) (used size : ℕ) (l : ChunkLine) (q q' : BodyState)
    → q.phase ≡ phase.Line → IsAt limit h p q → IsChunkLineAt (take 256 rest) used size l → 0 < size
    → size ≤ q.room → q'.room ≡ q.room - size → q'.phase ≡ phase.Data size → Reached limit h p rest used [] q'
line_more limit h (InPlain bytes) rest used size l q q' e inb at some fits room e' = absurd (rw e at inb.at)
line_more limit h (InData chunks line bytes) rest used size l q q' e inb at some fits room e' = absurd (rw e at inb.at)
line_more limit h (AtTrailer chunks last) rest used size l q q' e inb at some fits room e' = absurd (rw e at inb.at)
line_more limit h (AtLine chunks) rest used size l q q' e inb at some fits room e' =
    let in_rest = front_within 256 used rest (print_chunk_line l) (drop used (take 256 rest)) at.reads.1 at.len_is in
    let text = front_text 256 used rest (print_chunk_line l) (drop used (take 256 rest)) at.reads.1 at.len_is in
    let sum : length (content chunks) + chunk_size l ≤ most_body limit h = omega (arith, at.size_is, fits, inb.room) in
    record {
      now = InData chunks l [];
      place = record {
        part = ((inb.part.0, inb.part.1, sum), record { line = at.reads.0; short = omega (arith, at.len_is, in_rest.1); some = omega (arith, at.size_is) }, omega arith);
        room = omega (arith, at.size_is, fits, inb.room, room);
        at = rw e' (omega (arith, at.size_is));
      };
      bytes = refl;
      within = in_rest.0;
      text = ap (λ xs. chunks_text chunks ++ xs) text ∙ simp (append-nil, append_assoc);
    }

pub line_large : (limit : ℕ) (h : RequestHead) (p : BodyPart) (rest : List ℕ) (used size : ℕ) (l : ChunkLine) (q : BodyState)
    → q.phase ≡ phase.Line → IsAt limit h p q → IsChunkLineAt (take 256 rest) used size l → q.room < size → Fails limit h p rest TooLarge
line_large limit h (InPlain bytes) rest used size l q e inb at large = absurd (rw e at inb.at)
line_large limit h (InData chunks line bytes) rest used size l q e inb at large = absurd (rw e at inb.at)
line_large limit h (AtTrailer chunks last) rest used size l q e inb at large = absurd (rw e at inb.at)
line_large limit h (AtLine chunks) rest used size l q e inb at large =
    let in_rest = front_within 256 used rest (print_chunk_line l) (drop used (take 256 rest)) at.reads.1 at.len_is in
    let text = front_text 256 used rest (print_chunk_line l) (drop used (take 256 rest)) at.reads.1 at.len_is in
    record {
      now = AtLine chunks;
      after = rest;
      part = inb.part;
      text = refl;
      bad = inr (refl, record { line = l; after = drop used rest; is_line = at.reads.0; short = omega (arith, at.len_is, in_rest.1); reads = text; passes = omega (arith, at.size_is, large, inb.room) });
    }

pub line_bad : (limit : ℕ) (h : RequestHead) (p : BodyPart) (rest : List ℕ) (q : BodyState) → q.phase ≡ phase.Line → IsAt limit h p q → IsBadLine rest → Fails limit h p rest BadChunk
line_bad limit h (InPlain bytes) rest q e inb bad = absurd (rw e at inb.at)
line_bad limit h (InData chunks line bytes) rest q e inb bad = absurd (rw e at inb.at)
line_bad limit h (AtTrailer chunks last) rest q e inb bad = absurd (rw e at inb.at)
line_bad limit h (AtLine chunks) rest q e inb bad = record { now = AtLine chunks; after = rest; part = inb.part; text = refl; bad = inl (refl, bad) }

pub line_need : (limit : ℕ) (h : RequestHead) (p : BodyPart) (rest : List ℕ) (q : BodyState)
    → q.phase ≡ phase.Line → IsAt limit h p q → length rest ≤ 256 → HasNoChunkLine (take 256 rest) → MayBecomeChunkLine (take 256 rest) → IsOpenPart h p rest
line_need limit h (InPlain bytes) rest q e inb short none may = absurd (rw e at inb.at)
line_need limit h (InData chunks line bytes) rest q e inb short none may = absurd (rw e at inb.at)
line_need limit h (AtTrailer chunks last) rest q e inb short none may = absurd (rw e at inb.at)
line_need limit h (AtLine chunks) rest q e inb short none may =
    let same : take 256 rest ≡ rest = take_all 256 rest short in
    (short, rw same at none, rw same at may)

pub never_section : (n : ℕ) (rest : List ℕ) → NeverHasSection (take n rest) → NeverHasSection rest
never_section n rest never more fields last after reads = never (drop n rest ++ more) fields last after (reads.0, sym (behind n rest more) ∙ reads.1)

pub exceeds_section : (room n : ℕ) (rest : List ℕ) → SectionExceeds room (take n rest) → SectionExceeds room rest
exceeds_section room n rest e =
    (e.0, e.1 ++ drop n rest, sym (take-append-drop n rest) ∙ ap (λ xs. xs ++ drop n rest) e.2 ∙ append_assoc e.0 e.1 (drop n rest), e.3, e.4, e.5)

pub trailer_bad : (limit : ℕ) (h : RequestHead) (p : BodyPart) (rest : List ℕ) (q : BodyState) → q.phase ≡ phase.Trailer → IsAt limit h p q → IsBadTrailer rest → Fails limit h p rest BadChunk
trailer_bad limit h (InPlain bytes) rest q e inb bad = absurd (rw e at inb.at)
trailer_bad limit h (AtLine chunks) rest q e inb bad = absurd (rw e at inb.at)
trailer_bad limit h (InData chunks line bytes) rest q e inb bad = absurd (rw e at inb.at)
trailer_bad limit h (AtTrailer chunks last) rest q e inb bad = record { now = AtTrailer chunks last; after = rest; part = inb.part; text = refl; bad = (refl, bad) }

pub trailer_need : (limit : ℕ) (h : RequestHead) (p : BodyPart) (rest : List ℕ) (n : ℕ) (q : BodyState) → n ≡ most_trailer
    → q.phase ≡ phase.Trailer → IsAt limit h p q → length rest ≤ n → HasNoSection (take n rest) → MayBecomeSection (take n rest) → IsOpenPart h p rest
trailer_need limit h (InPlain bytes) rest n q m e inb short none may = absurd (rw e at inb.at)
trailer_need limit h (AtLine chunks) rest n q m e inb short none may = absurd (rw e at inb.at)
trailer_need limit h (InData chunks line bytes) rest n q m e inb short none may = absurd (rw e at inb.at)
trailer_need limit h (AtTrailer chunks last) rest n q m e inb short none may =
    let same : take n rest ≡ rest = take_all n rest short in
    (omega arith, rw same at none, rw same at may)

pub trailer_whole : (limit : ℕ) (h : RequestHead) (p : BodyPart) (rest : List ℕ) (n used count : ℕ) (hs : List HeaderSpan) (fields : List Field) (end : LineEnd) (q : BodyState) → n ≡ most_trailer
    → q.phase ≡ phase.Trailer → IsAt limit h p q → length hs ≡ 64 → IsSectionWithin (take n rest) hs used count → IsSectionAt (take n rest) 0 hs used count fields end
    → Ends limit h p rest used
trailer_whole limit h (InPlain bytes) rest n used count hs fields end q m e inb room within at = absurd (rw e at inb.at)
trailer_whole limit h (AtLine chunks) rest n used count hs fields end q m e inb room within at = absurd (rw e at inb.at)
trailer_whole limit h (InData chunks line bytes) rest n used count hs fields end q m e inb room within at = absurd (rw e at inb.at)
trailer_whole limit h (AtTrailer chunks last) rest n used count hs fields end q m e inb room within at =
    let len : used ≡ length (print_section fields end) = omega (arith, at.len_is) in
    let counted : length (take count hs) ≡ length fields = sym (length-map (take count hs) (header_bytes (take n rest))) ∙ ap length at.fields_are ∙ length-map fields name_and_value in
    let in_rest = front_within n used rest (print_section fields end) (drop used (take n rest)) at.reads.1 len in
    let text = front_text n used rest (print_section fields end) (drop used (take n rest)) at.reads.1 len in
    let front : List ℕ = chunks_text chunks in
    let line : List ℕ = print_chunk_line last in
    record {
      body = InChunks chunks last fields end;
      is_body = (
        inb.part.0.0,
        inb.part.0.1,
        omega (arith, inb.part.0.2),
        inb.part.1,
        record {
          each = recursion_from_All _ _ at.reads.0;
          few = omega (arith, length-take count hs, within.count_fits);
          short = omega (arith, len, in_rest.1);
        },
      );
      bytes = refl;
      within = in_rest.0;
      text = ap (λ xs. (front ++ line) ++ xs) text ∙ simp append_assoc;
    }
