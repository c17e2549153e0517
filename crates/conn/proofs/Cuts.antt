-- The messages of a connection are the same in every cut.
use Rattle.std.proofs.Common.{◌≡◌, ◌⊎◌, ◌≤◌, ◌+◌, ◌-◌, ℕ, true, false, List, [], ◌∷◌, ◌++◌, length, take, refl, sym, ap, ap₂, ◌∙◌, append_assoc, arith, inl, inr, length-append}
use Rattle.std.specs.Prelude.{Some, None}
use Rattle.std.specs.List.{AllByRecursion}
use Rattle.std.proofs.lemmas.List.{append_cancel_left, append-nil}
use Rattle.std.proofs.Math.Seq.{take-append-add}
use Rattle.std.proofs.lemmas.List.Elements.{All-from_recursion}
use Rattle.httparse.specs.Ascii.{crlf_bytes}
use Rattle.httparse.specs.Grammar.{RequestHead, print_request, ChunkLine, IsChunkLine, print_chunk_line, chunk_size, HasNoChunkLine, Field, LineEnd, print_section}
use Rattle.httparse.proofs.GrammarLemmas.{request_unique}
use Rattle.httparse.proofs.ChunkLemmas.{chunk_line_unique}
use Rattle.wire_http.specs.Head.{refusal_of, closes, most_body}
use Rattle.conn.specs.Message.{Chunk, chunks_text, content, IsChunk, IsLast, IsTrailer, Body, Plain, InChunks, body_text, Message, message_text, messages_text, IsBody}
use Rattle.conn.specs.Cut.{BodyPart, InPlain, AtLine, InData, AtTrailer, part_text, IsPart, IsMore, IsOpenPart, IsBadPart, IsBadLine, IsBadTrailer, Tail, tail_text, IsTail, OpenHead, OpenBody, NoHead, Breaks, NoBody, Closing, IsKept}
use Rattle.conn.specs.Unique.{FewIsNotMany, FewTrailersAreNotMany, HasOneCut, CutsAreSteps, StepsMakeCuts, EndsStay}
use Rattle.conn.proofs.Feeding.{tail_more}
use Rattle.std.proofs.lemmas.Grind.{flat_map-append}
use Rattle.wire_http.specs.declared.head.BodyLen.TheVariants.{Sized, Chunked}
use Rattle.wire_http.specs.declared.refusal.WireRefusal.{WireRefusal}
use Rattle.conn.proofs.Bodies.{push}
use Rattle.conn.proofs.Few.{few_trailers}
use Rattle.conn.proofs.FewHeads.{few_heads}
use Rattle.conn.proofs.Uniqueness.{same_length, split, ending, message_unique}

-- a text that is no longer than n stands in the first n bytes
pub in_front : (n : ℕ) (text more : List ℕ) → length text ≤ n → take n (text ++ more) ≡ text ++ take (n - length text) more
in_front n text more short = let e : n ≡ length text + (n - length text) = omega arith in ap (λ k. take k (text ++ more)) e ∙ take-append-add text more (n - length text)

-- a line at the front is no open and no bad line
pub no_line : (l : ChunkLine) (rest more : List ℕ) → IsChunkLine l → length (print_chunk_line l) ≤ 256 → rest ≡ print_chunk_line l ++ more → HasNoChunkLine rest → ⊥
no_line l rest more is short e none = none l more (is, e)

pub no_bad_line : (l : ChunkLine) (rest more : List ℕ) → IsChunkLine l → length (print_chunk_line l) ≤ 256 → rest ≡ print_chunk_line l ++ more → IsBadLine rest → ⊥
no_bad_line l rest more is short e (inl never) = never [] l more (is, append-nil rest ∙ e)
no_bad_line l rest more is short e (inr (long, none)) = none l (take (256 - length (print_chunk_line l)) more) (is, ap (take 256) e ∙ in_front 256 (print_chunk_line l) more short)

no_bad_trailer : FewTrailersAreNotMany → (fs : List Field) (a : LineEnd) (rest more : List ℕ) → IsTrailer fs a → rest ≡ print_section fs a ++ more → IsBadTrailer rest → ⊥
no_bad_trailer few fs a rest more is e (inl never) = never [] fs a more (All-from_recursion _ fs is.each, append-nil rest ∙ e)
no_bad_trailer few fs a rest more is e (inr (inl exceeds)) = few rest fs a more exceeds (All-from_recursion _ fs is.each, e) is.few
no_bad_trailer few fs a rest more is e (inr (inr (long, none))) =
    none fs a (take (16384 - length (print_section fs a)) more) (All-from_recursion _ fs is.each, ap (take 16384) e ∙ in_front 16384 (print_section fs a) more is.short)

-- a part with a rest that stops there, open or refused
abbrev pub Stops : ℕ → RequestHead → BodyPart → List ℕ → Type 0
Stops limit h p rest = IsOpenPart h p rest ⊎ ((r : WireRefusal) × IsBadPart limit h p rest r)

-- the rest of chunks at a line: no line can stand there
module _ (few : FewTrailersAreNotMany) (limit : ℕ) (h : RequestHead) where
  not_at_line : (before cs ds : List Chunk) (l : ChunkLine) (fs : List Field) (a : LineEnd) (x rest : List ℕ)
      → AllByRecursion IsChunk cs → AllByRecursion IsChunk ds → IsLast l → length (content before) + length (content cs) ≤ most_body limit h
      → chunks_text cs ++ ending l fs a x ≡ chunks_text ds ++ rest → Stops limit h (AtLine (before ++ ds)) rest → ⊥
  not_at_line before [] [] l fs a x rest ec ed il sum e (inl stop) = no_line l rest (print_section fs a ++ x) il.line il.short (sym e) stop.1
  not_at_line before [] [] l fs a x rest ec ed il sum e (inr (r, inl bad)) = no_bad_line l rest (print_section fs a ++ x) il.line il.short (sym e) bad.1
  not_at_line before [] [] l fs a x rest ec ed il sum e (inr (r, inr large)) =
      let same = chunk_line_unique rest l large.1.line (print_section fs a ++ x) large.1.after (il.line, sym e) (large.1.is_line, large.1.reads) in
      omega (arith, ap chunk_size same.0, il.none, large.1.passes, ap (λ cs. length (content cs)) (append-nil before))
  not_at_line before [] (d ∷ ds) l fs a x rest ec ed il sum e stops =
      let same = chunk_line_unique (ending l fs a x) l d.line (print_section fs a ++ x) (d.bytes ++ (crlf_bytes ++ (chunks_text ds ++ rest))) (il.line, refl) (ed.0.line, e ∙ split d ds rest) in
      omega (arith, ap chunk_size same.0, il.none, ed.0.sized, ed.0.not_last)
  not_at_line before (c ∷ cs) [] l fs a x rest ec ed il sum e (inl stop) = no_line c.line rest (c.bytes ++ (crlf_bytes ++ (chunks_text cs ++ ending l fs a x))) ec.0.line ec.0.short (sym e ∙ split c cs (ending l fs a x)) stop.1
  not_at_line before (c ∷ cs) [] l fs a x rest ec ed il sum e (inr (r, inl bad)) = no_bad_line c.line rest (c.bytes ++ (crlf_bytes ++ (chunks_text cs ++ ending l fs a x))) ec.0.line ec.0.short (sym e ∙ split c cs (ending l fs a x)) bad.1
  not_at_line before (c ∷ cs) [] l fs a x rest ec ed il sum e (inr (r, inr large)) =
      let same = chunk_line_unique rest c.line large.1.line (c.bytes ++ (crlf_bytes ++ (chunks_text cs ++ ending l fs a x))) large.1.after (ec.0.line, sym e ∙ split c cs (ending l fs a x)) (large.1.is_line, large.1.reads) in
      omega (arith, ap chunk_size same.0, ec.0.sized, large.1.passes, length-append c.bytes (content cs), ap (λ cs. length (content cs)) (append-nil before))
  not_at_line before (c ∷ cs) (d ∷ ds) l fs a x rest ec ed il sum e stops =
      let after_c : List ℕ = crlf_bytes ++ (chunks_text cs ++ ending l fs a x) in
      let after_d : List ℕ = crlf_bytes ++ (chunks_text ds ++ rest) in
      let line = chunk_line_unique (print_chunk_line c.line ++ (c.bytes ++ after_c)) c.line d.line (c.bytes ++ after_c) (d.bytes ++ after_d) (ec.0.line, refl) (ed.0.line, sym (split c cs (ending l fs a x)) ∙ e ∙ split d ds rest) in
      let bytes = same_length c.bytes d.bytes after_c after_d (sym ec.0.sized ∙ ap chunk_size line.0 ∙ ed.0.sized) line.1 in
      let next = append_cancel_left crlf_bytes _ _ bytes.1 in
      let carried = push (λ c. c.bytes) before d in
      not_at_line (before ++ d ∷ []) cs ds l fs a x rest ec.1 ed.1 il (omega (arith, ap length carried, length-append (content before) d.bytes, length-append c.bytes (content cs), ap length bytes.0)) next (rw (append_assoc before (d ∷ []) ds) stops)

  -- the strip of one equal chunk
  next_chunk : (c d : Chunk) (cs ds : List Chunk) (x y : List ℕ) → IsChunk c → IsChunk d → chunks_text (c ∷ cs) ++ x ≡ chunks_text (d ∷ ds) ++ y
      → chunks_text cs ++ x ≡ chunks_text ds ++ y
  next_chunk c d cs ds x y ic id e =
      let after_c : List ℕ = crlf_bytes ++ (chunks_text cs ++ x) in
      let after_d : List ℕ = crlf_bytes ++ (chunks_text ds ++ y) in
      let line = chunk_line_unique (print_chunk_line c.line ++ (c.bytes ++ after_c)) c.line d.line (c.bytes ++ after_c) (d.bytes ++ after_d) (ic.line, refl) (id.line, sym (split c cs x) ∙ e ∙ split d ds y) in
      let bytes = same_length c.bytes d.bytes after_c after_d (sym ic.sized ∙ ap chunk_size line.0 ∙ id.sized) line.1 in
      append_cancel_left crlf_bytes _ _ bytes.1

  -- the line of a chunk isn't the last line
  not_last : (c : Chunk) (cs : List Chunk) (l : ChunkLine) (x y : List ℕ) → IsChunk c → IsChunkLine l → chunk_size l ≡ 0 → chunks_text (c ∷ cs) ++ x ≡ print_chunk_line l ++ y → ⊥
  not_last c cs l x y ic il zero e =
      let same = chunk_line_unique (print_chunk_line l ++ y) c.line l (c.bytes ++ (crlf_bytes ++ (chunks_text cs ++ x))) y (ic.line, sym e ∙ split c cs x) (il, refl) in
      omega (arith, ap chunk_size same.0, zero, ic.sized, ic.not_last)

  not_in_data : (cs ds : List Chunk) (l line : ChunkLine) (fs : List Field) (a : LineEnd) (x bytes rest : List ℕ)
      → AllByRecursion IsChunk cs → AllByRecursion IsChunk ds → IsLast l → IsMore line → length bytes ≤ chunk_size line
      → chunks_text cs ++ ending l fs a x ≡ chunks_text ds ++ (print_chunk_line line ++ (bytes ++ rest)) → Stops limit h (InData [] line bytes) rest → ⊥
  not_in_data [] [] l line fs a x bytes rest ec ed il im few e stops =
      let same = chunk_line_unique (ending l fs a x) l line (print_section fs a ++ x) (bytes ++ rest) (il.line, refl) (im.line, e) in
      omega (arith, ap chunk_size same.0, il.none, im.some)
  not_in_data [] (d ∷ ds) l line fs a x bytes rest ec ed il im few e stops = not_last d ds l (print_chunk_line line ++ (bytes ++ rest)) (print_section fs a ++ x) ed.0 il.line il.none (sym e)
  not_in_data (c ∷ cs) [] l line fs a x bytes rest ec ed il im few e stops =
      let after : List ℕ = chunks_text cs ++ ending l fs a x in
      let same = chunk_line_unique (print_chunk_line line ++ (bytes ++ rest)) c.line line (c.bytes ++ (crlf_bytes ++ after)) (bytes ++ rest) (ec.0.line, sym e ∙ split c cs (ending l fs a x)) (im.line, refl) in
      let size : length c.bytes ≡ chunk_size line = sym ec.0.sized ∙ ap chunk_size same.0 in
      let long : length c.bytes + (2 + length after) ≡ length bytes + length rest =
      sym (length-append c.bytes (crlf_bytes ++ after) ∙ ap (λ k. length c.bytes + k) (length-append crlf_bytes after)) ∙ ap length same.1 ∙ length-append bytes rest in
      data_stops c line bytes rest after size long few same.1 stops
    where
      data_stops : (c : Chunk) (line : ChunkLine) (bytes rest after : List ℕ) → length c.bytes ≡ chunk_size line → length c.bytes + (2 + length after) ≡ length bytes + length rest
          → length bytes ≤ chunk_size line → c.bytes ++ (crlf_bytes ++ after) ≡ bytes ++ rest → Stops limit h (InData [] line bytes) rest → ⊥
      data_stops c line bytes rest after size long few e (inl (inl stop)) = omega (arith, ap length stop.0, stop.1)
      data_stops c line bytes rest after size long few e (inl (inr stop)) = omega (arith, ap length stop.0, stop.1)
      data_stops c line bytes rest after size long few e (inr (r, bad)) =
          let same = same_length c.bytes bytes (crlf_bytes ++ after) rest (size ∙ sym bad.1) e in
          elim (rw (sym same.1) at bad.2) [ inl differs ↦ differs refl | inr differs ↦ differs refl ]
  not_in_data (c ∷ cs) (d ∷ ds) l line fs a x bytes rest ec ed il im few e stops =
      not_in_data cs ds l line fs a x bytes rest ec.1 ed.1 il im few (next_chunk c d cs ds (ending l fs a x) (print_chunk_line line ++ (bytes ++ rest)) ec.0 ed.0 e) stops

  not_at_trailer : (cs ds : List Chunk) (l last : ChunkLine) (fs : List Field) (a : LineEnd) (x rest : List ℕ)
      → AllByRecursion IsChunk cs → AllByRecursion IsChunk ds → IsLast l → IsLast last → IsTrailer fs a
      → chunks_text cs ++ ending l fs a x ≡ chunks_text ds ++ (print_chunk_line last ++ rest) → Stops limit h (AtTrailer [] last) rest → ⊥
  not_at_trailer [] [] l last fs a x rest ec ed il im tr e (inl stop) =
      let same = chunk_line_unique (ending l fs a x) l last (print_section fs a ++ x) rest (il.line, refl) (im.line, e) in
      stop.1 fs a x (All-from_recursion _ fs tr.each, sym same.1)
  not_at_trailer [] [] l last fs a x rest ec ed il im tr e (inr (r, bad)) =
      let same = chunk_line_unique (ending l fs a x) l last (print_section fs a ++ x) rest (il.line, refl) (im.line, e) in
      no_bad_trailer few fs a rest x tr (sym same.1) bad.1
  not_at_trailer [] (d ∷ ds) l last fs a x rest ec ed il im tr e stops = not_last d ds l (print_chunk_line last ++ rest) (print_section fs a ++ x) ed.0 il.line il.none (sym e)
  not_at_trailer (c ∷ cs) [] l last fs a x rest ec ed il im tr e stops = not_last c cs last (ending l fs a x) rest ec.0 im.line im.none e
  not_at_trailer (c ∷ cs) (d ∷ ds) l last fs a x rest ec ed il im tr e stops =
      not_at_trailer cs ds l last fs a x rest ec.1 ed.1 il im tr (next_chunk c d cs ds (ending l fs a x) (print_chunk_line last ++ rest) ec.0 ed.0 e) stops

  -- no whole body stands where one stops
  pub not_body : (b : Body) (p : BodyPart) (x rest : List ℕ) → IsBody limit h b → IsPart limit h p → body_text b ++ x ≡ part_text p ++ rest → Stops limit h p rest → ⊥
  not_body (Plain bs) (InPlain bytes) x rest ib ip e (inl stop) =
      let same : Sized (length bs) ≡ Sized stop.1 = sym ib ∙ stop.2 in
      let n : length bs ≡ stop.1 = cc in
      omega (arith, n, stop.3, ap length stop.0, ap length e, length-append bs x, length-append bytes rest)
  not_body (Plain bs) (InPlain bytes) x rest ib ip e (inr (r, bad)) = bad
  not_body (Plain bs) (AtLine ds) x rest ib ip e stops = let no : Sized (length bs) ≡ Chunked = sym ib ∙ ip.0 in absurd (cc)
  not_body (Plain bs) (InData ds line bytes) x rest ib ip e stops = let no : Sized (length bs) ≡ Chunked = sym ib ∙ ip.0.0 in absurd (cc)
  not_body (Plain bs) (AtTrailer ds last) x rest ib ip e stops = let no : Sized (length bs) ≡ Chunked = sym ib ∙ ip.0.0 in absurd (cc)
  not_body (InChunks cs l fs a) (InPlain bytes) x rest ib ip e stops = let no : Sized ip.0 ≡ Chunked = sym ip.1 ∙ ib.0 in absurd (cc)
  not_body (InChunks cs l fs a) (AtLine ds) x rest ib ip e stops =
      let whole : body_text (InChunks cs l fs a) ++ x ≡ chunks_text cs ++ ending l fs a x = simp append_assoc in
      not_at_line [] cs ds l fs a x rest ib.1 ip.1 ib.3 (omega (arith, ib.2)) (sym whole ∙ e) stops
  not_body (InChunks cs l fs a) (InData ds line bytes) x rest ib ip e stops =
      let whole : body_text (InChunks cs l fs a) ++ x ≡ chunks_text cs ++ ending l fs a x = simp append_assoc in
      let part : part_text (InData ds line bytes) ++ rest ≡ chunks_text ds ++ (print_chunk_line line ++ (bytes ++ rest)) = simp append_assoc in
      not_in_data cs ds l line fs a x bytes rest ib.1 ip.0.1 ib.3 ip.1 ip.2 (sym whole ∙ e ∙ part) stops
  not_body (InChunks cs l fs a) (AtTrailer ds last) x rest ib ip e stops =
      let whole : body_text (InChunks cs l fs a) ++ x ≡ chunks_text cs ++ ending l fs a x = simp append_assoc in
      let part : part_text (AtTrailer ds last) ++ rest ≡ chunks_text ds ++ (print_chunk_line last ++ rest) = append_assoc (chunks_text ds) (print_chunk_line last) rest in
      not_at_trailer cs ds l last fs a x rest ib.1 ip.0.1 ib.3 ip.1 ib.4 (sym whole ∙ e ∙ part) stops

-- no message after which the connection goes on stands where the last tail does
module _ (heads : FewIsNotMany) (few : FewTrailersAreNotMany) (limit : ℕ) where
  not_tail : (m : Message) (x : List ℕ) (t : Tail) → IsKept limit m → IsTail limit t → message_text m ++ x ≡ tail_text t → ⊥
  not_tail m x (OpenHead part) im it e = it.not_yet m.head (body_text m.body ++ x) (im.0.0.head, sym e ∙ append_assoc (print_request m.head) (body_text m.body) x)
  not_tail m x (NoHead rest) im (inl never) e =
      never [] m.head (body_text m.body ++ x) (im.0.0.head, append-nil rest ∙ sym e ∙ append_assoc (print_request m.head) (body_text m.body) x)
  not_tail m x (NoHead rest) im (inr (inl exceeds)) e =
      heads rest m.head (body_text m.body ++ x) exceeds (im.0.0.head, sym e ∙ append_assoc (print_request m.head) (body_text m.body) x) im.0.0.few
  not_tail m x (NoHead rest) im (inr (inr (long, none))) e =
      let text : rest ≡ print_request m.head ++ (body_text m.body ++ x) = sym e ∙ append_assoc (print_request m.head) (body_text m.body) x in
      none m.head (take (16384 - length (print_request m.head)) (body_text m.body ++ x))
      (im.0.0.head, ap (take 16384) text ∙ in_front 16384 (print_request m.head) (body_text m.body ++ x) im.0.0.short)
  not_tail m x (Breaks h rest r) im it e =
      let same = request_unique (print_request h ++ rest) m.head h (body_text m.body ++ x) rest (im.0.0.head, sym e ∙ append_assoc (print_request m.head) (body_text m.body) x) it.0.reads in
      let none : None ≡ Some r = sym im.0.0.passes ∙ ap (refusal_of limit) same.0 ∙ it.1 in
      absurd (cc)
  not_tail m x (OpenBody h p rest) im it e =
      let same = request_unique (print_request h ++ (part_text p ++ rest)) m.head h (body_text m.body ++ x) (part_text p ++ rest) (im.0.0.head, sym e ∙ append_assoc (print_request m.head) (body_text m.body) x) (it.0.head, refl) in
      not_body few limit h m.body p x rest (rw same.0 at im.0.1) it.1 same.1 (inl it.2)
  not_tail m x (NoBody h p rest r) im it e =
      let same = request_unique (print_request h ++ (part_text p ++ rest)) m.head h (body_text m.body ++ x) (part_text p ++ rest) (im.0.0.head, sym e ∙ append_assoc (print_request m.head) (body_text m.body) x) (it.0.head, refl) in
      not_body few limit h m.body p x rest (rw same.0 at im.0.1) it.1 same.1 (inr (r, it.2))
  not_tail m x (Closing n rest) im it e =
      let same = message_unique limit m n x rest im.0 it.0 e in
      let clash : false ≡ true = sym im.1 ∙ ap (λ z. closes z.head) same.0 ∙ it.1 in
      absurd (cc)

  same_cut : (ms ns : List Message) (s t : Tail) → AllByRecursion (IsKept limit) ms → AllByRecursion (IsKept limit) ns → IsTail limit s → IsTail limit t
      → messages_text ms ++ tail_text s ≡ messages_text ns ++ tail_text t → (ms ≡ ns) × (tail_text s ≡ tail_text t)
  same_cut [] [] s t em en is it e = (refl, e)
  same_cut [] (n ∷ ns) s t em en is it e =
      absurd (not_tail n (messages_text ns ++ tail_text t) s en.0 is (sym (append_assoc (message_text n) (messages_text ns) (tail_text t)) ∙ sym e))
  same_cut (m ∷ ms) [] s t em en is it e =
      absurd (not_tail m (messages_text ms ++ tail_text s) t em.0 it (sym (append_assoc (message_text m) (messages_text ms) (tail_text s)) ∙ e))
  same_cut (m ∷ ms) (n ∷ ns) s t em en is it e =
      let same = message_unique limit m n (messages_text ms ++ tail_text s) (messages_text ns ++ tail_text t) em.0.0 en.0.0
      (sym (append_assoc (message_text m) (messages_text ms) (tail_text s)) ∙ e ∙ append_assoc (message_text n) (messages_text ns) (tail_text t)) in
      let others = same_cut ms ns s t em.1 en.1 is it same.1 in
      (ap₂ (λ z zs. z ∷ zs) same.0 others.0, others.1)

pub one_cut : HasOneCut
one_cut limit bytes c d ic id = same_cut few_heads few_trailers limit c.whole d.whole c.tail d.tail ic.whole id.whole ic.tail id.tail (sym ic.text ∙ id.text)

-- the messages in front of a text are the first ones of every cut of it
module _ (limit : ℕ) where
  first_messages : (ms ns : List Message) (x : List ℕ) (t : Tail) → AllByRecursion (IsKept limit) ms → AllByRecursion (IsKept limit) ns → IsTail limit t
      → messages_text ms ++ x ≡ messages_text ns ++ tail_text t
      → (more : List Message) × ((ns ≡ ms ++ more) × (AllByRecursion (IsKept limit) more × (x ≡ messages_text more ++ tail_text t)))
  first_messages [] ns x t em en it e = (ns, (refl, (en, e)))
  first_messages (m ∷ ms) [] x t em en it e =
      absurd (not_tail few_heads few_trailers limit m (messages_text ms ++ x) t em.0 it (sym (append_assoc (message_text m) (messages_text ms) x) ∙ e))
  first_messages (m ∷ ms) (n ∷ ns) x t em en it e =
      let same = message_unique limit m n (messages_text ms ++ x) (messages_text ns ++ tail_text t) em.0.0 en.0.0
      (sym (append_assoc (message_text m) (messages_text ms) x) ∙ e ∙ append_assoc (message_text n) (messages_text ns) (tail_text t)) in
      let others = first_messages ms ns x t em.1 en.1 it same.1 in
      (others.0, (ap₂ (λ z zs. z ∷ zs) (sym same.0) others.1.0, others.1.1))

pub cuts_are_steps : CutsAreSteps
cuts_are_steps limit xs ys c d ic id =
    let text : messages_text c.whole ++ (tail_text c.tail ++ ys) ≡ messages_text d.whole ++ tail_text d.tail =
    sym (append_assoc (messages_text c.whole) (tail_text c.tail) ys) ∙ sym (ap (λ zs. zs ++ ys) ic.text) ∙ id.text in
    let found = first_messages limit c.whole d.whole (tail_text c.tail ++ ys) d.tail ic.whole id.whole id.tail text in
    (found.0, (found.1.0, record { each = found.1.1.0; tail = id.tail; text = found.1.1.1 }))

pub each_append : {A : Type 0} (P : A → Type 0) (xs ys : List A) → AllByRecursion P xs → AllByRecursion P ys → AllByRecursion P (xs ++ ys)
each_append P [] ys ex ey = ey
each_append P (x ∷ xs) ys ex ey = (ex.0, each_append P xs ys ex.1 ey)

pub steps_make_cuts : StepsMakeCuts
steps_make_cuts limit xs ys c more t ic step = record {
  whole = each_append (IsKept limit) c.whole more ic.whole step.each;
  tail = step.tail;
  text = ap (λ zs. zs ++ ys) ic.text ∙ append_assoc (messages_text c.whole) (tail_text c.tail) ys ∙ ap (λ zs. messages_text c.whole ++ zs) step.text
      ∙ sym (append_assoc (messages_text c.whole) (messages_text more) (tail_text t)) ∙ ap (λ zs. zs ++ tail_text t) (sym (flat_map-append message_text c.whole more));
}

pub ends_stay : EndsStay
ends_stay limit xs ys c ic final =
    let m = tail_more limit c.tail ys ic.tail final in (
      m.tail,
      (
        m.events,
        record {
          whole = ic.whole;
          tail = m.is_tail;
          text = ap (λ zs. zs ++ ys) ic.text ∙ append_assoc (messages_text c.whole) (tail_text c.tail) ys ∙ ap (λ zs. messages_text c.whole ++ zs) m.text;
        },
      ),
    )
