-- Two cuts of the same bytes give the same, but for what may still wait.
use Rattle.std.proofs.Common.{◌≡◌, ◌⊎◌, ◌≤◌, ◌+◌, ℕ, List, [], ◌∷◌, ◌++◌, length, refl, sym, ap, ap₂, ◌∙◌, append_assoc, arith, inl, inr, length-append}
use Rattle.std.specs.List.{AllByRecursion}
use Rattle.std.proofs.lemmas.List.{append_cancel_left, append-nil}
use Rattle.httparse.specs.Ascii.{crlf_bytes}
use Rattle.httparse.specs.Grammar.{RequestHead, ChunkLine, IsChunkLine, print_chunk_line, chunk_size}
use Rattle.httparse.proofs.ChunkLemmas.{chunk_line_unique}
use Rattle.wire_http.specs.Head.{framing, most_body}
use Rattle.wire_http.specs.declared.head.BodyLen.TheVariants.{Sized, Chunked}
use Rattle.wire_http.specs.declared.refusal.WireRefusal.{WireRefusal}
use Rattle.conn.specs.Message.{Chunk, chunks_text, content, IsChunk, IsLast}
use Rattle.conn.specs.Cut.{BodyPart, InPlain, AtLine, InData, AtTrailer, part_text, IsPart, IsMore, IsOpenPart, IsBadPart}
use Rattle.conn.specs.Unique.{MayWaitPart}
use Rattle.conn.proofs.Bodies.{push}
use Rattle.conn.proofs.Cuts.{Stops, no_line, no_bad_line}
use Rattle.conn.proofs.Uniqueness.{same_length, split}

-- where a body in chunks stops behind its whole chunks
data Here : Type 0 where
  AtL : Here
  InD : (line : ChunkLine) (bytes : List ℕ) → Here
  AtT : (last : ChunkLine) → Here

abbrev here_text : Here → List ℕ
here_text AtL = []
here_text (InD line bytes) = print_chunk_line line ++ bytes
here_text (AtT last) = print_chunk_line last

abbrev as_part : List Chunk → Here → BodyPart
as_part cs AtL = AtLine cs
as_part cs (InD line bytes) = InData cs line bytes
as_part cs (AtT last) = AtTrailer cs last

abbrev IsHere : Here → Type 0
IsHere AtL = Unit {0}
IsHere (InD line bytes) = IsMore line × (length bytes ≤ chunk_size line)
IsHere (AtT last) = IsLast last

-- how many bytes are announced there
abbrev more_of : Here → ℕ
more_of AtL = 0
more_of (InD line bytes) = chunk_size line
more_of (AtT last) = 0

-- in the bytes of a chunk nothing is left, or all its bytes came
abbrev IsFullOrAtEnd : ChunkLine → List ℕ → List ℕ → Type 0
IsFullOrAtEnd line bytes x = (x ≡ []) ⊎ (length bytes ≡ chunk_size line)

full_or_end : (limit : ℕ) (h : RequestHead) (cs : List Chunk) (line : ChunkLine) (bytes x : List ℕ) → Stops limit h (InData cs line bytes) x → IsFullOrAtEnd line bytes x
full_or_end limit h cs line bytes x (inl (inl stop)) = inl stop.0
full_or_end limit h cs line bytes x (inl (inr stop)) = inr stop.1
full_or_end limit h cs line bytes x (inr (r, bad)) = inr bad.1

in_data_same : (line : ChunkLine) (a b x y : List ℕ) → length a ≤ chunk_size line → length b ≤ chunk_size line → a ++ x ≡ b ++ y
    → IsFullOrAtEnd line a x → IsFullOrAtEnd line b y → (a ≡ b) × (x ≡ y)
in_data_same line a b x y fa fb e (inl none) (inl none') = same_length a b x y (omega (arith, ap length e, length-append a x, length-append b y, ap length none, ap length none')) e
in_data_same line a b x y fa fb e (inl none) (inr full) = same_length a b x y (omega (arith, ap length e, length-append a x, length-append b y, ap length none, full, fa, fb)) e
in_data_same line a b x y fa fb e (inr full) (inl none) = same_length a b x y (omega (arith, ap length e, length-append a x, length-append b y, ap length none, full, fa, fb)) e
in_data_same line a b x y fa fb e (inr full) (inr full') = same_length a b x y (full ∙ sym full') e

module _ (limit : ℕ) (h : RequestHead) where
  -- where a line stands that is within the limit, nothing stops at a line
  line_stop : (before : List Chunk) (x more : List ℕ) (l : ChunkLine) → IsChunkLine l → length (print_chunk_line l) ≤ 256
      → length (content before) + chunk_size l ≤ most_body limit h → x ≡ print_chunk_line l ++ more → Stops limit h (AtLine (before ++ [])) x → ⊥
  line_stop before x more l is short sum e (inl stop) = no_line l x more is short e stop.1
  line_stop before x more l is short sum e (inr (r, inl bad)) = no_bad_line l x more is short e bad.1
  line_stop before x more l is short sum e (inr (r, inr large)) =
      let same = chunk_line_unique x l large.1.line more large.1.after (is, e) (large.1.is_line, large.1.reads) in
      omega (arith, ap chunk_size same.0, large.1.passes, sum, ap (λ cs. length (content cs)) (append-nil before))

  -- a whole chunk stands where the bytes of one stop
  data_stop : (cs : List Chunk) (d : Chunk) (line : ChunkLine) (bytes x after : List ℕ) → IsChunk d → line ≡ d.line → length bytes ≤ chunk_size line
      → bytes ++ x ≡ d.bytes ++ (crlf_bytes ++ after) → Stops limit h (InData cs line bytes) x → ⊥
  data_stop cs d line bytes x after id same few e (inl (inl stop)) =
      omega (arith, ap length e, length-append bytes x, length-append d.bytes (crlf_bytes ++ after), length-append crlf_bytes after, ap length stop.0, few, ap chunk_size same, id.sized)
  data_stop cs d line bytes x after id same few e (inl (inr stop)) =
      omega (arith, ap length e, length-append bytes x, length-append d.bytes (crlf_bytes ++ after), length-append crlf_bytes after, ap length stop.0, stop.1, ap chunk_size same, id.sized)
  data_stop cs d line bytes x after id same few e (inr (r, bad)) =
      let parts = same_length bytes d.bytes x (crlf_bytes ++ after) (bad.1 ∙ ap chunk_size same ∙ id.sized) e in
      elim (rw parts.1 at bad.2) [ inl differs ↦ differs refl | inr differs ↦ differs refl ]

  -- no whole chunk stands where chunks stop
  edge : (before : List Chunk) (p : Here) (d : Chunk) (x after : List ℕ) → IsChunk d → IsHere p → length (content before) + length d.bytes ≤ most_body limit h
      → Stops limit h (as_part (before ++ []) p) x → here_text p ++ x ≡ print_chunk_line d.line ++ (d.bytes ++ (crlf_bytes ++ after)) → ⊥
  edge before AtL d x after id ip sum stops e = line_stop before x (d.bytes ++ (crlf_bytes ++ after)) d.line id.line id.short (omega (arith, id.sized, sum)) e stops
  edge before (InD line bytes) d x after id ip sum stops e =
      let same = chunk_line_unique (print_chunk_line line ++ (bytes ++ x)) line d.line (bytes ++ x) (d.bytes ++ (crlf_bytes ++ after)) (ip.0.line, refl) (id.line, sym (append_assoc (print_chunk_line line) bytes x) ∙ e) in
      data_stop (before ++ []) d line bytes x after id same.0 ip.1 same.1 stops
  edge before (AtT last) d x after id ip sum stops e =
      let same = chunk_line_unique (print_chunk_line last ++ x) last d.line x (d.bytes ++ (crlf_bytes ++ after)) (ip.line, refl) (id.line, e) in
      omega (arith, ap chunk_size same.0, ip.none, id.sized, id.not_last)

  record SameStop (cs ds : List Chunk) (p q : Here) (x y : List ℕ) : Type 0 where
    pub chunks : cs ≡ ds
    pub here : p ≡ q
    pub rest : x ≡ y

  -- both stop behind the same chunks
  same_here : (before before' : List Chunk) (p q : Here) (x y : List ℕ) → length (content before) ≡ length (content before') → IsHere p → IsHere q
      → length (content before) + more_of p ≤ most_body limit h → length (content before') + more_of q ≤ most_body limit h
      → Stops limit h (as_part (before ++ []) p) x → Stops limit h (as_part (before' ++ []) q) y → here_text p ++ x ≡ here_text q ++ y → SameStop [] [] p q x y
  same_here before before' AtL AtL x y same ip iq sp sq sx sy e = record { chunks = refl; here = refl; rest = e }
  same_here before before' AtL (InD line bytes) x y same ip iq sp sq sx sy e =
      absurd (line_stop before x (bytes ++ y) line iq.0.line iq.0.short (omega (arith, same, sq)) (e ∙ append_assoc (print_chunk_line line) bytes y) sx)
  same_here before before' AtL (AtT last) x y same ip iq sp sq sx sy e =
      absurd (line_stop before x y last iq.line iq.short (omega (arith, same, sp, iq.none)) e sx)
  same_here before before' (InD line bytes) AtL x y same ip iq sp sq sx sy e =
      absurd (line_stop before' y (bytes ++ x) line ip.0.line ip.0.short (omega (arith, same, sp)) (sym e ∙ append_assoc (print_chunk_line line) bytes x) sy)
  same_here before before' (AtT last) AtL x y same ip iq sp sq sx sy e =
      absurd (line_stop before' y x last ip.line ip.short (omega (arith, same, sq, ip.none)) (sym e) sy)
  same_here before before' (InD line bytes) (InD line' bytes') x y same ip iq sp sq sx sy e =
      let text : print_chunk_line line ++ (bytes ++ x) ≡ print_chunk_line line' ++ (bytes' ++ y) = sym (append_assoc (print_chunk_line line) bytes x) ∙ e ∙ append_assoc (print_chunk_line line') bytes' y in
      let line_is = chunk_line_unique (print_chunk_line line ++ (bytes ++ x)) line line' (bytes ++ x) (bytes' ++ y) (ip.0.line, refl) (iq.0.line, text) in
      let stop = full_or_end limit h (before' ++ []) line' bytes' y sy in
      let parts = in_data_same line' bytes bytes' x y (omega (arith, ip.1, ap chunk_size line_is.0)) iq.1 line_is.1 (rw line_is.0 at (full_or_end limit h (before ++ []) line bytes x sx)) stop in
      record { chunks = refl; here = ap₂ InD line_is.0 parts.0; rest = parts.1 }
  same_here before before' (InD line bytes) (AtT last) x y same ip iq sp sq sx sy e =
      let line_is = chunk_line_unique (print_chunk_line line ++ (bytes ++ x)) line last (bytes ++ x) y (ip.0.line, refl) (iq.line, sym (append_assoc (print_chunk_line line) bytes x) ∙ e) in
      absurd (omega (arith, ap chunk_size line_is.0, ip.0.some, iq.none))
  same_here before before' (AtT last) (InD line bytes) x y same ip iq sp sq sx sy e =
      let line_is = chunk_line_unique (print_chunk_line line ++ (bytes ++ y)) line last (bytes ++ y) x (iq.0.line, refl) (ip.line, sym (append_assoc (print_chunk_line line) bytes y) ∙ sym e) in
      absurd (omega (arith, ap chunk_size line_is.0, iq.0.some, ip.none))
  same_here before before' (AtT last) (AtT last') x y same ip iq sp sq sx sy e =
      let line_is = chunk_line_unique (print_chunk_line last ++ x) last last' x y (ip.line, refl) (iq.line, e) in
      record { chunks = refl; here = ap AtT line_is.0; rest = line_is.1 }

  same_stop : (before before' cs ds : List Chunk) (p q : Here) (x y : List ℕ) → length (content before) ≡ length (content before')
      → AllByRecursion IsChunk cs → AllByRecursion IsChunk ds → IsHere p → IsHere q
      → length (content before) + length (content cs) + more_of p ≤ most_body limit h → length (content before') + length (content ds) + more_of q ≤ most_body limit h
      → Stops limit h (as_part (before ++ cs) p) x → Stops limit h (as_part (before' ++ ds) q) y
      → chunks_text cs ++ (here_text p ++ x) ≡ chunks_text ds ++ (here_text q ++ y) → SameStop cs ds p q x y
  same_stop before before' [] [] p q x y same ec ed ip iq sp sq sx sy e =
      same_here before before' p q x y same ip iq (omega (arith, sp)) (omega (arith, sq)) sx sy e
  same_stop before before' [] (d ∷ ds) p q x y same ec ed ip iq sp sq sx sy e =
      absurd (edge before p d x (chunks_text ds ++ (here_text q ++ y)) ed.0 ip (omega (arith, same, sq, length-append d.bytes (content ds))) sx (e ∙ split d ds (here_text q ++ y)))
  same_stop before before' (c ∷ cs) [] p q x y same ec ed ip iq sp sq sx sy e =
      absurd (edge before' q c y (chunks_text cs ++ (here_text p ++ x)) ec.0 iq (omega (arith, same, sp, length-append c.bytes (content cs))) sy (sym e ∙ split c cs (here_text p ++ x)))
  same_stop before before' (c ∷ cs) (d ∷ ds) p q x y same ec ed ip iq sp sq sx sy e =
      let after_c : List ℕ = crlf_bytes ++ (chunks_text cs ++ (here_text p ++ x)) in
      let after_d : List ℕ = crlf_bytes ++ (chunks_text ds ++ (here_text q ++ y)) in
      let line = chunk_line_unique (print_chunk_line c.line ++ (c.bytes ++ after_c)) c.line d.line (c.bytes ++ after_c) (d.bytes ++ after_d) (ec.0.line, refl) (ed.0.line, sym (split c cs (here_text p ++ x)) ∙ e ∙ split d ds (here_text q ++ y)) in
      let bytes = same_length c.bytes d.bytes after_c after_d (sym ec.0.sized ∙ ap chunk_size line.0 ∙ ed.0.sized) line.1 in
      let next = append_cancel_left crlf_bytes _ _ bytes.1 in
      let carried = push (λ c. c.bytes) before c in
      let carried' = push (λ c. c.bytes) before' d in
      let long : length (content (before ++ c ∷ [])) ≡ length (content before) + length c.bytes = ap length carried ∙ length-append (content before) c.bytes in
      let long' : length (content (before' ++ d ∷ [])) ≡ length (content before') + length d.bytes = ap length carried' ∙ length-append (content before') d.bytes in
      let others = same_stop (before ++ c ∷ []) (before' ++ d ∷ []) cs ds p q x y (omega (arith, long, long', same, ap length bytes.0)) ec.1 ed.1 ip iq
      (omega (arith, long, sp, length-append c.bytes (content cs))) (omega (arith, long', sq, length-append d.bytes (content ds)))
      (rw (append_assoc before (c ∷ []) cs) sx) (rw (append_assoc before' (d ∷ []) ds) sy) next in
      let here : c ≡ d = ap₂ (λ m bs. record { line = m; bytes = bs }) line.0 bytes.0 in
      record { chunks = ap₂ (λ z zs. z ∷ zs) here others.chunks; here = others.here; rest = others.rest }

  -- a part of a body in chunks
  record Placed (p : BodyPart) (x : List ℕ) : Type 0 where
    pub chunks : List Chunk
    pub here : Here
    pub is : as_part chunks here ≡ p
    pub framed : framing h ≡ Chunked
    pub each : AllByRecursion IsChunk chunks
    pub sum : length (content chunks) + more_of here ≤ most_body limit h
    pub is_here : IsHere here
    pub text : part_text p ++ x ≡ chunks_text chunks ++ (here_text here ++ x)

  record PlainPart (p : BodyPart) : Type 0 where
    pub bytes : List ℕ
    pub is : p ≡ InPlain bytes
    pub len : ℕ
    pub framed : framing h ≡ Sized len

  placed : (p : BodyPart) (x : List ℕ) → IsPart limit h p → PlainPart p ⊎ Placed p x
  placed (InPlain bytes) x ip = inl (record { bytes = bytes; is = refl; len = ip.0; framed = ip.1 })
  placed (AtLine cs) x ip = inr (record { chunks = cs; here = AtL; is = refl; framed = ip.0; each = ip.1; sum = ip.2; is_here = tt; text = refl })
  placed (InData cs line bytes) x ip =
      inr (record { chunks = cs; here = InD line bytes; is = refl; framed = ip.0.0; each = ip.0.1; sum = ip.0.2; is_here = (ip.1, ip.2); text = append_assoc (chunks_text cs) (print_chunk_line line ++ bytes) x })
  placed (AtTrailer cs last) x ip =
      inr (record { chunks = cs; here = AtT last; is = refl; framed = ip.0.0; each = ip.0.1; sum = ip.0.2; is_here = ip.1; text = append_assoc (chunks_text cs) (print_chunk_line last) x })

  plain_end : (bytes x : List ℕ) → Stops limit h (InPlain bytes) x → x ≡ []
  plain_end bytes x (inl stop) = stop.0
  plain_end bytes x (inr (r, bad)) = absurd bad

  -- one text stops in one place
  pub same_part : (p q : BodyPart) (x y : List ℕ) → IsPart limit h p → IsPart limit h q → Stops limit h p x → Stops limit h q y
      → part_text p ++ x ≡ part_text q ++ y → (p ≡ q) × (x ≡ y)
  same_part p q x y ip iq sx sy e = by_kind (placed p x ip) (placed q y iq)
    where
      by_kind : PlainPart p ⊎ Placed p x → PlainPart q ⊎ Placed q y → (p ≡ q) × (x ≡ y)
      by_kind (inl a) (inl b) =
          let none = plain_end a.bytes x (rw a.is at sx) in
          let none' = plain_end b.bytes y (rw b.is at sy) in
          let text : a.bytes ≡ b.bytes = sym (append-nil a.bytes) ∙ ap (λ z. a.bytes ++ z) (sym none) ∙ ap (λ r. part_text r ++ x) (sym a.is) ∙ e ∙ ap (λ r. part_text r ++ y) b.is ∙ ap (λ z. b.bytes ++ z) none' ∙ append-nil b.bytes in
          (a.is ∙ ap InPlain text ∙ sym b.is, none ∙ sym none')
      by_kind (inl a) (inr b) = let no : Sized a.len ≡ Chunked = sym a.framed ∙ b.framed in absurd (cc)
      by_kind (inr a) (inl b) = let no : Sized b.len ≡ Chunked = sym b.framed ∙ a.framed in absurd (cc)
      by_kind (inr a) (inr b) =
          let same = same_stop [] [] a.chunks b.chunks a.here b.here x y refl a.each b.each a.is_here b.is_here (omega (arith, a.sum)) (omega (arith, b.sum))
          (rw a.is sx) (rw b.is sy) (sym a.text ∙ e ∙ b.text) in
          (sym a.is ∙ ap₂ as_part same.chunks same.here ∙ b.is, same.rest)

  -- a part is open and refused only where a 65th field may come
  pub open_or_bad : (p : BodyPart) (x : List ℕ) (r : WireRefusal) → IsOpenPart h p x → IsBadPart limit h p x r → MayWaitPart p x
  open_or_bad (InPlain bytes) x r open_part bad = bad
  open_or_bad (AtLine cs) x r open_part (inl (is, inl never)) = never open_part.2.0 open_part.2.1 [] open_part.2.2
  open_or_bad (AtLine cs) x r open_part (inl (is, inr (long, none))) = omega (arith, long, open_part.0)
  open_or_bad (AtLine cs) x r open_part (inr (is, large)) = open_part.1 large.line large.after (large.is_line, large.reads)
  open_or_bad (InData cs line bytes) x r (inl stop) bad = rw stop.0 at bad.2
  open_or_bad (InData cs line bytes) x r (inr stop) bad = (rw stop.0 at bad.2) refl
  open_or_bad (AtTrailer cs last) x r open_part (is, inl never) = absurd (never open_part.2.0 open_part.2.1 open_part.2.2 [] open_part.2.3)
  open_or_bad (AtTrailer cs last) x r open_part (is, inr (inl exceeds)) = exceeds
  open_or_bad (AtTrailer cs last) x r open_part (is, inr (inr (long, none))) = absurd (omega (arith, long, open_part.0))

  -- a part is refused for one reason
  pub one_refusal : (p : BodyPart) (x : List ℕ) (r r' : WireRefusal) → IsBadPart limit h p x r → IsBadPart limit h p x r' → r ≡ r'
  one_refusal (InPlain bytes) x r r' bad bad' = absurd bad
  one_refusal (AtLine cs) x r r' (inl bad) (inl bad') = bad.0 ∙ sym bad'.0
  one_refusal (AtLine cs) x r r' (inl bad) (inr large) = absurd (no_bad_line large.1.line x large.1.after large.1.is_line large.1.short large.1.reads bad.1)
  one_refusal (AtLine cs) x r r' (inr large) (inl bad) = absurd (no_bad_line large.1.line x large.1.after large.1.is_line large.1.short large.1.reads bad.1)
  one_refusal (AtLine cs) x r r' (inr large) (inr large') = large.0 ∙ sym large'.0
  one_refusal (InData cs line bytes) x r r' bad bad' = bad.0 ∙ sym bad'.0
  one_refusal (AtTrailer cs last) x r r' bad bad' = bad.0 ∙ sym bad'.0
