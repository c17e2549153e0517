-- Two cuts of the same bytes are one.
use Rattle.std.proofs.Common.{◌≡◌, ◌≢◌, ℕ, ◌+◌, ◌≤◌, ◌⊎◌, inl, inr, List, [], ◌∷◌, ◌++◌, length, refl, sym, ap, ◌∙◌, subst, arith, append_assoc, append-nil, length-append}
use Rattle.std.specs.List.{AllByRecursion}
use Rattle.cta_site.specs.declared.site.Site.{Site}
use Rattle.cta_site.specs.WellFormed.{IsWellFormed}
use Rattle.cta_site.specs.Bytes.{Without}
use Rattle.replay.specs.Line.{text, http_text, IsLine}
use Rattle.replay.specs.Script.{Record, ScriptTail, Ended, InLine, InBytes, BadLine, LongLine, NoLf, IsScriptTail, IsRecord, HasOneReading, ended, spelling, whole_bytes, tail_bytes}
use Rattle.replay.specs.declared.line.ScriptLine.{ScriptLine}
use Rattle.replay.specs.declared.line.ScriptLine.TheVariants.{Http, Step, End}
use Rattle.replay.proofs.Parts.{same_words, no_word}
use Rattle.replay.proofs.Texts.{http, same_head, same_front}
use Rattle.replay.proofs.SaidLines.{Without-line, same_said}
use Rattle.replay.proofs.Readings.{same_record, against, below_record, spelled, is_line, line_of_record, behind_line}

-- ---- a tail by its first line: a line of a script and what stands behind its LF, or a line that is none, or no LF at all

data Front : Type 0 where
  Said : (line : ScriptLine) (rest : List ℕ) → Front
  Unsaid : (line : List ℕ) → Front
  Open : (part : List ℕ) → Front

abbrev front_of : ScriptTail → Front
front_of Ended = Said End []
front_of (InLine part) = Open part
front_of (InBytes link moment len held) = Said (http link moment len) held
front_of (BadLine line) = Unsaid line
front_of (LongLine part) = Open part
front_of (NoLf link moment bytes byte) = Said (http link moment (length bytes)) (bytes ++ byte ∷ [])

abbrev front_bytes : Site → Front → List ℕ
front_bytes site (Said line rest) = text site line ++ 10 ∷ rest
front_bytes site (Unsaid line) = line ++ 10 ∷ []
front_bytes site (Open part) = part

abbrev IsFrontOf : Site → Front → Type 0
IsFrontOf site (Said line rest) = IsLine site line
IsFrontOf site (Unsaid line) = Without 10 line × ((l : ScriptLine) → IsLine site l → text site l ≢ line)
IsFrontOf site (Open part) = Without 10 part

fronted : (site : Site) (t : ScriptTail) → tail_bytes site t ≡ front_bytes site (front_of t)
fronted site Ended = refl
fronted site (InLine part) = refl
fronted site (InBytes link moment len held) = append_assoc (http_text link moment len) (10 ∷ []) held
fronted site (BadLine line) = refl
fronted site (LongLine part) = refl
fronted site (NoLf link moment bytes byte) =
    append_assoc (ended (http_text link moment (length bytes))) bytes (byte ∷ [])
    ∙ append_assoc (http_text link moment (length bytes)) (10 ∷ []) (bytes ++ byte ∷ [])

is_front : (site : Site) (t : ScriptTail) → IsScriptTail site t → IsFrontOf site (front_of t)
is_front site Ended h = tt
is_front site (InLine part) h = h.0
is_front site (InBytes link moment len held) h = h.0
is_front site (BadLine line) h = (h.0, h.2)
is_front site (LongLine part) h = h.0
is_front site (NoLf link moment bytes byte) h = h.0

module _ (site : Site) (valid : IsWellFormed site) where
  same_front_of : (f g : Front) → IsFrontOf site f → IsFrontOf site g → front_bytes site f ≡ front_bytes site g → f ≡ g
  same_front_of (Said l r) (Said l' r') p q e =
      let h = same_words 10 (text site l) (text site l') r r' (Without-line site valid l p) (Without-line site valid l' q) e in
      ap (λ x. Said x r) (same_said site valid l l' p q h.0) ∙ ap (Said l') h.1
  same_front_of (Said l r) (Unsaid line) p q e = absurd (q.1 l p (same_words 10 (text site l) line r [] (Without-line site valid l p) q.0 e).0)
  same_front_of (Said l r) (Open part) p q e = absurd (no_word 10 (text site l) r part e q)
  same_front_of (Unsaid line) (Said l r) p q e = absurd (p.1 l q (same_words 10 (text site l) line r [] (Without-line site valid l q) p.0 (sym e)).0)
  same_front_of (Unsaid line) (Unsaid line') p q e = ap Unsaid (same_words 10 line line' [] [] p.0 q.0 e).0
  same_front_of (Unsaid line) (Open part) p q e = absurd (no_word 10 line [] part e q)
  same_front_of (Open part) (Said l r) p q e = absurd (no_word 10 (text site l) r part (sym e) p)
  same_front_of (Open part) (Unsaid line) p q e = absurd (no_word 10 line [] part (sym e) p)
  same_front_of (Open part) (Open part') p q e = ap Open e

-- ---- what a tail is, by its front

-- the bytes of an `http` record are still to come, or have come with another byte behind them
abbrev IsHttpTail : ℕ → ℕ → ℕ → List ℕ → ScriptTail → Type 0
IsHttpTail link moment len rest t =
    ((t ≡ InBytes link moment len rest) × (length rest ≤ len))
    ⊎ ((bytes : List ℕ) × (byte : ℕ) × (t ≡ NoLf link moment bytes byte) × (rest ≡ bytes ++ byte ∷ []) × (len ≡ length bytes))

abbrev IsTailOf : Front → ScriptTail → Type 0
IsTailOf (Said (Http l) rest) t = IsHttpTail l.link l.moment l.len rest t
IsTailOf (Said (Step drive moment) rest) t = ⊥
IsTailOf (Said End rest) t = t ≡ Ended
IsTailOf (Unsaid line) t = t ≡ BadLine line
IsTailOf (Open part) t = ((t ≡ InLine part) × (length part ≤ 256)) ⊎ ((t ≡ LongLine part) × (length part ≡ 257))

is_tail : (site : Site) (t : ScriptTail) → IsScriptTail site t → IsTailOf (front_of t) t
is_tail site Ended h = refl
is_tail site (InLine part) h = inl (refl, h.1)
is_tail site (InBytes link moment len held) h = inl (refl, h.1)
is_tail site (BadLine line) h = refl
is_tail site (LongLine part) h = inr (refl, h.1)
is_tail site (NoLf link moment bytes byte) h = inr (bytes, byte, refl, refl, refl)

length-behind : (rest bytes : List ℕ) (byte : ℕ) → rest ≡ bytes ++ byte ∷ [] → length rest ≡ length bytes + 1
length-behind rest bytes byte e = ap length e ∙ length-append bytes (byte ∷ [])

same_last : (rest xs ys : List ℕ) (a b : ℕ) → rest ≡ xs ++ a ∷ [] → rest ≡ ys ++ b ∷ [] → length xs ≡ length ys → (xs ≡ ys) × (a ≡ b)
same_last rest xs ys a b e f n = let p = same_front xs ys (a ∷ []) (b ∷ []) n (sym e ∙ f) in (p.0, same_head a b [] [] p.1)

same_http_tail : (link moment len : ℕ) (rest : List ℕ) (t u : ScriptTail) → IsHttpTail link moment len rest t → IsHttpTail link moment len rest u → t ≡ u
same_http_tail a b c rest t u (inl p) (inl q) = p.0 ∙ sym q.0
same_http_tail a b c rest t u (inl p) (inr (bytes, byte, f, s, m)) = absurd (let l = length-behind rest bytes byte s in omega (arith, p.1))
same_http_tail a b c rest t u (inr (bytes, byte, e, r, n)) (inl q) = absurd (let l = length-behind rest bytes byte r in omega (arith, q.1))
same_http_tail a b c rest t u (inr (bytes, byte, e, r, n)) (inr (bytes', byte', f, s, m)) =
    let d = same_last rest bytes bytes' byte byte' r s (sym n ∙ m) in
    e ∙ ap (λ x. NoLf a b x byte) d.0 ∙ ap (NoLf a b bytes') d.1 ∙ sym f

same_open_tail : (part : List ℕ) (t u : ScriptTail) → IsTailOf (Open part) t → IsTailOf (Open part) u → t ≡ u
same_open_tail part t u (inl p) (inl q) = p.0 ∙ sym q.0
same_open_tail part t u (inl p) (inr q) = absurd (omega (arith, p.1, q.1))
same_open_tail part t u (inr p) (inl q) = absurd (omega (arith, p.1, q.1))
same_open_tail part t u (inr p) (inr q) = p.0 ∙ sym q.0

same_tail_of : (f : Front) (t u : ScriptTail) → IsTailOf f t → IsTailOf f u → t ≡ u
same_tail_of (Said (Http l) rest) t u p q = same_http_tail l.link l.moment l.len rest t u p q
same_tail_of (Said (Step drive moment) rest) t u p q = absurd p
same_tail_of (Said End rest) t u p q = p ∙ sym q
same_tail_of (Unsaid line) t u p q = p ∙ sym q
same_tail_of (Open part) t u p q = same_open_tail part t u p q

-- no tail begins with a whole record
tail_is_record : (site : Site) → IsWellFormed site → (t : ScriptTail) (e : Record) (r : List ℕ) → IsScriptTail site t → IsRecord site e → tail_bytes site t ≡ spelling site e ++ r → ⊥
tail_is_record site valid t e r h k d =
    let line = ap (λ x. x ++ []) d ∙ append-nil (spelling site e ++ r) ∙ spelled site e r in
    let a = below_record site valid t e [] r h (against site valid t [] (line_of_record e) (behind_line e r) h (is_line site e k) line) in
    omega (arith, a.1, ap length d, length-append (spelling site e) r)

-- ---- whole records and a tail

module _ (site : Site) (valid : IsWellFormed site) where
  same_tail : (t u : ScriptTail) → IsScriptTail site t → IsScriptTail site u → tail_bytes site t ≡ tail_bytes site u → t ≡ u
  same_tail t u h k e =
      let same = same_front_of site valid (front_of t) (front_of u) (is_front site t h) (is_front site u k) (sym (fronted site t) ∙ e ∙ fronted site u) in
      same_tail_of (front_of u) t u (subst (λ f. IsTailOf f t) same (is_tail site t h)) (is_tail site u k)

  same_reading : (es fs : List Record) (t u : ScriptTail) → AllByRecursion (IsRecord site) es → AllByRecursion (IsRecord site) fs → IsScriptTail site t → IsScriptTail site u
      → whole_bytes site es ++ tail_bytes site t ≡ whole_bytes site fs ++ tail_bytes site u → (es ≡ fs) × (t ≡ u)
  same_reading [] [] t u p q h k e = (refl, same_tail t u h k e)
  same_reading [] (f ∷ fs) t u p q h k e =
      absurd (tail_is_record site valid t f (whole_bytes site fs ++ tail_bytes site u) h q.0 (e ∙ append_assoc (spelling site f) (whole_bytes site fs) (tail_bytes site u)))
  same_reading (x ∷ es) [] t u p q h k e =
      absurd (tail_is_record site valid u x (whole_bytes site es ++ tail_bytes site t) k p.0 (sym e ∙ append_assoc (spelling site x) (whole_bytes site es) (tail_bytes site t)))
  same_reading (x ∷ es) (f ∷ fs) t u p q h k e =
      let g = same_record site valid x f (whole_bytes site es ++ tail_bytes site t) (whole_bytes site fs ++ tail_bytes site u) p.0 q.0
      (sym (append_assoc (spelling site x) (whole_bytes site es) (tail_bytes site t)) ∙ e ∙ append_assoc (spelling site f) (whole_bytes site fs) (tail_bytes site u)) in
      let r = same_reading es fs t u p.1 q.1 h k g.1 in
      (ap (λ y. y ∷ es) g.0 ∙ ap (λ l. f ∷ l) r.0, r.1)

  pub one_cut : HasOneReading site
  one_cut c d h k e =
      let r = same_reading c.whole d.whole c.tail d.tail h.0 k.0 h.1 k.1 e in
      ap (λ w. record { whole = w; tail = c.tail }) r.0 ∙ ap (λ t. record { whole = d.whole; tail = t }) r.1
