-- A script that reaches its line `end` is read to it: each reading of it stops before, inside of what may go on, or there.
use Rattle.std.proofs.Common.{◌≡◌, ℕ, ◌+◌, ◌<◌, ◌≤◌, ◌⊎◌, inl, inr, List, [], ◌∷◌, ◌++◌, length, codes, refl, sym, ap, ◌∙◌, arith, append_assoc, length-append}
use Rattle.std.specs.List.{AllByRecursion}
use Rattle.std.proofs.lemmas.List.{append_cancel_left}
use Rattle.cta_site.specs.declared.site.Site.{Site}
use Rattle.cta_site.specs.WellFormed.{IsWellFormed}
use Rattle.replay.specs.Line.{text, http_text, IsLine}
use Rattle.links.specs.Run.{Feed}
use Rattle.replay.specs.Script.{feed, Record, OfLink, OfDrive, ScriptTail, Ended, InLine, InBytes, BadLine, LongLine, NoLf, MayGoOn, IsScriptTail, IsRecord, ended, feeding, whole_bytes, tail_bytes, spelling}
use Rattle.replay.specs.declared.line.HttpLine.{HttpLine}
use Rattle.replay.specs.declared.line.ScriptLine.{ScriptLine}
use Rattle.replay.specs.declared.line.ScriptLine.TheVariants.{Http, Step, End}
use Rattle.replay.proofs.Texts.{http, same_head, same_front, length-without}
use Rattle.replay.proofs.Parts.{same_words}
use Rattle.replay.proofs.SaidLines.{Without-line, length-line, same_first}

-- ---- a record, by its line and what stands behind it

abbrev pub line_of_record : Record → ScriptLine
line_of_record (OfLink f) = http f.link f.moment (length f.bytes)
line_of_record (OfDrive drive moment) = Step drive moment

abbrev pub behind_line : Record → List ℕ → List ℕ
behind_line (OfLink f) r = f.bytes ++ 10 ∷ r
behind_line (OfDrive drive moment) r = r

pub is_line : (site : Site) (e : Record) → IsRecord site e → IsLine site (line_of_record e)
is_line site (OfLink f) h = h
is_line site (OfDrive drive moment) h = h

-- a whole record, and more behind it
pub spelled : (site : Site) (e : Record) (r : List ℕ) → spelling site e ++ r ≡ text site (line_of_record e) ++ 10 ∷ behind_line e r
spelled site (OfLink f) r =
    append_assoc (feeding f.link f.moment (length f.bytes) f.bytes) (10 ∷ []) r
    ∙ append_assoc (ended (http_text f.link f.moment (length f.bytes))) f.bytes (10 ∷ r)
    ∙ append_assoc (http_text f.link f.moment (length f.bytes)) (10 ∷ []) (f.bytes ++ 10 ∷ r)
spelled site (OfDrive drive moment) r = append_assoc (text site (Step drive moment)) (10 ∷ []) r

-- records with equal parts are equal
same_parts : (f g : Feed) → f.link ≡ g.link → f.moment ≡ g.moment → f.bytes ≡ g.bytes → f ≡ g
same_parts f g a b c =
    ap (λ x. feed x f.moment f.bytes) a ∙ ap (λ x. feed g.link x f.bytes) b ∙ ap (λ x. feed g.link g.moment x) c

same_http_line : (l m : HttpLine) → Http l ≡ Http m → l ≡ m
same_http_line l m e = cc

http_len : (a b c a' b' c' : ℕ) → http a b c ≡ http a' b' c' → (a ≡ a') × (b ≡ b') × (c ≡ c')
http_len a b c a' b' c' e =
    let same = same_http_line (record { link = a; moment = b; len = c }) (record { link = a'; moment = b'; len = c' }) e in
    (ap (λ (l : HttpLine). l.link) same, ap (λ (l : HttpLine). l.moment) same, ap (λ (l : HttpLine). l.len) same)

http_end : (a b c : ℕ) → http a b c ≡ End → ⊥
http_end a b c e = cc

http_step : (a b c d m : ℕ) → http a b c ≡ Step d m → ⊥
http_step a b c d m e = cc

step_end : (d m : ℕ) → Step d m ≡ End → ⊥
step_end d m e = cc

step_parts : (d m d' m' : ℕ) → Step d m ≡ Step d' m' → OfDrive d m ≡ OfDrive d' m'
step_parts d m d' m' e =
    let drive : d ≡ d' = cc in
    let moment : m ≡ m' = cc in
    ap (λ x. OfDrive x m) drive ∙ ap (OfDrive d') moment

same_behind : (e f : Record) (r s : List ℕ) → line_of_record e ≡ line_of_record f → behind_line e r ≡ behind_line f s → (e ≡ f) × (r ≡ s)
same_behind (OfLink f) (OfLink g) r s e d =
    let n = http_len f.link f.moment (length f.bytes) g.link g.moment (length g.bytes) e in
    let q = same_front f.bytes g.bytes (10 ∷ r) (10 ∷ s) n.2 d in
    (ap OfLink (same_parts f g n.0 n.1 q.0), append_cancel_left (10 ∷ []) r s q.1)
same_behind (OfLink f) (OfDrive drive moment) r s e d = absurd (http_step f.link f.moment (length f.bytes) drive moment e)
same_behind (OfDrive drive moment) (OfLink f) r s e d = absurd (http_step f.link f.moment (length f.bytes) drive moment (sym e))
same_behind (OfDrive drive moment) (OfDrive drive' moment') r s e d = (step_parts drive moment drive' moment' e, d)

module _ (site : Site) (valid : IsWellFormed site) where
  pub same_record : (e f : Record) (r s : List ℕ) → IsRecord site e → IsRecord site f → spelling site e ++ r ≡ spelling site f ++ s → (e ≡ f) × (r ≡ s)
  same_record e f r s h k d =
      let p = same_first site valid (line_of_record e) (line_of_record f) (behind_line e r) (behind_line f s) (is_line site e h) (is_line site f k) (sym (spelled site e r) ∙ d ∙ spelled site f s) in
      same_behind e f r s p.0 p.1

  -- what a tail is where a line of a record or the line `end` stands
  abbrev Against : ScriptTail → List ℕ → ScriptLine → List ℕ → Type 0
  Against Ended x l z = End ≡ l
  Against (InLine part) x l z = length part ≤ length (text site l)
  Against (InBytes link moment len held) x l z = (http link moment len ≡ l) × (held ++ x ≡ z)
  Against (BadLine line) x l z = ⊥
  Against (LongLine part) x l z = ⊥
  Against (NoLf link moment bytes byte) x l z = (http link moment (length bytes) ≡ l) × (bytes ++ byte ∷ x ≡ z)

  pub against : (t : ScriptTail) (x : List ℕ) (l : ScriptLine) (z : List ℕ) → IsScriptTail site t → IsLine site l → tail_bytes site t ++ x ≡ text site l ++ 10 ∷ z → Against t x l z
  against Ended x l z h k e = (same_first site valid End l x z tt k e).0
  against (InLine part) x l z h k e = length-without 10 part (text site l) x z h.0 e
  against (InBytes link moment len held) x l z h k e =
      let line = http_text link moment len in
      let f : (ended line ++ held) ++ x ≡ line ++ 10 ∷ (held ++ x) = append_assoc (ended line) held x ∙ append_assoc line (10 ∷ []) (held ++ x) in
      same_first site valid (http link moment len) l (held ++ x) z h.0 k (sym f ∙ e)
  against (BadLine line) x l z h k e =
      let p = same_words 10 line (text site l) x z h.0 (Without-line site valid l k) (sym (append_assoc line (10 ∷ []) x) ∙ e) in
      h.2 l k (sym p.0)
  against (LongLine part) x l z h k e = let n = length-without 10 part (text site l) x z h.0 e in let m = length-line site valid l k in omega (arith, h.1)
  against (NoLf link moment bytes byte) x l z h k e =
      let line = http_text link moment (length bytes) in
      let f : ((ended line ++ bytes) ++ byte ∷ []) ++ x ≡ line ++ 10 ∷ (bytes ++ byte ∷ x) =
      append_assoc (ended line ++ bytes) (byte ∷ []) x ∙ append_assoc (ended line) bytes (byte ∷ x) ∙ append_assoc line (10 ∷ []) (bytes ++ byte ∷ x) in
      same_first site valid (http link moment (length bytes)) l (bytes ++ byte ∷ x) z h.0 k (sym f ∙ e)

  -- it is the line `end`, or it may go on and is no longer than so many bytes
  abbrev pub StopsBelow : ScriptTail → ℕ → Type 0
  StopsBelow t n = (t ≡ Ended) ⊎ (MayGoOn t × (length (tail_bytes site t) < n))

  below_end : (t : ScriptTail) (x y : List ℕ) → Against t x End y → StopsBelow t 4
  below_end Ended x y a = inl refl
  below_end (InLine part) x y a = inr (tt, omega (arith, a))
  below_end (InBytes link moment len held) x y a = absurd (http_end link moment len a.0)
  below_end (BadLine line) x y a = absurd a
  below_end (LongLine part) x y a = absurd a
  below_end (NoLf link moment bytes byte) x y a = absurd (http_end link moment (length bytes) a.0)

  length-record : (e : Record) → length (spelling site e) ≡ length (text site (line_of_record e)) + 1 + length (behind_line e [])
  length-record e = let d = ap length (spelled site e []) in omega (arith, length-append (spelling site e) [], length-append (text site (line_of_record e)) (10 ∷ behind_line e []), d)

  end_record : (e : Record) → End ≡ line_of_record e → ⊥
  end_record (OfLink f) a = http_end f.link f.moment (length f.bytes) (sym a)
  end_record (OfDrive drive moment) a = step_end drive moment (sym a)

  below_bytes : (link moment len : ℕ) (held : List ℕ) (e : Record) (x r : List ℕ) → length held ≤ len → http link moment len ≡ line_of_record e → held ++ x ≡ behind_line e r
      → length (feeding link moment len held) < length (spelling site e)
  below_bytes link moment len held (OfDrive drive at) x r fits a b = absurd (http_step link moment len drive at a)
  below_bytes link moment len held (OfLink f) x r fits a b =
      let bytes = f.bytes in
      let p = http_len link moment len f.link f.moment (length bytes) a in
      let front : length (feeding link moment len held) ≡ length (ended (http_text link moment len)) + length held = length-append (ended (http_text link moment len)) held in
      let whole : length (spelling site (OfLink f)) ≡ length (ended (http_text f.link f.moment (length bytes))) + length bytes + 1 =
      length-append (feeding f.link f.moment (length bytes) bytes) (10 ∷ []) ∙ ap (λ n. n + 1) (length-append (ended (http_text f.link f.moment (length bytes))) bytes) in
      let same : length (ended (http_text link moment len)) ≡ length (ended (http_text f.link f.moment (length bytes))) = ap (λ l. length (ended (text site l))) a in
      omega (arith, p.2, fits, front, whole, same)

  other_byte : (link moment : ℕ) (bytes : List ℕ) (byte : ℕ) (e : Record) (x r : List ℕ) → (byte ≡ 10 → ⊥) → http link moment (length bytes) ≡ line_of_record e → bytes ++ byte ∷ x ≡ behind_line e r → ⊥
  other_byte link moment bytes byte (OfDrive drive at) x r other a b = http_step link moment (length bytes) drive at a
  other_byte link moment bytes byte (OfLink f) x r other a b =
      let p = http_len link moment (length bytes) f.link f.moment (length f.bytes) a in
      let q = same_front bytes f.bytes (byte ∷ x) (10 ∷ r) p.2 b in
      other (same_head byte 10 x r q.1)

  pub below_record : (t : ScriptTail) (e : Record) (x r : List ℕ) → IsScriptTail site t → Against t x (line_of_record e) (behind_line e r) → MayGoOn t × (length (tail_bytes site t) < length (spelling site e))
  below_record Ended e x r h a = absurd (end_record e a)
  below_record (InLine part) e x r h a = let n = length-record e in (tt, omega (arith, a))
  below_record (InBytes link moment len held) e x r h a = (tt, below_bytes link moment len held e x r h.1 a.0 a.1)
  below_record (BadLine line) e x r h a = absurd a
  below_record (LongLine part) e x r h a = absurd a
  below_record (NoLf link moment bytes byte) e x r h a = absurd (other_byte link moment bytes byte e x r h.1 a.0 a.1)

  no_record_is_end : (e : Record) (r y : List ℕ) → IsRecord site e → spelling site e ++ r ≡ codes "end" ++ 10 ∷ y → ⊥
  no_record_is_end e r y h d =
      end_record e (sym (same_first site valid (line_of_record e) End (behind_line e r) y (is_line site e h) tt (sym (spelled site e r) ∙ d)).0)

  -- it is read whole, or the reading may go on and is shorter
  abbrev pub StopsWithin : List Record → List Record → ScriptTail → Type 0
  StopsWithin es fs t = ((es ≡ fs) × (t ≡ Ended)) ⊎ (MayGoOn t × (length (whole_bytes site es) + length (tail_bytes site t) < length (whole_bytes site fs) + 4))

  none_within : (t : ScriptTail) → StopsBelow t 4 → StopsWithin [] [] t
  none_within t (inl e) = inl (refl, e)
  none_within t (inr p) = inr (p.0, omega (arith, p.1))

  one_within : (es fs : List Record) (e f : Record) (t : ScriptTail) → e ≡ f → StopsWithin es fs t → StopsWithin (e ∷ es) (f ∷ fs) t
  one_within es fs e f t same (inl p) = inl (ap (λ k. k ∷ es) same ∙ ap (λ l. f ∷ l) p.0, p.1)
  one_within es fs e f t same (inr p) =
      let k : length (spelling site e) ≡ length (spelling site f) = ap (λ d. length (spelling site d)) same in
      inr (p.0, omega (arith, p.1, length-append (spelling site e) (whole_bytes site es), length-append (spelling site f) (whole_bytes site fs)))

  -- where a reading stops of a text that reaches its line `end`
  pub stops_before_end : (es fs : List Record) (t : ScriptTail) (x y : List ℕ) → AllByRecursion (IsRecord site) es → AllByRecursion (IsRecord site) fs → IsScriptTail site t
      → whole_bytes site es ++ (tail_bytes site t ++ x) ≡ whole_bytes site fs ++ (codes "end" ++ 10 ∷ y) → StopsWithin es fs t
  stops_before_end [] [] t x y p q h d = none_within t (below_end t x y (against t x End y h tt d))
  stops_before_end [] (f ∷ fs) t x y p q h d =
      let r = whole_bytes site fs ++ (codes "end" ++ 10 ∷ y) in
      let line = append_assoc (spelling site f) (whole_bytes site fs) (codes "end" ++ 10 ∷ y) ∙ spelled site f r in
      let a = below_record t f x r h (against t x (line_of_record f) (behind_line f r) h (is_line site f q.0) (d ∙ line)) in
      inr (a.0, omega (arith, a.1, length-append (spelling site f) (whole_bytes site fs)))
  stops_before_end (e ∷ es) [] t x y p q h d =
      absurd (no_record_is_end e (whole_bytes site es ++ (tail_bytes site t ++ x)) y p.0 (sym (append_assoc (spelling site e) (whole_bytes site es) (tail_bytes site t ++ x)) ∙ d))
  stops_before_end (e ∷ es) (f ∷ fs) t x y p q h d =
      let g = same_record e f _ _ p.0 q.0 (sym (append_assoc (spelling site e) (whole_bytes site es) (tail_bytes site t ++ x)) ∙ d ∙ append_assoc (spelling site f) (whole_bytes site fs) (codes "end" ++ 10 ∷ y)) in
      one_within es fs e f t g.0 (stops_before_end es fs t x y p.1 q.1 h g.1)
