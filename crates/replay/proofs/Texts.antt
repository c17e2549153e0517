-- The texts of the lines that are built: they hold no LF, are short, and differ.
use Rattle.std.proofs.Common.{◌≡◌, ◌≢◌, ℕ, ◌≤◌, List, [], ◌∷◌, ◌++◌, length, codes, refl, ap, ◌∙◌, arith, length-append}
use Rattle.std.specs.Fmt.{decimal}
use Rattle.std.proofs.lemmas.Fmt.{decimal_injective, length-decimal-le}
use Rattle.std.proofs.lemmas.List.{append_cancel_left}
use Rattle.cta_site.specs.declared.site.Site.{Site}
use Rattle.cta_site.specs.Bytes.{Without}
use Rattle.replay.specs.Line.{text, http_text, http_words, then_word, IsHttp}
use Rattle.replay.specs.declared.line.ScriptLine.{ScriptLine}
use Rattle.replay.specs.declared.line.ScriptLine.TheVariants.{Http, Step, End}
use Rattle.replay.proofs.Parts.{same_words, Without-append, Without-decimal}

-- ---- lines

-- the line of a record, by its numbers
abbrev pub http : ℕ → ℕ → ℕ → ScriptLine
http link moment len = Http (record { link = link; moment = moment; len = len })

-- a line of a record of bytes, or the line `end`
abbrev pub IsBuiltLine : ScriptLine → Type 0
IsBuiltLine (Http h) = IsHttp h.link h.moment h.len
IsBuiltLine (Step drive moment) = ⊥
IsBuiltLine End = Unit {0}

abbrev pub line_text : ScriptLine → List ℕ
line_text (Http h) = http_text h.link h.moment h.len
line_text (Step drive moment) = []
line_text End = codes "end"

pub Without-word : (a b : List ℕ) → Without 10 a → Without 10 b → Without 10 (then_word a b)
Without-word a b p q = Without-append 10 a (32 ∷ b) p ((λ e. omega arith), q)

pub Without-text : (l : ScriptLine) → IsBuiltLine l → Without 10 (line_text l)
Without-text (Http l) h =
    let words = Without-word (decimal l.link) (then_word (decimal l.moment) (decimal l.len)) (Without-decimal 10 l.link (omega arith) (omega arith))
    (Without-word (decimal l.moment) (decimal l.len) (Without-decimal 10 l.moment (omega arith) (omega arith)) (Without-decimal 10 l.len (omega arith) (omega arith))) in
    Without-word (codes "http") (http_words l.link l.moment l.len) ((λ e. omega arith), ((λ e. omega arith), ((λ e. omega arith), ((λ e. omega arith), tt)))) words
Without-text (Step drive moment) h = absurd h
Without-text End h = ((λ e. omega arith), ((λ e. omega arith), ((λ e. omega arith), tt)))

pub length-text : (l : ScriptLine) → IsBuiltLine l → length (line_text l) ≤ 256
length-text (Http l) h =
    let a : length (decimal l.link) ≤ 10 = length-decimal-le 10 l.link (omega arith) (omega arith) (omega arith) in
    let b : length (decimal l.moment) ≤ 12 = length-decimal-le 12 l.moment (omega arith) (omega arith) (omega arith) in
    let c : length (decimal l.len) ≤ 10 = length-decimal-le 10 l.len (omega arith) (omega arith) (omega arith) in
    omega (arith, length-append (decimal l.link) (32 ∷ then_word (decimal l.moment) (decimal l.len)), length-append (decimal l.moment) (32 ∷ decimal l.len))
length-text (Step drive moment) h = absurd h
length-text End h = omega arith

pub same_head : (x y : ℕ) (xs ys : List ℕ) → x ∷ xs ≡ y ∷ ys → x ≡ y
same_head x y xs ys e = cc

pub same_rest : (x y : ℕ) (xs ys : List ℕ) → x ∷ xs ≡ y ∷ ys → xs ≡ ys
same_rest x y xs ys e = cc

-- texts that begin with different bytes
pub apart : (x y : ℕ) (xs ys : List ℕ) → x ≢ y → x ∷ xs ≡ y ∷ ys → ⊥
apart x y xs ys ne e = ne (same_head x y xs ys e)

same_http : (a b c a' b' c' : ℕ) → IsHttp a b c → IsHttp a' b' c' → http_words a b c ≡ http_words a' b' c' → (a ≡ a') × (b ≡ b') × (c ≡ c')
same_http a b c a' b' c' h h' e =
    let p = same_words 32 (decimal a) (decimal a') (then_word (decimal b) (decimal c)) (then_word (decimal b') (decimal c')) (Without-decimal 32 a (omega arith) (omega arith)) (Without-decimal 32 a' (omega arith) (omega arith)) e in
    let q = same_words 32 (decimal b) (decimal b') (decimal c) (decimal c') (Without-decimal 32 b (omega arith) (omega arith)) (Without-decimal 32 b' (omega arith) (omega arith)) p.1 in
    (decimal_injective a a' (omega arith) (omega arith) p.0, decimal_injective b b' (omega arith) (omega arith) q.0, decimal_injective c c' (omega arith) (omega arith) q.1)

-- two lines differ in their text
pub same_text : (l l' : ScriptLine) → IsBuiltLine l → IsBuiltLine l' → line_text l ≡ line_text l' → l ≡ l'
same_text (Http l) (Http m) h h' e =
    let words : http_words l.link l.moment l.len ≡ http_words m.link m.moment m.len = append_cancel_left (codes "http ") (http_words l.link l.moment l.len) (http_words m.link m.moment m.len) e in
    let p = same_http l.link l.moment l.len m.link m.moment m.len h h' words in
    ap (λ k. http k l.moment l.len) p.0 ∙ ap (λ k. http m.link k l.len) p.1 ∙ ap (http m.link m.moment) p.2
same_text (Http l) (Step a' b') h h' e = absurd h'
same_text (Http l) End h h' e = absurd (apart 104 101 _ _ (λ f. omega arith) e)
same_text (Step a b) l' h h' e = absurd h
same_text End (Http m) h h' e = absurd (apart 101 104 _ _ (λ f. omega arith) e)
same_text End (Step a' b') h h' e = absurd h'
same_text End End h h' e = refl

-- the first line of a text that begins with a line
pub same_line : (l l' : ScriptLine) (x y : List ℕ) → IsBuiltLine l → IsBuiltLine l' → line_text l ++ 10 ∷ x ≡ line_text l' ++ 10 ∷ y → (l ≡ l') × (x ≡ y)
same_line l l' x y h h' e =
    let p = same_words 10 (line_text l) (line_text l') x y (Without-text l h) (Without-text l' h') e in
    (same_text l l' h h' p.0, p.1)

-- no `step` line begins so
pub not_step : (site : Site) (drive moment : ℕ) (l : ScriptLine) (x y : List ℕ) → IsBuiltLine l → text site (Step drive moment) ++ x ≡ line_text l ++ y → ⊥
not_step site drive moment (Http l) x y h e = apart 115 104 _ _ (λ f. omega arith) e
not_step site drive moment (Step a b) x y h e = h
not_step site drive moment End x y h e = apart 115 101 _ _ (λ f. omega arith) e

-- what holds no LF ends at the latest where the first one stands
pub length-without : (c : ℕ) (a b x y : List ℕ) → Without c a → a ++ x ≡ b ++ c ∷ y → length a ≤ length b
length-without c [] b x y p e = omega arith
length-without c (d ∷ a) [] x y p e = let same : d ≡ c = cc in absurd (p.0 same)
length-without c (d ∷ a) (f ∷ b) x y p e = let tails : a ++ x ≡ b ++ c ∷ y = cc in let h = length-without c a b x y p.1 tails in omega arith

pub same_front : (a b x y : List ℕ) → length a ≡ length b → a ++ x ≡ b ++ y → (a ≡ b) × (x ≡ y)
same_front [] [] x y n e = (refl, e)
same_front [] (d ∷ b) x y n e = absurd (omega arith)
same_front (c ∷ a) [] x y n e = absurd (omega arith)
same_front (c ∷ a) (d ∷ b) x y n e =
    let heads : c ≡ d = cc in
    let tails : a ++ x ≡ b ++ y = cc in
    let p = same_front a b x y (omega arith) tails in
    let front : a ≡ b = p.0 in
    (cc, p.1)
