-- A plain word is no flag: where it names no subcommand it goes to the next place.
use Rattle.std.proofs.Common.{◌≡◌, ◌≢◌, ◌==◌, refl, ℕ, false, List, [], ◌∷◌, None, ne_eqb}
use Rattle.clap.specs.Walk.{Held, Names, Text, Walk, arg_by_index, idle, subcommand_met, to_positional, value, walked, word_met}
use Rattle.std.specs.Prelude.{fold}
use Rattle.clap.specs.Simple.{Shape}
use Rattle.clap.specs.Kinds.{Kinds, or_else}
use Rattle.clap.specs.Faults.{step_fault, walk_fault, word_fault}
use Rattle.cta_words.specs.Words.{IsPlainWord}

-- a walk before its next place
abbrev pub before : Held → ℕ → Walk
before h position = record { held = h; waiting = idle; position = position; is_trailing = false; stopped = None }

-- the walk once the word has gone to that place
abbrev pub placed : Shape → Text → Held → ℕ → Walk
placed s word h position = to_positional s.rules (arg_by_index s.rules position) word (before h position) h

-- a plain word is a value
plain_met : (s : Shape) (names : Names) (h : Held) (position b : ℕ) (bs : Text) → b ≢ 45 → subcommand_met names idle (b ∷ bs) ≡ None
    → word_met s.rules names false idle position (b ∷ bs) h ≡ (h, value)
plain_met s names h position b bs plain none =
    let e : (b == 45) ≡ false = ne_eqb b 45 plain in
    rw (none, e, e) refl

-- a plain word is no fault by itself
plain_fault : (s : Shape) (names : Names) (h : Held) (b : ℕ) (bs : Text) → b ≢ 45 → subcommand_met names idle (b ∷ bs) ≡ None
    → word_fault s names false idle (b ∷ bs) h ≡ []
plain_fault s names h b bs plain none =
    let e : (b == 45) ≡ false = ne_eqb b 45 plain in
    rw (none, e, e) refl

-- a turn at a plain word takes it to its place
pub plain_walked : (s : Shape) (names : Names) (h : Held) (position b : ℕ) (bs : Text) → b ≢ 45 → subcommand_met names idle (b ∷ bs) ≡ None
    → walked s.rules names (before h position) (b ∷ bs) ≡ placed s (b ∷ bs) h position
unfolding walked
plain_walked s names h position b bs plain none = rw (plain_met s names h position b bs plain none) refl

-- and fails where that place refuses it
pub plain_turn : (s : Shape) (names : Names) (h : Held) (position b : ℕ) (bs : Text) (rest : List Text) → b ≢ 45 → subcommand_met names idle (b ∷ bs) ≡ None
    → walk_fault s names (before h position) ((b ∷ bs) ∷ rest) ≡ or_else (step_fault s position h value) (walk_fault s names (placed s (b ∷ bs) h position) rest)
unfolding walk_fault
plain_turn s names h position b bs rest plain none =
    rw (plain_met s names h position b bs plain none, plain_fault s names h b bs plain none, plain_walked s names h position b bs plain none) refl

-- the end of the walk of a command with no subcommand, and its fault
abbrev pub run : Shape → Walk → List Text → Walk × Kinds
run s w words = (fold (walked s.rules []) w words, walk_fault s [] w words)

-- a plain word, and then the others
pub plain_run : (s : Shape) (h : Held) (position : ℕ) (word : Text) (rest : List Text) → IsPlainWord word
    → run s (before h position) (word ∷ rest)
    ≡ ((run s (placed s word h position) rest).0, or_else (step_fault s position h value) (run s (placed s word h position) rest).1)
plain_run s h position [] rest plain = absurd plain
plain_run s h position (b ∷ bs) rest plain = λ i. (
  fold (walked s.rules []) (plain_walked s [] h position b bs plain refl i) rest,
  plain_turn s [] h position b bs rest plain refl i,
)
