-- Numbers as words, and the words of a run of the mill.
use Rattle.std.specs.Prelude.{ℕ, ◌≡◌, ◌≢◌, ◌<◌, ◌≤◌, ◌^◌, ◌-◌, ⊤, List, [], ◌∷◌, codes, decimal, length, slice_index}
use Rattle.cta_words.specs.declared.form.WordsError.{WordsError}
use Rattle.cta_words.specs.declared.form.WordsError.TheVariants.{Usage, NoMemory}
use Rattle.cta_words.specs.declared.numbers.MillNumbers.{MillNumbers}

-- a text has no sign, and a leading zero only where that is all
abbrev pub IsBare : List ℕ → Type 0
IsBare text = (slice_index text 0 ≢ 43) × (slice_index text 0 ≡ 48 → length text ≡ 1)

-- a text spells this number, in decimal digits, with no sign and no leading zero, and the number lies between these, both included
abbrev pub SpellsIn : List ℕ → ℕ → ℕ → ℕ → Type 0
SpellsIn text least most n = (least ≤ n) × (n ≤ most) × (text ≡ decimal n)

-- the numbers of a run of the mill lie in their ranges: its seed below 2 ^ 64, 1 to 10,000 files, and 1 to 64 workers
abbrev pub AreInRange : MillNumbers → Type 0
AreInRange m = (m.seed < 2 ^ 64) × (1 ≤ m.files) × (m.files ≤ 10000) × (1 ≤ m.workers) × (m.workers ≤ 64)

-- these texts spell the numbers of a run of the mill, each in its range
abbrev pub AreSpelled : List ℕ → List ℕ → List ℕ → MillNumbers → Type 0
AreSpelled seed files workers m = SpellsIn seed 0 (2 ^ 64 - 1) m.seed × SpellsIn files 1 10000 m.files × SpellsIn workers 1 64 m.workers

-- the words of a run of the mill with these numbers
abbrev pub run_words : MillNumbers → List (List ℕ)
run_words m = codes "mill" ∷ decimal m.seed ∷ decimal m.files ∷ decimal m.workers ∷ []

-- these are the words of a run of the mill with these numbers, which lie in their ranges
abbrev pub SpellsRun : List (List ℕ) → MillNumbers → Type 0
SpellsRun words m = (words ≡ run_words m) × AreInRange m

-- the words are refused for their use only where they spell no run of the mill, and for want of memory at any time
abbrev pub ExplainsNoRun : List (List ℕ) → WordsError → Type 0
ExplainsNoRun words Usage = (m : MillNumbers) → SpellsRun words m → ⊥
ExplainsNoRun words NoMemory = ⊤
