-- The words of a server that keeps a journal.
use Rattle.std.specs.Prelude.{ℕ, ◌≡◌, ◌≤◌, ⊤, List, [], ◌∷◌, codes, decimal}
use Rattle.std.specs.List.{All}
use Rattle.cta_words.specs.Words.{IsPlainWord}
use Rattle.cta_words.specs.declared.form.WordsError.{WordsError}
use Rattle.cta_words.specs.declared.form.WordsError.TheVariants.{Usage, NoMemory}
use Rattle.cta_words.specs.declared.durable.DurableWords.{DurableWords}

-- the words of a server that keeps a journal
abbrev pub durable_server_words : DurableWords → List (List ℕ)
durable_server_words s =
    codes "durable" ∷ s.site.now ∷ s.addr.now ∷ s.media.now ∷ decimal s.workers ∷ s.journal.now ∷ []

-- these are the words of a server that keeps a journal, with 1 to 64 workers, and each of them is plain
abbrev pub SpellsDurable : List (List ℕ) → DurableWords → Type 0
SpellsDurable words s = (words ≡ durable_server_words s) × All IsPlainWord words × (1 ≤ s.workers) × (s.workers ≤ 64)

-- the words are refused for their use only where they spell no such server, and for want of memory at any time
abbrev pub ExplainsNoDurable : List (List ℕ) → WordsError → Type 0
ExplainsNoDurable words Usage = (s : DurableWords) → SpellsDurable words s → ⊥
ExplainsNoDurable words NoMemory = ⊤
