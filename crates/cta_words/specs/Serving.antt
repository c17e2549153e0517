-- The words of a server.
use Rattle.std.specs.Prelude.{ℕ, ◌≡◌, ◌≤◌, ⊤, List, [], ◌∷◌, codes, decimal}
use Rattle.std.specs.List.{All}
use Rattle.cta_words.specs.Words.{IsPlainWord}
use Rattle.cta_words.specs.declared.form.WordsError.{WordsError}
use Rattle.cta_words.specs.declared.form.WordsError.TheVariants.{Usage, NoMemory}
use Rattle.cta_words.specs.declared.serving.ServeWords.{ServeWords}

-- the words of a server
abbrev pub server_words : ServeWords → List (List ℕ)
server_words s = codes "serve" ∷ s.site.now ∷ s.addr.now ∷ s.media.now ∷ decimal s.workers ∷ []

-- these are the words of a server with 1 to 64 workers, and each of them is plain
abbrev pub SpellsServer : List (List ℕ) → ServeWords → Type 0
SpellsServer words s = (words ≡ server_words s) × All IsPlainWord words × (1 ≤ s.workers) × (s.workers ≤ 64)

-- the words are refused for their use only where they spell no server, and for want of memory at any time
abbrev pub ExplainsNoServer : List (List ℕ) → WordsError → Type 0
ExplainsNoServer words Usage = (s : ServeWords) → SpellsServer words s → ⊥
ExplainsNoServer words NoMemory = ⊤
