-- The words of the command line, as their bytes.
use Rattle.std.specs.Prelude.{◌≡◌, ◌≢◌, ⊤, ℕ, List, [], ◌∷◌, codes}
use Rattle.std.specs.List.{All}
use Rattle.cta_words.specs.declared.form.Form.{Form}
use Rattle.cta_words.specs.declared.form.Form.TheVariants.{Replay, Serve, Mill, Durable}
use Rattle.cta_words.specs.declared.form.WordsError.{WordsError}
use Rattle.cta_words.specs.declared.form.WordsError.TheVariants.{Usage, NoMemory}

-- a word that is not empty and begins with no `-`
abbrev pub IsPlainWord : List ℕ → Type 0
IsPlainWord [] = ⊥
IsPlainWord (c ∷ cs) = c ≢ 45

-- the words of a form
abbrev pub form_words : Form → List (List ℕ)
form_words (Replay site) = codes "replay" ∷ site.now ∷ []
form_words (Serve site addr media workers) =
    codes "serve" ∷ site.now ∷ addr.now ∷ media.now ∷ workers.now ∷ []
form_words (Mill seed files workers) = codes "mill" ∷ seed.now ∷ files.now ∷ workers.now ∷ []
form_words (Durable site addr media workers journal) =
    codes "durable" ∷ site.now ∷ addr.now ∷ media.now ∷ workers.now ∷ journal.now ∷ []

-- these are the words of the form, and each of them is plain
abbrev pub Spells : List (List ℕ) → Form → Type 0
Spells words form = (words ≡ form_words form) × All IsPlainWord words

-- the words are refused for their use only where they spell no form, and for want of memory at any time
abbrev pub Explains : List (List ℕ) → WordsError → Type 0
Explains words Usage = (form : Form) → Spells words form → ⊥
Explains words NoMemory = ⊤
