-- Words that spell no form spell no server.
use Rattle.std.proofs.Common.{ℕ, List}
use Rattle.cta_words.proofs.Spelled.{lent}
use Rattle.cta_words.specs.Serving.{ExplainsNoServer, SpellsServer}
use Rattle.cta_words.specs.Words.{Explains, Spells}
use Rattle.std.specs.Fmt.{decimal}
use Rattle.cta_words.specs.declared.form.Form.{Form}
use Rattle.cta_words.specs.declared.form.Form.TheVariants.{Serve}
use Rattle.cta_words.specs.declared.form.WordsError.{WordsError}
use Rattle.cta_words.specs.declared.form.WordsError.TheVariants.{Usage, NoMemory}
use Rattle.cta_words.specs.declared.serving.ServeWords.{ServeWords}

-- the words of a server are those of a form
form_of : (words : List (List ℕ)) (s : ServeWords) → SpellsServer words s → Spells words (Serve s.site s.addr s.media (lent (decimal s.workers)))
unfolding lent
form_of words s are = (are.0, are.1)

pub none_is_server : (words : List (List ℕ)) → ((form : Form) → Spells words form → ⊥) → (s : ServeWords) → SpellsServer words s → ⊥
none_is_server words none s are = none (Serve s.site s.addr s.media (lent (decimal s.workers))) (form_of words s are)

-- words that no form spells are those of no server, and for want of memory nothing is said
pub explains_none : (words : List (List ℕ)) (why : WordsError) → Explains words why → ExplainsNoServer words why
explains_none words Usage none = none_is_server words none
explains_none words NoMemory any = tt
