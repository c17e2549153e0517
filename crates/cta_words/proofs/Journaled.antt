-- Words that spell no form spell no server that keeps a journal.
use Rattle.std.proofs.Common.{ℕ, List}
use Rattle.cta_words.proofs.Spelled.{lent}
use Rattle.cta_words.specs.Durable.{ExplainsNoDurable, SpellsDurable}
use Rattle.cta_words.specs.Words.{Explains, Spells}
use Rattle.std.specs.Fmt.{decimal}
use Rattle.cta_words.specs.declared.form.Form.{Form}
use Rattle.cta_words.specs.declared.form.Form.TheVariants.{Durable}
use Rattle.cta_words.specs.declared.form.WordsError.{WordsError}
use Rattle.cta_words.specs.declared.form.WordsError.TheVariants.{Usage, NoMemory}
use Rattle.cta_words.specs.declared.durable.DurableWords.{DurableWords}

-- the words of a server that keeps a journal are those of a form
form_of : (words : List (List ℕ)) (s : DurableWords) → SpellsDurable words s → Spells words (Durable s.site s.addr s.media (lent (decimal s.workers)) s.journal)
unfolding lent
form_of words s are = (are.0, are.1)

pub none_is_durable : (words : List (List ℕ)) → ((form : Form) → Spells words form → ⊥) → (s : DurableWords) → SpellsDurable words s → ⊥
none_is_durable words none s are = none (Durable s.site s.addr s.media (lent (decimal s.workers)) s.journal) (form_of words s are)

-- words that no form spells are those of no such server, and for want of memory nothing is said
pub explains_none : (words : List (List ℕ)) (why : WordsError) → Explains words why → ExplainsNoDurable words why
explains_none words Usage none = none_is_durable words none
explains_none words NoMemory any = tt
