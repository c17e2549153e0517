-- From what `clap` answers of a command line to what it says of the words.
use Rattle.std.proofs.Common.{◌≡◌, ◌∙◌, ap, sym, subst, inl, inr, arith, zero, suc, true, map, List, [], ◌∷◌, Option, None, Some, option_map, Result, MatchResult, String, string_bytes, ◌↔◌}
use Rattle.std.specs.Option.{ok_or}
use Rattle.std.specs.List.{All}
use Rattle.clap.specs.declared.error.Error.{Error}
use Rattle.clap.specs.declared.error.kind.ErrorKind.TheVariants.{OutOfMemory}
use Rattle.clap.specs.declared.parser.matches.ArgMatches.{ArgMatches}
use Rattle.clap.specs.Values.{kind_of}
use Rattle.clap.specs.Kinds.{HasKind, Kinds}
use Rattle.clap.specs.Walk.{Text}
use Rattle.clap.specs.Simple.{App, HasMatchesOf, is_simple, subcommand_of, subcommand_rows_of}
use Rattle.clap.specs.Faults.{fault_of, is_simple_and_free}
use Rattle.cta_words.specs.Words.{Explains, IsPlainWord, Spells, form_words}
use Rattle.cta_words.specs.Commands.{cta_app}
use Rattle.cta_words.specs.Found.{words_found}
use Rattle.cta_words.specs.declared.form.Form.{Form}
use Rattle.cta_words.specs.declared.form.WordsError.{WordsError}
use Rattle.cta_words.specs.declared.form.WordsError.TheVariants.{Usage, NoMemory}
use Rattle.cta_words.proofs.Lines.{cta_simple, cta_simple_and_free, form_found, form_of_passing, form_passes}

-- strings whose texts are plain
pub each_plain : {Z : Type 0} (words : List (String Z)) → All IsPlainWord (map string_bytes words) → All (λ word. IsPlainWord (string_bytes word)) words
each_plain [] plain k d lt = absurd (omega arith)
each_plain (word ∷ words) plain zero d lt = plain 0 [] (omega arith)
each_plain (word ∷ words) plain (suc k) d lt = each_plain words (λ j e low. plain (suc j) e (omega arith)) k d (omega arith)

-- an error of the words: no form has them
pub error_explains : (words : List Text) (app : App) (reason : WordsError) (e : Error) → app ≡ cta_app
    → (is_simple_and_free app ≡ true → HasKind (fault_of app words) e)
    → ((reason ≡ NoMemory) ↔ (kind_of e ≡ OutOfMemory)) → Explains words reason
error_explains words app NoMemory e is kinds by = tt
error_explains words app Usage e is kinds by = λ form spells.
    let passes : fault_of app words ≡ [] =
    ap (λ a. fault_of a words) is ∙ (ap (fault_of cta_app) spells.0 ∙ form_passes form (subst (All IsPlainWord) spells.0 spells.1)) in
    let memory = subst (λ (k : Kinds). HasKind k e) passes (kinds (ap is_simple_and_free is ∙ cta_simple_and_free)) in
    elim memory [
      | inl out ↦
          let bad : Usage ≡ NoMemory = by.1 out in
          cc
      | inr none ↦ absurd none
    ]

-- matches of the words: their form was found
pub found_spells : (words : List Text) (app : App) (found : Option Form) (m : ArgMatches) (result : Result Form WordsError) → app ≡ cta_app → All IsPlainWord words
    → (is_simple_and_free app ≡ true → fault_of app words ≡ []) → HasMatchesOf app words m
    → option_map form_words found ≡ words_found (subcommand_rows_of m) → result ≡ ok_or found Usage
    → MatchResult result (Spells words) (Explains words)
found_spells words app found m result is plain kinds matches same gives =
    rw gives (go found (same ∙ (ap words_found (matches (ap is_simple is ∙ cta_simple)).1 ∙ all_found)))
  where
    line : (form : Form) × (words ≡ form_words form)
    line = form_of_passing words plain (ap (λ a. fault_of a words) (sym is) ∙ kinds (ap is_simple_and_free is ∙ cta_simple_and_free))

    all_found : words_found (subcommand_of app words) ≡ Some words
    all_found = ap (λ a. words_found (subcommand_of a words)) is ∙ (ap (λ ws. words_found (subcommand_of cta_app ws)) line.1
        ∙ (form_found line.0 (subst (All IsPlainWord) line.1 plain) ∙ ap (λ ws. Some ws) (sym line.1)))

    go : (o : Option Form) → option_map form_words o ≡ Some words → MatchResult (ok_or o Usage) (Spells words) (Explains words)
    go None e = cc
    go (Some form) e = (cc, plain)
