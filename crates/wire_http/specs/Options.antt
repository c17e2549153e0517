-- Values that are lists of options, as those of Connection (RFC 9110, 5.6.1 and 7.6.1).
use Rattle.std.specs.Prelude.{ℕ, Bool, List, [], ◌∷◌, map, if◌then◌else◌, ◌==◌}
use Rattle.std.specs.List.{list_any}
use Rattle.httparse.specs.Ascii.{comma}
use Rattle.httparse.specs.Grammar.{trim_ows}
use Rattle.wire_http.specs.Fields.{is_word}

-- the pieces, with a byte more at the front of the first
abbrev pub with_front : ℕ → List (List ℕ) → List (List ℕ)
with_front b [] = (b ∷ []) ∷ []
with_front b (piece ∷ pieces) = (b ∷ piece) ∷ pieces

-- a text cut at its commas
abbrev pub cut_at_commas : List ℕ → List (List ℕ)
cut_at_commas [] = [] ∷ []
cut_at_commas (b ∷ bs) = if b == comma then [] ∷ cut_at_commas bs else with_front b (cut_at_commas bs)

-- the options of a value are its pieces between commas, without the blanks and tabs around each
unfoldable pub options : List ℕ → List (List ℕ)
options value = map trim_ows (cut_at_commas value)

-- a value has an option if it is that word, in any letter case
unfoldable pub has_option : List ℕ → List ℕ → Bool
has_option word value = list_any (is_word word) (options value)
