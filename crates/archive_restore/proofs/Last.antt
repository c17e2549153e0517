-- The last of the entries that are kept oldest first.
use Rattle.std.proofs.Common.{◌≡◌, ◌+◌, ◌-◌, ◌<◌, List, ◌∷◌, sym, ap, ◌∙◌, arith, length, take, get_or}
use Rattle.std.specs.Prelude.{Some, slice_get}
use Rattle.std.proofs.lemmas.List.{take_all}
use Rattle.std.proofs.lemmas.Option.{get_or_from_slice_get, slice_get_within}
use Rattle.cta_model.specs.declared.entries.Entry.{Entry}
use Rattle.cta_model.specs.Bare.{bare_entry}
use Rattle.cta_model.specs.Newest.{history_in}
use Rattle.cta_model.proofs.Newest.{history_in-read}

head_is : (a b : Entry) (g h : List Entry) → a ∷ g ≡ b ∷ h → a ≡ b
head_is a b g h same = cc

-- the newest entry of a history is the last one that is kept
pub last_is : (xs : List Entry) (x e : Entry) (h : List Entry) → Some x ≡ slice_get xs (length xs - 1) → history_in xs ≡ e ∷ h → bare_entry x ≡ e
last_is xs x e h at is =
    let low : length xs - 1 < length xs = slice_get_within xs (length xs - 1) x (sym at) in
    let read : get_or xs (length xs - 1) x ≡ x = get_or_from_slice_get xs (length xs - 1) x x (sym at) in
    let whole : take ((length xs - 1) + 1) xs ≡ xs = take_all _ xs (omega (arith, low)) in
    let front : history_in (take ((length xs - 1) + 1) xs) ≡ bare_entry x ∷ history_in (take (length xs - 1) xs) = history_in-read xs (length xs - 1) x low (sym read) in
    head_is (bare_entry x) e (history_in (take (length xs - 1) xs)) h (sym front ∙ (ap history_in whole ∙ is))
