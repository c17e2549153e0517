-- Weights that are counted up to the greatest number.
use Rattle.std.proofs.Common.{◌≡◌, ◌∙◌, ℕ, ◌+◌, ◌<◌, ◌^◌, List, [], ◌∷◌, ◌++◌, ap, arith, length}
use Rattle.std.specs.Prelude.{min}
use Rattle.std.proofs.lemmas.List.{length-append}
use Rattle.cta_model.specs.declared.entries.Entry.{Entry}
use Rattle.cta_model.specs.History.{History}
use Rattle.cta_model.specs.Newest.{history_in}
use Rattle.cta_model.proofs.Newest.{length-history_in}
use Rattle.part_model.specs.Room.{Roomed}
use Rattle.kept_history.specs.Weight.{capped}

pub cap_more : (w v a b : ℕ) → w ≡ capped a → v ≡ capped b → min (w + v) 18446744073709551615 ≡ capped (b + a)
cap_more w v a b ew ev = omega arith

-- one entry more than those that a view shows
pub few_more : (old new : List Entry) (e : Entry) (room : ℕ) (view : Roomed History) → view ≡ record { value = history_in old; room = room } → new ≡ old ++ e ∷ [] → length view.value + 2 < 2 ^ 32 → length new + 1 < 2 ^ 32
few_more old new e room view is pushed few =
    let seen : length view.value ≡ length old = ap (λ (v : Roomed History). length v.value) is ∙ length-history_in old in
    let count : length new ≡ length old + 1 = ap (λ (xs : List Entry). length xs) pushed ∙ length-append old (e ∷ []) in
    omega (arith, seen, count, few)
