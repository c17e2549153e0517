-- Places of which one is set.
use Rattle.std.proofs.Common.{◌≡◌, ◌≤◌, ℕ, List, sym, ◌∙◌, subst, length}
use Rattle.std.specs.Prelude.{Option, None, map, option_map, slice_set}
use Rattle.std.proofs.lemmas.List.{length-map, set_past}
use Rattle.blob.specs.Records.{MediumView}

-- what lies behind the last place is not there to be emptied
pub empty_past : {M : Type 0} (told : M → MediumView) (places : List (Option M)) (at : ℕ) → length places ≤ at → map (option_map told) places ≡ slice_set (map (option_map told) places) at None
empty_past told places at past = sym (set_past (map (option_map told) places) at None (subst (λ (n : ℕ). n ≤ at) (sym (length-map places (option_map told))) past))
