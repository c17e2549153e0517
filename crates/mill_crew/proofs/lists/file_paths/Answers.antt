use Rattle.std.specs.Prelude.{List, ℕ, [], ◌∷◌, ◌++◌, map}
use Rattle.std.specs.List.{range_with_len}
use Rattle.std.proofs.Common.{ap, sym, ◌∙◌}
use Rattle.load_mill.specs.Files.{file_path}
use Rattle.mill_crew.proofs.Listing.{paths_more}
use Rattle.mill_crew.proofs.lists.file_paths.Goals as goal

pub loop-at-preserved : goal.loop-at-preserved
loop-at-preserved c =
    c.in_ok-push.ensures.items
    ∙ (ap (λ (xs : List (List ℕ)). xs ++ c.in_ok-file_path.field-0 ∷ []) c.loop-at.invariant
    ∙ (ap (λ (p : List ℕ). map file_path (range_with_len 0 c.loop-at.at) ++ p ∷ []) c.in_ok-file_path.ensures
    ∙ sym (paths_more c.loop-at.at)))
