use Rattle.std.proofs.Common.{sym, ◌∙◌, ap, map, arith}
use Rattle.std.specs.Arc.{arc_value}
use Rattle.std.proofs.lemmas.List.{take-map}
use Rattle.blob.specs.Sums.{sum_of}
use Rattle.media.proofs.Listed.{same_medium}
use Rattle.media.proofs.mem_medium.MemMedium.unload.Goals as goal

pub returns : goal.returns
returns c = same_medium _ _ _ _ _ (ap (map (λ b. sum_of (arc_value b))) c.truncate.ensures.items ∙ sym (take-map _ _ _)) (omega arith)
