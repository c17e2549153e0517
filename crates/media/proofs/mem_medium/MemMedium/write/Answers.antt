use Rattle.std.proofs.Common.{◌-◌, ◌+◌, take, ◌∙◌, ap, map, arith}
use Rattle.std.proofs.lemmas.List.{take_more_set}
use Rattle.std.specs.Arc.{arc_value}
use Rattle.blob.specs.Sums.{sum_of}
use Rattle.media.proofs.Listed.{same_medium, map_front}
use Rattle.media.proofs.mem_medium.MemMedium.write.Goals as goal

pub returns-then-at-len : goal.returns-then-at-len
returns-then-at-len c =
    let front = c.truncate.ensures.items ∙ ap (take (c.args.fseq - 1 + 1)) c.put.ensures ∙ take_more_set c.args.self.now.records.items (c.args.fseq - 1) _ (omega (arith, c.if-at-len.true)) in
    same_medium _ _ _ _ _ (ap (map (λ b. sum_of (arc_value b))) front ∙ map_front (λ b. sum_of (arc_value b)) (c.args.fseq - 1) c.args.self.now.records.items _ _ (ap sum_of (c.in-Ok.ensures))) (rw c.min-self.ensures (omega arith))
