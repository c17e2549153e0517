use Rattle.std.proofs.Common.{◌∙◌, refl, arith}
use Rattle.tape_table.proofs.Looks.{none_taken, one_taken}
use Rattle.tape_table.proofs.index.PlaceIndex.forget_file.Goals as goal

pub loop-copy-init : goal.loop-copy-init
loop-copy-init c = record { places = λ f k. none_taken c.args.self.now.places c.args.file c.requires.none f k; distinct = c.requires.distinct; tapes = refl; room = omega arith }

pub loop-copy-preserved : goal.loop-copy-preserved
loop-copy-preserved c = record { places = λ f k. one_taken _ k c.loop-copy.copy _ _ _ (c.loop-copy.invariant.places f k) (c.forget.ensures.places f k); distinct = c.forget.ensures.distinct; tapes = c.forget.ensures.tapes ∙ c.loop-copy.invariant.tapes; room = omega arith }
