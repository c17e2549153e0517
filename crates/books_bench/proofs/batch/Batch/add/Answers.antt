use Rattle.std.proofs.Common.{arith, refl}
use Rattle.books_bench.proofs.Further.{batch_more}
use Rattle.books_bench.proofs.batch.Batch.add.Goals as goal

pub invariant_of-self-2 : goal.invariant_of-self-2
invariant_of-self-2 c = batch_more c.self.inside.next _ c.self.inside.files.items c.push.new.self.items c.in_ok-push.ensures.items refl c.in_ok-path.ensures (omega arith) c.self.invariant
