use Rattle.std.proofs.Common.{◌∙◌, refl, subst}
use Rattle.repack_book.specs.NamedRepacks.{repacks_of}
use Rattle.caller_asks.proofs.Writers.{IsWalked, walk_starts, walk_steps}
use Rattle.caller_asks.proofs.repacks.end_writers_of.Goals as goal

pub loop-next-init : goal.loop-next-init
loop-next-init c = (walk_starts c.args.file c.args.copy (repacks_of c.args.repacks.now) _ c.first_writer-next.ensures, λ id. refl)

pub loop-next-preserved : goal.loop-next-preserved
loop-next-preserved c = (
  walk_steps c.args.file c.args.copy c.in-Some.id (repacks_of c.args.repacks.now) (repacks_of c.loop-next.repacks) (repacks_of c.set.new.self) c.next_writer-next.result
      (subst (IsWalked c.args.file c.args.copy (repacks_of c.args.repacks.now) (repacks_of c.loop-next.repacks)) c.in-Some.is c.loop-next.invariant.0) c.set.ensures.repacks c.next_writer-next.ensures,
  λ id. c.set.ensures.names id ∙ c.loop-next.invariant.1 id,
)
