use Rattle.std.proofs.Common.{◌<◌, ap, sym, subst}
use Rattle.tape_table.specs.Indexed.{Indexed}
use Rattle.tape_table.proofs.Told.{next_none, next_some}
use Rattle.tape_table.proofs.index.PlaceIndex.next.Goals as goal

pub returns-in-None : goal.returns-in-None
returns-in-None c = next_none c.self.inside.forest.trees c.args.self.now.places c.args.tape c.args.fseq (ap (λ (v : Indexed). v.places) c.self.view_is) c.in-None.ensures.from

pub returns-in-Some : goal.returns-in-Some
returns-in-Some c = next_some c.self.inside.forest.trees c.args.self.now.places c.args.tape c.args.fseq c.in-Some.next c.placed.result (ap (λ (v : Indexed). v.places) c.self.view_is) c.self.invariant.1.distinct
    (subst (λ n. c.args.tape < n) (sym (ap (λ (v : Indexed). v.tapes) c.self.view_is)) c.requires) c.in-Some.ensures.sorted c.placed.ensures c.in-Some.ensures.from
