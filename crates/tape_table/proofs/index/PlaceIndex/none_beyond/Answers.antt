use Rattle.std.proofs.Common.{◌∙◌, ◌≤◌, ap, sym, subst}
use Rattle.std.specs.Prelude.{◌==◌, length, filter}
use Rattle.part_model.specs.declared.space.Placed.{Placed}
use Rattle.tape_table.specs.Indexed.{Indexed}
use Rattle.tape_table.specs.Live.{IsLiveFrom}
use Rattle.tape_table.proofs.Told.{live_beyond, next_beyond}
use Rattle.tape_table.proofs.index.PlaceIndex.none_beyond.Goals as goal

pub returns-clause-live : goal.returns-clause-live
returns-clause-live c =
    live_beyond c.self.inside.forest.trees c.args.tape (subst (λ n. n ≤ c.args.tape) (sym (ap (λ (v : Indexed). v.tapes) c.self.view_is)) c.requires)
    ∙ ap (λ (v : Indexed). length (filter (λ (p : Placed). p.place.tape == c.args.tape) v.places)) c.self.view_is

pub returns-clause-next : goal.returns-clause-next
returns-clause-next c = λ q l.
    next_beyond c.self.inside.forest.trees c.args.tape c.args.fseq (subst (λ n. n ≤ c.args.tape) (sym (ap (λ (v : Indexed). v.tapes) c.self.view_is)) c.requires) q
    (subst (λ w. IsLiveFrom w c.args.tape c.args.fseq q) (sym (ap (λ (v : Indexed). v.places) c.self.view_is)) l)
