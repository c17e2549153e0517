use Rattle.std.proofs.Common.{◌∙◌, sym, ap}
use Rattle.std.specs.Prelude.{option_map}
use Rattle.archive_state.proofs.Claimed.{known_there, unknown_none, unknown_there}
use Rattle.archive_state.proofs.state.ArchiveState.knows.Goals as goal

pub returns-then-not-is_last : goal.returns-then-not-is_last
returns-then-not-is_last g c =
    rw (← c.self.view_is)
    (unknown_there _ _ c.self.inside.parts c.args.mount c.args.items.now c.in-Some.row.now c.self.invariant.parts (sym c.find.ensures.row ∙ ap (option_map (λ row. row.now)) c.in-Some.is) (sym c.is_last.ensures ∙ c.if-not-is_last.true))

pub returns-else-not-is_last : goal.returns-else-not-is_last
returns-else-not-is_last g c =
    rw (← c.self.view_is)
    (c.claims_all.ensures
    ∙ known_there c.claims_no_job_twice.ensures _ _ c.self.inside.parts c.args.mount c.args.items.now c.in-Some.row.now c.self.invariant.legal c.self.invariant.parts (sym c.find.ensures.row ∙ ap (option_map (λ row. row.now)) c.in-Some.is) (sym c.is_last.ensures ∙ c.if-not-is_last.false))

pub returns-in-None : goal.returns-in-None
returns-in-None g c =
    rw (← c.self.view_is) (unknown_none _ _ c.self.inside.parts c.args.mount c.args.items.now c.self.invariant.parts (sym c.find.ensures.row ∙ ap (option_map (λ row. row.now)) c.in-None.is))
