use Rattle.std.proofs.Common.{◌∙◌, sym, ap}
use Rattle.std.specs.Prelude.{is_some}
use Rattle.archive_state.proofs.Claimed.{ends_none, ends_there}
use Rattle.archive_state.proofs.state.ArchiveState.may_end.Goals as goal

pub returns-in-Some : goal.returns-in-Some
returns-in-Some g c =
    rw (← c.self.view_is) (ends_there _ _ c.self.inside.parts c.args.mount _ c.self.invariant.legal c.self.invariant.parts (sym c.find.ensures.there ∙ ap is_some c.in-Some.is) c.has_claims.ensures.some c.has_claims.ensures.none)

pub returns-in-None : goal.returns-in-None
returns-in-None g c = rw (← c.self.view_is) (ends_none _ _ c.self.inside.parts c.args.mount c.self.invariant.parts (sym c.find.ensures.there ∙ ap is_some c.in-None.is))
