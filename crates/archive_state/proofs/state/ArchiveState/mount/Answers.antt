use Rattle.std.proofs.Common.{◌∙◌, sym, ap}
use Rattle.std.specs.Prelude.{option_map}
use Rattle.archive_state.proofs.Shares.{mount_none, mount_there}
use Rattle.archive_state.proofs.state.ArchiveState.mount.Goals as goal

pub returns-in-Some : goal.returns-in-Some
returns-in-Some g c =
    rw (← c.self.view_is) (mount_there _ _ c.self.inside.parts c.args.number c.in-Some.row.now c.self.invariant.parts (sym c.find.ensures.row ∙ ap (option_map (λ row. row.now)) c.in-Some.is))

pub returns-in-None : goal.returns-in-None
returns-in-None g c = rw (← c.self.view_is) (mount_none _ _ c.self.inside.parts c.args.number c.self.invariant.parts (sym c.find.ensures.row ∙ ap (option_map (λ row. row.now)) c.in-None.is))
