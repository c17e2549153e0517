use Rattle.std.proofs.Common.{◌∙◌, sym, ap}
use Rattle.std.specs.Prelude.{is_some, option_map}
use Rattle.cta_model.specs.declared.asks.Ask.TheVariants as ask
use Rattle.archive_state.proofs.Mounted.{end_keeps, row_missing, row_tape_low, state_ends}
use Rattle.archive_state.proofs.Moves.{can_carry_out}
use Rattle.archive_state.proofs.state.ArchiveState.end.Goals as goal

pub unreachable-requires : goal.unreachable-requires
unreachable-requires g c =
    let there = row_missing c.self.inside.site c.self.inside.history.value c.args.at c.args.mount c.args.fault c.self.inside.parts _ c.self.invariant.parts (rw (← c.self.view_is) at c.requires.accepted) c.find.ensures.there in
    let gone = ap is_some c.in_default.is in
    absurd (cc)

pub end_mount-requires : goal.end_mount-requires
end_mount-requires g c = can_carry_out c.self.inside.site c.self.inside.history.value c.self.inside.parts c.self.inside.shelf c.args.at (ask.End c.args.mount c.args.fault) c.self.invariant c.requires.at (rw (← c.self.view_is) at c.requires.fit, c.requires.fault) (rw (← c.self.view_is) at c.requires.accepted)

pub put-requires : goal.put-requires
put-requires g c =
    row_tape_low c.self.inside.site c.self.inside.history.value c.args.at c.args.mount c.args.fault c.self.inside.parts c.self.inside.shelf c.in-Some.row.now c.self.invariant (rw (← c.self.view_is) at c.requires.accepted)
    (sym c.find.ensures.row ∙ ap (option_map (λ row. row.now)) c.in-Some.is)

pub invariant_of-self : goal.invariant_of-self
invariant_of-self g c =
    state_ends c.self.inside.site c.self.inside.history.value c.end_mount.new.history.value c.args.at c.args.mount c.args.fault _ c.self.inside.parts c.end_mount.new.parts c.self.inside.shelf c.put.new.self c.in-Some.row.now (g.M.Told.told c.args.medium)
    c.self.invariant c.requires.at (rw (← c.self.view_is) at c.requires.fit, c.requires.fault) (rw (← c.self.view_is) at c.requires.accepted) c.in-Ok.ensures.carried.answer c.in-Ok.ensures.carried.entry c.in-Ok.ensures.carried.kept
    (sym c.find.ensures.row ∙ ap (option_map (λ row. row.now)) c.in-Some.is) (rw (← c.self.view_is) at c.requires.medium) c.put.ensures

pub returns-in-Ok-clause-kept : goal.returns-in-Ok-clause-kept
returns-in-Ok-clause-kept g c =
    rw (← c.self.view_is)
    (end_keeps c.self.inside.site c.self.inside.history.value c.end_mount.new.history.value c.args.at c.args.mount c.args.fault _ c.self.inside.parts c.self.inside.shelf c.put.new.self c.in-Some.row.now (g.M.Told.told c.args.medium)
    c.self.invariant.parts (rw (← c.self.view_is) at c.requires.accepted) c.in-Ok.ensures.carried.answer c.in-Ok.ensures.carried.entry (sym c.find.ensures.row ∙ ap (option_map (λ row. row.now)) c.in-Some.is) (rw (← c.self.view_is) at c.requires.medium) c.put.ensures)
