use Rattle.std.proofs.Common.{◌∙◌, refl, sym, ap}
use Rattle.std.specs.Prelude.{Some}
use Rattle.cta_site.specs.Listed.{rows}
use Rattle.cta_model.specs.declared.asks.Ask.TheVariants as ask
use Rattle.cta_model.specs.declared.asks.Direction.{Direction}
use Rattle.cta_model.specs.declared.asks.Direction.TheVariants as direction
use Rattle.archive_state.proofs.KnownJobs.{goes, goes_somewhere}
use Rattle.archive_state.proofs.Moves.{can_carry_out, state_after}
use Rattle.archive_state.proofs.state.ArchiveState.fail.Goals as goal

pub fail_writes-requires-clause-carrying : goal.fail_writes-requires-clause-carrying
fail_writes-requires-clause-carrying g c = can_carry_out c.self.inside.site c.self.inside.history.value c.self.inside.parts c.self.inside.shelf c.args.at (ask.Failed c.args.mount c.args.fault (rows c.args.charged.items) (rows c.args.returned.items)) c.self.invariant c.requires.at (rw (← c.self.view_is) at c.requires.fault, c.requires.named) (rw (← c.self.view_is) at c.requires.accepted)

pub fail_writes-requires-clause-writes : goal.fail_writes-requires-clause-writes
fail_writes-requires-clause-writes g c = goes direction.Archive c.self.inside.history.value c.args.mount (rw (← c.self.view_is) at (sym (c.in-Some-Archive.is ∙ ap (λ (d : Direction). Some d) c.in-Some-Archive.field-0-is) ∙ c.direction_of.ensures))

pub fail_reads-requires-clause-carrying : goal.fail_reads-requires-clause-carrying
fail_reads-requires-clause-carrying g c = can_carry_out c.self.inside.site c.self.inside.history.value c.self.inside.parts c.self.inside.shelf c.args.at (ask.Failed c.args.mount c.args.fault (rows c.args.charged.items) (rows c.args.returned.items)) c.self.invariant c.requires.at (rw (← c.self.view_is) at c.requires.fault, c.requires.named) (rw (← c.self.view_is) at c.requires.accepted)

pub fail_reads-requires-clause-reads : goal.fail_reads-requires-clause-reads
fail_reads-requires-clause-reads g c = goes direction.Retrieve c.self.inside.history.value c.args.mount (rw (← c.self.view_is) at (sym (c.in-Some-Retrieve.is ∙ ap (λ (d : Direction). Some d) c.in-Some-Retrieve.field-0-is) ∙ c.direction_of.ensures))

pub invariant_of-self : goal.invariant_of-self
invariant_of-self g c =
    state_after c.self.inside.site c.self.inside.history.value c.args.at (ask.Failed c.args.mount c.args.fault (rows c.args.charged.items) (rows c.args.returned.items)) c.fail_writes.result c.fail_writes.new.history.value c.self.inside.parts c.fail_writes.new.parts c.self.inside.shelf
    c.self.invariant c.requires.at (rw (← c.self.view_is) at c.requires.fault, c.requires.named) refl (rw (← c.self.view_is) at c.requires.accepted) c.fail_writes.ensures.carried

pub invariant_of-self-in-Some-Retrieve : goal.invariant_of-self-in-Some-Retrieve
invariant_of-self-in-Some-Retrieve g c =
    state_after c.self.inside.site c.self.inside.history.value c.args.at (ask.Failed c.args.mount c.args.fault (rows c.args.charged.items) (rows c.args.returned.items)) c.fail_reads.result c.fail_reads.new.history.value c.self.inside.parts c.fail_reads.new.parts c.self.inside.shelf
    c.self.invariant c.requires.at (rw (← c.self.view_is) at c.requires.fault, c.requires.named) refl (rw (← c.self.view_is) at c.requires.accepted) c.fail_reads.ensures.carried

pub unreachable-requires : goal.unreachable-requires
unreachable-requires g c =
    goes_somewhere c.self.inside.site c.self.inside.history.value c.args.at c.args.mount c.args.fault c.args.charged.items c.args.returned.items (rw (← c.self.view_is) at c.requires.fault) (rw (← c.self.view_is) at c.requires.accepted)
    (rw (← c.self.view_is) at (sym c.in-None.is ∙ c.direction_of.ensures))
