use Rattle.std.proofs.Common.{◌∙◌, refl, sym, ap}
use Rattle.std.specs.Prelude.{None}
use Rattle.cta_site.specs.Listed.{rows}
use Rattle.cta_model.specs.declared.asks.Ask.TheVariants as ask
use Rattle.cta_model.specs.Answers.{is_accepted}
use Rattle.archive_state.proofs.Mounted.{kept_with}
use Rattle.archive_state.proofs.Moves.{can_carry_out, state_after}
use Rattle.archive.proofs.Answered.{flush_accepted, flush_hand, flush_refused}
use Rattle.archive.proofs.flushes.flushed.Goals as goal
use Rattle.archive.proofs.flushes.flushed.Goals.{in-Err, in-Ok}

pub returns-then-not-knows-clause-answer : goal.returns-then-not-knows-clause-answer
returns-then-not-knows-clause-answer g c = flush_refused c.args.state.now.site c.args.state.now.history c.args.at c.args.mount c.args.items.items (rw c.as_slice.ensures at (sym c.knows.ensures ∙ c.if-not-knows.true))

pub flush_batch-requires : goal.flush_batch-requires
flush_batch-requires g c =
    can_carry_out c.state.inside.site c.state.inside.history.value c.state.inside.parts c.state.inside.shelf c.args.at (ask.Flushed c.args.mount (rows c.args.items.items)) c.state.invariant c.requires.at (rw (← c.state.view_is) at c.requires.fit) (rw (← c.state.view_is) at (flush_accepted c.args.state.now.site c.args.state.now.history c.args.at c.args.mount c.args.items.items (rw c.as_slice.ensures at (sym c.knows.ensures ∙ c.if-not-knows.false))))

pub invariant_of-state : goal.invariant_of-state
invariant_of-state g c =
    let accepted = rw (← c.state.view_is) at (flush_accepted c.args.state.now.site c.args.state.now.history c.args.at c.args.mount c.args.items.items (rw c.as_slice.ensures at (sym c.knows.ensures ∙ c.if-not-knows.false))) in
    state_after c.state.inside.site c.state.inside.history.value c.args.at (ask.Flushed c.args.mount (rows c.args.items.items)) c.flush_batch.result c.flush_batch.new.history.value c.state.inside.parts c.flush_batch.new.parts c.state.inside.shelf c.state.invariant c.requires.at (rw (← c.state.view_is) at c.requires.fit) refl accepted
    c.flush_batch.ensures.carried

pub returns-clause-kept : goal.returns-clause-kept
returns-clause-kept g c =
    let accepted = rw (← c.state.view_is) at (flush_accepted c.args.state.now.site c.args.state.now.history c.args.at c.args.mount c.args.items.items (rw c.as_slice.ensures at (sym c.knows.ensures ∙ c.if-not-knows.false))) in
    elim c.match-flush_batch.branch [
      | in-Ok w ↦ rw (w.result-is, ← c.state.view_is)
          (kept_with c.state.inside.site c.state.inside.history.value c.flush_batch.new.history.value c.args.at (ask.Flushed c.args.mount (rows c.args.items.items)) _ None c.state.inside.shelf c.state.inside.shelf (ap is_accepted w.in-Ok.ensures.carried.answer ∙ accepted) w.in-Ok.ensures.carried.entry refl)
      | in-Err w ↦ rw w.result-is tt
    ]

pub returns-clause-hand : goal.returns-clause-hand
returns-clause-hand g c =
    let accepted = rw (← c.state.view_is) at (flush_accepted c.args.state.now.site c.args.state.now.history c.args.at c.args.mount c.args.items.items (rw c.as_slice.ensures at (sym c.knows.ensures ∙ c.if-not-knows.false))) in
    elim c.match-flush_batch.branch [
      | in-Ok w ↦ rw w.result-is (flush_hand g.M.Told.told _ _ c.args.mount _ _ _ _ (ap is_accepted w.in-Ok.ensures.carried.answer ∙ accepted))
      | in-Err w ↦ rw w.result-is tt
    ]
