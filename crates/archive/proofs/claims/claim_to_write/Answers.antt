use Rattle.std.proofs.Common.{◌∙◌, refl, sym, ap}
use Rattle.std.specs.Prelude.{None}
use Rattle.cta_model.specs.declared.asks.Ask.TheVariants as ask
use Rattle.cta_model.specs.declared.asks.Direction.TheVariants as direction
use Rattle.cta_model.specs.Answers.{is_accepted}
use Rattle.archive_state.proofs.Mounted.{kept_with}
use Rattle.archive_state.proofs.Moves.{can_carry_out, state_after, writes_is}
use Rattle.archive.proofs.Claimed.{claim_nothing, some_left, write_accepted, write_hand, write_heavy}
use Rattle.archive.proofs.claims.claim_to_write.Goals as goal
use Rattle.archive.proofs.claims.claim_to_write.Goals.{in-Err-claim_batch, in-Ok-claim_batch}

pub returns-then-count-eq0-clause-answer : goal.returns-then-count-eq0-clause-answer
returns-then-count-eq0-clause-answer g c =
    claim_nothing c.args.state.now.site c.args.state.now.history c.args.at c.args.mount direction.Archive c.in-Ok.items.items c.requires.writes c.requires.open c.in-Ok.ensures.batch (rw c.as_slice-count.ensures at c.if-count-eq0.true)

pub returns-then-would_pass-clause-answer : goal.returns-then-would_pass-clause-answer
returns-then-would_pass-clause-answer g c =
    write_heavy c.args.state.now.site c.args.state.now.history c.args.at c.args.mount c.in-Ok.items.items c.requires.writes c.requires.open c.in-Ok.ensures.batch (some_left _ (rw c.as_slice-count.ensures at c.if-count-eq0.false))
    (rw c.as_slice-count.ensures at (sym c.would_pass.ensures ∙ c.if-would_pass.true))

pub claim_batch-requires-clause-carrying : goal.claim_batch-requires-clause-carrying
claim_batch-requires-clause-carrying g c =
    can_carry_out c.state.inside.site c.state.inside.history.value c.state.inside.parts c.state.inside.shelf c.args.at (ask.Claim c.args.mount) c.state.invariant c.requires.at (writes_is _ (rw (← c.state.view_is) at c.requires.writes)) (rw (← c.state.view_is) at (ap is_accepted (write_accepted c.args.state.now.site c.args.state.now.history c.args.at c.args.mount c.in-Ok.items.items c.requires.writes c.requires.open c.in-Ok.ensures.batch (some_left _ (rw c.as_slice-count.ensures at c.if-count-eq0.false))
    (rw c.as_slice-count.ensures at (sym c.would_pass.ensures ∙ c.if-would_pass.false)))))

pub invariant_of-state : goal.invariant_of-state
invariant_of-state g c =
    let accepted = rw (← c.state.view_is) at (ap is_accepted (write_accepted c.args.state.now.site c.args.state.now.history c.args.at c.args.mount c.in-Ok.items.items c.requires.writes c.requires.open c.in-Ok.ensures.batch (some_left _ (rw c.as_slice-count.ensures at c.if-count-eq0.false))
    (rw c.as_slice-count.ensures at (sym c.would_pass.ensures ∙ c.if-would_pass.false)))) in
    state_after c.state.inside.site c.state.inside.history.value c.args.at (ask.Claim c.args.mount) c.claim_batch.result c.claim_batch.new.history.value c.state.inside.parts c.claim_batch.new.parts c.state.inside.shelf c.state.invariant c.requires.at (writes_is _ (rw (← c.state.view_is) at c.requires.writes)) refl accepted
    c.claim_batch.ensures.carried

pub returns-clause-kept : goal.returns-clause-kept
returns-clause-kept g c =
    let accepted = rw (← c.state.view_is) at (ap is_accepted (write_accepted c.args.state.now.site c.args.state.now.history c.args.at c.args.mount c.in-Ok.items.items c.requires.writes c.requires.open c.in-Ok.ensures.batch (some_left _ (rw c.as_slice-count.ensures at c.if-count-eq0.false))
    (rw c.as_slice-count.ensures at (sym c.would_pass.ensures ∙ c.if-would_pass.false)))) in
    elim c.match-claim_batch.branch [
      | in-Ok-claim_batch w ↦ rw (w.result-is, ← c.state.view_is)
          (kept_with c.state.inside.site c.state.inside.history.value c.claim_batch.new.history.value c.args.at (ask.Claim c.args.mount) _ None c.state.inside.shelf c.state.inside.shelf (ap is_accepted w.in-Ok-claim_batch.ensures.carried.answer ∙ accepted) w.in-Ok-claim_batch.ensures.carried.entry refl)
      | in-Err-claim_batch w ↦ rw w.result-is tt
    ]

pub returns-clause-hand : goal.returns-clause-hand
returns-clause-hand g c =
    let accepted = rw (← c.state.view_is) at (ap is_accepted (write_accepted c.args.state.now.site c.args.state.now.history c.args.at c.args.mount c.in-Ok.items.items c.requires.writes c.requires.open c.in-Ok.ensures.batch (some_left _ (rw c.as_slice-count.ensures at c.if-count-eq0.false))
    (rw c.as_slice-count.ensures at (sym c.would_pass.ensures ∙ c.if-would_pass.false)))) in
    elim c.match-claim_batch.branch [
      | in-Ok-claim_batch w ↦ rw w.result-is (write_hand g.M.Told.told _ _ c.args.mount c.in-Ok.items.items _ _ c.requires.writes (w.in-Ok-claim_batch.ensures.carried.answer ∙ rw (← c.state.view_is) at (write_accepted c.args.state.now.site c.args.state.now.history c.args.at c.args.mount c.in-Ok.items.items c.requires.writes c.requires.open c.in-Ok.ensures.batch (some_left _ (rw c.as_slice-count.ensures at c.if-count-eq0.false))
          (rw c.as_slice-count.ensures at (sym c.would_pass.ensures ∙ c.if-would_pass.false)))) (rw c.as_slice.ensures at c.in-Ok-contents_of.ensures))
      | in-Err-claim_batch w ↦ rw w.result-is tt
    ]
