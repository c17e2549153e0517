use Rattle.std.proofs.Common.{◌∙◌, ◌+◌, ℕ, length, refl, sym, ap}
use Rattle.std.specs.Prelude.{None, nat_lt}
use Rattle.cta_model.specs.declared.asks.Ask.TheVariants as ask
use Rattle.cta_model.specs.declared.asks.Direction.TheVariants as direction
use Rattle.cta_model.specs.Answers.{is_accepted}
use Rattle.cta_model.specs.History.{weight_of}
use Rattle.archive_state.proofs.Mounted.{kept_with}
use Rattle.archive_state.proofs.Moves.{can_carry_out, reads_is, state_after}
use Rattle.archive.proofs.Claimed.{claim_nothing, evicted_is, read_accepted, read_heavy, some_left}
use Rattle.archive.proofs.reads.claim_to_read.Goals as goal
use Rattle.archive.proofs.reads.claim_to_read.Goals.{in-Err-claim_reads, in-Ok-claim_reads}

pub returns-then-count-eq0-clause-answer : goal.returns-then-count-eq0-clause-answer
returns-then-count-eq0-clause-answer g c =
    let on = rw (← c.reach.ensures) at c.requires.open in
    let reads = rw (← c.reach.ensures) at c.requires.reads in
    rw (← c.reach.ensures)
    (claim_nothing c.reach.new.self.site c.reach.new.self.history c.args.at c.args.mount direction.Retrieve c.in-Ok.items.items reads on c.in-Ok.ensures.batch (rw c.as_slice-count.ensures at c.if-count-eq0.true))

pub returns-then-would_pass-clause-answer : goal.returns-then-would_pass-clause-answer
returns-then-would_pass-clause-answer g c =
    let on = rw (← c.reach.ensures) at c.requires.open in
    let reads = rw (← c.reach.ensures) at c.requires.reads in
    let evicted = evicted_is c.reach.new.self.site c.reach.new.self.history c.args.at c.in-Ok.items.items c.as_slice.result.now c.bytes_of.result c.evicted_count-evicted.result c.as_slice.ensures c.bytes_of.ensures c.evicted_count-evicted.ensures in
    let heavy = rw c.as_slice-count.ensures at (sym c.would_pass.ensures ∙ c.if-would_pass.true) in
    rw (← c.reach.ensures)
    (read_heavy c.reach.new.self.site c.reach.new.self.history c.args.at c.args.mount c.in-Ok.items.items reads on c.in-Ok.ensures.batch (some_left _ (rw c.as_slice-count.ensures at c.if-count-eq0.false))
    (ap (λ (n : ℕ). nat_lt c.reach.new.self.site.limits.history (weight_of c.reach.new.self.history + (1 + length c.in-Ok.items.items + n))) (sym evicted) ∙ heavy))

pub claim_reads-requires-clause-carrying : goal.claim_reads-requires-clause-carrying
claim_reads-requires-clause-carrying g c =
    let on = rw (← c.reach.ensures) at c.requires.open in
    let reads = rw (← c.reach.ensures) at c.requires.reads in
    let evicted = evicted_is c.reach.new.self.site c.reach.new.self.history c.args.at c.in-Ok.items.items c.as_slice.result.now c.bytes_of.result c.evicted_count-evicted.result c.as_slice.ensures c.bytes_of.ensures c.evicted_count-evicted.ensures in
    let light = rw c.as_slice-count.ensures at (sym c.would_pass.ensures ∙ c.if-would_pass.false) in
    can_carry_out c.state.inside.site c.state.inside.history.value c.state.inside.parts c.state.inside.shelf c.args.at (ask.Claim c.args.mount) c.state.invariant c.requires.at (reads_is _ (rw (← c.state.view_is) at reads)) (rw (← c.state.view_is) at (ap is_accepted
    (read_accepted c.reach.new.self.site c.reach.new.self.history c.args.at c.args.mount c.in-Ok.items.items reads on c.in-Ok.ensures.batch (some_left _ (rw c.as_slice-count.ensures at c.if-count-eq0.false))
    (ap (λ (n : ℕ). nat_lt c.reach.new.self.site.limits.history (weight_of c.reach.new.self.history + (1 + length c.in-Ok.items.items + n))) (sym evicted) ∙ light))))

pub invariant_of-state : goal.invariant_of-state
invariant_of-state g c =
    let on = rw (← c.reach.ensures) at c.requires.open in
    let reads = rw (← c.reach.ensures) at c.requires.reads in
    let evicted = evicted_is c.reach.new.self.site c.reach.new.self.history c.args.at c.in-Ok.items.items c.as_slice.result.now c.bytes_of.result c.evicted_count-evicted.result c.as_slice.ensures c.bytes_of.ensures c.evicted_count-evicted.ensures in
    let light = rw c.as_slice-count.ensures at (sym c.would_pass.ensures ∙ c.if-would_pass.false) in
    let accepted = rw (← c.state.view_is) at (ap is_accepted
    (read_accepted c.reach.new.self.site c.reach.new.self.history c.args.at c.args.mount c.in-Ok.items.items reads on c.in-Ok.ensures.batch (some_left _ (rw c.as_slice-count.ensures at c.if-count-eq0.false))
    (ap (λ (n : ℕ). nat_lt c.reach.new.self.site.limits.history (weight_of c.reach.new.self.history + (1 + length c.in-Ok.items.items + n))) (sym evicted) ∙ light))) in
    state_after c.state.inside.site c.state.inside.history.value c.args.at (ask.Claim c.args.mount) c.claim_reads.result c.claim_reads.new.history.value c.state.inside.parts c.claim_reads.new.parts c.state.inside.shelf c.state.invariant c.requires.at (reads_is _ (rw (← c.state.view_is) at reads)) refl accepted
    c.claim_reads.ensures.carried

pub returns-clause-kept : goal.returns-clause-kept
returns-clause-kept g c =
    let on = rw (← c.reach.ensures) at c.requires.open in
    let reads = rw (← c.reach.ensures) at c.requires.reads in
    let evicted = evicted_is c.reach.new.self.site c.reach.new.self.history c.args.at c.in-Ok.items.items c.as_slice.result.now c.bytes_of.result c.evicted_count-evicted.result c.as_slice.ensures c.bytes_of.ensures c.evicted_count-evicted.ensures in
    let light = rw c.as_slice-count.ensures at (sym c.would_pass.ensures ∙ c.if-would_pass.false) in
    let accepted = rw (← c.state.view_is) at (ap is_accepted
    (read_accepted c.reach.new.self.site c.reach.new.self.history c.args.at c.args.mount c.in-Ok.items.items reads on c.in-Ok.ensures.batch (some_left _ (rw c.as_slice-count.ensures at c.if-count-eq0.false))
    (ap (λ (n : ℕ). nat_lt c.reach.new.self.site.limits.history (weight_of c.reach.new.self.history + (1 + length c.in-Ok.items.items + n))) (sym evicted) ∙ light))) in
    elim c.match-claim_reads.branch [
      | in-Ok-claim_reads w ↦ rw (w.result-is, ← c.reach.ensures, ← c.state.view_is)
          (kept_with c.state.inside.site c.state.inside.history.value c.claim_reads.new.history.value c.args.at (ask.Claim c.args.mount) _ None c.state.inside.shelf c.state.inside.shelf (ap is_accepted w.in-Ok-claim_reads.ensures.carried.answer ∙ accepted) w.in-Ok-claim_reads.ensures.carried.entry refl)
      | in-Err-claim_reads w ↦ rw w.result-is tt
    ]
