use Rattle.std.proofs.Common.{◌∙◌, refl, sym, ap}
use Rattle.std.specs.Prelude.{None}
use Rattle.blob.specs.Sums.{sum_of}
use Rattle.cta_model.specs.declared.asks.Ask.TheVariants as ask
use Rattle.cta_model.specs.Answers.{is_accepted}
use Rattle.archive_state.proofs.Mounted.{kept_with}
use Rattle.archive_state.proofs.Moves.{can_carry_out, state_after}
use Rattle.archive.proofs.FileRefused.{put_accepted, put_hand}
use Rattle.archive.proofs.Refused.{is_refused}
use Rattle.archive.proofs.puts.put.Goals as goal
use Rattle.archive.proofs.puts.put.Goals.{in-Err, in-Ok}

pub returns-in-Some-clause-answer : goal.returns-in-Some-clause-answer
returns-in-Some-clause-answer g c =
    rw (← c.reach.ensures) (is_refused _ c.in-Some.refusal (c.refusal_of_put.ensures c.args.who (sum_of c.args.blob.value) (sym (ap (λ s. s.len) (c.sum-sum.ensures ∙ ap sum_of c.deref.ensures))) ∙ c.in-Some.is))

pub put_file-requires : goal.put_file-requires
put_file-requires g c =
    can_carry_out c.state.inside.site c.state.inside.history.value c.state.inside.parts c.state.inside.shelf c.args.at (ask.Put c.args.who c.args.path (sum_of c.args.blob.value)) c.state.invariant c.requires tt (rw (← c.state.view_is) at (put_accepted c.reach.new.self.site c.reach.new.self.history c.args.at c.args.who c.args.path (sum_of c.args.blob.value) (c.refusal_of_put.ensures c.args.who (sum_of c.args.blob.value) (sym (ap (λ s. s.len) (c.sum-sum.ensures ∙ ap sum_of c.deref.ensures))) ∙ c.in_default.is)))

pub invariant_of-state : goal.invariant_of-state
invariant_of-state g c =
    let accepted = rw (← c.state.view_is) at (put_accepted c.reach.new.self.site c.reach.new.self.history c.args.at c.args.who c.args.path (sum_of c.args.blob.value) (c.refusal_of_put.ensures c.args.who (sum_of c.args.blob.value) (sym (ap (λ s. s.len) (c.sum-sum.ensures ∙ ap sum_of c.deref.ensures))) ∙ c.in_default.is)) in
    state_after c.state.inside.site c.state.inside.history.value c.args.at (ask.Put c.args.who c.args.path (sum_of c.args.blob.value)) c.put_file.result c.put_file.new.history.value c.state.inside.parts c.put_file.new.parts c.state.inside.shelf c.state.invariant c.requires tt refl accepted
    c.put_file.ensures.carried

pub returns-clause-kept : goal.returns-clause-kept
returns-clause-kept g c =
    let accepted = rw (← c.state.view_is) at (put_accepted c.reach.new.self.site c.reach.new.self.history c.args.at c.args.who c.args.path (sum_of c.args.blob.value) (c.refusal_of_put.ensures c.args.who (sum_of c.args.blob.value) (sym (ap (λ s. s.len) (c.sum-sum.ensures ∙ ap sum_of c.deref.ensures))) ∙ c.in_default.is)) in
    elim c.match-put_file.branch [
      | in-Ok w ↦ rw (w.result-is, ← c.reach.ensures, ← c.state.view_is)
          (kept_with c.state.inside.site c.state.inside.history.value c.put_file.new.history.value c.args.at (ask.Put c.args.who c.args.path (sum_of c.args.blob.value)) _ None c.state.inside.shelf c.state.inside.shelf (ap is_accepted w.in-Ok.ensures.carried.answer ∙ accepted) w.in-Ok.ensures.carried.entry refl)
      | in-Err w ↦ rw w.result-is tt
    ]

pub returns-clause-hand : goal.returns-clause-hand
returns-clause-hand g c =
    let accepted = rw (← c.state.view_is) at (put_accepted c.reach.new.self.site c.reach.new.self.history c.args.at c.args.who c.args.path (sum_of c.args.blob.value) (c.refusal_of_put.ensures c.args.who (sum_of c.args.blob.value) (sym (ap (λ s. s.len) (c.sum-sum.ensures ∙ ap sum_of c.deref.ensures))) ∙ c.in_default.is)) in
    elim c.match-put_file.branch [
      | in-Ok w ↦ rw w.result-is (put_hand g.M.Told.told _ _ c.args.who c.args.path (sum_of c.args.blob.value) _ _ _ (ap is_accepted w.in-Ok.ensures.carried.answer ∙ accepted))
      | in-Err w ↦ rw w.result-is tt
    ]
