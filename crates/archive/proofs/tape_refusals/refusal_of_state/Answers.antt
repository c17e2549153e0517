use Rattle.std.proofs.Common.{◌∙◌, ap, sym}
use Rattle.std.specs.Prelude.{Option}
use Rattle.cta_model.specs.declared.answers.Refusal.{Refusal}
use Rattle.archive.specs.AdminRefusals.{or_full}
use Rattle.archive.proofs.TapeRefused.{state_refused}
use Rattle.archive.proofs.tape_refusals.refusal_of_state.Goals as goal

pub returns : goal.returns
returns g c at who to =
    state_refused c.args.state.now.site c.args.state.now.history at who c.args.tape to c.tape_state.result c.is_mounted.result c.would_pass.result c.tape_state.ensures c.is_mounted.ensures c.would_pass.ensures
    ∙ ap (λ (o : Option Refusal). or_full o c.would_pass.result) (sym c.first_of_free-refusal.ensures)
    ∙ sym c.or_full.ensures
