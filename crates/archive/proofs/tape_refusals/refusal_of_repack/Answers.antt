use Rattle.std.proofs.Common.{◌∙◌, ap, sym}
use Rattle.std.specs.Prelude.{Option}
use Rattle.cta_model.specs.declared.answers.Refusal.{Refusal}
use Rattle.archive.specs.AdminRefusals.{or_full}
use Rattle.archive.proofs.TapeRefused.{repack_refused}
use Rattle.archive.proofs.tape_refusals.refusal_of_repack.Goals as goal

pub returns : goal.returns
returns g c at who =
    repack_refused c.args.state.now.site c.args.state.now.history at who c.args.tape c.tape_state.result c.has_live_repack.result c.live_copies.result c.would_pass.result c.tape_state.ensures c.has_live_repack.ensures c.live_copies.ensures c.would_pass.ensures
    ∙ ap (λ (o : Option Refusal). or_full o c.would_pass.result) (sym c.first_of_repack-refusal.ensures)
    ∙ sym c.or_full.ensures
