use Rattle.std.proofs.Common.{refl, sym, ap, ◌∙◌}
use Rattle.std.specs.Prelude.{option_map}
use Rattle.archive_restore.proofs.asked.recalled_hand.Goals as goal

pub returns-in_ok-clone-in-None : goal.returns-in_ok-clone-in-None
returns-in_ok-clone-in-None g c =
    let at = sym c.content_of.ensures ∙ ap (option_map (λ x. x.now)) c.in-Some.is in
    rw (at, c.in-None.is) (c.in_ok-clone-in-None.field-0, refl, c.in_ok-clone-in-None.ensures.cases)
