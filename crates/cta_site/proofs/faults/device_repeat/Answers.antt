use Rattle.std.proofs.Common.{◌≡◌, ◌∙◌}
use Rattle.cta_site.specs.Items.{fault, first_repeat}
use Rattle.cta_site.proofs.Moved.{own_names}
use Rattle.cta_site.proofs.faults.device_repeat.Goals as goal

pub returns : goal.returns
returns c =
    let libraries : c.in_ok-libraries.libraries ≡ fault 13 (first_repeat c.as_slice.result.now) = c.in_ok-libraries.ensures ∙ own_names 13 c.as_slice.result.now in
    cc (libraries, c.as_slice.ensures, c.in_ok-tapes.ensures, c.in_ok-drives.ensures, c.in_ok-directories.ensures)
