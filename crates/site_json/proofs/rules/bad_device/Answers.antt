use Rattle.std.proofs.Common.{◌∙◌, ap}
use Rattle.cta_site.specs.Items.{first_failing}
use Rattle.site_json.specs.Elements.{tells_library, tells_tape, tells_drive, tells_directory, tells_failure}
use Rattle.site_json.proofs.Joined.{joined}
use Rattle.site_json.proofs.rules.bad_device.Goals as goal

pub returns : goal.returns
returns c =
    joined _ _ _ _ _ _ _ _ _ _ _ _ _ _
    (c.first_bad-libraries.ensures ∙ ap (first_failing tells_library) c.list.ensures)
    (c.first_bad-tapes.ensures ∙ ap (first_failing tells_tape) c.list-2.ensures)
    (c.first_bad-drives.ensures ∙ ap (first_failing tells_drive) c.list-3.ensures)
    (c.first_bad-directories.ensures ∙ ap (first_failing tells_directory) c.list-4.ensures)
    (c.first_bad-failures.ensures ∙ ap (first_failing tells_failure) c.list-5.ensures)
    c.or.ensures c.or-2.ensures c.or-3.ensures c.or-4.ensures
