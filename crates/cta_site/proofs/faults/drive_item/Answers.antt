use Rattle.std.proofs.Common.{◌≡◌, ◌∙◌, ap, map}
use Rattle.cta_site.specs.declared.site.Drive.{Drive}
use Rattle.cta_site.specs.declared.site.Failure.{Failure}
use Rattle.cta_site.specs.Items.{first_failing, is_among}
use Rattle.cta_site.specs.References.{drive_has_library, failure_has_drive}
use Rattle.cta_site.specs.Names.{drive_names}
use Rattle.cta_site.proofs.Moved.{moved}
use Rattle.cta_site.proofs.faults.drive_item.Goals as goal

pub returns : goal.returns
returns c =
    let names : c.in_ok-names.names ≡ drive_names c.args.site.now = c.in_ok-names.ensures ∙ ap (map (λ (d : Drive). d.name)) c.as_slice.ensures in
    let drives : c.drive_without_library.result ≡ first_failing (drive_has_library c.args.site.now) c.args.site.now.drives.items = moved (λ ns (d : Drive). is_among ns d.library) _ _ _ _ _ c.requires.names c.as_slice-2.ensures c.drive_without_library.ensures.value in
    let failures : c.failure_without_drive.result ≡ first_failing (failure_has_drive c.args.site.now) c.args.site.now.failures.items = moved (λ ns (f : Failure). is_among ns f.drive) _ _ _ _ _ names c.as_slice-3.ensures c.failure_without_drive.ensures.value in
    cc (drives, failures)
