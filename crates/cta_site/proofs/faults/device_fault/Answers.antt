use Rattle.std.proofs.Common.{◌≡◌, ◌∙◌, ◌&&◌, ap, map}
use Rattle.std.proofs.lemmas.List.{map-id}
use Rattle.cta_site.specs.declared.site.TapePool.{TapePool}
use Rattle.cta_site.specs.declared.site.Class.{Class}
use Rattle.cta_site.specs.declared.site.Tape.{Tape}
use Rattle.cta_site.specs.declared.site.Directory.{Directory}
use Rattle.cta_site.specs.Items.{first_failing, is_among}
use Rattle.cta_site.specs.Paths.{is_path}
use Rattle.cta_site.specs.References.{tape_has_home, directory_has_class}
use Rattle.cta_site.specs.Names.{class_names, pool_names}
use Rattle.cta_site.proofs.Moved.{moved}
use Rattle.cta_site.proofs.faults.device_fault.Goals as goal

pub drive_item-requires : goal.drive_item-requires
drive_item-requires c = record { counts = c.requires; names = c.in_ok-libraries.ensures ∙ map-id _ ∙ c.as_slice-3.ensures }

pub returns : goal.returns
returns c =
    let pools : c.in_ok-pools.pools ≡ pool_names c.args.site.now = c.in_ok-pools.ensures ∙ ap (map (λ (p : TapePool). p.name)) c.as_slice.ensures in
    let classes : c.in_ok-classes.classes ≡ class_names c.args.site.now = c.in_ok-classes.ensures ∙ ap (map (λ (k : Class). k.name)) c.as_slice-2.ensures in
    let libraries : c.in_ok-libraries.libraries ≡ c.args.site.now.libraries.items = c.in_ok-libraries.ensures ∙ map-id _ ∙ c.as_slice-3.ensures in
    let by_pool : c.tape_without_home.result ≡ first_failing (λ (t : Tape). is_among (pool_names c.args.site.now) t.pool && is_among c.in_ok-libraries.libraries t.library) c.args.site.now.tapes.items = moved (λ ns (t : Tape). is_among ns t.pool && is_among c.in_ok-libraries.libraries t.library) _ _ _ _ _ pools c.as_slice-4.ensures c.tape_without_home.ensures.value in
    let tapes : c.tape_without_home.result ≡ first_failing (tape_has_home c.args.site.now) c.args.site.now.tapes.items = by_pool ∙ ap (λ ns. first_failing (λ (t : Tape). is_among (pool_names c.args.site.now) t.pool && is_among ns t.library) c.args.site.now.tapes.items) libraries in
    let directories : c.directory_without_class.result ≡ first_failing (directory_has_class c.args.site.now) c.args.site.now.directories.items = moved (λ ns (d : Directory). is_path d.path && is_among ns d.class) _ _ _ _ _ classes c.as_slice-5.ensures c.directory_without_class.ensures.value in
    cc (tapes, directories, c.in_ok-drive_item.ensures)
