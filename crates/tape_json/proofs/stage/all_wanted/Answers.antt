use Rattle.std.proofs.Common.{◌∙◌, ap, sym, Some}
use Rattle.serde_json.specs.View.{view}
use Rattle.tape_json.specs.Bodies.{wanted_of}
use Rattle.tape_json.proofs.Items.{all_read-more, all_read-refused}
use Rattle.tape_json.proofs.stage.all_wanted.Goals as goal

pub returns-in-Err-clause-cause : goal.returns-in-Err-clause-cause
returns-in-Err-clause-cause c other =
    let fault = c.in-Err.ensures.cause other in
    (fault.0, all_read-refused wanted_of view c.args.files.now c.files.file-index c.file-item.result c.files-test.true c.file-item.is fault.1)

pub files-preserved : goal.files-preserved
files-preserved c =
    all_read-more wanted_of view c.args.files.now c.files.file-index c.file-item.result c.files.wanted.items c.in-Ok.next c.files-test.true c.file-item.is
    c.files.invariant c.in-Ok.ensures.value
    ∙ ap Some (sym c.in_ok-push-in-Ok.ensures.items)
