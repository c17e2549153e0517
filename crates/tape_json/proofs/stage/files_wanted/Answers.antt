use Rattle.std.proofs.Common.{◌≡◌, ◌<◌, ◌∙◌, ap, sym, Err, Ok, length, arith}
use Rattle.std.proofs.lemmas.Grind.{common_steps}
use Rattle.tape_json.specs.Bodies.{filled}
use Rattle.tape_json.specs.declared.body.BodyError.TheVariants.{BadLifetime}
use Rattle.tape_json.proofs.Items.{files_wanted-no_path, files_wanted-paths, filled-items, filled-empty}
use Rattle.tape_json.proofs.stage.files_wanted.Goals as goal

pub returns-then-not-all_have_paths-clause-cause :
    goal.returns-then-not-all_have_paths-clause-cause
returns-then-not-all_have_paths-clause-cause c other =
    files_wanted-no_path c.args.files.now (sym c.all_have_paths.ensures ∙ c.if-not-all_have_paths.true)

pub returns-then-is_empty-clause-cause : goal.returns-then-is_empty-clause-cause
returns-then-is_empty-clause-cause c other =
    let none : length c.in-Ok.wanted.items ≡ 0 = grind (arith, common_steps) in
    files_wanted-paths c.args.files.now (sym c.all_have_paths.ensures ∙ c.if-not-all_have_paths.false)
    ∙ ap (filled BadLifetime) c.in-Ok.ensures.value
    ∙ filled-empty BadLifetime c.in-Ok.wanted.items none

pub returns-else-is_empty-clause-value : goal.returns-else-is_empty-clause-value
returns-else-is_empty-clause-value c =
    let some : 0 < length c.in-Ok.wanted.items = grind (arith, common_steps) in
    files_wanted-paths c.args.files.now (sym c.all_have_paths.ensures ∙ c.if-not-all_have_paths.false)
    ∙ ap (filled BadLifetime) c.in-Ok.ensures.value
    ∙ filled-items BadLifetime c.in-Ok.wanted.items some
    ∙ ap Ok (sym c.of.ensures.items)

pub returns-in-Err-clause-cause : goal.returns-in-Err-clause-cause
returns-in-Err-clause-cause c other =
    let fault = c.in-Err.ensures.cause other in
    files_wanted-paths c.args.files.now (sym c.all_have_paths.ensures ∙ c.if-not-all_have_paths.false)
    ∙ ap (filled BadLifetime) fault.1
    ∙ ap Err (sym fault.0)
