use Rattle.std.proofs.Common.{refl, ◌∙◌}
use Rattle.replay.specs.Line.{drive_name}
use Rattle.replay.proofs.Parts.{same_words, no_word}
use Rattle.replay.proofs.Drives.{Without-drive}
use Rattle.replay.proofs.line.step_of.Goals as goal

pub returns-in_default : goal.returns-in_default
returns-in_default c = λ drive moment step e. no_word 32 (drive_name c.args.site.now drive) _ _ e c.in_default.ensures

pub returns-in_default-drive_number : goal.returns-in_default-drive_number
returns-in_default-drive_number c = λ drive moment step e.
    let s = same_words 32 (drive_name c.args.site.now drive) _ _ _ (Without-drive 32 c.args.site.now drive refl c.keeps_rules.ensures.parts step.0) c.in-Some.ensures.0 (e ∙ c.in-Some.ensures.1) in
    c.in_default-drive_number.ensures drive step.0 s.0

pub returns-in_default-number_of : goal.returns-in_default-number_of
returns-in_default-number_of c = λ drive moment step e.
    let s = same_words 32 (drive_name c.args.site.now drive) _ _ _ (Without-drive 32 c.args.site.now drive refl c.keeps_rules.ensures.parts step.0) c.in-Some.ensures.0 (e ∙ c.in-Some.ensures.1) in
    c.in_default-number_of.ensures moment step.1 s.1
