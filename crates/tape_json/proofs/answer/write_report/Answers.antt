use Rattle.std.proofs.Common.{IfSome, sym, subst}
use Rattle.cta_model.specs.declared.answers.Answer.{Answer}
use Rattle.tape_json.specs.Reports.{report_of}
use Rattle.tape_json.specs.Shown.{value_tokens, Appends}
use Rattle.tape_json.proofs.answer.write_report.Goals as goal

pub returns-in-Repacking-clause-appends : goal.returns-in-Repacking-clause-appends
returns-in-Repacking-clause-appends c =
    subst (λ (a : Answer). IfSome (report_of a) (λ d. Appends c.write_id-in-Repacking.result c.args.out.now c.write_id-in-Repacking.new.out (value_tokens d))) (sym c.in-Repacking.is)
    c.write_id-in-Repacking.ensures.appends
