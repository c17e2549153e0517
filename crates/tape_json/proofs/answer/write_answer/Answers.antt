use Rattle.std.proofs.Common.{◌≡◌, ◌∙◌, [], ◌++◌}
use Rattle.json.specs.Print.{print}
use Rattle.tape_json.specs.Reports.{report_of}
use Rattle.tape_json.proofs.Objects.{written-text, written-reads}
use Rattle.tape_json.proofs.answer.write_answer.Goals as goal

pub returns-clause-text : goal.returns-clause-text
returns-clause-text c =
    let text : c.of.result ≡ c.write_report.new.out.before ++ print c.write_report.new.out.tokens =
    cc (c.of.ensures, c.in-Ok.ensures.ok, c.into_inner.ensures.items) in
    let front : c.new-out.result.before ≡ [] = c.new-out.ensures.before ∙ c.new.ensures.items in
    written-text (report_of c.args.answer.now) c.new-out.result c.write_report.new.out c.in_ok-write_report.field-0 c.of.result c.requires front c.new-out.ensures.tokens c.in_ok-write_report.ensures.appends text

pub returns-clause-value : goal.returns-clause-value
returns-clause-value c =
    let text : c.of.result ≡ c.write_report.new.out.before ++ print c.write_report.new.out.tokens =
    cc (c.of.ensures, c.in-Ok.ensures.ok, c.into_inner.ensures.items) in
    let front : c.new-out.result.before ≡ [] = c.new-out.ensures.before ∙ c.new.ensures.items in
    written-reads (report_of c.args.answer.now) c.new-out.result c.write_report.new.out c.in_ok-write_report.field-0 c.of.result c.requires front c.new-out.ensures.tokens c.in_ok-write_report.ensures.appends text
    c.in_ok-write_report.ensures.reads c.into_inner.ensures.reads_back
