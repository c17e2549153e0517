use Rattle.std.proofs.lemmas.Result.{on_ok_weaker}
use Rattle.tape_json.proofs.Objects.{count-reads}
use Rattle.tape_json.proofs.answer.write_count.Goals as goal

pub returns-clause-reads : goal.returns-clause-reads
returns-clause-reads c = on_ok_weaker c.end_object.result (λ e. count-reads c.args.name.now c.args.n c.count_member.ensures.fits) c.end_object.ensures.ok
