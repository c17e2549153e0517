use Rattle.std.proofs.Common.{sym, ap, true≢false}
use Rattle.uuid.specs.Text.{parsed}
use Rattle.tape_routes.specs.Parameters.{number_of_id}
use Rattle.tape_routes.proofs.Choices.{none_of}
use Rattle.tape_routes.proofs.ids.id_number.Goals as goal

pub returns-in-Err : goal.returns-in-Err
returns-in-Err c = sym (ap number_of_id (none_of (parsed c.args.text.now) (λ some. true≢false (sym (c.in-Err.ensures.ok.1 some)))))
