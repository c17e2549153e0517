use Rattle.std.proofs.Common.{rules, ◌∙◌, ◌≡◌, sym, ap}
use Rattle.std.specs.Prelude.{is_some}
use Rattle.stage_book.proofs.Requests.{found_in, request_is}
use Rattle.stage_book.proofs.book.StageBook.knows.Goals as goal

pub returns : goal.returns
returns c =
    let here : c.contains_key.result ≡ is_some (found_in c.args.self.now c.args.id) = search rules in
    here ∙ sym (ap is_some (request_is c.args.self.now c.args.id))
