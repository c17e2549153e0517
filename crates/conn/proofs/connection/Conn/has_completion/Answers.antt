use Rattle.conn.specs.Stands.{Between, rest_of}
use Rattle.conn.proofs.Completions.{between_completion}
use Rattle.conn.proofs.connection.Conn.has_completion.Goals as goal

pub returns-in-AtHead : goal.returns-in-AtHead
returns-in-AtHead c = λ fed given s.
    let conn = c.args.self.now in
    let between : Between conn.limit (rest_of conn) fed given = rw c.in-AtHead.is at s in
    between_completion conn.limit (rest_of conn) _ fed given between c.unread-rest.ensures c.has_cut.ensures
