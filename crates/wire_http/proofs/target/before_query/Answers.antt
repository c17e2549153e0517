use Rattle.std.proofs.Common.{rules, sym}
use Rattle.wire_http.proofs.Queries.{query_at, query_none}
use Rattle.wire_http.proofs.target.before_query.Goals as goal

pub returns-in-Some : goal.returns-in-Some
returns-in-Some c = sym (query_at c.args.target.now c.in-Some.at (search rules) (search rules) (search rules))

pub returns-in-None : goal.returns-in-None
returns-in-None c = sym (query_none c.args.target.now (search rules))
