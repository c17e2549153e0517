use Rattle.std.proofs.Common.{◌≡◌, ◌<◌, length, arith, refl}
use Rattle.std.specs.Prelude.{Some, slice_get}
use Rattle.std.proofs.lemmas.Option.{slice_get_read}
use Rattle.conn.specs.Stands.{HasCompletion, limit_of}
use Rattle.links.proofs.links.Links.has_completion.Goals as goal

pub returns : goal.returns
returns c = λ limit fed given stand.
    let links = c.args.self.now in
    let at = c.args.link in
    let conn = c.index.result.now in
    let within : at < length links.conns.items = omega (arith, links.count, links.conns.ok.0) in
    let was : slice_get links.conns.items at ≡ Some conn = slice_get_read _ _ _ _ refl within c.index.ensures in
    let here = stand at conn was in
    let done : HasCompletion (limit_of conn) (fed at) (given at) = c.has_completion.ensures (fed at) (given at) here.stands in
    rw here.limit_is at done
