use Rattle.std.proofs.Common.{[]}
use Rattle.cta_records.proofs.Alone.{told_alone}
use Rattle.cta_records.proofs.reading.kept_in.Goals as goal

pub returns-in-Ok : goal.returns-in-Ok
returns-in-Ok c =
    told_alone _ c.in-Ok.kept c.in-Ok.rest.now c.args.body.now c.alone.ensures c.in-Ok.ensures.right.0 c.in-Ok.ensures.right.1 (λ k fits same. c.in-Ok.ensures.again k [] fits same)
