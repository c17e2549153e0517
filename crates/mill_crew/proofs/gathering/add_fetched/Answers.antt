use Rattle.std.specs.Prelude.{Option, Some, IfSome, ◌≡◌, ◌-◌, ◌≤◌, drop, take}
use Rattle.std.proofs.Common.{arith, subst}
use Rattle.mill_crew.specs.Contents.{AreFetched}
use Rattle.mill_crew.proofs.Totals.{fetched_next}
use Rattle.mill_crew.proofs.gathering.add_fetched.Goals as goal

pub returns-clause-fetched : goal.returns-clause-fetched
returns-clause-fetched g c =
    let share = c.args.one.share in
    let same : share.from ≡ c.args.at = omega (arith, c.if-share-at.false) in
    let above : c.args.at ≤ share.to = omega (arith, c.if-share-at-2.false) in
    let part : AreFetched (take (share.to - share.from) (drop share.from c.args.sums.now)) c.in-Some.part =
    subst (λ o. IfSome o (AreFetched (take (share.to - share.from) (drop share.from c.args.sums.now)))) c.in-Some.is c.requires.one.fetched in
    fetched_next c.args.sums.now share.from c.args.at share.to c.args.total c.in-Some.part same above c.requires.fetched part
