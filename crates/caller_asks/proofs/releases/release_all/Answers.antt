use Rattle.std.proofs.Common.{◌∙◌, List, ℕ, subst}
use Rattle.part_model.specs.Requests.{RequestsAgree, release}
use Rattle.caller_asks.proofs.RequestLoops.{release_more}
use Rattle.caller_asks.proofs.releases.release_all.Goals as goal

pub loop-path-preserved : goal.loop-path-preserved
loop-path-preserved c =
    release_more c.args.id c.loop-path.path-index c.args.paths.now _ c.args.requests.now c.loop-path.requests c.release.new.self c.loop-path-test.true c.loop-path.invariant
    (subst (λ (p : List ℕ). RequestsAgree c.release.new.self (release c.args.id p c.loop-path.requests)) (c.as_bytes.ensures ∙ c.path-item.is) c.release.ensures)
