use Rattle.std.proofs.Common.{arith, ◌≡◌, ◌∙◌, List, ap, length, refl, sym, subst}
use Rattle.std.specs.Prelude.{IfOk, Option, option_map}
use Rattle.cta_site.specs.Listed.{Listed}
use Rattle.cta_model.specs.declared.asks.Direction.{Direction}
use Rattle.cta_model.specs.declared.asks.Job.{Job}
use Rattle.cta_model.specs.Legal.{IsLegal}
use Rattle.archive_state.specs.ClaimedJobs.{claimed_of}
use Rattle.durable_opening.proofs.Asked.{nothing_told, told_claims, told_none}
use Rattle.durable_opening.proofs.closing.give_back.Goals as goal

abbrev plain : Option (Direction × Listed Job) → Option (Direction × List Job)
plain told = option_map (λ (x : Direction × Listed Job). (x.0, x.1.items)) told

pub returns-then-len-eq0-clause-done : goal.returns-then-len-eq0-clause-done
returns-then-len-eq0-clause-done g c = λ yes.
    let a = c.args.logged.now.archive in
    let legal : IsLegal a.site a.history = subst (λ k. IsLegal k.site k.history) c.archive.ensures c.keeps_history.ensures in
    let is : plain c.in-Ok-Some.field-0 ≡ claimed_of a.site a.history c.args.mount = subst (λ k. plain c.in-Ok-Some.field-0 ≡ claimed_of k.site k.history c.args.mount) c.archive-2.ensures (subst (λ r. IfOk r (λ told. plain told ≡ claimed_of c.archive-2.result.now.site c.archive-2.result.now.history c.args.mount)) c.in-Ok-Some.is c.claimed.ensures) in
    let few : length c.in-Ok-Some.jobs.items ≡ 0 = omega (arith, c.len.ensures, c.if-len-eq0.true) in
    let both = told_claims a.site a.history c.args.mount c.in-Ok-Some.direction c.in-Ok-Some.jobs.items c.requires.open (sym (ap plain c.in-Ok-Some.field-0-is) ∙ is) in
    (told_none a.site a.history c.args.mount c.in-Ok-Some.jobs.items legal both.1 few, refl)

pub unreachable-requires : goal.unreachable-requires
unreachable-requires g c =
    let a = c.args.logged.now.archive in
    let legal : IsLegal a.site a.history = subst (λ k. IsLegal k.site k.history) c.archive.ensures c.keeps_history.ensures in
    let is : plain c.in-Ok-None.field-0 ≡ claimed_of a.site a.history c.args.mount = subst (λ k. plain c.in-Ok-None.field-0 ≡ claimed_of k.site k.history c.args.mount) c.archive-2.ensures (subst (λ r. IfOk r (λ told. plain told ≡ claimed_of c.archive-2.result.now.site c.archive-2.result.now.history c.args.mount)) c.in-Ok-None.is c.claimed.ensures) in
    nothing_told a.site a.history c.args.mount legal c.requires.open (sym (ap plain c.in-Ok-None.field-0-is) ∙ is)
