use Rattle.std.proofs.Common.{◌≡◌, [], drop, ap, sym, ◌∙◌, subst, arith}
use Rattle.std.specs.Prelude.{MatchOption}
use Rattle.cta_model.specs.Choice as said
use Rattle.part_answers.specs.First.{IsFirst}
use Rattle.part_answers.proofs.Firsts.{first_is_first}
use Rattle.part_answers.proofs.choice.first_of.Goals as goal

pub returns-clause-first : goal.returns-clause-first
returns-clause-first c =
    let list = c.args.list.now in
    let start : c.loop-at.at ≡ 0 = omega (arith, c.loop-at-test.false) in
    let is : c.loop-at.best ≡ said.first_of list = c.loop-at.invariant ∙ ap (λ n. said.first_of (drop n list)) start in
    subst (λ o. MatchOption o (list ≡ []) (IsFirst list)) (sym is) (first_is_first list)
