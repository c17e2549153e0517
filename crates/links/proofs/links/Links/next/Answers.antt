use Rattle.std.proofs.Common.{◌≡◌, ◌<◌, length, arith, refl, ◌∙◌}
use Rattle.std.specs.Prelude.{Some, slice_get}
use Rattle.std.proofs.lemmas.Option.{slice_get_read}
use Rattle.links.proofs.Elements.{got_same, got_other}
use Rattle.links.proofs.Standing.{answers_after, left_less}
use Rattle.links.proofs.links.Links.next.Goals as goal

pub returns-clause-answers : goal.returns-clause-answers
returns-clause-answers c = λ limit fed given stand.
    let links = c.args.self.now in
    let at = c.args.link in
    let within : at < length links.conns.items = omega (arith, links.count, links.conns.ok.0) in
    let was : slice_get links.conns.items at ≡ Some c.index_mut.result.now = slice_get_read _ _ _ _ refl within c.index_mut.ensures.value in
    let old = stand at c.index_mut.result.now was in
    answers_after links.conns.items at c.next.new.self limit c.next.result fed given within stand (c.next.ensures.limit ∙ old.limit_is) (c.next.ensures.answers (fed at) (given at) old.stands)

pub returns-clause-less : goal.returns-clause-less
returns-clause-less c =
    let links = c.args.self.now in
    let at = c.args.link in
    let within : at < length links.conns.items = omega (arith, links.count, links.conns.ok.0) in
    let was : slice_get links.conns.items at ≡ Some c.index_mut.result.now = slice_get_read _ _ _ _ refl within c.index_mut.ensures.value in
    left_less c.next.result _ _ c.index_mut.result.now c.next.new.self was (got_same links.conns.items at c.next.new.self within) c.next.ensures.less

pub returns-clause-others : goal.returns-clause-others
returns-clause-others c = λ other apart. got_other c.args.self.now.conns.items c.args.link other c.next.new.self apart
