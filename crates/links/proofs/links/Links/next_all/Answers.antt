use Rattle.std.proofs.Common.{◌≡◌, ◌∷◌, ◌++◌, [], ◌∙◌, true, arith}
use Rattle.std.specs.Result.{is_ok}
use Rattle.std.proofs.lemmas.Grind.{common_steps}
use Rattle.std.proofs.lemmas.Result.{err_from_is_err_and}
use Rattle.conn.specs.Stands.{given_by}
use Rattle.links.specs.Standing.{behind}
use Rattle.links.proofs.Standing.{same_given, none_given, given_more, need_settled, closed_settled}
use Rattle.links.proofs.links.Links.next_all.Goals as goal

pub returns-in_err-reserve-clause-given : goal.returns-in_err-reserve-clause-given
returns-in_err-reserve-clause-given c = λ limit fed given stand. (
  same_given c.answers.self.conns.items limit fed given c.args.link c.answers.out.items c.reserve.new.self.items c.reserve.ensures.items
      (c.answers.invariant.stands limit fed given stand),
  (let p = err_from_is_err_and c.from_residual.result c.from_residual.ensures.1 in rw p.1 tt),
)

pub returns-in-Ok-Need-clause-given : goal.returns-in-Ok-Need-clause-given
returns-in-Ok-Need-clause-given c = λ limit fed given stand.
    let at = c.args.link in
    let items = c.reserve.new.self.items in
    let before = same_given c.answers.self.conns.items limit fed given at c.answers.out.items items c.reserve.ensures.items (c.answers.invariant.stands limit fed given stand) in
    let answers = rw c.in-Ok-Need.field-0-is at c.in-Ok-Need.ensures.answers in
    let h = answers limit fed (behind given at (given_by items)) before in
    (none_given c.next.new.self.conns.items limit fed (behind given at (given_by items)) at h.0, need_settled limit (fed at) given at (given_by items) h.1)

pub returns-in-Ok-Closed-clause-given : goal.returns-in-Ok-Closed-clause-given
returns-in-Ok-Closed-clause-given c = λ limit fed given stand.
    let at = c.args.link in
    let items = c.reserve.new.self.items in
    let before = same_given c.answers.self.conns.items limit fed given at c.answers.out.items items c.reserve.ensures.items (c.answers.invariant.stands limit fed given stand) in
    let answers = rw c.in-Ok-Closed.field-0-is at c.in-Ok-Closed.ensures.answers in
    let h = answers limit fed (behind given at (given_by items)) before in
    (none_given c.next.new.self.conns.items limit fed (behind given at (given_by items)) at h.0, closed_settled limit (fed at) given at (given_by items) h.1)

pub answers-preserved : goal.answers-preserved
answers-preserved c = record {
  stands = λ limit fed given stand.
      let at = c.args.link in
      let items = c.reserve.new.self.items in
      let before = same_given c.answers.self.conns.items limit fed given at c.answers.out.items items c.reserve.ensures.items (c.answers.invariant.stands limit fed given stand) in
      let h = c.in-Ok.ensures.answers limit fed (behind given at (given_by items)) before in
      let taken : is_ok c.push.result ≡ true = grind (arith, common_steps) in
      let pushed : c.push.new.self.items ≡ items ++ c.in-Ok.next ∷ [] = grind (arith, common_steps) in
      same_given c.next.new.self.conns.items limit fed given at (items ++ c.in-Ok.next ∷ []) c.push.new.self.items pushed
      (given_more c.next.new.self.conns.items limit fed given at items c.in-Ok.next h.0);
  others = λ other apart. c.next.ensures.others other apart ∙ c.answers.invariant.others other apart;
}

pub returns-in-Err-clause-given : goal.returns-in-Err-clause-given
returns-in-Err-clause-given c = λ limit fed given stand.
    let at = c.args.link in
    let items = c.reserve.new.self.items in
    let before = same_given c.answers.self.conns.items limit fed given at c.answers.out.items items c.reserve.ensures.items (c.answers.invariant.stands limit fed given stand) in
    (c.in-Err.ensures.answers limit fed (behind given at (given_by items)) before, tt)
