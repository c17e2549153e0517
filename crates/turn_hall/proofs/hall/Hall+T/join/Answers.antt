use Rattle.std.proofs.Common.{sym, ◌∙◌, ap, subst}
use mathlib.Core.List.{IsPrefix}
use Rattle.turn_hall.proofs.Merges.{both_begin, shorter_begins}
use Rattle.turn_hall.proofs.hall.Hall+T.join.Goals as goal

pub returns-clause-one : goal.returns-clause-one
returns-clause-one g c =
    let heard = c.glance-ended.ensures.heard.1 in
    let both = ap (λ m. m.0) c.merge.ensures.joined in
    shorter_begins c.args.pass.now.seat.me.0.seen c.args.other.seat.me.0.seen heard.0 (subst (λ v. IsPrefix v.seen heard.0) both heard.1) (subst (λ v. IsPrefix v.heard heard.0) both heard.2)

pub returns-clause-begins : goal.returns-clause-begins
returns-clause-begins g c =
    let heard = c.glance-ended.ensures.heard.1 in
    let both = ap (λ m. m.0) c.merge.ensures.joined in
    let is = ap (λ m. m.0.seen) c.glance-ended.ensures.seen ∙ ap (λ v. v.seen) both in
    subst (λ l. IsPrefix c.args.pass.now.seat.me.0.seen l × IsPrefix c.args.other.seat.me.0.seen l) (sym is)
    (both_begin c.args.pass.now.seat.me.0.seen c.args.other.seat.me.0.seen heard.0 (subst (λ v. IsPrefix v.seen heard.0) both heard.1) (subst (λ v. IsPrefix v.heard heard.0) both heard.2))
