use Rattle.std.proofs.Common.{◌≡◌, ◌≤◌, ◌∙◌, length, take, sym, subst, rules, arith}
use Rattle.std.proofs.lemmas.Grind.{common_steps}
use Rattle.journal_disks.specs.Events.{After, Just}
use Rattle.journal_disks.proofs.Outcomes.{elapses_push, follows_cut, no_cut_follows, cut_is_whole}
use Rattle.journal_disks.proofs.kept.Kept.cut.Goals as goal

pub returns-in_err-push-clause-crash : goal.returns-in_err-push-clause-crash
returns-in_err-push-clause-crash c = rw (← c.self.view_is) (no_cut_follows c.self.inside.first.items c.self.inside.events.items c.push.new.self.items c.args.len (first_of (search rules, grind (arith, common_steps))))

pub invariant_of-self-2 : goal.invariant_of-self-2
invariant_of-self-2 c =
    let next : c.in_ok-next.next.items ≡ take c.args.len c.self.inside.bytes.items = first_of (search rules, grind (arith, common_steps)) in
    let le : c.args.len ≤ length c.self.inside.bytes.items = first_of (search rules, grind (arith, common_steps)) in
    rw next (cut_is_whole c.self.inside.first.items c.self.inside.bytes.items c.self.inside.torn.items c.self.inside.events.items c.push.new.self.items c.self.invariant c.args.len le (first_of (search rules, grind (arith, common_steps))))

pub returns-clause-crash : goal.returns-clause-crash
returns-clause-crash c = rw (← c.self.view_is) (follows_cut c.self.inside.first.items c.self.inside.events.items c.push.new.self.items c.args.len (first_of (search rules, grind (arith, common_steps))))

pub returns-clause-time : goal.returns-clause-time
returns-clause-time c = rw (← c.self.view_is) (elapses_push c.self.inside.first.items c.self.inside.events.items c.push.new.self.items _ c.in_ok-push.ensures.items)

pub returns-clause-possible : goal.returns-clause-possible
returns-clause-possible c = λ was.
    let next : c.in_ok-next.next.items ≡ take c.args.len c.self.inside.bytes.items = first_of (search rules, grind (arith, common_steps)) in
    let le : c.args.len ≤ length c.self.inside.bytes.items = first_of (search rules, grind (arith, common_steps)) in
    subst (λ l. After (Just c.self.inside.first.items) c.push.new.self.items l) (sym next)
    (cut_is_whole c.self.inside.first.items c.self.inside.bytes.items c.self.inside.torn.items c.self.inside.events.items c.push.new.self.items c.self.invariant c.args.len le (first_of (search rules, grind (arith, common_steps)))).possible
