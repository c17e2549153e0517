use Rattle.std.proofs.Common.{◌≡◌, ◌≤◌, ◌∙◌, length, rules, arith}
use Rattle.std.proofs.lemmas.Grind.{common_steps}
use Rattle.cta_journal.specs.Disk.{written}
use Rattle.journal_disks.proofs.Outcomes.{elapses_push, follows_write, no_write_follows, torn_is_whole}
use Rattle.journal_disks.proofs.kept.Kept.tear.Goals as goal

pub returns-in_err-push-clause-crash : goal.returns-in_err-push-clause-crash
returns-in_err-push-clause-crash c = rw (← c.self.view_is) (no_write_follows c.self.inside.first.items c.self.inside.events.items c.push.new.self.items c.args.at (length c.args.piece.now) (first_of (search rules, grind (arith, common_steps))))

pub invariant_of-self-2 : goal.invariant_of-self-2
invariant_of-self-2 c =
    let left : c.in_ok-torn.torn.items ≡ written c.self.inside.torn.items c.args.at c.in_ok-left.left.items = first_of (search rules, grind (arith, common_steps)) in
    let le : c.args.at ≤ length c.self.inside.torn.items = first_of (search rules, grind (arith, common_steps)) in
    rw left (torn_is_whole c.self.inside.first.items c.self.inside.bytes.items c.self.inside.torn.items c.self.inside.events.items c.push.new.self.items c.self.invariant c.args.at (length c.args.piece.now) c.in_ok-left.left.items le c.in_ok-left.ensures (first_of (search rules, grind (arith, common_steps))))

pub returns-clause-crash : goal.returns-clause-crash
returns-clause-crash c = rw (← c.self.view_is) (follows_write c.self.inside.first.items c.self.inside.events.items c.push.new.self.items c.args.at (length c.args.piece.now) (first_of (search rules, grind (arith, common_steps))))

pub returns-clause-time : goal.returns-clause-time
returns-clause-time c = rw (← c.self.view_is) (elapses_push c.self.inside.first.items c.self.inside.events.items c.push.new.self.items _ c.in_ok-push.ensures.items)

pub returns-clause-possible : goal.returns-clause-possible
returns-clause-possible c = λ was.
    let le : c.args.at ≤ length c.self.inside.torn.items = first_of (search rules, grind (arith, common_steps)) in
    (torn_is_whole c.self.inside.first.items c.self.inside.bytes.items c.self.inside.torn.items c.self.inside.events.items c.push.new.self.items c.self.invariant c.args.at (length c.args.piece.now) c.in_ok-left.left.items le c.in_ok-left.ensures (first_of (search rules, grind (arith, common_steps)))).possible
