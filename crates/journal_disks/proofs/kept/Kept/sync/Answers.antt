use Rattle.std.proofs.Common.{◌≡◌, ◌∙◌, List, ℕ, ap, sym, subst, rules, arith}
use Rattle.std.proofs.lemmas.Grind.{common_steps}
use Rattle.journal_disks.specs.declared.events.DiskEvent.{DiskEvent}
use Rattle.journal_disks.specs.Events.{After, Just}
use Rattle.journal_disks.proofs.Outcomes.{after_adds, elapses_push, synced_is_whole}
use Rattle.journal_disks.proofs.kept.Kept.sync.Goals as goal

pub invariant_of-self-2 : goal.invariant_of-self-2
invariant_of-self-2 c =
    let torn : c.in_ok-torn.torn.items ≡ c.self.inside.bytes.items = first_of (search rules, grind (arith, common_steps)) in
    rw torn (synced_is_whole c.self.inside.first.items c.self.inside.bytes.items c.self.inside.torn.items c.self.inside.events.items c.push.new.self.items c.self.invariant c.in_ok-bytes.bytes (first_of (search rules, grind (arith, common_steps))) (first_of (search rules, grind (arith, common_steps))))

pub returns-clause-durable : goal.returns-clause-durable
returns-clause-durable c = rw (← c.self.view_is) (λ f left.
    let first = c.self.inside.first.items in
    let same : c.in_ok-bytes.bytes.items ≡ c.self.inside.bytes.items = first_of (search rules, grind (arith, common_steps)) in
    (after_adds (Just first) c.self.inside.events.items _ f (subst (λ l. After (Just first) l f) c.in_ok-push.ensures.items left)).1 ∙ same)

pub returns-clause-crash : goal.returns-clause-crash
returns-clause-crash c = rw (← c.self.view_is) (λ f left.
    let first = c.self.inside.first.items in
    (after_adds (Just first) c.self.inside.events.items _ f (subst (λ l. After (Just first) l f) c.in_ok-push.ensures.items left)).0)

pub returns-clause-time : goal.returns-clause-time
returns-clause-time c = rw (← c.self.view_is) (elapses_push c.self.inside.first.items c.self.inside.events.items c.push.new.self.items _ c.in_ok-push.ensures.items)

pub returns-clause-possible : goal.returns-clause-possible
returns-clause-possible c = λ was.
    (synced_is_whole c.self.inside.first.items c.self.inside.bytes.items c.self.inside.torn.items c.self.inside.events.items c.push.new.self.items c.self.invariant c.in_ok-bytes.bytes (first_of (search rules, grind (arith, common_steps))) (first_of (search rules, grind (arith, common_steps)))).possible
