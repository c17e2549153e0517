use Rattle.std.proofs.Common.{◌≡◌, ◌∙◌, ◌-◌, ◌++◌, length, ap, arith}
use Rattle.part_model.specs.Held.{evictable_in, evicted_for, free_in, numbers, prefix_of}
use Rattle.disk_buffer.specs.Stays.{going}
use Rattle.disk_buffer.specs.Stored.{Stored}
use Rattle.disk_buffer.proofs.Held.{evictable_is, numbers_many}
use Rattle.disk_buffer.proofs.buffer.DiskBuffer.list_out.Goals as goal

pub list_going-requires : goal.list_going-requires
list_going-requires c =
    let e : length (prefix_of c.saturating_sub-lacking.result (going c.args.at c.self.inside.arrivals.stays)) ≡ length (evicted_for c.args.self.now.held.value c.args.at c.args.need) = (λ i. length (prefix_of ((c.saturating_sub-lacking.ensures ∙ ap (λ n. c.args.need - n) c.free.ensures) i) ((evictable_is c.args.at c.self.inside.pins.value c.self.inside.arrivals.stays c.args.self.now.held.value c.self.invariant.3 (ap (λ (v : Stored). v.held.value.files) c.self.view_is) (ap (λ (v : Stored). v.held.value.pins) c.self.view_is)) i))) ∙ numbers_many (prefix_of (c.args.need - free_in c.args.self.now.held.value) (evictable_in c.args.self.now.held.value c.args.at)) in
    omega (arith, c.requires)

pub returns : goal.returns
returns c = c.list_going.ensures ∙ (λ i. c.args.out.now.items ++ numbers (prefix_of ((c.saturating_sub-lacking.ensures ∙ ap (λ n. c.args.need - n) c.free.ensures) i) ((evictable_is c.args.at c.self.inside.pins.value c.self.inside.arrivals.stays c.args.self.now.held.value c.self.invariant.3 (ap (λ (v : Stored). v.held.value.files) c.self.view_is) (ap (λ (v : Stored). v.held.value.pins) c.self.view_is)) i)))
