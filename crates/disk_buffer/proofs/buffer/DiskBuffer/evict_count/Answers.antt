use Rattle.std.proofs.Common.{◌∙◌, ◌-◌, length, ap}
use Rattle.part_model.specs.Held.{evictable_in, free_in, prefix_of}
use Rattle.disk_buffer.specs.Stored.{Stored}
use Rattle.disk_buffer.proofs.Held.{evictable_is, numbers_many}
use Rattle.disk_buffer.proofs.buffer.DiskBuffer.evict_count.Goals as goal

pub returns : goal.returns
returns c = c.going_count.ensures ∙ (λ i. length (prefix_of ((c.saturating_sub-lacking.ensures ∙ ap (λ n. c.args.need - n) c.free.ensures) i) ((evictable_is c.args.at c.self.inside.pins.value c.self.inside.arrivals.stays c.args.self.now.held.value c.self.invariant.3 (ap (λ (v : Stored). v.held.value.files) c.self.view_is) (ap (λ (v : Stored). v.held.value.pins) c.self.view_is)) i))) ∙ numbers_many (prefix_of (c.args.need - free_in c.args.self.now.held.value) (evictable_in c.args.self.now.held.value c.args.at))
