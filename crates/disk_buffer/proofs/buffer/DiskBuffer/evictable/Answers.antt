use Rattle.std.proofs.Common.{◌∙◌, ap}
use Rattle.part_model.specs.Held.{bytes_of}
use Rattle.disk_buffer.specs.Stored.{Stored}
use Rattle.disk_buffer.proofs.Held.{evictable_is}
use Rattle.disk_buffer.proofs.buffer.DiskBuffer.evictable.Goals as goal

pub returns : goal.returns
returns c = c.going_bytes.ensures ∙ ap bytes_of (evictable_is c.args.at c.self.inside.pins.value c.self.inside.arrivals.stays c.args.self.now.held.value c.self.invariant.3 (ap (λ (v : Stored). v.held.value.files) c.self.view_is) (ap (λ (v : Stored). v.held.value.pins) c.self.view_is))
