use Rattle.std.proofs.Common.{ap}
use Rattle.disk_buffer.specs.Stays.{Arrived}
use Rattle.disk_buffer.proofs.Changed.{content_same}
use Rattle.disk_buffer.proofs.arrivals.Arrivals.reserve.Goals as goal

pub returns-clause-contents : goal.returns-clause-contents
returns-clause-contents c = λ f. content_same c.self.inside.kept.entries c.make_room.new.kept.entries c.args.self.now.contents f (ap (λ (v : Arrived). v.contents) c.self.view_is) (c.make_room.ensures.sums f)
