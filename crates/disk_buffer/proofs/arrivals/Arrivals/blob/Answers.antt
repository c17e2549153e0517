use Rattle.std.proofs.Common.{◌∙◌, sym, ap}
use Rattle.disk_buffer.specs.Stays.{Arrived, content_in}
use Rattle.disk_buffer.proofs.Found.{content_is}
use Rattle.disk_buffer.proofs.arrivals.Arrivals.blob.Goals as goal

pub returns : goal.returns
returns c = c.blob_of.ensures ∙ sym (content_is c.self.inside.kept.entries c.args.file) ∙ ap (λ (v : Arrived). content_in v.contents c.args.file) c.self.view_is
