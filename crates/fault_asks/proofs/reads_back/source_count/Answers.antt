use Rattle.std.proofs.Common.{◌∙◌, ap, not, sym}
use Rattle.std.specs.Prelude.{is_some}
use Rattle.fault_asks.proofs.NextSources.{all_four}
use Rattle.fault_asks.proofs.reads_back.source_count.Goals as goal

pub returns : goal.returns
returns c = all_four c.args.tapes.now.value c.args.file (sym (ap is_some c.place_at-4.ensures) ∙ c.is_none-4.ensures ∙ ap not c.if-is_none-4.false)
