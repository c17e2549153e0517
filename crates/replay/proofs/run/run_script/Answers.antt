use Rattle.std.proofs.Common.{subst}
use Rattle.cta_site.specs.WellFormed.{IsWellFormed}
use Rattle.archive_opening.specs.Seen.{source_view}
use Rattle.replay.specs.Seen.{sink_view}
use Rattle.replay.proofs.Starting.{wanted_at_start}
use Rattle.replay.proofs.run.run_script.Goals as goal

pub returns-in-Err : goal.returns-in-Err
returns-in-Err g c = λ tells site starts.
    wanted_at_start tells site c.args.front.now.desk starts (source_view (g.S.Source.left c.args.script.now) (g.S.Source.faults c.args.script.now)) (sink_view (g.K.Sink.written c.args.out.now) (g.K.Sink.faults c.args.out.now))
    (subst IsWellFormed c.site.ensures c.keeps_rules.ensures.parts)
