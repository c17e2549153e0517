use Rattle.std.proofs.Common.{[], subst}
use Rattle.cta_site.specs.WellFormed.{IsWellFormed}
use Rattle.archive_opening.specs.Seen.{source_view}
use Rattle.replay.specs.Seen.{sink_view}
use Rattle.replay.proofs.Starting.{start_links, wanted_before}
use Rattle.replay.proofs.top.run_archive.Goals as goal

pub run_script-status-requires-clause-ready : goal.run_script-status-requires-clause-ready
run_script-status-requires-clause-ready g c = c.in-Ok.ensures.begins.ready

pub run_script-status-requires-clause-links : goal.run_script-status-requires-clause-links
run_script-status-requires-clause-links g c = start_links (g.B.Bench.tells c.args.bench.now) c.args.archive.site c.in-Ok.front.desk c.in-Ok.ensures.begins c.in-Ok.front.links (λ link. []) (λ link. []) c.in-Ok.ensures.links

pub returns-in-Ok : goal.returns-in-Ok
returns-in-Ok g c = c.run_script-status.ensures (g.B.Bench.tells c.args.bench.now) c.args.archive.site c.in-Ok.ensures.begins

pub returns-in-Err : goal.returns-in-Err
returns-in-Err g c =
    wanted_before (g.B.Bench.tells c.args.bench.now) c.args.archive.site (source_view (g.S.Source.left c.args.script.now) (g.S.Source.faults c.args.script.now)) (sink_view (g.K.Sink.written c.args.out.now) (g.K.Sink.faults c.args.out.now))
    (subst IsWellFormed c.site.ensures c.keeps_rules.ensures.parts)
