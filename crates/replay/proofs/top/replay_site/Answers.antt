use Rattle.std.proofs.Common.{inr, subst}
use Rattle.archive_opening.specs.Seen.{source_view}
use Rattle.replay.specs.Seen.{sink_view}
use Rattle.replay.specs.Outcome.{Replays}
use Rattle.replay.proofs.top.replay_site.Goals as goal

pub returns-in-Ok-read_archive : goal.returns-in-Ok-read_archive
returns-in-Ok-read_archive g c =
    let form = c.in-Ok.ensures.0 c.if-not-is_form.false in
    let x = c.in-Ok-read_archive.ensures.read in
    let run = subst (λ tells. Replays tells c.run_archive.result c.in-Ok-read_archive.archive.site (source_view (g.S.Source.left c.args.script.now) (g.S.Source.faults c.args.script.now))
    (source_view (g.S.Source.left c.run_archive.new.script) (g.S.Source.faults c.run_archive.new.script))
    (sink_view (g.K.Sink.written c.args.out.now) (g.K.Sink.faults c.args.out.now)) (sink_view (g.K.Sink.written c.run_archive.new.out) (g.K.Sink.faults c.run_archive.new.out)))
    c.in-Ok-read_archive.ensures.tells c.run_archive.ensures in
    inr (form, inr (c.in-Ok-read_archive.archive.site, x.0, run))
