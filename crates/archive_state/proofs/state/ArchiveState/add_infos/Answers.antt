use Rattle.std.proofs.Common.{◌∙◌, ap}
use Rattle.cta_site.specs.declared.site.Site.{Site}
use Rattle.archive_state.specs.Keys as keys
use Rattle.archive_state.proofs.Reported.{report_added}
use Rattle.archive_state.proofs.state.ArchiveState.add_infos.Goals as goal

pub loop-key-preserved : goal.loop-key-preserved
loop-key-preserved g c =
    report_added c.args.self.now.site c.args.self.now.history c.args.direction c.loop-key.key c.key_name-name.result.now c.sums_of.result c.args.infos.now.items c.loop-key.infos.items c.add_info.new.infos.items
    c.loop-key.invariant (c.key_name-name.ensures ∙ ap (λ (s : Site). keys.key_name s c.args.direction c.loop-key.key) c.site-site.ensures) c.sums_of.ensures c.in_ok-add_info.ensures
