use Rattle.std.proofs.Common.{◌∙◌, ap}
use Rattle.cta_site.specs.declared.site.Site.{Site}
use Rattle.archive_state.proofs.Reported.{tape_there}
use Rattle.archive_state.proofs.state.ArchiveState.tape_info.Goals as goal

pub returns : goal.returns
returns g c =
    let found = c.in-Some.ensures.lookup in
    rw (← c.self.view_is)
    (tape_there _ _ c.self.inside.parts c.args.tape c.tapes.result.now c.in-Some.known.now c.in_ok-vid.vid c.row-row.result c.live.result c.self.invariant.legal c.self.invariant.parts
    (c.tapes.ensures ∙ ap (λ (s : Site). s.tapes.items) c.site.ensures) found.3.0 found.1 c.in_ok-vid.ensures c.row-row.ensures c.live.ensures)
