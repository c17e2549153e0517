use Rattle.std.proofs.Common.{◌∙◌, sym, ap}
use Rattle.cta_site.specs.declared.site.Site.{Site}
use Rattle.cta_site.specs.Lookups.{copies_of}
use Rattle.archive_state.proofs.Now.{locality_now}
use Rattle.archive_state.proofs.state.ArchiveState.locality_of.Goals as goal

pub returns : goal.returns
returns g c = rw (← c.self.view_is) (locality_now _ _ c.self.inside.parts c.args.file _ _ c.self.invariant.legal c.self.invariant.parts (c.copies_of-copies.ensures ∙ ap (λ (s : Site). copies_of s c.path_of.result.now) c.site-site.ensures ∙ ap (copies_of c.self.inside.site) c.path_of.ensures) (c.locality.ensures c.self.inside.parts.buffer.held.value (sym c.is_held.ensures)))
