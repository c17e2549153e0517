use Rattle.std.proofs.Common.{◌∙◌, subst, sym}
use Rattle.archive_state.specs.Shared.{AreShared}
use Rattle.archive_restore.proofs.MediaFor.{media_for}
use Rattle.archive_restore.proofs.Taken.{same_error}
use Rattle.archive_restore.proofs.taking.restore.Goals as goal

pub with_media-requires : goal.with_media-requires
with_media-requires g c =
    media_for g.M.Told.told c.args.site c.in-Ok.archive.site c.args.log.items c.in-Ok.archive.history c.args.media.items c.requires c.in-Ok.ensures.site c.in-Ok.ensures.history c.in-Ok.ensures.right

pub returns-in_ok-with_media-in-Ok-clause-only : goal.returns-in_ok-with_media-in-Ok-clause-only
returns-in_ok-with_media-in-Ok-clause-only g c = λ n first. c.log_is_wrong_once.ensures.not_right c.args.site c.args.log.items n first c.in-Ok.ensures.right

pub returns-in-Err-clause-differs : goal.returns-in-Err-clause-differs
returns-in-Err-clause-differs g c = λ n is. c.in-Err.ensures.differs n (same_error c.in-Err.error _ is)

pub returns-in_ok-with_media-in-Ok-clause-ok : goal.returns-in_ok-with_media-in-Ok-clause-ok
returns-in_ok-with_media-in-Ok-clause-ok g c =
    let restored = c.in_ok-with_media-in-Ok.field-0 in
    let shared = c.in_ok-with_media-in-Ok.ensures in
    record {
      right = c.in-Ok.ensures.right;
      of_site = shared.site ∙ c.in-Ok.ensures.site;
      history = shared.history ∙ c.in-Ok.ensures.history;
      media = subst (λ h. AreShared g.M.Told.told h c.args.media.items restored.0.shelf restored.1.items) (sym shared.history) shared.media;
    }
