-- Media for a log are media for the archive that it tells.
use Rattle.std.proofs.Common.{◌≡◌, List}
use Rattle.blob.specs.Records.{MediumView}
use Rattle.cta_site.specs.declared.site.Site.{Site}
use Rattle.cta_model.specs.History.{History}
use Rattle.cta_records.specs.declared.kept.Kept.{Kept}
use Rattle.archive_state.specs.Shared.{AreMedia}
use Rattle.archive_restore.specs.Logs.{IsRightLog, history_of_log}
use Rattle.archive_restore.specs.Restored.{AreMediaFor}

pub media_for : {M : Type 0} (told : M → MediumView) (site s : Site) (log : List Kept) (h : History) (media : List M) → AreMediaFor told site log media → s ≡ site → h ≡ history_of_log log → IsRightLog site log → AreMedia told s h media
media_for told site s log h media are of is right = rw (of, is) (record { count = are.count; each = are.each right })
