-- The medium of a site's one tape.
use Rattle.std.proofs.Common.{◌≡◌, ◌∙◌, List, sym, arith, length}
use Rattle.std.specs.Prelude.{None}
use Rattle.std.proofs.lemmas.Option.{slice_get_within}
use Rattle.cta_site.specs.declared.site.Site.{Site}
use Rattle.cta_records.specs.declared.kept.Kept.{Kept}
use Rattle.archive_restore.specs.Restored.{AreMediaFor}

-- one medium that is labelled with the number 0 and tells nothing is that of a site's one tape, whatever the log
pub one_medium : {M : Type 0} (site : Site) (log : List Kept) (media : List M) → length media ≡ 1 → length site.tapes.items ≡ 1 → AreMediaFor (λ (m : M). record { label = 0; records = None }) site log media
one_medium site log media one tapes = record {
  count = one ∙ sym tapes;
  each = λ right v m is. record { label = omega (arith, one, slice_get_within media v m is); truth = tt };
}
