use Rattle.std.proofs.Common.{sym, ◌∙◌}
use Rattle.std.proofs.lemmas.Slice.Eq.{bytes_eq-Decides}
use Rattle.archive_restore.proofs.PlainBytes.{tells_same}
use Rattle.archive_restore.proofs.same.is_same.Goals as goal

pub returns : goal.returns
returns c =
    let one = c.as_slice.ensures.value ∙ c.in_ok-one.ensures.record in
    let other = c.as_slice-2.ensures.value ∙ c.in_ok-other.ensures.record in
    let tells = bytes_eq-Decides c.as_slice.result.now c.as_slice-2.result.now in
    tells_same c.records_tell_apart.ensures.one c.args.one.now c.args.other.now c.eq.result c.in_ok-one.ensures.fits c.in_ok-other.ensures.fits
    (λ yes. sym one ∙ (tells.0 (sym c.eq.ensures ∙ yes) ∙ other)) (λ same. c.eq.ensures ∙ tells.1 (one ∙ (same ∙ sym other)))
