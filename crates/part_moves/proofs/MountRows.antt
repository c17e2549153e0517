-- The rows of open mounts, and the mounts that they stand for.
use Rattle.std.proofs.Common.{◌≡◌, ◌∙◌, ℕ, List, Some, true, sym, subst}
use Rattle.cta_site.specs.declared.site.Site.{Site}
use Rattle.cta_model.specs.History.{History}
use Rattle.cta_model.specs.Mounts.{is_open, mount_of}
use Rattle.part_model.specs.declared.mounts.OpenMount.{OpenMount}
use Rattle.part_model.specs.Mounts.{has_mount, row_of}
use Rattle.part_laws.specs.Mounts.{AreOpenMounts}
use Rattle.part_laws.proofs.RowAnswers.{rows_tell_mounts}

-- the row of a mount is that of the history's mount
pub mount_found : (site : Site) (h : History) (rs : List OpenMount) (m : ℕ) (r : OpenMount) → AreOpenMounts site h rs → has_mount m rs ≡ true → row_of m rs ≡ Some r
    → mount_of h m ≡ Some (record { drive = r.drive; direction = r.direction; tape = r.tape })
mount_found site h rs m r are there found =
    let tells = rows_tell_mounts site h rs are in
    let on : is_open h m ≡ true = sym (tells.opens m) ∙ there in
    let x = tells.row m on in
    let both : Some x.0 ≡ Some r = sym x.1 ∙ found in
    let same : x.0 ≡ r = cc in
    subst (λ (y : OpenMount). mount_of h m ≡ Some (record { drive = y.drive; direction = y.direction; tape = y.tape })) same x.2.mount

-- a mount that is open has a row
pub row_there : (site : Site) (h : History) (rs : List OpenMount) (m : ℕ) → AreOpenMounts site h rs → is_open h m ≡ true → has_mount m rs ≡ true
row_there site h rs m are on = (rows_tell_mounts site h rs are).opens m ∙ on
