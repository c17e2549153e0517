use Rattle.std.proofs.Common.{◌∙◌, ap, subst, sym}
use Rattle.std.specs.Prelude.{map}
use Rattle.cta_model.specs.Stages.{StageRequest}
use Rattle.part_model.specs.Requests.{released_at}
use Rattle.stage_book.specs.FileRows.{FileRows, files_in}
use Rattle.stage_book.specs.Places.{ArePlaced, numbers_in}
use Rattle.stage_book.proofs.Paths.{released_files, released_numbers}
use Rattle.stage_book.proofs.row.RequestRow.release.Goals as goal

pub returns : goal.returns
returns c =
    ap (λ (es : FileRows). record { at = c.self.inside.moment; files = files_in es }) c.release_path.ensures
    ∙ ap (λ fs. record { at = c.self.inside.moment; files = fs }) (released_files c.args.path.now c.self.inside.rows.entries)
    ∙ ap (λ (r : StageRequest). record { at = r.at; files = map (released_at c.args.path.now) r.files }) c.self.view_is

pub invariant_of-self : goal.invariant_of-self
invariant_of-self c =
    subst (ArePlaced c.self.inside.places.entries)
    (released_numbers c.args.path.now c.self.inside.rows.entries ∙ ap (λ (es : FileRows). numbers_in (files_in es)) (sym c.release_path.ensures)) c.self.invariant
