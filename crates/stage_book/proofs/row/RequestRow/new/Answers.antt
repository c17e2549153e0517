use Rattle.std.proofs.Common.{ap, subst, sym, ◌∙◌, ◌≡◌, List}
use Rattle.cta_model.specs.declared.states.RequestFile.{RequestFile}
use Rattle.cta_model.specs.declared.states.StageFile.{StageFile}
use Rattle.stage_book.specs.FileRows.{files_in}
use Rattle.stage_book.specs.Places.{ArePlaced, IsPlaced, numbers_asked, numbers_in, place_in}
use Rattle.stage_book.proofs.Paths.{added, numbers_added}
use Rattle.stage_book.proofs.Places.{numbers_apart}
use Rattle.stage_book.proofs.row.RequestRow.new.Goals as goal

pub returns : goal.returns
returns c = ap (λ (fs : List RequestFile). record { at = c.args.at; files = fs }) (c.in_ok-rows.ensures ∙ ap (added c.args.at) c.as_slice.ensures)

pub invariant_of-result : goal.invariant_of-result
invariant_of-result c =
    let numbers : numbers_in (files_in c.in_ok-rows.rows.entries) ≡ numbers_asked c.args.files.items = ap numbers_in (c.in_ok-rows.ensures ∙ ap (added c.args.at) c.as_slice.ensures) ∙ numbers_added c.args.at c.args.files.items in
    subst (ArePlaced c.in_ok-places.places.entries) (sym numbers)
    (record {
      placed = λ f. subst (λ (fs : List StageFile). IsPlaced (numbers_asked fs) f (place_in c.in_ok-places.places.entries f)) c.as_slice-2.ensures (c.in_ok-places.ensures f);
      apart = numbers_apart c.args.files.items c.requires.apart;
    })
