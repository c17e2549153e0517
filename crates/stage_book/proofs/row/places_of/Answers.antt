use Rattle.std.proofs.Common.{◌≡◌, arith, ap, sym, ◌∙◌, length}
use Rattle.std.proofs.lemmas.List.{take_all}
use Rattle.cta_model.specs.declared.states.StageFile.{StageFile}
use Rattle.stage_book.specs.Places.{noted, numbers_asked, place_in}
use Rattle.stage_book.proofs.Lists.{length_map}
use Rattle.stage_book.proofs.Places.{all_passed, asked_there, passed_more}
use Rattle.stage_book.proofs.row.places_of.Goals as goal

pub loop-at-preserved : goal.loop-at-preserved
loop-at-preserved c =
    passed_more (numbers_asked c.args.files.now) c.loop-at.at c.index-files-at.result.file c.loop-at.places.entries c.note_place.new.places.entries
    (asked_there c.args.files.now c.loop-at.at c.index-files-at.result (omega arith) c.index-files-at.is)
    (λ q. (c.in_ok-note_place.ensures q ∙ ap (λ (s : StageFile). noted s.file c.loop-at.at q (place_in c.loop-at.places.entries q)) (sym c.index-files-at.is))) c.loop-at.invariant

pub returns : goal.returns
returns c =
    let many : length (numbers_asked c.args.files.now) ≡ length c.args.files.now = length_map (λ (s : StageFile). s.file) c.args.files.now in
    λ f. all_passed (numbers_asked c.args.files.now) c.loop-at.at f (place_in c.loop-at.places.entries f) (take_all c.loop-at.at (numbers_asked c.args.files.now) (omega arith)) (c.loop-at.invariant f)
