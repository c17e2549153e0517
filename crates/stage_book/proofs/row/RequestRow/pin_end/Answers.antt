use Rattle.std.proofs.Common.{rules, ap, ◌∙◌, ◌≡◌, ◌<◌, length, Some, None, arith}
use Rattle.std.specs.Prelude.{option_map, slice_get}
use Rattle.std.specs.List.{filter_map}
use Rattle.cta_model.specs.declared.states.RequestFile.{RequestFile}
use Rattle.cta_model.specs.Pins.{pin_by}
use Rattle.cta_model.specs.Stages.{StageRequest}
use Rattle.part_model.specs.Held.{kept_end}
use Rattle.part_model.specs.Requests.{first_end}
use Rattle.stage_book.specs.FileRows.{file_of, files_in}
use Rattle.stage_book.specs.Places.{numbers_in, place_in}
use Rattle.stage_book.proofs.Lists.{below, length_map, slice_map}
use Rattle.stage_book.proofs.Places.{no_pin, pin_of, same_number}
use Rattle.stage_book.proofs.Turns.{its_place, no_place}
use Rattle.stage_book.proofs.row.RequestRow.pin_end.Goals as goal

pub entry_at-requires : goal.entry_at-requires
entry_at-requires c =
    let here : place_in c.self.inside.places.entries c.args.file ≡ Some c.in-Some.place = search rules in
    let there : slice_get (numbers_in (files_in c.self.inside.rows.entries)) c.in-Some.place ≡ Some (Some c.args.file) = its_place c.self.inside.places.entries (numbers_in (files_in c.self.inside.rows.entries)) c.args.file c.in-Some.place c.self.invariant here in
    let low : c.in-Some.place < length (numbers_in (files_in c.self.inside.rows.entries)) = below (numbers_in (files_in c.self.inside.rows.entries)) c.in-Some.place (Some c.args.file) there in
    let many : length (numbers_in (files_in c.self.inside.rows.entries)) ≡ length c.self.inside.rows.entries = length_map (λ (s : RequestFile). s.file) (files_in c.self.inside.rows.entries) ∙ length_map file_of c.self.inside.rows.entries in
    omega (arith, low, many)

pub returns-in-Some : goal.returns-in-Some
returns-in-Some c =
    let here : place_in c.self.inside.places.entries c.args.file ≡ Some c.in-Some.place = search rules in
    let there : slice_get (numbers_in (files_in c.self.inside.rows.entries)) c.in-Some.place ≡ Some (Some c.args.file) = its_place c.self.inside.places.entries (numbers_in (files_in c.self.inside.rows.entries)) c.args.file c.in-Some.place c.self.invariant here in
    let found = slice_map file_of c.self.inside.rows.entries c.in-Some.place (c.entry_at.result.0.now, c.entry_at.result.1.now) c.entry_at.ensures in
    λ id. (c.pinned_until.ensures
    ∙ pin_of c.args.file id (files_in c.self.inside.rows.entries) c.in-Some.place (file_of (c.entry_at.result.0.now, c.entry_at.result.1.now)) c.self.invariant.apart found (same_number (files_in c.self.inside.rows.entries) c.in-Some.place c.args.file (file_of (c.entry_at.result.0.now, c.entry_at.result.1.now)) found there)
    ∙ ap (λ (r : StageRequest). option_map kept_end (first_end (filter_map (pin_by c.args.file id) r.files))) c.self.view_is)

pub returns-in-None : goal.returns-in-None
returns-in-None c =
    let none : place_in c.self.inside.places.entries c.args.file ≡ None = search rules in
    λ id. (no_pin c.args.file id (files_in c.self.inside.rows.entries) (no_place c.self.inside.places.entries (numbers_in (files_in c.self.inside.rows.entries)) c.args.file c.self.invariant none)
    ∙ ap (λ (r : StageRequest). option_map kept_end (first_end (filter_map (pin_by c.args.file id) r.files))) c.self.view_is)
