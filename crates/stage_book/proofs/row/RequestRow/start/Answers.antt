use Rattle.std.proofs.Common.{rules, ◌∙◌, ◌≡◌, ap, subst, sym, List, Some, None, false}
use Rattle.std.specs.Prelude.{map, slice_get}
use Rattle.cta_model.specs.declared.states.RequestFile.{RequestFile}
use Rattle.cta_model.specs.Stages.{StageRequest, started}
use Rattle.part_model.specs.Requests.{turned_file}
use Rattle.stage_book.specs.FileRows.{FileRows, files_in, started_at}
use Rattle.stage_book.specs.Places.{ArePlaced, names_file, numbers_in, place_in}
use Rattle.stage_book.proofs.Turns.{its_place, no_place, numbers_stay, others_stay, start_stays, start_with, turns}
use Rattle.stage_book.proofs.row.RequestRow.start.Goals as goal

pub returns-in-Some : goal.returns-in-Some
returns-in-Some c =
    let here : place_in c.self.inside.places.entries c.args.file ≡ Some c.in-Some.place = search rules in
    let there : slice_get (numbers_in (files_in c.self.inside.rows.entries)) c.in-Some.place ≡ Some (Some c.args.file) = its_place c.self.inside.places.entries (numbers_in (files_in c.self.inside.rows.entries)) c.args.file c.in-Some.place c.self.invariant here in
    ap (λ (es : FileRows). record { at = c.self.inside.moment; files = files_in es }) c.start_at.ensures
    ∙ ap (λ (fs : List RequestFile). record { at = c.self.inside.moment; files = fs }) (turns c.args.file (started_at c.args.at) (λ s. started s c.args.at) (start_with c.args.at) c.self.inside.rows.entries c.in-Some.place there c.self.invariant.apart)
    ∙ ap (λ (r : StageRequest). record { at = r.at; files = map (turned_file c.args.file (λ s. started s c.args.at)) r.files }) c.self.view_is

pub returns-in_default : goal.returns-in_default
returns-in_default c =
    let none : place_in c.self.inside.places.entries c.args.file ≡ None = search rules in
    let no : names_file c.args.file (numbers_in (files_in c.self.inside.rows.entries)) ≡ false = no_place c.self.inside.places.entries (numbers_in (files_in c.self.inside.rows.entries)) c.args.file c.self.invariant none in
    sym c.self.view_is ∙ ap (λ (fs : List RequestFile). record { at = c.self.inside.moment; files = fs }) (others_stay c.args.file (λ s. started s c.args.at) (files_in c.self.inside.rows.entries) no)
    ∙ ap (λ (r : StageRequest). record { at = r.at; files = map (turned_file c.args.file (λ s. started s c.args.at)) r.files }) c.self.view_is

pub invariant_of-self : goal.invariant_of-self
invariant_of-self c =
    subst (ArePlaced c.self.inside.places.entries)
    (numbers_stay (started_at c.args.at) (start_stays c.args.at) c.self.inside.rows.entries c.in-Some.place ∙ ap (λ (es : FileRows). numbers_in (files_in es)) (sym c.start_at.ensures)) c.self.invariant
