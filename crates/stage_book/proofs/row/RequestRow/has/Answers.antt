use Rattle.std.proofs.Common.{◌∙◌, ◌≡◌, ap, sym, None}
use Rattle.std.specs.Prelude.{bytes_eq, is_some}
use Rattle.std.specs.List.{list_any}
use Rattle.std.specs.Map.{lookup}
use Rattle.cta_model.specs.declared.states.RequestFile.{RequestFile}
use Rattle.cta_model.specs.Stages.{StageRequest}
use Rattle.stage_book.specs.FileRows.{has_bytes}
use Rattle.stage_book.proofs.Paths.{no_text, path_known}
use Rattle.stage_book.proofs.row.RequestRow.has.Goals as goal

pub returns-in-Ok : goal.returns-in-Ok
returns-in-Ok c =
    c.contains_key.ensures ∙ ap (λ p. is_some (lookup (has_bytes p) c.self.inside.rows.entries)) c.in-Ok.ensures.cases.0 ∙ path_known c.args.path.now c.self.inside.rows.entries
    ∙ ap (λ (r : StageRequest). list_any (λ (s : RequestFile). bytes_eq c.args.path.now s.path) r.files) c.self.view_is

pub returns-in-Err : goal.returns-in-Err
returns-in-Err c =
    let none : lookup (has_bytes c.args.path.now) c.self.inside.rows.entries ≡ None = no_text c.args.path.now c.self.inside.rows.entries c.in-Err.ensures.cases.0 in
    sym (ap is_some none) ∙ path_known c.args.path.now c.self.inside.rows.entries
    ∙ ap (λ (r : StageRequest). list_any (λ (s : RequestFile). bytes_eq c.args.path.now s.path) r.files) c.self.view_is
