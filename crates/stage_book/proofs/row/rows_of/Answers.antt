use Rattle.std.proofs.Common.{◌≡◌, arith, ap, ◌∙◌, None}
use Rattle.std.specs.Prelude.{string_bytes, string_eq, get_or}
use Rattle.std.proofs.lemmas.List.{take_all}
use Rattle.std.specs.Map.{lookup}
use Rattle.indexmap.proofs.CallerLemmas.{insert_entry-new}
use Rattle.cta_model.specs.declared.states.StageFile.{StageFile}
use Rattle.stage_book.specs.FileRows.{new_row}
use Rattle.stage_book.proofs.Paths.{added, next_new, rows_more}
use Rattle.stage_book.proofs.row.rows_of.Goals as goal

pub loop-file-preserved : goal.loop-file-preserved
loop-file-preserved c =
    let path : string_bytes c.in_ok-path.path ≡ (get_or c.args.files.now c.loop-file.file-index c.file-item.result).path = c.in_ok-path.ensures.ok ∙ c.as_str.ensures ∙ ap (λ (s : StageFile). s.path) c.file-item.is in
    let new : lookup (string_eq c.in_ok-path.path) c.loop-file.rows.entries ≡ None =
    next_new c.args.at (string_bytes c.in_ok-path.path) c.args.files.now c.loop-file.file-index c.file-item.result c.loop-file.rows.entries (omega arith) c.requires path c.loop-file.invariant in
    rows_more c.args.at c.in_ok-path.path c.in_ok-row.row c.args.files.now c.loop-file.file-index c.file-item.result c.loop-file.rows.entries c.insert.new.self.entries (omega arith) path
    (c.in_ok-row.ensures ∙ ap (λ (s : StageFile). new_row c.args.at s.file s.lifetime) c.file-item.is)
    (c.in_ok-insert.ensures.entries ∙ insert_entry-new string_eq c.loop-file.rows c.in_ok-path.path c.in_ok-row.row new)
    c.loop-file.invariant

pub returns : goal.returns
returns c = c.loop-file.invariant ∙ ap (added c.args.at) (take_all c.loop-file.file-index c.args.files.now (omega arith))
