use Rattle.std.proofs.Common.{rules, ap, ◌∙◌, ◌≡◌, sym, Some, None}
use Rattle.std.specs.Prelude.{option_map, ◌==◌, ◌&&◌}
use Rattle.cta_model.specs.declared.states.RepackCopy.{RepackCopy}
use Rattle.part_model.specs.Repacks.{has_item_by, is_writing}
use Rattle.repack_book.specs.NamedRepacks.{kept_in}
use Rattle.repack_book.proofs.Books.{repack_is, repack_of}
use Rattle.repack_book.proofs.book.RepackBook.is_writing.Goals as goal

pub returns-in-Some : goal.returns-in-Some
returns-in-Some c =
    let here : kept_in c.args.self.now c.args.id ≡ Some c.in-Some.row.now = search rules in
    c.is_writing.ensures ∙ sym (ap (has_item_by (λ (i : RepackCopy). (i.file == c.args.file && i.copy == c.args.copy) && is_writing i.state)) (repack_is c.args.self.now c.args.id ∙ ap (option_map repack_of) here))

pub returns-in-None : goal.returns-in-None
returns-in-None c =
    let here : kept_in c.args.self.now c.args.id ≡ None = search rules in
    sym (ap (has_item_by (λ (i : RepackCopy). (i.file == c.args.file && i.copy == c.args.copy) && is_writing i.state)) (repack_is c.args.self.now c.args.id ∙ ap (option_map repack_of) here))
