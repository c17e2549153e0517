use Rattle.std.proofs.Common.{rules, ap, ◌∙◌, ◌≡◌, sym, Some, None}
use Rattle.std.specs.Prelude.{option_map, ◌==◌, ◌&&◌}
use Rattle.cta_model.specs.declared.states.RepackCopy.{RepackCopy}
use Rattle.cta_model.specs.Repacks.{is_live_item}
use Rattle.part_model.specs.Repacks.{has_item_by}
use Rattle.repack_book.specs.NamedRepacks.{NamedRepacks, kept_in}
use Rattle.repack_book.proofs.Books.{items_of_row, repack_is, repack_of}
use Rattle.repack_book.proofs.book.RepackBook.pins.Goals as goal

pub pins-requires : goal.pins-requires
pins-requires c =
    let here : kept_in c.args.self.now c.args.id ≡ Some c.in-Some.row.now = search rules in
    items_of_row c.self.inside.rows.entries c.self.inside.items.value c.self.inside.holders.value c.args.id c.args.file c.in-Some.row.now c.self.invariant (ap (λ (v : NamedRepacks). kept_in v c.args.id) c.self.view_is ∙ here)

pub returns-in-Some : goal.returns-in-Some
returns-in-Some c =
    let here : kept_in c.args.self.now c.args.id ≡ Some c.in-Some.row.now = search rules in
    c.pins.ensures ∙ sym (ap (has_item_by (λ (i : RepackCopy). i.file == c.args.file && is_live_item i.state)) (repack_is c.args.self.now c.args.id ∙ ap (option_map repack_of) here))

pub returns-in-None : goal.returns-in-None
returns-in-None c =
    let here : kept_in c.args.self.now c.args.id ≡ None = search rules in
    sym (ap (has_item_by (λ (i : RepackCopy). i.file == c.args.file && is_live_item i.state)) (repack_is c.args.self.now c.args.id ∙ ap (option_map repack_of) here))
