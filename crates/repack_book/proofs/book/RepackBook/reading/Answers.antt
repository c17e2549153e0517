use Rattle.std.proofs.Common.{rules, ap, ◌∙◌, ◌≡◌, sym, subst, Some, None}
use Rattle.std.specs.Prelude.{Option, option_map}
use Rattle.cta_model.specs.History.{has_number}
use Rattle.cta_model.specs.Repacks.{Repack}
use Rattle.part_model.specs.Repacks.{reading_copies}
use Rattle.repack_book.specs.NamedRepacks.{NamedRepacks, kept_in}
use Rattle.repack_book.specs.Walks.{IsFirstFrom}
use Rattle.repack_book.proofs.Books.{items_of_row, repack_is, repack_of, nothing_read}
use Rattle.repack_book.proofs.book.RepackBook.reading.Goals as goal

pub reading-requires : goal.reading-requires
reading-requires c =
    let here : kept_in c.args.self.now c.args.id ≡ Some c.in-Some.row.now = search rules in
    items_of_row c.self.inside.rows.entries c.self.inside.items.value c.self.inside.holders.value c.args.id c.args.file c.in-Some.row.now c.self.invariant (ap (λ (v : NamedRepacks). kept_in v c.args.id) c.self.view_is ∙ here)

pub returns-in-Some : goal.returns-in-Some
returns-in-Some c =
    let here : kept_in c.args.self.now c.args.id ≡ Some c.in-Some.row.now = search rules in
    subst (λ (o : Option Repack). IsFirstFrom (λ k. has_number k (reading_copies c.args.file o)) c.args.from c.reading.result) (sym (repack_is c.args.self.now c.args.id ∙ ap (option_map repack_of) here)) c.reading.ensures

pub returns-in-None : goal.returns-in-None
returns-in-None c =
    let here : kept_in c.args.self.now c.args.id ≡ None = search rules in
    subst (λ (o : Option Repack). IsFirstFrom (λ k. has_number k (reading_copies c.args.file o)) c.args.from None) (sym (repack_is c.args.self.now c.args.id ∙ ap (option_map repack_of) here)) (nothing_read c.args.file c.args.from)
