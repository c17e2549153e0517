use Rattle.std.proofs.Common.{◌∙◌, ap, subst, ℕ}
use Rattle.repack_book.specs.NamedRepacks.{KeptRepack}
use Rattle.repack_book.specs.Order.{has_item}
use Rattle.repack_book.specs.Walks.{IsFirstFrom}
use Rattle.repack_book.proofs.Walks.{pins_tell}
use Rattle.repack_book.proofs.row.RepackRow.pins.Goals as goal

pub returns : goal.returns
returns c =
    c.is_some.ensures ∙ pins_tell (has_item c.args.items.now.value c.args.self.now.repack.tape c.args.id c.args.file) c.args.file c.args.self.now.repack.items c.requires c.copy_from.result
    (subst (λ (t : ℕ). IsFirstFrom (has_item c.args.items.now.value t c.args.id c.args.file) 0 c.copy_from.result) (ap (λ (k : KeptRepack). k.repack.tape) c.self.view_is) c.copy_from.ensures)
