use Rattle.std.proofs.Common.{◌+◌, ◌<◌, ◌^◌, ◌∙◌, length, subst, sym}
use Rattle.part_model.specs.JobRows.{book_in}
use Rattle.fault_asks.proofs.Books.{resolved_is}
use Rattle.fault_asks.proofs.charges.resolve.Goals as goal

pub charge_all-requires-clause-few : goal.charge_all-requires-clause-few
charge_all-requires-clause-few c = λ j there. subst (λ xs. length xs + 1 < 2 ^ 8) (sym (c.give_back-2.ensures.book.charges j ∙ c.give_back.ensures.book.charges j)) (c.requires.few j there)

pub returns : goal.returns
returns c =
    resolved_is c.args.charged.now c.args.returned.now c.args.ended.now c.args.charge (book_in c.args.book.now.value) (book_in c.give_back.new.book.value) (book_in c.give_back-2.new.book.value) (book_in c.charge_all.new.book.value)
    (book_in c.end_all.new.book.value) c.give_back.ensures.book c.give_back-2.ensures.book c.charge_all.ensures c.end_all.ensures
