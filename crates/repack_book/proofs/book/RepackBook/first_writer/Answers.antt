use Rattle.std.proofs.Common.{◌∙◌, ◌≡◌, sym, subst, true}
use Rattle.cta_model.specs.History.{has_number}
use Rattle.part_model.specs.Repacks.{writers_in}
use Rattle.repack_book.specs.NamedRepacks.{NamedRepacks, repacks_of}
use Rattle.repack_book.specs.Order.{has_holder}
use Rattle.repack_book.proofs.Books.{writer_holds, writer_is}
use Rattle.repack_book.proofs.Walks.{none_of, skipped, this_one}
use Rattle.repack_book.proofs.book.RepackBook.first_writer.Goals as goal

pub returns-then-is_writing : goal.returns-then-is_writing
returns-then-is_writing c =
    this_one (λ n. has_number n (writers_in (repacks_of c.args.self.now) c.args.file c.args.copy)) (has_holder c.self.inside.holders.value c.args.file c.args.copy) 0 c.in-Some.holder
    (λ n k. writer_holds c.self.inside.rows.entries c.self.inside.items.value c.self.inside.holders.value c.args.file c.args.copy n c.self.invariant (subst (λ (v : NamedRepacks). has_number n (writers_in (repacks_of v) c.args.file c.args.copy) ≡ true) (sym c.self.view_is) k))
    c.in-Some.ensures (writer_is (repacks_of c.args.self.now) c.args.file c.args.copy c.in-Some.holder ∙ sym c.is_writing.ensures ∙ c.if-is_writing.true)

pub returns-else-is_writing : goal.returns-else-is_writing
returns-else-is_writing c =
    skipped (λ n. has_number n (writers_in (repacks_of c.args.self.now) c.args.file c.args.copy)) (has_holder c.self.inside.holders.value c.args.file c.args.copy) 0 c.in-Some.holder
    (λ n k. writer_holds c.self.inside.rows.entries c.self.inside.items.value c.self.inside.holders.value c.args.file c.args.copy n c.self.invariant (subst (λ (v : NamedRepacks). has_number n (writers_in (repacks_of v) c.args.file c.args.copy) ≡ true) (sym c.self.view_is) k))
    c.in-Some.ensures (writer_is (repacks_of c.args.self.now) c.args.file c.args.copy c.in-Some.holder ∙ sym c.is_writing.ensures ∙ c.if-is_writing.false)
    c.next_writer.result c.next_writer.ensures

pub returns-in-None : goal.returns-in-None
returns-in-None c =
    none_of (λ n. has_number n (writers_in (repacks_of c.args.self.now) c.args.file c.args.copy)) (has_holder c.self.inside.holders.value c.args.file c.args.copy) 0
    (λ n k. writer_holds c.self.inside.rows.entries c.self.inside.items.value c.self.inside.holders.value c.args.file c.args.copy n c.self.invariant (subst (λ (v : NamedRepacks). has_number n (writers_in (repacks_of v) c.args.file c.args.copy) ≡ true) (sym c.self.view_is) k))
    c.in-None.ensures
