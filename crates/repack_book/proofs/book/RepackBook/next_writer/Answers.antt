use Rattle.std.proofs.Common.{◌∙◌, ◌≡◌, ◌+◌, sym, subst, Some, None, true}
use Rattle.cta_model.specs.History.{has_number}
use Rattle.part_model.specs.Repacks.{writers_in}
use Rattle.repack_book.specs.NamedRepacks.{NamedRepacks, repacks_of}
use Rattle.repack_book.specs.Order.{has_holder}
use Rattle.repack_book.proofs.Books.{writer_holds, writer_is}
use Rattle.repack_book.proofs.Walks.{none_of, skipped, this_one}
use Rattle.repack_book.proofs.book.RepackBook.next_writer.Goals as goal

pub returns-then-is_writing : goal.returns-then-is_writing
returns-then-is_writing c =
    c.loop-holder.invariant (Some c.in-Some.holder)
    (this_one (λ n. has_number n (writers_in (repacks_of c.args.self.now) c.args.file c.args.copy)) (has_holder c.self.inside.holders.value c.args.file c.args.copy) (c.loop-holder.at + 1) c.in-Some.holder
    (λ n k. writer_holds c.self.inside.rows.entries c.self.inside.items.value c.self.inside.holders.value c.args.file c.args.copy n c.self.invariant (subst (λ (v : NamedRepacks). has_number n (writers_in (repacks_of v) c.args.file c.args.copy) ≡ true) (sym c.self.view_is) k))
    c.in-Some.ensures (writer_is (repacks_of c.args.self.now) c.args.file c.args.copy c.in-Some.holder ∙ sym c.is_writing.ensures ∙ c.if-is_writing.true))

pub loop-holder-preserved : goal.loop-holder-preserved
loop-holder-preserved c =
    λ o next. c.loop-holder.invariant o
    (skipped (λ n. has_number n (writers_in (repacks_of c.args.self.now) c.args.file c.args.copy)) (has_holder c.self.inside.holders.value c.args.file c.args.copy) (c.loop-holder.at + 1) c.in-Some.holder
    (λ n k. writer_holds c.self.inside.rows.entries c.self.inside.items.value c.self.inside.holders.value c.args.file c.args.copy n c.self.invariant (subst (λ (v : NamedRepacks). has_number n (writers_in (repacks_of v) c.args.file c.args.copy) ≡ true) (sym c.self.view_is) k))
    c.in-Some.ensures (writer_is (repacks_of c.args.self.now) c.args.file c.args.copy c.in-Some.holder ∙ sym c.is_writing.ensures ∙ c.if-is_writing.false)
    o next)

pub returns : goal.returns
returns c =
    c.loop-holder.invariant None
    (none_of (λ n. has_number n (writers_in (repacks_of c.args.self.now) c.args.file c.args.copy)) (has_holder c.self.inside.holders.value c.args.file c.args.copy) (c.loop-holder.at + 1)
    (λ n k. writer_holds c.self.inside.rows.entries c.self.inside.items.value c.self.inside.holders.value c.args.file c.args.copy n c.self.invariant (subst (λ (v : NamedRepacks). has_number n (writers_in (repacks_of v) c.args.file c.args.copy) ≡ true) (sym c.self.view_is) k))
    c.in_default.ensures)
