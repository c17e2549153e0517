use Rattle.std.proofs.Common.{◌∙◌, ◌<◌, arith, ap, sym, subst, ℕ, Some, None}
use Rattle.cta_model.specs.History.{has_number}
use Rattle.part_model.specs.Repacks.{reading_copies}
use Rattle.repack_book.specs.NamedRepacks.{KeptRepack}
use Rattle.repack_book.specs.Order.{has_item}
use Rattle.repack_book.specs.Walks.{IsFirstFrom}
use Rattle.repack_book.proofs.Rows.{reading_is}
use Rattle.repack_book.proofs.Walks.{none_beyond, none_of, reading_there, skipped, this_one}
use Rattle.repack_book.proofs.row.RepackRow.reading.Goals as goal

pub returns-then-is_reading : goal.returns-then-is_reading
returns-then-is_reading c =
    c.loop-copy.invariant (Some c.in-Some.copy)
    (this_one (λ k. has_number k (reading_copies c.args.file (Some c.args.self.now.repack))) (has_item c.args.items.now.value c.args.self.now.repack.tape c.args.id c.args.file) c.loop-copy.at c.in-Some.copy
    (reading_there (has_item c.args.items.now.value c.args.self.now.repack.tape c.args.id c.args.file) c.args.file c.args.self.now.repack c.requires)
    (subst (λ (t : ℕ). IsFirstFrom (has_item c.args.items.now.value t c.args.id c.args.file) c.loop-copy.at (Some c.in-Some.copy)) (ap (λ (k : KeptRepack). k.repack.tape) c.self.view_is) c.in-Some.ensures)
    (reading_is c.args.file c.in-Some.copy c.args.self.now.repack.items ∙ sym c.is_reading.ensures.is ∙ c.if-is_reading.true))

pub returns-then-copy : goal.returns-then-copy
returns-then-copy c =
    c.loop-copy.invariant None
    (skipped (λ k. has_number k (reading_copies c.args.file (Some c.args.self.now.repack))) (has_item c.args.items.now.value c.args.self.now.repack.tape c.args.id c.args.file) c.loop-copy.at c.in-Some.copy
    (reading_there (has_item c.args.items.now.value c.args.self.now.repack.tape c.args.id c.args.file) c.args.file c.args.self.now.repack c.requires)
    (subst (λ (t : ℕ). IsFirstFrom (has_item c.args.items.now.value t c.args.id c.args.file) c.loop-copy.at (Some c.in-Some.copy)) (ap (λ (k : KeptRepack). k.repack.tape) c.self.view_is) c.in-Some.ensures)
    (reading_is c.args.file c.in-Some.copy c.args.self.now.repack.items ∙ sym c.is_reading.ensures.is ∙ c.if-is_reading.false)
    None
    (λ k h. let low : k < 256 = none_beyond c.args.file c.args.self.now.repack c.is_reading.ensures.low k h in omega arith))

pub loop-copy-preserved : goal.loop-copy-preserved
loop-copy-preserved c =
    λ o next. c.loop-copy.invariant o
    (skipped (λ k. has_number k (reading_copies c.args.file (Some c.args.self.now.repack))) (has_item c.args.items.now.value c.args.self.now.repack.tape c.args.id c.args.file) c.loop-copy.at c.in-Some.copy
    (reading_there (has_item c.args.items.now.value c.args.self.now.repack.tape c.args.id c.args.file) c.args.file c.args.self.now.repack c.requires)
    (subst (λ (t : ℕ). IsFirstFrom (has_item c.args.items.now.value t c.args.id c.args.file) c.loop-copy.at (Some c.in-Some.copy)) (ap (λ (k : KeptRepack). k.repack.tape) c.self.view_is) c.in-Some.ensures)
    (reading_is c.args.file c.in-Some.copy c.args.self.now.repack.items ∙ sym c.is_reading.ensures.is ∙ c.if-is_reading.false)
    o next)

pub returns : goal.returns
returns c =
    c.loop-copy.invariant None
    (none_of (λ k. has_number k (reading_copies c.args.file (Some c.args.self.now.repack))) (has_item c.args.items.now.value c.args.self.now.repack.tape c.args.id c.args.file) c.loop-copy.at
    (reading_there (has_item c.args.items.now.value c.args.self.now.repack.tape c.args.id c.args.file) c.args.file c.args.self.now.repack c.requires)
    (subst (λ (t : ℕ). IsFirstFrom (has_item c.args.items.now.value t c.args.id c.args.file) c.loop-copy.at None) (ap (λ (k : KeptRepack). k.repack.tape) c.self.view_is) c.in_default.ensures))
