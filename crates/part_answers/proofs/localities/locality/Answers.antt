use Rattle.std.proofs.Common.{◌∙◌, sym}
use Rattle.cta_model.specs.Localities.{locality_by}
use Rattle.cta_model.specs.Tapes.{is_disabled, may_be_read}
use Rattle.part_answers.proofs.Placed.{some_place}
use Rattle.part_answers.proofs.localities.locality.Goals as goal

pub returns : goal.returns
returns c = λ buffer held.
    c.locality_by.ensures
    ∙ (λ i. locality_by (c.all_placed-taped.ensures i)
    ((c.some_readable-readable.ensures ∙ some_place may_be_read c.args.table.now.value c.args.file c.args.copies) i)
    (sym held i)
    ((c.some_disabled-disabled.ensures ∙ some_place is_disabled c.args.table.now.value c.args.file c.args.copies) i))
