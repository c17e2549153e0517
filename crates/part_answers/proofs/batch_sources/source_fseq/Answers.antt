use Rattle.std.proofs.Common.{◌∙◌, ap}
use Rattle.std.specs.Prelude.{Option}
use Rattle.std.proofs.Common.{ℕ}
use Rattle.part_answers.specs.Sources.{fseq_of_copy}
use Rattle.part_answers.proofs.SourceFseqs.{source_is}
use Rattle.part_answers.proofs.batch_sources.source_fseq.Goals as goal

pub returns : goal.returns
returns c =
    c.fseq_at.ensures ∙ ap (λ (o : Option ℕ). fseq_of_copy c.args.table.now.value c.args.file o) c.copy_on.ensures
    ∙ source_is c.args.table.now.value c.args.tape c.args.file c.args.copies c.some_readable-readable.result c.some_readable-readable.ensures
