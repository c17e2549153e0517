use Rattle.std.proofs.Common.{◌∙◌, sym, ap}
use Rattle.part_model.specs.Queues.{lines_in}
use Rattle.job_queues.specs.Fitting.{first_fitting}
use Rattle.part_answers.specs.Taken.{lines_behind}
use Rattle.part_answers.proofs.Walks.{next_is_first}
use Rattle.part_answers.proofs.batch_jobs.next_line.Goals as goal

pub returns-in-Some : goal.returns-in-Some
returns-in-Some c =
    c.next_fitting.ensures ∙ next_is_first c.args.room c.in-Some.job (lines_in c.args.queues.now.value c.args.key)
    ∙ ap (λ last. first_fitting c.args.room (lines_behind last (lines_in c.args.queues.now.value c.args.key))) (sym c.in-Some.is)
