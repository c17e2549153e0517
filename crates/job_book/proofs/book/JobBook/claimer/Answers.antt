use Rattle.std.proofs.Common.{rules}
use Rattle.job_book.proofs.Looks.{claimer_in-map}
use Rattle.job_book.proofs.book.JobBook.claimer.Goals as goal

pub returns : goal.returns
returns c = search (rules, claimer_in-map)
