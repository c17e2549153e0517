use Rattle.std.proofs.Common.{rules}
use Rattle.job_book.proofs.Looks.{has_job-map}
use Rattle.job_book.proofs.book.JobBook.named.Goals as goal

pub returns : goal.returns
returns c = search (rules, has_job-map)
