use Rattle.std.proofs.Common.{rules}
use Rattle.job_book.proofs.Looks.{birth_in-map}
use Rattle.job_book.proofs.book.JobBook.last_birth.Goals as goal

pub returns : goal.returns
returns c = search (rules, birth_in-map)
