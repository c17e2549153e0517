use Rattle.std.proofs.Common.{rules}
use Rattle.job_book.proofs.Looks.{recall_in-map}
use Rattle.job_book.proofs.book.JobBook.live_recall.Goals as goal

pub returns : goal.returns
returns c = search (rules, recall_in-map)
