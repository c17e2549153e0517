use Rattle.tape_table.proofs.Walks.{walks_pass}
use Rattle.tape_table.proofs.laws.walks_pass_all.Goals as goal

pub returns : goal.returns
returns c = walks_pass
