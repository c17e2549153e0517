use Rattle.std.proofs.Common.{rules}
use Rattle.std.specs.Prelude.{string_bytes}
use Rattle.path_index.proofs.Found.{names_of-put}
use Rattle.path_index.proofs.index.PathIndex.add.Goals as goal

pub returns-clause-named : goal.returns-clause-named
returns-clause-named c =
    let u = c.in_ok-insert.ensures.updates in
    names_of-put c.args.path c.args.file (string_bytes c.in_ok-path.path) _ _ _ (search rules) c.self.view_is u.1 u.3
