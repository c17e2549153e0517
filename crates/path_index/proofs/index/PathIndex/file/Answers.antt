use Rattle.std.proofs.Common.{◌≡◌, rules, sym, subst, None, Option, ℕ}
use Rattle.part_model.specs.Names.{file_in}
use Rattle.path_index.proofs.Found.{file_in-names_of, names_texts}
use Rattle.path_index.proofs.index.PathIndex.file.Goals as goal

pub returns-in-Ok : goal.returns-in-Ok
returns-in-Ok c = subst (λ p. c.copied.result ≡ file_in c.args.self.now p) c.in-Ok.ensures.cases.0 (search (rules, file_in-names_of))

pub returns-in-Err : goal.returns-in-Err
returns-in-Err c = sym (subst (λ v. ◌≡◌ {A = Option ℕ} (file_in v c.args.path.now) None) c.self.view_is (names_texts c.args.path.now c.self.inside.files.entries c.in-Err.ensures.cases.0))
