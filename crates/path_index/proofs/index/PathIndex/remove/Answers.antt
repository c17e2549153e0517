use Rattle.std.proofs.Common.{◌≡◌, rules, sym, subst, None, Option, ℕ}
use Rattle.part_model.specs.Names.{file_in, remove_name, NamesAgree}
use Rattle.path_index.specs.Entries.{names_of}
use Rattle.path_index.proofs.Found.{file_in-names_of, names_of-taken, names_texts, without_none}
use Rattle.path_index.proofs.index.PathIndex.remove.Goals as goal

pub returns-in-Ok-clause-named : goal.returns-in-Ok-clause-named
returns-in-Ok-clause-named c = subst (λ p. c.remove.result ≡ file_in c.args.self.now p) c.in-Ok.ensures.cases.0 (search (rules, file_in-names_of))

pub returns-in-Ok-clause-removed : goal.returns-in-Ok-clause-removed
returns-in-Ok-clause-removed c =
    let u = c.remove.ensures.updates in
    subst (λ p. NamesAgree (names_of c.remove.new.self.entries) (remove_name p c.args.self.now)) c.in-Ok.ensures.cases.0
    (names_of-taken c.in-Ok.path.now _ _ _ c.self.view_is u.1 u.3)

pub returns-in-Err-clause-named : goal.returns-in-Err-clause-named
returns-in-Err-clause-named c = sym (subst (λ v. ◌≡◌ {A = Option ℕ} (file_in v c.args.path.now) None) c.self.view_is (names_texts c.args.path.now c.self.inside.files.entries c.in-Err.ensures.cases.0))

pub returns-in-Err-clause-removed : goal.returns-in-Err-clause-removed
returns-in-Err-clause-removed c = without_none c.args.path.now c.args.self.now (subst (λ v. ◌≡◌ {A = Option ℕ} (file_in v c.args.path.now) None) c.self.view_is (names_texts c.args.path.now c.self.inside.files.entries c.in-Err.ensures.cases.0))
