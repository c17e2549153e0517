use Rattle.std.proofs.Common.{◌≡◌, ◌∙◌, ap, sym, true}
use Rattle.std.specs.Prelude.{is_err}
use Rattle.drive_session.specs.Answers.{is_asking, is_memory}
use Rattle.drive_session.proofs.Lawful.{line_never_memory}
use Rattle.drive_session.proofs.session.Session.take.Goals as goal

pub returns-in-Ok-clause-memory : goal.returns-in-Ok-clause-memory
returns-in-Ok-clause-memory g c =
    let asks : is_asking c.self.inside.memo.asked ≡ true = ap (λ m. is_asking m.asked) c.self.view_is ∙ c.requires in
    ap is_memory c.taken-state.ensures.line ∙ line_never_memory c.self.inside.memo.asked c.replace-state.result c.in-Ok.answered.0 c.in-Ok.answered.1 asks ∙ ap is_err (sym c.in-Ok.is)
