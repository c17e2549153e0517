use Rattle.std.proofs.Common.{◌∙◌, sym}
use Rattle.drive_session.proofs.Works.{memo_state, work_step}
use Rattle.drive_session.proofs.session.Session.work.Goals as goal

pub returns-clause-work : goal.returns-clause-work
returns-clause-work g c =
    work_step g.D.Medium.Told.told _ _ c.args.self.now c.self.inside.memo c.replace-state.result c.replace.new.dest c.step_of-step.result (sym c.self.view_is) (sym c.replace.ensures.value ∙ c.in_default.is) c.replace-state.ensures.value c.replace.ensures.after c.step_of-step.ensures

pub returns-clause-fits : goal.returns-clause-fits
returns-clause-fits g c = λ site h fits. c.step_of-step.ensures.fits site h (memo_state g.D.Medium.Told.told site h _ c.self.inside.memo c.replace-state.result (sym c.self.view_is) (sym c.replace.ensures.value ∙ c.in_default.is) c.replace-state.ensures.value fits)
