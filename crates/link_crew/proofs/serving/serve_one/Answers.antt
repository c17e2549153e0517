use Rattle.std.proofs.Common.{◌++◌, ◌∷◌, List, [], ℕ, subst, sym}
use Rattle.turn_hall.specs.declared.view.Made.{Made}
use Rattle.turn_hall.specs.Handles.{view}
use Rattle.link_crew.specs.Accounts.{Accounted}
use Rattle.link_crew.proofs.serving.serve_one.Goals as goal

pub returns-clause-accounted : goal.returns-clause-accounted
returns-clause-accounted g c =
    let at = λ (s : g.row.T-Site.Denot) (mine : List (Made g.row.T-Call.Denot g.row.T-Back.Denot)) (links : List g.row.L.Denot) (n : ℕ). Accounted g.F.Front.question g.F.Callers.is_callers g.L.Link.left g.L.Link.firm c.args.file_limit (g.F.Front.needs s) mine links n in
    let e = c.requires.site in
    λ links n n' later acc. subst (λ s. at s (view c.serve_and_close.new.pass).mine (links ++ c.args.link ∷ []) n') e
    (c.serve_and_close.ensures.accounted links n n' later (subst (λ s. at s (view c.args.pass.now).mine links n) (sym e) acc))
