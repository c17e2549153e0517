use Rattle.std.proofs.Common.{◌≡◌, ◌∙◌, ap, sym, subst}
use Rattle.tape_routes.specs.Asked.{asked}
use Rattle.archive_front.specs.Questions.{ComesTo, question_of}
use Rattle.link_loop.specs.declared.front.Routed.TheVariants as routed
use Rattle.link_server.specs.Fronts.{need_in, needs_of}
use Rattle.link_server.proofs.Fronting.{called_needs}
use Rattle.durable_server.proofs.front.LoggedFrontFrontLogged.route.Goals as goal

pub returns-in-Call-clause-routed : goal.returns-in-Call-clause-routed
returns-in-Call-clause-routed g c =
    let i = c.self.inside in
    let x = asked i.site.now c.args.request in
    let here : i.site.now ≡ c.args.self.now.site = c.self.invariant ∙ ap (λ s. s.site) c.self.view_is in
    subst (λ s. routed.Call (question_of c.in-Call.call) ≡ needs_of s c.args.request) here (called_needs x c.args.moment c.in-Call.call (subst (ComesTo x c.args.moment) c.in-Call.is c.in_ok-call.ensures))

pub returns-in-Reply-clause-routed : goal.returns-in-Reply-clause-routed
returns-in-Reply-clause-routed g c =
    let i = c.self.inside in
    let x = asked i.site.now c.args.request in
    let here : i.site.now ≡ c.args.self.now.site = c.self.invariant ∙ ap (λ s. s.site) c.self.view_is in
    subst (λ s. routed.Reply c.in-Reply.reply ≡ needs_of s c.args.request) here (sym (ap need_in (subst (ComesTo x c.args.moment) c.in-Reply.is c.in_ok-call.ensures)))
