-- No request asks what a session asks.
use Rattle.std.proofs.Common.{◌≡◌, Bool, true, false, List, ℕ, Option, refl, ap, sym, subst}
use Rattle.cta_site.specs.declared.site.Site.{Site}
use Rattle.cta_model.specs.declared.asks.Ask.{Ask}
use Rattle.cta_model.specs.declared.asks.Ask.TheVariants as ask
use Rattle.wire_http.specs.declared.request.Request.{Request}
use Rattle.tape_routes.specs.Asked.{Asked, Asks, Looks, Replies, asked}
use Rattle.tape_routes.specs.Callers.{CallersAsk, IsCallers}
use Rattle.archive_front.specs.declared.questions.Question.{Question}
use Rattle.archive_front.specs.declared.questions.Question.TheVariants as question
use Rattle.link_loop.specs.declared.front.Routed.{Routed}
use Rattle.link_loop.specs.declared.front.Routed.TheVariants as routed
use Rattle.link_server.specs.Callers.{is_callers}
use Rattle.link_server.specs.Fronts.{need_in, needs_of}

-- what a caller may ask is what a caller asks
asked_by_caller : (k : Ask) (content : Option (List ℕ)) → IsCallers (Asks k content) → is_callers (question.Ask k) ≡ true
asked_by_caller (ask.Next d) content none = absurd none
asked_by_caller (ask.Claim m) content none = absurd none
asked_by_caller (ask.Flushed m items) content none = absurd none
asked_by_caller (ask.Recalled m job) content none = absurd none
asked_by_caller (ask.Failed m fault charged returned) content none = absurd none
asked_by_caller (ask.End m fault) content none = absurd none
asked_by_caller _ content may = refl

-- the call that a request needs
same_call : (k q : Question) → ◌≡◌ {A = Routed Question} (routed.Call k) (routed.Call q) → k ≡ q
same_call k q e = cc

needed : (a : Asked) (k : Question) → IsCallers a → need_in a ≡ routed.Call k → is_callers k ≡ true
needed (Asks a content) k may e = subst (λ (q : Question). is_callers q ≡ true) (same_call (question.Ask a) k e) (asked_by_caller a content may)
needed (Looks a) k may e = subst (λ (q : Question). is_callers q ≡ true) (same_call (question.Look a) k e) refl
needed (Replies reply) k may e = absurd (cc)

pub all_are_callers : CallersAsk → (site : Site) (request : Request) (k : Question) → needs_of site request ≡ routed.Call k → is_callers k ≡ true
all_are_callers may site request k e = needed (asked site request) k (may site request) e
