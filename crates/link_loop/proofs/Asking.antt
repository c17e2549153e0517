-- The calls of exchanges ask what their requests ask.
use Rattle.std.proofs.Common.{◌≡◌, List, [], ◌∷◌, ◌++◌, map, Option, Some, None, refl, ap, ◌∙◌}
use Rattle.conn.specs.Cut.{Event, Continues, Requests, Refuses}
use Rattle.wire_http.specs.declared.request.Request.{Request}
use Rattle.turn_hall.specs.declared.view.Made.{Made}
use Rattle.link_loop.specs.declared.front.Routed.{Routed}
use Rattle.link_loop.specs.declared.front.Routed.TheVariants as routed
use Rattle.link_loop.specs.Exchanges.{HasItsCall, SuitsEvent, listed, calls_of}
use Rattle.link_loop.specs.Served.{AskInOrder, asked_in, asked_by}
use Rattle.link_loop.proofs.Lists.{map_append}

module _ {C B K : Type 0} (question : C → K) (needs : Request → Routed K) where
  questions : List (Made C B) → List K
  questions ms = map (λ (m : Made C B). question m.call) ms

  asks_needed : (n : Routed K) (call : Option (Made C B)) → HasItsCall question n call → questions (listed call) ≡ asked_in n
  unfolding questions
  asks_needed (routed.Reply reply) call s = ap (λ (y : Option (Made C B)). map (λ (m : Made C B). question m.call) (listed y)) s
  asks_needed (routed.Call k) None s = absurd s
  asks_needed (routed.Call k) (Some m) s = ap (λ y. y ∷ []) s

  asks_event : (e : Event) (call : Option (Made C B)) → SuitsEvent question needs e call → questions (listed call) ≡ asked_by needs e
  unfolding questions
  asks_event Continues call s = ap (λ (y : Option (Made C B)). map (λ (m : Made C B). question m.call) (listed y)) s
  asks_event (Refuses r) call s = ap (λ (y : Option (Made C B)). map (λ (m : Made C B). question m.call) (listed y)) s
  asks_event (Requests q) call s = asks_needed (needs q) call s

  pub asks_in_order : AskInOrder B question needs
  unfolding questions
  asks_in_order [] s = refl
  asks_in_order (x ∷ xs) s = map_append (λ (m : Made C B). question m.call) (listed x.call) (calls_of xs) ∙ (λ i. asks_event x.event x.call s.0 i ++ asks_in_order xs s.1 i)
