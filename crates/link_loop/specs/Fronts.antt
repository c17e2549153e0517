-- What a front says of requests and of their calls.
use Rattle.std.specs.Prelude.{◌≡◌, ℕ, List, Option, None}
use Rattle.link_loop.specs.declared.front.Routed.{Routed}
use Rattle.link_loop.specs.declared.front.Routed.TheVariants as routed

-- what a request comes to, where of a call only what it asks is said
abbrev pub routed_as : {C K : Type 0} → (C → K) → Routed C → Routed K
routed_as question (routed.Call c) = routed.Call (question c)
routed_as question (routed.Reply reply) = routed.Reply reply

-- a call that each pass may make: it is fit whatever was seen, it asks about nothing that another call opened, and it gets what it may get
pub record IsFreeCall {C B E : Type 0} (fits : List E → C → Type 0) (asks : C → Option ℕ) (legal : List E → Type 0) (plays : List E → C → B → List E → Type 0) (gets : B → Type 0) (call : C) : Type 0 where
  pub fit : (h : List E) → fits h call
  pub about : asks call ≡ None
  pub told : (h later : List E) (b : B) → legal h → plays h call b later → gets b

-- what a request comes to is free where it is a call
abbrev pub IsFree : {C B E : Type 0} → (List E → C → Type 0) → (C → Option ℕ) → (List E → Type 0) → (List E → C → B → List E → Type 0) → (B → Type 0) → Routed C → Type 0
IsFree fits asks legal plays gets (routed.Call call) = IsFreeCall fits asks legal plays gets call
IsFree fits asks legal plays gets (routed.Reply reply) = Unit {0}
