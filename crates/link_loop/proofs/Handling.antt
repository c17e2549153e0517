-- Events that were answered, one after another.
use Rattle.std.proofs.Common.{◌≡◌, ◌≤◌, List, [], ◌∷◌, ◌++◌, append_assoc, append-nil, Bool, true, false, Option, Some, None, Result, Ok, Err, IfOk, IsOk, refl, sym, ap, ◌∙◌, subst, arith}
use Rattle.std.specs.List.{AllByRecursion}
use Rattle.std.proofs.lemmas.Grind.{flat_map-append}
use mathlib.Core.List.{IsPrefix}
use Rattle.outside.specs.Streams.{StillAppends}
use Rattle.conn.specs.Cut.{Event, Continues, Requests, Refuses}
use Rattle.wire_http.specs.declared.request.Request.{Request}
use Rattle.wire_http.specs.declared.reply.Reply.{Reply}
use Rattle.wire_http.specs.Reply.{reply_text}
use Rattle.turn_hall.specs.declared.view.Made.{Made}
use Rattle.turn_hall.specs.declared.view.View.{View}
use Rattle.link_loop.specs.declared.front.Routed.{Routed}
use Rattle.link_loop.specs.declared.front.Routed.TheVariants as routed
use Rattle.link_loop.specs.declared.front.Said.{Said}
use Rattle.link_loop.specs.declared.front.Said.TheVariants as said
use Rattle.link_loop.specs.declared.sending.Unserved.{Unserved}
use Rattle.link_loop.specs.declared.sending.Unserved.TheVariants as unserved
use Rattle.link_loop.specs.Exchanges.{Exchange, WasPlayed, Suits, SuitsEvent, HasItsCall, GoesIn, GoesOn, call_of, calls_of, events_of, text_of, texts_of, SaysSo, event_text, request_text, said_text}
use Rattle.link_loop.specs.Served.{Handled, GoesSo, WroteSo, IsSaid, IsSent, LinkView, why_not}
use Rattle.link_loop.proofs.Lists.{map_append, all_append, all_as, begins_itself, begins_both, still_same, still_more, rose_later}

-- a call that was played between two histories was played between those round them
wider : {C B E : Type 0} (legal : List E → Type 0) (plays : List E → C → B → List E → Type 0) (s seen seen' s' : List E) → IsPrefix s seen → IsPrefix seen' s' → (m : Made C B) → WasPlayed legal plays seen seen' m → WasPlayed legal plays s s' m
wider legal plays s seen seen' s' p q m w = record {
  before = w.before;
  later = w.later;
  was_legal = w.was_legal;
  place = w.place;
  played = w.played;
  onward = begins_both s seen w.before p w.onward;
  known = begins_both w.later seen' s' w.known q;
}

-- a link is served on with an exchange that has no call
goes_plain : {B S : Type 0} (C : Type 0) (says : B → Bool → Said S) (e : Event) → GoesIn {C = C} says e None
goes_plain C says Continues = tt
goes_plain C says (Requests q) = tt
goes_plain C says (Refuses r) = tt

module _ {C B K S : Type 0} (needs : Request → Routed K) (says : B → Bool → Said S) where
  one_text : (x : Exchange C B) → texts_of needs says (x ∷ []) ≡ text_of needs says x
  one_text x = append-nil (text_of needs says x)

  -- what an exchange's text was written says of it
  wrote_one : (r : Result (Unit {0}) (Unserved S)) (x : Exchange C B) (a b : LinkView) → IsSent r (text_of needs says x) a b → WroteSo needs says (why_not r) [] (x ∷ []) a b
  wrote_one (Ok y) x a b s = (refl, subst (StillAppends a.written b.written) (sym (one_text x)) s)
  wrote_one (Err unserved.Read) x a b s = absurd s
  wrote_one (Err unserved.Write) x a b s = (refl, s.0, record { first = []; last = x; front = s.1.0; parts = refl; within = s.1.2; wrote = s.1.1 })
  wrote_one (Err unserved.NoMemory) x a b s = record { first = []; later = x ∷ []; parts = refl; few = omega arith; wrote = still_same a.written b.written s }
  wrote_one (Err (unserved.Stopped why)) x a b s = absurd s

  goes_one : (r : Result (Unit {0}) (Unserved S)) (x : Exchange C B) (a b : LinkView) → IsSent r (text_of needs says x) a b → GoesOn says x → GoesSo says (why_not r) (x ∷ [])
  goes_one (Ok y) x a b s g = (g, tt)
  goes_one (Err unserved.Read) x a b s g = absurd s
  goes_one (Err unserved.Write) x a b s g = (g, tt)
  goes_one (Err unserved.NoMemory) x a b s g = (g, tt)
  goes_one (Err (unserved.Stopped why)) x a b s g = absurd s

  texts_append : (xs ys : List (Exchange C B)) → texts_of needs says (xs ++ ys) ≡ texts_of needs says xs ++ texts_of needs says ys
  texts_append xs ys = flat_map-append (text_of needs says) xs ys

  -- what was written of exchanges and then of further ones
  wrote_more : (why : Option (Unserved S)) (rest : List Event) (xs ys : List (Exchange C B)) (a c b : LinkView) → StillAppends a.written c.written (texts_of needs says xs) → a.writes ≤ c.writes → WroteSo needs says why rest ys c b
      → WroteSo needs says why rest (xs ++ ys) a b
  wrote_more None rest xs ys a c b first low then_ = (then_.0, subst (StillAppends a.written b.written) (sym (texts_append xs ys)) (still_more a.written c.written b.written _ _ first then_.1))
  wrote_more (Some unserved.Read) rest xs ys a c b first low then_ = absurd then_
  wrote_more (Some unserved.Write) rest xs ys a c b first low then_ =
      let y = then_.2 in
      let texts : texts_of needs says (xs ++ y.first) ++ y.front ≡ texts_of needs says xs ++ (texts_of needs says y.first ++ y.front) =
      ap (λ l. l ++ y.front) (texts_append xs y.first) ∙ append_assoc (texts_of needs says xs) (texts_of needs says y.first) y.front in (
        then_.0,
        rose_later a.writes c.writes b.writes low then_.1,
        record {
          first = xs ++ y.first;
          last = y.last;
          front = y.front;
          parts = ap (λ l. xs ++ l) y.parts ∙ sym (append_assoc xs y.first (y.last ∷ []));
          within = y.within;
          wrote = subst (StillAppends a.written b.written) (sym texts) (still_more a.written c.written b.written _ _ first y.wrote);
        },
      )
  wrote_more (Some unserved.NoMemory) rest xs ys a c b first low then_ = record {
    first = xs ++ then_.first;
    later = then_.later;
    parts = ap (λ l. xs ++ l) then_.parts ∙ sym (append_assoc xs then_.first then_.later);
    few = then_.few;
    wrote = subst (StillAppends a.written b.written) (sym (texts_append xs then_.first)) (still_more a.written c.written b.written _ _ first then_.wrote);
  }
  wrote_more (Some (unserved.Stopped why)) rest xs ys a c b first low then_ = (then_.0, subst (StillAppends a.written b.written) (sym (texts_append xs ys)) (still_more a.written c.written b.written _ _ first then_.1))

module _ {C B S : Type 0} (says : B → Bool → Said S) where
  goes_more : (why : Option (Unserved S)) (xs ys : List (Exchange C B)) → AllByRecursion (GoesOn says) xs → GoesSo says why ys → GoesSo says why (xs ++ ys)
  goes_more None xs ys g h = all_append (GoesOn says) xs ys g h
  goes_more (Some unserved.Read) xs ys g h = all_append (GoesOn says) xs ys g h
  goes_more (Some unserved.Write) xs ys g h = all_append (GoesOn says) xs ys g h
  goes_more (Some unserved.NoMemory) xs ys g h = all_append (GoesOn says) xs ys g h
  goes_more (Some (unserved.Stopped why)) xs ys g h = record {
    first = xs ++ h.first;
    last = h.last;
    parts = ap (λ l. xs ++ l) h.parts ∙ sym (append_assoc xs h.first (h.last ∷ []));
    onward = all_append (GoesOn says) xs h.first g h.onward;
    stops = h.stops;
  }

module _ {W E C B K S : Type 0} (question : C → K) (needs : Request → Routed K) (says : B → Bool → Said S) (legal : List E → Type 0) (plays : List E → C → B → List E → Type 0) where
  -- nothing was answered
  pub none_handled : (v : View W E C B) (a b : LinkView) → b.written ≡ a.written → a.writes ≤ b.writes → Handled question needs says legal plays None [] v v a b
  none_handled v a b same later = record {
    told = [];
    rest = [];
    covers = refl;
    suits = tt;
    calls = sym (append-nil v.mine);
    played = tt;
    onward = begins_itself v.seen;
    goes = tt;
    wrote = (refl, still_same a.written b.written same);
    later = later;
  }

  -- nothing was answered of an event, since memory ran out
  pub none_out_of_memory : (e : Event) (v : View W E C B) (a b : LinkView) → b.written ≡ a.written → a.writes ≤ b.writes → Handled question needs says legal plays (Some unserved.NoMemory) (e ∷ []) v v a b
  none_out_of_memory e v a b same later = record {
    told = [];
    rest = e ∷ [];
    covers = refl;
    suits = tt;
    calls = sym (append-nil v.mine);
    played = tt;
    onward = begins_itself v.seen;
    goes = tt;
    wrote = record { first = []; later = []; parts = refl; few = omega arith; wrote = still_same a.written b.written same };
    later = later;
  }

  -- an event was answered with no call
  pub event_handled : (r : Result (Unit {0}) (Unserved S)) (e : Event) (v : View W E C B) (a b : LinkView) → SuitsEvent {B = B} question needs e None → IsSent r (event_text {C = C} needs says e None) a b → a.writes ≤ b.writes
      → Handled question needs says legal plays (why_not r) (e ∷ []) v v a b
  event_handled r e v a b suits sent later = record {
    told = record { event = e; call = None } ∷ [];
    rest = [];
    covers = refl;
    suits = (suits, tt);
    calls = sym (append-nil v.mine);
    played = tt;
    onward = begins_itself v.seen;
    goes = goes_one needs says r (record { event = e; call = None }) a b sent (goes_plain C says e);
    wrote = wrote_one needs says r (record { event = e; call = None }) a b sent;
    later = later;
  }

  -- a request was answered with its own reply
  pub reply_handled : (r : Result (Unit {0}) (Unserved S)) (q : Request) (reply : Reply) (v : View W E C B) (a b : LinkView) → needs q ≡ routed.Reply reply → IsSent r (reply_text reply) a b → a.writes ≤ b.writes
      → Handled question needs says legal plays (why_not r) (Requests q ∷ []) v v a b
  reply_handled r q reply v a b needed sent later =
      let suits : HasItsCall {B = B} question (needs q) None = subst (λ n. HasItsCall {B = B} question n None) (sym needed) refl in
      let text : event_text {C = C} needs says (Requests q) None ≡ reply_text reply = ap (λ n. request_text {C = C} says q n None) needed in
      event_handled r (Requests q) v a b suits (subst (λ t. IsSent r t a b) (sym text) sent) later

  -- a request was answered with a call: what of its exchange was written
  module _ (q : Request) (m : Made C B) (v w : View W E C B) (asks : needs q ≡ routed.Call (question m.call)) (mine : w.mine ≡ v.mine ++ m ∷ []) (played : WasPlayed legal plays v.seen w.seen m) (seen : IsPrefix v.seen w.seen) where
    abbrev exchange : Exchange C B
    exchange = record { event = Requests q; call = Some m }

    suited : Suits question needs exchange
    suited = subst (λ n. HasItsCall question n (Some m)) (sym asks) refl

    call_text : (t : Said S) → t ≡ says m.back q.close → text_of needs says exchange ≡ said_text t
    call_text t is = ap (λ n. request_text says q n (Some m)) asks ∙ ap (said_text) (sym is)

    made_with : (why : Option (Unserved S)) (a b : LinkView) → GoesSo says why (exchange ∷ []) → WroteSo needs says why [] (exchange ∷ []) a b → a.writes ≤ b.writes → Handled question needs says legal plays why (Requests q ∷ []) v w a b
    made_with why a b goes wrote later = record {
      told = exchange ∷ [];
      rest = [];
      covers = refl;
      suits = (suited, tt);
      calls = mine;
      played = (played, tt);
      onward = seen;
      goes = goes;
      wrote = wrote;
      later = later;
    }

    replied_goes : (reply : Reply) → said.Reply reply ≡ says m.back q.close → GoesIn says (Requests q) (Some m)
    replied_goes reply is why stop = let no : said.Reply reply ≡ said.Stop why = is ∙ stop in cc

    pub call_replied : (r : Result (Unit {0}) (Unserved S)) (reply : Reply) (a b : LinkView) → said.Reply reply ≡ says m.back q.close → IsSent r (reply_text reply) a b → a.writes ≤ b.writes → Handled question needs says legal plays (why_not r) (Requests q ∷ []) v w a b
    call_replied r reply a b is sent later =
        let text : IsSent r (text_of needs says exchange) a b = subst (λ t. IsSent r t a b) (sym (call_text (said.Reply reply) is)) sent in
        made_with (why_not r) a b (goes_one needs says r exchange a b text (replied_goes reply is)) (wrote_one needs says r exchange a b text) later

    pub call_stopped : (why : S) (a b : LinkView) → said.Stop why ≡ says m.back q.close → b.written ≡ a.written → a.writes ≤ b.writes → Handled question needs says legal plays (Some (unserved.Stopped why)) (Requests q ∷ []) v w a b
    call_stopped why a b is same later =
        let none : texts_of needs says (exchange ∷ []) ≡ [] = one_text needs says exchange ∙ call_text (said.Stop why) is in
        made_with (Some (unserved.Stopped why)) a b (record { first = []; last = exchange; parts = refl; onward = tt; stops = sym is })
        (refl, subst (StillAppends a.written b.written) (sym none) (still_same a.written b.written same)) later

    pub call_out_of_memory : (a b : LinkView) → GoesIn says (Requests q) (Some m) → b.written ≡ a.written → a.writes ≤ b.writes → Handled question needs says legal plays (Some unserved.NoMemory) (Requests q ∷ []) v w a b
    call_out_of_memory a b goes same later =
        made_with (Some unserved.NoMemory) a b (goes, tt) (record { first = []; later = exchange ∷ []; parts = refl; few = omega arith; wrote = still_same a.written b.written same }) later

    pub call_said : (r : Result (Unit {0}) (Unserved S)) (t : Said S) (a b : LinkView) → t ≡ says m.back q.close → IsSaid t r a b → a.writes ≤ b.writes → Handled question needs says legal plays (why_not r) (Requests q ∷ []) v w a b
    call_said r (said.Reply reply) a b is sent later = call_replied r reply a b is sent later
    call_said r (said.Stop why) a b is sent later = subst (λ (y : Result (Unit {0}) (Unserved S)). Handled question needs says legal plays (why_not y) (Requests q ∷ []) v w a b) (sym sent.0) (call_stopped why a b is sent.1 later)

    pub call_lost : (says' : Said S) (a b : LinkView) → says' ≡ says m.back q.close → ((why : S) → says' ≡ said.Stop why → ⊥) → b.written ≡ a.written → a.writes ≤ b.writes → Handled question needs says legal plays (Some unserved.NoMemory) (Requests q ∷ []) v w a b
    call_lost says' a b is goes same later = call_out_of_memory a b (λ why stop. goes why (is ∙ stop)) same later

  -- events that were answered, and then further ones
  pub more_handled : (why : Option (Unserved S)) (es fs : List Event) (v u w : View W E C B) (a c b : LinkView) → Handled question needs says legal plays None es v u a c → Handled question needs says legal plays why fs u w c b
      → Handled question needs says legal plays why (es ++ fs) v w a b
  more_handled why es fs v u w a c b x y = record {
    told = x.told ++ y.told;
    rest = y.rest;
    covers = ap (λ l. l ++ fs) (x.covers ∙ ap (λ l. events_of x.told ++ l) x.wrote.0 ∙ append-nil (events_of x.told)) ∙ ap (λ l. events_of x.told ++ l) y.covers
        ∙ sym (append_assoc (events_of x.told) (events_of y.told) y.rest) ∙ ap (λ l. l ++ y.rest) (sym (map_append (λ (z : Exchange C B). z.event) x.told y.told));
    suits = all_append (Suits question needs) x.told y.told x.suits y.suits;
    calls = y.calls ∙ ap (λ l. l ++ calls_of y.told) x.calls ∙ append_assoc v.mine (calls_of x.told) (calls_of y.told) ∙ ap (λ l. v.mine ++ l) (sym (flat_map-append call_of x.told y.told));
    played = subst (AllByRecursion (WasPlayed legal plays v.seen w.seen)) (sym (flat_map-append call_of x.told y.told))
        (all_append (WasPlayed legal plays v.seen w.seen) (calls_of x.told) (calls_of y.told)
        (all_as (WasPlayed legal plays v.seen u.seen) (WasPlayed legal plays v.seen w.seen) (calls_of x.told) (wider legal plays v.seen v.seen u.seen w.seen (begins_itself v.seen) y.onward) x.played)
        (all_as (WasPlayed legal plays u.seen w.seen) (WasPlayed legal plays v.seen w.seen) (calls_of y.told) (wider legal plays v.seen u.seen w.seen w.seen x.onward (begins_itself w.seen)) y.played));
    onward = begins_both v.seen u.seen w.seen x.onward y.onward;
    goes = goes_more says why x.told y.told x.goes y.goes;
    wrote = wrote_more needs says why y.rest x.told y.told a c b x.wrote.1 x.later y.wrote;
    later = (let low = x.later in let high = y.later in omega arith);
  }

-- what is said, or memory ran out
pub says_so : {S X : Type 0} (says : Said S) (r : Result (Said S) X) → IfOk r (λ t. t ≡ says) → ((why : S) → says ≡ said.Stop why → IsOk r) → SaysSo says r
says_so says (Ok t) is stop = is
says_so says (Err e) is stop = λ why same. (let no : false ≡ true = stop why same in absurd cc)
