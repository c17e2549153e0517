-- Sessions of links, step by step, and how they end.
use Rattle.std.proofs.Common.{◌≡◌, ℕ, ◌+◌, ◌≤◌, inl, inr, List, [], ◌++◌, length, length-append, append_assoc, append-nil, take, Bool, Some, None, Result, Ok, Err, MatchResult, false, refl, sym, ap, ◌∙◌, subst, arith}
use Rattle.std.specs.Result.{is_err}
use Rattle.std.specs.Io.KnownBytes.{Consumes, IsAtEnd}
use Rattle.outside.specs.Causes.{Rose}
use Rattle.outside.specs.Streams.{StillAppends}
use Rattle.outside.specs.declared.link.LinkEnd.TheVariants.{Ended, Closed, Spent}
use Rattle.conn.specs.Cut.{Event}
use Rattle.conn.specs.Stands.{Gives, StandsAt, Stands, next_events, Unfinished, HasCompletion, Settled, limit_of, rest_of}
use Rattle.conn.specs.Stands as stands
use Rattle.conn.specs.Held.{IsOver}
use Rattle.conn.specs.declared.state.State.{State}
use Rattle.conn.specs.declared.state.State.TheVariants as state
use Rattle.conn.specs.declared.connection.Conn.{Conn}
use Rattle.conn.specs.declared.next.Next.{Next}
use Rattle.conn.specs.declared.next.Next.TheVariants as next
use Rattle.wire_http.specs.declared.request.Request.{Request}
use Rattle.turn_hall.specs.declared.view.View.{View}
use Rattle.link_loop.specs.declared.front.Routed.{Routed}
use Rattle.link_loop.specs.declared.front.Said.{Said}
use Rattle.link_loop.specs.declared.sending.Unserved.{Unserved}
use Rattle.link_loop.specs.declared.sending.Unserved.TheVariants as unserved
use Rattle.link_loop.specs.declared.answering.Pause.TheVariants.{Waits, Over}
use Rattle.link_loop.specs.Exchanges.{events_of, texts_of}
use Rattle.link_loop.specs.Served.{Handled, Session, Paused, Broken, Served, TakesNoMore, LinkView, IsFirmEnd, budget, piece}
use Rattle.link_loop.proofs.Lists.{consumes_more, consumes_none}
use Rattle.link_loop.proofs.Handling.{none_handled, more_handled}

-- what an answer says of the events holds with its own events at their end
gives_stands : (limit : ℕ) (n : Next) (s : State) (rest fed : List ℕ) (given : List Event) → Gives limit n s rest fed given → StandsAt limit s rest fed (given ++ next_events n)
gives_stands limit next.Need s rest fed given g = subst (StandsAt limit s rest fed) (sym (append-nil given)) g.0
gives_stands limit next.Continue s rest fed given g = g
gives_stands limit (next.Request r) s rest fed given g = g
gives_stands limit (next.Refused r) s rest fed given g = g
gives_stands limit next.Closed s rest fed given g = subst (StandsAt limit s rest fed) (sym (append-nil given)) g.0

-- a connection that stands for its bytes and of which nothing comes any more has ended
over_ends : (limit : ℕ) (s : State) (rest fed : List ℕ) (given : List Event) → StandsAt limit s rest fed given → IsOver s → stands.Ended limit fed given
over_ends limit state.AtHead rest fed given h o = absurd o
over_ends limit (state.InBody b) rest fed given h o = absurd o
over_ends limit state.Over rest fed given h o = h
over_ends limit state.Shut rest fed given h o = absurd h

fewer : (taken n most : ℕ) → taken ≡ n → taken ≤ most → n ≤ most
fewer taken n most e le = subst (λ k. k ≤ most) e le

-- of a cut of which more events are given, fewer are given too
completes_less : (limit : ℕ) (bytes : List ℕ) (events told rest : List Event) → events ≡ told ++ rest → HasCompletion limit bytes events → HasCompletion limit bytes told
completes_less limit bytes events told rest e h = (rest ++ h.0, subst (Settled limit bytes) (ap (λ l. l ++ h.0) e ∙ append_assoc told rest h.0) h.1)

-- what nothing came to gives nothing
pub completes_none : (limit : ℕ) → Settled limit [] [] → HasCompletion limit [] []
completes_none limit s = ([], s)

pub room_for : (used n most capacity : ℕ) → used + most ≤ capacity → n ≤ most → used + n ≤ capacity
room_for used n most capacity room le = omega arith

pub none_taken : (n : ℕ) (xs : List ℕ) → n ≡ 0 → take n xs ≡ []
none_taken n xs e = subst (λ k. take k xs ≡ []) (sym e) refl

-- nothing was taken behind an end, where nothing was taken
took_nothing : (limit : ℕ) → TakesNoMore limit []
took_nothing limit = record { before = []; last = []; parts = refl; few = omega arith; was_open = inl refl }

-- nor behind bytes that were unfinished, where then a piece was taken
took_piece : (limit : ℕ) (bytes more : List ℕ) (events : List Event) → Unfinished limit bytes events → length more ≤ piece → TakesNoMore limit (bytes ++ more)
took_piece limit bytes more events unfinished few = record { before = bytes; last = more; parts = refl; few = few; was_open = inr (events, unfinished) }

module _ {W E C B K S : Type 0} (question : C → K) (needs : Request → Routed K) (says : B → Bool → Said S) (legal : List E → Type 0) (plays : List E → C → B → List E → Type 0) where
  -- what was answered is as it was, where the writing side is as it was
  handled_at : (es : List Event) (v w : View W E C B) (a b c : LinkView) → c.written ≡ b.written → c.writes ≡ b.writes → Handled question needs says legal plays None es v w a b → Handled question needs says legal plays None es v w a c
  handled_at es v w a b c same count h = record {
    told = h.told;
    rest = h.rest;
    covers = h.covers;
    suits = h.suits;
    calls = h.calls;
    played = h.played;
    onward = h.onward;
    goes = h.goes;
    wrote = (h.wrote.0, subst (λ x. StillAppends a.written x (texts_of needs says h.told)) (sym same) h.wrote.1);
    later = subst (λ x. a.writes ≤ x) (sym count) h.later;
  }

  -- what was answered stays so, where memory runs out behind it
  handled_out_of_memory : (es : List Event) (v w : View W E C B) (a b : LinkView) → Handled question needs says legal plays None es v w a b → Handled question needs says legal plays (Some unserved.NoMemory) es v w a b
  handled_out_of_memory es v w a b h = record {
    told = h.told;
    rest = h.rest;
    covers = h.covers;
    suits = h.suits;
    calls = h.calls;
    played = h.played;
    onward = h.onward;
    goes = h.goes;
    wrote = record { first = h.told; later = []; parts = sym (append-nil h.told); few = omega arith; wrote = h.wrote.1 };
    later = h.later;
  }

  -- a session of which nothing was read
  pub session_none : (conn : Conn) (v : View W E C B) (a : LinkView) → Stands conn [] [] → Session question needs says legal plays conn 0 v v a a
  session_none conn v a stands = record { bytes = []; events = []; count = refl; took = consumes_none a.left; no_more = took_nothing (limit_of conn); stands = stands; handled = none_handled question needs says legal plays v a a refl (omega arith) }

  -- a session goes on with what its connection gives next, once that was answered
  pub session_next : (conn conn' : Conn) (n : Next) (taken : ℕ) (v u w : View W E C B) (a c b : LinkView) → limit_of conn' ≡ limit_of conn → ((fed : List ℕ) (given : List Event) → Stands conn fed given → Gives (limit_of conn') n conn'.state (rest_of conn') fed given) → b.left ≡ c.left
      → Session question needs says legal plays conn taken v u a c → Handled question needs says legal plays None (next_events n) u w c b → Session question needs says legal plays conn' taken v w a b
  session_next conn conn' n taken v u w a c b keeps gives same s h = record {
    bytes = s.bytes;
    events = s.events ++ next_events n;
    count = s.count;
    took = subst (λ l. Consumes a.left l s.bytes) (sym same) s.took;
    no_more = subst (λ k. TakesNoMore k s.bytes) (sym keeps) s.no_more;
    stands = gives_stands (limit_of conn') n conn'.state (rest_of conn') s.bytes s.events (gives s.bytes s.events s.stands);
    handled = more_handled question needs says legal plays None s.events (next_events n) v u w a c b s.handled h;
  }

  -- a session breaks at an event that isn't answered
  pub session_breaks : (why : Unserved S) (conn conn' : Conn) (n : Next) (limit taken : ℕ) (v u w : View W E C B) (a c b : LinkView) → limit_of conn ≡ limit → ((fed : List ℕ) (given : List Event) → Stands conn fed given → Gives (limit_of conn') n conn'.state (rest_of conn') fed given) → b.left ≡ c.left
      → ((fed : List ℕ) (given : List Event) → Stands conn' fed given → HasCompletion limit fed given) → Session question needs says legal plays conn taken v u a c → Handled question needs says legal plays (Some why) (next_events n) u w c b
      → Broken question needs says legal plays why limit taken v w a b
  session_breaks why conn conn' n limit taken v u w a c b is gives same completes s h = record {
    bytes = s.bytes;
    events = s.events ++ next_events n;
    count = s.count;
    took = subst (λ l. Consumes a.left l s.bytes) (sym same) s.took;
    no_more = subst (λ k. TakesNoMore k s.bytes) is s.no_more;
    completes = completes s.bytes (s.events ++ next_events n) (gives_stands (limit_of conn') n conn'.state (rest_of conn') s.bytes s.events (gives s.bytes s.events s.stands));
    handled = more_handled question needs says legal plays (Some why) s.events (next_events n) v u w a c b s.handled h;
  }

  -- a session breaks where memory runs out for what comes next
  pub session_out_of_memory : (conn conn' : Conn) (limit taken : ℕ) (v w : View W E C B) (a b : LinkView) → limit_of conn ≡ limit → ((fed : List ℕ) (given : List Event) → Stands conn fed given → Stands conn' fed given)
      → ((fed : List ℕ) (given : List Event) → Stands conn' fed given → HasCompletion limit fed given) → Session question needs says legal plays conn taken v w a b → Broken question needs says legal plays unserved.NoMemory limit taken v w a b
  session_out_of_memory conn conn' limit taken v w a b is stays completes s = record {
    bytes = s.bytes;
    events = s.events;
    count = s.count;
    took = s.took;
    no_more = subst (λ k. TakesNoMore k s.bytes) is s.no_more;
    completes = completes s.bytes s.events (stays s.bytes s.events s.stands);
    handled = handled_out_of_memory s.events v w a b s.handled;
  }

  -- a session that waits goes on with a piece that was read and fed
  pub session_fed : (conn conn' : Conn) (more : List ℕ) (taken count : ℕ) (v w : View W E C B) (a b c : LinkView) → limit_of conn' ≡ limit_of conn → ((fed : List ℕ) (given : List Event) → Stands conn fed given → Stands conn' (fed ++ more) given) → Consumes b.left c.left more → c.written ≡ b.written → c.writes ≡ b.writes
      → count ≡ length more → count ≤ piece → Paused question needs says legal plays Waits conn taken v w a b → Session question needs says legal plays conn' (taken + count) v w a c
  session_fed conn conn' more taken count v w a b c keeps feeds took same writes counted few p = let s = p.session in record {
    bytes = s.bytes ++ more;
    events = s.events;
    count = (λ i. s.count i + counted i) ∙ sym (length-append s.bytes more);
    took = consumes_more a.left b.left c.left s.bytes more s.took took;
    no_more = subst (λ k. TakesNoMore k (s.bytes ++ more)) (sym keeps) (took_piece (limit_of conn) s.bytes more s.events p.says_so (subst (λ k. k ≤ piece) counted few));
    stands = feeds s.bytes s.events s.stands;
    handled = handled_at s.events v w a b c same writes s.handled;
  }

  -- a session pauses where the answer is Need, or Closed
  pub session_waits : (conn conn' : Conn) (taken : ℕ) (v w : View W E C B) (a b : LinkView) → limit_of conn' ≡ limit_of conn → ((fed : List ℕ) (given : List Event) → Stands conn fed given → Gives (limit_of conn') next.Need conn'.state (rest_of conn') fed given)
      → Session question needs says legal plays conn taken v w a b → Paused question needs says legal plays Waits conn' taken v w a b
  session_waits conn conn' taken v w a b keeps gives s = let h = gives s.bytes s.events s.stands in record {
    session = record { bytes = s.bytes; events = s.events; count = s.count; took = s.took; no_more = subst (λ k. TakesNoMore k s.bytes) (sym keeps) s.no_more; stands = h.0; handled = s.handled };
    says_so = h.1;
  }

  pub session_over : (conn conn' : Conn) (taken : ℕ) (v w : View W E C B) (a b : LinkView) → limit_of conn' ≡ limit_of conn → ((fed : List ℕ) (given : List Event) → Stands conn fed given → Gives (limit_of conn') next.Closed conn'.state (rest_of conn') fed given)
      → Session question needs says legal plays conn taken v w a b → Paused question needs says legal plays Over conn' taken v w a b
  session_over conn conn' taken v w a b keeps gives s = let h = gives s.bytes s.events s.stands in record {
    session = record { bytes = s.bytes; events = s.events; count = s.count; took = s.took; no_more = subst (λ k. TakesNoMore k s.bytes) (sym keeps) s.no_more; stands = h.0; handled = s.handled };
    says_so = over_ends (limit_of conn') conn'.state (rest_of conn') s.bytes s.events h.0 h.1;
  }

  -- all events were answered
  all_told : (es : List Event) (v w : View W E C B) (a b : LinkView) → (h : Handled question needs says legal plays None es v w a b) → es ≡ events_of h.told
  all_told es v w a b h = h.covers ∙ ap (λ l. events_of h.told ++ l) h.wrote.0 ∙ append-nil (events_of h.told)

  -- a session ends where nothing comes any more
  pub served_closed : (limit : ℕ) (conn : Conn) (taken : ℕ) (v w : View W E C B) (a b : LinkView) → limit_of conn ≡ limit → taken ≤ budget
      → Paused question needs says legal plays Over conn taken v w a b → Served question needs says legal plays (Ok Closed) limit v w a b
  served_closed limit conn taken v w a b is few p = let s = p.session in let h = s.handled in record {
    bytes = s.bytes;
    within = fewer taken (length s.bytes) budget s.count few;
    took = s.took;
    no_more = subst (λ k. TakesNoMore k s.bytes) is s.no_more;
    told = h.told;
    suits = h.suits;
    calls = h.calls;
    played = h.played;
    onward = h.onward;
    goes = h.goes;
    ends = (subst (λ es. stands.Ended limit s.bytes es) (all_told s.events v w a b h) (subst (λ k. stands.Ended k s.bytes s.events) is p.says_so), h.wrote.1);
  }

  -- where all was taken that is taken
  pub served_spent : (limit : ℕ) (conn : Conn) (taken : ℕ) (v w : View W E C B) (a b : LinkView) → limit_of conn ≡ limit → taken ≡ budget
      → Paused question needs says legal plays Waits conn taken v w a b → Served question needs says legal plays (Ok Spent) limit v w a b
  served_spent limit conn taken v w a b is all p = let s = p.session in let h = s.handled in record {
    bytes = s.bytes;
    within = fewer taken (length s.bytes) budget s.count (omega (arith, all));
    took = s.took;
    no_more = subst (λ k. TakesNoMore k s.bytes) is s.no_more;
    told = h.told;
    suits = h.suits;
    calls = h.calls;
    played = h.played;
    onward = h.onward;
    goes = h.goes;
    ends = (subst (λ es. Unfinished limit s.bytes es) (all_told s.events v w a b h) (subst (λ k. Unfinished k s.bytes s.events) is p.says_so), sym s.count ∙ all, h.wrote.1);
  }

  -- where the link gives its end
  pub served_ended : (limit : ℕ) (conn : Conn) (taken : ℕ) (v w : View W E C B) (a b c : LinkView) (more : List ℕ) → limit_of conn ≡ limit → taken ≤ budget → more ≡ [] → Consumes b.left c.left more → IsAtEnd c.left → c.written ≡ b.written → c.writes ≡ b.writes
      → Paused question needs says legal plays Waits conn taken v w a b → Served question needs says legal plays (Ok Ended) limit v w a c
  served_ended limit conn taken v w a b c more is few nothing none at same writes p = let s = p.session in let h = handled_at s.events v w a b c same writes s.handled in record {
    bytes = s.bytes;
    within = fewer taken (length s.bytes) budget s.count few;
    took = subst (Consumes a.left c.left) (append-nil s.bytes) (consumes_more a.left b.left c.left s.bytes [] s.took (subst (Consumes b.left c.left) nothing none));
    no_more = subst (λ k. TakesNoMore k s.bytes) is s.no_more;
    told = h.told;
    suits = h.suits;
    calls = h.calls;
    played = h.played;
    onward = h.onward;
    goes = h.goes;
    ends = (subst (λ es. Unfinished limit s.bytes es) (all_told s.events v w a c h) (subst (λ k. Unfinished k s.bytes s.events) is p.says_so), at, h.wrote.1);
  }

  -- where a read fails
  pub served_read : (limit : ℕ) (conn : Conn) (taken : ℕ) (v w : View W E C B) (a b c : LinkView) → limit_of conn ≡ limit → taken ≤ budget → Consumes b.left c.left [] → Rose a.reads c.reads → c.written ≡ b.written → c.writes ≡ b.writes
      → Paused question needs says legal plays Waits conn taken v w a b → Served question needs says legal plays (Err unserved.Read) limit v w a c
  served_read limit conn taken v w a b c is few none rose same writes p = let s = p.session in let h = handled_at s.events v w a b c same writes s.handled in record {
    bytes = s.bytes;
    within = fewer taken (length s.bytes) budget s.count few;
    took = subst (Consumes a.left c.left) (append-nil s.bytes) (consumes_more a.left b.left c.left s.bytes [] s.took none);
    no_more = subst (λ k. TakesNoMore k s.bytes) is s.no_more;
    told = h.told;
    suits = h.suits;
    calls = h.calls;
    played = h.played;
    onward = h.onward;
    goes = h.goes;
    ends = (subst (λ es. Unfinished limit s.bytes es) (all_told s.events v w a c h) (subst (λ k. Unfinished k s.bytes s.events) is p.says_so), rose, h.wrote.1);
  }

  -- where it breaks
  pub served_broken : (why : Unserved S) (limit limit' taken : ℕ) (v w : View W E C B) (a b : LinkView) → limit' ≡ limit → taken ≤ budget → Broken question needs says legal plays why limit' taken v w a b → Served question needs says legal plays (Err why) limit v w a b
  served_broken unserved.Read limit limit' taken v w a b is few x = absurd x.handled.wrote
  served_broken unserved.Write limit limit' taken v w a b is few x = let h = x.handled in record {
    bytes = x.bytes;
    within = fewer taken (length x.bytes) budget x.count few;
    took = x.took;
    no_more = subst (λ k. TakesNoMore k x.bytes) is x.no_more;
    told = h.told;
    suits = h.suits;
    calls = h.calls;
    played = h.played;
    onward = h.onward;
    goes = h.goes;
    ends = (completes_less limit x.bytes x.events (events_of h.told) h.rest h.covers (subst (λ k. HasCompletion k x.bytes x.events) is x.completes), h.wrote.1, h.wrote.2);
  }
  served_broken unserved.NoMemory limit limit' taken v w a b is few x = let h = x.handled in record {
    bytes = x.bytes;
    within = fewer taken (length x.bytes) budget x.count few;
    took = x.took;
    no_more = subst (λ k. TakesNoMore k x.bytes) is x.no_more;
    told = h.told;
    suits = h.suits;
    calls = h.calls;
    played = h.played;
    onward = h.onward;
    goes = h.goes;
    ends = (completes_less limit x.bytes x.events (events_of h.told) h.rest h.covers (subst (λ k. HasCompletion k x.bytes x.events) is x.completes), h.wrote);
  }
  served_broken (unserved.Stopped why) limit limit' taken v w a b is few x = let h = x.handled in record {
    bytes = x.bytes;
    within = fewer taken (length x.bytes) budget x.count few;
    took = x.took;
    no_more = subst (λ k. TakesNoMore k x.bytes) is x.no_more;
    told = h.told;
    suits = h.suits;
    calls = h.calls;
    played = h.played;
    onward = h.onward;
    goes = h.goes;
    ends = (completes_less limit x.bytes x.events (events_of h.told) h.rest h.covers (subst (λ k. HasCompletion k x.bytes x.events) is x.completes), h.wrote.1);
  }

  -- a session that isn't begun, since memory ran out
  pub served_nothing : (limit : ℕ) (v : View W E C B) (a : LinkView) → Settled limit [] [] → Served question needs says legal plays (Err unserved.NoMemory) limit v v a a
  served_nothing limit v a s =
      let h = none_handled question needs says legal plays v a a refl (omega arith) in
      served_broken unserved.NoMemory limit limit 0 v v a a refl (omega arith)
      (record { bytes = []; events = []; count = refl; took = consumes_none a.left; no_more = took_nothing limit; completes = completes_none limit s; handled = handled_out_of_memory [] v v a a h })

-- what holds of an answer that isn't an error
pub not_err : {A E : Type 0} (P Q : Type 0) (r : Result A E) → false ≡ is_err r → MatchResult r (λ _. P) (λ _. Q) → P
not_err P Q (Ok x) e m = m
not_err P Q (Err x) e m = absurd cc

-- whether an end is firm is said of what went wrong alone
pub firm_as : (T U : Type 0) {S : Type 0} (why : Unserved S) → IsFirmEnd {T = T} (Err why) → IsFirmEnd {T = U} (Err why)
firm_as T U unserved.Read f = f
firm_as T U unserved.Write f = f
firm_as T U unserved.NoMemory f = f
firm_as T U (unserved.Stopped why) f = f
