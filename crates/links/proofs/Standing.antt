-- What the links stand for when one of them was called.
use Rattle.std.proofs.Common.{◌≡◌, ◌≢◌, ℕ, ◌<◌, ◌≤◌, arith, List, [], ◌++◌, length, sym, ap, ◌∙◌, subst, inl, inr, append-nil, append_assoc, refl, ◌∷◌}
use Rattle.std.specs.Prelude.{Option, Some, Result, Ok, Err, IfOk, OnOk, slice_get, slice_set}
use Rattle.std.proofs.lemmas.Bool.{cases_eq}
use Rattle.std.proofs.lemmas.Grind.{flat_map-append}
use Rattle.std.proofs.lemmas.Option.{same_Some}
use Rattle.conn.specs.Cut.{Event}
use Rattle.conn.specs.Held.{IsOver}
use Rattle.conn.specs.Stands.{StandsAt, Ended, Unfinished, Settled, limit_of, rest_of, next_events, UnlessLast, HasCompletion, HasRoom, left, given_by, GivesNext}
use Rattle.conn.specs.declared.connection.Conn.{Conn}
use Rattle.conn.specs.declared.state.State.{State}
use Rattle.conn.specs.declared.state.State.TheVariants as state
use Rattle.conn.specs.declared.next.Next.{Next}
use Rattle.conn.specs.declared.next.Next.TheVariants as next
use Rattle.links.specs.Standing.{behind, ConnStands, EachStands, Says, GivesOn, IsRoomy, GoesOn, GoesOnJoined, left_of}
use Rattle.links.specs.Run.{Turn, bytes_on, events_on, IsRun, join}
use Rattle.links.proofs.Runs.{bytes_last, events_last, run_both, run_joined}
use Rattle.links.proofs.Elements.{behind_same, behind_other, got_same, got_other}

-- one connection was put in place of another, and stands for its own
pub stand_after : (conns : List Conn) (at : ℕ) (new : Conn) (limit : ℕ) (fed fed' : ℕ → List ℕ) (given given' : ℕ → List Event) → at < length conns
    → EachStands conns limit fed given → ConnStands limit new (fed' at) (given' at)
    → ((other : ℕ) → other ≢ at → (fed' other ≡ fed other) × (given' other ≡ given other))
    → EachStands (slice_set conns at new) limit fed' given'
stand_after conns at new limit fed fed' given given' within stand here others link conn is =
    elim (cases_eq link at) [
      | inl e ↦
          let at_link : slice_get (slice_set conns at new) link ≡ Some new = ap (slice_get (slice_set conns at new)) e ∙ got_same conns at new within in
          let same : new ≡ conn = same_Some new conn (sym at_link ∙ is) in
          rw (e, ← same) here
      | inr apart ↦
          let old : ConnStands limit conn (fed link) (given link) = stand link conn (sym (got_other conns at link new apart) ∙ is) in
          let e = others link apart in
          rw (e.0, e.1) old
    ]

-- a piece was fed to one of them
pub fed_after : (conns : List Conn) (at : ℕ) (new : Conn) (limit : ℕ) (fed : ℕ → List ℕ) (given : ℕ → List Event) (piece : List ℕ) → at < length conns
    → EachStands conns limit fed given → ConnStands limit new (fed at ++ piece) (given at) → EachStands (slice_set conns at new) limit (behind fed at piece) given
fed_after conns at new limit fed given piece within stand here =
    stand_after conns at new limit fed (behind fed at piece) given given within stand (rw behind_same here) (λ other apart. (behind_other fed at other piece apart, refl))

-- one of them gave more
pub given_after : (conns : List Conn) (at : ℕ) (new : Conn) (limit : ℕ) (fed : ℕ → List ℕ) (given : ℕ → List Event) (more : List Event) → at < length conns
    → EachStands conns limit fed given → ConnStands limit new (fed at) (given at ++ more) → EachStands (slice_set conns at new) limit fed (behind given at more)
given_after conns at new limit fed given more within stand here =
    stand_after conns at new limit fed fed given (behind given at more) within stand (rw behind_same here) (λ other apart. (refl, behind_other given at other more apart))

-- one of them is another, and nothing else changed
pub same_after : (conns : List Conn) (at : ℕ) (new : Conn) (limit : ℕ) (fed : ℕ → List ℕ) (given : ℕ → List Event) → at < length conns
    → EachStands conns limit fed given → ConnStands limit new (fed at) (given at) → EachStands (slice_set conns at new) limit fed given
same_after conns at new limit fed given within stand here = stand_after conns at new limit fed fed given given within stand here (λ other apart. (refl, refl))

-- a connection that is over gave all that its bytes give
over_ended : (limit : ℕ) (s : State) (rest fed : List ℕ) (given : List Event) → StandsAt limit s rest fed given → IsOver s → Ended limit fed given
over_ended limit state.AtHead rest fed given h over = absurd over
over_ended limit (state.InBody b) rest fed given h over = absurd over
over_ended limit state.Over rest fed given h over = h
over_ended limit state.Shut rest fed given h over = absurd h

-- what a connection answers is the answer of its link
pub next_stands : (conn : Conn) (limit : ℕ) (n : Next) (fed : List ℕ) (given : List Event) → limit_of conn ≡ limit
    → GivesNext {E = Unit {0}} conn (Ok n) fed given → ConnStands limit conn fed (given ++ next_events n) × Says n limit fed given
next_stands conn limit next.Need fed given e h = (record { limit_is = e; stands = rw append-nil h.0 }, rw (← e) h.1)
next_stands conn limit next.Continue fed given e h = (record { limit_is = e; stands = h }, tt)
next_stands conn limit (next.Request r) fed given e h = (record { limit_is = e; stands = h }, tt)
next_stands conn limit (next.Refused r) fed given e h = (record { limit_is = e; stands = h }, tt)
next_stands conn limit next.Closed fed given e h =
    (record { limit_is = e; stands = rw append-nil h.0 }, rw (← e) (over_ended conn.limit conn.state (rest_of conn) fed given h.0 h.1))

-- the answer of one of them is that of its link
pub answers_after : {E : Type 0} (conns : List Conn) (at : ℕ) (new : Conn) (limit : ℕ) (r : Result Next E) (fed : ℕ → List ℕ) (given : ℕ → List Event) → at < length conns
    → EachStands conns limit fed given → limit_of new ≡ limit → GivesNext new r (fed at) (given at) → GivesOn (slice_set conns at new) limit at r fed given
answers_after conns at new limit (Ok n) fed given within stand e h =
    let now = next_stands new limit n (fed at) (given at) e h in
    (given_after conns at new limit fed given (next_events n) within stand now.0, now.1)
answers_after conns at new limit (Err x) fed given within stand e h = same_after conns at new limit fed given within stand (record { limit_is = e; stands = h })

-- less is left to do on a link where less is left on its connection
pub left_less : {E : Type 0} (r : Result Next E) (old new : Option Conn) (before after : Conn) → old ≡ Some before → new ≡ Some after
    → IfOk r (λ n. UnlessLast n (left after < left before)) → IfOk r (λ n. UnlessLast n (left_of new < left_of old))
left_less r old new before after is is' less = rw (is, is') less

-- room on a link is room of its connection
pub roomy : (slot : Option Conn) (conn : Conn) (more : ℕ) → slot ≡ Some conn → IsRoomy slot more → HasRoom conn more
roomy slot conn more is room = rw is at room

pub roomy_after : {T E : Type 0} (r : Result T E) (slot : Option Conn) (conn : Conn) (more : ℕ) → slot ≡ Some conn → OnOk r (HasRoom conn more)
    → OnOk r ((less : ℕ) → less ≤ more → IsRoomy slot less)
roomy_after (Ok x) slot conn more is room = λ less few. let fits : HasRoom conn less = omega (arith, room, few) in rw is fits
roomy_after (Err e) slot conn more is room = tt

-- lists for each link that are the same
pub same_stands : (conns : List Conn) (limit : ℕ) (fed fed' : ℕ → List ℕ) (given given' : ℕ → List Event) → ((link : ℕ) → fed link ≡ fed' link)
    → ((link : ℕ) → given link ≡ given' link) → EachStands conns limit fed given → EachStands conns limit fed' given'
same_stands conns limit fed fed' given given' e f stand link conn is = rw (← e link, ← f link) (stand link conn is)

-- one more answer of those that were given
behind_more : (given : ℕ → List Event) (at : ℕ) (answers : List Next) (n : Next) (link : ℕ)
    → behind (behind given at (given_by answers)) at (next_events n) link ≡ behind given at (given_by (answers ++ n ∷ [])) link
behind_more given at answers n link =
    let more : given_by (answers ++ n ∷ []) ≡ given_by answers ++ next_events n = flat_map-append next_events answers (n ∷ []) ∙ ap (λ es. given_by answers ++ es) (append-nil (next_events n)) in
    elim (cases_eq link at) [
      | inl e ↦
          let here : behind (behind given at (given_by answers)) at (next_events n) at ≡ behind given at (given_by (answers ++ n ∷ [])) at =
          behind_same (behind given at (given_by answers)) at (next_events n) ∙ ap (λ es. es ++ next_events n) (behind_same given at (given_by answers))
          ∙ append_assoc (given at) (given_by answers) (next_events n) ∙ ap (λ es. given at ++ es) (sym more) ∙ sym (behind_same given at (given_by (answers ++ n ∷ []))) in
          subst (λ k. behind (behind given at (given_by answers)) at (next_events n) k ≡ behind given at (given_by (answers ++ n ∷ [])) k) (sym e) here
      | inr apart ↦
          behind_other (behind given at (given_by answers)) at link (next_events n) apart ∙ behind_other given at link (given_by answers) apart
          ∙ sym (behind_other given at link (given_by (answers ++ n ∷ [])) apart)
    ]

pub given_more : (conns : List Conn) (limit : ℕ) (fed : ℕ → List ℕ) (given : ℕ → List Event) (at : ℕ) (answers : List Next) (n : Next)
    → EachStands conns limit fed (behind (behind given at (given_by answers)) at (next_events n)) → EachStands conns limit fed (behind given at (given_by (answers ++ n ∷ [])))
given_more conns limit fed given at answers n stand =
    same_stands conns limit fed fed (behind (behind given at (given_by answers)) at (next_events n)) (behind given at (given_by (answers ++ n ∷ []))) (λ link. refl)
    (behind_more given at answers n) stand

pub same_given : (conns : List Conn) (limit : ℕ) (fed : ℕ → List ℕ) (given : ℕ → List Event) (at : ℕ) (xs ys : List Next) → ys ≡ xs
    → EachStands conns limit fed (behind given at (given_by xs)) → EachStands conns limit fed (behind given at (given_by ys))
same_given conns limit fed given at xs ys e stand = subst (λ zs. EachStands conns limit fed (behind given at (given_by zs))) (sym e) stand

-- nothing more behind one of the lists
pub behind_none : {A : Type 0} (given : ℕ → List A) (at link : ℕ) → behind given at [] link ≡ given link
behind_none given at link =
    elim (cases_eq link at) [
      | inl e ↦ subst (λ k. behind given at [] k ≡ given k) (sym e) (behind_same given at [] ∙ append-nil (given at))
      | inr apart ↦ behind_other given at link [] apart
    ]

pub none_given : (conns : List Conn) (limit : ℕ) (fed : ℕ → List ℕ) (given : ℕ → List Event) (at : ℕ) → EachStands conns limit fed (behind given at [])
    → EachStands conns limit fed given
none_given conns limit fed given at stand = same_stands conns limit fed fed (behind given at []) given (λ link. refl) (behind_none given at) stand

pub given_none : (conns : List Conn) (limit : ℕ) (fed : ℕ → List ℕ) (given : ℕ → List Event) (at : ℕ) (answers : List Next) → answers ≡ []
    → EachStands conns limit fed given → EachStands conns limit fed (behind given at (given_by answers))
given_none conns limit fed given at answers e stand =
    subst (λ zs. EachStands conns limit fed (behind given at (given_by zs))) (sym e)
    (same_stands conns limit fed fed given (behind given at []) (λ link. refl) (λ link. sym (behind_none given at link)) stand)

-- where all was given that bytes give
pub need_settled : (limit : ℕ) (fed : List ℕ) (given : ℕ → List Event) (at : ℕ) (more : List Event) → Unfinished limit fed (behind given at more at)
    → Settled limit fed (given at ++ more)
need_settled limit fed given at more h = record { cut = h.cut; link = h.link; events = sym (behind_same given at more) ∙ h.events }

pub closed_settled : (limit : ℕ) (fed : List ℕ) (given : ℕ → List Event) (at : ℕ) (more : List Event) → Ended limit fed (behind given at more at)
    → Settled limit fed (given at ++ more)
closed_settled limit fed given at more h = record { cut = h.cut; link = h.link; events = sym (behind_same given at more) ∙ h.events }

-- the last two of the turns as one
pub stand_joined : (conns : List Conn) (limit : ℕ) (turns : List Turn) (a b : Turn) → a.link ≡ b.link
    → EachStands conns limit (λ l. bytes_on l ((turns ++ a ∷ []) ++ b ∷ [])) (λ l. events_on l ((turns ++ a ∷ []) ++ b ∷ [])) × IsRun limit ((turns ++ a ∷ []) ++ b ∷ [])
    → EachStands conns limit (λ l. bytes_on l (turns ++ join a b ∷ [])) (λ l. events_on l (turns ++ join a b ∷ [])) × IsRun limit (turns ++ join a b ∷ [])
stand_joined conns limit turns a b e h = (
  same_stands conns limit _ _ _ _ (λ l. bytes_last turns a b l e) (λ l. events_last turns a b l e) h.0,
  run_joined limit turns a b [] e (subst (IsRun limit) (append_assoc turns (a ∷ []) (b ∷ [])) h.1),
)

-- what was given of a link's bytes, and the further events of a cut of them, are its events
completed : (limit : ℕ) (fed fed' : List ℕ) (given given' some : List Event) → fed' ≡ fed → given' ≡ given ++ some → HasCompletion limit fed' given'
    → (events : List Event) × Settled limit fed (given ++ events)
completed limit fed fed' given given' some e f (more, s) =
    (some ++ more, record { cut = s.cut; link = rw (← e) s.link; events = sym (append_assoc given some more) ∙ ap (λ es. es ++ more) (sym f) ∙ s.events })

-- the bytes of a link were fed, and some of their events were given
pub run_goes_on : (limit : ℕ) (turns : List Turn) (at moment : ℕ) (piece : List ℕ) (some : List Event) → IsRun limit turns
    → HasCompletion limit (behind (λ l. bytes_on l turns) at piece at) (behind (λ l. events_on l turns) at some at) → GoesOn limit turns at moment piece
run_goes_on limit turns at moment piece some run h =
    let bytes : ℕ → List ℕ = λ l. bytes_on l turns in
    let events : ℕ → List Event = λ l. events_on l turns in
    let all = completed limit (bytes at ++ piece) (behind bytes at piece at) (events at) (behind events at some at) some (behind_same bytes at piece) (behind_same events at some) h in
    (all.0, run_both limit [] turns (record { link = at; moment = moment; bytes = piece; events = all.0 } ∷ []) run (all.1, tt))

-- the same behind a turn that was begun
pub joined_goes_on : (limit : ℕ) (turns : List Turn) (begun : Turn) (at : ℕ) (piece : List ℕ) → begun.link ≡ at → GoesOn limit (turns ++ begun ∷ []) at begun.moment piece
    → GoesOnJoined limit turns begun piece
joined_goes_on limit turns begun at piece e (events, run) =
    let t : Turn = record { link = at; moment = begun.moment; bytes = piece; events = events } in
    (events, run_joined limit turns begun t [] e (subst (IsRun limit) (append_assoc turns (begun ∷ []) (t ∷ [])) run))
