-- The turns of a link, and runs behind turns.
use Rattle.std.proofs.Common.{◌≡◌, ◌≢◌, ℕ, ◌==◌, true, false, List, [], ◌∷◌, ◌++◌, refl, sym, ap, ◌∙◌, subst, append_assoc, append-nil, arith, inl, inr}
use Rattle.std.specs.List.{flat_map}
use Rattle.std.proofs.lemmas.Bool.{cases_Bool, cases_eq}
use Rattle.std.proofs.lemmas.Bool.Decides.{nat_tests}
use Rattle.std.proofs.lemmas.Grind.{flat_map-append}
use Rattle.std.proofs.lemmas.List.Elements.{filter-append}
use Rattle.conn.specs.Stands.{Settled}
use Rattle.links.specs.Standing.{behind}
use Rattle.links.proofs.Elements.{behind_same, behind_other}
use Rattle.links.specs.Run.{Turn, on, bytes_on, events_on, Completes, IsRunBehind, IsRun, join}

pub on-append : (link : ℕ) (xs ys : List Turn) → on link (xs ++ ys) ≡ on link xs ++ on link ys
on-append link xs ys = filter-append (λ t. t.link == link) xs ys

pub bytes_on-append : (link : ℕ) (xs ys : List Turn) → bytes_on link (xs ++ ys) ≡ bytes_on link xs ++ bytes_on link ys
bytes_on-append link xs ys = ap (flat_map (λ t. t.bytes)) (on-append link xs ys) ∙ flat_map-append (λ t. t.bytes) (on link xs) (on link ys)

pub events_on-append : (link : ℕ) (xs ys : List Turn) → events_on link (xs ++ ys) ≡ events_on link xs ++ events_on link ys
events_on-append link xs ys = ap (flat_map (λ t. t.events)) (on-append link xs ys) ∙ flat_map-append (λ t. t.events) (on link xs) (on link ys)

-- a turn of the link, and one of another
pub on-here : (link : ℕ) (t : Turn) (ts : List Turn) → t.link == link ≡ true → on link (t ∷ ts) ≡ t ∷ on link ts
on-here link t ts e = rw e

pub on-other : (link : ℕ) (t : Turn) (ts : List Turn) → t.link == link ≡ false → on link (t ∷ ts) ≡ on link ts
on-other link t ts e = rw e

-- the turns of a link among those of that link are all of them
pub on-on : (link : ℕ) (ts : List Turn) → on link (on link ts) ≡ on link ts
on-on link [] = refl
on-on link (t ∷ ts) =
    elim (cases_Bool (t.link == link)) [
      | inl e ↦ rw (on-here link t ts e, on-here link t (on link ts) e, on-on link ts)
      | inr e ↦ rw (on-other link t ts e, on-on link ts)
    ]

-- a run behind turns that gave each link the same
pub same_before : (limit : ℕ) (xs ys ts : List Turn) → ((link : ℕ) → bytes_on link xs ≡ bytes_on link ys) → ((link : ℕ) → events_on link xs ≡ events_on link ys)
    → IsRunBehind limit xs ts → IsRunBehind limit ys ts
same_before limit xs ys [] bytes events h = tt
same_before limit xs ys (t ∷ ts) bytes events h =
    let here : Completes limit ys t = rw (← bytes t.link, ← events t.link) h.0 in
    let bytes' : (link : ℕ) → bytes_on link (xs ++ t ∷ []) ≡ bytes_on link (ys ++ t ∷ []) = λ link.
    bytes_on-append link xs (t ∷ []) ∙ ap (λ zs. zs ++ bytes_on link (t ∷ [])) (bytes link) ∙ sym (bytes_on-append link ys (t ∷ [])) in
    let events' : (link : ℕ) → events_on link (xs ++ t ∷ []) ≡ events_on link (ys ++ t ∷ []) = λ link.
    events_on-append link xs (t ∷ []) ∙ ap (λ zs. zs ++ events_on link (t ∷ [])) (events link) ∙ sym (events_on-append link ys (t ∷ [])) in
    (here, same_before limit (xs ++ t ∷ []) (ys ++ t ∷ []) ts bytes' events' h.1)

-- a run is one of its first turns, and one of the later ones behind them
pub run_first : (limit : ℕ) (before xs ys : List Turn) → IsRunBehind limit before (xs ++ ys) → IsRunBehind limit before xs
run_first limit before [] ys h = tt
run_first limit before (t ∷ xs) ys h = (h.0, run_first limit (before ++ t ∷ []) xs ys h.1)

pub run_later : (limit : ℕ) (before xs ys : List Turn) → IsRunBehind limit before (xs ++ ys) → IsRunBehind limit (before ++ xs) ys
run_later limit before [] ys h = subst (λ zs. IsRunBehind limit zs ys) (sym (append-nil before)) h
run_later limit before (t ∷ xs) ys h =
    subst (λ zs. IsRunBehind limit zs ys) (append_assoc before (t ∷ []) xs) (run_later limit (before ++ t ∷ []) xs ys h.1)

pub run_both : (limit : ℕ) (before xs ys : List Turn) → IsRunBehind limit before xs → IsRunBehind limit (before ++ xs) ys → IsRunBehind limit before (xs ++ ys)
run_both limit before [] ys h k = subst (λ zs. IsRunBehind limit zs ys) (append-nil before) k
run_both limit before (t ∷ xs) ys h k =
    (h.0, run_both limit (before ++ t ∷ []) xs ys h.1 (subst (λ zs. IsRunBehind limit zs ys) (sym (append_assoc before (t ∷ []) xs)) k))

is_link : (a b : ℕ) → a ≡ b → a == b ≡ true
is_link a b e = grind (arith, nat_tests)

not_link : (a b : ℕ) → b ≢ a → a == b ≡ false
not_link a b apart = grind (arith, nat_tests)

pub turn_bytes : (link : ℕ) (t : Turn) → t.link ≡ link → bytes_on link (t ∷ []) ≡ t.bytes
turn_bytes link t e = ap (flat_map (λ u. u.bytes)) (on-here link t [] (is_link t.link link e)) ∙ append-nil t.bytes

pub turn_events : (link : ℕ) (t : Turn) → t.link ≡ link → events_on link (t ∷ []) ≡ t.events
turn_events link t e = ap (flat_map (λ u. u.events)) (on-here link t [] (is_link t.link link e)) ∙ append-nil t.events

-- the bytes of each link with one turn more
pub bytes_behind : (turns : List Turn) (t : Turn) (link : ℕ) → behind (λ l. bytes_on l turns) t.link t.bytes link ≡ bytes_on link (turns ++ t ∷ [])
bytes_behind turns t link =
    elim (cases_eq link t.link) [
      | inl e ↦
          let here : behind (λ l. bytes_on l turns) t.link t.bytes t.link ≡ bytes_on t.link (turns ++ t ∷ []) =
          behind_same (λ l. bytes_on l turns) t.link t.bytes
          ∙ sym (bytes_on-append t.link turns (t ∷ []) ∙ ap (λ zs. bytes_on t.link turns ++ zs) (turn_bytes t.link t refl)) in
          subst (λ k. behind (λ l. bytes_on l turns) t.link t.bytes k ≡ bytes_on k (turns ++ t ∷ [])) (sym e) here
      | inr apart ↦
          behind_other (λ l. bytes_on l turns) t.link link t.bytes apart
          ∙ sym (bytes_on-append link turns (t ∷ [])
          ∙ ap (λ zs. bytes_on link turns ++ zs) (ap (flat_map (λ u. u.bytes)) (on-other link t [] (not_link t.link link apart)))
          ∙ append-nil (bytes_on link turns))
    ]

-- the events of each link with one turn more
pub events_behind : (turns : List Turn) (t : Turn) (link : ℕ) → behind (λ l. events_on l turns) t.link t.events link ≡ events_on link (turns ++ t ∷ [])
events_behind turns t link =
    elim (cases_eq link t.link) [
      | inl e ↦
          let here : behind (λ l. events_on l turns) t.link t.events t.link ≡ events_on t.link (turns ++ t ∷ []) =
          behind_same (λ l. events_on l turns) t.link t.events
          ∙ sym (events_on-append t.link turns (t ∷ []) ∙ ap (λ zs. events_on t.link turns ++ zs) (turn_events t.link t refl)) in
          subst (λ k. behind (λ l. events_on l turns) t.link t.events k ≡ events_on k (turns ++ t ∷ [])) (sym e) here
      | inr apart ↦
          behind_other (λ l. events_on l turns) t.link link t.events apart
          ∙ sym (events_on-append link turns (t ∷ [])
          ∙ ap (λ zs. events_on link turns ++ zs) (ap (flat_map (λ u. u.events)) (on-other link t [] (not_link t.link link apart)))
          ∙ append-nil (events_on link turns))
    ]

-- two turns of one link gave each link what they give as one
bytes_joined : (link : ℕ) (a b : Turn) → a.link ≡ b.link → bytes_on link (a ∷ b ∷ []) ≡ bytes_on link (join a b ∷ [])
bytes_joined link a b e =
    elim (cases_Bool (b.link == link)) [
      | inl here ↦ rw (e, here) (sym (append_assoc a.bytes b.bytes []))
      | inr other ↦ rw (e, other) refl
    ]

events_joined : (link : ℕ) (a b : Turn) → a.link ≡ b.link → events_on link (a ∷ b ∷ []) ≡ events_on link (join a b ∷ [])
events_joined link a b e =
    elim (cases_Bool (b.link == link)) [
      | inl here ↦ rw (e, here) (sym (append_assoc a.events b.events []))
      | inr other ↦ rw (e, other) refl
    ]

-- turns of which the last two are one gave each link the same
pub bytes_last : (front : List Turn) (a b : Turn) (link : ℕ) → a.link ≡ b.link → bytes_on link ((front ++ a ∷ []) ++ b ∷ []) ≡ bytes_on link (front ++ join a b ∷ [])
bytes_last front a b link e =
    ap (bytes_on link) (append_assoc front (a ∷ []) (b ∷ []))
    ∙ bytes_on-append link front (a ∷ b ∷ [])
    ∙ ap (λ zs. bytes_on link front ++ zs) (bytes_joined link a b e)
    ∙ sym (bytes_on-append link front (join a b ∷ []))

pub events_last : (front : List Turn) (a b : Turn) (link : ℕ) → a.link ≡ b.link → events_on link ((front ++ a ∷ []) ++ b ∷ []) ≡ events_on link (front ++ join a b ∷ [])
events_last front a b link e =
    ap (events_on link) (append_assoc front (a ∷ []) (b ∷ []))
    ∙ events_on-append link front (a ∷ b ∷ [])
    ∙ ap (λ zs. events_on link front ++ zs) (events_joined link a b e)
    ∙ sym (events_on-append link front (join a b ∷ []))

pub join_behind : (limit : ℕ) (before : List Turn) (a b : Turn) (back : List Turn) → a.link ≡ b.link → IsRunBehind limit before (a ∷ b ∷ back)
    → IsRunBehind limit before (join a b ∷ back)
join_behind limit before a b back e h =
    let bytes : bytes_on b.link (before ++ a ∷ []) ++ b.bytes ≡ bytes_on a.link before ++ (a.bytes ++ b.bytes) =
    ap (λ zs. zs ++ b.bytes) (bytes_on-append b.link before (a ∷ []) ∙ ap (λ zs. bytes_on b.link before ++ zs) (turn_bytes b.link a e))
    ∙ append_assoc (bytes_on b.link before) a.bytes b.bytes
    ∙ ap (λ l. bytes_on l before ++ (a.bytes ++ b.bytes)) (sym e) in
    let events : events_on b.link (before ++ a ∷ []) ++ b.events ≡ events_on a.link before ++ (a.events ++ b.events) =
    ap (λ zs. zs ++ b.events) (events_on-append b.link before (a ∷ []) ∙ ap (λ zs. events_on b.link before ++ zs) (turn_events b.link a e))
    ∙ append_assoc (events_on b.link before) a.events b.events
    ∙ ap (λ l. events_on l before ++ (a.events ++ b.events)) (sym e) in
    let here : Settled limit (bytes_on a.link before ++ (a.bytes ++ b.bytes)) (events_on a.link before ++ (a.events ++ b.events)) =
    subst (λ es. Settled limit (bytes_on a.link before ++ (a.bytes ++ b.bytes)) es) events
    (subst (λ bs. Settled limit bs (events_on b.link (before ++ a ∷ []) ++ b.events)) bytes h.1.0) in (
      here,
      same_before limit ((before ++ a ∷ []) ++ b ∷ []) (before ++ join a b ∷ []) back (λ link. bytes_last before a b link e) (λ link. events_last before a b link e) h.1.1,
    )

pub run_joined : (limit : ℕ) (front : List Turn) (a b : Turn) (back : List Turn) → a.link ≡ b.link → IsRun limit (front ++ a ∷ b ∷ back) → IsRun limit (front ++ join a b ∷ back)
run_joined limit front a b back e h =
    run_both limit [] front (join a b ∷ back) (run_first limit [] front (a ∷ b ∷ back) h) (join_behind limit front a b back e (run_later limit [] front (a ∷ b ∷ back) h))
