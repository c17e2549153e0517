-- The laws of links and of runs.
use Rattle.std.proofs.Common.{◌≡◌, ℕ, ◌==◌, ◌⊎◌, true, List, [], ◌∷◌, ◌++◌, map, refl, sym, ap, ap₂, ◌∙◌, subst, inl, inr, append_assoc, append-nil, arith}
use Rattle.std.specs.List.{flat_map}
use Rattle.std.proofs.lemmas.Bool.{cases_Bool}
use Rattle.std.proofs.lemmas.Bool.Decides.{nat_tests}
use Rattle.std.proofs.lemmas.List.{append_cancel_left}
use Rattle.conn.specs.Cut.{Event}
use Rattle.conn.specs.Stands.{Settled}
use Rattle.conn.specs.Unique.{HasOneOutcome}
use Rattle.links.specs.Run.{Feed, Turn, feed_of, on, bytes_on, events_on, Completes, IsRunBehind}
use Rattle.links.specs.Laws.{HasFreeOrder, IsEachAlone, MayDiffer, HasOneRun, HasFreePieces, RunsFollow}
use Rattle.links.proofs.Runs.{on-append, on-here, on-other, on-on, run_first, run_later, run_both, run_joined}

pub free_order : HasFreeOrder
free_order fed a b xs ys apart link = grind (arith, nat_tests)

-- what a turn of the link completes is told by the turns of that link
completes_alone : (limit link : ℕ) (before : List Turn) (t : Turn) → t.link ≡ link → Completes limit before t → Completes limit (on link before) t
completes_alone limit link before t e h = rw (← e, on-on t.link before) h

completes_among : (limit link : ℕ) (before : List Turn) (t : Turn) → t.link ≡ link → Completes limit (on link before) t → Completes limit before t
completes_among limit link before t e h =
    let k : Completes limit (on t.link before) t = subst (λ l. Completes limit (on l before) t) (sym e) h in
    subst (λ ts. Settled limit (flat_map (λ u. u.bytes) ts ++ t.bytes) (flat_map (λ u. u.events) ts ++ t.events)) (on-on t.link before) k

same_link : (a b : ℕ) → a == b ≡ true → a ≡ b
same_link a b e = grind (arith, nat_tests)

alone_behind : (limit link : ℕ) (before ts : List Turn) → IsRunBehind limit before ts → IsRunBehind limit (on link before) (on link ts)
alone_behind limit link before [] h = tt
alone_behind limit link before (t ∷ ts) h =
    let later : IsRunBehind limit (on link (before ++ t ∷ [])) (on link ts) = alone_behind limit link (before ++ t ∷ []) ts h.1 in
    elim (cases_Bool (t.link == link)) [
      | inl e ↦
          let behind_it : on link (before ++ t ∷ []) ≡ on link before ++ t ∷ [] = on-append link before (t ∷ []) ∙ ap (λ zs. on link before ++ zs) (on-here link t [] e) in
          rw (on-here link t ts e) (completes_alone limit link before t (same_link t.link link e) h.0, subst (λ zs. IsRunBehind limit zs (on link ts)) behind_it later)
      | inr e ↦
          let behind_it : on link (before ++ t ∷ []) ≡ on link before = on-append link before (t ∷ []) ∙ ap (λ zs. on link before ++ zs) (on-other link t [] e) ∙ append-nil (on link before) in
          rw (on-other link t ts e) (subst (λ zs. IsRunBehind limit zs (on link ts)) behind_it later)
    ]

later_alone : (limit link : ℕ) (before : List Turn) (t : Turn) (ts : List Turn) → IsRunBehind limit (on link before) (on link (t ∷ ts))
    → IsRunBehind limit (on link (before ++ t ∷ [])) (on link ts)
later_alone limit link before t ts h =
    elim (cases_Bool (t.link == link)) [
      | inl e ↦
          let behind_it : on link (before ++ t ∷ []) ≡ on link before ++ t ∷ [] = on-append link before (t ∷ []) ∙ ap (λ zs. on link before ++ zs) (on-here link t [] e) in
          let k : IsRunBehind limit (on link before) (t ∷ on link ts) = subst (IsRunBehind limit (on link before)) (on-here link t ts e) h in
          subst (λ zs. IsRunBehind limit zs (on link ts)) (sym behind_it) k.1
      | inr e ↦
          let behind_it : on link (before ++ t ∷ []) ≡ on link before = on-append link before (t ∷ []) ∙ ap (λ zs. on link before ++ zs) (on-other link t [] e) ∙ append-nil (on link before) in
          let k : IsRunBehind limit (on link before) (on link ts) = subst (IsRunBehind limit (on link before)) (on-other link t ts e) h in
          subst (λ zs. IsRunBehind limit zs (on link ts)) (sym behind_it) k
    ]

own_link : (a : ℕ) → a == a ≡ true
own_link a = grind (arith, nat_tests)

among_behind : (limit : ℕ) (before ts : List Turn) → ((link : ℕ) → IsRunBehind limit (on link before) (on link ts)) → IsRunBehind limit before ts
among_behind limit before [] h = tt
among_behind limit before (t ∷ ts) h =
    let k : IsRunBehind limit (on t.link before) (t ∷ on t.link ts) = subst (IsRunBehind limit (on t.link before)) (on-here t.link t ts (own_link t.link)) (h t.link) in
    (completes_among limit t.link before t refl k.0, among_behind limit (before ++ t ∷ []) ts (λ link. later_alone limit link before t ts (h link)))

pub each_alone : IsEachAlone
each_alone limit turns = (λ h link. alone_behind limit link [] turns h, λ h. among_behind limit [] turns h)

turn_of : Feed → List Event → Turn
turn_of f es = record { link = f.link; moment = f.moment; bytes = f.bytes; events = es }

-- turns with equal parts are equal
same_turn : (t u : Turn) → feed_of t ≡ feed_of u → t.events ≡ u.events → t ≡ u
unfolding turn_of
same_turn t u e f = ap₂ turn_of e f

same_completes : (limit : ℕ) (before : List Turn) (t u : Turn) → feed_of t ≡ feed_of u → Completes limit before u
    → Settled limit (bytes_on t.link before ++ t.bytes) (events_on t.link before ++ u.events)
same_completes limit before t u e h =
    let link : t.link ≡ u.link = ap (λ x. x.link) e in
    let bytes : t.bytes ≡ u.bytes = ap (λ x. x.bytes) e in
    rw (link, bytes) h

one_behind : HasOneOutcome → (limit : ℕ) (before xs ys : List Turn) → map feed_of xs ≡ map feed_of ys → IsRunBehind limit before xs → IsRunBehind limit before ys
    → (xs ≡ ys) ⊎ MayDiffer limit (before ++ xs)
one_behind outcome limit before [] [] e h k = inl refl
one_behind outcome limit before [] (u ∷ ys) e h k = cc
one_behind outcome limit before (t ∷ xs) [] e h k = cc
one_behind outcome limit before (t ∷ xs) (u ∷ ys) e h k =
    let head : feed_of t ≡ feed_of u = cc in
    let rest : map feed_of xs ≡ map feed_of ys = cc in
    let k' = same_completes limit before t u head k.0 in
    elim (outcome limit (bytes_on t.link before ++ t.bytes) h.0.cut k'.cut h.0.link k'.link) [
      | inl same ↦
          let events : t.events ≡ u.events = append_cancel_left (events_on t.link before) t.events u.events (h.0.events ∙ same ∙ sym k'.events) in
          let turn : t ≡ u = same_turn t u head events in
          let later : IsRunBehind limit (before ++ t ∷ []) ys = rw turn k.1 in
          elim (one_behind outcome limit (before ++ t ∷ []) xs ys rest h.1 later) [
            | inl more ↦ inl (ap (λ zs. t ∷ zs) more ∙ ap (λ z. z ∷ ys) turn)
            | inr differs ↦ inr (subst (MayDiffer limit) (append_assoc before (t ∷ []) xs) differs)
          ]
      | inr (inl waits) ↦ inr (record { before = before; turn = t; later = xs; parts = refl; cut = h.0.cut; is_cut = h.0.link; waits = waits })
      | inr (inr waits) ↦ inr (record { before = before; turn = t; later = xs; parts = refl; cut = k'.cut; is_cut = k'.link; waits = waits })
    ]

pub one_run : HasOneOutcome → HasOneRun
one_run outcome limit feeds a b h k = one_behind outcome limit [] a b (h.0 ∙ sym k.0) h.1 k.1

pub free_pieces : HasFreePieces
free_pieces limit front a b back e h = run_joined limit front a b back e h

pub runs_follow : RunsFollow
runs_follow limit before first more = (
  λ h. (run_first limit before first more h, run_later limit before first more h),
  λ h. run_both limit before first more h.0 h.1,
)
