-- A record of which nothing has come.
use Rattle.std.proofs.Common.{ℕ, List, [], ◌∷◌, ◌++◌, sym, ◌∙◌, subst, append_assoc, append-nil, inl, inr}
use Rattle.std.proofs.lemmas.Bool.{cases_eq}
use Rattle.conn.specs.Stands.{Settled}
use Rattle.links.specs.Run.{Turn, bytes_on, events_on, Completes, IsRunBehind}
use Rattle.links.specs.Laws.{BeginsEmpty}
use Rattle.links.proofs.Runs.{bytes_behind, events_behind, run_both}
use Rattle.links.proofs.Standing.{same_stands, behind_none}
use Rattle.links.proofs.Elements.{behind_same, behind_other}

-- behind a run all was given that each link's bytes give
settled_behind : (limit : ℕ) (before ts : List Turn) (link : ℕ) → IsRunBehind limit before ts → Settled limit (bytes_on link before) (events_on link before)
    → Settled limit (bytes_on link (before ++ ts)) (events_on link (before ++ ts))
settled_behind limit before [] link h s = rw append-nil s
settled_behind limit before (t ∷ ts) link h s =
    let here : Settled limit (bytes_on link (before ++ t ∷ [])) (events_on link (before ++ t ∷ [])) = one_more limit before t link h.0 s in
    subst (λ zs. Settled limit (bytes_on link zs) (events_on link zs)) (append_assoc before (t ∷ []) ts) (settled_behind limit (before ++ t ∷ []) ts link h.1 here)
  where
    one_more : (limit : ℕ) (before : List Turn) (t : Turn) (link : ℕ) → Completes limit before t → Settled limit (bytes_on link before) (events_on link before)
        → Settled limit (bytes_on link (before ++ t ∷ [])) (events_on link (before ++ t ∷ []))
    one_more limit before t link c s =
        rw (← bytes_behind before t link, ← events_behind before t link)
        (elim (cases_eq link t.link) [
          | inl e ↦ rw (e, behind_same (λ l. bytes_on l before) t.link t.bytes, behind_same (λ l. events_on l before) t.link t.events) c
          | inr apart ↦ rw (behind_other (λ l. bytes_on l before) t.link link t.bytes apart, behind_other (λ l. events_on l before) t.link link t.events apart) s
        ])

pub begins_empty : ((limit : ℕ) → Settled limit [] []) → BeginsEmpty
begins_empty nothing links limit turns link moment h =
    let t : Turn = record { link = link; moment = moment; bytes = []; events = [] } in
    let settled = settled_behind limit [] turns link h.1 (nothing limit) in
    let now : Settled limit (bytes_on link turns ++ []) (events_on link turns ++ []) = rw (append-nil (bytes_on link turns), append-nil (events_on link turns)) settled in (
      same_stands links.conns.items limit _ _ _ _
          (λ l. sym (behind_none (λ k. bytes_on k turns) link l) ∙ bytes_behind turns t l)
          (λ l. sym (behind_none (λ k. events_on k turns) link l) ∙ events_behind turns t l) h.0,
      run_both limit [] turns (t ∷ []) h.1 (now, tt),
    )
