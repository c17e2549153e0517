-- The mounts of rows.
use Rattle.std.proofs.Common.{◌≡◌, ℕ, ◌==◌, true, false, List, refl, subst}
use Rattle.std.specs.Prelude.{if◌then◌else◌, Option, Some, None, slice_get}
use Rattle.cta_model.specs.declared.asks.Ask.{Ask}
use Rattle.cta_model.specs.declared.asks.Item.{Item}
use Rattle.drive_session.specs.declared.reports.Call.TheVariants as call
use Rattle.drive_session.specs.declared.reports.Done.{Done}
use Rattle.drive_session.specs.declared.reports.Done.TheVariants as done
use Rattle.drive_session.specs.declared.states.State.{State}
use Rattle.drive_session.specs.declared.states.State.TheVariants as state
use Rattle.drive_session.specs.Table.{Free, Held, HeldMount, Leaving, Phase, Reading, Ready, Row, Writing, flush_row, free_row, held_row, leaving_row, only_at, phase_of, read_row, reading_row, ready_row, row_of, write_row, writing_row}
use Rattle.archive_turns.specs.Topics.{mount_asked}
use Rattle.drive_turns.specs.Seats.{state_mount}

-- the mount of a phase, if it has one
abbrev pub phase_mount : Phase → Option ℕ
phase_mount Free = None
phase_mount (Held x) = Some x.mount
phase_mount (Ready x) = Some x.mount
phase_mount (Writing x items at) = Some x.mount
phase_mount (Reading x items at) = Some x.mount
phase_mount (Leaving x) = Some x.mount

-- the mount of what is asked, if it has one
abbrev pub asked_in : Option Ask → Option ℕ
asked_in None = None
asked_in (Some a) = mount_asked a

-- no mount is named, or this one
abbrev pub IsFrom : Option ℕ → Option ℕ → Type 0
IsFrom None p = Unit {0}
IsFrom (Some m) p = p ≡ Some m

abbrev IsRowFrom : Option ℕ → Option Row → Type 0
IsRowFrom p None = Unit {0}
IsRowFrom p (Some r) = IsFrom (asked_in r.ask) p × IsFrom (phase_mount r.phase) p

only_from : (p : Option ℕ) (n s : ℕ) (r : Option Row) → IsRowFrom p r → IsRowFrom p (only_at n s r)
only_from p n s r is = elim (s == n) as (λ b. IsRowFrom p (if b then r else None)) [ true ↦ is | false ↦ tt ]

free_from : (d : ℕ) (e : Option Done) → IsRowFrom None (free_row d e)
free_from d None = (tt, tt)
free_from d (Some x) = tt

held_from : (x : HeldMount) (e : Option Done) → IsRowFrom (Some x.mount) (held_row x e)
held_from x (Some (done.Ok call.Load)) = (tt, refl)
held_from x (Some (done.Fault call.Load)) = (refl, tt)
held_from x _ = tt

ready_from : (x : HeldMount) (e : Option Done) → IsRowFrom (Some x.mount) (ready_row x e)
ready_from x None = (refl, refl)
ready_from x (Some y) = tt

write_from : (x : HeldMount) (items : List Item) (at : ℕ) (i : Item) (e : Option Done) → IsRowFrom (Some x.mount) (write_row x items at i e)
write_from x items at i (Some (done.Ok (call.Write s))) = only_from (Some x.mount) i.fseq s _ (tt, refl)
write_from x items at i (Some (done.Fault (call.Write s))) = only_from (Some x.mount) i.fseq s _ (refl, refl)
write_from x items at i (Some (done.NoMemory (call.Write s))) = only_from (Some x.mount) i.fseq s _ (tt, refl)
write_from x items at i None = only_from (Some x.mount) 0 at _ (tt, refl)
write_from x items at i _ = tt

flush_from : (x : HeldMount) (items : List Item) (e : Option Done) → IsRowFrom (Some x.mount) (flush_row x items e)
flush_from x items (Some (done.Ok call.Flush)) = (refl, refl)
flush_from x items (Some (done.Fault call.Flush)) = (refl, refl)
flush_from x items _ = tt

writing_from : (x : HeldMount) (items : List Item) (at : ℕ) (o : Option Item) (e : Option Done) → IsRowFrom (Some x.mount) (writing_row x items at o e)
writing_from x items at None e = flush_from x items e
writing_from x items at (Some i) e = write_from x items at i e

read_from : (x : HeldMount) (items : List Item) (at : ℕ) (i : Item) (e : Option Done) → IsRowFrom (Some x.mount) (read_row x items at i e)
read_from x items at i (Some (done.Ok (call.Read s))) = only_from (Some x.mount) i.fseq s _ (refl, refl)
read_from x items at i (Some (done.Fault (call.Read s))) = only_from (Some x.mount) i.fseq s _ (refl, refl)
read_from x items at i (Some (done.Mismatch found wanted)) = (refl, refl)
read_from x items at i (Some (done.NoMemory (call.Read s))) = only_from (Some x.mount) i.fseq s _ (tt, refl)
read_from x items at i None = (tt, refl)
read_from x items at i _ = tt

reading_from : (x : HeldMount) (items : List Item) (at : ℕ) (o : Option Item) (e : Option Done) → IsRowFrom (Some x.mount) (reading_row x items at o e)
reading_from x items at None None = (refl, refl)
reading_from x items at None (Some y) = tt
reading_from x items at (Some i) e = read_from x items at i e

leaving_from : (x : HeldMount) (e : Option Done) → IsRowFrom (Some x.mount) (leaving_row x e)
leaving_from x (Some (done.Ok call.Unload)) = (refl, tt)
leaving_from x (Some (done.Fault call.Unload)) = (refl, tt)
leaving_from x _ = tt

rows_from : (d : ℕ) (p : Phase) (e : Option Done) → IsRowFrom (phase_mount p) (row_of d p e)
rows_from d Free e = free_from d e
rows_from d (Held x) e = held_from x e
rows_from d (Ready x) e = ready_from x e
rows_from d (Writing x items at) e = writing_from x items at (slice_get items at) e
rows_from d (Reading x items at) e = reading_from x items at (slice_get items at) e
rows_from d (Leaving x) e = leaving_from x e

-- the mount of a state is that of its phase
pub phase_state : {M : Type 0} (s : State M) → phase_mount (phase_of s) ≡ state_mount s
phase_state state.Free = refl
phase_state (state.Held x) = refl
phase_state (state.Ready x) = refl
phase_state (state.Claimed x items blobs) = refl
phase_state (state.Writing x b) = refl
phase_state (state.Reading x items at) = refl
phase_state (state.Leaving x) = refl

-- a row of a state is about the state's mount, and the phase behind it has that mount or none
pub row_from : {M : Type 0} (d : ℕ) (s : State M) (e : Option Done) (r : Row) → row_of d (phase_of s) e ≡ Some r → IsFrom (asked_in r.ask) (state_mount s) × IsFrom (phase_mount r.phase) (state_mount s)
row_from d s e r is = subst (λ p. IsRowFrom p (Some r)) (phase_state s) (subst (IsRowFrom (phase_mount (phase_of s))) is (rows_from d (phase_of s) e))
