-- Which rows of the table begin and end in Free.
use Rattle.std.proofs.Common.{◌≡◌, ℕ, ◌==◌, true, false, List, refl, subst}
use Rattle.std.specs.Prelude.{Option, Some, None, if◌then◌else◌, slice_get}
use Rattle.cta_model.specs.declared.asks.Ask.{Ask}
use Rattle.cta_model.specs.declared.asks.Ask.TheVariants as ask
use Rattle.cta_model.specs.declared.asks.Item.{Item}
use Rattle.drive_session.specs.declared.reports.Call.TheVariants as call
use Rattle.drive_session.specs.declared.reports.Done.{Done}
use Rattle.drive_session.specs.declared.reports.Done.TheVariants as done
use Rattle.drive_session.specs.Table.{Free, Held, HeldMount, Leaving, Phase, Reading, Ready, Row, Writing, flush_row, free_row, held_row, leaving_row, only_at, read_row, reading_row, ready_row, row_of, write_row, writing_row}

-- a Next is asked in Free alone, and what asks nothing leads to no Free
abbrev MayBeFree : Phase → Option Ask → Phase → Type 0
MayBeFree Free o q = Unit {0}
MayBeFree p (Some (ask.Next n)) q = ⊥
MayBeFree p None Free = ⊥
MayBeFree p _ q = Unit {0}

abbrev IsFreeRow : Phase → Option Row → Type 0
IsFreeRow p None = Unit {0}
IsFreeRow p (Some r) = MayBeFree p r.ask r.phase

only_free : (p : Phase) (n s : ℕ) (r : Option Row) → IsFreeRow p r → IsFreeRow p (only_at n s r)
only_free p n s r is = elim (s == n) as (λ b. IsFreeRow p (if b then r else None)) [ true ↦ is | false ↦ tt ]

free_free : (d : ℕ) (e : Option Done) → IsFreeRow Free (free_row d e)
free_free d None = tt
free_free d (Some x) = tt

held_free : (x : HeldMount) (e : Option Done) → IsFreeRow (Held x) (held_row x e)
held_free x (Some (done.Ok call.Load)) = tt
held_free x (Some (done.Fault call.Load)) = tt
held_free x _ = tt

ready_free : (p : Phase) (x : HeldMount) (e : Option Done) → IsFreeRow (Ready x) (ready_row x e)
ready_free p x None = tt
ready_free p x (Some y) = tt

write_free : (x : HeldMount) (items : List Item) (at : ℕ) (i : Item) (e : Option Done) → IsFreeRow (Writing x items at) (write_row x items at i e)
write_free x items at i (Some (done.Ok (call.Write s))) = only_free (Writing x items at) i.fseq s _ tt
write_free x items at i (Some (done.Fault (call.Write s))) = only_free (Writing x items at) i.fseq s _ tt
write_free x items at i (Some (done.NoMemory (call.Write s))) = only_free (Writing x items at) i.fseq s _ tt
write_free x items at i None = only_free (Writing x items at) 0 at _ tt
write_free x items at i _ = tt

flush_free : (x : HeldMount) (items : List Item) (at : ℕ) (e : Option Done) → IsFreeRow (Writing x items at) (flush_row x items e)
flush_free x items at (Some (done.Ok call.Flush)) = tt
flush_free x items at (Some (done.Fault call.Flush)) = tt
flush_free x items at _ = tt

writing_free : (x : HeldMount) (items : List Item) (at : ℕ) (o : Option Item) (e : Option Done) → IsFreeRow (Writing x items at) (writing_row x items at o e)
writing_free x items at None e = flush_free x items at e
writing_free x items at (Some i) e = write_free x items at i e

read_free : (x : HeldMount) (items : List Item) (at : ℕ) (i : Item) (e : Option Done) → IsFreeRow (Reading x items at) (read_row x items at i e)
read_free x items at i (Some (done.Ok (call.Read s))) = only_free (Reading x items at) i.fseq s _ tt
read_free x items at i (Some (done.Fault (call.Read s))) = only_free (Reading x items at) i.fseq s _ tt
read_free x items at i (Some (done.Mismatch found wanted)) = tt
read_free x items at i (Some (done.NoMemory (call.Read s))) = only_free (Reading x items at) i.fseq s _ tt
read_free x items at i None = tt
read_free x items at i _ = tt

reading_free : (x : HeldMount) (items : List Item) (at : ℕ) (o : Option Item) (e : Option Done) → IsFreeRow (Reading x items at) (reading_row x items at o e)
reading_free x items at None None = tt
reading_free x items at None (Some y) = tt
reading_free x items at (Some i) e = read_free x items at i e

leaving_free : (x : HeldMount) (e : Option Done) → IsFreeRow (Leaving x) (leaving_row x e)
leaving_free x (Some (done.Ok call.Unload)) = tt
leaving_free x (Some (done.Fault call.Unload)) = tt
leaving_free x _ = tt

rows_free : (d : ℕ) (p : Phase) (e : Option Done) → IsFreeRow p (row_of d p e)
rows_free d Free e = free_free d e
rows_free d (Held x) e = held_free x e
rows_free d (Ready x) e = ready_free Free x e
rows_free d (Writing x items at) e = writing_free x items at (slice_get items at) e
rows_free d (Reading x items at) e = reading_free x items at (slice_get items at) e
rows_free d (Leaving x) e = leaving_free x e

nexts : (p : Phase) (n : ℕ) (q : Phase) → MayBeFree p (Some (ask.Next n)) q → p ≡ Free
nexts Free n q is = refl
nexts (Held x) n q is = absurd is
nexts (Ready x) n q is = absurd is
nexts (Writing x items at) n q is = absurd is
nexts (Reading x items at) n q is = absurd is
nexts (Leaving x) n q is = absurd is

quiets : (p q : Phase) → MayBeFree p None q → q ≡ Free → p ≡ Free
quiets Free q is free = refl
quiets (Held x) q is free = absurd (subst (MayBeFree (Held x) None) free is)
quiets (Ready x) q is free = absurd (subst (MayBeFree (Ready x) None) free is)
quiets (Writing x items at) q is free = absurd (subst (MayBeFree (Writing x items at) None) free is)
quiets (Reading x items at) q is free = absurd (subst (MayBeFree (Reading x items at) None) free is)
quiets (Leaving x) q is free = absurd (subst (MayBeFree (Leaving x) None) free is)

-- a row that asks a Next begins in Free
pub next_from_free : (d : ℕ) (p : Phase) (e : Option Done) (r : Row) (n : ℕ) → row_of d p e ≡ Some r → r.ask ≡ Some (ask.Next n) → p ≡ Free
next_from_free d p e r n is asked = nexts p n r.phase (subst (λ o. MayBeFree p o r.phase) asked (subst (IsFreeRow p) is (rows_free d p e)))

-- a row that asks nothing and leads to Free begins in Free
pub quiet_from_free : (d : ℕ) (p : Phase) (e : Option Done) (r : Row) → row_of d p e ≡ Some r → r.ask ≡ None → r.phase ≡ Free → p ≡ Free
quiet_from_free d p e r is quiet free = quiets p r.phase (subst (λ o. MayBeFree p o r.phase) quiet (subst (IsFreeRow p) is (rows_free d p e))) free
