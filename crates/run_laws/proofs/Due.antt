-- What a device answers is due to the phase of its session and to its plan, but for what a mismatch has found.
use Rattle.std.proofs.Common.{◌≡◌, ◌≢◌, ◌∙◌, ℕ, List, [], ◌∷◌, Bool, true, false, refl, sym, ap, subst, not, length, arith, inl, inr}
use Rattle.std.specs.Prelude.{Option, Some, None, IsSome, IfSome, option_map, slice_get, ◌&&◌, ◌==◌, if◌then◌else◌}
use Rattle.std.proofs.lemmas.Bool.{cases_Bool, eqb-true}
use Rattle.blob.specs.declared.sum.Sum256.{Sum256}
use Rattle.blob.specs.Records.{MediumView}
use Rattle.blob.specs.Sums.{sum_of}
use Rattle.cta_site.specs.declared.site.CallKind.{CallKind}
use Rattle.cta_site.specs.declared.site.CallKind.TheVariants as kind
use Rattle.cta_model.specs.declared.asks.Item.{Item}
use Rattle.cta_model.specs.Kept.{Kept}
use Rattle.media.specs.declared.drive.DeviceErr.TheVariants as err
use Rattle.media.specs.Drives.{DriveView, HasAnswered, IsAsPlanned, Plan, alters_at, fails_at, plan_after}
use Rattle.media.specs.Reads.{IsReadOf, altered}
use Rattle.drive_session.specs.declared.reports.Call.{Call}
use Rattle.drive_session.specs.declared.reports.Call.TheVariants as call
use Rattle.drive_session.specs.declared.reports.Done.{Done}
use Rattle.drive_session.specs.declared.reports.Done.TheVariants as done
use Rattle.drive_session.specs.declared.reports.StepLine.TheVariants as line
use Rattle.drive_session.specs.Steps.{HasDone, HasGiven, WasRead, kind_of}
use Rattle.drive_session.specs.Table.{Free, Held, HeldMount, Leaving, Phase, Reading, Ready, Row, Writing, flush_row, free_row, held_row, leaving_row, read_row, reading_row, ready_row, row_of, says, write_row, writing_row}
use Rattle.replay.specs.Promises.{item_in}
use Rattle.replay.specs.Steps.{HasCarriedOut}
use Rattle.run_laws.specs.Changed.{is_changed}

-- ---- what is due

-- a sum that says nothing
abbrev nothing : Sum256
nothing = record { len = 0; digest = [] }

-- an answer of which a mismatch tells no sums
abbrev pub heard_alone : Option Done → Option Done
heard_alone (Some (done.Mismatch found wanted)) = Some (done.Mismatch nothing nothing)
heard_alone e = e

abbrev fails : CallKind → Plan → Bool
fails k q = fails_at k q.entries q.made

abbrev answered : Bool → Call → Done
answered true c = done.Fault c
answered false c = done.Ok c

abbrev read_so : Bool → Bool → ℕ → Done
read_so true changed s = done.Fault (call.Read s)
read_so false true s = done.Mismatch nothing nothing
read_so false false s = done.Ok (call.Read s)

abbrev due_writing : Plan → Option Item → Option Done
due_writing q None = Some (answered (fails kind.Flush q) call.Flush)
due_writing q (Some i) = Some (answered (fails kind.Write q) (call.Write i.fseq))

abbrev due_reading : Plan → Option Item → Option Done
due_reading q None = None
due_reading q (Some i) = Some (read_so (fails kind.Read q) (is_changed i q) i.fseq)

-- what a device with this plan answers in this phase, if it is called
abbrev pub due : Phase → Plan → Option Done
due Free q = None
due (Held x) q = Some (answered (fails kind.Load q) call.Load)
due (Ready x) q = None
due (Writing x items at) q = due_writing q (slice_get items at)
due (Reading x items at) q = due_reading q (slice_get items at)
due (Leaving x) q = Some (answered (fails kind.Unload q) call.Unload)

-- the plan behind an answer
abbrev pub plan_then : Option Done → Option Plan → Option Plan
plan_then None p = p
plan_then (Some (done.Ok c)) p = option_map (plan_after (kind_of c) None) p
plan_then (Some (done.Fault c)) p = option_map (plan_after (kind_of c) (Some err.Fault)) p
plan_then (Some (done.Mismatch found wanted)) p = option_map (plan_after kind.Read None) p
plan_then (Some (done.NoMemory c)) p = p

pub plan_is : (old new : DriveView) (e : Option Done) → HasDone old new e → new.plan ≡ plan_then (heard_alone e) old.plan
plan_is old new None a = ap (λ (v : DriveView). v.plan) a
plan_is old new (Some (done.Ok c)) a = a.plan
plan_is old new (Some (done.Fault c)) a = a.plan
plan_is old new (Some (done.Mismatch found wanted)) a = a.1.plan
plan_is old new (Some (done.NoMemory c)) a = ap (λ (v : DriveView). v.plan) a.1

-- a plan that was told is told
pub plan_told : (e : Option Done) (p : Option Plan) → IsSome p → IsSome (plan_then e p)
plan_told e None is = absurd (let no : false ≡ true = is in cc)
plan_told None (Some q) is = refl
plan_told (Some (done.Ok c)) (Some q) is = refl
plan_told (Some (done.Fault c)) (Some q) is = refl
plan_told (Some (done.Mismatch found wanted)) (Some q) is = refl
plan_told (Some (done.NoMemory c)) (Some q) is = refl

-- ---- reads

-- what is heard of the next item is what the plan says of its bytes
abbrev pub IsReadTrue : Option Item → Plan → Option Done → Type 0
IsReadTrue (Some i) q (Some (done.Ok (call.Read s))) = is_changed i q ≡ false
IsReadTrue (Some i) q (Some (done.Mismatch found wanted)) = is_changed i q ≡ true
IsReadTrue o q e = Unit {0}

no_bytes : (xs : List ℕ) → length xs ≡ 0 → xs ≡ []
no_bytes [] e = refl
no_bytes (x ∷ xs) e = absurd (omega arith)

is_empty : (n : ℕ) → not (n == 0) ≡ false → n ≡ 0
is_empty n e = elim (cases_Bool (n == 0)) [ inl hit ↦ eqb-true n 0 hit | inr miss ↦ absurd (let no : true ≡ false = rw miss at e in cc) ]

-- bytes that aren't changed have the item's sum
unchanged : (b : Bool) (sum : Sum256) (bytes : List ℕ) → (b && not (sum.len == 0)) ≡ false → IsReadOf b sum bytes → sum_of bytes ≡ sum
unchanged false sum bytes none is = is
unchanged true sum bytes none is =
    let size : length is.0 ≡ sum.len = ap (λ (s : Sum256). s.len) is.1 in
    let was : is.0 ≡ [] = no_bytes is.0 (size ∙ is_empty sum.len none) in
    ap sum_of (is.2 ∙ ap altered was ∙ sym was) ∙ is.1

not_found : (m : MediumView) (old : DriveView) (i : Item) (q : Plan) (found wanted : Sum256) → old.plan ≡ Some q → IsSome m.records → is_changed i q ≡ false → found ≢ wanted → wanted ≡ i.sum → WasRead m old i found → ⊥
not_found m old i q found wanted plan tells none apart is read =
    let by : IsReadOf (alters_at kind.Read q.entries q.made) i.sum read.0 = subst (λ (o : Option Plan). IfSome o (λ (p : Plan). IsReadOf (alters_at kind.Read p.entries p.made) i.sum read.0)) plan (read.2 tells).planned in
    apart (sym read.1 ∙ unchanged (alters_at kind.Read q.entries q.made) i.sum read.0 none by ∙ sym is)

pub read_true : (m : MediumView) (old new : DriveView) (i : Item) (q : Plan) (e : Option Done) → old.plan ≡ Some q → IsSome m.records → HasDone old new e → HasGiven m old (Some i) e
    → ((n : ℕ) → is_changed i q ≡ true → e ≢ Some (done.Ok (call.Read n))) → IsReadTrue (Some i) q e
read_true m old new i q (Some (done.Ok (call.Read s))) plan tells a given told =
    elim (cases_Bool (is_changed i q)) [ inl hit ↦ absurd (told s hit refl) | inr miss ↦ miss ]
read_true m old new i q (Some (done.Mismatch found wanted)) plan tells a given told =
    elim (cases_Bool (is_changed i q)) [ inl hit ↦ hit | inr miss ↦ absurd (not_found m old i q found wanted plan tells miss a.0 given.0 given.1) ]
read_true m old new i q _ plan tells a given told = tt

-- ---- what is heard is due

module _ (kept : Kept) (moment : ℕ) (old new : DriveView) (q : Plan) (plan : old.plan ≡ Some q) where
  done_well : (k : CallKind) → HasAnswered k old new None → false ≡ fails k q
  done_well k a = sym (subst (λ (o : Option Plan). IfSome o (IsAsPlanned k None)) plan a.planned)

  failed : (k : CallKind) → HasAnswered k old new (Some err.Fault) → true ≡ fails k q
  failed k a = sym (subst (λ (o : Option Plan). IfSome o (IsAsPlanned k (Some err.Fault))) plan a.planned)

  -- a row for one number is that for this number
  only : (b : Bool) (o : Option Row) → HasCarriedOut kept moment (if b then o else None) → b ≡ true
  only true o c = refl
  only false o c = absurd c

  -- a want of memory isn't carried out
  no_memory : (b : Bool) (p : Phase) → HasCarriedOut kept moment (if b then says line.Memory p else None) → ⊥
  no_memory true p c = (let no : true ≡ false = c.told in cc)
  no_memory false p c = c

  due_held : (x : HeldMount) (e : Option Done) → HasDone old new e → HasCarriedOut kept moment (held_row x e) → heard_alone e ≡ due (Held x) q
  due_held x (Some (done.Ok call.Load)) a c = ap (λ b. Some (answered b call.Load)) (done_well kind.Load a)
  due_held x (Some (done.Fault call.Load)) a c = ap (λ b. Some (answered b call.Load)) (failed kind.Load a)
  due_held x _ a c = absurd c

  due_ready : (x : HeldMount) (e : Option Done) → HasCarriedOut kept moment (ready_row x e) → heard_alone e ≡ None
  due_ready x None c = refl
  due_ready x (Some e) c = absurd c

  due_free : (d : ℕ) (e : Option Done) → HasCarriedOut kept moment (free_row d e) → heard_alone e ≡ None
  due_free d None c = refl
  due_free d (Some e) c = absurd c

  due_leaving : (x : HeldMount) (e : Option Done) → HasDone old new e → HasCarriedOut kept moment (leaving_row x e) → heard_alone e ≡ due (Leaving x) q
  due_leaving x (Some (done.Ok call.Unload)) a c = ap (λ b. Some (answered b call.Unload)) (done_well kind.Unload a)
  due_leaving x (Some (done.Fault call.Unload)) a c = ap (λ b. Some (answered b call.Unload)) (failed kind.Unload a)
  due_leaving x _ a c = absurd c

  due_write : (x : HeldMount) (items : List Item) (at : ℕ) (i : Item) (e : Option Done) → HasDone old new e → HasCarriedOut kept moment (write_row x items at i e) → heard_alone e ≡ due_writing q (Some i)
  due_write x items at i (Some (done.Ok (call.Write s))) a c =
      ap (λ n. Some (done.Ok (call.Write n))) (eqb-true s i.fseq (only (s == i.fseq) _ c)) ∙ ap (λ b. Some (answered b (call.Write i.fseq))) (done_well kind.Write a)
  due_write x items at i (Some (done.Fault (call.Write s))) a c =
      ap (λ n. Some (done.Fault (call.Write n))) (eqb-true s i.fseq (only (s == i.fseq) _ c)) ∙ ap (λ b. Some (answered b (call.Write i.fseq))) (failed kind.Write a)
  due_write x items at i (Some (done.NoMemory (call.Write s))) a c = absurd (no_memory (s == i.fseq) (Writing x items at) c)
  due_write x items at i None a c = absurd (no_memory (at == 0) (Writing x items at) c)
  due_write x items at i _ a c = absurd c

  due_flush : (x : HeldMount) (items : List Item) (e : Option Done) → HasDone old new e → HasCarriedOut kept moment (flush_row x items e) → heard_alone e ≡ due_writing q None
  due_flush x items (Some (done.Ok call.Flush)) a c = ap (λ b. Some (answered b call.Flush)) (done_well kind.Flush a)
  due_flush x items (Some (done.Fault call.Flush)) a c = ap (λ b. Some (answered b call.Flush)) (failed kind.Flush a)
  due_flush x items _ a c = absurd c

  due_written : (x : HeldMount) (items : List Item) (at : ℕ) (o : Option Item) (e : Option Done) → HasDone old new e → HasCarriedOut kept moment (writing_row x items at o e) → heard_alone e ≡ due_writing q o
  due_written x items at (Some i) e a c = due_write x items at i e a c
  due_written x items at None e a c = due_flush x items e a c

  due_read : (x : HeldMount) (items : List Item) (at : ℕ) (i : Item) (e : Option Done) → HasDone old new e → HasCarriedOut kept moment (read_row x items at i e) → IsReadTrue (Some i) q e → heard_alone e ≡ due_reading q (Some i)
  due_read x items at i (Some (done.Ok (call.Read s))) a c read =
      ap (λ n. Some (done.Ok (call.Read n))) (eqb-true s i.fseq (only (s == i.fseq) _ c)) ∙ (λ z. Some (read_so (done_well kind.Read a z) (sym read z) i.fseq))
  due_read x items at i (Some (done.Fault (call.Read s))) a c read =
      ap (λ n. Some (done.Fault (call.Read n))) (eqb-true s i.fseq (only (s == i.fseq) _ c)) ∙ (λ z. Some (read_so (failed kind.Read a z) (is_changed i q) i.fseq))
  due_read x items at i (Some (done.Mismatch found wanted)) a c read = λ z. Some (read_so (done_well kind.Read a.1 z) (sym read z) i.fseq)
  due_read x items at i (Some (done.NoMemory (call.Read s))) a c read = absurd (no_memory (s == i.fseq) (Reading x items at) c)
  due_read x items at i None a c read = absurd (no_memory true (Reading x items at) c)
  due_read x items at i _ a c read = absurd c

  due_given : (x : HeldMount) (items : List Item) (at : ℕ) (o : Option Item) (e : Option Done) → HasDone old new e → HasCarriedOut kept moment (reading_row x items at o e) → IsReadTrue o q e → heard_alone e ≡ due_reading q o
  due_given x items at (Some i) e a c read = due_read x items at i e a c read
  due_given x items at None e a c read = due_ready x e c

  pub is_due : (d : ℕ) (p : Phase) (e : Option Done) → HasDone old new e → HasCarriedOut kept moment (row_of d p e) → IsReadTrue (item_in p) q e → heard_alone e ≡ due p q
  is_due d Free e a c read = due_free d e c
  is_due d (Held x) e a c read = due_held x e a c
  is_due d (Ready x) e a c read = due_ready x e c
  is_due d (Writing x items at) e a c read = due_written x items at (slice_get items at) e a c
  is_due d (Reading x items at) e a c read = due_given x items at (slice_get items at) e a c read
  is_due d (Leaving x) e a c read = due_leaving x e a c
