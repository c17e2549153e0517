-- A whole script is read to its line `end`.
use Rattle.std.proofs.Common.{◌≡◌, Bool, ℕ, ◌+◌, ◌<◌, ◌⊎◌, inl, inr, List, [], ◌++◌, length, codes, map, Option, None, Some, refl, sym, ap, ◌∙◌, subst, arith, append_assoc, append-nil, length-append}
use Rattle.std.specs.Io.KnownBytes.{Consumes, IsAtEnd}
use Rattle.std.proofs.lemmas.List.{append_cancel_left}
use Rattle.outside.specs.Causes.{Rose}
use Rattle.cta_site.specs.declared.site.Site.{Site}
use Rattle.cta_site.specs.WellFormed.{IsWellFormed}
use Rattle.links.specs.Run.{IsRun}
use Rattle.archive_opening.specs.Seen.{SourceView}
use Rattle.archive_opening.specs.declared.status.Status.{Status}
use Rattle.archive_opening.specs.declared.status.Status.TheVariants.{Ok, Script, ReadFault, WriteFault, NoMemory, TooLong}
use Rattle.replay.specs.Seen.{SinkView, World, world, unread}
use Rattle.replay.specs.Script.{Record, ScriptCut, ScriptTail, Ended, MayGoOn, IsRefusedAt, ended, whole_bytes, tail_bytes, tail_records, cut_bytes, cut_records, InLine, InBytes, BadLine, LongLine, NoLf}
use Rattle.replay.specs.Run.{ScriptTurn, record_of, links_turns, all_happenings}
use Rattle.replay.specs.Promises.{KeepsPromises}
use Rattle.replay.specs.Steps.{Made, begun_with}
use Rattle.replay.specs.Intake.{Took, budget}
use Rattle.replay.specs.Outcome.{AreMade, Wrote, EndsScript, Finishes, Replays, ReachesEnd, IsReadWhole}
use Rattle.replay.specs.RecordTurns.{RunsToEnd}
use Rattle.replay.proofs.Readings.{StopsWithin, stops_before_end}

-- what a reading of such a script took, and what it left
record Takes (site : Site) (records : List Record) (rest : List ℕ) (c : ScriptCut) (left' : Option (List ℕ)) : Type 0 where
  after : List ℕ
  told : left' ≡ Some after
  split : whole_bytes site c.whole ++ (tail_bytes site c.tail ++ after) ≡ whole_bytes site records ++ (ended (codes "end") ++ rest)

takes : (site : Site) (records : List Record) (rest : List ℕ) (c : ScriptCut) (left left' : Option (List ℕ)) → left ≡ Some (whole_bytes site records ++ (ended (codes "end") ++ rest)) → Consumes left left' (cut_bytes site c)
    → Takes site records rest c left'
takes site records rest c None left' e t = absurd (let f : None ≡ Some (whole_bytes site records ++ (ended (codes "end") ++ rest)) = e in cc)
takes site records rest c (Some xs) None e t = absurd t
takes site records rest c (Some xs) (Some after) e t =
    let same : xs ≡ whole_bytes site records ++ (ended (codes "end") ++ rest) = cc in
    record { after = after; told = refl; split = sym (append_assoc (whole_bytes site c.whole) (tail_bytes site c.tail) after) ∙ sym t ∙ same }

not_both : (t : ScriptTail) → MayGoOn t → t ≡ Ended → ⊥
not_both t o e = subst MayGoOn e o

open_not_refused : (t : ScriptTail) (at : ℕ) → MayGoOn t → IsRefusedAt t at → ⊥
open_not_refused Ended at o r = o
open_not_refused (InLine part) at o r = r
open_not_refused (InBytes link moment len held) at o r = r
open_not_refused (BadLine line) at o r = o
open_not_refused (LongLine part) at o r = o
open_not_refused (NoLf link moment bytes byte) at o r = o

ended_not_refused : (t : ScriptTail) (at : ℕ) → t ≡ Ended → IsRefusedAt t at → ⊥
ended_not_refused t at e r = subst (λ s. IsRefusedAt s at) e r

module _ (tells : Bool) (site : Site) (valid : IsWellFormed site) (made : Made) (new : AreMade tells site made) (records : List Record) (rest : List ℕ) (from to : SourceView) (p q : SinkView) (taken : ℕ) (reaches : ReachesEnd site from.left records rest) where
  abbrev a : World
  a = world (unread from) p

  abbrev b : World
  b = world (record { left = to.left; taken = taken; faults = to.faults }) q

  abbrev IsWhole : Type 0
  IsWhole = IsReadWhole tells site records rest to p q

  -- an ending at a place where more may come leaves more, and is below the budget
  open_goes_on : (c : ScriptCut) → StopsWithin site valid c.whole records c.tail → MayGoOn c.tail → Takes site records rest c to.left → Took a.script b.script (cut_bytes site c)
      → (IsAtEnd to.left → ⊥) × (taken < budget)
  open_goes_on c (inl p) o t took = absurd (not_both c.tail o p.1)
  open_goes_on c (inr p) o t took =
      let within = reaches.within in (
        λ at. let gone : t.after ≡ [] = subst IsAtEnd t.told at in
            let n : length (whole_bytes site c.whole) + (length (tail_bytes site c.tail) + 0) ≡ length (whole_bytes site records) + (4 + length rest) =
            omega (arith, ap length t.split, ap length gone, length-append (whole_bytes site c.whole) (tail_bytes site c.tail ++ t.after), length-append (tail_bytes site c.tail) t.after, length-append (whole_bytes site records) (ended (codes "end") ++ rest)) in
            omega (arith, p.1),
        omega (arith, took.count, p.1, length-append (whole_bytes site c.whole) (tail_bytes site c.tail)),
      )

  same_cut : (c : ScriptCut) → c.whole ≡ records → c.tail ≡ Ended → cut_records c ≡ records
  same_cut c e d = ap (λ l. l ++ tail_records c.tail) e ∙ ap (λ u. records ++ tail_records u) d ∙ append-nil records

  at_end : (c : ScriptCut) (turns : List ScriptTurn) → Takes site records rest c to.left → StopsWithin site valid c.whole records c.tail → c.tail ≡ Ended → map record_of turns ≡ cut_records c
      → IsRun site.limits.file (links_turns turns) → Wrote (begun_with site made) p q (all_happenings turns) → KeepsPromises tells site made turns → IsWhole
  at_end c turns t (inr p) e brought run w kept = absurd (not_both c.tail p.0 e)
  at_end c turns t (inl p) e brought run w kept =
      let front : whole_bytes site records ++ (ended (codes "end") ++ t.after) ≡ whole_bytes site c.whole ++ (tail_bytes site c.tail ++ t.after) =
      ap (λ es. whole_bytes site es ++ (ended (codes "end") ++ t.after)) (sym p.0) ∙ ap (λ u. whole_bytes site c.whole ++ (tail_bytes site u ++ t.after)) (sym e) in
      let both = append_cancel_left (whole_bytes site records) (ended (codes "end") ++ t.after) (ended (codes "end") ++ rest) (front ∙ t.split) in
      let same : t.after ≡ rest = append_cancel_left (ended (codes "end")) t.after rest both in
      record { left = t.told ∙ ap Some same; made = made; new = new; turns = turns; run = (brought ∙ same_cut c p.0 e, run); wrote = w; promises = kept }

  by_status : (status : Status) (c : ScriptCut) (turns : List ScriptTurn) → StopsWithin site valid c.whole records c.tail → Takes site records rest c to.left → Took a.script b.script (cut_bytes site c)
      → map record_of turns ≡ cut_records c → IsRun site.limits.file (links_turns turns) → KeepsPromises tells site made turns → EndsScript status (begun_with site made) a b c (all_happenings turns)
      → (Rose from.faults to.faults → ⊥) → (Rose p.faults q.faults → ⊥) → ((status ≡ Ok) × IsWhole) ⊎ (status ≡ NoMemory)
  by_status Ok c turns s t took brought run kept e no_read no_write = inl (refl, at_end c turns t s e.0 brought run e.1 kept)
  by_status (Script offset) c turns (inl p) t took brought run kept (inl r, w) no_read no_write = absurd (ended_not_refused c.tail r.0 p.1 r.1)
  by_status (Script offset) c turns (inr p) t took brought run kept (inl r, w) no_read no_write = absurd (open_not_refused c.tail r.0 p.0 r.1)
  by_status (Script offset) c turns s t took brought run kept (inr o, w) no_read no_write = absurd ((open_goes_on c s o.0 t took).0 o.1)
  by_status ReadFault c turns s t took brought run kept e no_read no_write = absurd (no_read e.1)
  by_status WriteFault c turns s t took brought run kept e no_read no_write = absurd (no_write e.1)
  by_status NoMemory c turns s t took brought run kept e no_read no_write = inr refl
  by_status TooLong c turns s t took brought run kept e no_read no_write = let n = (open_goes_on c s e.0 t took).1 in absurd (omega (arith, e.1))
  by_status _ c turns s t took brought run kept e no_read no_write = absurd e

  completes : (status : Status) (f : Finishes (begun_with site made) [] a b status) → KeepsPromises tells site made f.turns → (Rose from.faults to.faults → ⊥) → (Rose p.faults q.faults → ⊥)
      → ((status ≡ Ok) × IsWhole) ⊎ (status ≡ NoMemory)
  completes status f kept no_read no_write =
      let t = takes site records rest f.cut from.left to.left reaches.spelled f.took.bytes in
      let s = stops_before_end site valid f.cut.whole records f.cut.tail t.after rest f.is_cut.0 reaches.each f.is_cut.1 t.split in
      by_status status f.cut f.turns s t f.took f.brought f.run kept f.ends no_read no_write

pub RunsToEnd-from_replays : (tells : Bool) (status : Status) (site : Site) (from to : SourceView) (a b : SinkView) → Replays tells status site from to a b → RunsToEnd tells status site from to a b
RunsToEnd-from_replays tells status site from to a b r = λ records rest reaches no_read no_write.
    completes tells site r.valid r.made r.new records rest from to a b r.taken reaches status r.finishes r.promises no_read no_write
