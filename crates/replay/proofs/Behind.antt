-- An ending behind further whole records.
use Rattle.std.proofs.Common.{◌≡◌, ℕ, ◌+◌, ◌≤◌, inl, inr, List, ◌++◌, length, ap, ◌∙◌, arith, length-append}
use Rattle.std.proofs.lemmas.List.Concat.{flat_map-append}
use Rattle.cta_site.specs.declared.site.Site.{Site}
use Rattle.archive_opening.specs.declared.status.Status.{Status}
use Rattle.archive_opening.specs.declared.status.Status.TheVariants.{Ok, Script, ReadFault, WriteFault, NoMemory, TooLong}
use Rattle.replay.specs.Steps.{RunState}
use Rattle.replay.specs.Seen.{World}
use Rattle.replay.specs.Script.{Record, ScriptCut, whole_bytes, spelling}
use Rattle.replay.specs.Run.{Happening}
use Rattle.replay.specs.Output.{after}
use Rattle.replay.specs.Outcome.{Wrote, IsScriptFault, EndsScript}
use Rattle.replay.proofs.Writing.{wrote_behind, first_behind, front_behind}

abbrev pub behind : List Record → ScriptCut → ScriptCut
behind records c = record { whole = records ++ c.whole; tail = c.tail }

-- what an ending says of what was written and taken since m holds of what was since a
pub record IsBefore (n k : RunState) (records : List Record) (happened : List Happening) (a m : World) : Type 0 where
  pub keeps : k ≡ after n happened
  pub same : k.site ≡ n.site
  pub taken : m.script.taken ≡ a.script.taken + length (whole_bytes n.site records)
  pub read_later : a.script.faults ≤ m.script.faults
  pub write_later : a.out.faults ≤ m.out.faults
  pub wrote : Wrote n a.out m.out happened

pub whole_bytes-append : (site : Site) (xs ys : List Record) → whole_bytes site (xs ++ ys) ≡ whole_bytes site xs ++ whole_bytes site ys
whole_bytes-append site xs ys = flat_map-append (spelling site) xs ys

length-whole : (site : Site) (xs ys : List Record) → length (whole_bytes site (xs ++ ys)) ≡ length (whole_bytes site xs) + length (whole_bytes site ys)
length-whole site xs ys = ap length (whole_bytes-append site xs ys) ∙ length-append (whole_bytes site xs) (whole_bytes site ys)

module _ (n k : RunState) (records : List Record) (happened more : List Happening) (a m b : World) (c : ScriptCut) (h : IsBefore n k records happened a m) where
  Wrote-behind : Wrote k m.out b.out more → Wrote n a.out b.out (happened ++ more)
  Wrote-behind p = wrote_behind n k a.out m.out b.out happened more h.keeps h.wrote p

  whole : length (whole_bytes k.site c.whole) ≡ length (whole_bytes n.site c.whole)
  whole = ap (λ site. length (whole_bytes site c.whole)) h.same

  fault_behind : (offset : ℕ) → IsScriptFault offset k.site m.script b.script c → IsScriptFault offset n.site a.script b.script (behind records c)
  fault_behind offset (inl (at, refused, e)) = let both = length-whole n.site records c.whole in inl (at, refused, omega (arith, h.taken, whole))
  fault_behind offset (inr p) = inr p

  pub EndsScript-behind : (status : Status) → EndsScript status k m b c more → EndsScript status n a b (behind records c) (happened ++ more)
  EndsScript-behind Ok p = (p.0, Wrote-behind p.1)
  EndsScript-behind (Script offset) p = (fault_behind offset p.0, Wrote-behind p.1)
  EndsScript-behind ReadFault p = let le = h.read_later in (p.0, omega (arith, p.1), p.2, Wrote-behind p.3)
  EndsScript-behind WriteFault p = let le = h.write_later in (p.0, omega (arith, p.1), front_behind n k a.out m.out b.out happened more h.keeps h.wrote p.2)
  EndsScript-behind NoMemory p = (p.0, first_behind n k a.out m.out b.out happened more h.keeps h.wrote p.1)
  EndsScript-behind TooLong p = (p.0, p.1, Wrote-behind p.2)
  EndsScript-behind _ p = absurd p
