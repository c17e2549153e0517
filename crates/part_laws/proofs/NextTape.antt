-- The tape that a Next mounts is one of the site.
use Rattle.std.proofs.Common.{◌≡◌, ◌∙◌, ℕ, ◌+◌, ◌<◌, refl, inl, inr, true, ◌&&◌, sym, subst, length}
use Rattle.std.specs.Prelude.{Option, Some, None, ◌==◌, find, nat_lt, slice_get, List}
use Rattle.std.proofs.lemmas.Bool.{and_parts}
use Rattle.std.proofs.lemmas.Option.{slice_get_within}
use Rattle.cta_site.specs.declared.site.Site.{Site}
use Rattle.cta_site.specs.declared.site.Drive.{Drive}
use Rattle.cta_site.specs.declared.site.Tape.{Tape}
use Rattle.cta_site.specs.Lookups.{is_in_reach, pool_of_tape, share_library}
use Rattle.cta_model.specs.declared.asks.Ask.TheVariants as ask
use Rattle.cta_model.specs.declared.asks.Direction.{Direction}
use Rattle.cta_model.specs.declared.asks.Direction.TheVariants as direction
use Rattle.cta_model.specs.declared.asks.Job.{Job}
use Rattle.cta_model.specs.declared.answers.Answer.TheVariants as answer
use Rattle.cta_model.specs.declared.entries.Entry.{Entry}
use Rattle.cta_model.specs.History.{History}
use Rattle.cta_model.specs.Tapes.{may_be_read, may_be_written, tape_state, used_bytes}
use Rattle.cta_model.specs.Choice.{all_tapes, may_read_from, may_write_on, mount_choice, tape_for}
use Rattle.cta_model.specs.Legal.{IsNext}
use Rattle.cta_laws.proofs.QuotaLaw.{Chosen, choice_all, choice_at, find_passes, or_found}
use Rattle.cta_laws.proofs.Tests.{bool_cases}

-- a tape that a drive reaches is there
reach_low : (site : Site) (d v : ℕ) → is_in_reach site d v ≡ true → v < length site.tapes.items
reach_low site d v near = by (slice_get site.drives.items d) (slice_get site.tapes.items v) refl near
  where
    by : (o : Option Drive) (t : Option Tape) → slice_get site.tapes.items v ≡ t → share_library o t ≡ true → v < length site.tapes.items
    by None t is e = absurd (cc)
    by (Some x) None is e = absurd (cc)
    by (Some x) (Some t) is e = slice_get_within site.tapes.items v t is

write_low : (site : Site) (h : History) (d key : ℕ) (q : List Job) (v : ℕ) → may_write_on site h d key q v ≡ true → v < length site.tapes.items
write_low site h d key q v w =
    reach_low site d v (and_parts (is_in_reach site d v) _ (and_parts (may_be_written (tape_state site h v)) _ (and_parts (pool_of_tape site v == key) _ w).1).1).0

read_low : (site : Site) (h : History) (t d : ℕ) (q : List Job) (v : ℕ) → may_read_from site h t d q v ≡ true → v < length site.tapes.items
read_low site h t d q v w = reach_low site d v (and_parts (is_in_reach site d v) _ (and_parts (may_be_read (tape_state site h v)) _ w).1).0

tape_low : (site : Site) (h : History) (t d : ℕ) (way : Direction) (key : ℕ) (q : List Job) (v : ℕ) → tape_for site h t d way key q ≡ Some v → v < length site.tapes.items
tape_low site h t d direction.Archive key q v = λ e.
    elim (or_found (find (λ u. nat_lt 0 (used_bytes h u) && may_write_on site h d key q u) (all_tapes site)) (find (may_write_on site h d key q) (all_tapes site)) v e) [
      | inl a ↦ write_low site h d key q v (and_parts _ _ (find_passes (λ u. nat_lt 0 (used_bytes h u) && may_write_on site h d key q u) (all_tapes site) v a)).1
      | inr a ↦ write_low site h d key q v (find_passes (may_write_on site h d key q) (all_tapes site) v a)
    ]
tape_low site h t d direction.Retrieve key q v = λ e.
    elim (bool_cases (may_read_from site h t d q key)) [
      | inl may ↦ (let there : Some key ≡ Some v = rw may at e in let same : key ≡ v = cc in subst (λ (u : ℕ). u < length site.tapes.items) same (read_low site h t d q key may))
      | inr miss ↦ (let there : None ≡ Some v = rw miss at e in absurd (cc))
    ]

pub next_low : (site : Site) (h : History) (e : Entry) (d m : ℕ) (way : Direction) (v : ℕ) → IsNext site h e → e.ask ≡ ask.Next d → e.answer ≡ answer.Mounted m way v → v < length site.tapes.items
next_low site h e d m way v next ek ea =
    let chosen : Chosen (mount_choice site h e.at d) (length h + 1) e.answer = choice_at site h e d next ek in
    let same : answer.Mounted (length h + 1) chosen.0.direction chosen.0.tape ≡ answer.Mounted m way v = sym chosen.2 ∙ ea in
    let tapes : chosen.0.tape ≡ v = cc in
    subst (λ (u : ℕ). u < length site.tapes.items) tapes (choice_all (λ x u. u < length site.tapes.items) site h e.at d (tape_low site h e.at d) chosen.0 chosen.1)
