-- A step of two runs that are alike has one line, and leaves them alike.
use Rattle.std.proofs.Common.{◌≡◌, ◌∙◌, ℕ, zero, suc, List, [], ◌∷◌, refl, sym, ap, ap₂, map}
use Rattle.std.specs.Prelude.{Option, Some, None, option_map, slice_get, slice_set}
use Rattle.std.proofs.lemmas.Option.{none-some, same_Some}
use Rattle.blob.specs.Records.{MediumView}
use Rattle.cta_model.specs.declared.answers.Answer.{Answer}
use Rattle.cta_model.specs.declared.asks.Ask.{Ask}
use Rattle.cta_model.specs.Answers.{answer_of}
use Rattle.drive_session.specs.declared.reports.StepLine.{StepLine}
use Rattle.drive_session.specs.Answers.{said}
use Rattle.drive_session.specs.Table.{Phase, Row, line_by, phase_after}
use Rattle.media.specs.Drives.{DriveView, Plan}
use Rattle.mismatch_laws.specs.Alike.{AreAlike, ask_without_found}
use Rattle.replay.specs.Steps.{DriveState, HasCarriedOut, RunState, answer_to, behind_row, kept_by, kept_in, line_behind, medium_behind, phase_behind, step_line, written_by}
use Rattle.run_laws.proofs.Pairs.{AreAlikeKept, alike_after, same_answer}
use Rattle.run_laws.proofs.Rows.{row_without_found}

-- ---- two runs

-- where a drive stands, as far as its plan and its session go
pub record Standing : Type 0 where
  pub phase : Phase
  pub plan : Option Plan

abbrev pub standing_of : DriveState → Standing
standing_of d = record { phase = d.phase; plan = d.seen.plan }

-- two runs are alike: of one site, with alike histories, and each drive stands the same
pub record AreTwins (s t : RunState) : Type 0 where
  pub kept : AreAlikeKept (kept_in s) (kept_in t)
  pub drives : map standing_of s.drives ≡ map standing_of t.drives

-- ---- lists of drives

pub got_map : {A B : Type 0} (f : A → B) (xs : List A) (n : ℕ) → slice_get (map f xs) n ≡ option_map f (slice_get xs n)
got_map f [] n = refl
got_map f (x ∷ xs) zero = refl
got_map f (x ∷ xs) (suc n) = got_map f xs n

put_map : {A B : Type 0} (f : A → B) (xs : List A) (n : ℕ) (x : A) → map f (slice_set xs n x) ≡ slice_set (map f xs) n (f x)
put_map f [] n x = refl
put_map f (y ∷ xs) zero x = refl
put_map f (y ∷ xs) (suc n) x = ap (λ rest. f y ∷ rest) (put_map f xs n x)

-- ---- rows

line_same : (r q : Row) (a : Option Answer) → r.asked ≡ q.asked → r.phase ≡ q.phase → line_behind r a ≡ line_behind q a
line_same r q None asked phase = ap said asked
line_same r q (Some a) asked phase = ap₂ (λ w p. line_by w p a) asked phase

phase_same : (r q : Row) (a : Option Answer) → r.asked ≡ q.asked → r.phase ≡ q.phase → phase_behind r a ≡ phase_behind q a
phase_same r q None asked phase = phase
phase_same r q (Some a) asked phase = ap₂ (λ w p. phase_after w p a) asked phase

module _ (s t : RunState) (x : AreTwins s t) (moment : ℕ) where
  asks_same : (a b : Option Ask) → option_map ask_without_found a ≡ option_map ask_without_found b → option_map (answer_of s.site s.history moment) a ≡ option_map (answer_of t.site t.history moment) b
  asks_same None None e = refl
  asks_same None (Some b) e = absurd (none-some (ask_without_found b) e)
  asks_same (Some a) None e = absurd (none-some (ask_without_found a) (sym e))
  asks_same (Some a) (Some b) e = ap Some (same_answer (kept_in s) (kept_in t) moment a b x.kept (same_Some (ask_without_found a) (ask_without_found b) e))

  histories : (a b : Option Ask) (left other : Option MediumView) → option_map ask_without_found a ≡ option_map ask_without_found b → AreAlike (kept_by (kept_in s) moment left a).history (kept_by (kept_in t) moment other b).history
  histories None None left other e = x.kept.history
  histories None (Some b) left other e = absurd (none-some (ask_without_found b) e)
  histories (Some a) None left other e = absurd (none-some (ask_without_found a) (sym e))
  histories (Some a) (Some b) left other e = alike_after (kept_in s) (kept_in t) moment a b left other x.kept (same_Some (ask_without_found a) (ask_without_found b) e)

  module _ (drive : ℕ) (r q : Row) (same : row_without_found r ≡ row_without_found q) where
    asked : r.asked ≡ q.asked
    asked = ap (λ (y : Row). y.asked) same

    answers : answer_to (kept_in s) moment r ≡ answer_to (kept_in t) moment q
    answers = asks_same r.ask q.ask (ap (λ (y : Row). y.ask) same)

    row_line : step_line s.site drive (line_behind r (answer_to (kept_in s) moment r)) ≡ step_line t.site drive (line_behind q (answer_to (kept_in t) moment q))
    row_line = ap₂ (λ u (l : StepLine). step_line u drive l) x.kept.site (ap (line_behind r) answers ∙ line_same r q (answer_to (kept_in t) moment q) asked (ap (λ (y : Row). y.phase) same))

    phases : phase_behind r (answer_to (kept_in s) moment r) ≡ phase_behind q (answer_to (kept_in t) moment q)
    phases = ap (phase_behind r) answers ∙ phase_same r q (answer_to (kept_in t) moment q) asked (ap (λ (y : Row). y.phase) same)

    row_behind : (seen look : DriveView) (left other : Option MediumView) → seen.plan ≡ look.plan → AreTwins (behind_row s drive moment seen left (Some r)) (behind_row t drive moment look other (Some q))
    row_behind seen look left other plan =
        let a = answer_to (kept_in s) moment r in
        let b = answer_to (kept_in t) moment q in
        let d : DriveState = record { phase = phase_behind r a; seen = seen; medium = medium_behind s.shelf left r.ask a } in
        let e : DriveState = record { phase = phase_behind q b; seen = look; medium = medium_behind t.shelf other q.ask b } in
        record {
          kept = record { site = x.kept.site; history = histories r.ask q.ask left other (ap (λ (y : Row). y.ask) same) };
          drives = put_map standing_of s.drives drive d ∙ (λ z. slice_set (x.drives z) drive (record { phase = phases z; plan = plan z })) ∙ sym (put_map standing_of t.drives drive e);
        }

  -- the line of a step, and what is behind it
  pub step_text : (drive : ℕ) (o p : Option Row) → HasCarriedOut (kept_in s) moment o → HasCarriedOut (kept_in t) moment p → option_map row_without_found o ≡ option_map row_without_found p
      → written_by s drive moment o ≡ written_by t drive moment p
  step_text drive None p c d e = absurd c
  step_text drive (Some r) None c d e = absurd d
  step_text drive (Some r) (Some q) c d e = row_line drive r q (same_Some (row_without_found r) (row_without_found q) e)

  pub step_behind : (drive : ℕ) (o p : Option Row) (seen look : DriveView) (left other : Option MediumView) → HasCarriedOut (kept_in s) moment o → HasCarriedOut (kept_in t) moment p
      → option_map row_without_found o ≡ option_map row_without_found p → seen.plan ≡ look.plan → AreTwins (behind_row s drive moment seen left o) (behind_row t drive moment look other p)
  step_behind drive None p seen look left other c d e plan = absurd c
  step_behind drive (Some r) None seen look left other c d e plan = absurd d
  step_behind drive (Some r) (Some q) seen look left other c d e plan = row_behind drive r q (same_Some (row_without_found r) (row_without_found q) e) seen look left other plan
