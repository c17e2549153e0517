-- The history that is kept behind a run is legal.
use Rattle.std.proofs.Common.{ℕ, ◌≤◌, inl, inr, List, [], ◌∷◌, ◌++◌, sym, subst, arith}
use Rattle.std.specs.Prelude.{Option, None, Some, map}
use Rattle.std.specs.List.{AllByRecursion}
use Rattle.std.proofs.lemmas.Bool.{cases_Bool}
use Rattle.blob.specs.Records.{MediumView}
use Rattle.cta_site.specs.declared.site.Site.{Site}
use Rattle.cta_model.specs.History.{History}
use Rattle.cta_model.specs.Kept.{Kept, KeepsLegal, kept_after, history_after}
use Rattle.cta_model.specs.Legal.{IsFit, IsLegal, greatest_moment}
use Rattle.cta_model.specs.Answers.{answer_of, is_accepted}
use Rattle.cta_model.specs.declared.asks.Ask.{Ask}
use Rattle.cta_model.specs.declared.asks.Ask.TheVariants as ask
use Rattle.drive_session.specs.Table.{Row}
use Rattle.media.specs.Drives.{DriveView}
use Rattle.conn.specs.Cut.{Event, Continues, Requests, Refuses}
use Rattle.tape_routes.specs.Asked.{Asked, Asks, Looks, Replies, asked}
use Rattle.tape_routes.specs.Answering.{kept_then, request_keeps}
use Rattle.tape_routes.specs.Callers.{CallersAsk, IsCallers}
use Rattle.replay.specs.Script.{Record, ScriptTail, Ended, InLine, InBytes, BadLine, LongLine, NoLf, IsRecord, IsScriptTail, tail_records}
use Rattle.replay.specs.Run.{Exchange, ScriptTurn, OnLink, OnDrive, Happening, Answered, Stepped, record_of, answered_on, happenings_of, all_happenings}
use Rattle.replay.specs.Output.{after, event_keeps, run_behind}
use Rattle.replay.specs.Laws.{AskFitly, AsksFit, KeepsLegalHistories}
use Rattle.replay.specs.Steps.{IsAskFit, IsRowFit, RunState, begun_with, behind_row, kept_by, kept_in, row_at}
use Rattle.replay.proofs.Running.{AllByRecursion-append, event_keeps-site, kept_after-site, run_behind-site}

-- the history of what is kept is legal
abbrev pub IsLawful : Kept → Type 0
IsLawful k = IsLegal k.site k.history

-- it happened at a moment in range
abbrev pub IsTimely : Happening → Type 0
IsTimely (Answered link moment exchange) = moment ≤ greatest_moment
IsTimely (Stepped drive moment done seen left) = moment ≤ greatest_moment

-- what a caller asks is fit
caller_fits : (site : Site) (h : History) (k : Ask) (sent : Option (List ℕ)) → IsCallers (Asks k sent) → IsFit site h k
caller_fits site h (ask.Next d) sent fit = absurd fit
caller_fits site h (ask.Claim m) sent fit = absurd fit
caller_fits site h (ask.Flushed m items) sent fit = absurd fit
caller_fits site h (ask.Recalled m job) sent fit = absurd fit
caller_fits site h (ask.Failed m fault charged returned) sent fit = absurd fit
caller_fits site h (ask.End m fault) sent fit = absurd fit
caller_fits site h _ sent fit = tt

module _ (keeps : KeepsLegal) (callers : CallersAsk) where
  answered_keeps : (k : Kept) (t : ℕ) (asks : Ask) (brought : Option MediumView) → IsLegal k.site (history_after k.site k.history t asks) → IsLawful (kept_after k t asks (answer_of k.site k.history t asks) brought)
  answered_keeps k t asks brought legal =
      elim (cases_Bool (is_accepted (answer_of k.site k.history t asks))) [
        | inl hit ↦ rw hit (rw hit at legal)
        | inr miss ↦ rw miss (rw miss at legal)
      ]

  -- an ask that is fit
  step_keeps : (k : Kept) (t : ℕ) (asks : Ask) (brought : Option MediumView) → IsFit k.site k.history asks → t ≤ greatest_moment → IsLawful k → IsLegal k.site (kept_after k t asks (answer_of k.site k.history t asks) brought).history
  step_keeps k t asks brought fit low legal =
      subst (λ s. IsLegal s (kept_after k t asks (answer_of k.site k.history t asks) brought).history) (kept_after-site k t asks (answer_of k.site k.history t asks) brought)
      (answered_keeps k t asks brought (keeps k.site k.history t asks legal low fit))

  pub ask_keeps : (k : Kept) (t : ℕ) (asks : Ask) (sent : Option (List ℕ)) → IsCallers (Asks asks sent) → t ≤ greatest_moment → IsLawful k → IsLawful (kept_after k t asks (answer_of k.site k.history t asks) None)
  ask_keeps k t asks sent fit low legal = answered_keeps k t asks None (keeps k.site k.history t asks legal low (caller_fits k.site k.history asks sent fit))

  pub then_keeps : (k : Kept) (t : ℕ) (x : Asked) → IsCallers x → t ≤ greatest_moment → IsLawful k → IsLawful (kept_then k t x)
  unfolding kept_then
  then_keeps k t (Asks ask sent) fit low legal = ask_keeps k t ask sent fit low legal
  then_keeps k t (Looks look) fit low legal = legal
  then_keeps k t (Replies reply) fit low legal = legal

  event_is_lawful : (k : Kept) (t : ℕ) (e : Event) → t ≤ greatest_moment → IsLawful k → IsLawful (event_keeps k t e)
  unfolding request_keeps
  event_is_lawful k t Continues low legal = legal
  event_is_lawful k t (Requests request) low legal = then_keeps k t (asked k.site request) (callers k.site request) low legal
  event_is_lawful k t (Refuses refusal) low legal = legal

  row_is_lawful : (k : RunState) (drive moment : ℕ) (seen : DriveView) (left : Option MediumView) (r : Option Row) → IsRowFit (kept_in k) r → moment ≤ greatest_moment → IsLegal k.site k.history → IsLegal k.site (behind_row k drive moment seen left r).history
  row_is_lawful k drive moment seen left None fit low legal = legal
  row_is_lawful k drive moment seen left (Some r) fit low legal = asks_lawful r.ask fit
    where
      asks_lawful : (o : Option Ask) → IsAskFit k.site k.history o → IsLegal k.site (kept_by (kept_in k) moment left o).history
      asks_lawful None fit = legal
      asks_lawful (Some a) fit = step_keeps (kept_in k) moment a left fit low legal

  pub happening_is_lawful : (k : RunState) (h : Happening) → AsksFit k h → IsTimely h → IsLegal k.site k.history → IsLegal k.site (run_behind k h).history
  happening_is_lawful k (Answered link moment exchange) fit low legal =
      subst (λ s. IsLegal s (event_keeps (kept_in k) moment exchange.event).history) (event_keeps-site (kept_in k) moment exchange.event)
      (event_is_lawful (kept_in k) moment exchange.event low legal)
  happening_is_lawful k (Stepped drive moment done seen left) fit low legal = row_is_lawful k drive moment seen left (row_at k drive done) fit low legal

  all_lawful : (k : RunState) (hs : List Happening) → AskFitly k hs → AllByRecursion IsTimely hs → IsLegal k.site k.history → IsLegal k.site (after k hs).history
  all_lawful k [] fit timely legal = legal
  all_lawful k (h ∷ hs) fit timely legal =
      let first = happening_is_lawful k h fit.0 timely.0 legal in
      let site = run_behind-site k h in
      subst (λ s. IsLegal s (after (run_behind k h) hs).history) site
      (all_lawful (run_behind k h) hs fit.1 timely.1 (subst (λ s. IsLegal s (run_behind k h).history) (sym site) first))

exchanges_timely : (link moment : ℕ) (xs : List Exchange) → moment ≤ greatest_moment → AllByRecursion IsTimely (answered_on link moment xs)
exchanges_timely link moment [] low = tt
exchanges_timely link moment (x ∷ xs) low = (low, exchanges_timely link moment xs low)

turn_timely : (site : Site) (t : ScriptTurn) → IsRecord site (record_of t) → AllByRecursion IsTimely (happenings_of t)
turn_timely site (OnLink link moment bytes exchanges) h = exchanges_timely link moment exchanges h.1
turn_timely site (OnDrive drive moment done seen left) h = (h.1, tt)

pub turns_timely : (site : Site) (ts : List ScriptTurn) → AllByRecursion (IsRecord site) (map record_of ts) → AllByRecursion IsTimely (all_happenings ts)
turns_timely site [] h = tt
turns_timely site (t ∷ ts) h = AllByRecursion-append IsTimely (happenings_of t) (all_happenings ts) (turn_timely site t h.0) (turns_timely site ts h.1)

pub legal_histories : KeepsLegal → CallersAsk → KeepsLegalHistories
legal_histories keeps callers site made records turns each run fit =
    let each' = subst (AllByRecursion (IsRecord site)) (sym run.0) each in
    all_lawful keeps callers (begun_with site made) (all_happenings turns) fit (turns_timely site turns each') tt

-- ---- the records of a cut script

tail_is_timely : (site : Site) (t : ScriptTail) → IsScriptTail site t → AllByRecursion (IsRecord site) (tail_records t)
tail_is_timely site Ended h = tt
tail_is_timely site (InLine part) h = tt
tail_is_timely site (InBytes link moment len held) h = ((h.0.0, h.0.1, omega (arith, h.0.2, h.1)), tt)
tail_is_timely site (BadLine line) h = tt
tail_is_timely site (LongLine part) h = tt
tail_is_timely site (NoLf link moment bytes byte) h = (h.0, tt)

pub cut_is_timely : (site : Site) (whole : List Record) (t : ScriptTail) → AllByRecursion (IsRecord site) whole → IsScriptTail site t → AllByRecursion (IsRecord site) (whole ++ tail_records t)
cut_is_timely site whole t h k = AllByRecursion-append (IsRecord site) whole (tail_records t) h (tail_is_timely site t k)
