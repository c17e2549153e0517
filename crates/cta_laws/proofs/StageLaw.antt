-- A file of a stage request never finishes before it starts.
use Rattle.std.proofs.Common.{◌≡◌, ℕ, ◌≤◌, inl, inr, List, [], ◌∷◌, Bool, true, false, refl, ap, arith}
use Rattle.std.specs.Prelude.{Option, Some, None}
use Rattle.std.specs.List.{AllByRecursion}
use Rattle.cta_site.specs.declared.site.Site.{Site}
use Rattle.cta_model.specs.declared.entries.Entry.{Entry}
use Rattle.cta_model.specs.declared.asks.Ask.{Ask}
use Rattle.cta_model.specs.declared.asks.Ask.TheVariants as ask
use Rattle.cta_model.specs.declared.reports.FileState.{FileState}
use Rattle.cta_model.specs.declared.reports.FileState.TheVariants as file
use Rattle.cta_model.specs.declared.states.StageFile.{StageFile}
use Rattle.cta_model.specs.declared.states.RequestFile.{RequestFile}
use Rattle.cta_model.specs.History.{History, last_moment, is_empty}
use Rattle.cta_model.specs.Places.{places_of}
use Rattle.cta_model.specs.Buffer.{is_resident}
use Rattle.cta_model.specs.Recalls.{Recall, live_recall, recall_job}
use Rattle.cta_model.specs.Mounts.{claim_names}
use Rattle.cta_model.specs.Stages.{StageRequest, request_of, file_asked_for, submitted, started, is_claimed_before, after_recall, cancels, releases, first_start, with_recall, waiting_after, moved_by, released_if}
use Rattle.cta_model.specs.Legal.{IsLegal}
use Rattle.cta_laws.specs.Stages.{FinishesAfterStart, FinishesLater, waits}
use Rattle.cta_laws.proofs.Tests.{bool_cases}
use Rattle.cta_laws.proofs.Claims.{AllOf}
use Rattle.cta_laws.proofs.Requests.{request_all}

-- it has not started after now, its finish is not before its start, and it has no finish while it waits
pub record IsTimed (now : ℕ) (state : FileState) (started finished : Option ℕ) : Type 0 where
  past : (a : ℕ) → started ≡ Some a → a ≤ now
  order : (a b : ℕ) → started ≡ Some a → finished ≡ Some b → a ≤ b
  open_end : waits state ≡ true → finished ≡ None

abbrev pub Timed : ℕ → RequestFile → Type 0
Timed now s = IsTimed now s.state s.started s.finished

pub moment_in : Option ℕ → ℕ
moment_in None = 0
moment_in (Some n) = n

pub some_eq : (a b : ℕ) → Some a ≡ Some b → a ≡ b
unfolding moment_in
some_eq a b e = ap moment_in e

-- what never started
pub unstarted : (now : ℕ) (state : FileState) (finish : Option ℕ) → (waits state ≡ true → finish ≡ None) → IsTimed now state None finish
unstarted now state finish w = record { past = λ a e. absurd (cc); order = λ a b e g. absurd (cc); open_end = w }

-- what started now
pub starts_now : (now : ℕ) → IsTimed now file.Started (Some now) None
starts_now now = record { past = λ a e. (let same : now ≡ a = some_eq now a e in omega arith); order = λ a b e g. absurd (cc); open_end = λ w. refl }

pub done_now : (now : ℕ) → IsTimed now file.Completed (Some now) (Some now)
done_now now = record {
  past = λ a e. (let same : now ≡ a = some_eq now a e in omega arith);
  order = λ a b e g. (let x : now ≡ a = some_eq now a e in let y : now ≡ b = some_eq now b g in omega arith);
  open_end = λ w. absurd (cc);
}

-- ---- at the Stage

asked_timed : (site : Site) (h : History) (e : Entry) (s : StageFile) (o : Option ℕ) → Timed e.at (file_asked_for site h e (submitted s) o)
asked_timed site h e s None = unstarted e.at file.Failed (Some e.at) (λ w. absurd (cc))
asked_timed site h e s (Some f) =
    elim (bool_cases (is_resident h f)) [
      | inl here ↦ rw here (done_now e.at)
      | inr away ↦
          elim (bool_cases (is_empty (places_of site h f))) [
            | inl none ↦ rw (away, none) (unstarted e.at file.Failed (Some e.at) (λ w. absurd (cc)))
            | inr some ↦
                elim (bool_cases (is_claimed_before h f (live_recall site (e ∷ h) f))) [
                  | inl claimed ↦ rw (away, some, claimed) (starts_now e.at)
                  | inr not_yet ↦ rw (away, some, not_yet) (unstarted e.at file.Submitted None (λ w. refl))
                ]
          ]
    ]

-- ---- after one more entry

pub later : (was now : ℕ) (s : RequestFile) → was ≤ now → Timed was s → Timed now s
later was now s low t = record { past = λ a e. (let x : a ≤ was = t.past a e in omega arith); order = t.order; open_end = t.open_end }

pub ends_now : (was now : ℕ) (s : RequestFile) (state : FileState) → was ≤ now → waits state ≡ false → Timed was s → IsTimed now state s.started (Some now)
ends_now was now s state low none t = record {
  past = λ a e. (let x : a ≤ was = t.past a e in omega arith);
  order = λ a b e g. (let x : a ≤ was = t.past a e in let y : now ≡ b = some_eq now b g in omega arith);
  open_end = λ w. absurd (cc);
}

recall_timed : (site : Site) (h : History) (e : Entry) (k : Ask) (f was : ℕ) (s : RequestFile) → was ≤ e.at → Timed was s → Timed e.at (after_recall site h e k f s)
recall_timed site h e (ask.Recalled m job) f was s low t = ends_now was e.at s file.Completed low refl t
recall_timed site h e (ask.Failed m fault charged returned) f was s low t = ends_now was e.at s file.Failed low refl t
recall_timed site h e (ask.Delete who path) f was s low t = ends_now was e.at s file.Failed low refl t
recall_timed site h e _ f was s low t = ends_now was e.at s file.Failed low refl t

first_timed : (was now : ℕ) (o : Option ℕ) → was ≤ now → ((a : ℕ) → o ≡ Some a → a ≤ was) → (a : ℕ) → first_start o now ≡ Some a → a ≤ now
first_timed was now None low past a e = (let same : now ≡ a = some_eq now a e in omega arith)
first_timed was now (Some b) low past a e = (let x : a ≤ was = past a e in omega arith)

started_timed : (was now : ℕ) (s : RequestFile) → was ≤ now → waits s.state ≡ true → Timed was s → Timed now (started s now)
started_timed was now s low w t =
    let none : s.finished ≡ None = t.open_end w in
    record { past = first_timed was now s.started low t.past; order = λ a b e g. absurd (cc); open_end = λ x. none }

with_timed : (site : Site) (h : History) (e : Entry) (f was : ℕ) (s : RequestFile) (o : Option Recall) → was ≤ e.at → waits s.state ≡ true → Timed was s → Timed e.at (with_recall site h e f s o)
with_timed site h e f was s None low w t = recall_timed site h e e.ask f was s low t
with_timed site h e f was s (Some r) low w t =
    elim (bool_cases (claim_names e.ask e.answer (recall_job r.birth f)))
    [ inl named ↦ rw named (started_timed was e.at s low w t) | inr other ↦ rw other (later was e.at s low t) ]

waiting_timed : (site : Site) (h : History) (e : Entry) (id was : ℕ) (s : RequestFile) (o : Option ℕ) → was ≤ e.at → waits s.state ≡ true → Timed was s → Timed e.at (waiting_after site h e id s o)
waiting_timed site h e id was s None low w t = later was e.at s low t
waiting_timed site h e id was s (Some f) low w t =
    elim (bool_cases (cancels e.ask id s.path))
    [ inl c ↦ rw c (ends_now was e.at s file.Cancelled low refl t) | inr c ↦ rw c (with_timed site h e f was s (live_recall site (e ∷ h) f) low w t) ]

moved_timed : (site : Site) (h : History) (e : Entry) (id was : ℕ) (s : RequestFile) (state : FileState) → s.state ≡ state → was ≤ e.at → Timed was s → Timed e.at (moved_by site h e id s state)
moved_timed site h e id was s file.Submitted is low t = waiting_timed site h e id was s s.file low (ap waits is) t
moved_timed site h e id was s file.Started is low t = waiting_timed site h e id was s s.file low (ap waits is) t
moved_timed site h e id was s _ is low t = later was e.at s low t

released_timed : (b : Bool) (now : ℕ) (s : RequestFile) → Timed now s → Timed now (released_if b s)
released_timed true now s t = t
released_timed false now s t = t

timed : (site : Site) (h : History) → IsLegal site h → (id : ℕ) (r : StageRequest) → request_of site h id ≡ Some r → AllOf (Timed (last_moment h)) r.files
timed site =
    request_all site (λ h id s. Timed (last_moment h) s)
    (λ e h legal ws stage s asked. asked_timed site h e s s.file)
    (λ e h legal id low kept s t. released_timed (releases e.ask id s.path) e.at (moved_by site h e id s s.state) (moved_timed site h e id (last_moment h) s s.state refl legal.1.later t))

pub finishes_after_start : FinishesAfterStart
finishes_after_start site h legal id r is = later_all r.files (timed site h legal id r is)
  where
    later_all : (ss : List RequestFile) → AllOf (Timed (last_moment h)) ss → AllByRecursion FinishesLater ss
    later_all [] all = tt
    later_all (s ∷ ss) all = (all.0.order, later_all ss all.1)
