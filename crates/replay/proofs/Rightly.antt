-- Over a bench that tells, a drive that is honest at first reads rightly.
use Rattle.std.proofs.Common.{◌≡◌, ◌≢◌, ℕ, zero, suc, inl, inr, Bool, true, List, [], ◌∷◌, refl, sym, ap, ◌∙◌, subst}
use Rattle.std.specs.Prelude.{Option, Some, None, map, slice_get, slice_set}
use Rattle.std.specs.List.{AllByRecursion}
use Rattle.std.proofs.lemmas.Bool.{cases_Bool, cases_eq}
use Rattle.std.proofs.lemmas.Option.{none-some, same_Some}
use Rattle.blob.specs.Records.{MediumView, medium_at}
use Rattle.cta_site.specs.declared.site.Site.{Site}
use Rattle.cta_model.specs.declared.answers.Answer.{Answer}
use Rattle.cta_model.specs.declared.answers.Answer.TheVariants as answer
use Rattle.cta_model.specs.declared.asks.Ask.{Ask}
use Rattle.cta_model.specs.declared.asks.Ask.TheVariants as ask
use Rattle.cta_model.specs.Answers.{answer_of, is_accepted}
use Rattle.cta_model.specs.Kept.{shelf_after}
use Rattle.drive_session.specs.declared.reports.Done.{Done}
use Rattle.drive_session.specs.Steps.{NoMismatch}
use Rattle.drive_session.specs.Table.{Row}
use Rattle.media.specs.Drives.{DriveView}
use Rattle.tape_routes.specs.Callers.{CallersAsk}
use Rattle.archive_opening.specs.Made.{AreNewMedia}
use Rattle.replay.specs.Laws.{LiveReadsAreDone}
use Rattle.replay.specs.Outcome.{AreMade}
use Rattle.replay.specs.Output.{run_behind}
use Rattle.replay.specs.Promises.{AreSound, IsSound, IsSoundStep, IsTelling, ReadsRightly}
use Rattle.replay.specs.Run.{Answered, Happening, Stepped}
use Rattle.replay.specs.Steps.{DriveState, Made, RunState, answer_to, begun_with, behind_row, free_drive, kept_by, kept_in, medium_behind, phase_behind, row_at, row_in}
use Rattle.replay.proofs.Promised.{event_shelf}
use Rattle.replay.proofs.ReadLines.{silent}

-- ---- lists

put_same : {A : Type 0} (xs : List A) (k : ℕ) (x y : A) → slice_get xs k ≡ Some x → slice_get (slice_set xs k y) k ≡ Some y
put_same [] k x y is = absurd (none-some x is)
put_same (z ∷ xs) zero x y is = refl
put_same (z ∷ xs) (suc k) x y is = put_same xs k x y is

put_other : {A : Type 0} (xs : List A) (k j : ℕ) (x : A) → j ≢ k → slice_get (slice_set xs k x) j ≡ slice_get xs j
put_other [] k j x apart = refl
put_other (y ∷ xs) zero zero x apart = absurd (apart refl)
put_other (y ∷ xs) zero (suc j) x apart = refl
put_other (y ∷ xs) (suc k) zero x apart = refl
put_other (y ∷ xs) (suc k) (suc j) x apart = put_other xs k j x (λ e. apart (ap suc e))

pub all_put : {A : Type 0} (P : A → Type 0) (xs : List A) (k : ℕ) (x : A) → P x → AllByRecursion P xs → AllByRecursion P (slice_set xs k x)
all_put P [] k x is all = tt
all_put P (y ∷ xs) zero x is all = (is, all.1)
all_put P (y ∷ xs) (suc k) x is all = (all.0, all_put P xs k x is all.1)

pub all_got : {A : Type 0} (P : A → Type 0) (xs : List A) (k : ℕ) (x : A) → slice_get xs k ≡ Some x → AllByRecursion P xs → P x
all_got P [] k x is all = absurd (none-some x is)
all_got P (y ∷ xs) zero x is all = subst P (same_Some y x is) all.0
all_got P (y ∷ xs) (suc k) x is all = all_got P xs k x is all.1

pub all_map : {A B : Type 0} (P : B → Type 0) (f : A → B) (xs : List A) → ((k : ℕ) (x : A) → slice_get xs k ≡ Some x → P (f x)) → AllByRecursion P (map f xs)
all_map P f [] each = tt
all_map P f (x ∷ xs) each = (each 0 x refl, all_map P f xs (λ k y is. each (suc k) y is))

-- ---- each medium tells its records

-- so does each on the shelf, and each that a drive has
record AllTell (s : RunState) : Type 0 where
  shelf : AllByRecursion IsTelling s.shelf
  drives : AllByRecursion (λ (d : DriveState). IsTelling d.medium) s.drives

pub told_at : (shelf : List (Option MediumView)) (v : ℕ) → AllByRecursion IsTelling shelf → IsTelling (medium_at shelf v)
told_at [] v all = tt
told_at (o ∷ shelf) zero all = all.0
told_at (o ∷ shelf) (suc v) all = told_at shelf v all.1

pub shelf_tells : (k : Ask) (a : Answer) (left : Option MediumView) (shelf : List (Option MediumView)) → IsTelling left → AllByRecursion IsTelling shelf → AllByRecursion IsTelling (shelf_after k a left shelf)
shelf_tells (ask.Next d) (answer.Mounted m way v) left shelf tells all = all_put IsTelling shelf v None tt all
shelf_tells (ask.End m fault) a None shelf tells all = all
shelf_tells (ask.End m fault) a (Some x) shelf tells all = all_put IsTelling shelf x.label (Some x) tells all
shelf_tells _ a left shelf tells all = all

pub drive_tells : (k : Option Ask) (a : Option Answer) (left : Option MediumView) (shelf : List (Option MediumView)) → IsTelling left → AllByRecursion IsTelling shelf → IsTelling (medium_behind shelf left k a)
drive_tells (Some (ask.Next d)) (Some (answer.Mounted m way v)) left shelf tells all = told_at shelf v all
drive_tells (Some (ask.End m fault)) a left shelf tells all = tt
drive_tells _ a left shelf tells all = tells

pub kept_tells : (s : RunState) (moment : ℕ) (left : Option MediumView) (k : Option Ask) → IsTelling left → AllByRecursion IsTelling s.shelf → AllByRecursion IsTelling (kept_by (kept_in s) moment left k).shelf
kept_tells s moment left None tells all = all
kept_tells s moment left (Some k) tells all =
    elim (cases_Bool (is_accepted (answer_of s.site s.history moment k))) [
      | inl hit ↦ rw hit (shelf_tells k (answer_of s.site s.history moment k) left s.shelf tells all)
      | inr miss ↦ rw miss all
    ]

row_tells : (s : RunState) (drive moment : ℕ) (seen : DriveView) (left : Option MediumView) (o : Option Row) → IsTelling left → AllTell s → AllTell (behind_row s drive moment seen left o)
row_tells s drive moment seen left None tells all = all
row_tells s drive moment seen left (Some r) tells all = record {
  shelf = kept_tells s moment left r.ask tells all.shelf;
  drives = all_put (λ (d : DriveState). IsTelling d.medium) s.drives drive
      (record {
        phase = phase_behind r (answer_to (kept_in s) moment r);
        seen = seen;
        medium = medium_behind s.shelf left r.ask (answer_to (kept_in s) moment r);
      }) (drive_tells r.ask (answer_to (kept_in s) moment r) left s.shelf tells all.shelf) all.drives;
}

step_tells : (s : RunState) (drive moment : ℕ) (heard : Option Done) (seen : DriveView) (left : Option MediumView) (o : Option DriveState) → o ≡ slice_get s.drives drive
    → IsSoundStep s drive moment heard seen left → AllTell s → AllTell (behind_row s drive moment seen left (row_in drive heard o))
step_tells s drive moment heard seen left None at sound all = all
step_tells s drive moment heard seen left (Some d) at sound all =
    let is : slice_get s.drives drive ≡ Some d = sym at in
    row_tells s drive moment seen left (row_in drive heard (Some d)) (sound.tells d is (all_got (λ (x : DriveState). IsTelling x.medium) s.drives drive d is all.drives)) all

tell_behind : CallersAsk → (s : RunState) (h : Happening) → IsSound s h → AllTell s → AllTell (run_behind s h)
tell_behind callers s (Answered link moment exchange) sound all = record {
  shelf = subst (AllByRecursion IsTelling) (sym (event_shelf callers (kept_in s) moment exchange.event)) all.shelf;
  drives = all.drives;
}
tell_behind callers s (Stepped drive moment heard seen left) sound all = step_tells s drive moment heard seen left (slice_get s.drives drive) refl sound all

first_tell : (site : Site) (made : Made) → AreNewMedia true site made.media → AllTell (begun_with site made)
first_tell site made new = record {
  shelf = all_map IsTelling Some made.media (λ v m is. (new.each v m is).shown refl);
  drives = all_map (λ (d : DriveState). IsTelling d.medium) free_drive made.drives (λ d v is. tt);
}

-- ---- reads

-- there is a drive of this number, and it is honest
record IsHonestIn (d : ℕ) (ds : List DriveState) : Type 0 where
  state : DriveState
  at : slice_get ds d ≡ Some state
  honest : state.seen.honest ≡ true

honest_put : (ds : List DriveState) (k d : ℕ) (y : DriveState) → (k ≡ d → y.seen.honest ≡ true) → IsHonestIn d ds → IsHonestIn d (slice_set ds k y)
honest_put ds k d y new is =
    elim (cases_eq d k) [
      | inl same ↦ (record { state = y; at = subst (λ j. slice_get (slice_set ds k y) j ≡ Some y) (sym same) (put_same ds k is.state y (subst (λ j. slice_get ds j ≡ Some is.state) same is.at)); honest = new (sym same) })
      | inr apart ↦ (record { state = is.state; at = put_other ds k d y apart ∙ is.at; honest = is.honest })
    ]

row_honest : (s : RunState) (drive moment d : ℕ) (seen : DriveView) (left : Option MediumView) (o : Option Row) → (drive ≡ d → seen.honest ≡ true) → IsHonestIn d s.drives
    → IsHonestIn d (behind_row s drive moment seen left o).drives
row_honest s drive moment d seen left None new is = is
row_honest s drive moment d seen left (Some r) new is =
    honest_put s.drives drive d (record {
      phase = phase_behind r (answer_to (kept_in s) moment r);
      seen = seen;
      medium = medium_behind s.shelf left r.ask (answer_to (kept_in s) moment r);
    }) new is

module _ (callers : CallersAsk) (reads : LiveReadsAreDone) (d : ℕ) where
  step_right : (s : RunState) (drive moment : ℕ) (heard : Option Done) (seen : DriveView) (left : Option MediumView) → IsSoundStep s drive moment heard seen left → AllTell s → IsHonestIn d s.drives
      → drive ≡ d → (seen.honest ≡ true) × NoMismatch heard
  step_right s drive moment heard seen left sound tell is same =
      let at : slice_get s.drives drive ≡ Some is.state = subst (λ j. slice_get s.drives j ≡ Some is.state) (sym same) is.at in
      sound.honest is.state at (all_got (λ (x : DriveState). IsTelling x.medium) s.drives drive is.state at tell.drives) is.honest

  read_rightly : (s : RunState) (hs : List Happening) → AreSound s hs → AllTell s → IsHonestIn d s.drives → ReadsRightly d s hs
  read_rightly s [] sound tell is = tt
  read_rightly s (Answered link moment exchange ∷ hs) sound tell is =
      let h = Answered link moment exchange in
      (tt, read_rightly (run_behind s h) hs sound.1 (tell_behind callers s h tt tell) is)
  read_rightly s (Stepped drive moment heard seen left ∷ hs) sound tell is =
      let h = Stepped drive moment heard seen left in
      let x : drive ≡ d → (seen.honest ≡ true) × NoMismatch heard = step_right s drive moment heard seen left sound.0 tell is in (
        λ same. record {
          none = (x same).1;
          silent = λ l is. silent l heard (sound.0.said l is) (x same).1;
          reads = reads s drive moment heard (x same).1;
        },
        read_rightly (run_behind s h) hs sound.1 (tell_behind callers s h sound.0 tell) (row_honest s drive moment d seen left (row_at s drive heard) (λ same. (x same).0) is),
      )

begun_honest : (ds : List DriveView) (d : ℕ) (v : DriveView) → slice_get ds d ≡ Some v → v.honest ≡ true → IsHonestIn d (map free_drive ds)
begun_honest [] d v is honest = absurd (none-some v is)
begun_honest (w ∷ ws) zero v is honest = record { state = free_drive w; at = refl; honest = ap (λ (z : DriveView). z.honest) (same_Some w v is) ∙ honest }
begun_honest (w ∷ ws) (suc d) v is honest =
    let x = begun_honest ws d v is honest in
    record { state = x.state; at = x.at; honest = x.honest }

-- a run from its start
pub reads_rightly : CallersAsk → LiveReadsAreDone → (tells : Bool) (site : Site) (made : Made) → AreMade tells site made → tells ≡ true → (d : ℕ) (v : DriveView) → slice_get made.drives d ≡ Some v → v.honest ≡ true
    → (hs : List Happening) → AreSound (begun_with site made) hs → ReadsRightly d (begun_with site made) hs
reads_rightly callers reads tells site made new told d v is honest hs sound =
    read_rightly callers reads d (begun_with site made) hs sound (first_tell site made (subst (λ b. AreNewMedia b site made.media) told new.media)) (begun_honest made.drives d v is honest)
