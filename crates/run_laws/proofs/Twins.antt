-- Two runs of the same records over benches that tell are alike.
use Rattle.std.proofs.Common.{◌≡◌, ◌∙◌, ℕ, suc, List, [], ◌∷◌, length, true, false, arith, refl, sym, ap, ap₂, subst, subst₂, map, inl}
use Rattle.std.specs.Prelude.{Option, Some, None, IsSome, IfSome, option_map, slice_get}
use Rattle.std.proofs.lemmas.Option.{same_Some}
use Rattle.blob.specs.Records.{MediumView}
use Rattle.cta_site.specs.declared.site.Site.{Site}
use Rattle.conn.specs.Cut.{Event}
use Rattle.drive_session.specs.declared.reports.Done.{Done}
use Rattle.drive_session.specs.Table.{row_of}
use Rattle.media.specs.Counted.{no_counts}
use Rattle.media.specs.Drives.{DriveView, Plan}
use Rattle.media.specs.Made.{plan_of}
use Rattle.mismatch_laws.specs.Alike.{AreAlike}
use Rattle.replay.specs.Outcome.{AreMade}
use Rattle.replay.specs.Output.{FitsHappening, HaveContents, after, run_behind, written_for}
use Rattle.replay.specs.Run.{Answered, Happening, Stepped}
use Rattle.replay.specs.Steps.{Made, RunState, begun_with, free_drive, kept_in, row_at, row_in}
use Rattle.run_laws.specs.Texts.{AreAlikeTexts, EachAlike, texts_on}
use Rattle.run_laws.proofs.Due.{due, heard_alone, plan_then}
use Rattle.run_laws.proofs.Replied.{event_alike, event_texts}
use Rattle.run_laws.proofs.Rows.{row_without_found, rows_alike}
use Rattle.run_laws.proofs.Steady.{AreDue, IsDueAt, IsDueIn}
use Rattle.run_laws.proofs.Stepped.{AreTwins, Standing, got_map, standing_of, step_behind, step_text}

-- ---- the same of two runs

-- two things that happen are twins: an event on one link at one moment, or a step of one drive at one moment
abbrev pub IsTwin : Happening → Happening → Type 0
IsTwin (Answered link moment x) (Answered l m y) = (link ≡ l) × (moment ≡ m) × (x.event ≡ y.event)
IsTwin (Answered link moment x) (Stepped e m f seen left) = ⊥
IsTwin (Stepped drive moment heard look other) (Answered l m y) = ⊥
IsTwin (Stepped drive moment heard look other) (Stepped e m f seen left) = (drive ≡ e) × (moment ≡ m)

abbrev pub EachTwin : List Happening → List Happening → Type 0
EachTwin [] [] = Unit {0}
EachTwin [] (k ∷ ks) = ⊥
EachTwin (h ∷ hs) [] = ⊥
EachTwin (h ∷ hs) (k ∷ ks) = IsTwin h k × EachTwin hs ks

-- what two runs keep alike in one thing that happens
record StaysAlike (s t : RunState) (h k : Happening) : Type 0 where
  texts : AreAlikeTexts (written_for s h) (written_for t k)
  twins : AreTwins (run_behind s h) (run_behind t k)

StepClaim : RunState → RunState → Happening → Happening → Type 0
StepClaim s t h k = AreTwins s t → FitsHappening s h → FitsHappening t k → IsDueIn s h → IsDueIn t k → StaysAlike s t h k

-- ---- events

answered_alike : (s t : RunState) (link moment : ℕ) (e : Event) (c d : Option (List ℕ)) → StepClaim s t (Answered link moment (record { event = e; content = c })) (Answered link moment (record { event = e; content = d }))
unfolding StepClaim
answered_alike s t link moment e c d x fits also due_s due_t = record {
  texts = event_texts (kept_in s) (kept_in t) moment x.kept link e c d fits also;
  twins = record { kept = record { site = x.kept.site; history = event_alike (kept_in s) (kept_in t) moment x.kept e }; drives = x.drives };
}

-- ---- steps

-- rows at drives that stand the same, for answers that are due
rows_at : (s t : RunState) (drive : ℕ) (heard other : Option Done) (seen look : DriveView) → AreTwins s t → IsDueAt s drive heard seen → IsDueAt t drive other look
    → (option_map row_without_found (row_at s drive heard) ≡ option_map row_without_found (row_at t drive other)) × (seen.plan ≡ look.plan)
rows_at s t drive heard other seen look x a b =
    let stands : Some (standing_of a.state) ≡ Some (standing_of b.state) =
    ap (option_map standing_of) (sym a.at) ∙ sym (got_map standing_of s.drives drive) ∙ ap (λ ds. slice_get ds drive) x.drives ∙ got_map standing_of t.drives drive ∙ ap (option_map standing_of) b.at in
    let same : standing_of a.state ≡ standing_of b.state = same_Some (standing_of a.state) (standing_of b.state) stands in
    let phase : a.state.phase ≡ b.state.phase = ap (λ (y : Standing). y.phase) same in
    let plans : Some a.due_so.plan ≡ Some b.due_so.plan = sym a.due_so.tells ∙ ap (λ (y : Standing). y.plan) same ∙ b.due_so.tells in
    let plan : a.due_so.plan ≡ b.due_so.plan = same_Some a.due_so.plan b.due_so.plan plans in
    let dues : due a.state.phase a.due_so.plan ≡ due b.state.phase b.due_so.plan = ap₂ due phase plan in
    let answers : heard_alone heard ≡ heard_alone other = a.due_so.answer ∙ dues ∙ sym b.due_so.answer in (
      ap (λ o. option_map row_without_found (row_in drive heard o)) a.at
          ∙ rows_alike drive a.state.phase heard other answers
          ∙ ap (λ p. option_map row_without_found (row_of drive p other)) phase
          ∙ ap (λ o. option_map row_without_found (row_in drive other o)) (sym b.at),
      a.due_so.behind ∙ ap₂ plan_then dues plans ∙ sym b.due_so.behind,
    )

stepped_alike : (s t : RunState) (drive moment : ℕ) (heard other : Option Done) (seen look : DriveView) (left rest : Option MediumView) → StepClaim s t (Stepped drive moment heard seen left) (Stepped drive moment other look rest)
unfolding StepClaim
stepped_alike s t drive moment heard other seen look left rest x fits also due_s due_t =
    let rows = rows_at s t drive heard other seen look x due_s due_t in
    record {
      texts = inl (step_text s t x moment drive (row_at s drive heard) (row_at t drive other) fits.row also.row rows.0);
      twins = step_behind s t x moment drive (row_at s drive heard) (row_at t drive other) seen look left rest fits.row also.row rows.0 rows.1;
    }

-- ---- all that happens

twin_alike : (s t : RunState) (h k : Happening) → IsTwin h k → StepClaim s t h k
twin_alike s t (Answered link moment x) (Answered l m y) is =
    subst₂ (λ a b. StepClaim s t (Answered link moment x) (Answered a b y)) is.0 is.1
    (subst (λ e. StepClaim s t (Answered link moment x) (Answered link moment (record { event = e; content = y.content }))) is.2 (answered_alike s t link moment x.event x.content y.content))
twin_alike s t (Answered link moment x) (Stepped e m f seen left) is = absurd is
twin_alike s t (Stepped drive moment heard look other) (Answered l m y) is = absurd is
twin_alike s t (Stepped drive moment heard look other) (Stepped e m f seen left) is =
    subst₂ (λ a b. StepClaim s t (Stepped drive moment heard look other) (Stepped a b f seen left)) is.0 is.1 (stepped_alike s t drive moment heard f look seen other left)

record AreAlikeAll (s t : RunState) (hs ks : List Happening) : Type 0 where
  texts : EachAlike (texts_on s hs) (texts_on t ks)
  twins : AreTwins (after s hs) (after t ks)

all_alike : (s t : RunState) (hs ks : List Happening) → EachTwin hs ks → AreTwins s t → HaveContents s hs → HaveContents t ks → AreDue s hs → AreDue t ks → AreAlikeAll s t hs ks
unfolding StepClaim
all_alike s t [] [] twin x fits also due_s due_t = record { texts = tt; twins = x }
all_alike s t [] (k ∷ ks) twin x fits also due_s due_t = absurd twin
all_alike s t (h ∷ hs) [] twin x fits also due_s due_t = absurd twin
all_alike s t (h ∷ hs) (k ∷ ks) twin x fits also due_s due_t =
    let first : StaysAlike s t h k = twin_alike s t h k twin.0 x fits.0 also.0 due_s.0 due_t.0 in
    let rest : AreAlikeAll (run_behind s h) (run_behind t k) hs ks = all_alike (run_behind s h) (run_behind t k) hs ks twin.1 first.twins fits.1 also.1 due_s.1 due_t.1 in
    record { texts = (first.texts, rest.texts); twins = rest.twins }

-- ---- at the start

site_plan : (o : Option Plan) (q : Plan) → IsSome o → IfSome o (λ p. p ≡ q) → o ≡ Some q
site_plan None q some is = absurd (let no : false ≡ true = some in cc)
site_plan (Some p) q some is = ap Some is

same_standing : (xs ys : List DriveView) → length xs ≡ length ys → ((d : ℕ) (v w : DriveView) → slice_get xs d ≡ Some v → slice_get ys d ≡ Some w → v.plan ≡ w.plan)
    → map standing_of (map free_drive xs) ≡ map standing_of (map free_drive ys)
same_standing [] [] len plans = refl
same_standing [] (y ∷ ys) len plans = absurd (omega arith)
same_standing (x ∷ xs) [] len plans = absurd (omega arith)
same_standing (x ∷ xs) (y ∷ ys) len plans =
    ap₂ (λ p rest. record { phase = (free_drive x).phase; plan = p } ∷ rest) (plans 0 x y refl refl) (same_standing xs ys (omega arith) (λ d v w is at. plans (suc d) v w is at))

first_twins : (site : Site) (made more : Made) → AreMade true site made → AreMade true site more → AreTwins (begun_with site made) (begun_with site more)
first_twins site made more new also = record {
  kept = record { site = refl; history = refl };
  drives = same_standing made.drives more.drives (new.drives.count ∙ sym also.drives.count) (λ d v w is at.
      let q : Plan = record { entries = plan_of site d; made = no_counts } in
      let a = new.drives.each d v is in
      let b = also.drives.each d w at in
      site_plan v.plan q (a.told refl) a.plan ∙ sym (site_plan w.plan q (b.told refl) b.plan));
}

-- two runs from their start, in which the same happens
pub runs_alike : (site : Site) (made more : Made) (hs ks : List Happening) → EachTwin hs ks → AreMade true site made → AreMade true site more
    → HaveContents (begun_with site made) hs → HaveContents (begun_with site more) ks → AreDue (begun_with site made) hs → AreDue (begun_with site more) ks
    → EachAlike (texts_on (begun_with site made) hs) (texts_on (begun_with site more) ks) × AreAlike (after (begun_with site made) hs).history (after (begun_with site more) ks).history
runs_alike site made more hs ks twin new also fits fitting due_s due_t =
    let all = all_alike (begun_with site made) (begun_with site more) hs ks twin (first_twins site made more new also) fits fitting due_s due_t in
    (all.texts, all.twins.kept.history)
