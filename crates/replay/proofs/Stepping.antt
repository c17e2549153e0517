-- A step of a desk, by that of its session.
use Rattle.std.proofs.Common.{◌≡◌, ℕ, zero, suc, ◌<◌, Bool, true, false, List, [], ◌∷◌, length, refl, sym, ap, ◌∙◌, subst}
use Rattle.std.specs.Prelude.{IfOk, Option, Some, None, Result, Ok, Err, is_ok, map, slice_get, slice_index_or, slice_set}
use Rattle.std.proofs.lemmas.Option.{same_Some, slice_get-get_or}
use Rattle.blob.specs.Records.{MediumView}
use Rattle.cta_values.specs.declared.no_memory.NoMemory.{NoMemory}
use Rattle.cta_site.specs.declared.site.Site.{Site}
use Rattle.cta_model.specs.declared.asks.Ask.{Ask}
use Rattle.cta_model.specs.History.{History}
use Rattle.cta_model.specs.Kept.{Kept}
use Rattle.cta_model.specs.Legal.{IsLegal}
use Rattle.archive.specs.States.{AreShelved}
use Rattle.media.specs.Drives.{DriveView}
use Rattle.drive_session.specs.declared.reports.Done.{Done}
use Rattle.drive_session.specs.declared.reports.StepLine.{StepLine}
use Rattle.drive_session.specs.declared.session.Memo.{Memo}
use Rattle.drive_session.specs.Lawful.{IsSaid}
use Rattle.drive_session.specs.Steps.{NoMismatch, medium_held}
use Rattle.drive_session.specs.Table.{Row, phase_of}
use Rattle.session_laws.specs.Laws.{SessionStays}
use Rattle.cta_model.specs.Answers.{answer_of}
use Rattle.replay.specs.Desk.{AreManned, DeskView, IsManned, IsTurn, StepsOn, desk_of, drive_state, drive_states}
use Rattle.replay.specs.Output.{run_behind}
use Rattle.replay.specs.Promises.{AllTapesHaveMedia, HasGivenNext, HaveMediaBehind, IsTelling}
use Rattle.replay.specs.Run.{Stepped}
use Rattle.replay.specs.Steps.{DriveState, HasAnsweredSo, HasCarriedOut, HasLeftSo, IsRowFit, RunState, answer_to, behind_row, kept_by, line_at, line_behind, line_by_row, medium_behind, phase_behind, row_at, row_in}
use Rattle.replay.proofs.Manned.{states_at, states_put, step_keeps}
use Rattle.replay.proofs.Running.{kept_after-site}
use Rattle.replay.proofs.TrueMedia.{all_media}

-- the element of an index that is there
pub indexed : {A : Type 0} (xs : List A) (k : ℕ) (x : A) → k < length xs → x ≡ slice_index_or xs k x → slice_get xs k ≡ Some x
indexed xs k x within is = slice_get-get_or xs k x within ∙ ap Some (sym is)

pub length-map : {A B : Type 0} (f : A → B) (xs : List A) → length (map f xs) ≡ length xs
length-map f [] = refl
length-map f (x ∷ xs) = ap suc (length-map f xs)

-- what is seen of the element of an index
pub seen_at : {A B : Type 0} (f : A → B) (xs : List A) (k : ℕ) (x : A) → slice_get xs k ≡ Some x → slice_get (map f xs) k ≡ Some (f x)
seen_at f [] k x is = absurd (let no : None ≡ Some x = is in cc)
seen_at f (y ∷ xs) zero x is = ap (λ z. Some (f z)) (same_Some y x is)
seen_at f (y ∷ xs) (suc k) x is = seen_at f xs k x is

kept_by-site : (k : Kept) (t : ℕ) (left : Option MediumView) (o : Option Ask) → (kept_by k t left o).site ≡ k.site
kept_by-site k t left None = refl
kept_by-site k t left (Some a) = kept_after-site k t a (answer_of k.site k.history t a) left

pub same_run : (a a' : Site) (h h' : History) (ms ms' : List (Option MediumView)) (ds ds' : List DriveState) → a ≡ a' → h ≡ h' → ms ≡ ms' → ds ≡ ds'
    → ◌≡◌ {A = RunState} (record { site = a; history = h; shelf = ms; drives = ds }) (record { site = a'; history = h'; shelf = ms'; drives = ds' })
same_run a a' h h' ms ms' ds ds' e f i g = rw (e, f, i, g) refl

module _ {M : Type 0} (told : M → MediumView) (stays : SessionStays told) (kept : Kept) (ms : List (Memo M)) (vs : List DriveView) (ready : Bool) (desk : DeskView)
    (is : desk_of told kept ms vs ready ≡ desk) (keeps : ready ≡ true → AreManned told kept.site kept.history ms vs) (on : desk.ready ≡ true) where
  pub manned : AreManned told kept.site kept.history ms vs
  manned = keeps (ap (λ (k : DeskView). k.ready) is ∙ on)

  module _ (d : ℕ) (within : d < length desk.run.site.drives.items) where
    known : d < length kept.site.drives.items
    known = subst (λ (k : DeskView). d < length k.run.site.drives.items) (sym is) within

    pub in_sessions : d < length ms
    in_sessions = subst (λ n. d < n) (sym manned.sessions) known

    pub in_drives : d < length vs
    in_drives = subst (λ n. d < n) (sym manned.drives) known

    module _ (m : Memo M) (v : DriveView) (at : slice_get ms d ≡ Some m) (seen : slice_get vs d ≡ Some v) where
      pub here : IsManned told kept.site kept.history d m v
      here = manned.each d m v at seen

      abbrev run : RunState
      run = record { site = kept.site; history = kept.history; shelf = kept.shelf; drives = drive_states told ms vs }

      state_is : slice_get run.drives d ≡ Some (drive_state told m v)
      state_is = states_at told ms vs d m v at seen

      module _ (now : Kept) (m' : Memo M) (v' : DriveView) (t : ℕ) where
        abbrev next : RunState
        next = record { site = now.site; history = now.history; shelf = now.shelf; drives = drive_states told (slice_set ms d m') (slice_set vs d v') }

        -- each drive stays manned
        pub still_manned : IsLegal now.site now.history → (o : Result StepLine NoMemory) → IfOk o (λ l. IsTurn told kept now m m' v v' d t l) → is_ok o ≡ true → AreManned told now.site now.history (slice_set ms d m') (slice_set vs d v')
        still_manned legal (Ok l) y ok =
            let site : now.site ≡ kept.site = ap (λ (k : Kept). k.site) y.keeps ∙ kept_by-site kept t y.left y.row.ask in
            let kept_legal : IsLegal kept.site now.history = subst (λ s. IsLegal s now.history) site legal in
            let kept_here : IsManned told kept.site now.history d m' v' = subst (λ s. IsManned told s now.history d m' v') site y.manned in
            let all : AreManned told kept.site now.history (slice_set ms d m') (slice_set vs d v') =
            step_keeps told stays kept.site kept now t d y.left y.row.ask ms vs m' v' y.keeps site kept_legal y.about manned in_sessions in_drives kept_here in
            subst (λ s. AreManned told s now.history (slice_set ms d m') (slice_set vs d v')) (sym site) all
        still_manned legal (Err why) y ok = absurd (let no : false ≡ true = ok in cc)

        -- the run is that behind the step
        run_is : (heard : Option Done) (left : Option MediumView) (r : Row) → row_at run d heard ≡ Some r → now ≡ kept_by kept t left r.ask → phase_of m'.state ≡ phase_behind r (answer_to kept t r)
            → medium_held told m'.state ≡ medium_behind kept.shelf left r.ask (answer_to kept t r) → next ≡ run_behind run (Stepped d t heard v' left)
        run_is heard left r at_row keeps_so phase medium =
            let site : now.site ≡ kept.site = ap (λ (k : Kept). k.site) keeps_so ∙ kept_by-site kept t left r.ask in
            let drives : drive_states told (slice_set ms d m') (slice_set vs d v') ≡ slice_set run.drives d (record { phase = phase_behind r (answer_to kept t r); seen = v'; medium = medium_behind kept.shelf left r.ask (answer_to kept t r) }) =
            states_put told ms vs d m' v' ∙ ap (λ p. slice_set run.drives d (record { phase = p; seen = v'; medium = medium_held told m'.state })) phase
            ∙ ap (λ o. slice_set run.drives d (record { phase = phase_behind r (answer_to kept t r); seen = v'; medium = o })) medium in
            same_run now.site kept.site now.history (kept_by kept t left r.ask).history now.shelf (kept_by kept t left r.ask).shelf _ _ site (ap (λ (k : Kept). k.history) keeps_so) (ap (λ (k : Kept). k.shelf) keeps_so) drives
            ∙ ap (behind_row run d t v' left) (sym at_row)

        -- the line of a step is the one that was told
        line_told : (heard : Option Done) (r : Row) (l l' : StepLine) → row_at run d heard ≡ Some r → l ≡ line_behind r (answer_to kept t r) → line_at run d t heard ≡ Some l' → l ≡ l'
        line_told heard r l l' at_row is told_so = is ∙ same_Some _ l' (sym (ap (line_by_row kept t) at_row) ∙ told_so)

        -- what is said of this drive is said of the one at its number
        of_drive : (P : DriveState → Type 0) → P (drive_state told m v) → (x : DriveState) → slice_get run.drives d ≡ Some x → P x
        of_drive P is x at = subst P (same_Some (drive_state told m v) x (sym state_is ∙ at)) is

        media_on : IsLegal now.site now.history → AreShelved now.site now.history now.shelf → (l : StepLine) (y : IsTurn told kept now m m' v v' d t l) → row_at run d y.done ≡ Some y.row → HaveMediaBehind run d t v' y.left (Some y.row)
        media_on legal shelf l y at_row =
            let all = all_media told now legal shelf (slice_set ms d m') (slice_set vs d v') (still_manned legal (Ok l) y refl) in
            subst AllTapesHaveMedia (run_is y.done y.left y.row at_row y.keeps y.phase y.medium ∙ ap (behind_row run d t v' y.left) at_row) all

        stepped_on : IsLegal now.site now.history → AreShelved now.site now.history now.shelf → (o : Result StepLine NoMemory) → IfOk o (λ l. IsTurn told kept now m m' v v' d t l) → IfOk o (λ l. StepsOn run next d t l)
        stepped_on legal shelf (Ok l) y =
            let at_row : row_at run d y.done ≡ Some y.row = ap (row_in d y.done) state_is ∙ y.at in
            record {
              done = y.done;
              seen = v';
              left = y.left;
              row = y.row;
              is = record {
                device = subst (λ s. HasAnsweredSo s y.done v') (sym state_is) y.heard;
                medium = subst (λ s. HasLeftSo s y.done y.left) (sym state_is) y.leaves;
                row = subst (HasCarriedOut kept t) (sym at_row) y.carried;
              };
              sound = record {
                fit = subst (IsRowFit kept) (sym at_row) y.carried.fit;
                said = λ l' is. subst (λ z. IsSaid z y.done) (line_told y.done y.row l l' at_row y.line is) y.said;
                media = subst (HaveMediaBehind run d t v' y.left) (sym at_row) (media_on legal shelf l y at_row);
                given = of_drive (λ x. HasGivenNext x x.medium y.done) y.given;
                tells = of_drive (λ x. IsTelling x.medium → IsTelling y.left) y.tells;
                honest = of_drive (λ x. IsTelling x.medium → x.seen.honest ≡ true → (v'.honest ≡ true) × NoMismatch y.done) y.honest;
              };
              at = at_row;
              line = y.line;
              keeps = run_is y.done y.left y.row at_row y.keeps y.phase y.medium;
            }
        stepped_on legal shelf (Err e) y = tt

        pub stepped : IsLegal now.site now.history → AreShelved now.site now.history now.shelf → (o : Result StepLine NoMemory) → IfOk o (λ l. IsTurn told kept now m m' v v' d t l) → IfOk o (λ l. StepsOn desk.run next d t l)
        stepped legal shelf o y = subst (λ (k : DeskView). IfOk o (λ l. StepsOn k.run next d t l)) is (stepped_on legal shelf o y)
