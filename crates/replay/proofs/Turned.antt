-- One step of a session, by its table.
use Rattle.std.proofs.Common.{◌≡◌, ℕ, true, false, refl, sym, ap, ◌∙◌, subst}
use Rattle.std.specs.Prelude.{IfOk, IsSome, Option, Some, None, Result, Ok, Err, option_map}
use Rattle.blob.specs.Records.{MediumView, TapeRecords, with_records}
use Rattle.cta_values.specs.declared.no_memory.NoMemory.{NoMemory}
use Rattle.cta_model.specs.declared.answers.Answer.{Answer}
use Rattle.cta_model.specs.declared.answers.Answer.TheVariants as answer
use Rattle.cta_model.specs.declared.asks.Ask.{Ask}
use Rattle.cta_model.specs.declared.asks.Item.{Item}
use Rattle.cta_model.specs.declared.hands.Hand.{Hand}
use Rattle.cta_model.specs.declared.hands.Hand.TheVariants as hand
use Rattle.cta_model.specs.Bare.{bare_ask}
use Rattle.cta_model.specs.Kept.{Kept}
use Rattle.media.specs.Drives.{DriveView}
use Rattle.media.specs.Records.{cut, flushed, unloaded, written}
use Rattle.drive_session.specs.declared.reports.Call.TheVariants as call
use Rattle.drive_session.specs.declared.reports.Done.{Done}
use Rattle.drive_session.specs.declared.reports.Done.TheVariants as done
use Rattle.drive_session.specs.declared.reports.Report.{Report}
use Rattle.drive_session.specs.declared.reports.StepLine.{StepLine}
use Rattle.drive_session.specs.declared.session.Memo.{Memo}
use Rattle.drive_session.specs.declared.states.Asked.{Asked}
use Rattle.drive_session.specs.declared.states.Asked.TheVariants as asked
use Rattle.drive_session.specs.declared.states.State.{State}
use Rattle.drive_session.specs.declared.states.State.TheVariants as state
use Rattle.drive_session.specs.Answers.{is_asking, is_memory, line_after, said}
use Rattle.drive_session.specs.Fits.{FitsOpen, FitsState}
use Rattle.drive_session.specs.Lawful.{IsSaid}
use Rattle.drive_session.specs.Steps.{FitsReport, HasDone, IsLeft, IsReadTruly, IsStep, LeavesMedium, NoMismatch, has_ask, is_loaded_in, item_written, medium_held, medium_left}
use Rattle.drive_session.specs.Table.{Row, HearsAnswers, ask_alone, heard, phase_of, row_of}
use Rattle.drive_session.specs.Works.{FitsMemo, IsWork, IsWorkBy}
use Rattle.cta_site.specs.declared.site.Site.{Site}
use Rattle.cta_model.specs.History.{History}
use Rattle.replay.specs.Desk.{HasNoMount, IsAskedOf, IsAbout, IsIdleFor, IsManned, IsTurn, drive_state}
use Rattle.replay.specs.Promises.{HasGivenNext, IsTelling}
use Rattle.replay.proofs.Freed.{free_phase, free_state, idle_for}
use Rattle.replay.proofs.FreeRows.{next_from_free, quiet_from_free}

heard_asking : (w : Asked) (e : Option Done) → is_asking w ≡ true → heard w e ≡ e
heard_asking asked.Next e is = refl
heard_asking asked.Claim e is = refl
heard_asking asked.Flushed e is = refl
heard_asking (asked.Recalled n) e is = refl
heard_asking (asked.Known o) e is = refl
heard_asking (asked.Nothing l) e is = absurd (let no : false ≡ true = is in cc)

-- the answer of a device to a call leaves its drive as honest as it was
still_honest : (v v' : DriveView) (e : Option Done) → HasDone v v' e → v.honest ≡ true → v'.honest ≡ true
still_honest v v' None h is = ap (λ (x : DriveView). x.honest) h ∙ is
still_honest v v' (Some (done.Ok c)) h is = h.honest ∙ is
still_honest v v' (Some (done.Fault c)) h is = h.honest ∙ is
still_honest v v' (Some (done.Mismatch found wanted)) h is = h.1.honest ∙ is
still_honest v v' (Some (done.NoMemory c)) h is = ap (λ (x : DriveView). x.honest) h.1 ∙ is

-- an honest drive gives no mismatch of a medium that tells
reads_truly : {M : Type 0} (told : M → MediumView) (v : DriveView) (s : State M) (e : Option Done) → IsTelling (medium_held told s) → IsReadTruly told v s e → v.honest ≡ true → NoMismatch e
reads_truly told v state.Free e tells r is = r
reads_truly told v (state.Held x) e tells r is = r
reads_truly told v (state.Ready x) e tells r is = r
reads_truly told v (state.Claimed x items blobs) e tells r is = r
reads_truly told v (state.Writing x b) e tells r is = r
reads_truly told v (state.Reading x items at) e tells r is = r.1 is tells
reads_truly told v (state.Leaving x) e tells r is = r

-- what was read is told truly
gives_truly : {M : Type 0} (told : M → MediumView) (m : Memo M) (v : DriveView) (s : State M) (e : Option Done) → m.state ≡ s → IsReadTruly told v s e → HasGivenNext (drive_state told m v) (medium_held told m.state) e
gives_truly told m v s e is r =
    subst (λ z. HasGivenNext (record { phase = phase_of z; seen = v; medium = medium_held told z }) (medium_held told z) e) (sym is) (by s r)
  where
    by : (z : State _) → IsReadTruly told v z e → HasGivenNext (record { phase = phase_of z; seen = v; medium = medium_held told z }) (medium_held told z) e
    by state.Free r = tt
    by (state.Held x) r = tt
    by (state.Ready x) r = tt
    by (state.Claimed x items blobs) r = tt
    by (state.Writing x b) r = tt
    by (state.Reading x items at) r = r.0
    by (state.Leaving x) r = tt

-- a change of records leaves a medium telling, if it was
telling_still : (f : TapeRecords → TapeRecords) (old new : MediumView) → new ≡ with_records f old → IsSome old.records → IsSome new.records
telling_still f old new e tells = subst (λ (m : MediumView). IsSome m.records) (sym e) (by old.records tells)
  where
    by : (o : Option TapeRecords) → IsSome o → IsSome (option_map f o)
    by None tells = tells
    by (Some t) tells = refl

telling_same : (old new : MediumView) → new ≡ old → IsSome old.records → IsSome new.records
telling_same old new e tells = subst (λ (m : MediumView). IsSome m.records) (sym e) tells

left_telling : (e : Option Done) (i : Option Item) (old new : MediumView) → IsLeft e i old new → IsSome old.records → IsSome new.records
left_telling (Some (done.Ok (call.Write s))) (Some i) old new is tells = telling_still (written s i.sum) old new is tells
left_telling (Some (done.Ok (call.Write s))) None old new is tells = telling_same old new is tells
left_telling (Some (done.Fault (call.Write s))) (Some i) old new is tells = telling_still (λ t. cut (is.0 t) t) old new is.2 tells
left_telling (Some (done.Fault (call.Write s))) None old new is tells = telling_same old new is tells
left_telling (Some (done.Ok call.Flush)) i old new is tells = telling_still flushed old new is tells
left_telling (Some (done.Fault call.Flush)) i old new is tells = telling_still (λ t. cut (is.0 t) t) old new is.2 tells
left_telling (Some (done.Ok call.Unload)) i old new is tells = telling_still unloaded old new is tells
left_telling (Some (done.Fault call.Unload)) i old new is tells = telling_still unloaded old new is tells
left_telling _ i old new is tells = telling_same old new is tells

-- so does a step
still_telling : (e : Option Done) (i : Option Item) (old new : Option MediumView) → LeavesMedium e i old new → IsTelling old → IsTelling new
still_telling e i (Some x) (Some y) is tells = left_telling e i x y is tells
still_telling e i (Some x) None is tells = absurd is
still_telling e i None (Some y) is tells = absurd is
still_telling e i None None is tells = tt

-- the line of a step that asked nothing
quiet_line : {M : Type 0} (w : Asked) (s : State M) (a : Answer) (k : Hand M) → is_asking w ≡ false → line_after w s a k ≡ said w
quiet_line (asked.Nothing l) s a k is = refl
quiet_line asked.Next s a k is = absurd (let no : true ≡ false = is in cc)
quiet_line asked.Claim s a k is = absurd (let no : true ≡ false = is in cc)
quiet_line asked.Flushed s a k is = absurd (let no : true ≡ false = is in cc)
quiet_line (asked.Recalled n) s a k is = absurd (let no : true ≡ false = is in cc)
quiet_line (asked.Known o) s a k is = absurd (let no : true ≡ false = is in cc)

-- a session that was between two steps has made one
pub record HasWorked {M : Type 0} (told : M → MediumView) (site : Site) (h : History) (d : ℕ) (m s : Memo M) (v v' : DriveView) (r : Report M) : Type 0 where
  pub manned : IsManned told site h d m v
  pub number : s.number ≡ d
  pub kept : s.kept ≡ None
  pub step : IsStep told d m.state v v' (record { state = s.state; asked = s.asked; report = r })
  pub loaded : v'.loaded ≡ is_loaded_in s.state
  pub fits : FitsReport told site h s.number s.state s.asked r.ask

pub has_worked : {M : Type 0} (told : M → MediumView) (site : Site) (h : History) (d : ℕ) (m s : Memo M) (v v' : DriveView) (r : Report M) → IsManned told site h d m v → IsWork told v v' m s r → v'.loaded ≡ is_loaded_in s.state
    → ((site : Site) (h : History) → FitsMemo told site h m → FitsReport told site h s.number s.state s.asked r.ask) → HasWorked told site h d m s v v' r
has_worked told site h d m s v v' r manned work loaded fits =
    let w = subst (IsWorkBy told v v' m s r) manned.kept work in
    record {
      manned = manned;
      number = w.0 ∙ manned.number;
      kept = w.1;
      step = subst (λ n. IsStep told n m.state v v' (record { state = s.state; asked = s.asked; report = r })) manned.number w.2;
      loaded = loaded;
      fits = fits site h (subst (FitsReport told site h m.number m.state m.asked) (sym manned.kept) (subst (λ n. FitsState told site h n m.state) (sym manned.number) manned.fits));
    }

module _ {M : Type 0} (told : M → MediumView) (old new : Kept) (d t : ℕ) (m s s' : Memo M) (v v' : DriveView) (r : Report M) (x : HasWorked told old.site old.history d m s v v' r) where
  honest_turn : IsTelling (medium_held told m.state) → v.honest ≡ true → (v'.honest ≡ true) × NoMismatch r.device
  honest_turn tells is = (still_honest v v' r.device x.step.device is, reads_truly told v m.state r.device tells x.step.read is)

  module _ (a : Ask) (k : Hand M) (asks : r.ask ≡ Some (a, k)) where
    pub opens : (q : Ask × Hand M) → q ≡ (a, k) → FitsOpen told old.site old.history s.number s.state s.asked q.0 q.1
    opens q same =
        let y : FitsOpen told old.site old.history s.number s.state s.asked a k = subst (FitsReport told old.site old.history s.number s.state s.asked) asks x.fits in
        subst (λ (p : Ask × Hand M). FitsOpen told old.site old.history s.number s.state s.asked p.0 p.1) (sym same) y

    pub asking : is_asking s.asked ≡ true
    asking = x.step.waits ∙ ap has_ask asks

    leaves_so : LeavesMedium r.device (item_written (phase_of m.state)) (medium_held told m.state) (medium_left told s.state (Some (a, k)))
    leaves_so = subst (λ o. LeavesMedium r.device (item_written (phase_of m.state)) (medium_held told m.state) (medium_left told s.state o)) asks x.step.left

    abbrev row : Row
    row = record { ask = Some (bare_ask a); asked = s.asked; phase = phase_of s.state }

    at : row_of d (phase_of m.state) r.device ≡ Some row
    at = ap (row_of d (phase_of m.state)) (sym (heard_asking s.asked r.device asking)) ∙ x.step.table ∙ ap (λ o. Some (record { ask = ask_alone o; asked = s.asked; phase = phase_of s.state })) asks

    -- what asks a Next has no mount
    idle : IsIdleFor old.history s.number (bare_ask a)
    idle =
        subst (λ n. IsIdleFor old.history n (bare_ask a)) (sym x.number)
        (idle_for old.history d (bare_ask a) (λ n is. x.manned.free (free_state m.state (next_from_free d (phase_of m.state) r.device row n at (ap Some is)))))

    pub idles : (q : Ask × Hand M) → q ≡ (a, k) → IsIdleFor old.history s.number (bare_ask q.0)
    idles q same = subst (λ (p : Ask × Hand M). IsIdleFor old.history s.number (bare_ask p.0)) (sym same) idle

    answered_turn : (o : Result StepLine NoMemory) → IfOk o (λ l. IsAskedOf told old new s s' t (bare_ask a) (medium_left told s.state (Some (a, k))) l) → IfOk o (λ l. IsTurn told old new m s' v v' d t l)
    answered_turn (Ok l) y = record {
      done = r.device;
      left = medium_left told s.state (Some (a, k));
      row = row;
      heard = x.step.device;
      leaves = leaves_so;
      medium = y.medium;
      given = gives_truly told m v m.state r.device refl x.step.read;
      tells = still_telling r.device (item_written (phase_of m.state)) (medium_held told m.state) (medium_left told s.state (Some (a, k))) leaves_so;
      at = at;
      carried = record { fit = y.fit; known = y.known; told = ap is_memory (sym y.line) ∙ y.memory };
      keeps = y.keeps;
      line = y.line;
      phase = y.phase;
      about = subst (λ n. IsAbout old.history n (bare_ask a)) x.number y.about;
      said = subst (λ z. IsSaid z r.device) (sym y.led.1.1) (x.step.lawful y.led.0 y.led.1.0).1;
      honest = honest_turn;
      manned = record {
        number = y.number ∙ x.number;
        kept = y.kept;
        rest = y.rest;
        fits = subst (λ n. FitsState told new.site new.history n s'.state) (y.number ∙ x.number) y.fits;
        loaded = x.loaded ∙ sym y.loaded;
        free = λ f. subst (HasNoMount new.history) x.number (y.free f);
      };
    }
    answered_turn (Err e) y = tt

    pub asked_turn : (q : Ask × Hand M) → q ≡ (a, k) → (o : Result StepLine NoMemory) → IfOk o (λ l. IsAskedOf told old new s s' t (bare_ask q.0) (medium_left told s.state (Some q)) l) → IfOk o (λ l. IsTurn told old new m s' v v' d t l)
    asked_turn q same o y = answered_turn o (subst (λ (p : Ask × Hand M). IfOk o (λ l. IsAskedOf told old new s s' t (bare_ask p.0) (medium_left told s.state (Some p)) l)) same y)

  module _ (hear : HearsAnswers) (quiet : r.ask ≡ None) where
    resting : is_asking s.asked ≡ false
    resting = x.step.waits ∙ ap has_ask quiet

    left_quiet : LeavesMedium r.device (item_written (phase_of m.state)) (medium_held told m.state) (medium_held told s.state)
    left_quiet = subst (λ o. LeavesMedium r.device (item_written (phase_of m.state)) (medium_held told m.state) (medium_left told s.state o)) quiet x.step.left

    abbrev still : Row
    still = record { ask = None; asked = s.asked; phase = phase_of s.state }

    still_at : is_memory (said s.asked) ≡ false → row_of d (phase_of m.state) r.device ≡ Some still
    still_at loud = ap (row_of d (phase_of m.state)) (sym (hear s.asked r.device loud)) ∙ x.step.table ∙ ap (λ o. Some (record { ask = ask_alone o; asked = s.asked; phase = phase_of s.state })) quiet

    pub quiet_turn : (o : Result StepLine NoMemory) → IfOk o (λ l. (l ≡ said s.asked) × (is_memory l ≡ false)) → IfOk o (λ l. IsTurn told old old m s v v' d t l)
    quiet_turn (Ok l) y = record {
      done = r.device;
      left = medium_held told s.state;
      row = still;
      heard = x.step.device;
      leaves = left_quiet;
      medium = refl;
      given = gives_truly told m v m.state r.device refl x.step.read;
      tells = still_telling r.device (item_written (phase_of m.state)) (medium_held told m.state) (medium_held told s.state) left_quiet;
      at = still_at (ap is_memory (sym y.0) ∙ y.1);
      carried = record { fit = tt; known = tt; told = ap is_memory (sym y.0) ∙ y.1 };
      keeps = refl;
      line = y.0;
      phase = refl;
      about = tt;
      said = subst (λ z. IsSaid z r.device) (quiet_line s.asked s.state answer.Idle hand.Nothing resting ∙ sym y.0) (x.step.lawful answer.Idle hand.Nothing).1;
      honest = honest_turn;
      manned = record {
        number = x.number;
        kept = x.kept;
        rest = resting;
        fits = subst (λ n. FitsState told old.site old.history n s.state) x.number (subst (FitsReport told old.site old.history s.number s.state s.asked) quiet x.fits);
        loaded = x.loaded;
        free = λ f. x.manned.free (free_state m.state (quiet_from_free d (phase_of m.state) r.device still (still_at (ap is_memory (sym y.0) ∙ y.1)) refl (free_phase s.state f)));
      };
    }
    quiet_turn (Err e) y = tt
