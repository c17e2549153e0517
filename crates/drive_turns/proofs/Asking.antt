-- A session that has worked, and what it asks.
use Rattle.std.proofs.Common.{◌≡◌, ℕ, ◌≤◌, List, Bool, false, refl, sym, ap, ◌∙◌, subst}
use Rattle.std.specs.Prelude.{Option, Some, None, Ok}
use Rattle.std.proofs.lemmas.Option.{none-some}
use Rattle.blob.specs.Records.{MediumView}
use Rattle.cta_site.specs.declared.site.Site.{Site}
use Rattle.cta_model.specs.declared.asks.Ask.{Ask}
use Rattle.cta_model.specs.declared.hands.Hand.{Hand}
use Rattle.cta_model.specs.History.{History}
use Rattle.cta_model.specs.Legal.{greatest_moment}
use Rattle.media.specs.Drives.{DriveView}
use Rattle.drive_session.specs.declared.reports.Report.{Report}
use Rattle.drive_session.specs.declared.session.Memo.{Memo}
use Rattle.drive_session.specs.Answers.{is_asking, said}
use Rattle.drive_session.specs.Fits.{FitsOpen}
use Rattle.drive_session.specs.Steps.{FitsReport, has_ask, is_loaded_in}
use Rattle.drive_session.specs.Table.{ask_alone, heard, phase_of, row_by}
use Rattle.drive_session.specs.Works.{FitsMemo, IsWork, IsWorkBy, MayWork, MayWorkBy}
use Rattle.session_laws.specs.Laws.{AsksAreFit}
use Rattle.turn_hall.specs.declared.view.View.{View}
use Rattle.turn_hall.specs.Promises.{Opened}
use Rattle.archive_turns.specs.declared.calls.ArchiveCall.TheVariants as call
use Rattle.archive_turns.specs.Fits.{IsFitCall}
use Rattle.archive_turns.specs.Topics.{mount_asked}
use Rattle.drive_turns.specs.declared.front.Came.{Came}
use Rattle.drive_turns.specs.Fronts.{AsksNameTheirMounts, FitAsksMayBeCalled}
use Rattle.drive_turns.specs.Seats.{IsSeated, kept_mount, state_mount}
use Rattle.drive_turns.specs.Turns.{HasAsked, HasBegun, IsCallOf, IsDriveTurn}
use Rattle.drive_turns.proofs.Behind.{mount_asked-bare, open_at_end}
use Rattle.drive_turns.proofs.Lines.{quiet_step}
use Rattle.drive_turns.proofs.Rows.{IsFrom, asked_in, phase_mount, phase_state, row_from}

module _ {W E C B : Type 0} (topic : E → Option ℕ) (adds : C → B → Bool) (v : View W E C B) where
  no_mount : (k : ℕ) → None ≡ Some k → ⊥
  no_mount k e = cc

  -- no mount is anybody's
  pub own_none : Opened topic adds None v
  own_none k is = absurd (no_mount k is)

  own_from : (o p : Option ℕ) → Opened topic adds p v → IsFrom o p → Opened topic adds o v
  own_from None p own is = own_none
  own_from (Some m) p own is = subst (λ q. Opened topic adds q v) is own

module _ {W E C B M : Type 0} (told : M → MediumView) (history : List E → History) (topic : E → Option ℕ) (adds : C → B → Bool) (site : Site) (v : View W E C B) where
  may_work_by : (m : Memo M) (o : Option (Ask × Hand M)) → is_asking m.asked ≡ has_ask o → FitsReport told site (history v.seen) m.number m.state m.asked o → MayWorkBy told m o
  may_work_by m None waits fits = (waits, (site, (history v.seen, fits)))
  may_work_by m (Some q) waits fits = waits

  -- a seated session may work
  pub may_work : (m : Memo M) (d : DriveView) → IsSeated told history topic adds site v m d → MayWork told m
  may_work m d seated = may_work_by m m.kept seated.waits seated.fits

  module _ (m s : Memo M) (d d' : DriveView) (r : Report M) (seated : IsSeated told history topic adds site v m d) (work : IsWork told d d' m s r) where
    none_by : (o : Option (Ask × Hand M)) → IsWorkBy told d d' m s r o → s.kept ≡ None
    none_by None work = work.1
    none_by (Some q) work = ap (λ (z : Memo M). z.kept) work.0

    -- behind its work a session keeps no ask
    pub none_kept : s.kept ≡ None
    none_kept = none_by m.kept work

    waits_by : (o : Option (Ask × Hand M)) → m.kept ≡ o → IsWorkBy told d d' m s r o → is_asking s.asked ≡ has_ask r.ask
    waits_by None is work = work.2.waits
    waits_by (Some q) is work = ap (λ (z : Memo M). is_asking z.asked) work.0 ∙ (seated.waits ∙ (ap has_ask is ∙ sym (ap (λ (z : Report M). has_ask z.ask) work.1)))

    -- an ask is open where one is reported
    pub waits : is_asking s.asked ≡ has_ask r.ask
    waits = waits_by m.kept refl work

    own_state_by : (o : Option (Ask × Hand M)) → m.kept ≡ o → IsWorkBy told d d' m s r o → Opened topic adds (state_mount s.state) v
    own_state_by None is work =
        let row = row_from m.number m.state (heard s.asked r.device) (row_by (record { state = s.state; asked = s.asked; report = r })) work.2.table in
        subst (λ q. Opened topic adds q v) (phase_state s.state) (own_from topic adds v (phase_mount (phase_of s.state)) (state_mount m.state) seated.own row.1)
    own_state_by (Some q) is work = subst (λ (z : Memo M). Opened topic adds (state_mount z.state) v) (sym work.0) seated.own

    -- the mount of the state behind the work is the pass's own
    pub own_state : Opened topic adds (state_mount s.state) v
    own_state = own_state_by m.kept refl work

    own_asked_by : (o : Option (Ask × Hand M)) → m.kept ≡ o → IsWorkBy told d d' m s r o → (a : Ask) (k : Hand M) → r.ask ≡ Some (a, k) → Opened topic adds (mount_asked a) v
    own_asked_by None is work a k asks =
        let row = row_from m.number m.state (heard s.asked r.device) (row_by (record { state = s.state; asked = s.asked; report = r })) work.2.table in
        let about : IsFrom (mount_asked a) (state_mount m.state) = subst (λ o. IsFrom o (state_mount m.state)) (ap (λ q. asked_in (ask_alone q)) asks ∙ mount_asked-bare a) row.0 in
        own_from topic adds v (mount_asked a) (state_mount m.state) seated.own about
    own_asked_by (Some q) is work a k asks =
        let same : m.kept ≡ Some (a, k) = is ∙ (sym (ap (λ (z : Report M). z.ask) work.1) ∙ asks) in
        subst (λ o. Opened topic adds (kept_mount o) v) same seated.asked

    -- the mount that is asked about is the pass's own
    pub own_asked : (a : Ask) (k : Hand M) → r.ask ≡ Some (a, k) → Opened topic adds (mount_asked a) v
    own_asked = own_asked_by m.kept refl work

    module _ (loaded : d'.loaded ≡ is_loaded_in s.state) (fits : (site : Site) (h : History) → FitsMemo told site h m → FitsReport told site h s.number s.state s.asked r.ask) where
      fits_report : FitsReport told site (history v.seen) s.number s.state s.asked r.ask
      fits_report = fits site (history v.seen) seated.fits

      -- what is asked fits what the pass has seen
      pub fits_open : (a : Ask) (k : Hand M) → r.ask ≡ Some (a, k) → FitsOpen told site (history v.seen) s.number s.state s.asked a k
      fits_open a k asks = subst (FitsReport told site (history v.seen) s.number s.state s.asked) asks fits_report

      -- and it is a call that is fit for it
      pub fit_call : AsksAreFit told → (at : ℕ) (a : Ask) (k : Hand M) → at ≤ greatest_moment → r.ask ≡ Some (a, k) → IsFitCall told site (history v.seen) (call.Ask at a k)
      fit_call fit at a k low asks =
          let opened : FitsOpen told site (history v.seen) s.number s.state s.asked a k = fits_open a k asks in
          let both = fit site (history v.seen) s.number s.state s.asked a k opened in
          ((low, both.0, both.1), open_at_end told (history v.seen) s.number s.state s.asked a k opened.asked)

      -- a session that asks nothing is seated
      pub quiet_seated : r.ask ≡ None → IsSeated told history topic adds site v s d'
      quiet_seated quiet = record {
        waits = waits ∙ ap has_ask quiet ∙ sym (ap has_ask none_kept);
        fits = subst (FitsReport told site (history v.seen) s.number s.state s.asked) (quiet ∙ sym none_kept) fits_report;
        loaded = loaded;
        own = own_state;
        asked = subst (λ o. Opened topic adds (kept_mount o) v) (sym none_kept) (own_none topic adds v);
      }

-- ---- a call that was begun

-- what is asked, where a call was begun
pub record IsBegun {C M : Type 0} (asking : ℕ → Ask → Hand M → C) (o : Option (Ask × Hand M)) (c : C) : Type 0 where
  pub at : ℕ
  pub ask : Ask
  pub hand : Hand M
  pub asks : o ≡ Some (ask, hand)
  pub low : at ≤ greatest_moment
  pub is : c ≡ asking at ask hand

pub begun : {C M : Type 0} (asking : ℕ → Ask → Hand M → C) (o : Option (Ask × Hand M)) (c : C) → IsCallOf asking o (Some c) → IsBegun asking o c
begun asking None c called = absurd called
begun asking (Some (a, k)) c called = record { at = called.0; ask = a; hand = k; asks = refl; low = called.1; is = called.2 }

-- the call of what is asked at a moment
pub call_is : {C M : Type 0} (asking : ℕ → Ask → Hand M → C) (o : Option (Ask × Hand M)) (at : ℕ) (a : Ask) (k : Hand M) (c : C) → o ≡ Some (a, k) → at ≤ greatest_moment → c ≡ asking at a k → IsCallOf asking o (Some c)
call_is asking None at a k c asks low is = absurd (none-some _ asks)
call_is asking (Some (b, q)) at a k c asks low is = subst (λ o. IsCallOf asking o (Some c)) (sym asks) (at, low, is)

pub no_call : {C M : Type 0} (asking : ℕ → Ask → Hand M → C) (o : Option (Ask × Hand M)) → o ≡ None → IsCallOf {C = C} asking o None
no_call asking o none = subst (λ o. IsCallOf asking o None) (sym none) tt

module _ {W E C B M : Type 0} (told : M → MediumView) (site : W → Site) (history : List E → History) (asking : ℕ → Ask → Hand M → C) (topic : E → Option ℕ) (adds : C → B → Bool) where
  -- a call that was begun may be made in a turn
  pub call_fits : (fits : W → List E → C → Type 0) (asks : C → Option ℕ) → AsksAreFit told → FitAsksMayBeCalled told site history asking fits → AsksNameTheirMounts asking asks
      → (s : W) (v : View W E C B) (m m' : Memo M) (d d' : DriveView) (c : C) → IsSeated told history topic adds (site s) v m d → HasBegun told asking m m' d d' (Some c) → fits s v.seen c × Opened topic adds (asks c) v
  call_fits fits asks fit law about s v m m' d d' c seated x =
      let b = begun asking x.report.ask c x.called in
      let fit_here : fits s v.seen (asking b.at b.ask b.hand) = law s v.seen b.at b.ask b.hand (fit_call told history topic adds (site s) v m m' d d' x.report seated x.work x.loaded x.fits fit b.at b.ask b.hand b.low b.asks) in
      let own : Opened topic adds (mount_asked b.ask) v = own_asked told history topic adds (site s) v m m' d d' x.report seated x.work b.ask b.hand b.asks in (
        subst (fits s v.seen) (sym b.is) fit_here,
        subst (λ o. Opened topic adds o v) (sym (ap asks b.is ∙ about b.at b.ask b.hand)) own,
      )

  -- where nothing was asked the step is done
  pub quiet_turn : {K : Type 0} (hears : B → Option (Came M K)) (legal : List E → Type 0) (plays : List E → C → B → List E → Type 0) (s : W) (v : View W E C B) (m m' : Memo M) (d d' : DriveView) (r : Report M)
      → IsSeated told history topic adds (site s) v m d → IsWork told d d' m m' r → d'.loaded ≡ is_loaded_in m'.state → ((site : Site) (h : History) → FitsMemo told site h m → FitsReport told site h m'.number m'.state m'.asked r.ask) → r.ask ≡ None
      → IsSeated told history topic adds (site s) v m' d' × IsDriveTurn told asking hears legal plays topic adds v v m m' d d' (Ok (said m'.asked))
  quiet_turn hears legal plays s v m m' d d' r seated work loaded fits quiet =
      let none = none_kept told history topic adds (site s) v m m' d d' r seated work in
      let resting : is_asking m'.asked ≡ false = waits told history topic adds (site s) v m m' d d' r seated work ∙ ap has_ask quiet in (
        quiet_seated told history topic adds (site s) v m m' d d' r seated work loaded fits quiet,
        record {
          behind = m';
          report = r;
          work = work;
          asked = subst (λ q. HasAsked told asking hears legal plays topic adds v v m' m' q (Ok (said m'.asked))) (sym quiet) (refl, refl, refl);
          line = λ from e stands. quiet_step told d d' m m' r work none from e stands resting (said m'.asked) refl;
        },
      )
