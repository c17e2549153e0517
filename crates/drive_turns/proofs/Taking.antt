-- A step behind its turn.
use Rattle.std.proofs.Common.{◌≡◌, ℕ, ◌+◌, ◌≤◌, List, Bool, [], ◌∷◌, true, ◌++◌, sym, ap, ◌∙◌, subst, arith, length}
use Rattle.std.specs.Prelude.{◌≢◌, Option, Some, None, IfOk, Result, Ok, Err}
use Rattle.std.proofs.lemmas.Option.{same_Some}
use Rattle.blob.specs.Records.{MediumView}
use Rattle.cta_values.specs.declared.no_memory.NoMemory.{NoMemory}
use Rattle.cta_site.specs.declared.site.Site.{Site}
use Rattle.cta_model.specs.declared.answers.Answer.{Answer}
use Rattle.cta_model.specs.declared.answers.Answer.TheVariants as answer
use Rattle.cta_model.specs.declared.answers.Refusal.TheVariants as refusal
use Rattle.cta_model.specs.declared.asks.Ask.{Ask}
use Rattle.cta_model.specs.declared.hands.Hand.{Hand}
use Rattle.cta_model.specs.Answers.{answer_of, is_accepted}
use Rattle.cta_model.specs.Bare.{bare_answer, bare_ask}
use Rattle.cta_model.specs.Hands.{HandBack}
use Rattle.cta_model.specs.History.{History}
use Rattle.cta_model.specs.Kept.{history_after}
use Rattle.cta_model.specs.Legal.{IsLegal, greatest_moment}
use Rattle.media.specs.Drives.{DriveView}
use Rattle.drive_session.specs.declared.reports.StepLine.{StepLine}
use Rattle.drive_session.specs.declared.session.Memo.{Memo}
use Rattle.drive_session.specs.declared.states.Asked.TheVariants as asked
use Rattle.drive_session.specs.Answers.{state_after}
use Rattle.drive_session.specs.Fits.{FitsOpen, FitsState}
use Rattle.drive_session.specs.Steps.{FitsReport, has_ask}
use Rattle.session_laws.specs.Laws.{AnsweredSessionFits, AskingSessionStays, AsksAreKnown}
use Rattle.session_laws.proofs.Bares.{open_bare, same_loaded, state_bare}
use Rattle.turn_hall.specs.declared.view.View.{View}
use Rattle.turn_hall.specs.Calls.{made_in}
use Rattle.turn_hall.specs.Promises.{Opened, Turned}
use Rattle.turn_hall.specs.Topics.{Unasked}
use Rattle.turn_hall.proofs.Openings.{opened_stays, others_stay_apart}
use Rattle.archive_turns.specs.Plays.{history_with}
use Rattle.archive_turns.specs.Topics.{mount_asked}
use Rattle.drive_turns.specs.declared.front.Came.{Came}
use Rattle.drive_turns.specs.declared.front.Came.TheVariants as came
use Rattle.drive_turns.specs.Fronts.{AsksAreAnswered, CameSo, HistoriesAreLegal, IsLongerApart, MountsAreOwn, TopicsAreMounts}
use Rattle.drive_turns.specs.Seats.{IsSeated, kept_mount, state_mount}
use Rattle.drive_turns.specs.Turns.{HasAsked, HasBegun, HasTaken, IsDriveTurn, IsLine, is_of_session}
use Rattle.drive_turns.proofs.Asking.{begun, fits_open, none_kept, own_asked, own_none, own_state, waits}
use Rattle.drive_turns.proofs.Behind.{answer_of-bare, back_bare, mount_behind, session_ask}
use Rattle.drive_turns.proofs.Lines.{answered_line, wanting_line}
use Rattle.drive_turns.proofs.Others.{others_than}

module _ {W E C B M K : Type 0} (told : M → MediumView) (site : W → Site) (history : List E → History) (asking : ℕ → Ask → Hand M → C) (hears : B → Option (Came M K))
    (legal : W → List E → Type 0) (plays : W → List E → C → B → List E → Type 0) (topic : E → Option ℕ) (adds : C → B → Bool) where
  -- what came back can be heard
  pub is_heard : AsksAreAnswered told site history asking hears plays → (s : W) (v w : View W E C B) (m m' : Memo M) (d d' : DriveView) (c : C) (b : B) → HasBegun told asking m m' d d' (Some c)
      → Turned (legal s) (plays s) topic adds v c b w → (x : Came M K) × (hears b ≡ Some x)
  is_heard answers s v w m m' d d' c b x turn =
      let g = begun asking x.report.ask c x.called in
      let told_so = answers s turn.before w.seen g.at g.ask g.hand b (subst (λ z. plays s turn.before z b w.seen) g.is turn.played) in
      (told_so.0, told_so.1)

  module _ (known : AsksAreKnown told) (stays : AskingSessionStays told) (leads : AnsweredSessionFits told)
      (is_legal : HistoriesAreLegal site history legal) (apart : TopicsAreMounts history topic) (answers : AsksAreAnswered told site history asking hears plays) (mounts : MountsAreOwn asking hears legal plays topic adds)
      (s : W) (v w : View W E C B) (m n : Memo M) (d d' : DriveView) (c : C) (seated : IsSeated told history topic adds (site s) v m d) (x : HasBegun told asking m n d d' (Some c))
      (at : ℕ) (a : Ask) (k : Hand M) (asks : x.report.ask ≡ Some (a, k)) (low : at ≤ greatest_moment) (call_is : c ≡ asking at a k) where
    own : Opened topic adds (mount_asked a) v
    own = own_asked told history topic adds (site s) v m n d d' x.report seated x.work a k asks

    none : n.kept ≡ None
    none = none_kept told history topic adds (site s) v m n d d' x.report seated x.work

    from_one : (n : ℕ) → mount_asked a ≡ Some n → 1 ≤ n
    from_one n is = let o = own n is in let e : n ≡ o.0 + 1 = o.2 in omega arith

    module _ (b : B) (turn : Turned (legal s) (plays s) topic adds v (asking at a k) b w) where
      abbrev before : History
      before = history turn.before

      -- the ask fits the history on which it was played
      fits_there : FitsOpen told (site s) before n.number n.state n.asked a k
      fits_there =
          let unasked : Unasked topic (mount_asked a) v.seen turn.before = others_stay_apart topic adds v turn.before (mount_asked a) turn.onward turn.apart own in
          let longer : IsLongerApart (mount_asked a) (history v.seen) (history turn.before) = apart v.seen turn.before (mount_asked a) turn.onward unasked in
          let fits : FitsOpen told (site s) (longer.newer ++ history v.seen) n.number n.state n.asked a k =
          stays (site s) longer.newer (history v.seen) n.number n.state n.asked a k (subst (IsLegal (site s)) longer.is (is_legal s turn.before turn.was_legal))
          (others_than a longer.newer from_one longer.apart) (fits_open told history topic adds (site s) v m n d d' x.report seated x.work x.loaded x.fits a k asks) in
          subst (λ h. FitsOpen told (site s) h n.number n.state n.asked a k) (sym longer.is) fits

      of_session : is_of_session a ≡ true
      of_session = session_ask told before n.number n.state n.asked a k fits_there.asked

      stays_own : (o : Option ℕ) → Opened topic adds o v → Opened topic adds o w
      stays_own o = opened_stays topic adds v w (made_in turn.turn (length turn.before) (asking at a k) b ∷ []) o turn.mine turn.seen

      came_so : (came : Came M K) → hears b ≡ Some came → CameSo told (site s) before at a k came (history w.seen)
      came_so came heard =
          let told_so = answers s turn.before w.seen at a k b turn.played in
          subst (λ z. CameSo told (site s) before at a k z (history w.seen)) (same_Some told_so.0 came (sym told_so.1 ∙ heard)) told_so.2

    -- ---- an answer

    module _ (b : B) (ans : Answer) (out : Hand M) (turn : Turned (legal s) (plays s) topic adds v (asking at a k) b w) (heard : hears b ≡ Some (came.Back (Ok (ans, out)))) where
      abbrev was : History
      was = history turn.before

      fits_here : FitsOpen told (site s) was n.number n.state n.asked a k
      fits_here = fits_there b turn

      so : CameSo {K = K} told (site s) was at a k (came.Back (Ok (ans, out))) (history w.seen)
      so = came_so b turn (came.Back (Ok (ans, out))) heard

      answered : bare_answer ans ≡ answer_of (site s) was at (bare_ask a)
      answered = so.answered ∙ answer_of-bare (site s) was at a

      left : history w.seen ≡ history_after (site s) was at (bare_ask a)
      left = so.left ∙ ap (history_with was at (bare_ask a)) answered

      fits_behind : FitsState told (site s) (history w.seen) n.number (state_after n.asked n.state ans out)
      fits_behind =
          let bare : FitsOpen told (site s) was n.number n.state n.asked (bare_ask a) k = record { known = fits_here.known; asked = open_bare told was n.number n.state n.asked a k fits_here.asked } in
          let handed : HandBack told (is_accepted (bare_answer ans)) was (history w.seen) (bare_ask a) (bare_answer ans) k out =
          back_bare told (is_accepted (bare_answer ans)) was (history w.seen) a (bare_answer ans) k out so.handed in
          let handed' = subst (λ z. HandBack told (is_accepted z) was (history_after (site s) was at (bare_ask a)) (bare_ask a) z k out) answered
          (subst (λ h. HandBack told (is_accepted (bare_answer ans)) was h (bare_ask a) (bare_answer ans) k out) left handed) in
          let led = leads (site s) was at n.number n.state n.asked (bare_ask a) k out (is_legal s turn.before turn.was_legal) low bare handed' in
          let led' : FitsState told (site s) (history w.seen) n.number (state_after n.asked n.state (bare_answer ans) out) =
          subst (λ h. FitsState told (site s) h n.number (state_after n.asked n.state (bare_answer ans) out)) (sym left)
          (subst (λ z. FitsState told (site s) (history_after (site s) was at (bare_ask a)) n.number (state_after n.asked n.state z out)) (sym answered) led) in
          record { known = led'.known; state = state_bare told (history w.seen) n.number n.asked n.state ans out led'.state }

      own_behind : Opened topic adds (state_mount (state_after n.asked n.state ans out)) w
      own_behind =
          mount_behind told was n.number n.state n.asked a k ans out (λ o. Opened topic adds o w) fits_here.asked (own_none topic adds w) (stays_own b turn (mount_asked a) own)
          (λ drive mount way tape y is_next made given.
          mounts s v w at drive mount tape way k y b (subst (λ z. Turned (legal s) (plays s) topic adds v (asking at z k) b w) is_next turn)
          (subst (λ z. hears b ≡ Some (came.Back (Ok (answer.Mounted mount way tape, z)))) given (subst (λ z. hears b ≡ Some (came.Back (Ok (z, out)))) made heard)))

      not_unknown : ans ≢ answer.Refused refusal.Unknown
      not_unknown bad = known (site s) was at n.number n.state n.asked a k fits_here (sym so.answered ∙ ap bare_answer bad)

      abbrev next : StepLine → Memo M
      next l = record n { state = state_after n.asked n.state ans out; asked = asked.Nothing l }

      answered_seated : (l : StepLine) → IsSeated told history topic adds (site s) w (next l) d'
      answered_seated l = record {
        waits = sym (ap has_ask none);
        fits = subst (FitsReport told (site s) (history w.seen) n.number (state_after n.asked n.state ans out) (asked.Nothing l)) (sym none) fits_behind;
        loaded = x.loaded ∙ sym (same_loaded told was n.number n.state n.asked a k ans out fits_here.asked);
        own = own_behind;
        asked = subst (λ o. Opened topic adds (kept_mount o) w) (sym none) (own_none topic adds w);
      }

      after_answer : (m' : Memo M) (l : StepLine) → HasTaken {K = K} n m' (came.Back (Ok (ans, out))) (Ok l)
          → IsSeated told history topic adds (site s) w m' d' × IsDriveTurn told asking hears (legal s) (plays s) topic adds v w m m' d d' (Ok l)
      after_answer m' l taken = (
        subst (λ z. IsSeated told history topic adds (site s) w z d') (sym taken.0.1) (answered_seated l),
        record {
          behind = n;
          report = x.report;
          work = x.work;
          asked = subst (λ q. HasAsked told asking hears (legal s) (plays s) topic adds v w n m' q (Ok l)) (sym asks)
              (record { at = at; within = low; session = of_session b turn; back = b; turn = turn; came = came.Back (Ok (ans, out)); heard = heard; known = not_unknown; taken = taken });
          line = λ from e stands. subst (λ z. IsLine m z x.report.device l from e) (sym taken.0.1) (answered_line told d d' m n x.report x.work none from e stands ans out l taken.0.0);
        },
      )

    -- ---- a want of memory

    module _ (b : B) (lack : NoMemory) (a' : Ask) (k' : Hand M) (turn : Turned (legal s) (plays s) topic adds v (asking at a k) b w) (heard : hears b ≡ Some (came.Back (Err (lack, a', k')))) where
      again : CameSo {K = K} told (site s) (before b turn) at a k (came.Back (Err (lack, a', k'))) (history w.seen)
      again = came_so b turn (came.Back (Err (lack, a', k'))) heard

      wanting_seated : IsSeated told history topic adds (site s) w (record n { kept = Some (a', k') }) d'
      wanting_seated =
          let fits : FitsOpen told (site s) (history w.seen) n.number n.state n.asked a k = subst (λ h. FitsOpen told (site s) h n.number n.state n.asked a k) (sym again.0) (fits_there b turn) in
          record {
            waits = waits told history topic adds (site s) v m n d d' x.report seated x.work ∙ ap has_ask asks;
            fits = subst (λ z. FitsOpen told (site s) (history w.seen) n.number n.state n.asked a' z) (sym again.2) (subst (λ z. FitsOpen told (site s) (history w.seen) n.number n.state n.asked z k) (sym again.1) fits);
            loaded = x.loaded;
            own = stays_own b turn (state_mount n.state) (own_state told history topic adds (site s) v m n d d' x.report seated x.work);
            asked = subst (λ z. Opened topic adds (mount_asked z) w) (sym again.1) (stays_own b turn (mount_asked a) own);
          }

      after_want : (m' : Memo M) (l : StepLine) → HasTaken {K = K} n m' (came.Back (Err (lack, a', k'))) (Ok l)
          → IsSeated told history topic adds (site s) w m' d' × IsDriveTurn told asking hears (legal s) (plays s) topic adds v w m m' d d' (Ok l)
      after_want m' l taken = (
        subst (λ z. IsSeated told history topic adds (site s) w z d') (sym taken.0.1) wanting_seated,
        record {
          behind = n;
          report = x.report;
          work = x.work;
          asked = subst (λ q. HasAsked told asking hears (legal s) (plays s) topic adds v w n m' q (Ok l)) (sym asks)
              (record { at = at; within = low; session = of_session b turn; back = b; turn = turn; came = came.Back (Err (lack, a', k')); heard = heard; known = tt; taken = taken });
          line = λ from e stands. subst (λ z. IsLine m z x.report.device l from e) (sym taken.0.1) (wanting_line told d d' m n x.report x.work none from e stands (a', k') l taken.0.0);
        },
      )

    -- ---- what came back, whatever it is

    turned_so : (b : B) → Turned (legal s) (plays s) topic adds v (asking at a k) b w → (came : Came M K) → hears b ≡ Some came → (m' : Memo M) (l : Result StepLine K) → HasTaken n m' came l
        → IfOk l (λ z. IsSeated told history topic adds (site s) w m' d') × IsDriveTurn told asking hears (legal s) (plays s) topic adds v w m m' d d' l
    turned_so b turn (came.Back (Ok (ans, out))) heard m' (Ok l) taken = after_answer b ans out turn heard m' l taken
    turned_so b turn (came.Back (Err (lack, a', k'))) heard m' (Ok l) taken = after_want b lack a' k' turn heard m' l taken
    turned_so b turn (came.Back r) heard m' (Err e) taken = absurd taken
    turned_so b turn (came.Stop why) heard m' (Ok l) taken = absurd taken
    turned_so b turn (came.Stop why) heard m' (Err e) taken = (
      tt,
      record {
        behind = n;
        report = x.report;
        work = x.work;
        asked = subst (λ q. HasAsked told asking hears (legal s) (plays s) topic adds v w n m' q (Err e)) (sym asks)
            (record { at = at; within = low; session = of_session b turn; back = b; turn = turn; came = came.Stop why; heard = heard; known = tt; taken = taken });
        line = tt;
      },
    )

    begun_so : (b : B) → Turned (legal s) (plays s) topic adds v c b w → (came : Came M K) → hears b ≡ Some came → (m' : Memo M) (l : Result StepLine K) → HasTaken n m' came l
        → IfOk l (λ z. IsSeated told history topic adds (site s) w m' d') × IsDriveTurn told asking hears (legal s) (plays s) topic adds v w m m' d d' l
    begun_so b turn = turned_so b (subst (λ z. Turned (legal s) (plays s) topic adds v z b w) call_is turn)

  -- a step that asked in a turn, and took what came back, is a step of a drive, and the session is seated behind it
  pub after_turn : AsksAreKnown told → AskingSessionStays told → AnsweredSessionFits told → HistoriesAreLegal site history legal → TopicsAreMounts history topic → AsksAreAnswered told site history asking hears plays → MountsAreOwn asking hears legal plays topic adds
      → (s : W) (v w : View W E C B) (m n : Memo M) (d d' : DriveView) (c : C) → IsSeated told history topic adds (site s) v m d → HasBegun told asking m n d d' (Some c)
      → (b : B) → Turned (legal s) (plays s) topic adds v c b w → (came : Came M K) → hears b ≡ Some came → (m' : Memo M) (l : Result StepLine K) → HasTaken n m' came l
      → IfOk l (λ z. IsSeated told history topic adds (site s) w m' d') × IsDriveTurn told asking hears (legal s) (plays s) topic adds v w m m' d d' l
  after_turn known stays leads is_legal apart answers mounts s v w m n d d' c seated x =
      let g = begun asking x.report.ask c x.called in
      begun_so known stays leads is_legal apart answers mounts s v w m n d d' c seated x g.at g.ask g.hand g.asks g.low g.is
