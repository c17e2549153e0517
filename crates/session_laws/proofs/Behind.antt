-- After each answer a session fits the history behind the ask.
use Rattle.std.proofs.Common.{◌≡◌, ℕ, ◌≤◌, ◌<◌, [], ◌∷◌, ◌++◌, Bool, true, false, refl, sym, subst, length}
use Rattle.std.specs.Prelude.{Option, if◌then◌else◌}
use Rattle.blob.specs.Records.{MediumView}
use Rattle.cta_site.specs.declared.site.Site.{Site}
use Rattle.cta_model.specs.declared.asks.Ask.{Ask}
use Rattle.cta_model.specs.declared.asks.Ask.TheVariants as ask
use Rattle.cta_model.specs.declared.hands.Hand.{Hand}
use Rattle.cta_model.specs.Answers.{answer_of, is_accepted}
use Rattle.cta_model.specs.Hands.{HandBack}
use Rattle.cta_model.specs.History.{History}
use Rattle.cta_model.specs.Kept.{history_after}
use Rattle.cta_model.specs.Legal.{greatest_moment, IsLegal, new_entry}
use Rattle.cta_model.specs.Mounts.{without_jobs, claimed_items}
use Rattle.cta_laws.proofs.MediaLaw.{true_medium_stays}
use Rattle.drive_session.specs.declared.states.Asked.{Asked}
use Rattle.drive_session.specs.declared.states.Asked.TheVariants as asked
use Rattle.drive_session.specs.declared.states.State.{State}
use Rattle.drive_session.specs.declared.states.State.TheVariants as state
use Rattle.drive_session.specs.Answers.{state_after}
use Rattle.drive_session.specs.Fits.{FitsAsk, FitsState}
use Rattle.session_laws.specs.Laws.{AnsweredSessionFits}
use Rattle.session_laws.proofs.Answered.{failed_accepted, flushed_accepted, flushed_next, here, legal_next, recalled_accepted, resolved_next}
use Rattle.session_laws.proofs.Claimed.{claim_fits, next_fits}

-- the history behind an accepted ask
later : (accepted : Bool) (g h : History) → accepted ≡ true → (if accepted then g else h) ≡ g
later true g h e = refl
later false g h e = absurd (cc)

behind : {M : Type 0} (told : M → MediumView) (site : Site) (h : History) (t d : ℕ) (s : State M) (w : Asked) (a : Ask) (q out : Hand M) → IsLegal site h → t ≤ greatest_moment → d < length site.drives.items → FitsAsk told h d s w a q
    → HandBack told (is_accepted (answer_of site h t a)) h (history_after site h t a) a (answer_of site h t a) q out → FitsState told site (history_after site h t a) d (state_after w s (answer_of site h t a) out)
behind told site h t d s w (ask.Next k) q out legal low known is back =
    let b = answer_of site h t (ask.Next k) in
    subst (λ w. FitsState told site (history_after site h t (ask.Next k)) d (state_after w s b out)) (sym is.asked) (next_fits told site h t d k q out b is.drive known legal refl back)
behind told site h t d s w (ask.Claim m) q out legal low known is back =
    let b = answer_of site h t (ask.Claim m) in
    let x = is.mounted in
    subst (λ w. FitsState told site (history_after site h t (ask.Claim m)) d (state_after w s b out)) (sym is.asked)
    (subst (λ s. FitsState told site (history_after site h t (ask.Claim m)) d (state_after asked.Claim s b out)) (sym is.state)
    (claim_fits told site h t d m x q out b is.mount known (λ accepted. legal_next told site h t d s w (ask.Claim m) q b legal low known is refl accepted) refl is.rest back))
behind told site h t d s w (ask.Flushed m items) q out legal low known is back =
    let b = answer_of site h t (ask.Flushed m items) in
    let x = is.mounted in
    let accepted = flushed_accepted told site h t d m x items is.mount is.batch in
    let next = legal_next told site h t d s w (ask.Flushed m items) q b legal low known is refl accepted in
    subst (λ w. FitsState told site (history_after site h t (ask.Flushed m items)) d (state_after w s b out)) (sym is.asked)
    (subst (λ s. FitsState told site (history_after site h t (ask.Flushed m items)) d s) (sym is.state)
    (subst (λ (g : History). FitsState told site g d (state.Ready x)) (sym (later (is_accepted b) (new_entry h t (ask.Flushed m items) b ∷ h) h accepted))
    (record { known = known; state = flushed_next told site h t d m b x items is.mount next is.batch })))
behind told site h t d s w (ask.Recalled m job) q out legal low known is back =
    let b = answer_of site h t (ask.Recalled m job) in
    let accepted = recalled_accepted told site h t d m job s is.resolved in
    let next = legal_next told site h t d s w (ask.Recalled m job) q b legal low known is refl accepted in
    let e = new_entry h t (ask.Recalled m job) b in
    subst (λ w. FitsState told site (history_after site h t (ask.Recalled m job)) d (state_after w s b out)) (sym is.asked)
    (subst (λ (g : History). FitsState told site g d s) (sym (later (is_accepted b) (e ∷ h) h accepted))
    (record { known = known; state = resolved_next told e h d m (job ∷ []) s refl (here m (without_jobs (job ∷ []) (claimed_items h m)) (claimed_items h m)) (λ v r. true_medium_stays site h e v r next refl) is.resolved }))
behind told site h t d s w (ask.Failed m f charged returned) q out legal low known is back =
    let b = answer_of site h t (ask.Failed m f charged returned) in
    let accepted = failed_accepted told site h t d m f charged returned s is.resolved in
    let next = legal_next told site h t d s w (ask.Failed m f charged returned) q b legal low known is refl accepted in
    let e = new_entry h t (ask.Failed m f charged returned) b in
    let jobs = charged.items ++ returned.items in
    subst (λ w. FitsState told site (history_after site h t (ask.Failed m f charged returned)) d (state_after w s b out)) (sym is.asked)
    (subst (λ (g : History). FitsState told site g d s) (sym (later (is_accepted b) (e ∷ h) h accepted))
    (record { known = known; state = resolved_next told e h d m jobs s refl (here m (without_jobs jobs (claimed_items h m)) (claimed_items h m)) (λ v r. true_medium_stays site h e v r next refl) is.resolved }))
behind told site h t d s w (ask.End m f) q out legal low known is back =
    let b = answer_of site h t (ask.End m f) in
    subst (λ w. FitsState told site (history_after site h t (ask.End m f)) d (state_after w s b out)) (sym is.asked)
    (subst (λ s. FitsState told site (history_after site h t (ask.End m f)) d s) (sym is.state) (record { known = known; state = tt }))
behind told site h t d s w _ q out legal low known is back = absurd is

pub answered_session_fits : {M : Type 0} (told : M → MediumView) → AnsweredSessionFits told
answered_session_fits told site h t d s w a q out legal low is back = behind told site h t d s w a q out legal low is.known is.asked back
