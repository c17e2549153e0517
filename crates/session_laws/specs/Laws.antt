-- Laws of sessions over legal histories.
use Rattle.std.specs.Prelude.{ℕ, ◌≡◌, ◌≢◌, ◌≤◌, ⊤, ◌++◌, Option, true}
use Rattle.blob.specs.Records.{MediumView}
use Rattle.cta_site.specs.declared.site.Site.{Site}
use Rattle.cta_model.specs.declared.answers.Answer.TheVariants as answer
use Rattle.cta_model.specs.declared.answers.Refusal.TheVariants as refusal
use Rattle.cta_model.specs.declared.asks.Ask.{Ask}
use Rattle.cta_model.specs.declared.asks.Ask.TheVariants as ask
use Rattle.cta_model.specs.declared.hands.Hand.{Hand}
use Rattle.cta_model.specs.Answers.{answer_of, is_accepted}
use Rattle.cta_model.specs.Hands.{HandBack, HandIn}
use Rattle.cta_model.specs.History.{History}
use Rattle.cta_model.specs.Kept.{history_after}
use Rattle.cta_model.specs.Legal.{greatest_moment, IsFit, IsLegal}
use Rattle.cta_laws.specs.Mounts.{are_about_others}
use Rattle.drive_session.specs.declared.states.Asked.{Asked}
use Rattle.drive_session.specs.declared.states.State.{State}
use Rattle.drive_session.specs.declared.states.State.TheVariants as state
use Rattle.drive_session.specs.Answers.{state_after}
use Rattle.drive_session.specs.Fits.{FitsOpen, FitsState}
use Rattle.drive_session.specs.Table.{GoesWith}

-- no entry is about the mount of a state, if it has one
abbrev pub AreOthers : {M : Type 0} → State M → History → Type 0
AreOthers state.Free newer = ⊤
AreOthers (state.Held x) newer = are_about_others x.mount newer ≡ true
AreOthers (state.Ready x) newer = are_about_others x.mount newer ≡ true
AreOthers (state.Claimed x items blobs) newer = are_about_others x.mount newer ≡ true
AreOthers (state.Writing x b) newer = are_about_others x.mount newer ≡ true
AreOthers (state.Reading x items at) newer = are_about_others x.mount newer ≡ true
AreOthers (state.Leaving x) newer = are_about_others x.mount newer ≡ true

-- no entry is about the mount of an ask; a Next has none
abbrev pub AreOthersThan : Ask → History → Type 0
AreOthersThan (ask.Claim m) newer = are_about_others m newer ≡ true
AreOthersThan (ask.Flushed m items) newer = are_about_others m newer ≡ true
AreOthersThan (ask.Recalled m job) newer = are_about_others m newer ≡ true
AreOthersThan (ask.Failed m fault charged returned) newer = are_about_others m newer ≡ true
AreOthersThan (ask.End m fault) newer = are_about_others m newer ≡ true
AreOthersThan _ newer = ⊤

-- a session without an open ask that fits a history fits each longer legal one whose new entries are not about its mount
abbrev pub SessionStays : {M : Type 0} → (M → MediumView) → Type 0
SessionStays {M = M} told =
    (site : Site) (newer h : History) (d : ℕ) (s : State M) → IsLegal site (newer ++ h) → AreOthers s newer → FitsState told site h d s → FitsState told site (newer ++ h) d s

-- the same of a session with an open ask
abbrev pub AskingSessionStays : {M : Type 0} → (M → MediumView) → Type 0
AskingSessionStays {M = M} told =
    (site : Site) (newer h : History) (d : ℕ) (s : State M) (w : Asked) (a : Ask) (k : Hand M) → IsLegal site (newer ++ h) → AreOthersThan a newer
    → FitsOpen told site h d s w a k → FitsOpen told site (newer ++ h) d s w a k

-- what a session that fits asks is what a session may ask, with what the archive expects
abbrev pub AsksAreFit : {M : Type 0} → (M → MediumView) → Type 0
AsksAreFit {M = M} told =
    (site : Site) (h : History) (d : ℕ) (s : State M) (w : Asked) (a : Ask) (k : Hand M) → FitsOpen told site h d s w a k → IsFit site h a × HandIn told h a k

-- no ask of a session that fits is unknown
abbrev pub AsksAreKnown : {M : Type 0} → (M → MediumView) → Type 0
AsksAreKnown {M = M} told =
    (site : Site) (h : History) (t d : ℕ) (s : State M) (w : Asked) (a : Ask) (k : Hand M) → FitsOpen told site h d s w a k → answer_of site h t a ≢ answer.Refused refusal.Unknown

-- after an answer of the sequential archive the session fits the history behind the ask
abbrev pub AnsweredSessionFits : {M : Type 0} → (M → MediumView) → Type 0
AnsweredSessionFits {M = M} told =
    (site : Site) (h : History) (t d : ℕ) (s : State M) (w : Asked) (a : Ask) (k out : Hand M) → IsLegal site h → t ≤ greatest_moment → FitsOpen told site h d s w a k
    → HandBack told (is_accepted (answer_of site h t a)) h (history_after site h t a) a (answer_of site h t a) k out
    → FitsState told site (history_after site h t a) d (state_after w s (answer_of site h t a) out)

-- what comes back from an ask of a session that fits goes with the answer of the sequential archive, so that the phase of the session tells where it leads
abbrev pub AnswersComeWithHands : {M : Type 0} → (M → MediumView) → Type 0
AnswersComeWithHands {M = M} told =
    (site : Site) (h : History) (t d : ℕ) (s : State M) (w : Asked) (a : Ask) (k out : Hand M) → FitsOpen told site h d s w a k
    → HandBack told (is_accepted (answer_of site h t a)) h (history_after site h t a) a (answer_of site h t a) k out → GoesWith w s (answer_of site h t a) out
