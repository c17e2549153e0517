-- What sessions ask is nothing that callers ask.
use Rattle.std.proofs.Common.{◌≡◌, ℕ, true, false, refl}
use Rattle.cta_model.specs.declared.asks.Ask.{Ask}
use Rattle.cta_model.specs.declared.asks.Ask.TheVariants as ask
use Rattle.cta_model.specs.declared.hands.Hand.{Hand}
use Rattle.archive_turns.specs.declared.calls.ArchiveCall.TheVariants as call
use Rattle.archive_front.specs.Questions.{question_of}
use Rattle.drive_turns.specs.Turns.{is_of_session}
use Rattle.link_server.specs.Callers.{is_callers}

module _ {M : Type 0} where
  pub apart : (at : ℕ) (a : Ask) (k : Hand M) → is_of_session a ≡ true → is_callers (question_of (call.Ask at a k)) ≡ false
  apart at (ask.Next d) k is = refl
  apart at (ask.Claim m) k is = refl
  apart at (ask.Flushed m items) k is = refl
  apart at (ask.Recalled m job) k is = refl
  apart at (ask.Failed m fault charged returned) k is = refl
  apart at (ask.End m fault) k is = refl
  apart at _ k is = absurd (cc)
