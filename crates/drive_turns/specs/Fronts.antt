-- What the front of a drive says of the calls of what a hall keeps: that they are asks of an archive.
use Rattle.std.specs.Prelude.{◌≡◌, ℕ, ◌++◌, ⊤, List, Bool, Option, Some, Ok}
use mathlib.Core.List.{IsPrefix}
use Rattle.blob.specs.Records.{MediumView}
use Rattle.cta_site.specs.declared.site.Site.{Site}
use Rattle.cta_model.specs.declared.answers.Answer.TheVariants as answer
use Rattle.cta_model.specs.declared.asks.Ask.{Ask}
use Rattle.cta_model.specs.declared.asks.Ask.TheVariants as ask
use Rattle.cta_model.specs.declared.asks.Direction.{Direction}
use Rattle.cta_model.specs.declared.hands.Hand.{Hand}
use Rattle.cta_model.specs.declared.hands.Hand.TheVariants as hand
use Rattle.cta_model.specs.History.{History}
use Rattle.cta_model.specs.Legal.{IsLegal}
use Rattle.turn_hall.specs.declared.view.View.{View}
use Rattle.turn_hall.specs.Promises.{Opened, Turned}
use Rattle.turn_hall.specs.Topics.{Unasked}
use Rattle.archive_turns.specs.declared.calls.ArchiveCall.TheVariants as call
use Rattle.archive_turns.specs.declared.calls.ArchiveBack.TheVariants as back
use Rattle.archive_turns.specs.Fits.{IsFitCall}
use Rattle.archive_turns.specs.Plays.{Returns}
use Rattle.archive_turns.specs.Topics.{AreApart, mount_asked}
use Rattle.drive_turns.specs.declared.front.Came.{Came}
use Rattle.drive_turns.specs.declared.front.Came.TheVariants as came

-- an ask that is fit for what was seen makes a call that is fit for it
abbrev pub FitAsksMayBeCalled : {W E C M : Type 0} → (M → MediumView) → (W → Site) → (List E → History) → (ℕ → Ask → Hand M → C) → (W → List E → C → Type 0) → Type 0
FitAsksMayBeCalled {W} {E} {C} {M} told site history asking fits = (s : W) (xs : List E) (at : ℕ) (a : Ask) (k : Hand M) → IsFitCall told (site s) (history xs) (call.Ask at a k) → fits s xs (asking at a k)

-- the call of an ask asks about the mount of the ask
abbrev pub AsksNameTheirMounts : {C M : Type 0} → (ℕ → Ask → Hand M → C) → (C → Option ℕ) → Type 0
AsksNameTheirMounts {C} {M} asking asks = (at : ℕ) (a : Ask) (k : Hand M) → asks (asking at a k) ≡ mount_asked a

-- what is legal in the hall is legal as a history of an archive
abbrev pub HistoriesAreLegal : {W E : Type 0} → (W → Site) → (List E → History) → (W → List E → Type 0) → Type 0
HistoriesAreLegal {W} {E} site history legal = (s : W) (xs : List E) → legal s xs → IsLegal (site s) (history xs)

-- a history became longer by entries that are not about this mount, if one is named
pub record IsLongerApart (asked : Option ℕ) (h later : History) : Type 0 where
  pub newer : History
  pub is : later ≡ newer ++ h
  pub apart : AreApart asked newer

-- entries that are not of a topic are not about the mount of its number
abbrev pub TopicsAreMounts : {E : Type 0} → (List E → History) → (E → Option ℕ) → Type 0
TopicsAreMounts {E} history topic = (xs ys : List E) (asked : Option ℕ) → IsPrefix xs ys → Unasked topic asked xs ys → IsLongerApart asked (history xs) (history ys)

-- what came back is what an archive gives back for the ask on h, and leaves the history later; where nothing more is asked, nothing is said of it
abbrev pub CameSo : {M K : Type 0} → (M → MediumView) → Site → History → ℕ → Ask → Hand M → Came M K → History → Type 0
CameSo told site h at a k (came.Back r) later = Returns told site h (call.Ask at a k) (back.Ask r) later
CameSo told site h at a k (came.Stop why) later = ⊤

-- what comes back from the call of an ask can be heard, and is what an archive gives back
abbrev pub AsksAreAnswered : {W E C B M K : Type 0} → (M → MediumView) → (W → Site) → (List E → History) → (ℕ → Ask → Hand M → C) → (B → Option (Came M K)) → (W → List E → C → B → List E → Type 0) → Type 0
AsksAreAnswered {W} {E} {C} {B} {M} {K} told site history asking hears plays =
    (s : W) (xs ys : List E) (at : ℕ) (a : Ask) (k : Hand M) (b : B) → plays s xs (asking at a k) b ys → (c : Came M K) × (hears b ≡ Some c) × CameSo told (site s) (history xs) at a k c (history ys)

-- a mount that came of a pass's own call is the pass's own
abbrev pub MountsAreOwn : {W E C B M K : Type 0} → (ℕ → Ask → Hand M → C) → (B → Option (Came M K)) → (W → List E → Type 0) → (W → List E → C → B → List E → Type 0) → (E → Option ℕ) → (C → B → Bool) → Type 0
MountsAreOwn {W} {E} {C} {B} {M} {K} asking hears legal plays topic adds =
    (s : W) (v w : View W E C B) (at d m tape : ℕ) (way : Direction) (k : Hand M) (x : M) (b : B) → Turned (legal s) (plays s) topic adds v (asking at (ask.Next d) k) b w
    → hears b ≡ Some (came.Back (Ok (answer.Mounted m way tape, hand.Medium x))) → Opened topic adds (Some m) w
