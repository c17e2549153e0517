-- What a run keeps from its start, by what each of its steps keeps: fit asks, and the media of its tapes.
use Rattle.std.proofs.Common.{◌≡◌, ℕ, ◌≤◌, inl, inr, false, List, [], ◌∷◌, refl, sym, subst}
use Rattle.std.specs.Prelude.{Option, Some, None}
use Rattle.std.specs.List.{AllByRecursion}
use Rattle.std.proofs.lemmas.Bool.{cases_Bool}
use Rattle.blob.specs.Records.{MediumView}
use Rattle.cta_site.specs.declared.site.Site.{Site}
use Rattle.cta_model.specs.declared.answers.Answer.{Answer}
use Rattle.cta_model.specs.declared.asks.Ask.{Ask}
use Rattle.cta_model.specs.declared.asks.Ask.TheVariants as ask
use Rattle.cta_model.specs.Answers.{answer_of, is_accepted}
use Rattle.cta_model.specs.History.{History}
use Rattle.cta_model.specs.Kept.{Kept, KeepsLegal, kept_after, shelf_after}
use Rattle.cta_model.specs.Legal.{IsLegal, greatest_moment, new_entry}
use Rattle.cta_laws.specs.Changes.{may_change_mounts}
use Rattle.cta_laws.specs.Media.{TrueMediumStays, puts_on}
use Rattle.conn.specs.Cut.{Event, Continues, Requests, Refuses}
use Rattle.drive_session.specs.Table.{Row}
use Rattle.media.specs.Drives.{DriveView}
use Rattle.tape_routes.specs.Asked.{Asked, Asks, Looks, Replies, asked}
use Rattle.tape_routes.specs.Answering.{kept_then, request_keeps}
use Rattle.tape_routes.specs.Callers.{CallersAsk, IsCallers}
use Rattle.replay.specs.Output.{after, event_keeps, run_behind}
use Rattle.replay.specs.Laws.{AskFitly, AsksFit}
use Rattle.replay.specs.Promises.{AllTapesHaveMedia, AreSound, HaveMediaBehind, IsSound}
use Rattle.replay.specs.Run.{Answered, Happening, Stepped}
use Rattle.replay.specs.Steps.{RunState, behind_row, kept_in, row_at, with_kept}
use Rattle.replay.proofs.Histories.{IsLawful, IsTimely, ask_keeps, happening_is_lawful}
use Rattle.replay.proofs.Running.{run_behind-site}
use Rattle.replay.proofs.TrueMedia.{media_stay}

-- each step asks what a session may ask
pub fitly : (k : RunState) (hs : List Happening) → AreSound k hs → AskFitly k hs
fitly k [] sound = tt
fitly k (Answered link moment exchange ∷ hs) sound = (tt, fitly (run_behind k (Answered link moment exchange)) hs sound.1)
fitly k (Stepped drive moment heard seen left ∷ hs) sound = (sound.0.fit, fitly (run_behind k (Stepped drive moment heard seen left)) hs sound.1)

-- ---- what callers ask

-- it puts nothing on tape
puts_nothing : (h : History) (k : Ask) (sent : Option (List ℕ)) (v : ℕ) → IsCallers (Asks k sent) → puts_on h k v ≡ false
puts_nothing h (ask.Next d) sent v f = absurd f
puts_nothing h (ask.Claim m) sent v f = absurd f
puts_nothing h (ask.Flushed m items) sent v f = absurd f
puts_nothing h (ask.Recalled m job) sent v f = absurd f
puts_nothing h (ask.Failed m fault charged returned) sent v f = absurd f
puts_nothing h (ask.End m fault) sent v f = absurd f
puts_nothing h _ sent v f = refl

-- it opens and ends no mount
mounts_nothing : (k : Ask) (sent : Option (List ℕ)) → IsCallers (Asks k sent) → may_change_mounts k ≡ false
mounts_nothing (ask.Next d) sent f = absurd f
mounts_nothing (ask.End m fault) sent f = absurd f
mounts_nothing _ sent f = refl

-- it leaves the shelf
leaves_shelf : (k : Ask) (sent : Option (List ℕ)) (a : Answer) (shelf : List (Option MediumView)) → IsCallers (Asks k sent) → shelf_after k a None shelf ≡ shelf
leaves_shelf (ask.Next d) sent a shelf f = absurd f
leaves_shelf (ask.End m fault) sent a shelf f = absurd f
leaves_shelf _ sent a shelf f = refl

-- what is kept behind it: no more than its entry
then_shelf : (k : Kept) (t : ℕ) (x : Asked) → IsCallers x → (kept_then k t x).shelf ≡ k.shelf
unfolding kept_then
then_shelf k t (Asks x sent) fit =
    elim (cases_Bool (is_accepted (answer_of k.site k.history t x))) [
      | inl hit ↦ rw hit (leaves_shelf x sent (answer_of k.site k.history t x) k.shelf fit)
      | inr miss ↦ rw miss refl
    ]
then_shelf k t (Looks look) fit = refl
then_shelf k t (Replies reply) fit = refl

pub event_shelf : CallersAsk → (k : Kept) (t : ℕ) (e : Event) → (event_keeps k t e).shelf ≡ k.shelf
unfolding request_keeps
event_shelf callers k t Continues = refl
event_shelf callers k t (Requests request) = then_shelf k t (asked k.site request) (callers k.site request)
event_shelf callers k t (Refuses refusal) = refl

-- ---- media

module _ (keeps : KeepsLegal) (callers : CallersAsk) (stays : TrueMediumStays) where
  ask_media : (s : RunState) (t : ℕ) (x : Ask) (sent : Option (List ℕ)) → IsCallers (Asks x sent) → t ≤ greatest_moment → IsLawful (kept_in s) → AllTapesHaveMedia s
      → AllTapesHaveMedia (with_kept s (kept_after (kept_in s) t x (answer_of s.site s.history t x) None))
  ask_media s t x sent fit low legal media =
      let a = answer_of s.site s.history t x in
      let now : IsLawful (kept_after (kept_in s) t x a None) = ask_keeps keeps callers (kept_in s) t x sent fit low legal in
      elim (cases_Bool (is_accepted a)) [
        | inl hit ↦
            let e = new_entry s.history t x a in
            let grown : IsLegal s.site (e ∷ s.history) = rw hit at now in
            rw (hit, leaves_shelf x sent a s.shelf fit) (media_stay stays s e grown (mounts_nothing x sent fit) (λ v. puts_nothing s.history x sent v fit) media)
        | inr miss ↦ rw miss media
      ]

  then_media : (s : RunState) (t : ℕ) (x : Asked) → IsCallers x → t ≤ greatest_moment → IsLawful (kept_in s) → AllTapesHaveMedia s → AllTapesHaveMedia (with_kept s (kept_then (kept_in s) t x))
  unfolding kept_then
  then_media s t (Asks x sent) fit low legal media = ask_media s t x sent fit low legal media
  then_media s t (Looks look) fit low legal media = media
  then_media s t (Replies reply) fit low legal media = media

  event_media : (s : RunState) (t : ℕ) (e : Event) → t ≤ greatest_moment → IsLawful (kept_in s) → AllTapesHaveMedia s → AllTapesHaveMedia (with_kept s (event_keeps (kept_in s) t e))
  unfolding request_keeps
  event_media s t Continues low legal media = media
  event_media s t (Requests request) low legal media = then_media s t (asked s.site request) (callers s.site request) low legal media
  event_media s t (Refuses refusal) low legal media = media

  row_media : (s : RunState) (drive moment : ℕ) (seen : DriveView) (left : Option MediumView) (o : Option Row) → HaveMediaBehind s drive moment seen left o → AllTapesHaveMedia s
      → AllTapesHaveMedia (behind_row s drive moment seen left o)
  row_media s drive moment seen left None behind media = media
  row_media s drive moment seen left (Some r) behind media = behind

  media_behind : (s : RunState) (h : Happening) → IsSound s h → IsTimely h → IsLegal s.site s.history → AllTapesHaveMedia s → AllTapesHaveMedia (run_behind s h)
  media_behind s (Answered link moment exchange) sound timely legal media = event_media s moment exchange.event timely legal media
  media_behind s (Stepped drive moment heard seen left) sound timely legal media = row_media s drive moment seen left (row_at s drive heard) sound.media media

  asks_fit : (s : RunState) (h : Happening) → IsSound s h → AsksFit s h
  asks_fit s (Answered link moment exchange) sound = tt
  asks_fit s (Stepped drive moment heard seen left) sound = sound.fit

  pub all_media : (s : RunState) (hs : List Happening) → AreSound s hs → AllByRecursion IsTimely hs → IsLegal s.site s.history → AllTapesHaveMedia s → AllTapesHaveMedia (after s hs)
  all_media s [] sound timely legal media = media
  all_media s (h ∷ hs) sound timely legal media =
      let lawful : IsLegal s.site (run_behind s h).history = happening_is_lawful keeps callers s h (asks_fit s h sound.0) timely.0 legal in
      all_media (run_behind s h) hs sound.1 timely.1 (subst (λ (x : Site). IsLegal x (run_behind s h).history) (sym (run_behind-site s h)) lawful) (media_behind s h sound.0 timely.0 legal media)
