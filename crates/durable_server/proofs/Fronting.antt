-- The front of an archive with a journal for its drives keeps the laws of fronts.
use Rattle.std.proofs.Common.{◌≡◌, ◌∙◌, ℕ, ◌+◌, List, [], ◌∷◌, ◌++◌, refl, sym, ap, subst, length}
use Rattle.std.specs.Prelude.{Some, Result, Ok, reverse}
use Rattle.std.proofs.lemmas.List.{length-reverse}
use Rattle.std.proofs.lemmas.Option.{none-some, same_Some}
use mathlib.Core.Option.{some}
use lib.ListN.{get_elem?}
use Rattle.blob.specs.Records.{MediumView}
use Rattle.cta_values.specs.declared.no_memory.NoMemory.{NoMemory}
use Rattle.cta_model.specs.declared.answers.Answer.{Answer}
use Rattle.cta_model.specs.declared.answers.Answer.TheVariants as answer
use Rattle.cta_model.specs.declared.asks.Ask.{Ask}
use Rattle.cta_model.specs.declared.asks.Ask.TheVariants as ask
use Rattle.cta_model.specs.declared.asks.Direction.{Direction}
use Rattle.cta_model.specs.declared.entries.Entry.{Entry}
use Rattle.cta_model.specs.declared.hands.Hand.{Hand}
use Rattle.cta_model.specs.declared.hands.Hand.TheVariants as hand
use Rattle.cta_model.specs.History.{History}
use Rattle.cta_model.specs.Legal.{new_entry}
use Rattle.turn_hall.specs.declared.view.View.{View}
use Rattle.turn_hall.specs.Promises.{CallOpens, Opened, Turned}
use Rattle.archive_turns.specs.declared.calls.ArchiveBack.{ArchiveBack}
use Rattle.archive_turns.specs.declared.calls.ArchiveBack.TheVariants as archives
use Rattle.archive_turns.specs.declared.calls.ArchiveCall.{ArchiveCall}
use Rattle.archive_turns.specs.declared.calls.ArchiveCall.TheVariants as call
use Rattle.archive_turns.specs.Laws.{EntriesNameTheirMounts}
use Rattle.archive_turns.specs.Plays.{Plays}
use Rattle.archive_turns.specs.Topics.{topic_of}
use Rattle.archive.specs.InOrder.{IsLegalInOrder}
use Rattle.archive.proofs.Orders.{reverse_more}
use Rattle.archive.proofs.OwnMounts.{at_end, own_number}
use Rattle.drive_turns.specs.declared.front.Came.{Came}
use Rattle.drive_turns.specs.declared.front.Came.TheVariants as came
use Rattle.drive_turns.specs.Fronts.{AsksAreAnswered, MountsAreOwn}
use Rattle.durable_archive.specs.declared.back.CloseCause.{CloseCause}
use Rattle.durable_archive.specs.declared.back.LoggedBack.{LoggedBack}
use Rattle.durable_archive.specs.declared.back.LoggedBack.TheVariants as back
use Rattle.durable_archive.specs.declared.turns.LoggedSite.{LoggedSite}
use Rattle.durable_archive.specs.Turns.{LoggedPlays, logged_adds}
use Rattle.durable_server.specs.Drives.{heard_of, site_within}

-- what was heard is what came back
same_back : {M : Type 0} (r q : Result (Answer × Hand M) (NoMemory × Ask × Hand M)) → ◌≡◌ {A = Came M CloseCause} (came.Back r) (came.Back q) → r ≡ q
same_back r q is = cc

stopped : {M : Type 0} (why : CloseCause) (r : Result (Answer × Hand M) (NoMemory × Ask × Hand M)) → ◌≡◌ {A = Came M CloseCause} (came.Stop why) (came.Back r) → ⊥
stopped why r is = absurd (cc)

module _ {M K : Type 0} (told : M → MediumView) where
  pub asks_are_answered : AsksAreAnswered {W = LoggedSite K} {E = Entry} told site_within reverse call.Ask heard_of (λ s. LoggedPlays told s.site)
  asks_are_answered s xs ys at a k (back.Answered (archives.Ask r)) plays = (came.Back r, refl, plays.returns)
  asks_are_answered s xs ys at a k (back.Answered (archives.Look r)) plays = absurd plays.returns
  asks_are_answered s xs ys at a k (back.Closed why out added) plays = (came.Stop why, refl, tt)

  -- a Next that was answered Mounted opens its mount
  opened : CallOpens (LoggedSite K) {E = Entry} {C = ArchiveCall M} {B = LoggedBack M} topic_of logged_adds → EntriesNameTheirMounts told → (s : LoggedSite K) (v w : View (LoggedSite K) Entry (ArchiveCall M) (LoggedBack M)) (at d m tape : ℕ) (way : Direction) (k : Hand M) (x : M)
      → Turned (IsLegalInOrder s.site) (LoggedPlays told s.site) topic_of logged_adds v (call.Ask at (ask.Next d) k) (back.Answered (archives.Ask (Ok (answer.Mounted m way tape, hand.Medium x)))) w → Opened topic_of logged_adds (Some m) w
  opened opens names s v w at d m tape way k x turn =
      let c : ArchiveCall M = call.Ask at (ask.Next d) k in
      let b : ArchiveBack M = archives.Ask (Ok (answer.Mounted m way tape, hand.Medium x)) in
      let h : History = reverse turn.before in
      let e : Entry = new_entry h at (ask.Next d) (answer.Mounted m way tape) in
      let left : reverse w.seen ≡ e ∷ h = turn.played.returns.left in
      let number : m ≡ length h + 1 = own_number m (length h + 1) (names s.site h c b e m (subst (Plays told s.site h c b) left (turn.played.fit, turn.played.returns)) refl) in
      let here : m ≡ length turn.before + 1 = number ∙ ap (λ (n : ℕ). n + 1) (length-reverse turn.before) in
      let seen : w.seen ≡ turn.before ++ e ∷ [] = reverse_more turn.before w.seen e left in
      let there : get_elem? w.seen (length turn.before) ≡ some e = subst (λ (l : List Entry). get_elem? l (length turn.before) ≡ some e) (sym seen) (at_end turn.before e) in
      subst (λ (n : ℕ). Opened topic_of logged_adds (Some n) w) (sym here) (opens v w turn.turn (length turn.before) c (back.Answered b) e turn.mine refl there (ap Some here))

  pub mounts_are_own : CallOpens (LoggedSite K) {E = Entry} {C = ArchiveCall M} {B = LoggedBack M} topic_of logged_adds → EntriesNameTheirMounts told
      → MountsAreOwn {W = LoggedSite K} {E = Entry} call.Ask heard_of (λ s. IsLegalInOrder s.site) (λ s. LoggedPlays told s.site) topic_of logged_adds
  mounts_are_own opens names s v w at d m tape way k x (back.Answered (archives.Ask r)) turn heard =
      let is : r ≡ Ok (answer.Mounted m way tape, hand.Medium x) = same_back r (Ok (answer.Mounted m way tape, hand.Medium x)) (same_Some (came.Back r) (came.Back (Ok (answer.Mounted m way tape, hand.Medium x))) heard) in
      opened opens names s v w at d m tape way k x (subst (λ z. Turned (IsLegalInOrder s.site) (LoggedPlays told s.site) topic_of logged_adds v (call.Ask at (ask.Next d) k) (back.Answered (archives.Ask z)) w) is turn)
  mounts_are_own opens names s v w at d m tape way k x (back.Answered (archives.Look r)) turn heard = absurd (none-some _ heard)
  mounts_are_own opens names s v w at d m tape way k x (back.Closed why out added) turn heard =
      absurd (stopped why (Ok (answer.Mounted m way tape, hand.Medium x)) (same_Some (came.Stop why) (came.Back (Ok (answer.Mounted m way tape, hand.Medium x))) heard))
