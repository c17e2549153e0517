-- The front of an archive for its drives keeps the laws of fronts.
use Rattle.std.proofs.Common.{◌≡◌, refl, subst}
use Rattle.std.specs.Prelude.{Result, Ok, reverse}
use Rattle.std.proofs.lemmas.Option.{none-some, same_Some}
use Rattle.blob.specs.Records.{MediumView}
use Rattle.cta_values.specs.declared.no_memory.NoMemory.{NoMemory}
use Rattle.cta_site.specs.declared.site.Site.{Site}
use Rattle.cta_model.specs.declared.answers.Answer.{Answer}
use Rattle.cta_model.specs.declared.answers.Answer.TheVariants as answer
use Rattle.cta_model.specs.declared.asks.Ask.{Ask}
use Rattle.cta_model.specs.declared.asks.Ask.TheVariants as ask
use Rattle.cta_model.specs.declared.entries.Entry.{Entry}
use Rattle.cta_model.specs.declared.hands.Hand.{Hand}
use Rattle.cta_model.specs.declared.hands.Hand.TheVariants as hand
use Rattle.turn_hall.specs.Promises.{Turned}
use Rattle.archive_turns.specs.declared.calls.ArchiveBack.TheVariants as back
use Rattle.archive_turns.specs.declared.calls.ArchiveCall.TheVariants as call
use Rattle.archive_turns.specs.Plays.{call_adds}
use Rattle.archive_turns.specs.Topics.{topic_of}
use Rattle.archive.specs.InOrder.{IsLegalInOrder, PlaysInOrder}
use Rattle.archive.specs.OwnMounts.{NextOpens}
use Rattle.archive.proofs.Orders.{behind_apart, reverse_behind}
use Rattle.drive_turns.specs.declared.front.Came.{Came}
use Rattle.drive_turns.specs.declared.front.Came.TheVariants as came
use Rattle.drive_turns.specs.Fronts.{AsksAreAnswered, MountsAreOwn, TopicsAreMounts}
use Rattle.drive_server.specs.Drives.{heard_of}

pub topics_are_mounts : TopicsAreMounts {E = Entry} reverse topic_of
topics_are_mounts xs ys asked begins unasked = record {
  newer = reverse begins.0;
  is = reverse_behind xs ys begins;
  apart = behind_apart asked xs ys begins unasked;
}

-- what was heard is what came back
same_back : {M : Type 0} (r q : Result (Answer × Hand M) (NoMemory × Ask × Hand M)) → ◌≡◌ {A = Came M (Unit {0})} (came.Back r) (came.Back q) → r ≡ q
same_back r q is = cc

module _ {M : Type 0} (told : M → MediumView) where
  pub asks_are_answered : AsksAreAnswered {W = Site} {E = Entry} told (λ s. s) reverse call.Ask heard_of (PlaysInOrder told)
  asks_are_answered s xs ys at a k (back.Ask r) plays = (came.Back r, refl, plays.1)
  asks_are_answered s xs ys at a k (back.Look r) plays = absurd plays.1

  pub mounts_are_own : NextOpens told → MountsAreOwn {W = Site} {E = Entry} call.Ask heard_of IsLegalInOrder (PlaysInOrder told) topic_of call_adds
  mounts_are_own opens s v w at d m tape way k x (back.Ask r) turn heard =
      let is : r ≡ Ok (answer.Mounted m way tape, hand.Medium x) = same_back r (Ok (answer.Mounted m way tape, hand.Medium x)) (same_Some (came.Back r) (came.Back (Ok (answer.Mounted m way tape, hand.Medium x))) heard) in
      (opens s v w at d m way tape k x (subst (λ z. Turned (IsLegalInOrder s) (PlaysInOrder told s) topic_of call_adds v (call.Ask at (ask.Next d) k) (back.Ask z) w) is turn)).0.opened
  mounts_are_own opens s v w at d m tape way k x (back.Look r) turn heard = absurd (none-some _ heard)
