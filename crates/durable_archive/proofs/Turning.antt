-- The laws of turns, of an archive that keeps a journal.
use Rattle.std.proofs.Common.{◌≡◌, ℕ, ◌+◌, ◌⊎◌, List, [], ◌∷◌, Bool, true, false, sym, ap, ◌∙◌, subst, arith, length}
use Rattle.std.specs.Prelude.{Some, reverse, Ok}
use Rattle.std.proofs.lemmas.List.{append-nil}
use mathlib.Core.List.{IsPrefix}
use mathlib.Core.Option.{some, some-ne-none}
use lib.ListN.{get_elem?}
use Rattle.blob.specs.Records.{MediumView}
use Rattle.cta_site.specs.declared.site.Site.{Site}
use Rattle.cta_model.specs.declared.answers.Answer.{Answer}
use Rattle.cta_model.specs.declared.entries.Entry.{Entry}
use Rattle.cta_model.specs.declared.hands.Hand.{Hand}
use Rattle.cta_model.specs.Answers.{is_accepted}
use Rattle.cta_model.specs.Bare.{bare_answer}
use Rattle.cta_model.specs.Kept.{Kept}
use Rattle.turn_hall.specs.Lists.{one_if}
use Rattle.archive_turns.specs.declared.calls.ArchiveCall.{ArchiveCall}
use Rattle.archive_turns.specs.declared.calls.ArchiveCall.TheVariants as call
use Rattle.archive_turns.specs.declared.calls.ArchiveBack.{ArchiveBack}
use Rattle.archive_turns.specs.declared.calls.ArchiveBack.TheVariants as archives
use Rattle.archive_turns.specs.Fits.{CanPlay}
use Rattle.archive_turns.specs.Plays.{Returns, call_adds, call_asks}
use Rattle.archive_turns.specs.Topics.{topic_of}
use Rattle.archive.specs.InOrder.{Grows, IsLegalInOrder, PlaysInOrder, Sounds, Topics}
use Rattle.archive.proofs.Orders.{reverse_one}
use Rattle.durable_archive.specs.declared.back.LoggedBack.{LoggedBack}
use Rattle.durable_archive.specs.declared.back.LoggedBack.TheVariants as back
use Rattle.durable_archive.specs.Turns.{ClosedKeeps, ClosedReturns, LoggedKeeps, LoggedPlays, LoggedReturns, logged_adds}

none_at : {A : Type 0} (xs : List A) (e : A) → get_elem? xs (length xs) ≡ some e → ⊥
none_at [] e at = some-ne-none e (sym at)
none_at (x ∷ xs) e at = none_at xs e at

module _ {M : Type 0} (told : M → MediumView) where
  -- a call that is answered Closed was played as one of the archive that added its entry, or changed nothing
  abbrev WasPlayed : Site → List Entry → ArchiveCall M → Bool → List Entry → Type 0
  WasPlayed site xs c true ys = (b : ArchiveBack M) × PlaysInOrder told site xs c b ys × (call_adds c b ≡ true)
  WasPlayed site xs c false ys = ys ≡ xs

  adds_so : (site : Site) (xs ys : List Entry) (c : ArchiveCall M) (out : Hand M) (a : Answer) → is_accepted (bare_answer a) ≡ true → Returns told site (reverse xs) c (archives.Ask (Ok (a, out))) (reverse ys)
      → call_adds c (archives.Ask (Ok (a, out))) ≡ true
  adds_so site xs ys (call.Ask at k in_hand) out a is_so returns = is_so
  adds_so site xs ys (call.Look at k) out a is_so returns = absurd returns

  was_played : (site : Site) (xs : List Entry) (c : ArchiveCall M) (out : Hand M) (added : Bool) (ys : List Entry) → CanPlay told site (reverse xs) c → ClosedReturns told added site (reverse xs) c out (reverse ys)
      → WasPlayed site xs c added ys
  was_played site xs c out true ys fit came = (archives.Ask (Ok (came.0, out)), (fit, came.2), adds_so site xs ys c out came.0 came.1 came.2)
  was_played site xs c out false ys fit came = reverse_one xs ys came.0

  grown : Grows told → (site : Site) (xs : List Entry) (c : ArchiveCall M) (added : Bool) (ys : List Entry) → WasPlayed site xs c added ys → IsPrefix xs ys × (length ys ≡ length xs + one_if added)
  grown law site xs c true ys was =
      subst (λ (b : Bool). IsPrefix xs ys × (length ys ≡ length xs + one_if b)) was.2 (law site xs c was.0 ys was.1)
  grown law site xs c false ys was = (([], append-nil xs ∙ sym was), (let n : length ys ≡ length xs = ap length was in let z : length ys ≡ length xs + 0 = omega (arith, n) in z))

  pub logged_grows : Grows told → (site : Site) (xs : List Entry) (c : ArchiveCall M) (b : LoggedBack M) (ys : List Entry) → LoggedPlays told site xs c b ys → IsPrefix xs ys × (length ys ≡ length xs + one_if (logged_adds c b))
  logged_grows law site xs c (back.Answered b) ys plays = law site xs c b ys (plays.fit, plays.returns)
  logged_grows law site xs c (back.Closed why out added) ys plays = grown law site xs c added.value ys (was_played site xs c out added.value ys plays.fit plays.returns)

  sound : Sounds told → (site : Site) (xs : List Entry) (c : ArchiveCall M) (added : Bool) (ys : List Entry) → IsLegalInOrder site xs → WasPlayed site xs c added ys → IsLegalInOrder site ys
  sound law site xs c true ys legal was = law site xs c was.0 ys legal was.1
  sound law site xs c false ys legal was = subst (IsLegalInOrder site) (sym was) legal

  pub logged_sounds : Sounds told → (site : Site) (xs : List Entry) (c : ArchiveCall M) (b : LoggedBack M) (ys : List Entry) → IsLegalInOrder site xs → LoggedPlays told site xs c b ys → IsLegalInOrder site ys
  logged_sounds law site xs c (back.Answered b) ys legal plays = law site xs c b ys legal (plays.fit, plays.returns)
  logged_sounds law site xs c (back.Closed why out added) ys legal plays = sound law site xs c added.value ys legal (was_played site xs c out added.value ys plays.fit plays.returns)

  topic : Topics told → (site : Site) (xs : List Entry) (c : ArchiveCall M) (added : Bool) (ys : List Entry) (e : Entry) (k : ℕ) → WasPlayed site xs c added ys → get_elem? ys (length xs) ≡ some e → topic_of e ≡ Some k
      → (k ≡ length xs + 1) ⊎ (call_asks c ≡ Some k)
  topic law site xs c true ys e k was at about = law site xs c was.0 ys e k was.1 at about
  topic law site xs c false ys e k was at about = absurd (none_at xs e (subst (λ (l : List Entry). get_elem? l (length xs) ≡ some e) was at))

  pub logged_topics : Topics told → (site : Site) (xs : List Entry) (c : ArchiveCall M) (b : LoggedBack M) (ys : List Entry) (e : Entry) (k : ℕ) → LoggedPlays told site xs c b ys → get_elem? ys (length xs) ≡ some e
      → topic_of e ≡ Some k → (k ≡ length xs + 1) ⊎ (call_asks c ≡ Some k)
  logged_topics law site xs c (back.Answered b) ys e k plays at about = law site xs c b ys e k (plays.fit, plays.returns) at about
  logged_topics law site xs c (back.Closed why out added) ys e k plays at about = topic law site xs c added.value ys e k (was_played site xs c out added.value ys plays.fit plays.returns) at about

  -- what comes back leaves the history that the archive keeps
  closed_returns : (added : Bool) (kept : Kept) (c : ArchiveCall M) (out : Hand M) (kept' : Kept) → ClosedKeeps told added kept c out kept' → ClosedReturns told added kept.site kept.history c out kept'.history
  closed_returns true kept c out kept' came = (came.0, came.1, came.2)
  closed_returns false kept c out kept' came = (ap (λ (k : Kept). k.history) came.0, came.1)

  pub logged_returns : (kept : Kept) (c : ArchiveCall M) (b : LoggedBack M) (kept' : Kept) → LoggedKeeps told kept c b kept' → LoggedReturns told kept.site kept.history c b kept'.history
  logged_returns kept c (back.Answered b) kept' came = came.0
  logged_returns kept c (back.Closed why out added) kept' came = closed_returns added.value kept c out kept' came
