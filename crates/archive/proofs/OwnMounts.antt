-- A pass's own mount.
use Rattle.std.proofs.Common.{◌≡◌, ℕ, ◌+◌, ◌⊎◌, inl, inr, List, [], ◌∷◌, ◌++◌, true, refl, sym, ap, ◌∙◌, subst, length}
use Rattle.std.specs.Prelude.{Option, Some, None, reverse, Ok, ◌==◌}
use Rattle.std.proofs.lemmas.Bool.{eq-eqb}
use Rattle.std.proofs.lemmas.List.{length-reverse}
use mathlib.Core.Option.{some}
use lib.ListN.{get_elem?}
use Rattle.blob.specs.Records.{MediumView}
use Rattle.cta_site.specs.declared.site.Site.{Site}
use Rattle.cta_model.specs.declared.entries.Entry.{Entry}
use Rattle.cta_model.specs.declared.asks.Ask.TheVariants as ask
use Rattle.cta_model.specs.declared.asks.Direction.{Direction}
use Rattle.cta_model.specs.declared.answers.Answer.TheVariants as answer
use Rattle.cta_model.specs.declared.hands.Hand.TheVariants as hand
use Rattle.cta_model.specs.History.{History}
use Rattle.cta_model.specs.Mounts.{mount_of, is_open}
use Rattle.cta_model.specs.Legal.{IsLegal, new_entry}
use Rattle.cta_laws.specs.Mounts.{IsMountKept}
use Rattle.turn_hall.specs.Topics.{Unasked}
use Rattle.turn_hall.specs.Calls.{made_in}
use Rattle.turn_hall.specs.Promises.{Opened, OpenedStays, OpenedJoins, OthersStayApart, CallOpens}
use Rattle.archive_turns.specs.declared.calls.ArchiveCall.{ArchiveCall}
use Rattle.archive_turns.specs.declared.calls.ArchiveCall.TheVariants as call
use Rattle.archive_turns.specs.declared.calls.ArchiveBack.{ArchiveBack}
use Rattle.archive_turns.specs.declared.calls.ArchiveBack.TheVariants as back
use Rattle.archive_turns.specs.Topics.{topic_of}
use Rattle.archive_turns.specs.Plays.{Plays, call_adds}
use Rattle.archive_turns.specs.Laws.{EntriesNameTheirMounts, MountIsKept}
use Rattle.archive.specs.OwnMounts.{NextOpens, OwnOverTurns, OwnOverJoins, OwnMountStays}
use Rattle.archive.proofs.Orders.{reverse_more, behind_apart, reverse_behind}

pub own_number : (m n : ℕ) → (m ≡ n) ⊎ (None ≡ Some m) → m ≡ n
own_number m n (inl same) = same
own_number m n (inr asked) = absurd (cc)

pub at_end : {A : Type 0} (xs : List A) (x : A) → get_elem? (xs ++ x ∷ []) (length xs) ≡ some x
at_end [] x = refl
at_end (y ∷ ys) x = at_end ys x

made_open : (h : History) (e : Entry) (m d : ℕ) (way : Direction) (tape : ℕ) → m ≡ length h + 1 → e.ask ≡ ask.Next d → e.answer ≡ answer.Mounted m way tape → (is_open (e ∷ h) m ≡ true) × (mount_of (e ∷ h) m ≡ Some (record { drive = d; direction = way; tape = tape }))
made_open h e m d way tape number asked answered =
    let hit : (m == length h + 1) ≡ true = eq-eqb m (length h + 1) number in
    (rw asked (rw answered (rw hit refl)), rw hit (rw asked (rw answered refl)))

module _ {M : Type 0} (told : M → MediumView) where
  pub next_opens : CallOpens Site {E = Entry} {C = ArchiveCall M} {B = ArchiveBack M} topic_of call_adds → EntriesNameTheirMounts told → NextOpens told
  next_opens opens names site v w at d m way tape in_hand x turn =
      let c : ArchiveCall M = call.Ask at (ask.Next d) in_hand in
      let b : ArchiveBack M = back.Ask (Ok (answer.Mounted m way tape, hand.Medium x)) in
      let h : History = reverse turn.before in
      let e : Entry = new_entry h at (ask.Next d) (answer.Mounted m way tape) in
      let left : reverse w.seen ≡ e ∷ h = turn.played.1.left in
      let number : m ≡ length h + 1 = own_number m (length h + 1) (names site h c b e m (subst (Plays told site h c b) left turn.played) refl) in
      let here : m ≡ length turn.before + 1 = number ∙ ap (λ (n : ℕ). n + 1) (length-reverse turn.before) in
      let seen : w.seen ≡ turn.before ++ e ∷ [] = reverse_more turn.before w.seen e left in
      let there : get_elem? w.seen (length turn.before) ≡ some e = subst (λ (l : List Entry). get_elem? l (length turn.before) ≡ some e) (sym seen) (at_end turn.before e) in
      let opened : Opened topic_of call_adds (Some (length turn.before + 1)) w = opens v w turn.turn (length turn.before) c b e turn.mine refl there (ap Some here) in
      let made = made_open h e m d way tape number refl refl in (
        record {
          opened = subst (λ (n : ℕ). Opened topic_of call_adds (Some n) w) (sym here) opened;
          is_open_mount = subst (λ (l : History). is_open l m ≡ true) (sym left) made.0;
          is_mount = subst (λ (l : History). mount_of l m ≡ Some (record { drive = d; direction = way; tape = tape })) (sym left) made.1;
        },
        turn.played.1.handed,
      )

  pub own_mount_stays : OthersStayApart Site {E = Entry} {C = ArchiveCall M} {B = ArchiveBack M} topic_of call_adds → MountIsKept → OwnMountStays told
  own_mount_stays apart law site v w c b m mount own turn =
      let unasked : Unasked topic_of (Some m) v.seen turn.before = apart v turn.before (Some m) turn.onward turn.apart own.opened in
      let is : reverse turn.before ≡ reverse turn.onward.0 ++ reverse v.seen = reverse_behind v.seen turn.before turn.onward in
      subst (λ (l : History). IsMountKept l (reverse v.seen) m) (sym is)
      (law site (reverse turn.onward.0) (reverse v.seen) m (subst (IsLegal site) is turn.was_legal) own.is_open_mount (behind_apart (Some m) v.seen turn.before turn.onward unasked))

  pub own_over_turns : OpenedStays Site {E = Entry} {C = ArchiveCall M} {B = ArchiveBack M} topic_of call_adds → OwnOverTurns told
  own_over_turns law site v w c b m own turn = law v w (made_in turn.turn (length turn.before) c b ∷ []) (Some m) turn.mine turn.seen own

  pub own_over_joins : OpenedJoins Site {E = Entry} {C = ArchiveCall M} {B = ArchiveBack M} topic_of call_adds → OwnOverJoins told
  own_over_joins law v w u m calls left right own = law v w u (Some m) calls left right own
