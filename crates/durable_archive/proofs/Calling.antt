-- One call of an archive that keeps a journal.
use Rattle.std.proofs.Common.{arith, ◌≡◌, ℕ, ◌≤◌, List, ◌∷◌, ◌++◌, Bool, true, false, not, refl, sym, ap, subst}
use Rattle.std.specs.Prelude.{Option, Some, None, Ok, Err, if◌then◌else◌}
use Rattle.blob.specs.Records.{MediumView}
use Rattle.cta_site.specs.declared.site.Site.{Site}
use Rattle.cta_model.specs.declared.entries.Entry.{Entry}
use Rattle.cta_model.specs.Answers.{is_accepted}
use Rattle.cta_model.specs.Bare.{bare_answer, bare_ask}
use Rattle.cta_model.specs.Hands.{medium_in}
use Rattle.cta_model.specs.History.{History}
use Rattle.cta_model.specs.Kept.{Kept, kept_after}
use Rattle.cta_journal.specs.declared.journal.Journal.{Journal}
use Rattle.cta_journal.specs.Disk.{LeavesOnly}
use Rattle.cta_journal.specs.Standing.{StandsFor, disk_of, is_open_of}
use Rattle.cta_journal.proofs.Moments.{started, weaker}
use Rattle.archive_turns.specs.declared.calls.ArchiveCall.{ArchiveCall}
use Rattle.archive_turns.specs.declared.calls.ArchiveCall.TheVariants as call
use Rattle.archive_turns.specs.declared.calls.ArchiveBack.{ArchiveBack}
use Rattle.archive_turns.specs.declared.calls.ArchiveBack.TheVariants as archives
use Rattle.archive_turns.specs.Plays.{Returns, kept_with}
use Rattle.durable_archive.specs.declared.back.CloseCause.{CloseCause}
use Rattle.durable_archive.specs.declared.back.CloseCause.TheVariants as cause
use Rattle.durable_archive.specs.Journaled.{IsCauseOf, IsLogged, StandsForHistory, sure_of}
use Rattle.durable_archive.specs.Records.{AreRecordsOf, KeepsBetween, KeepsHistory, MayHaveNext, StandsForNext, all_but_last}
use Rattle.durable_archive.specs.Turns.{back_adds}
use Rattle.durable_archive.proofs.Leaving.{keeps_here, keeps_same, keeps_told, next_keeps, next_stands}

-- a cause of some append holds since the count stood no higher
pub cause_since : (first before behind : ℕ) (why : CloseCause) → first ≤ before → IsCauseOf why before behind → IsCauseOf why first behind
cause_since first before behind (cause.Disk faults) le is = (omega (arith, le, is.0), is.1)
cause_since first before behind cause.Memory le is = tt

pub was_false : (b : Bool) → not b ≡ true → b ≡ false
was_false true is_so = absurd (cc)
was_false false is_so = refl

pub was_true : (b : Bool) → not b ≡ false → b ≡ true
was_true true is_not = refl
was_true false is_not = absurd (cc)

module _ {M : Type 0} (told : M → MediumView) where
  -- what came back added an entry, or none
  one_more : (b : Bool) (e : Entry) (h g : History) → b ≡ true → g ≡ (if b then e ∷ h else h) → g ≡ e ∷ h
  one_more true e h g is_so is = is
  one_more false e h g is_so is = absurd (cc)

  none_more : (b : Bool) (e : Entry) (h g : History) → b ≡ false → g ≡ (if b then e ∷ h else h) → g ≡ h
  none_more true e h g is_not is = absurd (cc)
  none_more false e h g is_not is = is

  pub adds_one : (site : Site) (h : History) (c : ArchiveCall M) (b : ArchiveBack M) (g : History) → back_adds b ≡ true → Returns told site h c b g → (e : Entry) × (g ≡ e ∷ h)
  adds_one site h (call.Ask at k in_hand) (archives.Ask (Ok (a, out))) g adds returns = (_, one_more (is_accepted (bare_answer a)) _ h g adds returns.left)
  adds_one site h (call.Ask at k in_hand) (archives.Ask (Err e)) g adds returns = absurd (cc)
  adds_one site h (call.Look at k) (archives.Ask r) g adds returns = absurd returns
  adds_one site h c (archives.Look r) g adds returns = absurd (cc)

  pub adds_none : (site : Site) (h : History) (c : ArchiveCall M) (b : ArchiveBack M) (g : History) → back_adds b ≡ false → Returns told site h c b g → g ≡ h
  adds_none site h (call.Ask at k in_hand) (archives.Ask (Ok (a, out))) g adds returns = none_more (is_accepted (bare_answer a)) _ h g adds returns.left
  adds_none site h (call.Ask at k in_hand) (archives.Ask (Err (none, again, out))) g adds returns = returns.0
  adds_none site h (call.Ask at k in_hand) (archives.Look r) g adds returns = absurd returns
  adds_none site h (call.Look at k) (archives.Ask r) g adds returns = absurd returns
  adds_none site h (call.Look at k) (archives.Look (Ok (a, out))) g adds returns = returns.0
  adds_none site h (call.Look at k) (archives.Look (Err none)) g adds returns = returns

  pub same_site : (kept : Kept) (c : ArchiveCall M) (b : ArchiveBack M) → (kept_with told kept c b).site ≡ kept.site
  same_site kept (call.Ask at k in_hand) (archives.Ask (Ok (a, out))) = after (is_accepted (bare_answer a)) refl
    where
      after : (b : Bool) → is_accepted (bare_answer a) ≡ b → (kept_after kept at (bare_ask k) (bare_answer a) (medium_in told in_hand)).site ≡ kept.site
      after true is = rw is refl
      after false is = rw is refl
  same_site kept (call.Ask at k in_hand) (archives.Ask (Err e)) = refl
  same_site kept (call.Ask at k in_hand) (archives.Look r) = refl
  same_site kept (call.Look at k) b = refl

module _ {K : Type 0} (content : K → Option (List ℕ)) (may_leave : K → List ℕ → Type 0) (site : Site) where
  -- ---- what a crash leaves between two calls

  pub rests : (h : History) (journal : Journal K) (closed : Option CloseCause) (first : Journal K) → IsLogged content may_leave site h journal closed first → (begun : List (List ℕ)) → StandsFor content may_leave first begun
      → (file : List ℕ) → may_leave (disk_of journal) file → KeepsBetween site begun (sure_of closed h) h file
  rests h journal None first kept begun s file left = keeps_same site begun h file (keeps_here content may_leave journal site begun h (kept.1 begun s) file left)
  rests h journal (Some why) first kept begun s file left = kept begun s file left

  -- what a read gives of an open journal's disk
  pub stands_told : (h : History) (journal : Journal K) (closed : Option CloseCause) (first : Journal K) → IsLogged content may_leave site h journal closed first → closed ≡ None → (begun : List (List ℕ)) → StandsFor content may_leave first begun
      → (file : List ℕ) × (content (disk_of journal) ≡ Some file) × KeepsHistory site begun h file
  stands_told h journal None first kept is_open begun s = keeps_told content may_leave journal site begun h (kept.1 begun s)
  stands_told h journal (Some why) first kept is_open begun s = absurd (cc)

  module _ (moment : K → ℕ) (left_since : K → ℕ → List ℕ → Type 0) (only_now : (disk : K) (c : List ℕ) → left_since disk (moment disk) c → may_leave disk c) where
    -- no call of the disk was made
    pub untouched : (h g : History) (journal after : Journal K) (closed : Option CloseCause) (first : Journal K) → after ≡ journal → g ≡ h → IsLogged content may_leave site h journal closed first → (begun : List (List ℕ)) → StandsFor content may_leave first begun
        → LeavesOnly moment left_since (disk_of journal) (disk_of after) (KeepsBetween site begun (sure_of closed h) g)
    untouched h g journal after closed first is same kept begun s =
        subst (λ (j : Journal K). LeavesOnly moment left_since (disk_of journal) (disk_of j) (KeepsBetween site begun (sure_of closed h) g)) (sym is)
        (subst (λ (l : History). LeavesOnly moment left_since (disk_of journal) (disk_of journal) (KeepsBetween site begun (sure_of closed h) l)) (sym same)
        (started moment left_since (disk_of journal) (KeepsBetween site begun (sure_of closed h) h) (λ file left. rests h journal closed first kept begun s file (only_now (disk_of journal) file left))))

    -- an append was made, or tried
    module _ (e : Entry) (h g : History) (is : g ≡ e ∷ h) (old new first : Journal K) (kept : IsLogged content may_leave site h old None first)
        (appends : (bodies : List (List ℕ)) → AreRecordsOf site h bodies → StandsFor content may_leave old bodies → LeavesOnly moment left_since (disk_of old) (disk_of new) (MayHaveNext site g bodies)) where
      next : (begun : List (List ℕ)) → StandsFor content may_leave first begun → (file : List ℕ) → (more : StandsForHistory content may_leave old site begun h) → MayHaveNext site g (begun ++ more.0) file → KeepsBetween site begun h g file
      next begun s file more may =
          subst (λ (l : History). KeepsBetween site begun h l file) (sym is)
          (next_keeps site begun more.0 e h file more.1 (subst (λ (l : History). MayHaveNext site l (begun ++ more.0) file) is may))

      pub appended : (begun : List (List ℕ)) → StandsFor content may_leave first begun → LeavesOnly moment left_since (disk_of old) (disk_of new) (KeepsBetween site begun h g)
      appended begun s =
          let more = kept.1 begun s in
          weaker moment left_since (disk_of old) (disk_of new) (MayHaveNext site g (begun ++ more.0)) (KeepsBetween site begun h g) (appends (begun ++ more.0) more.1 more.2) (λ file may. next begun s file more may)

      -- an append that failed
      pub failed : ((disk : K) (t : ℕ) (c : List ℕ) → t ≤ moment disk → may_leave disk c → left_since disk t c) → (why : CloseCause) → IsLogged content may_leave site g new (Some why) first
      failed counts why begun s file left =
          let run = appended begun s in
          subst (λ (l : History). KeepsBetween site begun l g file) (ap all_but_last (sym is))
          (run.each file (counts (disk_of new) (moment (disk_of old)) file run.later left))

      -- an append that succeeded
      pub kept_on : is_open_of new ≡ true → ((bodies : List (List ℕ)) → AreRecordsOf site h bodies → StandsFor content may_leave old bodies → StandsForNext content may_leave new site g bodies) → IsLogged content may_leave site g new None first
      kept_on is_open stored = (
        is_open,
        λ begun s. (let more = kept.1 begun s in next_stands content may_leave new site begun more.0 g (stored (begun ++ more.0) more.1 more.2)),
      )
