-- What a crash leaves of a journal.
use Rattle.std.proofs.Common.{◌≡◌, ℕ, inl, inr, List, [], ◌∷◌, ◌++◌, refl, subst, append_assoc}
use Rattle.std.specs.Prelude.{Option, Some}
use Rattle.cta_site.specs.declared.site.Site.{Site}
use Rattle.cta_model.specs.declared.entries.Entry.{Entry}
use Rattle.cta_model.specs.History.{History}
use Rattle.cta_journal.specs.declared.journal.Journal.{Journal}
use Rattle.cta_journal.specs.Log.{HasLog, records}
use Rattle.cta_journal.specs.Standing.{StandsFor, disk_of}
use Rattle.cta_journal.proofs.Records.{ends}
use Rattle.durable_archive.specs.Journaled.{StandsForHistory}
use Rattle.durable_archive.specs.Records.{AreRecordsOf, IsOlder, KeepsBetween, KeepsHistory, MayHaveNext, StandsForNext}

module _ {K : Type 0} (content : K → Option (List ℕ)) (may_leave : K → List ℕ → Type 0) where
  -- a crash leaves the log that a journal stands for
  pub stands_leaves : (journal : Journal K) (bodies : List (List ℕ)) → StandsFor content may_leave journal bodies → (file : List ℕ) → may_leave (disk_of journal) file → HasLog file bodies
  stands_leaves journal bodies s file left = ends bodies file [] s.gate s.shut (s.durable file left)

  pub keeps_here : (journal : Journal K) (site : Site) (begun : List (List ℕ)) (h : History) → StandsForHistory content may_leave journal site begun h → (file : List ℕ) → may_leave (disk_of journal) file
      → KeepsHistory site begun h file
  keeps_here journal site begun h s file left = (s.0, s.1, stands_leaves journal (begun ++ s.0) s.2 file left)

  pub next_stands : (journal : Journal K) (site : Site) (begun more : List (List ℕ)) (later : History) → StandsForNext content may_leave journal site later (begun ++ more) → StandsForHistory content may_leave journal site begun later
  next_stands journal site begun more later s =
      let is : (begun ++ more) ++ s.0 ∷ [] ≡ begun ++ (more ++ s.0 ∷ []) = append_assoc begun more (s.0 ∷ []) in
      (more ++ s.0 ∷ [], subst (AreRecordsOf site later) is s.1, subst (StandsFor content may_leave journal) is s.2)

  -- what a read gives of a journal that stands for a history
  pub keeps_told : (journal : Journal K) (site : Site) (begun : List (List ℕ)) (h : History) → StandsForHistory content may_leave journal site begun h → (file : List ℕ) × (content (disk_of journal) ≡ Some file) × KeepsHistory site begun h file
  keeps_told journal site begun h s =
      let file = records (begun ++ s.0) ++ s.2.gate ∷ [] in
      (file, s.2.told, (s.0, s.1, ends (begun ++ s.0) file [] s.2.gate s.2.shut refl))

pub now : (h : History) → IsOlder h h
now h = ([], refl)

-- a crash leaves the history that a journal stands for
pub keeps_same : (site : Site) (begun : List (List ℕ)) (h : History) (file : List ℕ) → KeepsHistory site begun h file → KeepsBetween site begun h h file
keeps_same site begun h file keeps = (h, now h, now h, keeps)

-- a file that may have one record more keeps the history, or the one before it
pub next_keeps : (site : Site) (begun more : List (List ℕ)) (e : Entry) (h : History) (file : List ℕ) → AreRecordsOf site h (begun ++ more) → MayHaveNext site (e ∷ h) (begun ++ more) file → KeepsBetween site begun h (e ∷ h) file
next_keeps site begun more e h file are (inl has) = (h, now h, (e ∷ [], refl), (more, are, has))
next_keeps site begun more e h file are (inr next) =
    let is : (begun ++ more) ++ next.0 ∷ [] ≡ begun ++ (more ++ next.0 ∷ []) = append_assoc begun more (next.0 ∷ []) in
    (e ∷ h, (e ∷ [], refl), now (e ∷ h), (more ++ next.0 ∷ [], subst (AreRecordsOf site (e ∷ h)) is next.1, subst (HasLog file) is next.2))
