-- A record goes into the journal.
use Rattle.std.proofs.Common.{◌≡◌, ℕ, inl, inr, List, [], ◌∷◌, ◌++◌, sym, subst}
use Rattle.std.specs.Prelude.{Option, Some, Result, Ok, Err, OnOk}
use Rattle.cta_site.specs.declared.site.Site.{Site}
use Rattle.cta_model.specs.declared.entries.Entry.{Entry}
use Rattle.cta_model.specs.History.{History}
use Rattle.cta_model.specs.Legal.{IsLegal}
use Rattle.cta_journal.specs.Log.{HasLogOrMore}
use Rattle.cta_journal.specs.Standing.{StandsFor}
use Rattle.cta_journal.specs.declared.journal.Journal.{Journal}
use Rattle.cta_records.specs.declared.kept.Kept.{Kept}
use Rattle.cta_records.specs.Records.{KeptFits, body_of}
use Rattle.durable_archive.specs.Records.{AreRecordsOf, IsLastKept, MayHaveMore, MayHaveNext, StandsForNext}
use Rattle.durable_archive.proofs.Growing.{next_records}

pub more_fits : (bodies : List (List ℕ)) (kept : Kept) → KeptFits kept → (file : List ℕ) → HasLogOrMore bodies (body_of kept ∷ []) file → MayHaveMore bodies kept file
more_fits bodies kept fits file (inl has) = inl has
more_fits bodies kept fits file (inr has) = inr (fits, has)

pub on_both : {A B : Type 0} {P Q R : Type 0} (r : Result A B) → OnOk r P → OnOk r Q → (P → Q → R) → OnOk r R
on_both (Ok x) p q f = f p q
on_both (Err e) p q f = p

module _ (site : Site) (kept : Kept) (bodies : List (List ℕ)) where
  records : (e : Entry) (h g : History) → g ≡ e ∷ h → IsLegal site g → IsLastKept g (Some kept) → AreRecordsOf site h bodies → KeptFits kept → AreRecordsOf site g (bodies ++ body_of kept ∷ [])
  records e h g is legal last are fits =
      subst (λ (l : History). AreRecordsOf site l (bodies ++ body_of kept ∷ [])) (sym is)
      (next_records site h e bodies kept (subst (IsLegal site) is legal) are (subst (λ (l : History). IsLastKept l (Some kept)) is last) fits)

  pub next_stands_for : {K : Type 0} (content : K → Option (List ℕ)) (may_leave : K → List ℕ → Type 0) (journal : Journal K) (e : Entry) (h g : History) → g ≡ e ∷ h → IsLegal site g → IsLastKept g (Some kept) → AreRecordsOf site h bodies
      → KeptFits kept → StandsFor content may_leave journal (bodies ++ body_of kept ∷ []) → StandsForNext content may_leave journal site g bodies
  next_stands_for content may_leave journal e h g is legal last are fits stands = (body_of kept, records e h g is legal last are fits, stands)

  pub may_have_next : (e : Entry) (h g : History) → g ≡ e ∷ h → IsLegal site g → IsLastKept g (Some kept) → AreRecordsOf site h bodies → (file : List ℕ) → MayHaveMore bodies kept file → MayHaveNext site g bodies file
  may_have_next e h g is legal last are file (inl has) = inl has
  may_have_next e h g is legal last are file (inr more) = inr (body_of kept, records e h g is legal last are more.0, more.1)
