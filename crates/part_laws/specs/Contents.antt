-- The contents in the buffer: that of each resident file, known by its length and SHA-256.
use Rattle.std.specs.Prelude.{ℕ, ◌≡◌, [], ◌∷◌, Option, Some, None, if◌then◌else◌}
use Rattle.blob.specs.declared.sum.Sum256.{Sum256}
use Rattle.cta_site.specs.declared.site.Site.{Site}
use Rattle.cta_model.specs.declared.entries.Entry.{Entry}
use Rattle.cta_model.specs.History.{History, has_number}
use Rattle.cta_model.specs.Files.{sum_of}
use Rattle.cta_model.specs.Buffer.{is_resident}
use Rattle.cta_model.specs.Legal.{IsLegal}
use Rattle.part_laws.specs.Buffer.{entering, leaving}

-- the sum of a file's content, none where the file is not resident
abbrev pub content_of : History → ℕ → Option Sum256
content_of h f = if is_resident h f then Some (sum_of h f) else None

-- these are the contents of exactly the resident files, each with its file's sum
abbrev pub AreContents : History → (ℕ → Option Sum256) → Type 0
AreContents h contents = (f : ℕ) → contents f ≡ content_of h f

-- the contents behind the entry e: without those that leave, and with that of the file that enters
abbrev pub contents_after : History → Entry → (ℕ → Option Sum256) → ℕ → Option Sum256
contents_after h e contents f =
    if has_number f (entering h e.ask e.answer) then Some (sum_of (e ∷ h) f) else if has_number f (leaving h e.ask e.answer) then None else contents f

-- an empty history has no content
abbrev pub ContentsStartEmpty : Type 0
ContentsStartEmpty = AreContents [] (λ f. None)

-- contents of a legal history, moved by its next entry, are those of the history with it
abbrev pub ContentsMove : Type 0
ContentsMove =
    (site : Site) (h : History) (e : Entry) (contents : ℕ → Option Sum256) → IsLegal site (e ∷ h) → AreContents h contents
    → AreContents (e ∷ h) (contents_after h e contents)
