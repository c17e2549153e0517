-- How entries move the list of failed copies.
use Rattle.std.specs.Prelude.{◌≡◌, [], ◌∷◌, map}
use Rattle.cta_site.specs.declared.site.Site.{Site}
use Rattle.cta_model.specs.declared.entries.Entry.{Entry}
use Rattle.cta_model.specs.declared.asks.Job.{Job}
use Rattle.cta_model.specs.History.{History}
use Rattle.cta_model.specs.Reports.{failed_copies, failed_copy}
use Rattle.cta_model.specs.Legal.{IsLegal}
use Rattle.part_laws.specs.Failed.{failed_after, failed_jobs}

-- the failed copies of a legal history, moved by its next entry, are those behind it
abbrev pub FailedMove : Type 0
FailedMove =
    (site : Site) (h : History) (e : Entry) → IsLegal site (e ∷ h)
    → failed_jobs site (e ∷ h) ≡ failed_after site h e.ask e.answer (failed_jobs site h)

-- an empty history has no failed copy
abbrev pub FailedStartEmpty : Type 0
FailedStartEmpty = (site : Site) → failed_jobs site [] ≡ []

-- what is told of the failed copies is told of the list, copy by copy
abbrev pub FailedTell : Type 0
FailedTell = (site : Site) (h : History) → failed_copies site h ≡ map (λ (j : Job). failed_copy site h j.file j.copy) (failed_jobs site h)
