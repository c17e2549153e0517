-- The site that a site file tells.
use Rattle.std.proofs.Common.{◌≡◌, ◌+◌, ◌≤◌, ℕ, inl, inr, List, length, false, Option, Some, None, Result, Ok, Err, refl, sym, ap, ◌∙◌, arith, subst}
use Rattle.std.proofs.lemmas.Bool.{cases_Bool}
use Rattle.std.proofs.lemmas.Bool.Decides.{nat_tests}
use Rattle.std.specs.Prelude.{MatchResult, nat_le}
use Rattle.std.specs.Option.{option_or}
use Rattle.std.specs.Io.KnownBytes.{Consumes, IsAtEnd}
use Rattle.cta_site.specs.declared.check.SiteError.{SiteError}
use Rattle.cta_site.specs.declared.check.SiteError.TheVariants as error
use Rattle.cta_site.specs.declared.site.Site.{Site}
use Rattle.cta_site.specs.Bare.{bare_site}
use Rattle.cta_site.specs.Faults.{first_fault, IsCauseOf}
use Rattle.cta_site.specs.Numbering.{IsNumberedFrom}
use Rattle.site_json.specs.File.{file_fault, file_of, fault_within, site_of}
use Rattle.archive_opening.specs.Seen.{SourceView}
use Rattle.archive_opening.specs.SiteFile.{IsSiteOf, NoSite, TellsNoSite, site_fault, site_limit}
use Rattle.archive_opening.specs.SiteReading.{SiteTaken}
use Rattle.archive_opening.specs.declared.status.Status.{Status}
use Rattle.archive_opening.specs.declared.status.Status.TheVariants.{Site as SiteRule, NoMemory}

no_site : (s : Status) (bytes : List ℕ) (a b : SourceView) → Consumes a.left b.left bytes → IsAtEnd b.left → length bytes ≤ site_limit → TellsNoSite s bytes → NoSite s a b
no_site (SiteRule rule item) bytes a b took at few h = (bytes, took, inr (at, few), h)
no_site NoMemory bytes a b took at few h = tt
no_site _ bytes a b took at few h = absurd h

-- what the whole site file tells
pub site_told : (r : Result Site Status) (bytes : List ℕ) (a b : SourceView) → Consumes a.left b.left bytes → IsAtEnd b.left → length bytes ≤ site_limit → MatchResult r (IsSiteOf bytes) (λ s. TellsNoSite s bytes) → SiteTaken r a b
site_told (Ok site) bytes a b took at few h = (bytes, took, at, h)
site_told (Err s) bytes a b took at few h = no_site s bytes a b took at few h

-- too many bytes break rule 1
pub too_long : (bytes : List ℕ) → site_limit + 1 ≤ length bytes → site_fault bytes ≡ Some (1, 0)
unfolding file_of
too_long bytes long =
    let over : nat_le (length bytes) 16777216 ≡ false = grind (arith, nat_tests) in
    let none : file_of bytes ≡ None = rw over refl in
    ap (λ o. option_or (fault_within o) (first_fault (site_of bytes))) none

-- a file that breaks no rule has no more bytes than it may have
pub not_long : (bytes : List ℕ) → site_fault bytes ≡ None → length bytes ≤ site_limit
not_long bytes kept =
    elim (cases_Bool (nat_le (length bytes) 16777216)) [
      | inl fits ↦ grind (arith, nat_tests)
      | inr over ↦
          let long : site_limit + 1 ≤ length bytes = grind (arith, nat_tests) in
          let broken = too_long bytes long in
          absurd (cc)
    ]

-- what a site that was read breaks, and how it is numbered, by what its file tells
pub numbered_told : (s file valid : Site) → bare_site s ≡ file → IsNumberedFrom (bare_site s) valid → IsNumberedFrom file valid
numbered_told s file valid told n = subst (λ f. IsNumberedFrom f valid) told n

pub site_checked : (bytes : List ℕ) (s valid : Site) → file_fault bytes ≡ None → bare_site s ≡ site_of bytes → first_fault s ≡ None → IsNumberedFrom (bare_site s) valid → IsSiteOf bytes valid
site_checked bytes s valid read told kept numbered =
    let rest : first_fault (site_of bytes) ≡ None = sym (ap first_fault told) ∙ kept in
    record { kept = rw (read, rest) refl; numbered = numbered_told s (site_of bytes) valid told numbered }

-- an error of the file is the first, one of the site follows where the file has none
pub file_error : (e : SiteError) (bytes : List ℕ) → IsCauseOf e (file_fault bytes) → IsCauseOf e (site_fault bytes)
file_error (error.Fault rule item) bytes cause = rw cause refl
file_error error.NoMemory bytes cause = tt

pub site_error : (e : SiteError) (bytes : List ℕ) (s : Site) → file_fault bytes ≡ None → bare_site s ≡ site_of bytes → IsCauseOf e (first_fault s) → IsCauseOf e (site_fault bytes)
site_error (error.Fault rule item) bytes s read told cause =
    let rest : first_fault (site_of bytes) ≡ Some (rule, item) = sym (ap first_fault told) ∙ cause in
    rw (read, rest) refl
site_error error.NoMemory bytes s read told cause = tt

-- what the check of a site that was read says of its file
pub checked_told : (bytes : List ℕ) (s : Site) (r : Result Site SiteError) → file_fault bytes ≡ None → bare_site s ≡ site_of bytes → MatchResult r (λ valid. (first_fault s ≡ None) × IsNumberedFrom (bare_site s) valid) (λ e. IsCauseOf e (first_fault s)) → MatchResult r (IsSiteOf bytes) (λ e. IsCauseOf e (site_fault bytes))
checked_told bytes s (Ok valid) read told h = site_checked bytes s valid read told h.0 h.1
checked_told bytes s (Err e) read told h = site_error e bytes s read told h

pub one_site : (bytes : List ℕ) (s s' : Site) → ((file a b : Site) → first_fault file ≡ None → IsNumberedFrom file a → IsNumberedFrom file b → a ≡ b) → IsSiteOf bytes s → IsSiteOf bytes s' → s ≡ s'
one_site bytes s s' one p q = one (site_of bytes) s s' (second (file_fault bytes) (first_fault (site_of bytes)) p.kept) p.numbered q.numbered
  where
    second : (a b : Option (ℕ × ℕ)) → option_or a b ≡ None → b ≡ None
    second None b e = e
    second (Some x) b e = absurd (cc)
