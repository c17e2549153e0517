-- A whole run: words of the form, a site file and a whole script.
use Rattle.std.proofs.Common.{◌≡◌, Bool, ℕ, ◌≤◌, ◌⊎◌, inl, inr, List, ◌++◌, length, Option, None, Some, refl, sym, ap, ◌∙◌, subst, arith, append-nil, length-append}
use Rattle.std.specs.Io.KnownBytes.{Consumes, IsAtEnd}
use Rattle.outside.specs.Causes.{Rose}
use Rattle.cta_site.specs.Faults.{first_fault}
use Rattle.cta_site.specs.Numbering.{IsNumberedFrom}
use Rattle.cta_site.specs.declared.site.Site.{Site}
use Rattle.archive_opening.specs.Seen.{SourceView}
use Rattle.archive_opening.specs.SiteFile.{IsSiteOf, NoSite, site_fault}
use Rattle.archive_opening.specs.declared.status.Status.{Status}
use Rattle.archive_opening.specs.declared.status.Status.TheVariants.{Ok, Site as SiteRule, ReadFault, NoMemory}
use Rattle.archive_opening.proofs.Sites.{not_long, one_site}
use Rattle.replay.specs.Outcome.{IsReadWhole, ReachesEnd}
use Rattle.replay.specs.Top.{Handed, Runs, RunsWhole}
use Rattle.replay.proofs.Completing.{RunsToEnd-from_replays}

-- what was taken of the site file is a front of it, and all of it at its end
taken_site : (site bytes : List ℕ) (left left' : Option (List ℕ)) → left ≡ Some site → Consumes left left' bytes → (length bytes ≤ length site) × (IsAtEnd left' → bytes ≡ site)
taken_site site bytes None left' e t = absurd (let f : None ≡ Some site = e in cc)
taken_site site bytes (Some xs) None e t = absurd t
taken_site site bytes (Some xs) (Some ys) e t =
    let same : xs ≡ site = cc in
    (omega (arith, ap length t, ap length same, length-append bytes ys), λ at. sym (append-nil bytes) ∙ ap (λ l. bytes ++ l) (sym at) ∙ sym t ∙ same)

by_site : (status : Status) (file : List ℕ) (a b : SourceView) → a.left ≡ Some file → site_fault file ≡ None → (Rose a.faults b.faults → ⊥) → NoSite status a b → status ≡ NoMemory
by_site (SiteRule rule item) file a b e kept calm (bytes, t, inl long, broken) =
    let s = taken_site file bytes a.left b.left e t in
    let fits = not_long file kept in
    absurd (omega (arith, long, s.0, fits))
by_site (SiteRule rule item) file a b e kept calm (bytes, t, inr end, broken) =
    let s = taken_site file bytes a.left b.left e t in
    let same : site_fault bytes ≡ site_fault file = ap site_fault (s.1 end.0) in
    absurd (cc)
by_site ReadFault file a b e kept calm h = absurd (calm h.3)
by_site NoMemory file a b e kept calm h = refl
by_site _ file a b e kept calm h = absurd h

pub RunsWhole-from_runs : ((file a b : Site) → first_fault file ≡ None → IsNumberedFrom file a → IsNumberedFrom file b → a ≡ b) → (tells : Bool) (status : Status) (words : List (List ℕ)) (a b : Handed) → Runs tells status words a b → RunsWhole tells status words a b
RunsWhole-from_runs one tells status words a b (inl (inl p, same)) = λ bytes site records rest form had is reaches no_site no_read no_write. absurd (p.0 form)
RunsWhole-from_runs one tells status words a b (inl (inr wanted, same)) = λ bytes site records rest form had is reaches no_site no_read no_write. inr wanted
RunsWhole-from_runs one tells status words a b (inr (form', inl p)) = λ bytes site records rest form had is reaches no_site no_read no_write.
    inr (by_site status bytes a.site b.site had is.kept no_site p.0)
RunsWhole-from_runs one tells status words a b (inr (form', inr (site', reads, replays))) = λ bytes site records rest form had is reaches no_site no_read no_write.
    let s = taken_site bytes reads.0 a.site.left b.site.left had reads.1 in
    let is' = subst (λ x. IsSiteOf x site') (s.1 reads.2) reads.3 in
    let same = one_site bytes site' site one is' is in
    let reaches' = subst (λ x. ReachesEnd x a.script.left records rest) (sym same) reaches in
    subst (λ x. ((status ≡ Ok) × IsReadWhole tells x records rest b.script a.out b.out) ⊎ (status ≡ NoMemory)) same
    (RunsToEnd-from_replays tells status site' a.script b.script a.out b.out replays records rest reaches' no_read no_write)
