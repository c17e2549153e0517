-- The entry of a live file is a Put of its path.
use Rattle.std.proofs.Common.{◌≡◌, ℕ, ◌+◌, ◌≤◌, inl, inr, List, [], ◌∷◌, Bool, true, false, refl, sym, ap, subst, arith, length, ◌∙◌, ◌⊎◌}
use Rattle.std.specs.Prelude.{Option, Some, None, if◌then◌else◌, ◌==◌, bytes_eq}
use Rattle.std.proofs.lemmas.Bool.{eqb-true, eq-eqb}
use Rattle.blob.specs.declared.sum.Sum256.{Sum256}
use Rattle.cta_site.specs.declared.site.Site.{Site}
use Rattle.cta_model.specs.declared.entries.Entry.{Entry}
use Rattle.cta_model.specs.declared.asks.Ask.{Ask}
use Rattle.cta_model.specs.declared.asks.Ask.TheVariants as ask
use Rattle.cta_model.specs.declared.asks.Who.{Who}
use Rattle.cta_model.specs.declared.asks.Job.{Job}
use Rattle.cta_model.specs.History.{History, entry_of, is_number}
use Rattle.cta_model.specs.Files.{live_file, live_after, is_live, path_of}
use Rattle.cta_model.specs.Jobs.{is_live_job}
use Rattle.cta_model.specs.Legal.{IsLegal}
use Rattle.cta_laws.specs.Jobs.{HasPut, IsPutOf, JobFileHasPut}
use Rattle.cta_laws.proofs.Tests.{bool_cases}
use Rattle.cta_laws.proofs.Sums.{entry_older}
use Rattle.cta_laws.proofs.Paths.{same_bytes}
use Rattle.cta_laws.proofs.PlaceLaw.{named_within}
use Rattle.cta_laws.proofs.JobFiles.{job_file_live}

put_step : (k : Ask) (n f : ℕ) (p : List ℕ) (o : Option ℕ) → is_number f (live_after k n p o) ≡ true → ((f ≡ n) × IsPutOf p k) ⊎ (is_number f o ≡ true)
put_step (ask.Put who q sum) n f p o e =
    elim (bool_cases (bytes_eq q p)) [
      | inl hit ↦ inl (eqb-true f n (rw hit at e), same_bytes q p hit)
      | inr miss ↦ inr (rw miss at e)
    ]
put_step (ask.Delete who q) n f p o e =
    elim (bool_cases (bytes_eq q p)) [
      | inl hit ↦ (let bad : is_number f None ≡ true = rw hit at e in absurd (cc))
      | inr miss ↦ inr (rw miss at e)
    ]
put_step _ n f p o e = inr e

named_put : (h : History) (f : ℕ) (p : List ℕ) → is_number f (live_file h p) ≡ true → HasPut h f p
named_put [] f p e = absurd (cc)
named_put (e ∷ h) f p is =
    elim (put_step e.ask (length h + 1) f p (live_file h p) is) [
      | inl new ↦ (e, newest f new.0, new.1)
      | inr old ↦
          (let x : HasPut h f p = named_put h f p old in
          let low : f ≤ length h = (named_within h f p old).1 in
          (x.0, entry_older e h f low ∙ x.1, x.2))
    ]
  where
    newest : (g : ℕ) → g ≡ length h + 1 → entry_of (e ∷ h) g ≡ Some e
    newest g same = rw (eq-eqb g (length h + 1) same) refl

pub job_file_has_put : JobFileHasPut
job_file_has_put site h legal j live = named_put h j.file (path_of h j.file) (job_file_live site h legal j live)
