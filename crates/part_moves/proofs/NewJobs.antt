-- Jobs that are born by the newest entry.
use Rattle.std.proofs.Common.{◌≡◌, ◌∙◌, ◌+◌, ◌*◌, ◌≤◌, ◌<◌, ◌^◌, ◌⊎◌, ℕ, inl, inr, List, [], ◌∷◌, Bool, true, false, refl, sym, ap, arith, length, ◌-◌}
use Rattle.std.specs.Prelude.{Option, Some, None, if◌then◌else◌, ◌==◌, bytes_eq, map}
use Rattle.std.proofs.lemmas.Bool.{eq-eqb}
use Rattle.cta_site.specs.declared.site.Site.{Site}
use Rattle.cta_site.specs.WellFormed.{IsWellFormed}
use Rattle.cta_model.specs.declared.asks.Ask.{Ask}
use Rattle.cta_model.specs.declared.asks.Ask.TheVariants as ask
use Rattle.cta_model.specs.declared.asks.Job.{Job}
use Rattle.cta_model.specs.declared.entries.Entry.{Entry}
use Rattle.cta_model.specs.Files.{live_after, live_file, size_of}
use Rattle.cta_model.specs.History.{History, entry_of}
use Rattle.cta_model.specs.Jobs.{is_live_job}
use Rattle.cta_model.specs.Legal.{IsLegal}
use Rattle.cta_model.specs.Mounts.{has_job}
use Rattle.cta_model.specs.Queues.{is_queued, queue_of}
use Rattle.cta_laws.proofs.EndLaw.{live_before}
use Rattle.cta_laws.proofs.JobLaw.{not_true}
use Rattle.cta_laws.proofs.Paths.{known_path}
use Rattle.part_model.specs.declared.jobs.Line.{Line}
use Rattle.part_model.specs.Queues.{Lines}
use Rattle.part_laws.specs.Lines.{AreLines, line_of}
use Rattle.part_laws.proofs.Members.{queue_members}
use Rattle.part_laws.specs.Laws.{FilesFitBuffer}
use Rattle.job_queues.specs.Waiting.{jobs_of}
use Rattle.kept_history.specs.Puts.{is_put, puts_file}
use Rattle.part_model.specs.JobBook.{Book, TellSame, bear_jobs}
use Rattle.cta_model.specs.declared.asks.Direction.{Direction}

pub live_put : (k : Ask) (n f : ℕ) (p : List ℕ) (before : Option ℕ) → live_after k n p before ≡ Some f → ((n ≡ f) × (puts_file k ≡ true)) ⊎ (before ≡ Some f)
live_put (ask.Put who path sum) n f p before e = by (bytes_eq path p) e
  where
    by : (b : Bool) → (if b then Some n else before) ≡ Some f → ((n ≡ f) × (puts_file (ask.Put who path sum) ≡ true)) ⊎ (before ≡ Some f)
    by true e = inl (let same : n ≡ f = cc in (same, refl))
    by false e = inr e
live_put (ask.Delete who path) n f p before e = by (bytes_eq path p) e
  where
    by : (b : Bool) → (if b then None else before) ≡ Some f → ((n ≡ f) × (puts_file (ask.Delete who path) ≡ true)) ⊎ (before ≡ Some f)
    by true e = absurd (cc)
    by false e = inr e
live_put _ n f p before e = inr e

pub not_newest : (f n : ℕ) → f ≤ n → (f == n + 1) ≡ false
not_newest f n low = grind arith

pub put_older : (e : Entry) (h : History) (f : ℕ) → f ≤ length h → is_put (entry_of h f) ≡ true → is_put (entry_of (e ∷ h) f) ≡ true
put_older e h f low put = rw (not_newest f (length h) low) put

pub put_there : (h : History) (p : List ℕ) (f : ℕ) → live_file h p ≡ Some f → is_put (entry_of h f) ≡ true
put_there [] p f e = absurd (cc)
put_there (e ∷ h) p f is =
    elim (live_put e.ask (length h + 1) f p (live_file h p) is) [
      | inl new ↦ (let same : (f == length h + 1) ≡ true = eq-eqb f (length h + 1) (sym new.0) in rw same new.1)
      | inr old ↦ put_older e h f (known_path h p f old).0 (put_there h p f old)
    ]

pub jobs_of_lines : (f : Job → Line) → ((j : Job) → (f j).job ≡ j) → (q : List Job) → jobs_of (map f q) ≡ q
jobs_of_lines f is [] = refl
jobs_of_lines f is (j ∷ q) = ap (λ (k : Job). k ∷ jobs_of (map f q)) (is j) ∙ ap (λ (ks : List Job). j ∷ ks) (jobs_of_lines f is q)

pub not_live : (site : Site) (h : History) (j : Job) → length h < j.birth → is_live_job site h j ≡ false
not_live site h j high = not_true _ (λ live. (let low : j.birth ≤ length h = live_before site h j live in absurd (omega arith)))

pub sizes_small : FilesFitBuffer → (site : Site) (g : History) → IsWellFormed site → IsLegal site g → (f : ℕ) → size_of g f ≤ 2147483648
sizes_small law site g well legal f =
    let fits : size_of g f ≤ site.limits.buffer = law site g legal f in
    let top : site.limits.buffer ≤ 2147483648 = well.limits.buffer_to in
    omega (arith, fits, top)

pub born_none : (n : ℕ) (b : Book) → TellSame b (bear_jobs [] n b)
born_none n b = record { recall = λ f. refl; archive = λ f c. refl; claimer = λ j. refl; charges = λ j. refl; last_birth = λ f c. refl; named = λ j. refl }

pub room_for_one : (bytes was size m n : ℕ) → size ≤ 2147483648 → bytes ≤ was + 2147483648 * m → m + 1 ≤ n → was + 2147483648 * n < 2 ^ 64 → bytes + size < 2 ^ 64
room_for_one bytes was size m n small more less fits = omega arith

pub before_it : (j : ℕ) → 0 < j → j ≡ (j - 1) + 1
before_it j some = omega arith

-- what lines that stand for queues have is queued
pub lines_have : (site : Site) (h : History) (way : Direction) (lines : Lines) (k : ℕ) (j : Job) → IsLegal site h → AreLines site h way lines → has_job j (jobs_of (lines k)) ≡ is_queued site h way k j
lines_have site h way lines k j legal are =
    ap (λ (ls : List Line). has_job j (jobs_of ls)) (are k) ∙ ap (has_job j) (jobs_of_lines (line_of site h way) (λ i. refl) (queue_of site h way k)) ∙ queue_members site h legal way k j
