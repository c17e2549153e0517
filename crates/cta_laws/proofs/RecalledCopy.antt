-- A completed recall was live, and is a recall.
use Rattle.std.proofs.Common.{◌≡◌, ℕ, zero, suc, inl, inr, [], ◌∷◌, true, not, refl, ◌∙◌, subst, arith}
use Rattle.std.specs.Prelude.{Option, Some, None, is_some}
use Rattle.std.proofs.lemmas.Bool.{eq-eqb}
use Rattle.cta_site.specs.declared.site.Site.{Site}
use Rattle.cta_model.specs.declared.entries.Entry.{Entry}
use Rattle.cta_model.specs.declared.asks.Ask.{Ask}
use Rattle.cta_model.specs.declared.answers.Answer.{Answer}
use Rattle.cta_model.specs.declared.asks.Job.{Job}
use Rattle.cta_model.specs.History.{History, is_number}
use Rattle.cta_model.specs.Files.{is_live}
use Rattle.cta_model.specs.Mounts.{mount_of, same_job}
use Rattle.cta_model.specs.Recalls.{Recall, live_recall, recall_after, recall_job, bears_recall}
use Rattle.cta_model.specs.Jobs.{live_birth, is_live_job}
use Rattle.cta_model.specs.Answers.{answer_of, is_accepted, is_known}
use Rattle.cta_model.specs.Legal.{IsLegal, IsNext, IsFit, IsMountOf}
use Rattle.cta_laws.proofs.Tests.{bool_cases}
use Rattle.cta_laws.proofs.LengthLaw.{not_unknown}
use Rattle.cta_laws.proofs.OnceLaw.{birth_in}
use Rattle.cta_laws.proofs.ResidentLaw.{not_born, born_live}
use Rattle.cta_model.specs.declared.asks.Ask.TheVariants as ask
use Rattle.cta_model.specs.declared.asks.Direction.TheVariants as direction
use Rattle.cta_model.specs.declared.answers.Answer.TheVariants as answer
use Rattle.cta_model.specs.declared.asks.Fate.TheVariants as fate
use Rattle.cta_laws.proofs.Ways.{known_way, reads_zero}
use Rattle.cta_laws.proofs.JobFiles.{arrived_live}

-- a job that a reading mount recalls is a recall
pub recalled_copy : (site : Site) (h : History) → IsLegal site h → (t m : ℕ) (job : Job) (a : Answer) → a ≡ answer_of site h t (ask.Recalled m job) → is_accepted a ≡ true → IsMountOf direction.Retrieve (mount_of h m) → job.copy ≡ 0
recalled_copy site h legal t m job a is y way = reads_zero (mount_of h m) job way (known_way site h legal m job (not_unknown _ _ a is y))

-- ---- a file whose recall is live is not resident

pub zero_birth : (site : Site) (h : History) (f c : ℕ) → c ≡ 0 → live_birth site h f c ≡ birth_in (live_recall site h f)
zero_birth site h f zero e = refl
zero_birth site h f (suc c) e = absurd (omega arith)

-- a completed recall was live
pub done_live : (site : Site) (h : History) (t m : ℕ) (job : Job) → answer.Arrived fate.Done ≡ answer_of site h t (ask.Recalled m job) → job.copy ≡ 0 → is_number job.birth (birth_in (live_recall site h job.file)) ≡ true
done_live site h t m job is copy =
    let live : is_live_job site h job ≡ true = arrived_live (is_live_job site h job) (not (is_known h m (job ∷ []))) is in
    subst (λ (o : Option ℕ). is_number job.birth o ≡ true) (zero_birth site h job.file job.copy copy) live

pub same_recall : (job : Job) (b f : ℕ) → job.birth ≡ b → job.file ≡ f → job.copy ≡ 0 → same_job job (recall_job b f) ≡ true
same_recall job b f x y z = rw (eq-eqb job.birth b x, eq-eqb job.file f y, eq-eqb job.copy 0 z) refl

pub fit_reads : (site : Site) (h : History) (e : Entry) → IsNext site h e → (k : Ask) → e.ask ≡ k → (m : ℕ) (job : Job) → k ≡ ask.Recalled m job → IsMountOf direction.Retrieve (mount_of h m)
fit_reads site h e next k ek m job is = subst (λ (x : Ask). IsFit site h x) (ek ∙ is) next.fit

pub live_low : (site : Site) (h : History) (e : Entry) (f : ℕ) (o : Option Recall) → (is_some o ≡ true → is_live h f ≡ true) → is_some (recall_after site h e f o) ≡ true → is_live h f ≡ true
live_low site h e f None was on =
    elim (bool_cases (bears_recall site h e.ask f)) [ inl b ↦ born_live site h e.ask f b | inr d ↦ absurd (not_born (bears_recall site h e.ask f) _ d on) ]
live_low site h e f (Some r) was on = was refl
