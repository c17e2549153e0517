-- The archive jobs of a new file, born one by one.
use Rattle.std.proofs.Common.{◌≡◌, ◌-◌, ◌≤◌, ℕ, zero, suc, [], ◌∷◌, refl, sym, subst, arith}
use Rattle.cta_model.specs.Mounts.{job_of}
use Rattle.part_model.specs.JobBook.{Book, TellSame, bear_jobs}
use Rattle.part_laws.specs.Queued.{put_jobs}
use Rattle.part_laws.proofs.BookSteps.{bear_same, tell_chain}
use Rattle.part_laws.proofs.Loops.{bear_more}

none_born : (n : ℕ) (b : Book) → TellSame b (bear_jobs [] n b)
none_born n b = record { recall = λ f. refl; archive = λ f c. refl; claimer = λ j. refl; charges = λ j. refl; last_birth = λ f c. refl; named = λ j. refl }

pub born_at_first : (n c : ℕ) (b : Book) → c ≡ 0 → TellSame b (bear_jobs (put_jobs n c) n b)
born_at_first n c b is = subst (λ (k : ℕ). TellSame b (bear_jobs (put_jobs n k) n b)) (sym is) (none_born n b)

-- one more is born behind the others
pub born_behind : (n c : ℕ) (b u w : Book) → 1 ≤ c → TellSame u (bear_jobs (put_jobs n (c - 1)) n b) → TellSame w (bear_jobs (job_of n n c ∷ []) n u) → TellSame w (bear_jobs (put_jobs n c) n b)
born_behind n zero b u w low was now = absurd (omega arith)
born_behind n (suc d) b u w low was now =
    let less : suc d - 1 ≡ d = omega arith in
    let before : TellSame u (bear_jobs (put_jobs n d) n b) = subst (λ (k : ℕ). TellSame u (bear_jobs (put_jobs n k) n b)) less was in
    tell_chain w (bear_jobs (job_of n n (suc d) ∷ []) n u) (bear_jobs (put_jobs n (suc d)) n b) now
    (tell_chain (bear_jobs (job_of n n (suc d) ∷ []) n u) (bear_jobs (job_of n n (suc d) ∷ []) n (bear_jobs (put_jobs n d) n b)) (bear_jobs (put_jobs n (suc d)) n b)
    (bear_same (job_of n n (suc d) ∷ []) n u (bear_jobs (put_jobs n d) n b) before)
    (bear_more (put_jobs n d) (job_of n n (suc d)) n b))
