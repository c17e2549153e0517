-- Claims, charges and jobs that end, one by one.
use Rattle.std.proofs.Common.{◌≡◌, ◌∙◌, ◌+◌, ◌<◌, ◌^◌, ℕ, zero, suc, List, [], ◌∷◌, ◌++◌, length, Bool, true, false, ◌||◌, refl, sym, ap, subst, take, drop, arith}
use Rattle.std.specs.Prelude.{Option, None, if◌then◌else◌, get_or}
use Rattle.std.proofs.lemmas.List.{append_assoc, take-append-drop, take_more}
use Rattle.cta_model.specs.declared.asks.Job.{Job}
use Rattle.cta_model.specs.declared.states.Charge.{Charge}
use Rattle.cta_model.specs.Answers.{names_twice}
use Rattle.cta_model.specs.Mounts.{has_job, same_job}
use Rattle.cta_laws.proofs.JobLists.{job_self}
use Rattle.part_model.specs.JobBook.{Book, TellSame, charge_jobs, end_jobs, give_back_jobs}
use Rattle.part_laws.proofs.Births.{has_both}
use Rattle.part_laws.proofs.BookSteps.{tell_chain}
use Rattle.part_laws.proofs.TurnLaws.{book_calls_agree, book_calls_in_turn}
use Rattle.part_moves.proofs.ItemsLeft.{none_ended, none_given}

pub none_charged : (charge : Charge) (b : Book) → TellSame b (charge_jobs [] charge b)
none_charged charge b = record { recall = λ f. refl; archive = λ f c. refl; claimer = λ j. refl; charges = λ j. refl; last_birth = λ f c. refl; named = λ j. refl }

give_more : (js : List Job) (k : Job) (a b c : Book) → TellSame b (give_back_jobs js a) → TellSame c (give_back_jobs (k ∷ []) b) → TellSame c (give_back_jobs (js ++ k ∷ []) a)
give_more js k a b c before call =
    tell_chain c (give_back_jobs (k ∷ []) b) _ call
    (tell_chain (give_back_jobs (k ∷ []) b) (give_back_jobs (k ∷ []) (give_back_jobs js a)) _ ((book_calls_agree b (give_back_jobs js a) before).returns (k ∷ [])) (book_calls_in_turn js k a).returns)

end_more : (js : List Job) (k : Job) (a b c : Book) → TellSame b (end_jobs js a) → TellSame c (end_jobs (k ∷ []) b) → TellSame c (end_jobs (js ++ k ∷ []) a)
end_more js k a b c before call =
    tell_chain c (end_jobs (k ∷ []) b) _ call
    (tell_chain (end_jobs (k ∷ []) b) (end_jobs (k ∷ []) (end_jobs js a)) _ ((book_calls_agree b (end_jobs js a) before).ends (k ∷ [])) (book_calls_in_turn js k a).ends)

charge_more : (js : List Job) (k : Job) (charge : Charge) (a b c : Book) → has_job k js ≡ false → TellSame b (charge_jobs js charge a) → TellSame c (charge_jobs (k ∷ []) charge b)
    → TellSame c (charge_jobs (js ++ k ∷ []) charge a)
charge_more js k charge a b c new before call =
    tell_chain c (charge_jobs (k ∷ []) charge b) _ call
    (tell_chain (charge_jobs (k ∷ []) charge b) (charge_jobs (k ∷ []) charge (charge_jobs js charge a)) _ ((book_calls_agree b (charge_jobs js charge a) before).charges (k ∷ []) charge) ((book_calls_in_turn js k a).charges charge new))

-- one claim more has ended
pub given_more : (jobs : List Job) (k : ℕ) (d : Job) (a b c : Book) → k < length jobs → TellSame b (give_back_jobs (take k jobs) a)
    → TellSame c (give_back_jobs (get_or jobs k d ∷ []) b) → TellSame c (give_back_jobs (take (k + 1) jobs) a)
given_more jobs k d a b c low before call =
    subst (λ (js : List Job). TellSame c (give_back_jobs js a)) (sym (take_more jobs k d low)) (give_more (take k jobs) (get_or jobs k d) a b c before call)

-- one job more has ended
pub ended_more : (jobs : List Job) (k : ℕ) (d : Job) (a b c : Book) → k < length jobs → TellSame b (end_jobs (take k jobs) a)
    → TellSame c (end_jobs (get_or jobs k d ∷ []) b) → TellSame c (end_jobs (take (k + 1) jobs) a)
ended_more jobs k d a b c low before call =
    subst (λ (js : List Job). TellSame c (end_jobs js a)) (sym (take_more jobs k d low)) (end_more (take k jobs) (get_or jobs k d) a b c before call)

-- ---- charges, none twice

-- a job that stands in two parts of a list stands in it twice
twice_both : (j : Job) (xs ys : List Job) → has_job j xs ≡ true → names_twice (xs ++ j ∷ ys) ≡ true
twice_both j [] ys e = absurd (cc)
twice_both j (x ∷ xs) ys e = by (same_job j x) refl (λ y. twice_both j xs ys y) e
  where
    from : (a b : Bool) → a ≡ true → (a || b) ≡ true
    from true b y = refl
    from false b y = absurd (cc)

    later : (a b : Bool) → b ≡ true → (a || b) ≡ true
    later true b y = refl
    later false b y = y

    flip : same_job j x ≡ true → has_job x (xs ++ j ∷ ys) ≡ true
    flip y = has_both x xs (j ∷ ys) ∙ later (has_job x xs) _ (from (same_job x j) _ (grind (arith, y)))

    by : (b : Bool) → same_job j x ≡ b → (has_job j xs ≡ true → names_twice (xs ++ j ∷ ys) ≡ true) → (b || has_job j xs) ≡ true → (has_job x (xs ++ j ∷ ys) || names_twice (xs ++ j ∷ ys)) ≡ true
    by true y rest e = from (has_job x (xs ++ j ∷ ys)) _ (flip y)
    by false y rest e = later (has_job x (xs ++ j ∷ ys)) _ (rest e)

-- the first jobs of a list that has none twice lack the next one
next_new : (jobs : List Job) (k : ℕ) (d : Job) → k < length jobs → names_twice jobs ≡ false → has_job (get_or jobs k d) (take k jobs) ≡ false
next_new jobs k d low once = by (has_job (get_or jobs k d) (take k jobs)) refl
  where
    by : (b : Bool) → has_job (get_or jobs k d) (take k jobs) ≡ b → b ≡ false
    by false e = refl
    by true e =
        (let whole : (take (k + 1) jobs ++ drop (k + 1) jobs) ≡ jobs = take-append-drop (k + 1) jobs in
        let split : ((take k jobs ++ get_or jobs k d ∷ []) ++ drop (k + 1) jobs) ≡ jobs = ap (λ (js : List Job). js ++ drop (k + 1) jobs) (sym (take_more jobs k d low)) ∙ whole in
        let twice : names_twice (take k jobs ++ get_or jobs k d ∷ drop (k + 1) jobs) ≡ true = twice_both (get_or jobs k d) (take k jobs) (drop (k + 1) jobs) e in
        let same : names_twice ((take k jobs ++ get_or jobs k d ∷ []) ++ drop (k + 1) jobs) ≡ true = ap names_twice (append_assoc (take k jobs) (get_or jobs k d ∷ []) (drop (k + 1) jobs)) ∙ twice in
        let bad : names_twice jobs ≡ true = sym (ap names_twice split) ∙ same in
        absurd (cc))

-- one charge more
pub charged_more : (jobs : List Job) (k : ℕ) (d : Job) (charge : Charge) (a b c : Book) → k < length jobs → names_twice jobs ≡ false → TellSame b (charge_jobs (take k jobs) charge a)
    → TellSame c (charge_jobs (get_or jobs k d ∷ []) charge b) → TellSame c (charge_jobs (take (k + 1) jobs) charge a)
charged_more jobs k d charge a b c low once before call =
    subst (λ (js : List Job). TellSame c (charge_jobs js charge a)) (sym (take_more jobs k d low)) (charge_more (take k jobs) (get_or jobs k d) charge a b c (next_new jobs k d low once) before call)

there : (jobs : List Job) (k : ℕ) (d : Job) → k < length jobs → has_job (get_or jobs k d) jobs ≡ true
there [] k d low = absurd (omega (arith, low))
there (j ∷ js) zero d low = rw (job_self j) refl
there (j ∷ js) (suc k) d low = later (same_job (get_or js k d) j) _ (there js k d (omega (arith, low)))
  where
    later : (a b : Bool) → b ≡ true → (a || b) ≡ true
    later true b y = refl
    later false b y = y

-- a job of the list that is not charged yet has few charges
pub few_charges : (jobs : List Job) (k : ℕ) (d : Job) (charge : Charge) (a b : Book) → k < length jobs → names_twice jobs ≡ false → TellSame b (charge_jobs (take k jobs) charge a)
    → ((j : Job) → has_job j jobs ≡ true → length (a.charges j) + 1 < 2 ^ 8) → length (b.charges (get_or jobs k d)) + 1 < 2 ^ 8
few_charges jobs k d charge a b low once before few =
    let new : has_job (get_or jobs k d) (take k jobs) ≡ false = next_new jobs k d low once in
    let same : b.charges (get_or jobs k d) ≡ a.charges (get_or jobs k d) = before.charges (get_or jobs k d) ∙ ap (λ (t : Bool). if t then a.charges (get_or jobs k d) ++ charge ∷ [] else a.charges (get_or jobs k d)) new in
    subst (λ (xs : List Charge). length xs + 1 < 2 ^ 8) (sym same) (few (get_or jobs k d) (there jobs k d low))

-- ---- all together

-- jobs given back, and then others
given_both : (js ks : List Job) (a b c : Book) → TellSame b (give_back_jobs js a) → TellSame c (give_back_jobs ks b) → TellSame c (give_back_jobs (js ++ ks) a)
given_both js ks a b c before call = tell_chain c (give_back_jobs ks b) _ call (tell_chain _ (give_back_jobs ks (give_back_jobs js a)) _ ((book_calls_agree b (give_back_jobs js a) before).returns ks) both)
  where
    by : (x y : Bool) (o : Option ℕ) → (if y then None else if x then None else o) ≡ (if x || y then None else o)
    by true true o = refl
    by true false o = refl
    by false y o = refl

    both : TellSame (give_back_jobs ks (give_back_jobs js a)) (give_back_jobs (js ++ ks) a)
    both = record {
      recall = λ f. refl;
      archive = λ f c. refl;
      claimer = λ j. by (has_job j js) (has_job j ks) (a.claimer j) ∙ ap (λ (t : Bool). if t then None else a.claimer j) (sym (has_both j js ks));
      charges = λ j. refl;
      last_birth = λ f c. refl;
      named = λ j. refl;
    }

-- jobs are given back, charged and ended
pub resolved_is : (charged returned ended : List Job) (charge : Charge) (a b c d e : Book) → TellSame b (give_back_jobs charged a) → TellSame c (give_back_jobs returned b) → TellSame d (charge_jobs charged charge c) → TellSame e (end_jobs ended d)
    → TellSame e (end_jobs ended (charge_jobs charged charge (give_back_jobs (charged ++ returned) a)))
resolved_is charged returned ended charge a b c d e first others charging ending =
    tell_chain e (end_jobs ended d) _ ending
    ((book_calls_agree d (charge_jobs charged charge (give_back_jobs (charged ++ returned) a))
    (tell_chain d (charge_jobs charged charge c) _ charging ((book_calls_agree c (give_back_jobs (charged ++ returned) a) (given_both charged returned a b c first others)).charges charged charge))).ends ended)
