-- Calls one behind the other, as laws.
use Rattle.std.proofs.Common.{◌≡◌, ◌∙◌, ℕ, inl, inr, List, [], ◌∷◌, ◌++◌, Bool, true, false, ◌||◌, not, refl, ap}
use Rattle.std.specs.Prelude.{suc, Option, Some, None, option_map, if◌then◌else◌, ◌==◌, filter}
use Rattle.cta_model.specs.declared.asks.Job.{Job}
use Rattle.cta_model.specs.declared.states.Charge.{Charge}
use Rattle.cta_model.specs.History.{has_number}
use Rattle.cta_model.specs.Mounts.{has_copy, has_job}
use Rattle.cta_model.specs.Recalls.{Recall, subscribed}
use Rattle.part_model.specs.JobBook.{Book, TellSame, drop_from}
use Rattle.part_model.specs.declared.jobs.Line.{Line}
use Rattle.cta_laws.proofs.Tests.{bool_cases}
use Rattle.part_laws.proofs.Births.{has_both}
use Rattle.part_laws.specs.Turns.{BookCallsAgree, BookCallsInTurn, DropIsTwoCalls, QueueCallsInTurn}
use Rattle.part_laws.proofs.Loops.{bear_more, charge_more, claim_more, drop_calls, end_more, give_back_more}

pub book_calls_in_turn : BookCallsInTurn
book_calls_in_turn jobs k b = record {
  claims = λ m. claim_more jobs k m b;
  returns = give_back_more jobs k b;
  ends = end_more jobs k b;
  births = λ n. bear_more jobs k n b;
  charges = λ charge new. charge_more jobs k charge b new;
}

pub drop_is_two_calls : DropIsTwoCalls
drop_is_two_calls b f id r is = drop_calls b f id r is

-- a line stays where its job is in neither list
leaves_both : (jobs : List Job) (k : Job) (ls : List Line) → filter (λ (l : Line). not (has_job l.job (k ∷ []))) (filter (λ (l : Line). not (has_job l.job jobs)) ls) ≡ filter (λ (l : Line). not (has_job l.job (jobs ++ k ∷ []))) ls
leaves_both jobs k [] = refl
leaves_both jobs k (l ∷ ls) =
    elim (bool_cases (has_job l.job jobs)) [
      | inl gone ↦ (let both : has_job l.job (jobs ++ k ∷ []) ≡ true = has_both l.job jobs (k ∷ []) ∙ rw gone refl in rw (gone, both) (leaves_both jobs k ls))
      | inr stays ↦
          elim (bool_cases (has_job l.job (k ∷ []))) [
            | inl last ↦ (let both : has_job l.job (jobs ++ k ∷ []) ≡ true = has_both l.job jobs (k ∷ []) ∙ rw (stays, last) refl in rw (stays, both) (rw last (leaves_both jobs k ls)))
            | inr here ↦ (let both : has_job l.job (jobs ++ k ∷ []) ≡ false = has_both l.job jobs (k ∷ []) ∙ rw (stays, here) refl in rw (stays, both) (rw here (ap (λ (xs : List Line). l ∷ xs) (leaves_both jobs k ls))))
          ]
    ]

pub queue_calls_in_turn : QueueCallsInTurn
queue_calls_in_turn jobs k key lines q = by (q == key)
  where
    by : (t : Bool)
        → (if t then filter (λ (l : Line). not (has_job l.job (k ∷ []))) (if t then filter (λ (l : Line). not (has_job l.job jobs)) (lines q) else lines q) else (if t then filter (λ (l : Line). not (has_job l.job jobs)) (lines q) else lines q))
        ≡ (if t then filter (λ (l : Line). not (has_job l.job (jobs ++ k ∷ []))) (lines q) else lines q)
    by true = leaves_both jobs k (lines q)
    by false = refl

-- ---- calls of two books that tell the same

pub book_calls_agree : BookCallsAgree
book_calls_agree a b same = record {
  claims = λ jobs m. record {
    recall = same.recall;
    archive = same.archive;
    claimer = λ j. ap (λ (o : Option ℕ). if has_job j jobs then Some m else o) (same.claimer j);
    charges = same.charges;
    last_birth = same.last_birth;
    named = λ j. ap (λ (x : Bool). has_job j jobs || x) (same.named j);
  };
  returns = λ jobs. record {
    recall = same.recall;
    archive = same.archive;
    claimer = λ j. ap (λ (o : Option ℕ). if has_job j jobs then None else o) (same.claimer j);
    charges = same.charges;
    last_birth = same.last_birth;
    named = same.named;
  };
  ends = λ jobs. record {
    recall = λ f. ap (λ (o : Option Recall). if has_copy f 0 jobs then None else o) (same.recall f);
    archive = λ f c. ap (λ (o : Option ℕ). if has_copy f (suc c) jobs then None else o) (same.archive f c);
    claimer = same.claimer;
    charges = same.charges;
    last_birth = same.last_birth;
    named = same.named;
  };
  births = λ jobs n. record {
    recall = λ f. ap (λ (o : Option Recall). if has_copy f 0 jobs then Some (record { birth = n; waiting = n ∷ [] }) else o) (same.recall f);
    archive = λ f c. ap (λ (o : Option ℕ). if has_copy f (suc c) jobs then Some n else o) (same.archive f c);
    claimer = same.claimer;
    charges = same.charges;
    last_birth = λ f c. ap (λ (o : Option ℕ). if has_copy f c jobs then Some n else o) (same.last_birth f c);
    named = same.named;
  };
  charges = λ jobs charge. record {
    recall = same.recall;
    archive = same.archive;
    claimer = same.claimer;
    charges = λ j. ap (λ (xs : List Charge). if has_job j jobs then xs ++ charge ∷ [] else xs) (same.charges j);
    last_birth = same.last_birth;
    named = same.named;
  };
  waits = λ fs n. same_recalls a b (λ f o. if has_number f fs then option_map (subscribed true n) o else o) same;
  leaves = λ fs id. same_recalls a b (λ f o. if has_number f fs then option_map (λ (r : Recall). record r { waiting = filter (λ s. not (s == id)) r.waiting }) o else o) same;
  drops = λ fs id. same_recalls a b (λ f o. if has_number f fs then drop_from id o else o) same;
}
  where
    same_recalls : (a b : Book) (turn : ℕ → Option Recall → Option Recall) → TellSame a b → TellSame (record a { recall = λ f. turn f (a.recall f) }) (record b { recall = λ f. turn f (b.recall f) })
    same_recalls a b turn same = record {
      recall = λ f. ap (turn f) (same.recall f);
      archive = same.archive;
      claimer = same.claimer;
      charges = same.charges;
      last_birth = same.last_birth;
      named = same.named;
    }
