-- Calls one by one do what they do for a whole list: the steps of a core's loops.
use Rattle.std.proofs.Common.{◌≡◌, ◌∙◌, ℕ, List, [], ◌∷◌, ◌++◌, Bool, true, false, ◌&&◌, ◌||◌, not, refl, sym, ap, subst, arith}
use Rattle.std.proofs.lemmas.Bool.{eqb-true, eq-eqb}
use Rattle.cta_model.specs.History.{is_empty}
use Rattle.std.specs.Prelude.{suc, Option, Some, None, option_map, if◌then◌else◌, ◌==◌, filter}
use Rattle.cta_model.specs.declared.asks.Job.{Job}
use Rattle.cta_model.specs.declared.states.Charge.{Charge}
use Rattle.cta_model.specs.Mounts.{has_job, same_job, has_copy}
use Rattle.cta_laws.proofs.OnceLaw.{same_job_eq}
use Rattle.cta_laws.proofs.JobLists.{job_self}
use Rattle.cta_model.specs.Answers.{names_twice}
use Rattle.cta_laws.proofs.Tests.{or_left, or_right}
use Rattle.cta_model.specs.Recalls.{Recall, recall_job, left_with}
use Rattle.part_model.specs.JobBook.{Book, TellSame, bear_jobs, charge_jobs, claim_jobs, drop_files, drop_from, end_jobs, give_back_jobs, unsubscribe_files}
use Rattle.part_laws.proofs.Births.{has_both}
use Rattle.part_laws.proofs.BookSteps.{has_copy_both}
use Rattle.part_laws.proofs.PartSteps.{filter_filter}
use Rattle.cta_laws.proofs.Frames.{filter_same}
use Rattle.part_laws.proofs.Orders.{has_insert, one_order, order_insert, same_flip}
use Rattle.part_model.specs.Order.{InOrder, insert_job, insert_jobs}
use Rattle.part_laws.proofs.QueueMoves.{has_inserted, order_inserted}

one_more : {A : Type 0} (old one : Bool) (x y : A) → (if one || false then x else (if old then x else y)) ≡ (if old || (one || false) then x else y)
one_more true true x y = refl
one_more true false x y = refl
one_more false true x y = refl
one_more false false x y = refl

pub claim_more : (js : List Job) (k : Job) (m : ℕ) (b : Book) → TellSame (claim_jobs (k ∷ []) m (claim_jobs js m b)) (claim_jobs (js ++ k ∷ []) m b)
claim_more js k m b = record {
  recall = λ f. refl;
  archive = λ f c. refl;
  claimer = λ j. one_more (has_job j js) (same_job j k) (Some m) (b.claimer j) ∙ ap (λ (t : Bool). if t then Some m else b.claimer j) (sym (has_both j js (k ∷ [])));
  charges = λ j. refl;
  last_birth = λ f c. refl;
  named = λ j. one_or (has_job j js) (same_job j k) (b.named j) ∙ ap (λ (t : Bool). t || b.named j) (sym (has_both j js (k ∷ [])));
}
  where
    one_or : (old one x : Bool) → ((one || false) || (old || x)) ≡ ((old || (one || false)) || x)
    one_or true true x = refl
    one_or true false x = refl
    one_or false true x = refl
    one_or false false x = refl

pub give_back_more : (js : List Job) (k : Job) (b : Book) → TellSame (give_back_jobs (k ∷ []) (give_back_jobs js b)) (give_back_jobs (js ++ k ∷ []) b)
give_back_more js k b = record {
  recall = λ f. refl;
  archive = λ f c. refl;
  claimer = λ j. one_more (has_job j js) (same_job j k) None (b.claimer j) ∙ ap (λ (t : Bool). if t then None else b.claimer j) (sym (has_both j js (k ∷ [])));
  charges = λ j. refl;
  last_birth = λ f c. refl;
  named = λ j. refl;
}

pub end_more : (js : List Job) (k : Job) (b : Book) → TellSame (end_jobs (k ∷ []) (end_jobs js b)) (end_jobs (js ++ k ∷ []) b)
end_more js k b = record {
  recall = λ f. one_more (has_copy f 0 js) (k.file == f && k.copy == 0) None (b.recall f) ∙ ap (λ (t : Bool). if t then None else b.recall f) (sym (has_copy_both f 0 js (k ∷ [])));
  archive = λ f c. one_more (has_copy f (suc c) js) (k.file == f && k.copy == suc c) None (b.archive f (suc c)) ∙ ap (λ (t : Bool). if t then None else b.archive f (suc c)) (sym (has_copy_both f (suc c) js (k ∷ [])));
  claimer = λ j. refl;
  charges = λ j. refl;
  last_birth = λ f c. refl;
  named = λ j. refl;
}

pub bear_more : (js : List Job) (k : Job) (n : ℕ) (b : Book) → TellSame (bear_jobs (k ∷ []) n (bear_jobs js n b)) (bear_jobs (js ++ k ∷ []) n b)
bear_more js k n b = record {
  recall = λ f. one_more (has_copy f 0 js) (k.file == f && k.copy == 0) (Some (record { birth = n; waiting = n ∷ [] })) (b.recall f) ∙ ap (λ (t : Bool). if t then Some (record { birth = n; waiting = n ∷ [] }) else b.recall f) (sym (has_copy_both f 0 js (k ∷ [])));
  archive = λ f c. one_more (has_copy f (suc c) js) (k.file == f && k.copy == suc c) (Some n) (b.archive f (suc c)) ∙ ap (λ (t : Bool). if t then Some n else b.archive f (suc c)) (sym (has_copy_both f (suc c) js (k ∷ [])));
  claimer = λ j. refl;
  charges = λ j. refl;
  last_birth = λ f c. one_more (has_copy f c js) (k.file == f && k.copy == c) (Some n) (b.last_birth f c) ∙ ap (λ (t : Bool). if t then Some n else b.last_birth f c) (sym (has_copy_both f c js (k ∷ [])));
  named = λ j. refl;
}

-- a job that is charged in a loop was not charged in it before
pub charge_more : (js : List Job) (k : Job) (charge : Charge) (b : Book) → has_job k js ≡ false → TellSame (charge_jobs (k ∷ []) charge (charge_jobs js charge b)) (charge_jobs (js ++ k ∷ []) charge b)
charge_more js k charge b new = record {
  recall = λ f. refl;
  archive = λ f c. refl;
  claimer = λ j. refl;
  charges = λ j. by j (same_job j k) (has_job j js) (λ hit. ap (λ (x : Job). has_job x js) (same_job_eq j k hit) ∙ new) ∙ ap (λ (t : Bool). if t then b.charges j ++ charge ∷ [] else b.charges j) (sym (has_both j js (k ∷ [])));
  last_birth = λ f c. refl;
  named = λ j. refl;
}
  where
    by : (j : Job) (one old : Bool) → (one ≡ true → old ≡ false) → (if one || false then (if old then b.charges j ++ charge ∷ [] else b.charges j) ++ charge ∷ [] else (if old then b.charges j ++ charge ∷ [] else b.charges j)) ≡ (if old || (one || false) then b.charges j ++ charge ∷ [] else b.charges j)
    by j true true f = (let bad : true ≡ false = f refl in absurd (cc))
    by j true false f = refl
    by j false true f = refl
    by j false false f = refl

-- ---- queues

and_or : (a b : Bool) → (not a && not b) ≡ not (a || b)
and_or true b = refl
and_or false b = refl

-- one more is taken out
pub leave_more : (js : List Job) (k : Job) (q : List Job) → filter (λ j. not (has_job j (k ∷ []))) (filter (λ j. not (has_job j js)) q) ≡ filter (λ j. not (has_job j (js ++ k ∷ []))) q
leave_more js k q =
    filter_filter (λ j. not (has_job j (k ∷ []))) (λ j. not (has_job j js)) q
    ∙ filter_same (λ j. not (has_job j js) && not (has_job j (k ∷ []))) (λ j. not (has_job j (js ++ k ∷ []))) q (λ j. and_or (has_job j js) (has_job j (k ∷ [])) ∙ ap not (sym (has_both j js (k ∷ []))))

not_either_way : (a b : Bool) → (a || b) ≡ false → (a ≡ false) × (b ≡ false)
not_either_way true b e = absurd (cc)
not_either_way false b e = (refl, e)

twice_less : (js : List Job) (k : Job) → names_twice (js ++ k ∷ []) ≡ false → (names_twice js ≡ false) × (has_job k js ≡ false)
twice_less [] k d = (refl, refl)
twice_less (j ∷ js) k d =
    (let parts : (has_job j (js ++ k ∷ []) ≡ false) × (names_twice (js ++ k ∷ []) ≡ false) = not_either_way (has_job j (js ++ k ∷ [])) (names_twice (js ++ k ∷ [])) d in
    let both : (has_job j js ≡ false) × (has_job j (k ∷ []) ≡ false) = not_either_way (has_job j js) (has_job j (k ∷ [])) (sym (has_both j js (k ∷ [])) ∙ parts.0) in
    let rest : (names_twice js ≡ false) × (has_job k js ≡ false) = twice_less js k parts.1 in
    let other : same_job j k ≡ false = (not_either_way (same_job j k) false both.1).0 in
    (rw both.0 rest.0, rw (same_flip j k other) rest.1))

-- one more is added: the order of adding does not matter
pub insert_more : (js : List Job) (k : Job) (q : List Job) → InOrder q → names_twice (js ++ k ∷ []) ≡ false → ((j : Job) → has_job j (js ++ k ∷ []) ≡ true → has_job j q ≡ false) → insert_job k (insert_jobs js q) ≡ insert_jobs (js ++ k ∷ []) q
insert_more js k q o once new =
    one_order (insert_job k (insert_jobs js q)) (insert_jobs (js ++ k ∷ []) q)
    (order_insert k (insert_jobs js q) (order_inserted js q o parts.0 (λ j there. new j (has_both j js (k ∷ []) ∙ or_left (has_job j js) _ there))) (has_inserted k js q ∙ neither))
    (order_inserted (js ++ k ∷ []) q o once new)
    (λ j. has_insert j k (insert_jobs js q) ∙ ap (λ (t : Bool). same_job j k || t) (has_inserted j js q) ∙ shuffle (same_job j k) (has_job j js) (has_job j q) ∙ ap (λ (t : Bool). t || has_job j q) (sym (has_both j js (k ∷ []))) ∙ sym (has_inserted j (js ++ k ∷ []) q))
  where
    parts : (names_twice js ≡ false) × (has_job k js ≡ false)
    parts = twice_less js k once

    here : has_job k (js ++ k ∷ []) ≡ true
    here = has_both k js (k ∷ []) ∙ or_right (has_job k js) (has_job k (k ∷ [])) (or_left (same_job k k) false (job_self k))

    neither : (has_job k js || has_job k q) ≡ false
    neither = (let none : has_job k q ≡ false = new k here in rw (parts.1, none) refl)

    shuffle : (a b c : Bool) → (a || (b || c)) ≡ ((b || (a || false)) || c)
    shuffle true true c = refl
    shuffle true false c = refl
    shuffle false true c = refl
    shuffle false false c = refl

-- ---- a request that no longer waits: two calls, or one where it was not the last

left_or : (birth : ℕ) (ss : List ℕ) → left_with birth ss ≡ (if is_empty ss then None else Some (record { birth = birth; waiting = ss }))
left_or birth [] = refl
left_or birth (s ∷ ss) = refl

-- unsubscribe, and end where that was the last, does what the history does
pub drop_calls : (b : Book) (f id : ℕ) (r : Recall) → b.recall f ≡ Some r
    → TellSame (end_jobs (if is_empty (filter (λ s. not (s == id)) r.waiting) then recall_job r.birth f ∷ [] else []) (unsubscribe_files (f ∷ []) id b)) (drop_files (f ∷ []) id b)
drop_calls b f id r is = record {
  recall = λ g. recall g (g == f) refl;
  archive = λ g c. archive g c (is_empty (filter (λ s. not (s == id)) r.waiting));
  claimer = λ j. refl;
  charges = λ j. refl;
  last_birth = λ f c. refl;
  named = λ j. refl;
}
  where
    less : List ℕ
    less = filter (λ s. not (s == id)) r.waiting

    rest : Recall
    rest = record { birth = r.birth; waiting = less }

    archive : (g c : ℕ) (t : Bool) → (if has_copy g (suc c) (if t then recall_job r.birth f ∷ [] else []) then None else b.archive g (suc c)) ≡ b.archive g (suc c)
    archive g c true = (let other : (0 == suc c) ≡ false = grind arith in rw other (none (f == g)))
      where
        none : (x : Bool) → (if (x && false) || false then None else b.archive g (suc c)) ≡ b.archive g (suc c)
        none true = refl
        none false = refl
    archive g c false = refl

    there : (t : Bool) → (if has_copy f 0 (if t then recall_job r.birth f ∷ [] else []) then None else Some rest) ≡ (if t then None else Some rest)
    there true = rw (eq-eqb f f refl) refl
    there false = refl

    other : (g : ℕ) (t : Bool) → (g == f) ≡ false → (if has_copy g 0 (if t then recall_job r.birth f ∷ [] else []) then None else b.recall g) ≡ b.recall g
    other g true d = (let flip : (f == g) ≡ false = grind arith in rw flip refl)
    other g false d = refl

    waits : (o : Option Recall) → o ≡ Some r → option_map (λ (r : Recall). record r { waiting = filter (λ s. not (s == id)) r.waiting }) o ≡ Some rest
    waits o is = ap (option_map (λ (r : Recall). record r { waiting = filter (λ s. not (s == id)) r.waiting })) is

    recall : (g : ℕ) (t : Bool) → (g == f) ≡ t → (if has_copy g 0 (if is_empty less then recall_job r.birth f ∷ [] else []) then None else (if t || false then option_map (λ (r : Recall). record r { waiting = filter (λ s. not (s == id)) r.waiting }) (b.recall g) else b.recall g)) ≡ (if t || false then drop_from id (b.recall g) else b.recall g)
    recall g true hit =
        subst (λ (x : ℕ). (if has_copy x 0 (if is_empty less then recall_job r.birth f ∷ [] else []) then None else option_map (λ (r : Recall). record r { waiting = filter (λ s. not (s == id)) r.waiting }) (b.recall x)) ≡ drop_from id (b.recall x)) (sym (eqb-true g f hit))
        (ap (λ (o : Option Recall). if has_copy f 0 (if is_empty less then recall_job r.birth f ∷ [] else []) then None else o) (waits (b.recall f) is) ∙ there (is_empty less) ∙ sym (ap (drop_from id) is ∙ left_or r.birth less))
    recall g false miss = other g (is_empty less) miss
