-- Jobs that leave queues one by one.
use Rattle.std.proofs.Common.{◌≡◌, ◌∙◌, ◌-◌, ◌≤◌, ◌<◌, ℕ, inl, inr, List, [], ◌∷◌, Bool, true, false, ◌||◌, not, refl, sym, ap, subst, arith, length, take, drop}
use Rattle.std.specs.Prelude.{Option, Some, None, ◌==◌, if◌then◌else◌, filter, get_or}
use Rattle.std.specs.List.{AllByRecursion}
use Rattle.std.proofs.lemmas.Bool.{eq-eqb}
use Rattle.std.proofs.lemmas.List.{take_all}
use Rattle.cta_site.specs.declared.site.Site.{Site}
use Rattle.cta_model.specs.declared.asks.Job.{Job}
use Rattle.cta_model.specs.declared.states.Place.{Place}
use Rattle.cta_model.specs.History.{History}
use Rattle.cta_model.specs.Mounts.{has_job, same_job}
use Rattle.cta_laws.proofs.Tests.{bool_cases}
use Rattle.part_model.specs.declared.jobs.Line.{Line}
use Rattle.part_model.specs.Queues.{Lines, drop_jobs, taken_out}
use Rattle.part_model.specs.Tapes.{Table, place_in}
use Rattle.part_laws.proofs.Orders.{not_either, same_flip}
use Rattle.job_queues.specs.Waiting.{jobs_of}
use Rattle.caller_asks.specs.Jobs.{IsPlacedOn, StandsWhere}
use Rattle.part_moves.proofs.LeftLines.{absent_stays, left, none_dropped, none_or, stands_nowhere, taken_from, was_there}

-- what has left is not there
pub gone_is_absent : (j : Job) (ls : List Line) → has_job j (jobs_of (left (j ∷ []) ls)) ≡ false
gone_is_absent j [] = refl
gone_is_absent j (l ∷ ls) =
    elim (bool_cases (has_job l.job (j ∷ []))) [
      | inl hit ↦ rw hit (gone_is_absent j ls)
      | inr miss ↦
          rw miss (let other : same_job j l.job ≡ false = same_flip l.job j (not_either (same_job l.job j) false miss).0 in rw other (gone_is_absent j ls))
    ]

-- the first leaves, and then the others
pub left_rest : (j : Job) (js : List Job) (ls : List Line) → left js (left (j ∷ []) ls) ≡ left (j ∷ js) ls
left_rest j js [] = refl
left_rest j js (l ∷ ls) = by (same_job l.job j) (has_job l.job js) refl (left_rest j js ls)
  where
    by : (a b : Bool) → has_job l.job js ≡ b → left js (left (j ∷ []) ls) ≡ left (j ∷ js) ls → left js (if not (a || false) then l ∷ left (j ∷ []) ls else left (j ∷ []) ls) ≡ (if not (a || b) then l ∷ left (j ∷ js) ls else left (j ∷ js) ls)
    by true b is rest = rest
    by false true is rest = rw is rest
    by false false is rest = rw is (ap (λ (ks : List Line). l ∷ ks) rest)

-- ---- one job leaves

pub same_key : (a b : ℕ) (o : Option ℕ) → o ≡ Some a → Some b ≡ o → a ≡ b
same_key a b o e f = (let is : Some a ≡ Some b = sym e ∙ sym f in cc)

pub no_key : (a : ℕ) (o : Option ℕ) → o ≡ Some a → None ≡ o → ⊥
no_key a o e f = (let is : Some a ≡ None = sym e ∙ sym f in absurd (cc))

-- ---- a recall leaves the queues of tapes, copy by copy

pub placed_nowhere : (v : Table) (f c k : ℕ) → c ≡ 0 → IsPlacedOn v f c k → ⊥
placed_nowhere v f c k is on = (let low = on.from in let high = on.to in absurd (omega arith))

pub lower : (x c : ℕ) → (x ≡ c → ⊥) → x ≤ c → x ≤ c - 1
lower x c other low = omega arith

-- it is on the tape of this copy, or of a lower one
pub placed_past : (v : Table) (f c k : ℕ) → None ≡ place_in v f c → IsPlacedOn v f c k → IsPlacedOn v f (c - 1) k
placed_past v f c k none on = record { copy = on.copy; place = on.place; from = on.from; to = lower on.copy c (λ same. other same) on.to; is = on.is; on = on.on }
  where
    other : on.copy ≡ c → ⊥
    other same = (let bad : Some on.place ≡ None = sym on.is ∙ ap (place_in v f) same ∙ sym none in absurd (cc))

pub placed_lower : (v : Table) (f c k : ℕ) (p : Place) → Some p ≡ place_in v f c → (k == p.tape) ≡ false → IsPlacedOn v f c k → IsPlacedOn v f (c - 1) k
placed_lower v f c k p is miss on = record { copy = on.copy; place = on.place; from = on.from; to = lower on.copy c (λ same. other same) on.to; is = on.is; on = on.on }
  where
    other : on.copy ≡ c → ⊥
    other same =
        (let both : Some on.place ≡ Some p = sym on.is ∙ ap (place_in v f) same ∙ sym is in
        let place : on.place ≡ p = cc in
        let tape : k ≡ p.tape = sym on.on ∙ ap (λ (x : Place). x.tape) place in
        let hit : (k == p.tape) ≡ true = eq-eqb k p.tape tape in
        let bad : true ≡ false = sym hit ∙ miss in
        absurd (cc))

pub placed_on_rest : (v : Table) (f c k : ℕ) (p : Place) (j : Job) (old mid : Lines) → Some p ≡ place_in v f c → mid k ≡ taken_out p.tape (j ∷ []) old k → (has_job j (jobs_of (old k)) ≡ true → IsPlacedOn v f c k)
    → has_job j (jobs_of (mid k)) ≡ true → IsPlacedOn v f (c - 1) k
placed_on_rest v f c k p j old mid is taken stands there =
    elim (bool_cases (k == p.tape)) [
      | inl hit ↦
          (let gone : mid k ≡ left (j ∷ []) (old k) = rw hit at taken in
          let away : has_job j (jobs_of (mid k)) ≡ false = ap (λ (ls : List Line). has_job j (jobs_of ls)) gone ∙ gone_is_absent j (old k) in
          let bad : true ≡ false = sym there ∙ away in
          absurd (cc))
      | inr miss ↦
          (let same : mid k ≡ old k = rw miss at taken in
          placed_lower v f c k p is miss (stands (sym (ap (λ (ls : List Line). has_job j (jobs_of ls)) same) ∙ there)))
    ]

pub left_on_rest : (j : Job) (tape k : ℕ) (old mid now : Lines) → mid k ≡ taken_out tape (j ∷ []) old k → now k ≡ drop_jobs (j ∷ []) mid k → now k ≡ drop_jobs (j ∷ []) old k
left_on_rest j tape k old mid now taken rest =
    rest ∙ elim (bool_cases (k == tape)) [
      | inl hit ↦ (let gone : mid k ≡ left (j ∷ []) (old k) = rw hit at taken in ap (left (j ∷ [])) gone ∙ absent_stays j (left (j ∷ []) (old k)) (gone_is_absent j (old k)))
      | inr miss ↦ (let same : mid k ≡ old k = rw miss at taken in ap (left (j ∷ [])) same)
    ]

-- ---- where the others stand then

pub stands_still : (site : Site) (h : History) (v : Table) (n : ℕ) (pools tapes pools' tapes' : Lines) (j i : Job) → ((k : ℕ) → pools' k ≡ drop_jobs (j ∷ []) pools k) → ((k : ℕ) → tapes' k ≡ drop_jobs (j ∷ []) tapes k)
    → StandsWhere site h v n pools tapes i → StandsWhere site h v n pools' tapes' i
stands_still site h v n pools tapes pools' tapes' j i p t was = record {
  copies = was.copies;
  archives = λ k there. was.archives k (was_there i (j ∷ []) (pools k) (sym (ap (λ (ls : List Line). has_job i (jobs_of ls)) (p k)) ∙ there));
  recalls = λ k there. was.recalls k (was_there i (j ∷ []) (tapes k) (sym (ap (λ (ls : List Line). has_job i (jobs_of ls)) (t k)) ∙ there));
}

pub all_stand_still : (site : Site) (h : History) (v : Table) (n : ℕ) (pools tapes pools' tapes' : Lines) (j : Job) (js : List Job) → ((k : ℕ) → pools' k ≡ drop_jobs (j ∷ []) pools k) → ((k : ℕ) → tapes' k ≡ drop_jobs (j ∷ []) tapes k)
    → AllByRecursion (StandsWhere site h v n pools tapes) js → AllByRecursion (StandsWhere site h v n pools' tapes') js
all_stand_still site h v n pools tapes pools' tapes' j [] p t all = tt
all_stand_still site h v n pools tapes pools' tapes' j (i ∷ js) p t all = (stands_still site h v n pools tapes pools' tapes' j i p t all.0, all_stand_still site h v n pools tapes pools' tapes' j js p t all.1)

pub dropped_rest : (j : Job) (js : List Job) (old mid now : Lines) (k : ℕ) → mid k ≡ drop_jobs (j ∷ []) old k → now k ≡ drop_jobs js mid k → now k ≡ drop_jobs (j ∷ js) old k
dropped_rest j js old mid now k first rest = rest ∙ ap (left js) first ∙ left_rest j js (old k)

pub dropped_none : (lines : Lines) (k : ℕ) → lines k ≡ drop_jobs [] lines k
dropped_none lines k = none_dropped (lines k)

-- ---- the first job, and the others

rest_of : (j : Job) (js : List Job) → take (length (j ∷ js) - 1) (drop 1 (j ∷ js)) ≡ js
rest_of j js = take_all (length (j ∷ js) - 1) js (omega arith)

pub all_rest : (P : Job → Type 0) (xs : List Job) → AllByRecursion P xs → AllByRecursion P (take (length xs - 1) (drop 1 xs))
all_rest P [] all = tt
all_rest P (j ∷ js) all = subst (AllByRecursion P) (sym (rest_of j js)) all.1

pub all_leave : (xs : List Job) (d : Job) (old mid now : Lines) (k : ℕ) → 1 ≤ length xs → mid k ≡ drop_jobs (get_or xs 0 d ∷ []) old k → now k ≡ drop_jobs (take (length xs - 1) (drop 1 xs)) mid k → now k ≡ drop_jobs xs old k
all_leave [] d old mid now k some first rest = absurd (omega arith)
all_leave (j ∷ js) d old mid now k some first rest = dropped_rest j js old mid now k first (rest ∙ ap (λ (ys : List Job). left ys (mid k)) (rest_of j js))

pub none_leave : (xs : List Job) (lines : Lines) (k : ℕ) → length xs < 1 → lines k ≡ drop_jobs xs lines k
none_leave [] lines k none = dropped_none lines k
none_leave (j ∷ js) lines k none = absurd (omega arith)
