-- When asks of stage requests are refused.
use Rattle.std.proofs.Common.{◌≡◌, ◌∙◌, ℕ, ◌+◌, List, Bool, true, false, not, refl, sym, ap, arith, length}
use Rattle.std.specs.Prelude.{Option, Some, None, ◌&&◌, is_none, nat_lt}
use Rattle.std.specs.List.{list_all}
use Rattle.cta_site.specs.declared.site.Site.{Site}
use Rattle.cta_site.specs.Listed.{rows}
use Rattle.cta_model.specs.declared.asks.Ask.{Ask}
use Rattle.cta_model.specs.declared.asks.Ask.TheVariants as ask
use Rattle.cta_model.specs.declared.asks.Wanted.{Wanted}
use Rattle.cta_model.specs.declared.asks.Who.{Who}
use Rattle.cta_model.specs.declared.answers.Answer.{Answer}
use Rattle.cta_model.specs.declared.answers.Answer.TheVariants as answer
use Rattle.cta_model.specs.declared.answers.Refusal.TheVariants as refusal
use Rattle.cta_model.specs.Answers.{answer_of, is_accepted, is_too_heavy, refuse, request_answer}
use Rattle.cta_model.specs.History.{History, has_text, next_number, weight_of, weight_of_entry}
use Rattle.cta_model.specs.Stages.{StageRequest, request_of}
use Rattle.archive_state.specs.Requests.{paths_of}
use Rattle.archive.specs.StageRefusals.{drop_refusal, paths_refusal}
use Rattle.archive.specs.Refusals.{refusal_of}

-- ---- the weight of an ask with its list

one_more : (w n : ℕ) → w + (1 + (n + 0)) ≡ w + (1 + n)
one_more w n = omega arith

passes : (limit w n : ℕ) → nat_lt limit (w + (1 + (n + 0))) ≡ nat_lt limit (w + (1 + n))
passes limit w n = ap (nat_lt limit) (one_more w n)

-- ---- a Stage

staged : ℕ → Bool → Answer
staged n heavy = refuse refusal.HistoryFull heavy (answer.Staged n)

pub stage_heavy : (site : Site) (h : History) (t : ℕ) (who : Who) (files : List Wanted) → nat_lt site.limits.history (weight_of h + (1 + length files)) ≡ true → answer.Refused refusal.HistoryFull ≡ answer_of site h t (ask.Stage who (rows files))
unfolding staged
stage_heavy site h t who files heavy = sym (ap (staged (next_number h)) (passes site.limits.history (weight_of h) (length files) ∙ heavy))

pub stage_accepted : (site : Site) (h : History) (t : ℕ) (who : Who) (files : List Wanted) → nat_lt site.limits.history (weight_of h + (1 + length files)) ≡ false → is_accepted (answer_of site h t (ask.Stage who (rows files))) ≡ true
unfolding staged
stage_accepted site h t who files light = ap (λ (b : Bool). is_accepted (staged (next_number h) b)) (passes site.limits.history (weight_of h) (length files) ∙ light)

-- ---- a Cancel or a Release

own_first : (limit weight : ℕ) (k : Ask) (own heavy : Bool) → nat_lt limit (weight + weight_of_entry k answer.Done) ≡ heavy
    → refusal_of (refuse refusal.HistoryFull (is_accepted (refuse refusal.ForeignPath (not own) answer.Done) && nat_lt limit (weight + weight_of_entry k (refuse refusal.ForeignPath (not own) answer.Done))) (refuse refusal.ForeignPath (not own) answer.Done)) ≡ paths_refusal false (not own) heavy
own_first limit weight k false heavy is = refl
own_first limit weight k true true is = ap (λ (b : Bool). refusal_of (refuse refusal.HistoryFull b answer.Done)) is
own_first limit weight k true false is = ap (λ (b : Bool). refusal_of (refuse refusal.HistoryFull b answer.Done)) is

paths_first : (limit weight : ℕ) (k : Ask) (o : Option StageRequest) (paths : List (List ℕ)) (heavy : Bool) → nat_lt limit (weight + weight_of_entry k answer.Done) ≡ heavy
    → refusal_of (refuse refusal.HistoryFull (is_accepted (request_answer o paths) && nat_lt limit (weight + weight_of_entry k (request_answer o paths))) (request_answer o paths)) ≡ paths_refusal (is_none o) (not (list_all (λ (p : List ℕ). has_text p (paths_of o)) paths)) heavy
paths_first limit weight k None paths heavy is = refl
paths_first limit weight k (Some r) paths heavy is = own_first limit weight k (list_all (λ (p : List ℕ). has_text p (paths_of (Some r))) paths) heavy is

-- a Cancel is refused by the first of these tests that holds
pub cancel_told : (site : Site) (h : History) (t : ℕ) (who : Who) (id : ℕ) (paths : List (List ℕ)) (unknown foreign heavy : Bool) → unknown ≡ is_none (request_of site h id) → foreign ≡ not (list_all (λ (p : List ℕ). has_text p (paths_of (request_of site h id))) paths)
    → heavy ≡ nat_lt site.limits.history (weight_of h + (1 + length paths)) → refusal_of (answer_of site h t (ask.Cancel who id (rows paths))) ≡ paths_refusal unknown foreign heavy
cancel_told site h t who id paths unknown foreign heavy e1 e2 e3 =
    rw (e1, e2) (paths_first site.limits.history (weight_of h) (ask.Cancel who id (rows paths)) (request_of site h id) paths heavy (passes site.limits.history (weight_of h) (length paths) ∙ sym e3))

-- a Release is refused by the first of these tests that holds
pub release_told : (site : Site) (h : History) (t : ℕ) (who : Who) (id : ℕ) (paths : List (List ℕ)) (unknown foreign heavy : Bool) → unknown ≡ is_none (request_of site h id) → foreign ≡ not (list_all (λ (p : List ℕ). has_text p (paths_of (request_of site h id))) paths)
    → heavy ≡ nat_lt site.limits.history (weight_of h + (1 + length paths)) → refusal_of (answer_of site h t (ask.Release who id (rows paths))) ≡ paths_refusal unknown foreign heavy
release_told site h t who id paths unknown foreign heavy e1 e2 e3 =
    rw (e1, e2) (paths_first site.limits.history (weight_of h) (ask.Release who id (rows paths)) (request_of site h id) paths heavy (passes site.limits.history (weight_of h) (length paths) ∙ sym e3))

-- ---- a DropStage

drop_first : (limit weight : ℕ) (k : Ask) (unknown heavy : Bool) → nat_lt limit (weight + weight_of_entry k answer.Done) ≡ heavy
    → refusal_of (refuse refusal.HistoryFull (is_accepted (refuse refusal.NoRequest unknown answer.Done) && nat_lt limit (weight + weight_of_entry k (refuse refusal.NoRequest unknown answer.Done))) (refuse refusal.NoRequest unknown answer.Done)) ≡ drop_refusal unknown heavy
drop_first limit weight k true heavy is = refl
drop_first limit weight k false true is = ap (λ (b : Bool). refusal_of (refuse refusal.HistoryFull b answer.Done)) is
drop_first limit weight k false false is = ap (λ (b : Bool). refusal_of (refuse refusal.HistoryFull b answer.Done)) is

-- a DropStage is refused by the first of these tests that holds
pub drop_told : (site : Site) (h : History) (t : ℕ) (who : Who) (id : ℕ) (unknown heavy : Bool) → unknown ≡ is_none (request_of site h id) → heavy ≡ nat_lt site.limits.history (weight_of h + 1) → refusal_of (answer_of site h t (ask.DropStage who id)) ≡ drop_refusal unknown heavy
drop_told site h t who id unknown heavy e1 e2 = rw e1 (drop_first site.limits.history (weight_of h) (ask.DropStage who id) (is_none (request_of site h id)) heavy (sym e2))

-- ---- refused, or accepted

own_accepted : (own heavy : Bool) → refusal_of (refuse refusal.HistoryFull heavy (refuse refusal.ForeignPath (not own) answer.Done)) ≡ None → is_accepted (refuse refusal.HistoryFull heavy (refuse refusal.ForeignPath (not own) answer.Done)) ≡ true
own_accepted own true none = absurd (cc)
own_accepted false false none = absurd (cc)
own_accepted true false none = refl

paths_accepted : (o : Option StageRequest) (paths : List (List ℕ)) (heavy : Bool) → refusal_of (refuse refusal.HistoryFull heavy (request_answer o paths)) ≡ None → is_accepted (refuse refusal.HistoryFull heavy (request_answer o paths)) ≡ true
paths_accepted None paths true none = absurd (cc)
paths_accepted None paths false none = absurd (cc)
paths_accepted (Some r) paths heavy none = own_accepted (list_all (λ (p : List ℕ). has_text p (paths_of (Some r))) paths) heavy none

-- a Cancel that is not refused is accepted
pub cancel_accepted : (site : Site) (h : History) (t : ℕ) (who : Who) (id : ℕ) (paths : List (List ℕ)) → refusal_of (answer_of site h t (ask.Cancel who id (rows paths))) ≡ None → is_accepted (answer_of site h t (ask.Cancel who id (rows paths))) ≡ true
cancel_accepted site h t who id paths none = paths_accepted (request_of site h id) paths (is_too_heavy site h (ask.Cancel who id (rows paths)) (request_answer (request_of site h id) paths)) none

-- a Release that is not refused is accepted
pub release_accepted : (site : Site) (h : History) (t : ℕ) (who : Who) (id : ℕ) (paths : List (List ℕ)) → refusal_of (answer_of site h t (ask.Release who id (rows paths))) ≡ None → is_accepted (answer_of site h t (ask.Release who id (rows paths))) ≡ true
release_accepted site h t who id paths none = paths_accepted (request_of site h id) paths (is_too_heavy site h (ask.Release who id (rows paths)) (request_answer (request_of site h id) paths)) none

drop_accepted_by : (unknown heavy : Bool) → refusal_of (refuse refusal.HistoryFull heavy (refuse refusal.NoRequest unknown answer.Done)) ≡ None → is_accepted (refuse refusal.HistoryFull heavy (refuse refusal.NoRequest unknown answer.Done)) ≡ true
drop_accepted_by unknown true none = absurd (cc)
drop_accepted_by true false none = absurd (cc)
drop_accepted_by false false none = refl

-- a DropStage that is not refused is accepted
pub drop_accepted : (site : Site) (h : History) (t : ℕ) (who : Who) (id : ℕ) → refusal_of (answer_of site h t (ask.DropStage who id)) ≡ None → is_accepted (answer_of site h t (ask.DropStage who id)) ≡ true
drop_accepted site h t who id none = drop_accepted_by (is_none (request_of site h id)) (is_too_heavy site h (ask.DropStage who id) (refuse refusal.NoRequest (is_none (request_of site h id)) answer.Done)) none
