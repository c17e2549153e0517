-- When asks of files are refused.
use Rattle.std.proofs.Common.{◌≡◌, ◌∙◌, ℕ, ◌+◌, List, Bool, true, false, not, refl, sym, ap, arith, length}
use Rattle.std.specs.Prelude.{Option, None, ◌&&◌, is_none, is_some, nat_lt}
use Rattle.blob.specs.declared.sum.Sum256.{Sum256}
use Rattle.cta_site.specs.declared.site.Site.{Site}
use Rattle.cta_site.specs.Listed.{rows}
use Rattle.cta_site.specs.Lookups.{class_of}
use Rattle.cta_site.specs.Paths.{is_path}
use Rattle.cta_model.specs.declared.asks.Ask.{Ask}
use Rattle.cta_model.specs.declared.asks.Ask.TheVariants as ask
use Rattle.cta_model.specs.declared.asks.Who.{Who}
use Rattle.cta_model.specs.declared.answers.Answer.{Answer}
use Rattle.cta_model.specs.declared.answers.Answer.TheVariants as answer
use Rattle.cta_model.specs.declared.answers.Refusal.TheVariants as refusal
use Rattle.cta_model.specs.declared.hands.Hand.{Hand}
use Rattle.cta_model.specs.declared.hands.Hand.TheVariants as hand
use Rattle.cta_model.specs.Hands.{HandBack}
use Rattle.blob.specs.Records.{MediumView}
use Rattle.cta_model.specs.Answers.{answer_of, is_accepted, is_too_heavy, refuse}
use Rattle.cta_model.specs.Files.{live_file}
use Rattle.cta_model.specs.History.{History, moment_of, weight_of, weight_of_entry}
use Rattle.cta_model.specs.Space.{evictable_size, evicted_for, free_space}
use Rattle.archive.specs.FileRefusals.{delete_refusal, put_refusal}
use Rattle.archive.specs.Refusals.{refusal_of}

put_by : (b1 b2 b3 b4 : Bool) → List ℕ → Answer
put_by b1 b2 b3 b4 out = refuse refusal.BadPath b1 (refuse refusal.NoDirectory b2 (refuse refusal.PathTaken b3 (refuse refusal.NoSpace b4 (answer.Stored (rows out)))))

heavy_last : (heavy : Bool) (out : List ℕ) → refusal_of (refuse refusal.HistoryFull heavy (answer.Stored (rows out))) ≡ put_refusal false false false false heavy
heavy_last true out = refl
heavy_last false out = refl

put_first : (limit weight : ℕ) (k : Ask) (b1 b2 b3 b4 heavy : Bool) (out : List ℕ) → nat_lt limit (weight + weight_of_entry k (answer.Stored (rows out))) ≡ heavy
    → refusal_of (refuse refusal.HistoryFull (is_accepted (put_by b1 b2 b3 b4 out) && nat_lt limit (weight + weight_of_entry k (put_by b1 b2 b3 b4 out))) (put_by b1 b2 b3 b4 out)) ≡ put_refusal b1 b2 b3 b4 heavy
unfolding put_by
put_first limit weight k true b2 b3 b4 heavy out is = refl
put_first limit weight k false true b3 b4 heavy out is = refl
put_first limit weight k false false true b4 heavy out is = refl
put_first limit weight k false false false true heavy out is = refl
put_first limit weight k false false false false heavy out is = ap (λ (b : Bool). refusal_of (refuse refusal.HistoryFull b (answer.Stored (rows out)))) is ∙ heavy_last heavy out

-- a Put is refused by the first of these tests that holds
pub put_told : (site : Site) (h : History) (t : ℕ) (who : Who) (path : List ℕ) (sum : Sum256) (bad foreign taken full heavy : Bool) → bad ≡ not (is_path path) → foreign ≡ is_none (class_of site path) → taken ≡ is_some (live_file h path)
    → full ≡ nat_lt (free_space site h + evictable_size site h (moment_of h t)) sum.len → heavy ≡ nat_lt site.limits.history (weight_of h + (1 + length (evicted_for site h (moment_of h t) sum.len)))
    → refusal_of (answer_of site h t (ask.Put who path sum)) ≡ put_refusal bad foreign taken full heavy
unfolding put_by
put_told site h t who path sum bad foreign taken full heavy e1 e2 e3 e4 e5 =
    rw (e1, e2, e3, e4) (put_first site.limits.history (weight_of h) (ask.Put who path sum) (not (is_path path)) (is_none (class_of site path)) (is_some (live_file h path)) (nat_lt (free_space site h + evictable_size site h (moment_of h t)) sum.len) heavy (evicted_for site h (moment_of h t) sum.len) (sum_up ∙ sym e5))
  where
    one_more : (w n : ℕ) → w + (1 + (0 + n)) ≡ w + (1 + n)
    one_more w n = omega arith

    sum_up : nat_lt site.limits.history (weight_of h + weight_of_entry (ask.Put who path sum) (answer.Stored (rows (evicted_for site h (moment_of h t) sum.len)))) ≡ nat_lt site.limits.history (weight_of h + (1 + length (evicted_for site h (moment_of h t) sum.len)))
    sum_up = ap (nat_lt site.limits.history) (one_more (weight_of h) (length (evicted_for site h (moment_of h t) sum.len)))

delete_first : (limit weight : ℕ) (k : Ask) (missing heavy : Bool) → nat_lt limit (weight + weight_of_entry k answer.Done) ≡ heavy
    → refusal_of (refuse refusal.HistoryFull (is_accepted (refuse refusal.NoFile missing answer.Done) && nat_lt limit (weight + weight_of_entry k (refuse refusal.NoFile missing answer.Done))) (refuse refusal.NoFile missing answer.Done)) ≡ delete_refusal missing heavy
delete_first limit weight k true heavy is = refl
delete_first limit weight k false true is = ap (λ (b : Bool). refusal_of (refuse refusal.HistoryFull b answer.Done)) is
delete_first limit weight k false false is = ap (λ (b : Bool). refusal_of (refuse refusal.HistoryFull b answer.Done)) is

-- a Delete is refused by the first of these tests that holds
pub delete_told : (site : Site) (h : History) (t : ℕ) (who : Who) (path : List ℕ) (missing heavy : Bool) → missing ≡ is_none (live_file h path) → heavy ≡ nat_lt site.limits.history (weight_of h + 1)
    → refusal_of (answer_of site h t (ask.Delete who path)) ≡ delete_refusal missing heavy
delete_told site h t who path missing heavy e1 e2 = rw e1 (delete_first site.limits.history (weight_of h) (ask.Delete who path) (is_none (live_file h path)) heavy (sym e2))

-- ---- refused, or accepted

pub twice : (b : Bool) → not (not b) ≡ b
twice true = refl
twice false = refl

put_accepted_by : (b1 b2 b3 b4 heavy : Bool) (out : List ℕ) → refusal_of (refuse refusal.HistoryFull heavy (put_by b1 b2 b3 b4 out)) ≡ None → is_accepted (refuse refusal.HistoryFull heavy (put_by b1 b2 b3 b4 out)) ≡ true
unfolding put_by
put_accepted_by b1 b2 b3 b4 true out none = absurd (cc)
put_accepted_by true b2 b3 b4 false out none = absurd (cc)
put_accepted_by false true b3 b4 false out none = absurd (cc)
put_accepted_by false false true b4 false out none = absurd (cc)
put_accepted_by false false false true false out none = absurd (cc)
put_accepted_by false false false false false out none = refl

-- a Put that is not refused is accepted
pub put_accepted : (site : Site) (h : History) (t : ℕ) (who : Who) (path : List ℕ) (sum : Sum256) → refusal_of (answer_of site h t (ask.Put who path sum)) ≡ None → is_accepted (answer_of site h t (ask.Put who path sum)) ≡ true
unfolding put_by
put_accepted site h t who path sum none =
    put_accepted_by (not (is_path path)) (is_none (class_of site path)) (is_some (live_file h path)) (nat_lt (free_space site h + evictable_size site h (moment_of h t)) sum.len)
    (is_too_heavy site h (ask.Put who path sum) (put_by (not (is_path path)) (is_none (class_of site path)) (is_some (live_file h path)) (nat_lt (free_space site h + evictable_size site h (moment_of h t)) sum.len) (evicted_for site h (moment_of h t) sum.len)))
    (evicted_for site h (moment_of h t) sum.len) none

delete_accepted_by : (missing heavy : Bool) → refusal_of (refuse refusal.HistoryFull heavy (refuse refusal.NoFile missing answer.Done)) ≡ None → is_accepted (refuse refusal.HistoryFull heavy (refuse refusal.NoFile missing answer.Done)) ≡ true
delete_accepted_by missing true none = absurd (cc)
delete_accepted_by true false none = absurd (cc)
delete_accepted_by false false none = refl

-- a Delete that is not refused is accepted
pub delete_accepted : (site : Site) (h : History) (t : ℕ) (who : Who) (path : List ℕ) → refusal_of (answer_of site h t (ask.Delete who path)) ≡ None → is_accepted (answer_of site h t (ask.Delete who path)) ≡ true
delete_accepted site h t who path none =
    delete_accepted_by (is_none (live_file h path)) (is_too_heavy site h (ask.Delete who path) (refuse refusal.NoFile (is_none (live_file h path)) answer.Done)) none

-- nothing comes out with an accepted Put
pub put_hand : {M : Type 0} (told : M → MediumView) (h later : History) (who : Who) (path : List ℕ) (sum : Sum256) (a : Answer) (in_hand : Hand M) (accepted : Bool) → accepted ≡ true → HandBack told accepted h later (ask.Put who path sum) a in_hand hand.Nothing
put_hand told h later who path sum a in_hand true is = tt
put_hand told h later who path sum a in_hand false is = absurd (cc)
