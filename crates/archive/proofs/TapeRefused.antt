-- Asks of tapes are refused as their tests say, and are accepted where no test holds.
use Rattle.std.proofs.Common.{◌≡◌, ◌∙◌, ℕ, ◌+◌, List, [], ◌∷◌, Bool, true, false, refl, sym, ap, arith, length}
use Rattle.std.specs.Prelude.{Option, Some, None, ◌==◌, if◌then◌else◌, nat_le, nat_lt, not}
use Rattle.std.proofs.lemmas.List.{length-map}
use Rattle.cta_site.specs.declared.site.Site.{Site}
use Rattle.cta_site.specs.declared.site.TapeState.{TapeState}
use Rattle.cta_site.specs.Listed.{rows}
use Rattle.cta_model.specs.declared.answers.Answer.{Answer}
use Rattle.cta_model.specs.declared.answers.Answer.TheVariants as answer
use Rattle.cta_model.specs.declared.answers.Refusal.{Refusal}
use Rattle.cta_model.specs.declared.answers.Refusal.TheVariants as refusal
use Rattle.cta_model.specs.declared.asks.Ask.{Ask}
use Rattle.cta_model.specs.declared.asks.Ask.TheVariants as ask
use Rattle.cta_model.specs.declared.asks.Item.{Item}
use Rattle.cta_model.specs.declared.asks.Who.{Who}
use Rattle.cta_model.specs.Answers.{answer_of, is_accepted, is_too_heavy, may_be_refused_for_weight, refuse, weighed}
use Rattle.cta_model.specs.History.{History, is_empty, next_number, weight_of, weight_of_entry}
use Rattle.cta_model.specs.Mounts.{is_mounted, job_of}
use Rattle.cta_model.specs.Places.{live_items_on}
use Rattle.cta_model.specs.RepackItems.{repack_items}
use Rattle.cta_model.specs.Repacks.{is_repack_live}
use Rattle.cta_model.specs.Tapes.{is_broken, may_be_repacked, tape_state}
use Rattle.archive.specs.AdminRefusals.{free_refusal, or_full, or_live, reclaim_refusal, repack_refusal}
use Rattle.archive.specs.Refusals.{refusal_of}

-- the answer, or this refusal
abbrev refused_by : Option Refusal → Answer → Answer
refused_by None a = a
refused_by (Some r) a = answer.Refused r

-- ---- the weight

not_refused : (a : Answer) → is_accepted a ≡ true → refusal_of a ≡ None
not_refused (answer.Refused r) fine = absurd (cc)
not_refused _ fine = refl

-- an ask that may be refused for the weight is refused so where no other refusal comes first
weighed_is : (site : Site) (h : History) (k : Ask) (o : Option Refusal) (a : Answer) (heavy : Bool) → may_be_refused_for_weight k ≡ true → is_accepted a ≡ true → nat_lt site.limits.history (weight_of h + weight_of_entry k a) ≡ heavy
    → refusal_of (weighed site h k (refused_by o a)) ≡ or_full o heavy
weighed_is site h k None a heavy asked fine over = rw (asked, fine, over) (by heavy)
  where
    by : (b : Bool) → refusal_of (refuse refusal.HistoryFull b a) ≡ (if b then Some refusal.HistoryFull else None)
    by true = refl
    by false = not_refused a fine
weighed_is site h k (Some r) a heavy asked fine over = rw asked refl

accepted_by : (site : Site) (h : History) (k : Ask) (o : Option Refusal) (a : Answer) → is_accepted a ≡ true → refusal_of (weighed site h k (refused_by o a)) ≡ None → is_accepted (weighed site h k (refused_by o a)) ≡ true
accepted_by site h k None a fine none = by (is_too_heavy site h k a) none
  where
    by : (b : Bool) → refusal_of (refuse refusal.HistoryFull b a) ≡ None → is_accepted (refuse refusal.HistoryFull b a) ≡ true
    by true none = absurd (cc)
    by false none = fine
accepted_by site h k (Some r) a fine none = by (is_too_heavy site h k (answer.Refused r)) none
  where
    by : (b : Bool) → refusal_of (refuse refusal.HistoryFull b (answer.Refused r)) ≡ None → is_accepted (refuse refusal.HistoryFull b (answer.Refused r)) ≡ true
    by true none = absurd (cc)
    by false none = absurd (cc)

-- ---- states

-- the state of a tape, none where the site has no such tape
abbrev known_state : Site → History → ℕ → Option TapeState
known_state site h v = if nat_le (length site.tapes.items) v then None else Some (tape_state site h v)

free_is : (unknown mounted : Bool) (s : TapeState) (a : Answer) → refuse refusal.NoTape unknown (refuse refusal.TapeMounted mounted (refuse refusal.TapeBroken (is_broken s) a)) ≡ refused_by (free_refusal (if unknown then None else Some s) mounted) a
free_is true mounted s a = refl
free_is false true s a = refl
free_is false false s a = by (is_broken s)
  where
    by : (b : Bool) → refuse refusal.TapeBroken b a ≡ refused_by (if b then Some refusal.TapeBroken else None) a
    by true = refl
    by false = refl

state_is : (site : Site) (h : History) (t : ℕ) (who : Who) (v : ℕ) (s : TapeState) → answer_of site h t (ask.TapeState who v s) ≡ weighed site h (ask.TapeState who v s) (refused_by (free_refusal (known_state site h v) (is_mounted h v)) answer.Done)
state_is site h t who v s = ap (weighed site h (ask.TapeState who v s)) (free_is (nat_le (length site.tapes.items) v) (is_mounted h v) (tape_state site h v) answer.Done)

-- a TapeState is refused by the tape's state, by whether it is mounted, and by the weight
pub state_refused : (site : Site) (h : History) (t : ℕ) (who : Who) (v : ℕ) (s : TapeState) (now : Option TapeState) (mounted heavy : Bool) → now ≡ known_state site h v → mounted ≡ is_mounted h v → heavy ≡ nat_lt site.limits.history (weight_of h + 1)
    → refusal_of (answer_of site h t (ask.TapeState who v s)) ≡ or_full (free_refusal now mounted) heavy
state_refused site h t who v s now mounted heavy state is over =
    ap refusal_of (state_is site h t who v s)
    ∙ weighed_is site h (ask.TapeState who v s) (free_refusal (known_state site h v) (is_mounted h v)) answer.Done heavy refl refl (sym over)
    ∙ ap (λ (o : Option TapeState). or_full (free_refusal o (is_mounted h v)) heavy) (sym state)
    ∙ ap (λ (b : Bool). or_full (free_refusal now b) heavy) (sym is)

-- a TapeState that is not refused is accepted
pub state_accepted : (site : Site) (h : History) (t : ℕ) (who : Who) (v : ℕ) (s : TapeState) → refusal_of (answer_of site h t (ask.TapeState who v s)) ≡ None → is_accepted (answer_of site h t (ask.TapeState who v s)) ≡ true
state_accepted site h t who v s none =
    ap is_accepted (state_is site h t who v s)
    ∙ accepted_by site h (ask.TapeState who v s) (free_refusal (known_state site h v) (is_mounted h v)) answer.Done refl (sym (ap refusal_of (state_is site h t who v s)) ∙ none)

-- ---- reclaims

or_live_is : (o : Option Refusal) (live : Bool) (a : Answer) → refused_by o (refuse refusal.LiveFiles live a) ≡ refused_by (or_live o live) a
or_live_is None true a = refl
or_live_is None false a = refl
or_live_is (Some r) live a = refl

some_items : (items : List Item) → not (is_empty items) ≡ not (length items == 0)
some_items [] = refl
some_items (i ∷ items) = (let some : (length (i ∷ items) == 0) ≡ false = grind arith in rw some refl)

abbrev has_live : History → ℕ → Bool
has_live h v = not (is_empty (live_items_on h v))

reclaim_is : (site : Site) (h : History) (t : ℕ) (who : Who) (v : ℕ) → answer_of site h t (ask.Reclaim who v) ≡ weighed site h (ask.Reclaim who v) (refused_by (reclaim_refusal (known_state site h v) (is_mounted h v) (has_live h v)) answer.Done)
reclaim_is site h t who v =
    ap (weighed site h (ask.Reclaim who v))
    (free_is (nat_le (length site.tapes.items) v) (is_mounted h v) (tape_state site h v) (refuse refusal.LiveFiles (has_live h v) answer.Done)
    ∙ or_live_is (free_refusal (known_state site h v) (is_mounted h v)) (has_live h v) answer.Done)

-- a Reclaim is refused by the tape's state, by whether it is mounted, by its live copies, and by the weight
pub reclaim_refused : (site : Site) (h : History) (t : ℕ) (who : Who) (v : ℕ) (now : Option TapeState) (mounted : Bool) (copies : ℕ) (heavy : Bool) → now ≡ known_state site h v → mounted ≡ is_mounted h v → copies ≡ length (live_items_on h v)
    → heavy ≡ nat_lt site.limits.history (weight_of h + 1) → refusal_of (answer_of site h t (ask.Reclaim who v)) ≡ or_full (reclaim_refusal now mounted (not (copies == 0))) heavy
reclaim_refused site h t who v now mounted copies heavy state is count over =
    ap refusal_of (reclaim_is site h t who v)
    ∙ weighed_is site h (ask.Reclaim who v) (reclaim_refusal (known_state site h v) (is_mounted h v) (has_live h v)) answer.Done heavy refl refl (sym over)
    ∙ ap (λ (o : Option TapeState). or_full (reclaim_refusal o (is_mounted h v) (has_live h v)) heavy) (sym state)
    ∙ ap (λ (b : Bool). or_full (reclaim_refusal now b (has_live h v)) heavy) (sym is)
    ∙ ap (λ (b : Bool). or_full (reclaim_refusal now mounted b) heavy) (some_items (live_items_on h v) ∙ ap (λ (n : ℕ). not (n == 0)) (sym count))

-- a Reclaim that is not refused is accepted
pub reclaim_accepted : (site : Site) (h : History) (t : ℕ) (who : Who) (v : ℕ) → refusal_of (answer_of site h t (ask.Reclaim who v)) ≡ None → is_accepted (answer_of site h t (ask.Reclaim who v)) ≡ true
reclaim_accepted site h t who v none =
    ap is_accepted (reclaim_is site h t who v)
    ∙ accepted_by site h (ask.Reclaim who v) (reclaim_refusal (known_state site h v) (is_mounted h v) (has_live h v)) answer.Done refl (sym (ap refusal_of (reclaim_is site h t who v)) ∙ none)

-- ---- repacks

-- the answer that names the items
abbrev repacking : History → ℕ → Answer
repacking h v = answer.Repacking (next_number h) (rows (repack_items h v))

tests_are : (unknown live : Bool) (s : TapeState) (a : Answer) → refuse refusal.NoTape unknown (refuse refusal.NotRepacking (not (may_be_repacked s)) (refuse refusal.RepackLive live a)) ≡ refused_by (repack_refusal (if unknown then None else Some s) live) a
tests_are true live s a = refl
tests_are false live s a = by (may_be_repacked s) live
  where
    by : (b l : Bool) → refuse refusal.NotRepacking (not b) (refuse refusal.RepackLive l a) ≡ refused_by (if not b then Some refusal.NotRepacking else if l then Some refusal.RepackLive else None) a
    by false l = refl
    by true true = refl
    by true false = refl

repack_is : (site : Site) (h : History) (t : ℕ) (who : Who) (v : ℕ) → answer_of site h t (ask.Repack who v) ≡ weighed site h (ask.Repack who v) (refused_by (repack_refusal (known_state site h v) (is_repack_live site h v)) (repacking h v))
repack_is site h t who v = ap (weighed site h (ask.Repack who v)) (tests_are (nat_le (length site.tapes.items) v) (is_repack_live site h v) (tape_state site h v) (repacking h v))

weight_is : (h : History) (v copies : ℕ) → copies ≡ length (live_items_on h v) → 1 + (0 + length (repack_items h v)) ≡ 1 + copies
weight_is h v copies count = let same : length (repack_items h v) ≡ length (live_items_on h v) = length-map (live_items_on h v) (λ (i : Item). job_of 0 i.job.file i.job.copy) in omega (arith, same, count)

-- a Repack is refused by the tape's state, by whether a repack of it is live, and by the weight of its items
pub repack_refused : (site : Site) (h : History) (t : ℕ) (who : Who) (v : ℕ) (now : Option TapeState) (live : Bool) (copies : ℕ) (heavy : Bool) → now ≡ known_state site h v → live ≡ is_repack_live site h v → copies ≡ length (live_items_on h v)
    → heavy ≡ nat_lt site.limits.history (weight_of h + (1 + copies)) → refusal_of (answer_of site h t (ask.Repack who v)) ≡ or_full (repack_refusal now live) heavy
repack_refused site h t who v now live copies heavy state alive count over =
    ap refusal_of (repack_is site h t who v)
    ∙ weighed_is site h (ask.Repack who v) (repack_refusal (known_state site h v) (is_repack_live site h v)) (repacking h v) heavy refl refl
    (ap (λ (n : ℕ). nat_lt site.limits.history (weight_of h + n)) (weight_is h v copies count) ∙ sym over)
    ∙ ap (λ (o : Option TapeState). or_full (repack_refusal o (is_repack_live site h v)) heavy) (sym state)
    ∙ ap (λ (b : Bool). or_full (repack_refusal now b) heavy) (sym alive)

-- a Repack that is not refused is accepted
pub repack_accepted : (site : Site) (h : History) (t : ℕ) (who : Who) (v : ℕ) → refusal_of (answer_of site h t (ask.Repack who v)) ≡ None → is_accepted (answer_of site h t (ask.Repack who v)) ≡ true
repack_accepted site h t who v none =
    ap is_accepted (repack_is site h t who v)
    ∙ accepted_by site h (ask.Repack who v) (repack_refusal (known_state site h v) (is_repack_live site h v)) (repacking h v) refl (sym (ap refusal_of (repack_is site h t who v)) ∙ none)
