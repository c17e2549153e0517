-- The items that an open writing mount has still to flush have the fSeqs from its tape's next one in turn.
use Rattle.std.proofs.Common.{◌≡◌, ℕ, suc, ◌+◌, ◌-◌, ◌≤◌, ◌<◌, inl, inr, List, [], ◌∷◌, ◌++◌, Bool, true, false, refl, sym, ◌∙◌, ap, subst, arith, length}
use Rattle.std.specs.Prelude.{zip, Option, Some, None, if◌then◌else◌, ◌==◌, map}
use Rattle.std.specs.List.{list_all}
use Rattle.std.proofs.lemmas.Bool.{and_parts, and_from, eqb-true, eq-eqb, ne_eqb}
use Rattle.cta_site.specs.declared.site.Site.{Site}
use Rattle.cta_site.specs.Listed.{Listed}
use Rattle.cta_site.specs.Lookups.{capacity_of, pool_of_tape}
use Rattle.cta_model.specs.declared.asks.Ask.{Ask}
use Rattle.cta_model.specs.declared.asks.Direction.{Direction}
use Rattle.cta_model.specs.declared.answers.Answer.{Answer}
use Rattle.cta_model.specs.declared.asks.Item.{Item}
use Rattle.cta_model.specs.declared.asks.Job.{Job}
use Rattle.cta_model.specs.declared.states.Mount.{Mount}
use Rattle.cta_model.specs.History.{History, entry_of, moment_of}
use Rattle.cta_model.specs.Mounts.{mount_of, mount_by, is_open, tape_of_mount, tape_by, asked_mount, open_mounts, claimed_items, claimed_after, without_jobs, item_jobs, has_job, same_job, last_batch, batch_in, batch_or}
use Rattle.cta_model.specs.Tapes.{tape_items, items_after, next_fseq, used_bytes}
use Rattle.cta_model.specs.Queues.{queue_of}
use Rattle.cta_model.specs.Batches.{taken_of, written_items, batch_of, batch_by}
use Rattle.cta_model.specs.Answers.{answer_of, is_accepted, is_last_batch, same_items, same_item, claims_all}
use Rattle.cta_model.specs.Legal.{IsLegal, IsMountOf, IsFit}
use Rattle.cta_laws.proofs.Tests.{bool_cases, or_left, or_cases, not_next}
use Rattle.cta_laws.proofs.OpenMounts.{mount_older}
use Rattle.cta_laws.proofs.OnceLaw.{same_job_eq}
use Rattle.cta_laws.proofs.Claims.{IsBatch, claim_is_batch}
use Rattle.cta_laws.proofs.ClaimLaw.{if_without}
use Rattle.cta_laws.proofs.PlaceLaw.{flushed_known}
use Rattle.cta_laws.proofs.FseqLaw.{way_of, was_open, last_older, claim_older}
use Rattle.cta_laws.proofs.LengthLaw.{last_some}
use Rattle.cta_laws.proofs.JobLists.{job_self}
use Rattle.cta_laws.proofs.MountLaw.{other_items, other_claims}
use Rattle.cta_model.specs.declared.asks.Ask.TheVariants as ask
use Rattle.cta_model.specs.declared.asks.Direction.TheVariants as direction
use Rattle.cta_model.specs.declared.answers.Answer.TheVariants as answer
use Rattle.cta_laws.proofs.Bools.{turned}
use Rattle.cta_laws.specs.Places.{AreInTurn}

-- ---- a batch for writing is numbered from the next fSeq

pub written_numbered : (h : History) (s : ℕ) (js : List Job) → AreInTurn s (written_items h s js)
unfolding AreInTurn
written_numbered h s [] = tt
written_numbered h s (j ∷ js) = (refl, written_numbered h (s + 1) js)

pub batch_numbered : (site : Site) (h : History) (t : ℕ) (way : Direction) (v : ℕ) → way ≡ direction.Archive → AreInTurn (next_fseq h v) (batch_by site h t way v)
batch_numbered site h t direction.Archive v e = written_numbered h (next_fseq h v) (taken_of h site.limits.batch_files (capacity_of site v - used_bytes h v) (queue_of site h direction.Archive (pool_of_tape site v)))
batch_numbered site h t direction.Retrieve v e = absurd (cc)

pub claim_numbered : (site : Site) (h : History) (t m : ℕ) (items : Listed Item) (evicted : Listed ℕ) → answer.Batch items evicted ≡ answer_of site h t (ask.Claim m) → IsMountOf direction.Archive (mount_of h m) → AreInTurn (next_fseq h (tape_of_mount h m)) items.items
claim_numbered site h t m items evicted e way =
    let b : IsBatch site h (moment_of h t) (mount_of h m) items.items = claim_is_batch site h t m items evicted e in
    let numbered : AreInTurn (next_fseq h b.0.tape) (batch_of site h (moment_of h t) b.0) = batch_numbered site h (moment_of h t) b.0.direction b.0.tape (way_of (mount_of h m) b.0 b.1 way) in
    subst (λ (v : ℕ). AreInTurn (next_fseq h v) items.items) (sym (ap tape_by b.1)) (subst (λ (xs : List Item). AreInTurn (next_fseq h b.0.tape) xs) (sym b.2) numbered)

-- ---- what is still claimed was claimed

pub claims_less : (xs ys : List Item) (js : List Job) → ((j : Job) → has_job j (item_jobs xs) ≡ true → has_job j (item_jobs ys) ≡ true) → list_all (λ j. has_job j (item_jobs xs)) js ≡ true → list_all (λ j. has_job j (item_jobs ys)) js ≡ true
claims_less xs ys [] less all = refl
claims_less xs ys (j ∷ js) less all = (let p = and_parts (has_job j (item_jobs xs)) _ all in and_from _ _ (less j p.0) (claims_less xs ys js less p.1))

-- jobs that are taken out are claimed no more
pub out_of : (j : Job) (js : List Job) (xs : List Item) → has_job j js ≡ true → has_job j (item_jobs (without_jobs js xs)) ≡ false
out_of j js [] e = refl
out_of j js (x ∷ xs) e =
    elim (bool_cases (has_job x.job js)) [
      | inl out ↦ rw out (out_of j js xs e)
      | inr stays ↦
          elim (bool_cases (same_job j x.job)) [
            | inl hit ↦ (let bad : has_job x.job js ≡ true = subst (λ (k : Job). has_job k js ≡ true) (same_job_eq j x.job hit) e in absurd (cc))
            | inr miss ↦ rw (stays, miss) (out_of j js xs e)
          ]
    ]

-- the items that are named the same have the same jobs
pub first_job : (xs ys : List Item) → same_items xs ys ≡ true → 1 ≤ length ys → (j : Job) × (has_job j (item_jobs xs) ≡ true) × (has_job j (item_jobs ys) ≡ true)
first_job [] [] e low = absurd (omega arith)
first_job [] (y ∷ ys) e low = absurd (cc)
first_job (x ∷ xs) [] e low = absurd (cc)
first_job (x ∷ xs) (y ∷ ys) e low =
    let job : same_job x.job y.job ≡ true = (and_parts (same_job x.job y.job) _ (and_parts (same_item x y) _ e).0).0 in
    (x.job, or_left (same_job x.job x.job) _ (job_self x.job), or_left (same_job x.job y.job) _ job)

pub claimed_member : (items : List Item) (js : List Job) (j : Job) → list_all (λ j. has_job j (item_jobs items)) js ≡ true → has_job j js ≡ true → has_job j (item_jobs items) ≡ true
claimed_member items [] j all there = absurd (cc)
claimed_member items (k ∷ js) j all there =
    let parts = and_parts (has_job k (item_jobs items)) _ all in
    elim (or_cases (same_job j k) (has_job j js) there) [
      | inl hit ↦ subst (λ (x : Job). has_job x (item_jobs items) ≡ true) (sym (same_job_eq j k hit)) parts.0
      | inr rest ↦ claimed_member items js j parts.1 rest
    ]

pub last_same : (items : List Item) (o : Option (List Item)) (xs : List Item) → o ≡ Some xs → is_last_batch o items ≡ true → same_items items xs ≡ true
last_same items None xs is e = absurd (cc)
last_same items (Some ys) xs is e = (let same : ys ≡ xs = cc in subst (λ (zs : List Item). same_items items zs ≡ true) same e)

-- ---- the law

-- there is no mount 0
pub no_zero : (h : History) → entry_of h 0 ≡ None
no_zero [] = refl
no_zero (e ∷ h) = rw (ne_eqb 0 (length h + 1) (λ x. omega arith)) (no_zero h)

pub no_mount : (h : History) (m : ℕ) → m ≡ 0 → IsMountOf direction.Archive (mount_of h m) → ⊥
no_mount h m is way = (let none : mount_of h m ≡ None = ap (mount_of h) is ∙ ap mount_by (no_zero h) in subst (λ (o : Option Mount). IsMountOf direction.Archive o) none way)

-- an entry about the mount itself
pub own_step : (site : Site) (h : History) → IsLegal site h → (t m : ℕ) (k : Ask) (a : Answer) (items : List Item) → a ≡ answer_of site h t k → is_accepted a ≡ true → IsMountOf direction.Archive (mount_of h m) → asked_mount k ≡ m
    → ((o : List Item) → last_batch h m ≡ Some o → claims_all h m (item_jobs o) ≡ true → AreInTurn (next_fseq h (tape_of_mount h m)) o)
    → batch_or (batch_in k a m) (last_batch h m) ≡ Some items → list_all (λ j. has_job j (item_jobs (claimed_after k a m (claimed_items h m)))) (item_jobs items) ≡ true
    → AreInTurn (length (items_after k (tape_of_mount h m) (tape_of_mount h (asked_mount k)) (tape_items h (tape_of_mount h m))) + 1) items
own_step site h legal t m (ask.Claim k) (answer.Batch xs evicted) items is y way about older last all =
    let hit : (k == m) ≡ true = eq-eqb k m about in
    let got : Some xs.items ≡ Some items = rw hit at last in
    let same : xs.items ≡ items = cc in
    subst (λ (ys : List Item). AreInTurn (next_fseq h (tape_of_mount h m)) ys) same
    (subst (λ (n : ℕ). AreInTurn (next_fseq h (tape_of_mount h n)) xs.items) about (claim_numbered site h t k xs evicted is (subst (λ (n : ℕ). IsMountOf direction.Archive (mount_of h n)) (sym about) way)))
own_step site h legal t m (ask.Flushed k xs) a items is y way about older last all =
    let known = flushed_known site h t k xs a is y in
    let at_m : last_batch h k ≡ Some items = ap (last_batch h) about ∙ last in
    let same : same_items xs.items items ≡ true = last_same xs.items (last_batch h k) items at_m known.1 in
    let some : 1 ≤ length items = last_some site h legal m items last in
    let j = first_job xs.items items same some in
    let hit : (k == m) ≡ true = eq-eqb k m about in
    let there : list_all (λ j. has_job j (item_jobs (without_jobs (item_jobs xs.items) (claimed_items h m)))) (item_jobs items) ≡ true = rw hit at all in
    let still : has_job j.0 (item_jobs (without_jobs (item_jobs xs.items) (claimed_items h m))) ≡ true = claimed_member (without_jobs (item_jobs xs.items) (claimed_items h m)) (item_jobs items) j.0 there j.2 in
    let gone : has_job j.0 (item_jobs (without_jobs (item_jobs xs.items) (claimed_items h m))) ≡ false = out_of j.0 (item_jobs xs.items) (claimed_items h m) j.1 in
    absurd (cc)
own_step site h legal t m (ask.Recalled k job) a items is y way about older last all =
    older items last (claims_less _ (claimed_items h m) (item_jobs items) (λ j x. if_without (k == m) j (job ∷ []) (claimed_items h m) x) all)
own_step site h legal t m (ask.Failed k fault charged returned) a items is y way about older last all =
    older items last (claims_less _ (claimed_items h m) (item_jobs items) (λ j x. if_without (k == m) j (charged.items ++ returned.items) (claimed_items h m) x) all)
own_step site h legal t m (ask.Reclaim who v) a items is y way about older last all = absurd (no_mount h m (sym about) way)
own_step site h legal t m _ a items is y way about older last all = older items last all

pub batch_other : (k : Ask) (a : Answer) (m : ℕ) (o : Option (List Item)) → (asked_mount k == m) ≡ false → batch_or (batch_in k a m) o ≡ o
batch_other (ask.Claim k) (answer.Batch items evicted) m o d = rw d refl
batch_other _ a m o d = refl

-- what an open writing mount's last Claim took, where the mount still claims it all
pub numbered : (site : Site) (h : History) → IsLegal site h → (m : ℕ) (items : List Item) → is_open h m ≡ true → IsMountOf direction.Archive (mount_of h m) → last_batch h m ≡ Some items → claims_all h m (item_jobs items) ≡ true → AreInTurn (next_fseq h (tape_of_mount h m)) items
numbered site [] legal m items op way last all = absurd (cc)
numbered site (e ∷ h) legal m items op way last all =
    let low : m ≤ length h = claim_older site h e.at m e.ask e.answer (last_batch h m) items legal.1.answered (λ q. last_older site h legal.0 m items q) last in
    let older : mount_of (e ∷ h) m ≡ mount_of h m = mount_older e h m low in
    let op' : is_open h m ≡ true = was_open e.ask e.answer (length h + 1) m (open_mounts h) (not_next m (length h) low) op in
    let way' : IsMountOf direction.Archive (mount_of h m) = subst (λ (p : Option Mount). IsMountOf direction.Archive p) older way in
    let tape : tape_of_mount (e ∷ h) m ≡ tape_of_mount h m = ap tape_by older in
    subst (λ (v : ℕ). AreInTurn (next_fseq (e ∷ h) v) items) (sym tape)
    (elim (bool_cases (asked_mount e.ask == m)) [
      | inl hit ↦ own_step site h legal.0 e.at m e.ask e.answer items legal.1.answered legal.1.accepted way' (eqb-true _ _ hit) (λ o x y. numbered site h legal.0 m o op' way' x y) last all
      | inr d ↦
          (let last' : last_batch h m ≡ Some items = sym (batch_other e.ask e.answer m (last_batch h m) d) ∙ last in
          let all' : claims_all h m (item_jobs items) ≡ true = subst (λ (xs : List Item). list_all (λ j. has_job j (item_jobs xs)) (item_jobs items) ≡ true) (other_claims e.ask e.answer m (claimed_items h m) d) all in
          let same : tape_items (e ∷ h) (tape_of_mount h m) ≡ tape_items h (tape_of_mount h m) = other_items site h legal.0 e.at e.ask e.answer m legal.1.answered legal.1.accepted op' d in
          subst (λ (xs : List Item). AreInTurn (length xs + 1) items) (sym same) (numbered site h legal.0 m items op' way' last' all'))
    ])

pub same_numbered : (s : ℕ) (xs ys : List Item) → same_items xs ys ≡ true → AreInTurn s ys → AreInTurn s xs
unfolding AreInTurn
same_numbered s [] [] e all = tt
same_numbered s [] (y ∷ ys) e all = absurd (cc)
same_numbered s (x ∷ xs) [] e all = absurd (cc)
same_numbered s (x ∷ xs) (y ∷ ys) e all =
    let p = and_parts (same_item x y) _ e in
    let q = and_parts (same_job x.job y.job) _ p.0 in
    (eqb-true _ _ (and_parts (x.fseq == y.fseq) _ q.1).0 ∙ all.0, same_numbered (s + 1) xs ys p.1 all.1)

pub same_claims : (items xs ys : List Item) → same_items xs ys ≡ true → list_all (λ j. has_job j (item_jobs items)) (item_jobs xs) ≡ true → list_all (λ j. has_job j (item_jobs items)) (item_jobs ys) ≡ true
same_claims items [] [] e all = refl
same_claims items [] (y ∷ ys) e all = absurd (cc)
same_claims items (x ∷ xs) [] e all = absurd (cc)
same_claims items (x ∷ xs) (y ∷ ys) e all =
    let p = and_parts (same_item x y) _ e in
    let job : same_job x.job y.job ≡ true = (and_parts (same_job x.job y.job) _ p.0).0 in
    let q = and_parts (has_job x.job (item_jobs items)) _ all in
    and_from _ _ (subst (λ (j : Job). has_job j (item_jobs items) ≡ true) (same_job_eq x.job y.job job) q.0) (same_claims items xs ys p.1 q.1)

-- the items of an accepted Flushed are numbered from the tape's next fSeq
pub flushed_numbered : (site : Site) (h : History) → IsLegal site h → (t m : ℕ) (items : Listed Item) (a : Answer) → a ≡ answer_of site h t (ask.Flushed m items) → is_accepted a ≡ true → IsMountOf direction.Archive (mount_of h m) → AreInTurn (next_fseq h (tape_of_mount h m)) items.items
flushed_numbered site h legal t m items a is y way =
    let known = flushed_known site h t m items a is y in
    let p = and_parts (is_open h m) _ known.0 in
    let all : claims_all h m (item_jobs items.items) ≡ true = (and_parts (claims_all h m (item_jobs items.items)) _ p.1).0 in
    by (last_batch h m) refl known.1 p.0 all
  where
    by : (o : Option (List Item)) → last_batch h m ≡ o → is_last_batch o items.items ≡ true → is_open h m ≡ true → claims_all h m (item_jobs items.items) ≡ true → AreInTurn (next_fseq h (tape_of_mount h m)) items.items
    by None last e op all = absurd (cc)
    by (Some xs) last e op all = same_numbered (next_fseq h (tape_of_mount h m)) items.items xs e (numbered site h legal m xs op way last (same_claims (claimed_items h m) items.items xs e all))
