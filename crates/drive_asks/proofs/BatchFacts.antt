-- What the accepted Claim of a mount that writes finds.
use Rattle.std.proofs.Common.{◌≡◌, ◌∙◌, ◌+◌, ◌-◌, ◌<◌, ◌≤◌, ◌^◌, ℕ, zero, suc, List, [], ◌∷◌, true, false, refl, sym, ap, subst, arith, length}
use Rattle.std.specs.Prelude.{Option, Some, None, ◌==◌, map}
use Rattle.std.proofs.lemmas.Bool.{and_parts}
use Rattle.cta_site.specs.declared.site.Site.{Site}
use Rattle.cta_site.specs.Listed.{rows}
use Rattle.cta_site.specs.Lookups.{capacity_of, pool_of_tape}
use Rattle.cta_site.specs.WellFormed.{IsWellFormed}
use Rattle.cta_model.specs.declared.answers.Answer.TheVariants as answer
use Rattle.cta_model.specs.declared.asks.Ask.TheVariants as ask
use Rattle.cta_model.specs.declared.asks.Direction.{Direction}
use Rattle.cta_model.specs.declared.asks.Direction.TheVariants as direction
use Rattle.cta_model.specs.declared.asks.Item.{Item}
use Rattle.cta_model.specs.declared.asks.Job.{Job}
use Rattle.cta_model.specs.declared.states.Mount.{Mount}
use Rattle.cta_model.specs.Answers.{answer_of, batch_answer, is_accepted}
use Rattle.cta_model.specs.Batches.{batch_by, batch_of, taken_of, written_items}
use Rattle.cta_model.specs.History.{History, moment_of}
use Rattle.cta_model.specs.Legal.{IsLegal, IsMount, IsMountOf, greatest_moment}
use Rattle.cta_model.specs.Mounts.{is_open, item_jobs, mount_of, same_direction}
use Rattle.cta_model.specs.Queues.{is_queued, queue_of, way_by}
use Rattle.cta_model.specs.Tapes.{size_of_items, used_bytes}
use Rattle.cta_laws.specs.Asks.{AnswerIs}
use Rattle.cta_laws.specs.Lengths.{ClaimsAreShort}
use Rattle.cta_laws.proofs.Accepted.{answer_is}
use Rattle.cta_laws.proofs.CapacityLaw.{tapes_have_room, written_fits}
use Rattle.cta_laws.proofs.Claims.{AllOf, IsBatch, OfJob, all_mono, all_pass, batch_all, claim_is_batch, claim_is_open}
use Rattle.cta_laws.proofs.KeyLaw.{OpenIsGood, open_good, same_mount, way_of}
use Rattle.part_model.specs.declared.space.TapeRow.{TapeRow}
use Rattle.part_model.specs.Queues.{Queues, lines_in}
use Rattle.part_model.specs.Tapes.{row_in}
use Rattle.part_laws.specs.Lines.{line_of}
use Rattle.part_laws.specs.BookCalls.{recalls_in}
use Rattle.archive_parts.specs.PartsKept.{ArePartsKept}
use Rattle.archive_parts.specs.declared.parts.ArchiveParts.{ArchiveParts}
use Rattle.archive_parts.proofs.Behind.{legal_behind}

-- ---- the answer

written_answer : (site : Site) (h : History) (t : ℕ) (items : List Item) → is_accepted (batch_answer site h t direction.Archive items) ≡ true
    → batch_answer site h t direction.Archive items ≡ answer.Batch (rows items) (rows [])
written_answer site h t [] accepted = absurd (cc)
written_answer site h t (i ∷ items) accepted = refl

-- the items are the batch of the history's mount
abbrev pub AreBatch : Site → History → ℕ → ℕ → List Item → Type 0
AreBatch site h t m items = (x : Mount) → mount_of h m ≡ Some x → items ≡ batch_of site h (moment_of h t) x

pub claim_answered : (site : Site) (h : History) (t m : ℕ) (items : List Item) → IsMountOf direction.Archive (mount_of h m) → is_accepted (answer_of site h t (ask.Claim m)) ≡ true → AreBatch site h t m items
    → answer.Batch (rows items) (rows []) ≡ answer_of site h t (ask.Claim m)
claim_answered site h t m items writes accepted batch =
    let a : AnswerIs site h (moment_of h t) (ask.Claim m) (answer_of site h t (ask.Claim m)) = answer_is site h t (ask.Claim m) (answer_of site h t (ask.Claim m)) refl accepted in
    let way : a.0.direction ≡ direction.Archive = way_of (mount_of h m) a.0 a.1 writes in
    let is : answer_of site h t (ask.Claim m) ≡ batch_answer site h (moment_of h t) direction.Archive items =
    a.2 ∙ ap (λ (w : Direction). batch_answer site h (moment_of h t) w (batch_of site h (moment_of h t) a.0)) way ∙ ap (batch_answer site h (moment_of h t) direction.Archive) (sym (batch a.0 a.1)) in
    sym (is ∙ written_answer site h (moment_of h t) items (ap is_accepted (sym is) ∙ accepted))

is_there : (o : Option Mount) → IsMountOf direction.Archive o → IsMount o
is_there None writes = absurd writes
is_there (Some x) writes = tt

pub claim_is_fit : (h : History) (m : ℕ) → IsMountOf direction.Archive (mount_of h m) → IsMount (mount_of h m)
claim_is_fit h m writes = is_there (mount_of h m) writes

-- a batch has at most so many items as 32 bits count
pub batch_is_short : (site : Site) (h : History) (t m : ℕ) (items : List Item) → ClaimsAreShort → IsWellFormed site → IsLegal site h → t ≤ greatest_moment → IsMountOf direction.Archive (mount_of h m)
    → is_accepted (answer_of site h t (ask.Claim m)) ≡ true → AreBatch site h t m items → length items < 2 ^ 32
batch_is_short site h t m items short well legal low writes accepted batch =
    let next = legal_behind site h t (ask.Claim m) (answer.Batch (rows items) (rows [])) legal low (claim_is_fit h m writes) (claim_answered site h t m items writes accepted batch) accepted in
    let count : length items ≤ site.limits.batch_files = short site h _ next m (rows items) (rows []) refl refl in
    let top : site.limits.batch_files ≤ 1000 = well.limits.batch_files_to in
    omega arith

-- the mount of an accepted Claim is open
pub claim_opened : (site : Site) (h : History) (t m : ℕ) (items : List Item) → IsMountOf direction.Archive (mount_of h m) → is_accepted (answer_of site h t (ask.Claim m)) ≡ true → AreBatch site h t m items → is_open h m ≡ true
claim_opened site h t m items writes accepted batch = claim_is_open site h t m (rows items) (rows []) (claim_answered site h t m items writes accepted batch)

-- ---- the mount

-- the mount writes
pub claim_mount : (h : History) (m : ℕ) (x : Mount) → IsMountOf direction.Archive (mount_of h m) → mount_of h m ≡ Some x
    → mount_of h m ≡ Some (record { drive = x.drive; direction = direction.Archive; tape = x.tape })
claim_mount h m x writes is = is ∙ ap (λ (w : Direction). Some (record { drive = x.drive; direction = w; tape = x.tape })) (way_of (mount_of h m) x is writes)

-- its tape is one of the site
pub claim_tape : (site : Site) (h : History) (m : ℕ) (x : Mount) → IsLegal site h → is_open h m ≡ true → IsMountOf direction.Archive (mount_of h m) → mount_of h m ≡ Some x → x.tape < length site.tapes.items
claim_tape site h m x legal on writes is =
    let good : OpenIsGood site h m = open_good site h legal m on in
    let same : good.0 ≡ x = same_mount good.0 x (sym good.1 ∙ is) in
    subst (λ (y : Mount). y.tape < length site.tapes.items) same (good.2.1 (way_of (mount_of h m) good.0 good.1 writes))

-- ---- the batch

-- the items are those that are taken of the queue of the tape's pool
batch_made : (site : Site) (h : History) (t m : ℕ) (x : Mount) (items : List Item) → IsMountOf direction.Archive (mount_of h m) → AreBatch site h t m items → mount_of h m ≡ Some x
    → items ≡ batch_by site h (moment_of h t) direction.Archive x.tape
batch_made site h t m x items writes batch is = batch x is ∙ ap (λ (w : Direction). batch_by site h (moment_of h t) w x.tape) (way_of (mount_of h m) x is writes)

-- the bytes of a batch fit on its tape
pub batch_fits : (site : Site) (h : History) (t m : ℕ) (x : Mount) (items : List Item) (p : ArchiveParts) → IsLegal site h → ArePartsKept site h p → x.tape < length site.tapes.items → capacity_of site x.tape < 2 ^ 64
    → IsMountOf direction.Archive (mount_of h m) → AreBatch site h t m items → mount_of h m ≡ Some x → (row_in p.tapes.value x.tape).used + size_of_items items < 2 ^ 64
batch_fits site h t m x items p legal kept low small writes batch is =
    let made : items ≡ batch_by site h (moment_of h t) direction.Archive x.tape = batch_made site h t m x items writes batch is in
    let fits : size_of_items items ≤ capacity_of site x.tape - used_bytes h x.tape = subst (λ (xs : List Item). size_of_items xs ≤ capacity_of site x.tape - used_bytes h x.tape) (sym made) (written_fits site h (moment_of h t) x.tape) in
    let within : used_bytes h x.tape ≤ capacity_of site x.tape = tapes_have_room site h legal x.tape in
    let row : (row_in p.tapes.value x.tape).used ≡ used_bytes h x.tape = ap (λ (r : TapeRow). r.used) (kept.stand.space.tapes.rows x.tape low) in
    sum_below _ _ _ _ row fits within small
  where
    sum_below : (used size before room : ℕ) → used ≡ before → size ≤ room - before → before ≤ room → room < 2 ^ 64 → used + size < 2 ^ 64
    sum_below used size before room a b c d = omega arith

-- ---- the queue

taken_some : (h : History) (s n room : ℕ) (q : List Job) → 1 ≤ length (written_items h s (taken_of h n room q)) → 1 ≤ length q
taken_some h s n room [] some = absurd (omega (arith, some))
taken_some h s n room (j ∷ q) some = omega arith

pub key_low : (queues : Queues) (key : ℕ) → 1 ≤ length (lines_in queues key) → key < length queues
key_low [] key some = absurd (omega (arith, some))
key_low (ls ∷ queues) zero some = omega arith
key_low (ls ∷ queues) (suc key) some = omega (arith, key_low queues key some)

lines_count : (site : Site) (h : History) (q : List Job) → length (map (line_of site h direction.Archive) q) ≡ length q
lines_count site h [] = refl
lines_count site h (j ∷ q) = ap suc (lines_count site h q)

-- the pool of a batch has a queue
pub pool_low : (site : Site) (h : History) (t m : ℕ) (x : Mount) (items : List Item) (p : ArchiveParts) → ArePartsKept site h p → IsMountOf direction.Archive (mount_of h m)
    → is_accepted (answer_of site h t (ask.Claim m)) ≡ true → AreBatch site h t m items → mount_of h m ≡ Some x → pool_of_tape site x.tape < length p.pools.value
pool_low site h t m x items p kept writes accepted batch is =
    let b : IsBatch site h (moment_of h t) (mount_of h m) items = claim_is_batch site h t m (rows items) (rows []) (claim_answered site h t m items writes accepted batch) in
    let made : items ≡ batch_by site h (moment_of h t) direction.Archive x.tape = batch_made site h t m x items writes batch is in
    let some : 1 ≤ length (batch_by site h (moment_of h t) direction.Archive x.tape) = subst (λ (xs : List Item). 1 ≤ length xs) made b.3 in
    let queued : 1 ≤ length (queue_of site h direction.Archive (pool_of_tape site x.tape)) = taken_some h _ _ _ (queue_of site h direction.Archive (pool_of_tape site x.tape)) some in
    let lines : length (lines_in p.pools.value (pool_of_tape site x.tape)) ≡ length (queue_of site h direction.Archive (pool_of_tape site x.tape)) =
    ap length (kept.stand.jobs.pools (pool_of_tape site x.tape)) ∙ lines_count site h (queue_of site h direction.Archive (pool_of_tape site x.tape)) in
    key_low p.pools.value (pool_of_tape site x.tape) (omega arith)

-- ---- no recalls

-- a job that is no recall
abbrev IsArchive : Job → Type 0
IsArchive j = (j.copy == 0) ≡ false

way_archive : (c : ℕ) → same_direction direction.Archive (way_by c) ≡ true → (c == 0) ≡ false
way_archive zero same = absurd (cc)
way_archive (suc c) same = later c
  where
    later : (n : ℕ) → (suc n == 0) ≡ false
    later n = grind arith

queued_archive : (site : Site) (h : History) (key : ℕ) (j : Job) → is_queued site h direction.Archive key j ≡ true → IsArchive j
queued_archive site h key j queued = way_archive j.copy (and_parts _ _ (and_parts _ _ queued).1).0

no_recalls : (items : List Item) → AllOf (OfJob IsArchive) items → recalls_in (item_jobs items) ≡ []
no_recalls [] all = refl
no_recalls (i ∷ items) all = rw all.0 (no_recalls items all.1)

-- no job of a batch that is to be written is a recall
pub batch_recalls : (site : Site) (h : History) (t m : ℕ) (x : Mount) (items : List Item) → IsMountOf direction.Archive (mount_of h m) → AreBatch site h t m items → mount_of h m ≡ Some x → recalls_in (item_jobs items) ≡ []
batch_recalls site h t m x items writes batch is =
    no_recalls items (subst (λ (xs : List Item). AllOf (OfJob IsArchive) xs) (sym (batch_made site h t m x items writes batch is))
    (batch_all IsArchive site h (moment_of h t) direction.Archive x.tape
    (λ key. all_mono (λ (j : Job). is_queued site h direction.Archive key j ≡ true) IsArchive (queue_of site h direction.Archive key) (λ j queued. queued_archive site h key j queued) (all_pass (is_queued site h direction.Archive key) _))))
