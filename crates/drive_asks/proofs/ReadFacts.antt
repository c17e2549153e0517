-- What the accepted Claim of a mount that reads finds.
use Rattle.std.proofs.Common.{◌≡◌, ◌∙◌, ◌+◌, ◌-◌, ◌<◌, ◌≤◌, ◌^◌, ℕ, zero, suc, List, [], ◌∷◌, ◌++◌, Bool, true, false, not, refl, sym, ap, subst, arith, length}
use Rattle.std.specs.Prelude.{Option, Some, None, ◌==◌, ◌&&◌, if◌then◌else◌, filter, map, nat_lt}
use Rattle.std.proofs.lemmas.Bool.{and_parts}
use Rattle.cta_site.specs.declared.site.Site.{Site}
use Rattle.cta_site.specs.Listed.{rows}
use Rattle.cta_site.specs.WellFormed.{IsWellFormed}
use Rattle.cta_model.specs.declared.answers.Answer.TheVariants as answer
use Rattle.cta_model.specs.declared.asks.Ask.TheVariants as ask
use Rattle.cta_model.specs.declared.asks.Direction.{Direction}
use Rattle.cta_model.specs.declared.asks.Direction.TheVariants as direction
use Rattle.cta_model.specs.declared.asks.Item.{Item}
use Rattle.cta_model.specs.declared.asks.Job.{Job}
use Rattle.cta_model.specs.declared.states.Mount.{Mount}
use Rattle.cta_model.specs.Answers.{answer_of, batch_answer, is_accepted}
use Rattle.cta_model.specs.Batches.{batch_by, batch_of, insert_by_fseq, read_items, taken_of}
use Rattle.cta_model.specs.History.{History, has_number, last_moment, moment_of}
use Rattle.cta_model.specs.Legal.{IsLegal, IsMount, IsMountOf, greatest_moment}
use Rattle.cta_model.specs.Mounts.{drive_by, is_open, item_jobs, mount_of, same_direction}
use Rattle.cta_model.specs.Queues.{is_queued, queue_of, way_by}
use Rattle.cta_model.specs.Space.{bytes_to_read, evictable_size, free_space, resident_files, size_of_files}
use Rattle.cta_model.specs.Space as space
use Rattle.cta_model.specs.Tapes.{size_of_items}
use Rattle.cta_laws.specs.Asks.{AnswerIs}
use Rattle.cta_laws.specs.Lengths.{ClaimsAreShort}
use Rattle.cta_laws.specs.Space.{BufferHasRoom}
use Rattle.cta_laws.proofs.Accepted.{answer_is}
use Rattle.cta_laws.proofs.BufferLaw.{read_fits}
use Rattle.cta_laws.proofs.Claims.{AllOf, IsBatch, OfJob, all_mono, all_pass, batch_all, claim_is_batch, claim_is_open}
use Rattle.part_model.specs.declared.mounts.OpenMount.{OpenMount}
use Rattle.part_model.specs.declared.space.Resident.{Resident}
use Rattle.part_model.specs.Held.{Held, HeldAgree, bytes_of, evict, evictable_in, evicted_for, pinned_in, without}
use Rattle.part_model.specs.Mounts.{has_mount, row_of}
use Rattle.part_model.specs.Queues.{Queues, lines_in}
use Rattle.part_laws.specs.Lines.{line_of}
use Rattle.part_laws.specs.Mounts.{AreOpenMounts}
use Rattle.part_laws.proofs.RowAnswers.{rows_tell_mounts}
use Rattle.part_laws.specs.BookCalls.{recalls_in}
use Rattle.part_laws.specs.SpaceLaws.{Tells}
use Rattle.part_laws.proofs.Told.{buffer_tells, bytes_is}
use Rattle.archive_parts.specs.PartsKept.{ArePartsKept}
use Rattle.archive_parts.specs.declared.parts.ArchiveParts.{ArchiveParts}
use Rattle.drive_asks.specs.Waiting.{files_in}
use Rattle.archive_parts.proofs.Behind.{legal_behind}
use Rattle.part_moves.proofs.Charged.{later_of}
use Rattle.drive_asks.proofs.BatchFacts.{AreBatch, key_low}
use Rattle.drive_asks.proofs.EndedMounts.{drive_asks}

-- ---- moments

pub last_low : (site : Site) (h : History) → IsLegal site h → last_moment h ≤ greatest_moment
last_low site [] legal = omega arith
last_low site (e ∷ h) legal = legal.1.within

pub now_low : (site : Site) (h : History) (t : ℕ) → IsLegal site h → t ≤ greatest_moment → moment_of h t ≤ greatest_moment
now_low site h t legal low = let last : last_moment h ≤ greatest_moment = last_low site h legal in omega arith

-- what the buffer tells at the moment of a call
buffer_now : (site : Site) (h : History) (p : ArchiveParts) (t : ℕ) → IsLegal site h → ArePartsKept site h p → t ≤ greatest_moment → Tells site h p.buffer.held.value (moment_of h t)
buffer_now site h p t legal kept low = buffer_tells site h p.buffer.held.value (moment_of h t) kept.stand.space.buffer (later_of h t) (now_low site h t legal low)

-- ---- the mount

way_of : (o : Option Mount) (x : Mount) → o ≡ Some x → IsMountOf direction.Retrieve o → x.direction ≡ direction.Retrieve
way_of o x is reads = subst (IsMountOf direction.Retrieve) is reads

is_there : (o : Option Mount) → IsMountOf direction.Retrieve o → IsMount o
is_there None reads = absurd reads
is_there (Some x) reads = tt

pub claim_is_fit : (h : History) (m : ℕ) → IsMountOf direction.Retrieve (mount_of h m) → IsMount (mount_of h m)
claim_is_fit h m reads = is_there (mount_of h m) reads

-- the mount reads
pub claim_mount : (h : History) (m : ℕ) (x : Mount) → IsMountOf direction.Retrieve (mount_of h m) → mount_of h m ≡ Some x
    → mount_of h m ≡ Some (record { drive = x.drive; direction = direction.Retrieve; tape = x.tape })
claim_mount h m x reads is = is ∙ ap (λ (w : Direction). Some (record { drive = x.drive; direction = w; tape = x.tape })) (way_of (mount_of h m) x is reads)

-- ---- the answer

read_answer : (site : Site) (h : History) (t : ℕ) (items : List Item) → is_accepted (batch_answer site h t direction.Retrieve items) ≡ true
    → batch_answer site h t direction.Retrieve items ≡ answer.Batch (rows items) (rows (space.evicted_for site h t (size_of_items items)))
read_answer site h t [] accepted = absurd (cc)
read_answer site h t (i ∷ items) accepted = refl

read_answered : (site : Site) (h : History) (t m : ℕ) (items : List Item) → IsMountOf direction.Retrieve (mount_of h m) → is_accepted (answer_of site h t (ask.Claim m)) ≡ true → AreBatch site h t m items
    → answer.Batch (rows items) (rows (space.evicted_for site h (moment_of h t) (size_of_items items))) ≡ answer_of site h t (ask.Claim m)
read_answered site h t m items reads accepted batch =
    let a : AnswerIs site h (moment_of h t) (ask.Claim m) (answer_of site h t (ask.Claim m)) = answer_is site h t (ask.Claim m) (answer_of site h t (ask.Claim m)) refl accepted in
    let way : a.0.direction ≡ direction.Retrieve = way_of (mount_of h m) a.0 a.1 reads in
    let is : answer_of site h t (ask.Claim m) ≡ batch_answer site h (moment_of h t) direction.Retrieve items =
    a.2 ∙ ap (λ (w : Direction). batch_answer site h (moment_of h t) w (batch_of site h (moment_of h t) a.0)) way ∙ ap (batch_answer site h (moment_of h t) direction.Retrieve) (sym (batch a.0 a.1)) in
    sym (is ∙ read_answer site h (moment_of h t) items (ap is_accepted (sym is) ∙ accepted))

-- the answer, with what the buffer would evict
pub claim_answered : (site : Site) (h : History) (p : ArchiveParts) (t m : ℕ) (items : List Item) → IsLegal site h → ArePartsKept site h p → t ≤ greatest_moment → IsMountOf direction.Retrieve (mount_of h m)
    → is_accepted (answer_of site h t (ask.Claim m)) ≡ true → AreBatch site h t m items
    → answer.Batch (rows items) (rows (evicted_for p.buffer.held.value (moment_of h t) (size_of_items items))) ≡ answer_of site h t (ask.Claim m)
claim_answered site h p t m items legal kept low reads accepted batch =
    ap (λ (fs : List ℕ). answer.Batch (rows items) (rows fs)) ((buffer_now site h p t legal kept low).evicted (size_of_items items)) ∙ read_answered site h t m items reads accepted batch

-- a batch has at most so many items as 32 bits count
pub batch_is_short : (site : Site) (h : History) (t m : ℕ) (items : List Item) → ClaimsAreShort → IsWellFormed site → IsLegal site h → t ≤ greatest_moment → IsMountOf direction.Retrieve (mount_of h m)
    → is_accepted (answer_of site h t (ask.Claim m)) ≡ true → AreBatch site h t m items → length items < 2 ^ 32
batch_is_short site h t m items short well legal low reads accepted batch =
    let out : List ℕ = space.evicted_for site h (moment_of h t) (size_of_items items) in
    let next = legal_behind site h t (ask.Claim m) (answer.Batch (rows items) (rows out)) legal low (claim_is_fit h m reads) (read_answered site h t m items reads accepted batch) accepted in
    let count : length items ≤ site.limits.batch_files = short site h _ next m (rows items) (rows out) refl refl in
    let top : site.limits.batch_files ≤ 1000 = well.limits.batch_files_to in
    omega arith

-- the mount of an accepted Claim is open
pub claim_opened : (site : Site) (h : History) (t m : ℕ) (items : List Item) → IsMountOf direction.Retrieve (mount_of h m) → is_accepted (answer_of site h t (ask.Claim m)) ≡ true → AreBatch site h t m items → is_open h m ≡ true
claim_opened site h t m items reads accepted batch = claim_is_open site h t m (rows items) (rows (space.evicted_for site h (moment_of h t) (size_of_items items))) (read_answered site h t m items reads accepted batch)

-- ---- the batch

-- the items are those that are taken of the queue of the tape
batch_made : (site : Site) (h : History) (t m : ℕ) (x : Mount) (items : List Item) → IsMountOf direction.Retrieve (mount_of h m) → AreBatch site h t m items → mount_of h m ≡ Some x
    → items ≡ batch_by site h (moment_of h t) direction.Retrieve x.tape
batch_made site h t m x items reads batch is = batch x is ∙ ap (λ (w : Direction). batch_by site h (moment_of h t) w x.tape) (way_of (mount_of h m) x is reads)

pub few_of : (test : Resident → Bool) (rs : List Resident) → bytes_of (filter test rs) ≤ bytes_of rs
few_of test [] = omega arith
few_of test (r ∷ rs) = by (test r) (bytes_of rs) (few_of test rs)
  where
    by : (b : Bool) (n : ℕ) → bytes_of (filter test rs) ≤ n → bytes_of (if b then r ∷ filter test rs else filter test rs) ≤ r.len + n
    by true n rest = omega (arith, rest)
    by false n rest = omega (arith, rest)

-- the bytes of a batch are at most twice the buffer
read_size : BufferHasRoom → (site : Site) (h : History) (p : ArchiveParts) (t m : ℕ) (x : Mount) (items : List Item) → IsWellFormed site → IsLegal site h → ArePartsKept site h p → t ≤ greatest_moment → IsMountOf direction.Retrieve (mount_of h m)
    → AreBatch site h t m items → mount_of h m ≡ Some x → (size_of_items items ≤ 4294967296) × (bytes_of p.buffer.held.value.files + p.buffer.held.value.aside ≤ 2147483648)
read_size law site h p t m x items well legal kept low reads batch is =
    let v : Held = p.buffer.held.value in
    let tells : Tells site h p.buffer.held.value (moment_of h t) = buffer_now site h p t legal kept low in
    let made : items ≡ batch_by site h (moment_of h t) direction.Retrieve x.tape = batch_made site h t m x items reads batch is in
    let fits : size_of_items items ≤ free_space site h + evictable_size site h (moment_of h t) =
    subst (λ (xs : List Item). size_of_items xs ≤ free_space site h + evictable_size site h (moment_of h t)) (sym made) (read_fits site h (moment_of h t) x.tape) in
    let top : site.limits.buffer ≤ 2147483648 = well.limits.buffer_to in
    let files : bytes_of p.buffer.held.value.files ≡ size_of_files h (resident_files h) = ap bytes_of kept.stand.space.buffer.files ∙ bytes_is site h (resident_files h) in
    let room : size_of_files h (resident_files h) + bytes_to_read h ≤ site.limits.buffer = law site h legal in
    let few : bytes_of (evictable_in p.buffer.held.value (moment_of h t)) ≤ bytes_of p.buffer.held.value.files = few_of (λ (r : Resident). not (pinned_in p.buffer.held.value.pins (moment_of h t) r.file) && r.safe) p.buffer.held.value.files in
    sums (size_of_items items) (free_space site h) (evictable_size site h (moment_of h t)) (bytes_of p.buffer.held.value.files) (size_of_files h (resident_files h)) p.buffer.held.value.aside (bytes_to_read h) site.limits.buffer
    (bytes_of (evictable_in p.buffer.held.value (moment_of h t))) fits refl tells.evictable few files kept.stand.space.buffer.aside room top
  where
    sums : (size free more bytes total aside reads buffer out : ℕ) → size ≤ free + more → free ≡ buffer - (total + reads) → out ≡ more → out ≤ bytes → bytes ≡ total → aside ≡ reads → total + reads ≤ buffer → buffer ≤ 2147483648
        → (size ≤ 4294967296) × (bytes + aside ≤ 2147483648)
    sums size free more bytes total aside reads buffer out a b c d e f g i = (omega arith, omega arith)

pub read_size_low : BufferHasRoom → (site : Site) (h : History) (p : ArchiveParts) (t m : ℕ) (x : Mount) (items : List Item) → IsWellFormed site → IsLegal site h → ArePartsKept site h p → t ≤ greatest_moment → IsMountOf direction.Retrieve (mount_of h m)
    → AreBatch site h t m items → mount_of h m ≡ Some x → size_of_items items < 2 ^ 64
read_size_low law site h p t m x items well legal kept low reads batch is = let both = read_size law site h p t m x items well legal kept low reads batch is in omega (arith, both.0)

-- the bytes of a batch can be set aside
pub read_size_fits : BufferHasRoom → (site : Site) (h : History) (p : ArchiveParts) (t m n : ℕ) (x : Mount) (items : List Item) → IsWellFormed site → IsLegal site h → ArePartsKept site h p → t ≤ greatest_moment → IsMountOf direction.Retrieve (mount_of h m)
    → AreBatch site h t m items → mount_of h m ≡ Some x → n ≡ size_of_items items → bytes_of p.buffer.held.value.files + p.buffer.held.value.aside + n < 2 ^ 64
read_size_fits law site h p t m n x items well legal kept low reads batch is size =
    let both = read_size law site h p t m x items well legal kept low reads batch is in omega (arith, both.0, both.1, size)

-- a mount that is said to read is there
pub mount_of_reads : (h : History) (m : ℕ) → IsMountOf direction.Retrieve (mount_of h m) → (x : Mount) × (mount_of h m ≡ Some x)
mount_of_reads h m reads = by (mount_of h m) refl reads
  where
    by : (o : Option Mount) → mount_of h m ≡ o → IsMountOf direction.Retrieve o → (x : Mount) × (mount_of h m ≡ Some x)
    by None is none = absurd none
    by (Some x) is some = (x, is)

bytes_without : (gone : List ℕ) (rs : List Resident) → bytes_of (without gone rs) ≤ bytes_of rs
bytes_without gone rs = few_of (λ (r : Resident). not (has_number r.file gone)) rs

-- what is left of the buffer fits beside them
pub left_fits : (v w : Held) (t need : ℕ) → HeldAgree w (evict v t need) → bytes_of v.files + v.aside + need < 2 ^ 64 → bytes_of w.files + w.aside + need < 2 ^ 64
left_fits v w t need agree fits =
    let less : bytes_of w.files ≤ bytes_of v.files = subst (λ (n : ℕ). n ≤ bytes_of v.files) (sym (ap bytes_of agree.files)) (bytes_without (evicted_for v t need) v.files) in
    let aside : w.aside ≡ v.aside = agree.aside in
    omega (arith, less, aside, fits)

-- ---- the queue

insert_some : (i : Item) (ks : List Item) → 1 ≤ length (insert_by_fseq i ks)
insert_some i [] = omega arith
insert_some i (k ∷ ks) = by (nat_lt i.fseq k.fseq) (insert_by_fseq i ks)
  where
    by : (b : Bool) (rest : List Item) → 1 ≤ length (if b then i ∷ k ∷ ks else k ∷ rest)
    by true rest = omega arith
    by false rest = omega arith

taken_some : (site : Site) (h : History) (v n room : ℕ) (q : List Job) → 1 ≤ length (read_items site h v (taken_of h n room q)) → 1 ≤ length q
taken_some site h v n room [] some = absurd (omega (arith, some))
taken_some site h v n room (j ∷ q) some = omega arith

lines_count : (site : Site) (h : History) (q : List Job) → length (map (line_of site h direction.Retrieve) q) ≡ length q
lines_count site h [] = refl
lines_count site h (j ∷ q) = ap suc (lines_count site h q)

-- the tape of a batch has a queue
pub tape_low : (site : Site) (h : History) (t m : ℕ) (x : Mount) (items : List Item) (p : ArchiveParts) → ArePartsKept site h p → IsMountOf direction.Retrieve (mount_of h m)
    → is_accepted (answer_of site h t (ask.Claim m)) ≡ true → AreBatch site h t m items → mount_of h m ≡ Some x → x.tape < length p.recalls.value
tape_low site h t m x items p kept reads accepted batch is =
    let b : IsBatch site h (moment_of h t) (mount_of h m) items = claim_is_batch site h t m (rows items) _ (read_answered site h t m items reads accepted batch) in
    let made : items ≡ batch_by site h (moment_of h t) direction.Retrieve x.tape = batch_made site h t m x items reads batch is in
    let some : 1 ≤ length (batch_by site h (moment_of h t) direction.Retrieve x.tape) = subst (λ (xs : List Item). 1 ≤ length xs) made b.3 in
    let queued : 1 ≤ length (queue_of site h direction.Retrieve x.tape) = taken_some site h x.tape _ _ (queue_of site h direction.Retrieve x.tape) some in
    let lines : length (lines_in p.recalls.value x.tape) ≡ length (queue_of site h direction.Retrieve x.tape) =
    ap length (kept.stand.jobs.recalls x.tape) ∙ lines_count site h (queue_of site h direction.Retrieve x.tape) in
    key_low p.recalls.value x.tape (omega (arith, queued, lines))

-- ---- recalls alone

-- a job that is a recall
abbrev IsRecall : Job → Type 0
IsRecall j = (j.copy == 0) ≡ true

way_recall : (c : ℕ) → same_direction direction.Retrieve (way_by c) ≡ true → (c == 0) ≡ true
way_recall zero same = refl
way_recall (suc c) same = absurd (cc)

queued_recall : (site : Site) (h : History) (key : ℕ) (j : Job) → is_queued site h direction.Retrieve key j ≡ true → IsRecall j
queued_recall site h key j queued = way_recall j.copy (and_parts _ _ (and_parts _ _ queued).1).0

all_recalls : (items : List Item) → AllOf (OfJob IsRecall) items → recalls_in (item_jobs items) ≡ files_in items
all_recalls [] all = refl
all_recalls (i ∷ items) all = rw all.0 (ap (λ (fs : List ℕ). i.job.file ∷ fs) (all_recalls items all.1))

-- the recalls of a batch that is to be read are those of its items
pub batch_recalls : (site : Site) (h : History) (t m : ℕ) (x : Mount) (items : List Item) → IsMountOf direction.Retrieve (mount_of h m) → AreBatch site h t m items → mount_of h m ≡ Some x → recalls_in (item_jobs items) ≡ files_in items
batch_recalls site h t m x items reads batch is =
    all_recalls items (subst (λ (xs : List Item). AllOf (OfJob IsRecall) xs) (sym (batch_made site h t m x items reads batch is))
    (batch_all IsRecall site h (moment_of h t) direction.Retrieve x.tape
    (λ key. all_mono (λ (j : Job). is_queued site h direction.Retrieve key j ≡ true) IsRecall (queue_of site h direction.Retrieve key) (λ j queued. queued_recall site h key j queued) (all_pass (is_queued site h direction.Retrieve key) _))))

-- ---- what is evicted

-- a list that was empty has what is evicted
pub evicted_all : (v : Held) (t u n k : ℕ) (old new : List ℕ) → new ≡ old ++ evicted_for v t n → old ≡ [] → t ≡ u → n ≡ k → new ≡ evicted_for v u k
evicted_all v t u n k old new added none at size = added ∙ ap (λ (fs : List ℕ). fs ++ evicted_for v t n) none ∙ ap (λ (s : ℕ). evicted_for v s n) at ∙ ap (λ (s : ℕ). evicted_for v u s) size
