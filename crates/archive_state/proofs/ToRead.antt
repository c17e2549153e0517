-- The batch of a mount that reads, told by the parts.
use Rattle.std.proofs.Common.{◌≡◌, ◌∙◌, ℕ, zero, suc, ◌+◌, ◌-◌, ◌^◌, ◌≤◌, ◌<◌, List, [], ◌∷◌, Bool, true, false, not, refl, sym, ap, subst, arith, length}
use Rattle.std.specs.Prelude.{Some, Result, Ok, Err, IfOk, if◌then◌else◌, map, nat_le}
use Rattle.std.proofs.lemmas.Bool.{and_parts}
use Rattle.cta_site.specs.declared.site.Site.{Site}
use Rattle.cta_site.specs.Listed.{Listed}
use Rattle.cta_site.specs.Lookups.{copies_of}
use Rattle.cta_site.specs.WellFormed.{IsWellFormed}
use Rattle.cta_model.specs.declared.answers.Answer.{Answer}
use Rattle.cta_model.specs.declared.answers.Answer.TheVariants as answer
use Rattle.cta_model.specs.declared.answers.Refusal.TheVariants as refusal
use Rattle.cta_model.specs.declared.asks.Direction.{Direction}
use Rattle.cta_model.specs.declared.asks.Direction.TheVariants as direction
use Rattle.cta_model.specs.declared.asks.Item.{Item}
use Rattle.cta_model.specs.declared.asks.Job.{Job}
use Rattle.cta_model.specs.declared.states.Mount.{Mount}
use Rattle.cta_model.specs.Answers.{batch_answer, claim_answer, claim_by, refuse}
use Rattle.cta_model.specs.Batches.{batch_by, batch_of}
use Rattle.cta_model.specs.Files.{path_of, sum_of}
use Rattle.cta_model.specs.History.{History, entry_of, moment_of}
use Rattle.cta_model.specs.Legal.{IsLegal, IsMountOf, greatest_moment}
use Rattle.cta_model.specs.Mounts.{mount_of}
use Rattle.cta_model.specs.Queues.{is_queued, queue_of}
use Rattle.cta_model.specs.Space.{evictable_size, free_space}
use Rattle.cta_model.specs.Tapes.{size_of_items}
use Rattle.cta_laws.specs.Jobs.{JobFileHasPut}
use Rattle.cta_laws.specs.Space.{BufferHasRoom}
use Rattle.cta_laws.proofs.BufferLaw.{read_fits}
use Rattle.cta_laws.proofs.Claims.{AllOf, all_mono, all_pass}
use Rattle.cta_laws.proofs.KeyLaw.{same_mount}
use Rattle.kept_history.specs.Puts.{is_put}
use Rattle.part_answers.specs.Taken.{HavePuts}
use Rattle.part_model.specs.declared.jobs.Line.{Line}
use Rattle.part_model.specs.declared.mounts.OpenMount.{OpenMount}
use Rattle.part_model.specs.Held.{Held, bytes_of, evictable_in, free_in}
use Rattle.part_model.specs.Mounts.{row_of}
use Rattle.part_model.specs.Queues.{Queues, lines_in}
use Rattle.part_laws.specs.Lines.{line_of}
use Rattle.part_laws.specs.Mounts.{IsRow}
use Rattle.part_laws.specs.Batches.{batch_told, claim_with, read_told, taken_lines}
use Rattle.part_laws.specs.Batches.{batch_by as batch_told_by}
use Rattle.part_laws.specs.Files.{files_of, fseq_told}
use Rattle.part_laws.proofs.BatchTold.{claim_is}
use Rattle.archive_parts.specs.PartsKept.{ArePartsKept, values_of}
use Rattle.archive_parts.specs.declared.parts.ArchiveParts.{ArchiveParts}
use Rattle.archive_state.proofs.Batched.{live_put, made_of}
use Rattle.archive_state.proofs.Claimed.{row_opens}
use Rattle.archive_state.proofs.Now.{buffer_now, now_late, room_low}
use Rattle.part_laws.specs.SpaceLaws.{Tells}
use Rattle.drive_asks.proofs.ReadFacts.{now_low}

-- a mount that reads is this one
row_reads : (site : Site) (h : History) (m : ℕ) (r : OpenMount) → IsRow site h m r → IsMountOf direction.Retrieve (mount_of h m) → r.direction ≡ direction.Retrieve
row_reads site h m r row reads = subst (IsMountOf direction.Retrieve) row.mount reads

-- ---- the batch

made_read : (site : Site) (h : History) (t : ℕ) (items : List Item) → made_of (batch_answer site h t direction.Retrieve items) ≡ items
unfolding made_of
made_read site h t [] = refl
made_read site h t (i ∷ items) = refl

made_told : (b : Held) (t : ℕ) (items : List Item) → made_of (batch_told b t direction.Retrieve items) ≡ items
unfolding made_of
made_told b t [] = refl
made_told b t (i ∷ items) = refl

-- the batch by the parts
read_told_is : (site : Site) (h : History) (p : ArchiveParts) (t m : ℕ) (r : OpenMount) → IsLegal site h → ArePartsKept site h p → t ≤ greatest_moment → row_of m p.mounts.value.rows ≡ Some r → IsMountOf direction.Retrieve (mount_of h m)
    → batch_told_by site (values_of p) (files_of h) (moment_of h t) r direction.Retrieve ≡ batch_by site h (moment_of h t) direction.Retrieve r.tape
read_told_is site h p t m r legal kept top found reads =
    let row = row_opens site h p m r kept found in
    let way : r.direction ≡ direction.Retrieve = row_reads site h m r row.1 reads in
    let told : claim_answer site h (moment_of h t) m ≡ claim_with site (values_of p) (files_of h) (moment_of h t) (row_of m p.mounts.value.rows) =
    claim_is site h (values_of p) (moment_of h t) legal kept.stand (now_late h t) (now_low site h t legal top) m in
    let asked : claim_answer site h (moment_of h t) m ≡ batch_answer site h (moment_of h t) r.direction (batch_by site h (moment_of h t) r.direction r.tape) =
    ap (λ (b : Bool). refuse refusal.Unknown (not b) (claim_by site h (moment_of h t) (mount_of h m))) row.0 ∙ ap (claim_by site h (moment_of h t)) row.1.mount in
    let both : batch_told p.buffer.held.value (moment_of h t) r.direction (batch_told_by site (values_of p) (files_of h) (moment_of h t) r r.direction) ≡ batch_answer site h (moment_of h t) r.direction (batch_by site h (moment_of h t) r.direction r.tape) =
    sym (ap (claim_with site (values_of p) (files_of h) (moment_of h t)) found) ∙ sym told ∙ asked in
    let read : batch_told p.buffer.held.value (moment_of h t) direction.Retrieve (batch_told_by site (values_of p) (files_of h) (moment_of h t) r direction.Retrieve) ≡ batch_answer site h (moment_of h t) direction.Retrieve (batch_by site h (moment_of h t) direction.Retrieve r.tape) =
    subst (λ (w : Direction). batch_told p.buffer.held.value (moment_of h t) w (batch_told_by site (values_of p) (files_of h) (moment_of h t) r w) ≡ batch_answer site h (moment_of h t) w (batch_by site h (moment_of h t) w r.tape)) way both in
    sym (made_told p.buffer.held.value (moment_of h t) (batch_told_by site (values_of p) (files_of h) (moment_of h t) r direction.Retrieve)) ∙ ap made_of read
    ∙ made_read site h (moment_of h t) (batch_by site h (moment_of h t) direction.Retrieve r.tape)

-- what is read of the jobs that are taken
pub read_batch_is : (site : Site) (h : History) (p : ArchiveParts) (t m now : ℕ) (r : OpenMount) (count room : ℕ) (jobs : List Job) → IsLegal site h → ArePartsKept site h p → t ≤ greatest_moment → row_of m p.mounts.value.rows ≡ Some r → IsMountOf direction.Retrieve (mount_of h m)
    → now ≡ moment_of h t → count ≡ site.limits.batch_files → room ≡ free_in p.buffer.held.value + bytes_of (evictable_in p.buffer.held.value now) → jobs ≡ taken_lines count room (lines_in p.recalls.value r.key)
    → read_told (sum_of h) (λ f. fseq_told p.tapes.value r.tape f (copies_of site (path_of h f))) jobs ≡ batch_by site h (moment_of h t) direction.Retrieve r.tape
read_batch_is site h p t m now r count room jobs legal kept top found reads at limit rest taken =
    ap (read_told (sum_of h) (λ f. fseq_told p.tapes.value r.tape f (copies_of site (path_of h f))))
    (taken ∙ ap (λ (n : ℕ). taken_lines n room (lines_in p.recalls.value r.key)) limit ∙ ap (λ (n : ℕ). taken_lines site.limits.batch_files n (lines_in p.recalls.value r.key)) rest
    ∙ ap (λ (n : ℕ). taken_lines site.limits.batch_files (free_in p.buffer.held.value + bytes_of (evictable_in p.buffer.held.value n)) (lines_in p.recalls.value r.key)) at)
    ∙ read_told_is site h p t m r legal kept top found reads

lines_beyond : (queues : Queues) (key : ℕ) → length queues ≤ key → lines_in queues key ≡ []
lines_beyond [] key high = refl
lines_beyond (ls ∷ queues) zero high = absurd (omega (arith, high))
lines_beyond (ls ∷ queues) (suc key) high = lines_beyond queues key (omega (arith, high))

-- beyond the tapes of the site nothing waits
pub nothing_beyond : (site : Site) (h : History) (p : ArchiveParts) (t m : ℕ) (r : OpenMount) → IsLegal site h → ArePartsKept site h p → t ≤ greatest_moment → row_of m p.mounts.value.rows ≡ Some r → IsMountOf direction.Retrieve (mount_of h m)
    → length site.tapes.items ≤ r.key → [] ≡ batch_by site h (moment_of h t) direction.Retrieve r.tape
nothing_beyond site h p t m r legal kept top found reads high =
    let all : length p.recalls.value ≡ length site.tapes.items = kept.fit.recalls in
    let none : lines_in p.recalls.value r.key ≡ [] = lines_beyond p.recalls.value r.key (omega (arith, all, high)) in
    sym (ap (λ (ls : List Line). read_told (sum_of h) (λ f. fseq_told p.tapes.value r.tape f (copies_of site (path_of h f))) (taken_lines site.limits.batch_files (free_in p.buffer.held.value + bytes_of (evictable_in p.buffer.held.value (moment_of h t))) ls)) none)
    ∙ read_told_is site h p t m r legal kept top found reads

-- ---- the Puts of its files

lines_put : (site : Site) (h : History) (q : List Job) (n room : ℕ) → AllOf (λ (j : Job). is_put (entry_of h j.file) ≡ true) q → HavePuts h (taken_lines n room (map (line_of site h direction.Retrieve) q))
lines_put site h [] n room all = tt
lines_put site h (j ∷ q) zero room all = tt
lines_put site h (j ∷ q) (suc n) room all =
    by (nat_le (line_of site h direction.Retrieve j).len room) (lines_put site h q n (room - (line_of site h direction.Retrieve j).len) all.1) (lines_put site h q (suc n) room all.1)
  where
    by : (b : Bool) → HavePuts h (taken_lines n (room - (line_of site h direction.Retrieve j).len) (map (line_of site h direction.Retrieve) q)) → HavePuts h (taken_lines (suc n) room (map (line_of site h direction.Retrieve) q))
        → HavePuts h (if b then j ∷ taken_lines n (room - (line_of site h direction.Retrieve j).len) (map (line_of site h direction.Retrieve) q) else taken_lines (suc n) room (map (line_of site h direction.Retrieve) q))
    by true taken passed = (all.0, taken)
    by false taken passed = passed

pub read_puts : JobFileHasPut → (site : Site) (h : History) (p : ArchiveParts) (key count room : ℕ) (jobs : List Job) → IsLegal site h → ArePartsKept site h p → jobs ≡ taken_lines count room (lines_in p.recalls.value key) → HavePuts h jobs
read_puts law site h p key count room jobs legal kept taken =
    subst (HavePuts h) (sym (taken ∙ ap (taken_lines count room) (kept.stand.jobs.recalls key)))
    (lines_put site h (queue_of site h direction.Retrieve key) count room
    (all_mono (λ (j : Job). is_queued site h direction.Retrieve key j ≡ true) (λ j. is_put (entry_of h j.file) ≡ true) (queue_of site h direction.Retrieve key)
    (λ j queued. live_put law site h legal j (and_parts _ _ queued).0) (all_pass (is_queued site h direction.Retrieve key) _)))

-- ---- the answer

pub read_answered : {E : Type 0} (site : Site) (h : History) (t m : ℕ) (r : OpenMount) (q : Result (Listed Item) E) (made : List Item) → IsRow site h m r → IsMountOf direction.Retrieve (mount_of h m)
    → IfOk q (λ items. items.items ≡ made) → made ≡ batch_by site h (moment_of h t) direction.Retrieve r.tape → IfOk q (λ items. (x : Mount) → mount_of h m ≡ Some x → items.items ≡ batch_of site h (moment_of h t) x)
read_answered site h t m r (Err e) made row reads is batch = tt
read_answered site h t m r (Ok items) made row reads is batch = λ x found.
    (let same : record { drive = r.drive; direction = r.direction; tape = r.tape } ≡ x = same_mount (record { drive = r.drive; direction = r.direction; tape = r.tape }) x (sym row.mount ∙ found) in
    is ∙ batch ∙ ap (λ (w : Direction). batch_by site h (moment_of h t) w r.tape) (sym (row_reads site h m r row reads)) ∙ ap (batch_of site h (moment_of h t)) same)

-- ---- the bytes

below : (size free more a b most : ℕ) → size ≤ free + more → a ≡ free → b ≡ more → a + b < most → size < most
below size free more a b most fits free_is more_is low = omega arith

-- the bytes of a batch are a number of 64 bits
pub read_size : {E : Type 0} → BufferHasRoom → (site : Site) (h : History) (p : ArchiveParts) (t v : ℕ) (q : Result (Listed Item) E) (made : List Item) → IsWellFormed site → IsLegal site h → ArePartsKept site h p → t ≤ greatest_moment
    → IfOk q (λ items. items.items ≡ made) → made ≡ batch_by site h (moment_of h t) direction.Retrieve v → IfOk q (λ items. size_of_items items.items < 2 ^ 64)
read_size law site h p t v (Err e) made well legal kept top is batch = tt
read_size law site h p t v (Ok items) made well legal kept top is batch =
    let tells : Tells site h p.buffer.held.value (moment_of h t) = buffer_now site h p t legal kept top in
    subst (λ (xs : List Item). size_of_items xs < 2 ^ 64) (sym (is ∙ batch))
    (below (size_of_items (batch_by site h (moment_of h t) direction.Retrieve v)) (free_space site h) (evictable_size site h (moment_of h t)) (free_in p.buffer.held.value) (bytes_of (evictable_in p.buffer.held.value (moment_of h t))) (2 ^ 64)
    (read_fits site h (moment_of h t) v) tells.free tells.evictable (room_low law site h p (moment_of h t) well legal kept))
