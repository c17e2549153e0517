-- The batch of a mount that writes, told by the parts.
use Rattle.std.proofs.Common.{◌≡◌, ◌∙◌, ℕ, zero, suc, ◌+◌, ◌-◌, ◌^◌, ◌<◌, ◌≤◌, List, [], ◌∷◌, Bool, true, false, not, refl, sym, ap, subst, arith, length}
use Rattle.std.specs.Prelude.{Option, Some, None, Result, Ok, Err, IfOk, is_some, if◌then◌else◌, nat_le}
use Rattle.std.specs.Prelude.{slice_get}
use Rattle.std.specs.List.{AllByRecursion}
use Rattle.std.proofs.lemmas.Bool.{and_parts}
use Rattle.cta_site.specs.declared.site.Site.{Site}
use Rattle.cta_site.specs.declared.site.Tape.{Tape}
use Rattle.cta_site.specs.declared.site.TapePool.{TapePool}
use Rattle.cta_site.specs.Listed.{Listed}
use Rattle.cta_site.specs.Lookups.{capacity_of, pool_of_tape, pool_holding}
use Rattle.cta_site.specs.WellFormed.{HasPool, IsWellFormed}
use Rattle.cta_site.proofs.Known.{index_low}
use Rattle.cta_model.specs.declared.answers.Answer.{Answer}
use Rattle.cta_model.specs.declared.answers.Answer.TheVariants as answer
use Rattle.cta_model.specs.declared.answers.Refusal.TheVariants as refusal
use Rattle.cta_model.specs.declared.asks.Ask.{Ask}
use Rattle.cta_model.specs.declared.asks.Ask.TheVariants as ask
use Rattle.cta_model.specs.declared.asks.Direction.{Direction}
use Rattle.cta_model.specs.declared.asks.Direction.TheVariants as direction
use Rattle.cta_model.specs.declared.asks.Item.{Item}
use Rattle.cta_model.specs.declared.asks.Job.{Job}
use Rattle.cta_model.specs.declared.entries.Entry.{Entry}
use Rattle.cta_model.specs.declared.states.Mount.{Mount}
use Rattle.cta_model.specs.Answers.{batch_answer, claim_answer, claim_by, refuse}
use Rattle.cta_model.specs.Batches.{batch_by, batch_of, written_items}
use Rattle.cta_model.specs.Choice.{key_of_mount}
use Rattle.cta_model.specs.Files.{path_of, sum_of}
use Rattle.cta_model.specs.Buffer.{is_resident}
use Rattle.cta_model.specs.History.{History, entry_of, is_number, moment_of}
use Rattle.cta_model.specs.Jobs.{archive_birth, is_live_job, live_birth}
use Rattle.cta_model.specs.Legal.{IsLegal, IsMountOf, greatest_moment}
use Rattle.cta_model.specs.Mounts.{mount_of, same_direction}
use Rattle.cta_model.specs.Queues.{is_queued, queue_of, way_by}
use Rattle.cta_model.specs.Tapes.{next_fseq, used_bytes}
use Rattle.cta_laws.specs.Jobs.{ArchiveIsResident, HasPut, IsPutOf, JobFileHasPut}
use Rattle.cta_laws.specs.Lengths.{FseqsAreLow}
use Rattle.cta_laws.specs.Space.{TapesHaveRoom}
use Rattle.cta_laws.proofs.Claims.{AllOf, OfJob, all_mono, all_pass, batch_all}
use Rattle.cta_laws.proofs.KeyLaw.{OpenIsGood, open_good, same_mount, way_of}
use Rattle.part_laws.specs.Contents.{content_of}
use Rattle.kept_history.specs.Puts.{is_put, puts_file}
use Rattle.part_answers.specs.Taken.{HavePuts}
use Rattle.part_model.specs.declared.jobs.Line.{Line}
use Rattle.part_model.specs.declared.mounts.OpenMount.{OpenMount}
use Rattle.part_model.specs.declared.space.TapeRow.{TapeRow}
use Rattle.part_model.specs.Held.{Held}
use Rattle.part_model.specs.Mounts.{row_of}
use Rattle.part_model.specs.Queues.{lines_in}
use Rattle.part_model.specs.Tapes.{row_in}
use Rattle.part_laws.specs.Mounts.{IsRow}
use Rattle.part_laws.specs.Batches.{batch_told, claim_with, taken_lines, written_told}
use Rattle.part_laws.specs.Batches.{batch_by as batch_told_by}
use Rattle.part_laws.specs.Files.{files_of}
use Rattle.part_laws.proofs.BatchTold.{claim_is, written_is}
use Rattle.archive_parts.specs.PartsKept.{ArePartsKept, values_of}
use Rattle.archive_parts.specs.declared.parts.ArchiveParts.{ArchiveParts}
use Rattle.archive_state.specs.Contents.{AreInBuffer}
use Rattle.archive_state.proofs.Claimed.{row_opens}
use Rattle.archive_state.proofs.Now.{now_late}
use Rattle.drive_asks.proofs.ReadFacts.{now_low}
use Rattle.part_moves.proofs.Charged.{asked_put}

-- ---- the mount

-- a mount that writes is this one
row_writes : (site : Site) (h : History) (m : ℕ) (r : OpenMount) → IsRow site h m r → IsMountOf direction.Archive (mount_of h m) → r.direction ≡ direction.Archive
row_writes site h m r row writes = way_of (mount_of h m) (record { drive = r.drive; direction = r.direction; tape = r.tape }) row.mount writes

-- its tape is one of the site
row_tape : (site : Site) (h : History) (p : ArchiveParts) (m : ℕ) (r : OpenMount) → IsLegal site h → ArePartsKept site h p → row_of m p.mounts.value.rows ≡ Some r → IsMountOf direction.Archive (mount_of h m) → r.tape < length site.tapes.items
row_tape site h p m r legal kept found writes =
    let row = row_opens site h p m r kept found in
    let good : OpenIsGood site h m = open_good site h legal m row.0 in
    let same : good.0 ≡ record { drive = r.drive; direction = r.direction; tape = r.tape } = same_mount good.0 (record { drive = r.drive; direction = r.direction; tape = r.tape }) (sym good.1 ∙ row.1.mount) in
    let there : good.0.tape < length site.tapes.items = good.2.1 (way_of (mount_of h m) good.0 good.1 writes) in
    subst (λ (n : ℕ). n < length site.tapes.items) (ap (λ (x : Mount). x.tape) same) there

-- ---- the pool of its tape

pool_by : (site : Site) (ts : List Tape) (v : ℕ) → AllByRecursion (λ (t : Tape). HasPool site t.pool) ts → v < length ts → pool_holding site (slice_get ts v) < length site.pools.items
pool_by site [] v all low = absurd (omega (arith, low))
pool_by site (t ∷ ts) zero all low = index_low (λ (x : TapePool). x.name) site.pools.items t.pool all.0
pool_by site (t ∷ ts) (suc v) all low = pool_by site ts v all.1 (omega (arith, low))

pub row_key : (site : Site) (h : History) (p : ArchiveParts) (m : ℕ) (r : OpenMount) → IsWellFormed site → IsLegal site h → ArePartsKept site h p → row_of m p.mounts.value.rows ≡ Some r → IsMountOf direction.Archive (mount_of h m) → r.key < length p.pools.value
row_key site h p m r well legal kept found writes =
    let row = row_opens site h p m r kept found in
    let tape : r.tape < length site.tapes.items = row_tape site h p m r legal kept found writes in
    let low : pool_of_tape site r.tape < length site.pools.items = pool_by site site.tapes.items r.tape well.known.tape_pools tape in
    let pool : r.key ≡ pool_of_tape site r.tape = row.1.key ∙ ap (λ (w : Direction). key_of_mount site w r.tape) (row_writes site h m r row.1 writes) in
    rw pool (subst (λ (n : ℕ). pool_of_tape site r.tape < n) (sym kept.fit.pools) low)

-- ---- the tape's row

pub tape_room : TapesHaveRoom → (site : Site) (h : History) (p : ArchiveParts) (m : ℕ) (r : OpenMount) (x : TapeRow) (capacity : ℕ) → IsLegal site h → ArePartsKept site h p → row_of m p.mounts.value.rows ≡ Some r → IsMountOf direction.Archive (mount_of h m)
    → x ≡ row_in p.tapes.value r.tape → capacity ≡ capacity_of site r.tape → x.used ≤ capacity
tape_room law site h p m r x capacity legal kept found writes is cap =
    let tape : r.tape < length site.tapes.items = row_tape site h p m r legal kept found writes in
    let used : x.used ≡ used_bytes h r.tape = ap (λ (y : TapeRow). y.used) (is ∙ kept.stand.space.tapes.rows r.tape tape) in
    let room : used_bytes h r.tape ≤ capacity_of site r.tape = law site h legal r.tape in
    within x.used (used_bytes h r.tape) capacity (capacity_of site r.tape) used cap room
  where
    within : (a b c d : ℕ) → a ≡ b → c ≡ d → b ≤ d → a ≤ c
    within a b c d e f g = omega arith

taken_few : (count room : ℕ) (ls : List Line) → length (taken_lines count room ls) ≤ count
taken_few count room [] = omega arith
taken_few zero room (l ∷ ls) = omega arith
taken_few (suc n) room (l ∷ ls) =
    elim (nat_le l.len room) as (λ b. length (if b then l.job ∷ taken_lines n (room - l.len) ls else taken_lines (suc n) room ls) ≤ suc n) [
      | true ↦ omega (arith, taken_few n (room - l.len) ls)
      | false ↦ taken_few (suc n) room ls
    ]

-- its next fSeqs are numbers of 32 bits
pub fseqs_low : FseqsAreLow → (site : Site) (h : History) (p : ArchiveParts) (m : ℕ) (r : OpenMount) (x : TapeRow) (count room : ℕ) (jobs : List Job) (ls : List Line) → IsWellFormed site → IsLegal site h → ArePartsKept site h p → row_of m p.mounts.value.rows ≡ Some r → IsMountOf direction.Archive (mount_of h m)
    → x ≡ row_in p.tapes.value r.tape → count ≡ site.limits.batch_files → jobs ≡ taken_lines count room ls → x.next + length jobs < 2 ^ 32
fseqs_low law site h p m r x count room jobs ls well legal kept found writes is limit taken =
    let tape : r.tape < length site.tapes.items = row_tape site h p m r legal kept found writes in
    let next : x.next ≡ next_fseq h r.tape = ap (λ (y : TapeRow). y.next) (is ∙ kept.stand.space.tapes.rows r.tape tape) in
    let low : next_fseq h r.tape ≤ site.limits.history + 1 = law site h legal r.tape in
    let few : length jobs ≤ count = subst (λ (js : List Job). length js ≤ count) (sym taken) (taken_few count room ls) in
    let top : site.limits.batch_files ≤ 1000 = well.limits.batch_files_to in
    let most : site.limits.history ≤ 1000000 = well.limits.history_to in
    sum_low x.next (next_fseq h r.tape) site.limits.history (length jobs) count site.limits.batch_files next low few limit top most
  where
    sum_low : (a b c n k l : ℕ) → a ≡ b → b ≤ c + 1 → n ≤ k → k ≡ l → l ≤ 1000 → c ≤ 1000000 → a + n < 2 ^ 32
    sum_low a b c n k l e f g i j o = omega arith

-- ---- the batch

unfoldable pub made_of : Answer → List Item
made_of (answer.Batch items evicted) = items.items
made_of _ = []

made_written : (site : Site) (h : History) (t : ℕ) (items : List Item) → made_of (batch_answer site h t direction.Archive items) ≡ items
unfolding made_of
made_written site h t [] = refl
made_written site h t (i ∷ items) = refl

made_told : (b : Held) (t : ℕ) (items : List Item) → made_of (batch_told b t direction.Archive items) ≡ items
unfolding made_of
made_told b t [] = refl
made_told b t (i ∷ items) = refl

-- the batch by the parts
pub batch_told_is : (site : Site) (h : History) (p : ArchiveParts) (t m : ℕ) (r : OpenMount) → IsLegal site h → ArePartsKept site h p → t ≤ greatest_moment → row_of m p.mounts.value.rows ≡ Some r → IsMountOf direction.Archive (mount_of h m)
    → batch_told_by site (values_of p) (files_of h) (moment_of h t) r direction.Archive ≡ batch_by site h (moment_of h t) direction.Archive r.tape
batch_told_is site h p t m r legal kept top found writes =
    let row = row_opens site h p m r kept found in
    let way : r.direction ≡ direction.Archive = row_writes site h m r row.1 writes in
    let told : claim_answer site h (moment_of h t) m ≡ claim_with site (values_of p) (files_of h) (moment_of h t) (row_of m p.mounts.value.rows) =
    claim_is site h (values_of p) (moment_of h t) legal kept.stand (now_late h t) (now_low site h t legal top) m in
    let asked : claim_answer site h (moment_of h t) m ≡ batch_answer site h (moment_of h t) r.direction (batch_by site h (moment_of h t) r.direction r.tape) =
    ap (λ (b : Bool). refuse refusal.Unknown (not b) (claim_by site h (moment_of h t) (mount_of h m))) row.0 ∙ ap (claim_by site h (moment_of h t)) row.1.mount in
    let both : batch_told p.buffer.held.value (moment_of h t) r.direction (batch_told_by site (values_of p) (files_of h) (moment_of h t) r r.direction) ≡ batch_answer site h (moment_of h t) r.direction (batch_by site h (moment_of h t) r.direction r.tape) =
    sym (ap (claim_with site (values_of p) (files_of h) (moment_of h t)) found) ∙ sym told ∙ asked in
    let written : batch_told p.buffer.held.value (moment_of h t) direction.Archive (batch_told_by site (values_of p) (files_of h) (moment_of h t) r direction.Archive) ≡ batch_answer site h (moment_of h t) direction.Archive (batch_by site h (moment_of h t) direction.Archive r.tape) =
    subst (λ (w : Direction). batch_told p.buffer.held.value (moment_of h t) w (batch_told_by site (values_of p) (files_of h) (moment_of h t) r w) ≡ batch_answer site h (moment_of h t) w (batch_by site h (moment_of h t) w r.tape)) way both in
    sym (made_told p.buffer.held.value (moment_of h t) (batch_told_by site (values_of p) (files_of h) (moment_of h t) r direction.Archive)) ∙ ap made_of written
    ∙ made_written site h (moment_of h t) (batch_by site h (moment_of h t) direction.Archive r.tape)

-- what is written of the jobs that are taken
pub written_batch_is : (site : Site) (h : History) (p : ArchiveParts) (t m : ℕ) (r : OpenMount) (x : TapeRow) (count room : ℕ) (jobs : List Job) → IsLegal site h → ArePartsKept site h p → t ≤ greatest_moment → row_of m p.mounts.value.rows ≡ Some r → IsMountOf direction.Archive (mount_of h m)
    → x ≡ row_in p.tapes.value r.tape → count ≡ site.limits.batch_files → room ≡ capacity_of site r.tape - x.used → jobs ≡ taken_lines count room (lines_in p.pools.value r.key)
    → written_items h x.next jobs ≡ batch_by site h (moment_of h t) direction.Archive r.tape
written_batch_is site h p t m r x count room jobs legal kept top found writes is limit rest taken =
    sym (written_is h x.next jobs)
    ∙ ap (written_told (sum_of h) x.next) (taken ∙ ap (λ (n : ℕ). taken_lines n room (lines_in p.pools.value r.key)) limit ∙ ap (λ (n : ℕ). taken_lines site.limits.batch_files n (lines_in p.pools.value r.key)) rest)
    ∙ ap (λ (y : TapeRow). written_told (sum_of h) y.next (taken_lines site.limits.batch_files (capacity_of site r.tape - y.used) (lines_in p.pools.value r.key))) is
    ∙ batch_told_is site h p t m r legal kept top found writes

-- ---- the Puts of its files

pub live_put : JobFileHasPut → (site : Site) (h : History) → IsLegal site h → (j : Job) → is_live_job site h j ≡ true → is_put (entry_of h j.file) ≡ true
live_put law site h legal j live =
    let x : HasPut h j.file (path_of h j.file) = law site h legal j live in
    ap is_put x.1 ∙ asked_put x.0 x.0.ask (path_of h j.file) refl x.2

puts_by : (h : History) (s : ℕ) (js : List Job) → AllOf (OfJob (λ j. is_put (entry_of h j.file) ≡ true)) (written_items h s js) → HavePuts h js
puts_by h s [] all = tt
puts_by h s (j ∷ js) all = (all.0, puts_by h (s + 1) js all.1)

pub have_puts : JobFileHasPut → (site : Site) (h : History) (t v s : ℕ) (js : List Job) → IsLegal site h → written_items h s js ≡ batch_by site h (moment_of h t) direction.Archive v → HavePuts h js
have_puts law site h t v s js legal is =
    puts_by h s js (subst (λ (xs : List Item). AllOf (OfJob (λ j. is_put (entry_of h j.file) ≡ true)) xs) (sym is)
    (batch_all (λ j. is_put (entry_of h j.file) ≡ true) site h (moment_of h t) direction.Archive v
    (λ key. all_mono (λ (j : Job). is_queued site h direction.Archive key j ≡ true) (λ j. is_put (entry_of h j.file) ≡ true) (queue_of site h direction.Archive key)
    (λ j queued. live_put law site h legal j (and_parts _ _ queued).0) (all_pass (is_queued site h direction.Archive key) _))))

-- ---- the answer

pub batch_answered : {E : Type 0} (site : Site) (h : History) (t m : ℕ) (r : OpenMount) (q : Result (Listed Item) E) (made : List Item) → IsRow site h m r → IsMountOf direction.Archive (mount_of h m)
    → IfOk q (λ items. items.items ≡ made) → made ≡ batch_by site h (moment_of h t) direction.Archive r.tape → IfOk q (λ items. (x : Mount) → mount_of h m ≡ Some x → items.items ≡ batch_of site h (moment_of h t) x)
batch_answered site h t m r (Err e) made row writes is batch = tt
batch_answered site h t m r (Ok items) made row writes is batch = λ x found.
    (let same : record { drive = r.drive; direction = r.direction; tape = r.tape } ≡ x = same_mount (record { drive = r.drive; direction = r.direction; tape = r.tape }) x (sym row.mount ∙ found) in
    is ∙ batch ∙ ap (λ (w : Direction). batch_by site h (moment_of h t) w r.tape) (sym (row_writes site h m r row writes)) ∙ ap (batch_of site h (moment_of h t)) same)

-- ---- the contents of its files

number_is_some : (n : ℕ) (o : Option ℕ) → is_number n o ≡ true → is_some o ≡ true
number_is_some n None e = absurd (cc)
number_is_some n (Some m) e = refl

resident_by : ArchiveIsResident → (site : Site) (h : History) → IsLegal site h → (b f c : ℕ) → is_number b (live_birth site h f c) ≡ true → same_direction direction.Archive (way_by c) ≡ true → is_resident h f ≡ true
resident_by law site h legal b f zero live way = absurd (cc)
resident_by law site h legal b f (suc c) live way = law site h legal f c (number_is_some b (archive_birth site h f (suc c)) live)

queued_resident : ArchiveIsResident → (site : Site) (h : History) → IsLegal site h → (key : ℕ) (j : Job) → is_queued site h direction.Archive key j ≡ true → is_resident h j.file ≡ true
queued_resident law site h legal key j queued =
    let parts = and_parts _ _ queued in
    resident_by law site h legal j.birth j.file j.copy parts.0 (and_parts _ _ parts.1).0

content_is : (h : History) (f : ℕ) → is_resident h f ≡ true → content_of h f ≡ Some (sum_of h f)
content_is h f here = rw here refl

held_by : (h : History) (s : ℕ) (js : List Job) → AllOf (OfJob (λ j. is_resident h j.file ≡ true)) (written_items h s js) → AreInBuffer h (written_items h s js)
held_by h s [] all = tt
held_by h s (j ∷ js) all = (content_is h j.file all.0, held_by h (s + 1) js all.1)

pub batch_held : ArchiveIsResident → {E : Type 0} (site : Site) (h : History) (t v s : ℕ) (js : List Job) (q : Result (Listed Item) E) → IsLegal site h → written_items h s js ≡ batch_by site h (moment_of h t) direction.Archive v
    → IfOk q (λ items. items.items ≡ written_items h s js) → IfOk q (λ items. AreInBuffer h items.items)
batch_held law site h t v s js (Err e) legal is made = tt
batch_held law site h t v s js (Ok items) legal is made =
    subst (AreInBuffer h) (sym made)
    (held_by h s js (subst (λ (xs : List Item). AllOf (OfJob (λ j. is_resident h j.file ≡ true)) xs) (sym is)
    (batch_all (λ j. is_resident h j.file ≡ true) site h (moment_of h t) direction.Archive v
    (λ key. all_mono (λ (j : Job). is_queued site h direction.Archive key j ≡ true) (λ j. is_resident h j.file ≡ true) (queue_of site h direction.Archive key)
    (λ j queued. queued_resident law site h legal key j queued) (all_pass (is_queued site h direction.Archive key) _)))))
