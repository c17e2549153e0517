use Rattle.std.proofs.Common.{◌≡◌, ◌∙◌, ◌+◌, ◌<◌, ◌≤◌, ◌^◌, ◌∷◌, ℕ, List, true, arith, length, ap, subst, sym, refl}
use Rattle.std.specs.Prelude.{filter}
use Rattle.std.specs.List.{range_with_len}
use Rattle.cta_site.specs.declared.site.Site.{Site}
use Rattle.cta_site.specs.ValidSite.{IsValidSite}
use Rattle.cta_site.specs.WellFormed.{IsWellFormed}
use Rattle.blob.specs.declared.sum.Sum256.{Sum256}
use Rattle.cta_model.specs.declared.answers.Answer.TheVariants as answer
use Rattle.cta_model.specs.declared.asks.Ask.TheVariants as ask
use Rattle.cta_model.specs.declared.asks.Fate.TheVariants as fate
use Rattle.cta_model.specs.Files.{copies_of_file, size_of}
use Rattle.cta_model.specs.History.{History, entry_of}
use Rattle.cta_model.specs.Jobs.{is_live_job}
use Rattle.cta_model.specs.Legal.{IsLegal, new_entry}
use Rattle.cta_model.specs.Recalls.{live_recall}
use Rattle.cta_model.specs.RepackItems.{is_repacked, waiting_for}
use Rattle.kept_history.specs.Puts.{is_put}
use Rattle.part_model.specs.Queues.{lines_in}
use Rattle.repack_book.specs.NamedRepacks.{repacks_of}
use Rattle.archive_parts.specs.Called.{AreKeptCalled}
use Rattle.archive_parts.specs.PartsKept.{ArePartsKept}
use Rattle.drive_asks.specs.Reading.{CanQueue, is_read_by}
use Rattle.archive_parts.proofs.Behind.{can_over, carried_behind, few_entries, not_carried}
use Rattle.drive_asks.proofs.DoneFacts.{done_bytes, done_lacks, done_legal, done_put, done_queues, done_small, held_low, waiting_low}
use Rattle.drive_asks.proofs.DoneReads.{done_entry}
use Rattle.drive_asks.proofs.ReadCopies.{copies_are, few_read}
use Rattle.part_moves.proofs.MountRows.{row_there}
use Rattle.drive_asks.proofs.RecallFacts.{IsRead, held_aside, read_done_is, read_opened}
use Rattle.part_moves.proofs.WaitLists.{waiting_fits}
use Rattle.drive_asks.proofs.done.read_done.Goals as goal
use Rattle.part_moves.proofs.Charged.{lives_is}

pub find_waited-requires : goal.find_waited-requires
find_waited-requires c =
    let site : Site = c.args.site.now in
    let h : History = c.args.history.now.value in
    let f : IsRead site h c.args.at c.args.mount c.args.job = record { legal = c.requires.carrying.legal; within = c.requires.carrying.at; fit = c.requires.carrying.fit; accepted = c.requires.carrying.accepted } in
    let live : is_live_job site h c.args.job ≡ true = sym (lives_is site h c.args.parts.now.book.value c.args.job c.requires.carrying.kept.stand.jobs.book) ∙ c.requires.live in
    let legal : IsLegal site (done_entry h c.args.at c.args.mount c.args.job ∷ h) = done_legal site h c.args.at c.args.mount c.args.job f live in
    let well : IsWellFormed site = subst IsWellFormed c.site-rules.ensures c.keeps_rules.ensures.parts in
    waiting_fits site h c.args.job.file _ c.subscribers_wait.ensures c.stays_short.ensures c.requires.carrying.legal well (c.requires.carrying.kept.stand.jobs.book.recall c.args.job.file)

pub needs_of-needs-requires-clause-ids : goal.needs_of-needs-requires-clause-ids
needs_of-needs-requires-clause-ids c =
    let site : Site = c.args.site.now in
    let h : History = c.args.history.now.value in
    let f : IsRead site h c.args.at c.args.mount c.args.job = record { legal = c.requires.carrying.legal; within = c.requires.carrying.at; fit = c.requires.carrying.fit; accepted = c.requires.carrying.accepted } in
    let live : is_live_job site h c.args.job ≡ true = sym (lives_is site h c.args.parts.now.book.value c.args.job c.requires.carrying.kept.stand.jobs.book) ∙ c.requires.live in
    let legal : IsLegal site (done_entry h c.args.at c.args.mount c.args.job ∷ h) = done_legal site h c.args.at c.args.mount c.args.job f live in
    let well : IsWellFormed site = subst IsWellFormed c.site-rules.ensures c.keeps_rules.ensures.parts in
    subst (λ (ns : List ℕ). length ns ≤ 2000000) (sym c.in-Ok.ensures.ids) (waiting_low site h c.args.job.file _ c.subscribers_wait.ensures c.stays_short.ensures c.requires.carrying.legal well (c.requires.carrying.kept.stand.jobs.book.recall c.args.job.file))

pub needs_of-needs-requires-clause-born : goal.needs_of-needs-requires-clause-born
needs_of-needs-requires-clause-born c =
    let most : length (filter (is_read_by (repacks_of c.args.parts.now.repacks) c.in-Ok.found.ids.items c.args.job.file) (range_with_len 1 c.in-Ok.found.copies)) ≤ c.in-Ok.found.copies =
    few_read (is_read_by (repacks_of c.args.parts.now.repacks) c.in-Ok.found.ids.items c.args.job.file) c.in-Ok.found.copies 1 in
    let same : length c.in-Ok.found.born.items ≡ length (filter (is_read_by (repacks_of c.args.parts.now.repacks) c.in-Ok.found.ids.items c.args.job.file) (range_with_len 1 c.in-Ok.found.copies)) = ap (λ (cs : List ℕ). length cs) c.in-Ok.ensures.born in
    let top : c.in-Ok.found.copies ≤ 4 = c.in-Ok.ensures.few in
    let born : length c.in-Ok.found.born.items ≤ 4 = omega (arith, most, same, top) in
    born

pub returns-in-Err-make_room-clause-carried : goal.returns-in-Err-make_room-clause-carried
returns-in-Err-make_room-clause-carried c =
    not_carried c.args.site.now c.args.history.now.value c.make_room.new.history.value c.args.at (ask.Recalled c.args.mount c.args.job) _ _ c.in-Err-make_room.ensures.entries
    (c.same_parts_are_kept.ensures c.args.site.now c.args.history.now.value c.args.parts.now c.make_room.new.self c.in-Err-make_room.ensures.same c.requires.carrying.kept)

pub mount_at-mounted-requires : goal.mount_at-mounted-requires
mount_at-mounted-requires c =
    let site : Site = c.args.site.now in
    let h : History = c.args.history.now.value in
    let f : IsRead site h c.args.at c.args.mount c.args.job = record { legal = c.requires.carrying.legal; within = c.requires.carrying.at; fit = c.requires.carrying.fit; accepted = c.requires.carrying.accepted } in
    let live : is_live_job site h c.args.job ≡ true = sym (lives_is site h c.args.parts.now.book.value c.args.job c.requires.carrying.kept.stand.jobs.book) ∙ c.requires.live in
    let legal : IsLegal site (done_entry h c.args.at c.args.mount c.args.job ∷ h) = done_legal site h c.args.at c.args.mount c.args.job f live in
    let well : IsWellFormed site = subst IsWellFormed c.site-rules.ensures c.keeps_rules.ensures.parts in
    let kept : ArePartsKept site h c.make_room.new.self = c.same_parts_are_kept.ensures site h c.args.parts.now c.make_room.new.self c.in_default.ensures.same c.requires.carrying.kept in
    row_there site h c.make_room.new.self.mounts.value.rows c.args.mount kept.stand.mounts (read_opened site h c.args.at c.args.mount c.args.job f)

pub append-requires-clause-few : goal.append-requires-clause-few
append-requires-clause-few c =
    let site : Site = c.args.site.now in
    let h : History = c.args.history.now.value in
    let f : IsRead site h c.args.at c.args.mount c.args.job = record { legal = c.requires.carrying.legal; within = c.requires.carrying.at; fit = c.requires.carrying.fit; accepted = c.requires.carrying.accepted } in
    let live : is_live_job site h c.args.job ≡ true = sym (lives_is site h c.args.parts.now.book.value c.args.job c.requires.carrying.kept.stand.jobs.book) ∙ c.requires.live in
    let legal : IsLegal site (done_entry h c.args.at c.args.mount c.args.job ∷ h) = done_legal site h c.args.at c.args.mount c.args.job f live in
    let well : IsWellFormed site = subst IsWellFormed c.site-rules.ensures c.keeps_rules.ensures.parts in
    subst (λ (g : History). length g + 2 < 2 ^ 32) (sym c.in_default.ensures.entries) (few_entries site h c.stays_short.ensures well c.requires.carrying.legal)

pub settle_read-requires-clause-aside : goal.settle_read-requires-clause-aside
settle_read-requires-clause-aside c =
    let site : Site = c.args.site.now in
    let h : History = c.args.history.now.value in
    let f : IsRead site h c.args.at c.args.mount c.args.job = record { legal = c.requires.carrying.legal; within = c.requires.carrying.at; fit = c.requires.carrying.fit; accepted = c.requires.carrying.accepted } in
    let live : is_live_job site h c.args.job ≡ true = sym (lives_is site h c.args.parts.now.book.value c.args.job c.requires.carrying.kept.stand.jobs.book) ∙ c.requires.live in
    let legal : IsLegal site (done_entry h c.args.at c.args.mount c.args.job ∷ h) = done_legal site h c.args.at c.args.mount c.args.job f live in
    let well : IsWellFormed site = subst IsWellFormed c.site-rules.ensures c.keeps_rules.ensures.parts in
    let kept : ArePartsKept site h c.make_room.new.self = c.same_parts_are_kept.ensures site h c.args.parts.now c.make_room.new.self c.in_default.ensures.same c.requires.carrying.kept in
    held_aside c.claimed_bytes_move.ensures site h c.args.at c.args.mount (length c.args.blob.value) c.args.job c.make_room.new.self f kept (ap (λ (s : Sum256). s.len) c.requires.content)

pub settle_read-requires-clause-lacks : goal.settle_read-requires-clause-lacks
settle_read-requires-clause-lacks c =
    let site : Site = c.args.site.now in
    let h : History = c.args.history.now.value in
    let f : IsRead site h c.args.at c.args.mount c.args.job = record { legal = c.requires.carrying.legal; within = c.requires.carrying.at; fit = c.requires.carrying.fit; accepted = c.requires.carrying.accepted } in
    let live : is_live_job site h c.args.job ≡ true = sym (lives_is site h c.args.parts.now.book.value c.args.job c.requires.carrying.kept.stand.jobs.book) ∙ c.requires.live in
    let legal : IsLegal site (done_entry h c.args.at c.args.mount c.args.job ∷ h) = done_legal site h c.args.at c.args.mount c.args.job f live in
    let well : IsWellFormed site = subst IsWellFormed c.site-rules.ensures c.keeps_rules.ensures.parts in
    let kept : ArePartsKept site h c.make_room.new.self = c.same_parts_are_kept.ensures site h c.args.parts.now c.make_room.new.self c.in_default.ensures.same c.requires.carrying.kept in
    done_lacks c.recall_is_away.ensures site h c.args.at c.args.mount c.args.job c.make_room.new.self f live kept

pub settle_read-requires-clause-fits : goal.settle_read-requires-clause-fits
settle_read-requires-clause-fits c =
    let site : Site = c.args.site.now in
    let h : History = c.args.history.now.value in
    let f : IsRead site h c.args.at c.args.mount c.args.job = record { legal = c.requires.carrying.legal; within = c.requires.carrying.at; fit = c.requires.carrying.fit; accepted = c.requires.carrying.accepted } in
    let live : is_live_job site h c.args.job ≡ true = sym (lives_is site h c.args.parts.now.book.value c.args.job c.requires.carrying.kept.stand.jobs.book) ∙ c.requires.live in
    let legal : IsLegal site (done_entry h c.args.at c.args.mount c.args.job ∷ h) = done_legal site h c.args.at c.args.mount c.args.job f live in
    let well : IsWellFormed site = subst IsWellFormed c.site-rules.ensures c.keeps_rules.ensures.parts in
    let kept : ArePartsKept site h c.make_room.new.self = c.same_parts_are_kept.ensures site h c.args.parts.now c.make_room.new.self c.in_default.ensures.same c.requires.carrying.kept in
    held_low c.buffer_has_room.ensures site h c.make_room.new.self well c.requires.carrying.legal kept

pub settle_read-requires-clause-put : goal.settle_read-requires-clause-put
settle_read-requires-clause-put c =
    let site : Site = c.args.site.now in
    let h : History = c.args.history.now.value in
    let f : IsRead site h c.args.at c.args.mount c.args.job = record { legal = c.requires.carrying.legal; within = c.requires.carrying.at; fit = c.requires.carrying.fit; accepted = c.requires.carrying.accepted } in
    let live : is_live_job site h c.args.job ≡ true = sym (lives_is site h c.args.parts.now.book.value c.args.job c.requires.carrying.kept.stand.jobs.book) ∙ c.requires.live in
    let legal : IsLegal site (done_entry h c.args.at c.args.mount c.args.job ∷ h) = done_legal site h c.args.at c.args.mount c.args.job f live in
    let well : IsWellFormed site = subst IsWellFormed c.site-rules.ensures c.keeps_rules.ensures.parts in
    let history : c.append.new.self.value ≡ done_entry h c.args.at c.args.mount c.args.job ∷ h =
    subst (λ (g : History). c.append.new.self.value ≡ new_entry g c.args.at (ask.Recalled c.args.mount c.args.job) (answer.Arrived fate.Done) ∷ g) c.in_default.ensures.entries c.append.ensures in
    subst (λ (g : History). is_put (entry_of g c.args.job.file) ≡ true) (sym history) (done_put c.job_file_has_put.ensures site h c.args.at c.args.mount c.args.job legal)

pub settle_read-requires-clause-keys : goal.settle_read-requires-clause-keys
settle_read-requires-clause-keys c =
    let site : Site = c.args.site.now in
    let h : History = c.args.history.now.value in
    let f : IsRead site h c.args.at c.args.mount c.args.job = record { legal = c.requires.carrying.legal; within = c.requires.carrying.at; fit = c.requires.carrying.fit; accepted = c.requires.carrying.accepted } in
    let live : is_live_job site h c.args.job ≡ true = sym (lives_is site h c.args.parts.now.book.value c.args.job c.requires.carrying.kept.stand.jobs.book) ∙ c.requires.live in
    let legal : IsLegal site (done_entry h c.args.at c.args.mount c.args.job ∷ h) = done_legal site h c.args.at c.args.mount c.args.job f live in
    let well : IsWellFormed site = subst IsWellFormed c.site-rules.ensures c.keeps_rules.ensures.parts in
    let kept : ArePartsKept site h c.make_room.new.self = c.same_parts_are_kept.ensures site h c.args.parts.now c.make_room.new.self c.in_default.ensures.same c.requires.carrying.kept in
    kept.fit.pools ∙ sym (ap (λ (s : Site). length s.pools.items) c.site-rules.ensures)

pub settle_read-requires-clause-jobs : goal.settle_read-requires-clause-jobs
settle_read-requires-clause-jobs c =
    let site : Site = c.args.site.now in
    let h : History = c.args.history.now.value in
    let f : IsRead site h c.args.at c.args.mount c.args.job = record { legal = c.requires.carrying.legal; within = c.requires.carrying.at; fit = c.requires.carrying.fit; accepted = c.requires.carrying.accepted } in
    let live : is_live_job site h c.args.job ≡ true = sym (lives_is site h c.args.parts.now.book.value c.args.job c.requires.carrying.kept.stand.jobs.book) ∙ c.requires.live in
    let legal : IsLegal site (done_entry h c.args.at c.args.mount c.args.job ∷ h) = done_legal site h c.args.at c.args.mount c.args.job f live in
    let well : IsWellFormed site = subst IsWellFormed c.site-rules.ensures c.keeps_rules.ensures.parts in
    let kept : ArePartsKept site h c.make_room.new.self = c.same_parts_are_kept.ensures site h c.args.parts.now c.make_room.new.self c.in_default.ensures.same c.requires.carrying.kept in
    let waits : c.in-Ok.found.ids.items ≡ waiting_for (live_recall site h c.args.job.file) = c.in-Ok.ensures.ids ∙ ap waiting_for (c.requires.carrying.kept.stand.jobs.book.recall c.args.job.file) in
    let count : c.in-Ok.found.copies ≡ copies_of_file site h c.args.job.file = c.in-Ok.ensures.copies ∙ ap (λ (s : Site). copies_of_file s h c.args.job.file) c.site-rules.ensures in
    let reads : c.in-Ok.found.born.items ≡ filter (is_repacked site h c.args.job.file) (range_with_len 1 c.in-Ok.found.copies) =
    c.in-Ok.ensures.born ∙ copies_are site h (repacks_of c.args.parts.now.repacks) c.in-Ok.found.ids.items c.args.job.file c.in-Ok.found.copies c.requires.carrying.legal c.requires.carrying.kept.stand.space.repacks waits in
    let history : c.append.new.self.value ≡ done_entry h c.args.at c.args.mount c.args.job ∷ h =
    subst (λ (g : History). c.append.new.self.value ≡ new_entry g c.args.at (ask.Recalled c.args.mount c.args.job) (answer.Arrived fate.Done) ∷ g) c.in_default.ensures.entries c.append.ensures in
    subst (λ (s : Site). CanQueue s c.append.new.self.value (lines_in c.make_room.new.self.pools.value) c.next_number-number.result c.args.job.file c.in-Ok.found.born.items) (sym c.site-rules.ensures)
    (subst (λ (g : History). CanQueue site g (lines_in c.make_room.new.self.pools.value) c.next_number-number.result c.args.job.file c.in-Ok.found.born.items) (sym history)
    (done_queues site h c.args.at c.args.mount c.next_number-number.result c.in-Ok.found.copies c.args.job c.in-Ok.found.ids.items c.in-Ok.found.born.items c.make_room.new.self legal kept c.next_number-number.ensures.number count reads))

pub settle_read-requires-clause-small : goal.settle_read-requires-clause-small
settle_read-requires-clause-small c =
    let site : Site = c.args.site.now in
    let h : History = c.args.history.now.value in
    let f : IsRead site h c.args.at c.args.mount c.args.job = record { legal = c.requires.carrying.legal; within = c.requires.carrying.at; fit = c.requires.carrying.fit; accepted = c.requires.carrying.accepted } in
    let live : is_live_job site h c.args.job ≡ true = sym (lives_is site h c.args.parts.now.book.value c.args.job c.requires.carrying.kept.stand.jobs.book) ∙ c.requires.live in
    let legal : IsLegal site (done_entry h c.args.at c.args.mount c.args.job ∷ h) = done_legal site h c.args.at c.args.mount c.args.job f live in
    let well : IsWellFormed site = subst IsWellFormed c.site-rules.ensures c.keeps_rules.ensures.parts in
    let history : c.append.new.self.value ≡ done_entry h c.args.at c.args.mount c.args.job ∷ h =
    subst (λ (g : History). c.append.new.self.value ≡ new_entry g c.args.at (ask.Recalled c.args.mount c.args.job) (answer.Arrived fate.Done) ∷ g) c.in_default.ensures.entries c.append.ensures in
    subst (λ (g : History). size_of g c.args.job.file ≤ 2147483648) (sym history) (done_small c.files_fit_buffer.ensures site h c.args.at c.args.mount c.args.job well legal)

pub settle_read-requires-clause-bytes : goal.settle_read-requires-clause-bytes
settle_read-requires-clause-bytes c =
    let site : Site = c.args.site.now in
    let h : History = c.args.history.now.value in
    let f : IsRead site h c.args.at c.args.mount c.args.job = record { legal = c.requires.carrying.legal; within = c.requires.carrying.at; fit = c.requires.carrying.fit; accepted = c.requires.carrying.accepted } in
    let live : is_live_job site h c.args.job ≡ true = sym (lives_is site h c.args.parts.now.book.value c.args.job c.requires.carrying.kept.stand.jobs.book) ∙ c.requires.live in
    let legal : IsLegal site (done_entry h c.args.at c.args.mount c.args.job ∷ h) = done_legal site h c.args.at c.args.mount c.args.job f live in
    let well : IsWellFormed site = subst IsWellFormed c.site-rules.ensures c.keeps_rules.ensures.parts in
    let kept : ArePartsKept site h c.make_room.new.self = c.same_parts_are_kept.ensures site h c.args.parts.now c.make_room.new.self c.in_default.ensures.same c.requires.carrying.kept in
    let most : length (filter (is_read_by (repacks_of c.args.parts.now.repacks) c.in-Ok.found.ids.items c.args.job.file) (range_with_len 1 c.in-Ok.found.copies)) ≤ c.in-Ok.found.copies =
    few_read (is_read_by (repacks_of c.args.parts.now.repacks) c.in-Ok.found.ids.items c.args.job.file) c.in-Ok.found.copies 1 in
    let same : length c.in-Ok.found.born.items ≡ length (filter (is_read_by (repacks_of c.args.parts.now.repacks) c.in-Ok.found.ids.items c.args.job.file) (range_with_len 1 c.in-Ok.found.copies)) = ap (λ (cs : List ℕ). length cs) c.in-Ok.ensures.born in
    let top : c.in-Ok.found.copies ≤ 4 = c.in-Ok.ensures.few in
    let born : length c.in-Ok.found.born.items ≤ 4 = omega (arith, most, same, top) in
    let valid : IsValidSite site = subst IsValidSite c.site-rules.ensures c.keeps_rules.ensures.valid in
    λ k. done_bytes c.lines_are_small.ensures site h c.make_room.new.self c.in-Ok.found.born.items k valid c.requires.carrying.legal kept born

pub returns-clause-carried : goal.returns-clause-carried
returns-clause-carried c =
    let site : Site = c.args.site.now in
    let h : History = c.args.history.now.value in
    let f : IsRead site h c.args.at c.args.mount c.args.job = record { legal = c.requires.carrying.legal; within = c.requires.carrying.at; fit = c.requires.carrying.fit; accepted = c.requires.carrying.accepted } in
    let live : is_live_job site h c.args.job ≡ true = sym (lives_is site h c.args.parts.now.book.value c.args.job c.requires.carrying.kept.stand.jobs.book) ∙ c.requires.live in
    let legal : IsLegal site (done_entry h c.args.at c.args.mount c.args.job ∷ h) = done_legal site h c.args.at c.args.mount c.args.job f live in
    let well : IsWellFormed site = subst IsWellFormed c.site-rules.ensures c.keeps_rules.ensures.parts in
    let kept : ArePartsKept site h c.make_room.new.self = c.same_parts_are_kept.ensures site h c.args.parts.now c.make_room.new.self c.in_default.ensures.same c.requires.carrying.kept in
    let waits : c.in-Ok.found.ids.items ≡ waiting_for (live_recall site h c.args.job.file) = c.in-Ok.ensures.ids ∙ ap waiting_for (c.requires.carrying.kept.stand.jobs.book.recall c.args.job.file) in
    let count : c.in-Ok.found.copies ≡ copies_of_file site h c.args.job.file = c.in-Ok.ensures.copies ∙ ap (λ (s : Site). copies_of_file s h c.args.job.file) c.site-rules.ensures in
    let reads : c.in-Ok.found.born.items ≡ filter (is_repacked site h c.args.job.file) (range_with_len 1 c.in-Ok.found.copies) =
    c.in-Ok.ensures.born ∙ copies_are site h (repacks_of c.args.parts.now.repacks) c.in-Ok.found.ids.items c.args.job.file c.in-Ok.found.copies c.requires.carrying.legal c.requires.carrying.kept.stand.space.repacks waits in
    let history : c.append.new.self.value ≡ done_entry h c.args.at c.args.mount c.args.job ∷ h =
    subst (λ (g : History). c.append.new.self.value ≡ new_entry g c.args.at (ask.Recalled c.args.mount c.args.job) (answer.Arrived fate.Done) ∷ g) c.in_default.ensures.entries c.append.ensures in
    let back : site ≡ c.site-rules.result.now = sym c.site-rules.ensures in
    let called : AreKeptCalled c.site-rules.result.now h (done_entry h c.args.at c.args.mount c.args.job) c.make_room.new.self c.settle_read.new.parts =
    c.settle_read.ensures h c.args.at c.args.mount (subst (λ (s : Site). IsLegal s (done_entry h c.args.at c.args.mount c.args.job ∷ h)) back legal) history c.moment_of-now.ensures (subst (λ (s : Site). ArePartsKept s h c.make_room.new.self) back kept)
    c.next_number-number.ensures.number c.requires.content (subst (λ (s : Site). c.in-Ok.found.copies ≡ copies_of_file s h c.args.job.file) back count) (subst (λ (s : Site). c.in-Ok.found.ids.items ≡ waiting_for (live_recall s h c.args.job.file)) back waits)
    (subst (λ (s : Site). c.in-Ok.found.born.items ≡ filter (is_repacked s h c.args.job.file) (range_with_len 1 c.in-Ok.found.copies)) back reads) in
    carried_behind site h c.append.new.self.value c.args.at (ask.Recalled c.args.mount c.args.job) (answer.Arrived fate.Done) c.make_room.new.self c.settle_read.new.parts c.kept_parts_move.ensures (can_over site h h c.args.parts.now c.make_room.new.self c.args.at (ask.Recalled c.args.mount c.args.job) c.requires.carrying kept refl)
    (read_done_is site h c.args.at c.args.mount c.args.job f live)
    (subst (λ (s : Site). AreKeptCalled s h (done_entry h c.args.at c.args.mount c.args.job) c.make_room.new.self c.settle_read.new.parts) c.site-rules.ensures called) history
