use Rattle.std.proofs.Common.{◌≡◌, ◌∙◌, ◌+◌, ◌<◌, ◌^◌, ◌∷◌, ◌++◌, ℕ, List, length, ap, arith, subst, sym, refl}
use Rattle.std.specs.Prelude.{Some}
use Rattle.cta_site.specs.declared.site.Site.{Site}
use Rattle.cta_site.specs.Listed.{Listed, rows}
use Rattle.cta_site.specs.WellFormed.{IsWellFormed}
use Rattle.cta_model.specs.declared.answers.Answer.{Answer}
use Rattle.cta_model.specs.declared.answers.Answer.TheVariants as answer
use Rattle.cta_model.specs.declared.asks.Ask.TheVariants as ask
use Rattle.cta_model.specs.declared.asks.Item.{Item}
use Rattle.cta_model.specs.declared.states.Mount.{Mount}
use Rattle.cta_model.specs.Bare.{bare_answer}
use Rattle.cta_model.specs.History.{History, moment_of}
use Rattle.cta_model.specs.Legal.{new_entry}
use Rattle.cta_model.specs.Mounts.{drive_by, item_jobs, mount_of}
use Rattle.cta_model.specs.Recalls.{live_recall}
use Rattle.cta_model.specs.Tapes.{size_of_items}
use Rattle.part_model.specs.Held.{Held, evicted_for}
use Rattle.part_model.specs.JobRows.{book_in}
use Rattle.part_laws.specs.BookCalls.{recalls_in}
use Rattle.archive_parts.specs.PartsKept.{ArePartsKept}
use Rattle.drive_asks.specs.Waiting.{files_in}
use Rattle.part_moves.specs.Waiting.{waits_for_all}
use Rattle.archive_parts.proofs.Behind.{can_over, carried_with, few_entries, not_carried}
use Rattle.drive_asks.proofs.ReadFacts.{batch_is_short, batch_recalls, claim_answered, claim_mount, claim_opened, evicted_all, mount_of_reads, read_size_fits, read_size_low, tape_low}
use Rattle.part_moves.proofs.MountRows.{row_there}
use Rattle.drive_asks.proofs.GivenReads.{called_as}
use Rattle.part_moves.proofs.WaitLists.{waiting_fits, waits_same}
use Rattle.drive_asks.proofs.claim.claim_reads.Goals as goal
use Rattle.drive_asks.proofs.EndedMounts.{drive_asks}

pub bytes_of-bytes-requires : goal.bytes_of-bytes-requires
bytes_of-bytes-requires c =
    let well : IsWellFormed c.args.site.now = subst IsWellFormed c.site.ensures c.keeps_rules.ensures.parts in
    let x = mount_of_reads c.args.history.now.value c.args.mount c.requires.reads in
    subst (λ (xs : List Item). size_of_items xs < 2 ^ 64) (sym c.as_slice.ensures)
    (read_size_low c.buffer_has_room.ensures c.args.site.now c.args.history.now.value c.args.parts.now c.args.at c.args.mount x.0 c.args.items.items well c.requires.carrying.legal c.requires.carrying.kept c.requires.carrying.at c.requires.reads c.requires.batch x.1)

pub find_reads-requires : goal.find_reads-requires
find_reads-requires c =
    let well : IsWellFormed c.args.site.now = subst IsWellFormed c.site.ensures c.keeps_rules.ensures.parts in
    λ f. waiting_fits c.args.site.now c.args.history.now.value f _ c.subscribers_wait.ensures c.stays_short.ensures c.requires.carrying.legal well (c.requires.carrying.kept.stand.jobs.book.recall f)

pub mount_at-mounted-requires : goal.mount_at-mounted-requires
mount_at-mounted-requires c =
    let h : History = c.args.history.now.value in
    let kept : ArePartsKept c.args.site.now h c.make_room.new.self = c.same_parts_are_kept.ensures c.args.site.now h c.args.parts.now c.make_room.new.self c.in_default.ensures.same c.requires.carrying.kept in
    row_there c.args.site.now h c.make_room.new.self.mounts.value.rows c.args.mount kept.stand.mounts (claim_opened c.args.site.now h c.args.at c.args.mount c.args.items.items c.requires.reads c.requires.carrying.accepted c.requires.batch)

pub give_reads-requires-clause-tape : goal.give_reads-requires-clause-tape
give_reads-requires-clause-tape c =
    let h : History = c.args.history.now.value in
    let kept : ArePartsKept c.args.site.now h c.make_room.new.self = c.same_parts_are_kept.ensures c.args.site.now h c.args.parts.now c.make_room.new.self c.in_default.ensures.same c.requires.carrying.kept in
    tape_low c.args.site.now h c.args.at c.args.mount c.mount_at-mounted.result c.args.items.items c.make_room.new.self kept c.requires.reads c.requires.carrying.accepted c.requires.batch (c.mount_at-mounted.ensures c.args.site.now h kept.stand.mounts)

pub give_reads-requires-clause-fits : goal.give_reads-requires-clause-fits
give_reads-requires-clause-fits c =
    let h : History = c.args.history.now.value in
    let kept : ArePartsKept c.args.site.now h c.make_room.new.self = c.same_parts_are_kept.ensures c.args.site.now h c.args.parts.now c.make_room.new.self c.in_default.ensures.same c.requires.carrying.kept in
    let well : IsWellFormed c.args.site.now = subst IsWellFormed c.site.ensures c.keeps_rules.ensures.parts in
    read_size_fits c.buffer_has_room.ensures c.args.site.now h c.make_room.new.self c.args.at c.args.mount c.bytes_of-bytes.result c.mount_at-mounted.result c.args.items.items well c.requires.carrying.legal kept c.requires.carrying.at c.requires.reads c.requires.batch
    (c.mount_at-mounted.ensures c.args.site.now h kept.stand.mounts) (c.bytes_of-bytes.ensures ∙ ap size_of_items c.as_slice.ensures)

pub append_claim-requires-clause-few : goal.append_claim-requires-clause-few
append_claim-requires-clause-few c =
    subst (λ (g : History). length g + 2 < 2 ^ 32) (sym c.in_default.ensures.entries)
    (few_entries c.args.site.now c.args.history.now.value c.stays_short.ensures (subst IsWellFormed c.site.ensures c.keeps_rules.ensures.parts) c.requires.carrying.legal)

pub needs_of-requires : goal.needs_of-requires
needs_of-requires c =
    let well : IsWellFormed c.args.site.now = subst IsWellFormed c.site.ensures c.keeps_rules.ensures.parts in
    let short : length c.args.items.items < 2 ^ 32 = batch_is_short c.args.site.now c.args.history.now.value c.args.at c.args.mount c.args.items.items c.claims_are_short.ensures well c.requires.carrying.legal c.requires.carrying.at c.requires.reads c.requires.carrying.accepted c.requires.batch in
    subst (λ (xs : List Item). length xs < 2 ^ 32) (sym c.as_slice-3.ensures) short

pub returns-in-Err-make_room-clause-carried : goal.returns-in-Err-make_room-clause-carried
returns-in-Err-make_room-clause-carried c =
    not_carried c.args.site.now c.args.history.now.value c.make_room.new.history.value c.args.at (ask.Claim c.args.mount) _ _ c.in-Err-make_room.ensures.entries
    (c.same_parts_are_kept.ensures c.args.site.now c.args.history.now.value c.args.parts.now c.make_room.new.self c.in-Err-make_room.ensures.same c.requires.carrying.kept)

pub returns-clause-carried : goal.returns-clause-carried
returns-clause-carried c =
    let site : Site = c.args.site.now in
    let h : History = c.args.history.now.value in
    let x : Mount = c.mount_at-mounted.result in
    let items : List Item = c.args.items.items in
    let last : Listed Item = c.in-Ok.found.last in
    let v : Held = c.make_room.new.self.buffer.held.value in
    let kept : ArePartsKept site h c.make_room.new.self = c.same_parts_are_kept.ensures site h c.args.parts.now c.make_room.new.self c.in_default.ensures.same c.requires.carrying.kept in
    let is : mount_of h c.args.mount ≡ Some x = c.mount_at-mounted.ensures site h kept.stand.mounts in
    let size : c.bytes_of-bytes.result ≡ size_of_items items = c.bytes_of-bytes.ensures ∙ ap size_of_items c.as_slice.ensures in
    let same_last : last ≡ rows items = c.in-Ok.ensures.last ∙ ap rows c.as_slice-2.ensures in
    let same_told : c.in-Ok.found.told ≡ rows items = c.in-Ok.ensures.told ∙ ap rows c.as_slice-2.ensures in
    let out : c.give_reads.new.evicted.items ≡ evicted_for v (moment_of h c.args.at) (size_of_items items) =
    evicted_all v c.moment_of-moment.result (moment_of h c.args.at) c.bytes_of-bytes.result (size_of_items items) c.in-Ok.found.evicted.items c.give_reads.new.evicted.items c.give_reads.ensures.evicted c.in-Ok.ensures.evicted c.moment_of-moment.ensures size in
    let gone : c.add_numbers.new.out.items ≡ evicted_for v (moment_of h c.args.at) (size_of_items items) =
    c.add_numbers.ensures ∙ ap (λ (fs : List ℕ). fs ++ c.as_slice-5.result.now) c.in-Ok.ensures.gone ∙ c.as_slice-5.ensures ∙ out in
    let all : recalls_in (item_jobs last.items) ≡ files_in last.items =
    subst (λ (l : Listed Item). recalls_in (item_jobs l.items) ≡ files_in l.items) (sym same_last) (batch_recalls site h c.args.at c.args.mount x items c.requires.reads c.requires.batch is) in
    let bytes : c.bytes_of-bytes.result ≡ size_of_items last.items = size ∙ sym (ap (λ (l : Listed Item). size_of_items l.items) same_last) in
    let pairs : c.as_slice-4.result.now ≡ waits_for_all (live_recall site h) (files_in last.items) =
    c.as_slice-4.ensures.value ∙ c.in-Ok.ensures.waiters
    ∙ ap (λ (is : List Item). waits_for_all (book_in c.args.parts.now.book.value).recall (files_in is)) (c.as_slice-2.ensures ∙ sym (ap (λ (l : Listed Item). l.items) same_last))
    ∙ waits_same (book_in c.args.parts.now.book.value).recall (live_recall site h) (files_in last.items) c.requires.carrying.kept.stand.jobs.book.recall in
    let entry : bare_answer c.batch.result ≡ answer.Batch (rows items) (rows (evicted_for v (moment_of h c.args.at) (size_of_items items))) =
    c.batch.ensures ∙ ap (λ (l : Listed Item). answer.Batch (rows l.items) (rows c.add_numbers.new.out.items)) same_told ∙ ap (λ (fs : List ℕ). answer.Batch (rows items) (rows fs)) gone in
    carried_with site h c.append_claim.new.history.value c.args.at (ask.Claim c.args.mount) c.batch-2.result (answer.Batch (rows items) (rows (evicted_for v (moment_of h c.args.at) (size_of_items items)))) c.make_room.new.self c.give_reads.new.parts c.kept_parts_move.ensures
    (can_over site h h c.args.parts.now c.make_room.new.self c.args.at (ask.Claim c.args.mount) c.requires.carrying kept refl) (c.batch-2.ensures ∙ ap (λ (fs : List ℕ). answer.Batch (rows items) (rows fs)) out)
    (claim_answered site h c.make_room.new.self c.args.at c.args.mount items c.requires.carrying.legal kept c.requires.carrying.at c.requires.reads c.requires.carrying.accepted c.requires.batch)
    (called_as site h c.moment_of-moment.result (moment_of h c.args.at) x.drive (drive_by (mount_of h c.args.mount)) c.args.mount c.bytes_of-bytes.result (size_of_items items) last (rows items) v c.make_room.new.self c.give_reads.new.parts
    (c.give_reads.ensures.called site h x.drive kept (claim_mount h c.args.mount x c.requires.reads is) all bytes pairs) c.moment_of-moment.ensures (drive_asks h c.args.mount x is) same_last size)
    (subst (λ (a : Answer). c.append_claim.new.history.value ≡ new_entry h c.args.at (ask.Claim c.args.mount) a ∷ h) entry
    (subst (λ (g : History). c.append_claim.new.history.value ≡ new_entry g c.args.at (ask.Claim c.args.mount) (bare_answer c.batch.result) ∷ g) c.in_default.ensures.entries c.append_claim.ensures))
