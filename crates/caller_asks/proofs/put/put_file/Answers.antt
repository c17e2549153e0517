use Rattle.std.proofs.Common.{◌≡◌, ◌∙◌, ◌+◌, ◌++◌, ◌≤◌, ℕ, List, length, refl, sym, ap, subst}
use Rattle.blob.specs.Sums.{sum_of}
use Rattle.cta_site.specs.WellFormed.{IsWellFormed}
use Rattle.cta_site.specs.ValidSite.{IsValidSite}
use Rattle.cta_site.specs.Listed.{rows}
use Rattle.cta_model.specs.declared.answers.Answer.TheVariants as answer
use Rattle.cta_model.specs.declared.asks.Ask.TheVariants as ask
use Rattle.cta_model.specs.History.{History, moment_of}
use Rattle.cta_model.specs.declared.asks.Direction.TheVariants as direction
use Rattle.part_model.specs.Held.{evicted_for, is_held}
use Rattle.part_model.specs.Names.{Names}
use Rattle.part_model.specs.Queues.{lines_in}
use Rattle.archive_parts.specs.PartsKept.{ArePartsKept}
use Rattle.archive_parts.proofs.Behind.{can_over, not_carried}
use Rattle.caller_asks.proofs.PutBody.{body_copies, body_of, body_puts, body_size, gone_is, put_pushed}
use Rattle.caller_asks.proofs.PutDone.{put_carried}
use Rattle.caller_asks.proofs.Puts.{fits_new, lacks_jobs, lacks_new, put_entry, put_size, room_for_copies}
use Rattle.caller_asks.proofs.Told.{copies_told}
use Rattle.caller_asks.proofs.Waits.{entries_fit}
use Rattle.caller_asks.proofs.put.put_file.Goals as goal

pub returns-in-Err-add-clause-carried : goal.returns-in-Err-add-clause-carried
returns-in-Err-add-clause-carried c =
    let site = c.args.site.now in
    let h = c.args.history.now.value in
    let kept = c.same_parts_are_kept.ensures site h c.args.parts.now c.ready_put.new.parts c.in-Ok.ensures.parts c.requires.kept in
    not_carried site h c.ready_put.new.history.value c.args.at (ask.Put c.args.who c.args.path (sum_of c.args.blob.value)) _ _ c.in-Ok.ensures.history
    (subst (λ (x : Names). ArePartsKept site h (record c.ready_put.new.parts { names = x })) (sym c.in-Err-add.ensures.unchanged) kept)

pub push-requires-clause-few : goal.push-requires-clause-few
push-requires-clause-few c = entries_fit c.args.site.now c.args.history.now.value _ c.stays_short.ensures c.requires.legal (subst IsWellFormed c.site.ensures c.keeps_rules.ensures.parts) (ap (λ (h : History). length h) c.in-Ok.ensures.history)

pub enter-requires-clause-lacks : goal.enter-requires-clause-lacks
enter-requires-clause-lacks c =
    let site = c.args.site.now in
    let h = c.args.history.now.value in
    let kept = c.same_parts_are_kept.ensures site h c.args.parts.now c.ready_put.new.parts c.in-Ok.ensures.parts c.requires.kept in
    let number : c.next_number-file.result ≡ length h + 1 = c.next_number-file.ensures.number ∙ ap (λ (k : History). length k + 1) c.in-Ok.ensures.history in
    ap (is_held c.evict.new.self.held.value) number
    ∙ lacks_new site h c.ready_put.new.parts.buffer.held.value c.evict.new.self.held.value c.moment_of-moment.result c.sum-sum.result.len kept.stand.space.buffer c.evict.ensures.held

pub enter-requires-clause-fits : goal.enter-requires-clause-fits
enter-requires-clause-fits c =
    let site = c.args.site.now in
    let h = c.args.history.now.value in
    let kept = c.same_parts_are_kept.ensures site h c.args.parts.now c.ready_put.new.parts c.in-Ok.ensures.parts c.requires.kept in
    let v = c.ready_put.new.parts.buffer.held.value in
    let sum = sum_of c.args.blob.value in
    let count = copies_told site c.site-2.result.now c.args.path c.as_bytes.result.now c.copies_of-copies.result c.copies_of-copies.ensures c.site-2.ensures c.as_bytes.ensures in
    let body = body_of site h c.ready_put.new.history.value c.args.at c.args.who c.args.path sum v c.moment_of-moment.result c.next_number-file.result c.copies_of-copies.result c.sum-sum.result c.requires.at c.requires.legal kept.stand.space.buffer c.requires.accepted
    c.moment_of-moment.ensures (c.sum-sum.ensures ∙ ap sum_of c.deref.ensures) c.next_number-file.ensures.number c.in-Ok.ensures.history count in
    fits_new site h v c.evict.new.self.held.value c.moment_of-moment.result c.sum-sum.result.len sum.len c.buffer_has_room.ensures c.requires.legal (subst IsWellFormed c.site.ensures c.keeps_rules.ensures.parts) kept.stand.space.buffer c.evict.ensures.held
    (put_size site h c.args.at c.args.who c.args.path sum (evicted_for v (moment_of h c.args.at) sum.len) c.files_fit_buffer.ensures body.holds.legal)

pub queue_copies-requires-clause-put : goal.queue_copies-requires-clause-put
queue_copies-requires-clause-put c =
    let site = c.args.site.now in
    let h = c.args.history.now.value in
    let kept = c.same_parts_are_kept.ensures site h c.args.parts.now c.ready_put.new.parts c.in-Ok.ensures.parts c.requires.kept in
    let v = c.ready_put.new.parts.buffer.held.value in
    let sum = sum_of c.args.blob.value in
    let count = copies_told site c.site-2.result.now c.args.path c.as_bytes.result.now c.copies_of-copies.result c.copies_of-copies.ensures c.site-2.ensures c.as_bytes.ensures in
    let body = body_of site h c.ready_put.new.history.value c.args.at c.args.who c.args.path sum v c.moment_of-moment.result c.next_number-file.result c.copies_of-copies.result c.sum-sum.result c.requires.at c.requires.legal kept.stand.space.buffer c.requires.accepted
    c.moment_of-moment.ensures (c.sum-sum.ensures ∙ ap sum_of c.deref.ensures) c.next_number-file.ensures.number c.in-Ok.ensures.history count in
    let gone = evicted_for v (moment_of h c.args.at) sum.len in
    let out = gone_is site h c.args.at c.args.who c.args.path sum v c.moment_of-moment.result c.next_number-file.result c.copies_of-copies.result c.sum-sum.result _ c.evict.new.out.items body c.in-Ok.ensures.evicted c.evict.ensures.out in
    let told = c.add_numbers.ensures ∙ ap (λ (xs : List ℕ). xs ++ c.as_slice.result.now) c.in-Ok.ensures.told ∙ c.as_slice.ensures ∙ out in
    let now = put_pushed site h c.ready_put.new.history.value c.push.new.self.value c.args.at c.args.who c.in-Ok.ready.actor c.args.path sum v c.moment_of-moment.result c.next_number-file.result c.copies_of-copies.result c.sum-sum.result c.add_numbers.new.out.items gone body c.push.ensures.value
    c.in-Ok.ensures.actor told c.in-Ok.ensures.history in
    body_puts h c.push.new.self.value (put_entry h c.args.at c.args.who c.args.path sum gone) c.next_number-file.result now body.number refl

pub queue_copies-requires-clause-copies : goal.queue_copies-requires-clause-copies
queue_copies-requires-clause-copies c =
    let site = c.args.site.now in
    let h = c.args.history.now.value in
    let kept = c.same_parts_are_kept.ensures site h c.args.parts.now c.ready_put.new.parts c.in-Ok.ensures.parts c.requires.kept in
    let v = c.ready_put.new.parts.buffer.held.value in
    let sum = sum_of c.args.blob.value in
    let count = copies_told site c.site-2.result.now c.args.path c.as_bytes.result.now c.copies_of-copies.result c.copies_of-copies.ensures c.site-2.ensures c.as_bytes.ensures in
    let body = body_of site h c.ready_put.new.history.value c.args.at c.args.who c.args.path sum v c.moment_of-moment.result c.next_number-file.result c.copies_of-copies.result c.sum-sum.result c.requires.at c.requires.legal kept.stand.space.buffer c.requires.accepted
    c.moment_of-moment.ensures (c.sum-sum.ensures ∙ ap sum_of c.deref.ensures) c.next_number-file.ensures.number c.in-Ok.ensures.history count in
    let gone = evicted_for v (moment_of h c.args.at) sum.len in
    let out = gone_is site h c.args.at c.args.who c.args.path sum v c.moment_of-moment.result c.next_number-file.result c.copies_of-copies.result c.sum-sum.result _ c.evict.new.out.items body c.in-Ok.ensures.evicted c.evict.ensures.out in
    let told = c.add_numbers.ensures ∙ ap (λ (xs : List ℕ). xs ++ c.as_slice.result.now) c.in-Ok.ensures.told ∙ c.as_slice.ensures ∙ out in
    let now = put_pushed site h c.ready_put.new.history.value c.push.new.self.value c.args.at c.args.who c.in-Ok.ready.actor c.args.path sum v c.moment_of-moment.result c.next_number-file.result c.copies_of-copies.result c.sum-sum.result c.add_numbers.new.out.items gone body c.push.ensures.value
    c.in-Ok.ensures.actor told c.in-Ok.ensures.history in
    body_copies site c.site-3.result.now h c.push.new.self.value (put_entry h c.args.at c.args.who c.args.path sum gone) c.args.path c.next_number-file.result c.copies_of-copies.result c.site-3.ensures now body.number refl count

pub queue_copies-requires-clause-lacks : goal.queue_copies-requires-clause-lacks
queue_copies-requires-clause-lacks c =
    let site = c.args.site.now in
    let h = c.args.history.now.value in
    let kept = c.same_parts_are_kept.ensures site h c.args.parts.now c.ready_put.new.parts c.in-Ok.ensures.parts c.requires.kept in
    let number : c.next_number-file.result ≡ length h + 1 = c.next_number-file.ensures.number ∙ ap (λ (k : History). length k + 1) c.in-Ok.ensures.history in
    λ d k low. lacks_jobs site h (lines_in c.ready_put.new.parts.pools.value) c.next_number-file.result d k c.requires.legal kept.stand.jobs.pools number

pub queue_copies-requires-clause-small : goal.queue_copies-requires-clause-small
queue_copies-requires-clause-small c =
    let site = c.args.site.now in
    let h = c.args.history.now.value in
    let kept = c.same_parts_are_kept.ensures site h c.args.parts.now c.ready_put.new.parts c.in-Ok.ensures.parts c.requires.kept in
    let v = c.ready_put.new.parts.buffer.held.value in
    let sum = sum_of c.args.blob.value in
    let count = copies_told site c.site-2.result.now c.args.path c.as_bytes.result.now c.copies_of-copies.result c.copies_of-copies.ensures c.site-2.ensures c.as_bytes.ensures in
    let body = body_of site h c.ready_put.new.history.value c.args.at c.args.who c.args.path sum v c.moment_of-moment.result c.next_number-file.result c.copies_of-copies.result c.sum-sum.result c.requires.at c.requires.legal kept.stand.space.buffer c.requires.accepted
    c.moment_of-moment.ensures (c.sum-sum.ensures ∙ ap sum_of c.deref.ensures) c.next_number-file.ensures.number c.in-Ok.ensures.history count in
    let gone = evicted_for v (moment_of h c.args.at) sum.len in
    let out = gone_is site h c.args.at c.args.who c.args.path sum v c.moment_of-moment.result c.next_number-file.result c.copies_of-copies.result c.sum-sum.result _ c.evict.new.out.items body c.in-Ok.ensures.evicted c.evict.ensures.out in
    let told = c.add_numbers.ensures ∙ ap (λ (xs : List ℕ). xs ++ c.as_slice.result.now) c.in-Ok.ensures.told ∙ c.as_slice.ensures ∙ out in
    let now = put_pushed site h c.ready_put.new.history.value c.push.new.self.value c.args.at c.args.who c.in-Ok.ready.actor c.args.path sum v c.moment_of-moment.result c.next_number-file.result c.copies_of-copies.result c.sum-sum.result c.add_numbers.new.out.items gone body c.push.ensures.value
    c.in-Ok.ensures.actor told c.in-Ok.ensures.history in
    body_size site h c.push.new.self.value c.args.at c.args.who c.args.path sum gone c.next_number-file.result c.files_fit_buffer.ensures (subst IsWellFormed c.site.ensures c.keeps_rules.ensures.parts) body.holds.legal now body.number

pub queue_copies-requires-clause-fits : goal.queue_copies-requires-clause-fits
queue_copies-requires-clause-fits c =
    let site = c.args.site.now in
    let h = c.args.history.now.value in
    let kept = c.same_parts_are_kept.ensures site h c.args.parts.now c.ready_put.new.parts c.in-Ok.ensures.parts c.requires.kept in
    let valid = subst IsValidSite c.site.ensures c.keeps_rules.ensures.valid in
    let count = copies_told site c.site-2.result.now c.args.path c.as_bytes.result.now c.copies_of-copies.result c.copies_of-copies.ensures c.site-2.ensures c.as_bytes.ensures in
    λ k. room_for_copies site _ c.copies_of-copies.result (c.lines_are_small.ensures site h direction.Archive (lines_in c.ready_put.new.parts.pools.value) valid c.requires.legal kept.stand.jobs.pools k)
    (subst (λ (n : ℕ). n ≤ 4) (sym count) (c.copies_are_few.ensures site valid c.args.path))

pub returns-clause-carried : goal.returns-clause-carried
returns-clause-carried c =
    let site = c.args.site.now in
    let h = c.args.history.now.value in
    let kept = c.same_parts_are_kept.ensures site h c.args.parts.now c.ready_put.new.parts c.in-Ok.ensures.parts c.requires.kept in
    let v = c.ready_put.new.parts.buffer.held.value in
    let sum = sum_of c.args.blob.value in
    let count = copies_told site c.site-2.result.now c.args.path c.as_bytes.result.now c.copies_of-copies.result c.copies_of-copies.ensures c.site-2.ensures c.as_bytes.ensures in
    let body = body_of site h c.ready_put.new.history.value c.args.at c.args.who c.args.path sum v c.moment_of-moment.result c.next_number-file.result c.copies_of-copies.result c.sum-sum.result c.requires.at c.requires.legal kept.stand.space.buffer c.requires.accepted
    c.moment_of-moment.ensures (c.sum-sum.ensures ∙ ap sum_of c.deref.ensures) c.next_number-file.ensures.number c.in-Ok.ensures.history count in
    let gone = evicted_for v (moment_of h c.args.at) sum.len in
    let out = gone_is site h c.args.at c.args.who c.args.path sum v c.moment_of-moment.result c.next_number-file.result c.copies_of-copies.result c.sum-sum.result _ c.evict.new.out.items body c.in-Ok.ensures.evicted c.evict.ensures.out in
    let told = c.add_numbers.ensures ∙ ap (λ (xs : List ℕ). xs ++ c.as_slice.result.now) c.in-Ok.ensures.told ∙ c.as_slice.ensures ∙ out in
    let now = put_pushed site h c.ready_put.new.history.value c.push.new.self.value c.args.at c.args.who c.in-Ok.ready.actor c.args.path sum v c.moment_of-moment.result c.next_number-file.result c.copies_of-copies.result c.sum-sum.result c.add_numbers.new.out.items gone body c.push.ensures.value
    c.in-Ok.ensures.actor told c.in-Ok.ensures.history in
    put_carried site c.site-3.result.now h c.push.new.self.value c.args.at c.args.who c.args.path c.in-Ok.ready.name sum c.sum-sum.result gone (answer.Stored c.evict.new.out) c.ready_put.new.parts c.add.new.self c.evict.new.self c.enter.new.self c.bear_copies.new.book c.queue_copies.new.pools
    c.moment_of-moment.result c.next_number-file.result c.copies_of-copies.result c.kept_parts_move.ensures (can_over site h h c.args.parts.now c.ready_put.new.parts c.args.at (ask.Put c.args.who c.args.path sum) c.requires kept refl) body refl c.in-Ok.ensures.name c.site-3.ensures (ap (λ (fs : List ℕ). answer.Stored (rows fs)) out) now c.in_default.ensures.named c.evict.ensures.held c.evict.ensures.contents c.enter.ensures.held
    c.enter.ensures.contents c.bear_copies.ensures.book c.queue_copies.ensures.lines c.queue_copies.ensures.keys
