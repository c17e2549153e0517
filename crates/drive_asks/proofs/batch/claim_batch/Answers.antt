use Rattle.std.proofs.Common.{◌≡◌, ◌∙◌, ◌+◌, ◌<◌, ◌^◌, ◌∷◌, ℕ, List, [], length, ap, arith, subst, sym, refl}
use Rattle.std.specs.Prelude.{Some}
use Rattle.cta_site.specs.Listed.{Listed, rows}
use Rattle.cta_site.specs.WellFormed.{IsWellFormed}
use Rattle.cta_model.specs.declared.answers.Answer.{Answer}
use Rattle.cta_model.specs.declared.answers.Answer.TheVariants as answer
use Rattle.cta_model.specs.declared.asks.Ask.TheVariants as ask
use Rattle.cta_model.specs.declared.asks.Item.{Item}
use Rattle.cta_model.specs.declared.entries.Actor.TheVariants as actor
use Rattle.cta_model.specs.declared.states.Mount.{Mount}
use Rattle.cta_model.specs.Bare.{bare_answer}
use Rattle.cta_model.specs.History.{History, moment_of}
use Rattle.cta_model.specs.Legal.{new_entry}
use Rattle.cta_model.specs.Mounts.{item_jobs, mount_of}
use Rattle.cta_model.specs.Tapes.{size_of_items}
use Rattle.part_model.specs.Tapes.{row_in}
use Rattle.part_laws.specs.BookCalls.{recalls_in}
use Rattle.archive_parts.specs.Called.{AreKeptCalled}
use Rattle.archive_parts.specs.PartsKept.{ArePartsKept}
use Rattle.drive_asks.proofs.BatchFacts.{batch_fits, batch_is_short, batch_recalls, claim_answered, claim_mount, claim_opened, claim_tape, pool_low}
use Rattle.archive_parts.proofs.Behind.{can_over, carried_with, few_entries}
use Rattle.drive_asks.proofs.EndedMounts.{drive_asks}
use Rattle.part_moves.proofs.MountRows.{row_there}
use Rattle.drive_asks.proofs.batch.claim_batch.Goals as goal

pub prepare-requires : goal.prepare-requires
prepare-requires c =
    subst (λ (xs : List Item). length xs < 2 ^ 32) (sym c.as_slice.ensures)
    (batch_is_short c.args.site.now c.args.history.now.value c.args.at c.args.mount c.args.items.items c.claims_are_short.ensures (subst IsWellFormed c.site.ensures c.keeps_rules.ensures.parts) c.requires.carrying.legal c.requires.carrying.at c.requires.writes
    c.requires.carrying.accepted c.requires.batch)

pub mount_at-mounted-requires : goal.mount_at-mounted-requires
mount_at-mounted-requires c =
    let h : History = c.args.history.now.value in
    let kept : ArePartsKept c.args.site.now h c.prepare.new.parts = c.in-Ok.ensures.kept c.args.site.now h c.requires.carrying.kept in
    row_there c.args.site.now h c.prepare.new.parts.mounts.value.rows c.args.mount kept.stand.mounts (claim_opened c.args.site.now h c.args.at c.args.mount c.args.items.items c.requires.writes c.requires.carrying.accepted c.requires.batch)

pub append-requires-clause-few : goal.append-requires-clause-few
append-requires-clause-few c =
    subst (λ (g : History). length g + 2 < 2 ^ 32) (sym c.in-Ok.ensures.entries)
    (few_entries c.args.site.now c.args.history.now.value c.stays_short.ensures (subst IsWellFormed c.site.ensures c.keeps_rules.ensures.parts) c.requires.carrying.legal)

pub give_batch-requires-clause-pool : goal.give_batch-requires-clause-pool
give_batch-requires-clause-pool c =
    let h : History = c.args.history.now.value in
    let kept : ArePartsKept c.args.site.now h c.prepare.new.parts = c.in-Ok.ensures.kept c.args.site.now h c.requires.carrying.kept in
    pool_low c.args.site.now h c.args.at c.args.mount c.mount_at-mounted.result c.args.items.items c.prepare.new.parts kept c.requires.writes c.requires.carrying.accepted c.requires.batch
    (c.mount_at-mounted.ensures c.args.site.now h kept.stand.mounts)

pub give_batch-requires-clause-tape : goal.give_batch-requires-clause-tape
give_batch-requires-clause-tape c =
    let h : History = c.args.history.now.value in
    let kept : ArePartsKept c.args.site.now h c.prepare.new.parts = c.in-Ok.ensures.kept c.args.site.now h c.requires.carrying.kept in
    let low : c.mount_at-mounted.result.tape < length c.args.site.now.tapes.items =
    claim_tape c.args.site.now h c.args.mount c.mount_at-mounted.result c.requires.carrying.legal (claim_opened c.args.site.now h c.args.at c.args.mount c.args.items.items c.requires.writes c.requires.carrying.accepted c.requires.batch) c.requires.writes
    (c.mount_at-mounted.ensures c.args.site.now h kept.stand.mounts) in
    let all : length c.prepare.new.parts.tapes.value.rows ≡ length c.args.site.now.tapes.items = kept.fit.tapes in
    omega arith

pub give_batch-requires-clause-fits : goal.give_batch-requires-clause-fits
give_batch-requires-clause-fits c =
    let h : History = c.args.history.now.value in
    let kept : ArePartsKept c.args.site.now h c.prepare.new.parts = c.in-Ok.ensures.kept c.args.site.now h c.requires.carrying.kept in
    let is : mount_of h c.args.mount ≡ Some c.mount_at-mounted.result = c.mount_at-mounted.ensures c.args.site.now h kept.stand.mounts in
    let low : c.mount_at-mounted.result.tape < length c.args.site.now.tapes.items =
    claim_tape c.args.site.now h c.args.mount c.mount_at-mounted.result c.requires.carrying.legal (claim_opened c.args.site.now h c.args.at c.args.mount c.args.items.items c.requires.writes c.requires.carrying.accepted c.requires.batch) c.requires.writes is in
    let last : c.in-Ok.copies.last ≡ rows c.args.items.items = c.in-Ok.ensures.last ∙ ap rows c.as_slice.ensures in
    subst (λ (l : Listed Item). (row_in c.prepare.new.parts.tapes.value c.mount_at-mounted.result.tape).used + size_of_items l.items < 2 ^ 64) (sym last)
    (batch_fits c.args.site.now h c.args.at c.args.mount c.mount_at-mounted.result c.args.items.items c.prepare.new.parts c.requires.carrying.legal kept low c.capacity_fits.ensures c.requires.writes c.requires.batch is)

pub returns-clause-carried : goal.returns-clause-carried
returns-clause-carried c =
    let h : History = c.args.history.now.value in
    let x : Mount = c.mount_at-mounted.result in
    let kept : ArePartsKept c.args.site.now h c.prepare.new.parts = c.in-Ok.ensures.kept c.args.site.now h c.requires.carrying.kept in
    let is : mount_of h c.args.mount ≡ Some x = c.mount_at-mounted.ensures c.args.site.now h kept.stand.mounts in
    let last : c.in-Ok.copies.last ≡ rows c.args.items.items = c.in-Ok.ensures.last ∙ ap rows c.as_slice.ensures in
    let told : c.in-Ok.copies.told ≡ rows c.args.items.items = c.in-Ok.ensures.told ∙ ap rows c.as_slice.ensures in
    let none : recalls_in (item_jobs c.in-Ok.copies.last.items) ≡ [] =
    subst (λ (l : Listed Item). recalls_in (item_jobs l.items) ≡ []) (sym last) (batch_recalls c.args.site.now h c.args.at c.args.mount x c.args.items.items c.requires.writes c.requires.batch is) in
    let entry : bare_answer c.batch.result ≡ answer.Batch (rows c.args.items.items) (rows []) = c.batch.ensures ∙ ap (λ (l : Listed Item). answer.Batch (rows l.items) (rows [])) told in
    carried_with c.args.site.now h c.append.new.self.value c.args.at (ask.Claim c.args.mount) c.batch-2.result (answer.Batch (rows c.args.items.items) (rows [])) c.prepare.new.parts c.give_batch.new.parts c.kept_parts_move.ensures
    (can_over c.args.site.now h h c.args.parts.now c.prepare.new.parts c.args.at (ask.Claim c.args.mount) c.requires.carrying kept refl) c.batch-2.ensures
    (claim_answered c.args.site.now h c.args.at c.args.mount c.args.items.items c.requires.writes c.requires.carrying.accepted c.requires.batch)
    (subst (λ (d : ℕ). AreKeptCalled c.args.site.now h (record { at = moment_of h c.args.at; actor = actor.Drive d; ask = ask.Claim c.args.mount; answer = answer.Batch (rows c.args.items.items) (rows []) }) c.prepare.new.parts c.give_batch.new.parts)
    (drive_asks h c.args.mount x is)
    (subst (λ (l : Listed Item). AreKeptCalled c.args.site.now h (record { at = moment_of h c.args.at; actor = actor.Drive x.drive; ask = ask.Claim c.args.mount; answer = answer.Batch l (rows []) }) c.prepare.new.parts c.give_batch.new.parts)
    last (c.give_batch.ensures h (moment_of h c.args.at) x.drive kept (claim_mount h c.args.mount x c.requires.writes is) none)))
    (subst (λ (a : Answer). c.append.new.self.value ≡ new_entry h c.args.at (ask.Claim c.args.mount) a ∷ h) entry
    (subst (λ (g : History). c.append.new.self.value ≡ new_entry g c.args.at (ask.Claim c.args.mount) (bare_answer c.batch.result) ∷ g) c.in-Ok.ensures.entries c.append.ensures))
