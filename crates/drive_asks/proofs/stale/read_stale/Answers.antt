use Rattle.std.proofs.Common.{◌≡◌, ◌∙◌, ◌+◌, ◌<◌, ◌^◌, ◌∷◌, false, length, subst, sym, refl}
use Rattle.cta_site.specs.declared.site.Site.{Site}
use Rattle.cta_site.specs.WellFormed.{IsWellFormed}
use Rattle.cta_model.specs.declared.answers.Answer.TheVariants as answer
use Rattle.cta_model.specs.declared.asks.Ask.TheVariants as ask
use Rattle.cta_model.specs.declared.asks.Fate.TheVariants as fate
use Rattle.cta_model.specs.History.{History, moment_of}
use Rattle.cta_model.specs.Jobs.{is_live_job}
use Rattle.cta_model.specs.Legal.{new_entry}
use Rattle.cta_model.specs.Mounts.{drive_by, mount_of}
use Rattle.archive_parts.specs.PartsKept.{ArePartsKept}
use Rattle.archive_parts.proofs.Behind.{can_over, carried_behind, few_entries}
use Rattle.part_moves.proofs.MountRows.{row_there}
use Rattle.drive_asks.proofs.RecallFacts.{IsRead, held_aside, read_opened, read_stale_is}
use Rattle.drive_asks.proofs.stale.read_stale.Goals as goal
use Rattle.part_moves.proofs.Charged.{lives_is}

pub mount_at-mounted-requires : goal.mount_at-mounted-requires
mount_at-mounted-requires c =
    let h : History = c.args.history.now.value in
    let f : IsRead c.args.site.now h c.args.at c.args.mount c.args.job = record { legal = c.requires.carrying.legal; within = c.requires.carrying.at; fit = c.requires.carrying.fit; accepted = c.requires.carrying.accepted } in
    let kept : ArePartsKept c.args.site.now h c.make_room.new.self = c.same_parts_are_kept.ensures c.args.site.now h c.args.parts.now c.make_room.new.self c.in_ok-make_room.ensures.same c.requires.carrying.kept in
    row_there c.args.site.now h c.make_room.new.self.mounts.value.rows c.args.mount kept.stand.mounts (read_opened c.args.site.now h c.args.at c.args.mount c.args.job f)

pub give_back_stale-requires : goal.give_back_stale-requires
give_back_stale-requires c =
    let h : History = c.args.history.now.value in
    let f : IsRead c.args.site.now h c.args.at c.args.mount c.args.job = record { legal = c.requires.carrying.legal; within = c.requires.carrying.at; fit = c.requires.carrying.fit; accepted = c.requires.carrying.accepted } in
    let kept : ArePartsKept c.args.site.now h c.make_room.new.self = c.same_parts_are_kept.ensures c.args.site.now h c.args.parts.now c.make_room.new.self c.in_ok-make_room.ensures.same c.requires.carrying.kept in
    held_aside c.claimed_bytes_move.ensures c.args.site.now h c.args.at c.args.mount c.args.len c.args.job c.make_room.new.self f kept c.requires.size

pub append-requires-clause-few : goal.append-requires-clause-few
append-requires-clause-few c =
    subst (λ (g : History). length g + 2 < 2 ^ 32) (sym c.in_ok-make_room.ensures.entries)
    (few_entries c.args.site.now c.args.history.now.value c.stays_short.ensures (subst IsWellFormed c.site.ensures c.keeps_rules.ensures.parts) c.requires.carrying.legal)

pub returns : goal.returns
returns c =
    let site : Site = c.args.site.now in
    let h : History = c.args.history.now.value in
    let f : IsRead site h c.args.at c.args.mount c.args.job = record { legal = c.requires.carrying.legal; within = c.requires.carrying.at; fit = c.requires.carrying.fit; accepted = c.requires.carrying.accepted } in
    let kept : ArePartsKept site h c.make_room.new.self = c.same_parts_are_kept.ensures site h c.args.parts.now c.make_room.new.self c.in_ok-make_room.ensures.same c.requires.carrying.kept in
    let dead : is_live_job site h c.args.job ≡ false = sym (lives_is site h c.args.parts.now.book.value c.args.job c.requires.carrying.kept.stand.jobs.book) ∙ c.requires.dead in
    record {
      carried =
          carried_behind site h c.append.new.self.value c.args.at (ask.Recalled c.args.mount c.args.job) (answer.Arrived fate.Stale) c.make_room.new.self c.give_back_stale.new.parts c.kept_parts_move.ensures (can_over site h h c.args.parts.now c.make_room.new.self c.args.at (ask.Recalled c.args.mount c.args.job) c.requires.carrying kept refl)
          (read_stale_is site h c.args.at c.args.mount c.args.job f dead)
          (c.give_back_stale.ensures site h (moment_of h c.args.at) c.args.mount (drive_by (mount_of h c.args.mount)) kept c.requires.size)
          (subst (λ (g : History). c.append.new.self.value ≡ new_entry g c.args.at (ask.Recalled c.args.mount c.args.job) (answer.Arrived fate.Stale) ∷ g) c.in_ok-make_room.ensures.entries c.append.ensures);
    }
