use Rattle.std.proofs.Common.{◌≡◌, ◌+◌, ◌≤◌, ◌∷◌, List, length, subst, sym}
use Rattle.cta_site.specs.WellFormed.{IsWellFormed}
use Rattle.cta_model.specs.declared.answers.Answer.TheVariants as answer
use Rattle.cta_model.specs.declared.asks.Job.{Job}
use Rattle.cta_model.specs.History.{History}
use Rattle.cta_model.specs.Legal.{new_entry}
use Rattle.archive_parts.specs.PartsKept.{ArePartsKept}
use Rattle.part_model.specs.JobRows.{book_in}
use Rattle.fault_asks.proofs.FailFacts.{IsFailure, done_is, failed, few_jobs, opened}
use Rattle.part_moves.proofs.MountRows.{row_there}
use Rattle.part_moves.proofs.WaitLists.{waiting_fits}
use Rattle.cta_site.specs.Listed.{rows}
use Rattle.cta_model.specs.declared.asks.Ask.TheVariants as ask
use Rattle.archive_parts.proofs.Behind.{can_over, not_carried}
use Rattle.fault_asks.proofs.reads.fail_reads.Goals as goal

pub needs_of-needs-requires : goal.needs_of-needs-requires
needs_of-needs-requires c =
    let f : IsFailure c.args.site.now c.args.history.now.value c.args.at c.args.mount c.args.fault c.args.charged.items c.args.returned.items = record { legal = c.requires.carrying.legal; within = c.requires.carrying.at; fit = c.requires.carrying.fit; accepted = c.requires.carrying.accepted } in
    subst (λ (xs : List Job). length xs + length c.as_slice-2.result.now ≤ 2000000000) (sym c.as_slice.ensures)
    (subst (λ (xs : List Job). length c.args.charged.items + length xs ≤ 2000000000) (sym c.as_slice-2.ensures)
    (few_jobs c.args.site.now c.args.history.now.value c.args.at c.args.mount c.args.fault c.args.charged.items c.args.returned.items (subst IsWellFormed c.site-rules.ensures c.keeps_rules.ensures.parts) f))

pub mount_at-mounted-requires : goal.mount_at-mounted-requires
mount_at-mounted-requires c =
    let f : IsFailure c.args.site.now c.args.history.now.value c.args.at c.args.mount c.args.fault c.args.charged.items c.args.returned.items = record { legal = c.requires.carrying.legal; within = c.requires.carrying.at; fit = c.requires.carrying.fit; accepted = c.requires.carrying.accepted } in
    let kept : ArePartsKept c.args.site.now c.args.history.now.value c.make_room.new.self = c.same_parts_are_kept.ensures c.args.site.now c.args.history.now.value c.args.parts.now c.make_room.new.self c.make_room.ensures.same c.requires.carrying.kept in
    row_there c.args.site.now c.args.history.now.value c.make_room.new.self.mounts.value.rows c.args.mount kept.stand.mounts (opened c.args.site.now c.args.history.now.value c.args.at c.args.mount c.args.fault c.args.charged.items c.args.returned.items f)

pub find_ended-requires : goal.find_ended-requires
find_ended-requires c =
    let kept : ArePartsKept c.args.site.now c.args.history.now.value c.make_room.new.self = c.same_parts_are_kept.ensures c.args.site.now c.args.history.now.value c.args.parts.now c.make_room.new.self c.make_room.ensures.same c.requires.carrying.kept in
    λ g. waiting_fits c.args.site.now c.args.history.now.value g ((book_in c.make_room.new.self.book.value).recall g) c.subscribers_wait.ensures c.stays_short.ensures c.requires.carrying.legal (subst IsWellFormed c.site-rules.ensures c.keeps_rules.ensures.parts) (kept.stand.jobs.book.recall g)

pub returns-in-Err-find_ended-clause-carried : goal.returns-in-Err-find_ended-clause-carried
returns-in-Err-find_ended-clause-carried c =
    not_carried c.args.site.now c.args.history.now.value c.make_room.new.history.value c.args.at (failed c.args.mount c.args.fault c.args.charged.items c.args.returned.items) _ _ c.make_room.ensures.entries
    (c.same_parts_are_kept.ensures c.args.site.now c.args.history.now.value c.args.parts.now c.make_room.new.self c.make_room.ensures.same c.requires.carrying.kept)

pub carry_out-requires-clause-carrying : goal.carry_out-requires-clause-carrying
carry_out-requires-clause-carrying c =
    let kept : ArePartsKept c.args.site.now c.args.history.now.value c.make_room.new.self = c.same_parts_are_kept.ensures c.args.site.now c.args.history.now.value c.args.parts.now c.make_room.new.self c.make_room.ensures.same c.requires.carrying.kept in
    can_over c.args.site.now c.args.history.now.value c.make_room.new.history.value c.args.parts.now c.make_room.new.self c.args.at (ask.Failed c.args.mount c.args.fault (rows c.args.charged.items) (rows c.args.returned.items)) c.requires.carrying kept c.make_room.ensures.entries

pub returns-clause-carried : goal.returns-clause-carried
returns-clause-carried c =
    let f : IsFailure c.args.site.now c.args.history.now.value c.args.at c.args.mount c.args.fault c.args.charged.items c.args.returned.items = record { legal = c.requires.carrying.legal; within = c.requires.carrying.at; fit = c.requires.carrying.fit; accepted = c.requires.carrying.accepted } in
    record {
      answer = done_is c.args.site.now c.args.history.now.value c.args.at c.args.mount c.args.fault c.args.charged.items c.args.returned.items f;
      entry = subst (λ (g : History). c.carry_out.new.history.value ≡ new_entry g c.args.at (failed c.args.mount c.args.fault c.args.charged.items c.args.returned.items) answer.Done ∷ g) c.make_room.ensures.entries c.carry_out.ensures.entry;
      kept = c.carry_out.ensures.kept;
      same = tt;
      still = tt;
    }
