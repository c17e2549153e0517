use Rattle.std.proofs.Common.{◌+◌, ◌<◌, ◌∙◌, List, sym, subst, length}
use Rattle.cta_site.specs.declared.site.Site.{Site}
use Rattle.cta_site.specs.Laws.{ClassesAreKnown}
use Rattle.cta_site.specs.WellFormed.{IsWellFormed}
use Rattle.cta_model.specs.declared.asks.Item.{Item}
use Rattle.cta_model.specs.Files.{copies_of_file}
use Rattle.cta_model.specs.Mounts.{item_jobs}
use Rattle.part_model.specs.Held.{HeldAgree, set_all}
use Rattle.part_model.specs.JobBook.{TellSame, give_back_jobs}
use Rattle.part_model.specs.JobRows.{book_in}
use Rattle.part_model.specs.Tapes.{HaveFlushed, row_in, safe_in}
use Rattle.part_moves.specs.Flags.{job_files}
use Rattle.drive_asks.specs.Items.{AreOfCopies, with_fates}
use Rattle.drive_asks.proofs.Called.{HasFlushedParts, flush_called, kept_as, longer}
use Rattle.drive_asks.proofs.Lawful.{IsFlush, are_of_copies, drive_is, entries_fit, entry_is, flush_entry, fseqs_fit, has_row, tape_fits, tape_is}
use Rattle.drive_asks.proofs.carried.carry_out.Goals as goal

pub drive_of-drive-requires : goal.drive_of-drive-requires
drive_of-drive-requires c =
    let f : IsFlush c.args.site.now c.args.history.now.value c.args.at c.args.mount c.args.items.items = record { legal = c.requires.carrying.legal; within = c.requires.carrying.at; fit = c.requires.carrying.fit; accepted = c.requires.carrying.accepted } in
    has_row c.args.site.now c.args.history.now.value c.args.at c.args.mount c.args.items.items _ f c.requires.carrying.kept.stand.mounts

pub tape_of-tape-requires : goal.tape_of-tape-requires
tape_of-tape-requires c =
    let f : IsFlush c.args.site.now c.args.history.now.value c.args.at c.args.mount c.args.items.items = record { legal = c.requires.carrying.legal; within = c.requires.carrying.at; fit = c.requires.carrying.fit; accepted = c.requires.carrying.accepted } in
    has_row c.args.site.now c.args.history.now.value c.args.at c.args.mount c.args.items.items _ f c.requires.carrying.kept.stand.mounts

pub put_items-requires-clause-tape : goal.put_items-requires-clause-tape
put_items-requires-clause-tape c =
    let f : IsFlush c.args.site.now c.args.history.now.value c.args.at c.args.mount c.args.items.items = record { legal = c.requires.carrying.legal; within = c.requires.carrying.at; fit = c.requires.carrying.fit; accepted = c.requires.carrying.accepted } in
    let on = tape_is c.args.site.now c.args.history.now.value c.args.at c.args.mount _ c.args.items.items _ f c.requires.carrying.kept.stand.mounts c.tape_of-tape.ensures in
    tape_fits c.args.site.now c.args.history.now.value c.args.at c.args.mount _ c.args.items.items c.args.parts.now.tapes.value f c.requires.carrying.kept.fit.tapes on

pub put_items-requires-clause-fseqs : goal.put_items-requires-clause-fseqs
put_items-requires-clause-fseqs c =
    let f : IsFlush c.args.site.now c.args.history.now.value c.args.at c.args.mount c.args.items.items = record { legal = c.requires.carrying.legal; within = c.requires.carrying.at; fit = c.requires.carrying.fit; accepted = c.requires.carrying.accepted } in
    let on = tape_is c.args.site.now c.args.history.now.value c.args.at c.args.mount _ c.args.items.items _ f c.requires.carrying.kept.stand.mounts c.tape_of-tape.ensures in
    let good = subst IsWellFormed c.site-rules.ensures c.keeps_rules.ensures.parts in
    subst (λ (xs : List Item). (row_in c.args.parts.now.tapes.value c.tape_of-tape.result).next + length xs < 4294967296) (sym c.as_slice-flushed.ensures)
    (fseqs_fit c.args.site.now c.args.history.now.value c.args.at c.args.mount c.tape_of-tape.result c.args.items.items c.args.parts.now.tapes.value good f c.requires.carrying.kept.stand.space.tapes on)

pub put_items-requires-clause-copies : goal.put_items-requires-clause-copies
put_items-requires-clause-copies c =
    let f : IsFlush c.args.site.now c.args.history.now.value c.args.at c.args.mount c.args.items.items = record { legal = c.requires.carrying.legal; within = c.requires.carrying.at; fit = c.requires.carrying.fit; accepted = c.requires.carrying.accepted } in
    let known = subst ClassesAreKnown c.site-rules.ensures c.numbers_are_known.ensures.classes in
    subst AreOfCopies (sym c.as_slice-flushed.ensures) (are_of_copies c.args.site.now c.args.history.now.value c.args.at c.args.mount c.args.items.items known f)

pub push-requires-clause-few : goal.push-requires-clause-few
push-requires-clause-few c = entries_fit c.args.site.now c.args.history.now.value (subst IsWellFormed c.site-rules.ensures c.keeps_rules.ensures.parts) c.requires.carrying.legal

pub returns-clause-entry : goal.returns-clause-entry
returns-clause-entry c =
    let f : IsFlush c.args.site.now c.args.history.now.value c.args.at c.args.mount c.args.items.items = record { legal = c.requires.carrying.legal; within = c.requires.carrying.at; fit = c.requires.carrying.fit; accepted = c.requires.carrying.accepted } in
    let by = drive_is c.args.site.now c.args.history.now.value c.args.at c.args.mount _ c.args.items.items _ f c.requires.carrying.kept.stand.mounts c.drive_of-drive.ensures in
    c.push.ensures.value ∙ entry_is c.args.history.now.value c.args.at c.args.mount _ _ c.args.items.items c.args.fates.items c.moment_of-at.ensures by

pub returns-clause-kept : goal.returns-clause-kept
returns-clause-kept c =
    let f : IsFlush c.args.site.now c.args.history.now.value c.args.at c.args.mount c.args.items.items = record { legal = c.requires.carrying.legal; within = c.requires.carrying.at; fit = c.requires.carrying.fit; accepted = c.requires.carrying.accepted } in
    let by = drive_is c.args.site.now c.args.history.now.value c.args.at c.args.mount _ c.args.items.items _ f c.requires.carrying.kept.stand.mounts c.drive_of-drive.ensures in
    let entry = c.push.ensures.value ∙ entry_is c.args.history.now.value c.args.at c.args.mount _ _ c.args.items.items c.args.fates.items c.moment_of-at.ensures by in
    let on = tape_is c.args.site.now c.args.history.now.value c.args.at c.args.mount _ c.args.items.items _ f c.requires.carrying.kept.stand.mounts c.tape_of-tape.ensures in
    let done : HasFlushedParts c.args.site.now c.args.history.now.value c.args.mount c.tape_of-tape.result c.args.items.items c.args.fates.items c.args.live.now c.args.parts.now c.put_items.new.table c.give_back.new.book.value c.end_jobs.new.book c.set_flags.new.buffer c.end_copies.new.buffer c.end_copies.new.repacks = record {
      told = c.requires.fates;
      jobs = c.requires.live;
      on = on;
      put = subst (λ (xs : List Item). HaveFlushed c.tape_of-tape.result (with_fates c.args.parts.now.book.value xs) c.args.parts.now.tapes.value c.put_items.new.table.value) c.as_slice-flushed.ensures c.put_items.ensures.flushed;
      sized = c.put_items.ensures.tapes;
      given = subst (λ (xs : List Item). TellSame (book_in c.give_back.new.book.value) (give_back_jobs (item_jobs xs) (book_in c.args.parts.now.book.value))) c.as_slice-flushed.ensures c.give_back.ensures;
      ended = c.end_jobs.ensures;
      flags =
          subst (λ (s : Site). HeldAgree c.set_flags.new.buffer.held.value (set_all (λ f. safe_in c.put_items.new.table.value (book_in c.end_jobs.new.book.value).archive f (copies_of_file s c.args.history.now.value f)) (job_files c.args.live.now) c.args.parts.now.buffer.held.value))
          c.site-rules.ensures c.set_flags.ensures.held;
      same = c.set_flags.ensures.contents;
      finished = c.end_copies.ensures.repacks;
      named = c.end_copies.ensures.names;
      pins = c.end_copies.ensures.pins;
      still = c.end_copies.ensures.contents;
    } in
    kept_as c.args.site.now _ _ _ entry
    (c.kept_parts_move.ensures c.args.site.now c.args.history.now.value (flush_entry c.args.history.now.value c.args.at c.args.mount c.args.items.items c.args.fates.items) c.args.parts.now _ c.requires.carrying.legal
    (longer c.args.site.now c.args.history.now.value c.args.at c.args.mount c.args.items.items c.args.fates.items c.args.parts.now f c.requires.carrying.kept c.requires.fates) c.requires.carrying.kept
    (flush_called c.args.site.now c.args.history.now.value c.args.at c.args.mount c.tape_of-tape.result c.args.items.items c.args.fates.items c.args.live.now c.args.parts.now c.put_items.new.table c.give_back.new.book.value c.end_jobs.new.book c.set_flags.new.buffer c.end_copies.new.buffer c.end_copies.new.repacks f
    c.requires.carrying.kept done))
