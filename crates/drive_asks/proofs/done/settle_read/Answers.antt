use Rattle.std.proofs.Common.{◌≡◌, ◌∙◌, ◌+◌, ◌*◌, ◌≤◌, List, ap, arith, length}
use Rattle.std.specs.List.{flat_map}
use Rattle.blob.specs.declared.sum.Sum256.{Sum256}
use Rattle.blob.specs.Sums.{sum_of}
use Rattle.cta_model.specs.declared.asks.Direction.TheVariants as direction
use Rattle.cta_model.specs.History.{History, has_number}
use Rattle.part_model.specs.declared.space.Resident.{Resident}
use Rattle.part_model.specs.Held.{bytes_of, numbers}
use Rattle.part_model.specs.Queues.{lines_in}
use Rattle.part_laws.specs.Lines.{add_jobs}
use Rattle.repack_book.specs.NamedRepacks.{repacks_of}
use Rattle.drive_asks.specs.Reading.{born_of, pins_by}
use Rattle.drive_asks.proofs.ArrivalPins.{pinned_same}
use Rattle.drive_asks.proofs.DoneFacts.{done_live_is, done_low, done_there}
use Rattle.drive_asks.proofs.DoneReads.{done_called}
use Rattle.drive_asks.proofs.done.settle_read.Goals as goal

pub bring_in-requires-clause-room : goal.bring_in-requires-clause-room
bring_in-requires-clause-room c =
    let room : c.args.parts.now.buffer.held.room ≤ c.pin_all_of.new.buffer.held.room + 2 * length c.as_slice-ids.result.now = c.pin_all_of.ensures.room in
    let ids : length c.as_slice-ids.result.now ≡ length c.args.found.now.ids.items = ap length c.as_slice-ids.ensures in
    omega (arith, c.requires.files)

pub bring_in-requires-clause-aside : goal.bring_in-requires-clause-aside
bring_in-requires-clause-aside c =
    let same = pinned_same (flat_map (pins_by c.complete_all.new.requests (repacks_of c.mark_repacks.new.repacks) c.args.job.file) c.as_slice-ids.result.now) c.args.parts.now.buffer.held.value c.pin_all_of.new.buffer.held.value c.pin_all_of.ensures.held in
    let len : c.sum-len.result.len ≡ length c.args.blob.value = ap (λ (s : Sum256). s.len) (c.sum-len.ensures ∙ ap sum_of c.deref.ensures) in
    omega (arith, c.requires.aside, same.1)

pub bring_in-requires-clause-lacks : goal.bring_in-requires-clause-lacks
bring_in-requires-clause-lacks c =
    let same = pinned_same (flat_map (pins_by c.complete_all.new.requests (repacks_of c.mark_repacks.new.repacks) c.args.job.file) c.as_slice-ids.result.now) c.args.parts.now.buffer.held.value c.pin_all_of.new.buffer.held.value c.pin_all_of.ensures.held in
    ap (λ (rs : List Resident). has_number c.args.job.file (numbers rs)) same.0 ∙ c.requires.lacks

pub bring_in-requires-clause-fits : goal.bring_in-requires-clause-fits
bring_in-requires-clause-fits c =
    let same = pinned_same (flat_map (pins_by c.complete_all.new.requests (repacks_of c.mark_repacks.new.repacks) c.args.job.file) c.as_slice-ids.result.now) c.args.parts.now.buffer.held.value c.pin_all_of.new.buffer.held.value c.pin_all_of.ensures.held in
    let files : bytes_of c.pin_all_of.new.buffer.held.value.files ≡ bytes_of c.args.parts.now.buffer.held.value.files = ap bytes_of same.0 in
    omega (arith, c.requires.fits, same.1)

pub returns : goal.returns
returns c =
    λ h t m legal is at kept number content count waits reads.
    done_called c.args.site.now h t m c.args.job c.args.parts.now c.args.at c.args.number c.args.found.now.copies c.sum-len.result.len c.as_slice-ids.result.now c.as_slice-born.result.now (sum_of c.args.blob.value) c.is_safe-safe.result c.complete_all.new.requests
    c.mark_repacks.new.repacks c.give_back.new.self c.end.new.self c.bear_all.new.book c.queue_all.new.pools c.pin_all_of.new.buffer c.bring_in.new.buffer
    (record {
      legal = legal;
      kept = kept;
      live = done_live_is c.args.site.now h t m c.args.job legal;
      there = done_there c.args.site.now h t m c.args.job legal;
      low = done_low c.args.site.now h t m c.args.job legal;
      moment = at;
      number = number;
      content = content;
      length_is = ap (λ (s : Sum256). s.len) (c.sum-len.ensures ∙ ap sum_of c.deref.ensures);
      count = count;
      waits = c.as_slice-ids.ensures ∙ waits;
      reads = c.as_slice-born.ensures.value ∙ reads;
      completed = c.complete_all.ensures;
      marked = c.mark_repacks.ensures.repacks;
      named = c.mark_repacks.ensures.names;
      gave = c.give_back.ensures.book;
      over = c.end.ensures.book;
      bore = c.bear_all.ensures;
      lines = λ k. c.queue_all.ensures.lines k ∙ ap (λ (g : History). add_jobs c.args.site.now g direction.Archive (born_of c.args.number c.args.job.file c.as_slice-born.result.now) (lines_in c.args.parts.now.pools.value) k) is;
      keys = c.queue_all.ensures.keys;
      flag = c.is_safe-safe.ensures;
      entered = c.bring_in.ensures.held;
      stored = c.bring_in.ensures.contents;
      pinned = c.pin_all_of.ensures.held;
      still = c.pin_all_of.ensures.contents;
    })
