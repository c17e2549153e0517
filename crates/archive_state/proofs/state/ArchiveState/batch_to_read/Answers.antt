use Rattle.std.proofs.Common.{◌≡◌, ◌∙◌, ◌≤◌, ℕ, List, [], length, sym, ap, subst}
use Rattle.std.specs.Prelude.{Ok, is_some, option_map}
use Rattle.cta_site.specs.declared.site.Limits.{Limits}
use Rattle.cta_site.specs.declared.site.Site.{Site}
use Rattle.cta_site.specs.declared.site.Tape.{Tape}
use Rattle.archive_state.proofs.Claimed.{open_there, row_opens}
use Rattle.archive_state.proofs.Now.{room_low}
use Rattle.archive_state.proofs.ToRead.{nothing_beyond, read_answered, read_batch_is, read_puts, read_size}
use Rattle.archive_state.proofs.state.ArchiveState.batch_to_read.Goals as goal

pub unreachable-requires : goal.unreachable-requires
unreachable-requires g c = open_there _ _ c.self.inside.parts c.args.mount _ c.self.invariant.parts (rw (← c.self.view_is) at c.requires.open) c.find.ensures.there (ap is_some c.in_default.is)

pub room_of-room-requires : goal.room_of-room-requires
room_of-room-requires g c = room_low c.buffer_has_room.ensures c.self.inside.site _ c.self.inside.parts c.moment_of.result (rw c.site-rules.ensures at c.keeps_rules.ensures.parts) c.self.invariant.legal c.self.invariant.parts

pub returns-then-row-tapes-clause-batch : goal.returns-then-row-tapes-clause-batch
returns-then-row-tapes-clause-batch g c =
    let found = sym c.find.ensures.row ∙ ap (option_map (λ row. row.now)) c.in-Some.is in
    let reads = rw (← c.self.view_is) at c.requires.reads in
    let row = row_opens _ _ c.self.inside.parts c.args.mount c.in-Some.row.now c.self.invariant.parts found in
    let all : length c.tapes.result.now ≡ length c.self.inside.site.tapes.items = ap (λ (ts : List Tape). length ts) c.tapes.ensures ∙ ap (λ (s : Site). length s.tapes.items) c.site-rules.ensures in
    let high : length c.self.inside.site.tapes.items ≤ c.in-Some.row.now.key = subst (λ (n : ℕ). n ≤ c.in-Some.row.now.key) all c.if-row-tapes.true in
    rw (← c.self.view_is)
    (read_answered {E = ℕ} _ _ c.args.at c.args.mount c.in-Some.row.now (Ok c.of.result) [] row.1 reads (c.of.ensures.items ∙ c.new.ensures.items)
    (nothing_beyond _ _ c.self.inside.parts c.args.at c.args.mount c.in-Some.row.now c.self.invariant.legal c.self.invariant.parts c.requires.at found reads high))

pub read_batch-requires : goal.read_batch-requires
read_batch-requires g c =
    let taken = c.in_ok-taken.ensures.jobs in
    read_puts c.job_file_has_put.ensures _ _ c.self.inside.parts c.in-Some.row.now.key c.limits-limits.result.batch_files c.room_of-room.result c.as_slice.result.now c.self.invariant.legal c.self.invariant.parts (c.as_slice.ensures ∙ taken)

pub returns-clause-batch : goal.returns-clause-batch
returns-clause-batch g c =
    let found = sym c.find.ensures.row ∙ ap (option_map (λ row. row.now)) c.in-Some.is in
    let limit = c.limits-limits.ensures.value ∙ ap (λ (s : Site). s.limits) c.site-rules.ensures in
    let taken = c.in_ok-taken.ensures.jobs in
    let reads = rw (← c.self.view_is) at c.requires.reads in
    let made = rw c.site-rules.ensures at c.read_batch.ensures in
    let row = row_opens _ _ c.self.inside.parts c.args.mount c.in-Some.row.now c.self.invariant.parts found in
    rw (← c.self.view_is)
    (read_answered _ _ c.args.at c.args.mount c.in-Some.row.now c.read_batch.result _ row.1 reads made
    (read_batch_is _ _ c.self.inside.parts c.args.at c.args.mount c.moment_of.result c.in-Some.row.now c.limits-limits.result.batch_files c.room_of-room.result c.as_slice.result.now c.self.invariant.legal c.self.invariant.parts c.requires.at found reads c.moment_of.ensures
    (ap (λ (l : Limits). l.batch_files) limit) c.room_of-room.ensures (c.as_slice.ensures ∙ taken)))

pub returns-then-row-tapes-clause-size : goal.returns-then-row-tapes-clause-size
returns-then-row-tapes-clause-size g c =
    let found = sym c.find.ensures.row ∙ ap (option_map (λ row. row.now)) c.in-Some.is in
    let reads = rw (← c.self.view_is) at c.requires.reads in
    let all : length c.tapes.result.now ≡ length c.self.inside.site.tapes.items = ap (λ (ts : List Tape). length ts) c.tapes.ensures ∙ ap (λ (s : Site). length s.tapes.items) c.site-rules.ensures in
    let high : length c.self.inside.site.tapes.items ≤ c.in-Some.row.now.key = subst (λ (n : ℕ). n ≤ c.in-Some.row.now.key) all c.if-row-tapes.true in
    read_size {E = ℕ} c.buffer_has_room.ensures _ _ c.self.inside.parts c.args.at c.in-Some.row.now.tape (Ok c.of.result) [] (rw c.site-rules.ensures at c.keeps_rules.ensures.parts) c.self.invariant.legal c.self.invariant.parts c.requires.at (c.of.ensures.items ∙ c.new.ensures.items)
    (nothing_beyond _ _ c.self.inside.parts c.args.at c.args.mount c.in-Some.row.now c.self.invariant.legal c.self.invariant.parts c.requires.at found reads high)

pub returns-clause-size : goal.returns-clause-size
returns-clause-size g c =
    let found = sym c.find.ensures.row ∙ ap (option_map (λ row. row.now)) c.in-Some.is in
    let limit = c.limits-limits.ensures.value ∙ ap (λ (s : Site). s.limits) c.site-rules.ensures in
    let taken = c.in_ok-taken.ensures.jobs in
    let reads = rw (← c.self.view_is) at c.requires.reads in
    let made = rw c.site-rules.ensures at c.read_batch.ensures in
    read_size c.buffer_has_room.ensures _ _ c.self.inside.parts c.args.at c.in-Some.row.now.tape c.read_batch.result _ (rw c.site-rules.ensures at c.keeps_rules.ensures.parts) c.self.invariant.legal c.self.invariant.parts c.requires.at made
    (read_batch_is _ _ c.self.inside.parts c.args.at c.args.mount c.moment_of.result c.in-Some.row.now c.limits-limits.result.batch_files c.room_of-room.result c.as_slice.result.now c.self.invariant.legal c.self.invariant.parts c.requires.at found reads c.moment_of.ensures
    (ap (λ (l : Limits). l.batch_files) limit) c.room_of-room.ensures (c.as_slice.ensures ∙ taken))
