use Rattle.std.proofs.Common.{◌∙◌, ◌-◌, ℕ, sym, ap}
use Rattle.std.specs.Prelude.{is_some, option_map}
use Rattle.cta_site.specs.declared.site.Limits.{Limits}
use Rattle.cta_site.specs.declared.site.Site.{Site}
use Rattle.archive_state.proofs.Batched.{batch_answered, batch_held, fseqs_low, have_puts, row_key, tape_room, written_batch_is}
use Rattle.archive_state.proofs.Claimed.{open_there, row_opens}
use Rattle.archive_state.proofs.state.ArchiveState.batch_to_write.Goals as goal

pub unreachable-requires : goal.unreachable-requires
unreachable-requires g c = open_there _ _ c.self.inside.parts c.args.mount _ c.self.invariant.parts (rw (← c.self.view_is) at c.requires.open) c.find.ensures.there (ap is_some c.in_default.is)

pub overflow_sub-room : goal.overflow_sub-room
overflow_sub-room g c =
    let found = sym c.find.ensures.row ∙ ap (option_map (λ row. row.now)) c.in-Some.is in
    tape_room c.tapes_have_room.ensures _ _ c.self.inside.parts c.args.mount c.in-Some.row.now c.row-tape.result c.capacity.result c.self.invariant.legal c.self.invariant.parts found (rw (← c.self.view_is) at c.requires.writes) c.row-tape.ensures c.capacity.ensures

pub taken_jobs-requires : goal.taken_jobs-requires
taken_jobs-requires g c =
    let found = sym c.find.ensures.row ∙ ap (option_map (λ row. row.now)) c.in-Some.is in
    record {
      key = row_key _ _ c.self.inside.parts c.args.mount c.in-Some.row.now (rw c.site-rules.ensures at c.keeps_rules.ensures.parts) c.self.invariant.legal c.self.invariant.parts found (rw (← c.self.view_is) at c.requires.writes);
    }

pub written_batch-requires-clause-puts : goal.written_batch-requires-clause-puts
written_batch-requires-clause-puts g c =
    let found = sym c.find.ensures.row ∙ ap (option_map (λ row. row.now)) c.in-Some.is in
    let limit = c.limits-limits.ensures.value ∙ ap (λ (s : Site). s.limits) c.site-rules.ensures in
    let taken = c.in_ok-taken.ensures.jobs in
    have_puts c.job_file_has_put.ensures _ _ c.args.at c.in-Some.row.now.tape c.row-tape.result.next c.as_slice.result.now c.self.invariant.legal
    (written_batch_is _ _ c.self.inside.parts c.args.at c.args.mount c.in-Some.row.now c.row-tape.result c.limits-limits.result.batch_files (c.capacity.result - c.row-tape.result.used) c.as_slice.result.now c.self.invariant.legal c.self.invariant.parts c.requires.at found
    (rw (← c.self.view_is) at c.requires.writes) c.row-tape.ensures (ap (λ (l : Limits). l.batch_files) limit) (ap (λ (n : ℕ). n - c.row-tape.result.used) c.capacity.ensures) (c.as_slice.ensures ∙ taken))

pub written_batch-requires-clause-fseqs : goal.written_batch-requires-clause-fseqs
written_batch-requires-clause-fseqs g c =
    let found = sym c.find.ensures.row ∙ ap (option_map (λ row. row.now)) c.in-Some.is in
    let limit = c.limits-limits.ensures.value ∙ ap (λ (s : Site). s.limits) c.site-rules.ensures in
    let taken = c.in_ok-taken.ensures.jobs in
    fseqs_low c.fseqs_are_low.ensures _ _ c.self.inside.parts c.args.mount c.in-Some.row.now c.row-tape.result c.limits-limits.result.batch_files (c.capacity.result - c.row-tape.result.used) c.as_slice.result.now _ (rw c.site-rules.ensures at c.keeps_rules.ensures.parts) c.self.invariant.legal
    c.self.invariant.parts found (rw (← c.self.view_is) at c.requires.writes) c.row-tape.ensures (ap (λ (l : Limits). l.batch_files) limit) (c.as_slice.ensures ∙ taken)

pub returns-clause-batch : goal.returns-clause-batch
returns-clause-batch g c =
    let found = sym c.find.ensures.row ∙ ap (option_map (λ row. row.now)) c.in-Some.is in
    let limit = c.limits-limits.ensures.value ∙ ap (λ (s : Site). s.limits) c.site-rules.ensures in
    let taken = c.in_ok-taken.ensures.jobs in
    let writes = rw (← c.self.view_is) at c.requires.writes in
    let row = row_opens _ _ c.self.inside.parts c.args.mount c.in-Some.row.now c.self.invariant.parts found in
    rw (← c.self.view_is)
    (batch_answered _ _ c.args.at c.args.mount c.in-Some.row.now c.written_batch.result _ row.1 writes c.written_batch.ensures
    (written_batch_is _ _ c.self.inside.parts c.args.at c.args.mount c.in-Some.row.now c.row-tape.result c.limits-limits.result.batch_files (c.capacity.result - c.row-tape.result.used) c.as_slice.result.now c.self.invariant.legal c.self.invariant.parts c.requires.at found writes
    c.row-tape.ensures (ap (λ (l : Limits). l.batch_files) limit) (ap (λ (n : ℕ). n - c.row-tape.result.used) c.capacity.ensures) (c.as_slice.ensures ∙ taken)))

pub returns-clause-held : goal.returns-clause-held
returns-clause-held g c =
    let found = sym c.find.ensures.row ∙ ap (option_map (λ row. row.now)) c.in-Some.is in
    let limit = c.limits-limits.ensures.value ∙ ap (λ (s : Site). s.limits) c.site-rules.ensures in
    let taken = c.in_ok-taken.ensures.jobs in
    let writes = rw (← c.self.view_is) at c.requires.writes in
    rw (← c.self.view_is)
    (batch_held c.archive_is_resident.ensures _ _ c.args.at c.in-Some.row.now.tape c.row-tape.result.next c.as_slice.result.now c.written_batch.result c.self.invariant.legal
    (written_batch_is _ _ c.self.inside.parts c.args.at c.args.mount c.in-Some.row.now c.row-tape.result c.limits-limits.result.batch_files (c.capacity.result - c.row-tape.result.used) c.as_slice.result.now c.self.invariant.legal c.self.invariant.parts c.requires.at found writes
    c.row-tape.ensures (ap (λ (l : Limits). l.batch_files) limit) (ap (λ (n : ℕ). n - c.row-tape.result.used) c.capacity.ensures) (c.as_slice.ensures ∙ taken))
    c.written_batch.ensures)
