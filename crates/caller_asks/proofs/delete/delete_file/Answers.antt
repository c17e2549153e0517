use Rattle.std.proofs.Common.{◌≡◌, ◌∙◌, ◌<◌, ℕ, length, sym, ap, subst}
use Rattle.std.specs.Prelude.{Some}
use Rattle.cta_site.specs.WellFormed.{IsWellFormed}
use Rattle.cta_model.specs.Files.{copies_of_file, live_file}
use Rattle.cta_model.specs.History.{History}
use Rattle.part_laws.specs.QueueBooks.{jobs_of_file}
use Rattle.part_model.specs.JobRows.{book_in}
use Rattle.part_model.specs.Queues.{lines_in}
use Rattle.cta_model.specs.RepackItems.{waiting_for}
use Rattle.caller_asks.proofs.DeleteBody.{delete_carried}
use Rattle.caller_asks.proofs.DeleteCalls.{copies_are}
use Rattle.caller_asks.proofs.Ends.{jobs_are}
use Rattle.caller_asks.proofs.Stands.{all_stand}
use Rattle.caller_asks.proofs.Told.{copies_told, named_live, stand_told}
use Rattle.caller_asks.proofs.Waits.{entries_fit}
use Rattle.caller_asks.proofs.delete.delete_file.Goals as goal
use Rattle.part_moves.proofs.WaitLists.{waiting_fits}

pub ready_delete-requires : goal.ready_delete-requires
ready_delete-requires c =
    waiting_fits c.args.site.now c.args.history.now.value c.in-Some.file _ c.subscribers_wait.ensures c.stays_short.ensures c.requires.legal (subst IsWellFormed c.site.ensures c.keeps_rules.ensures.parts) (c.requires.kept.stand.jobs.book.recall c.in-Some.file)

pub leave_all-requires-clause-tapes : goal.leave_all-requires-clause-tapes
leave_all-requires-clause-tapes c =
    λ f d p is. subst (λ (n : ℕ). p.tape < n) (sym c.requires.kept.fit.recalls) (c.places_are_on_site.ensures c.args.site.now c.args.history.now.value c.requires.legal f d p (sym (c.requires.kept.stand.space.tapes.places f d) ∙ is))

pub leave_all-requires-clause-stand : goal.leave_all-requires-clause-stand
leave_all-requires-clause-stand c =
    let site = c.args.site.now in
    let h = c.args.history.now.value in
    let n = c.copies_of-copies.result in
    let live : live_file h c.args.path ≡ Some c.in-Some.file = named_live h c.args.parts.now.names c.args.path c.as_bytes.result.now c.in-Some.file c.requires.kept.stand.space.names c.in-Some.ensures c.as_bytes.ensures in
    let count : n ≡ copies_of_file site h c.in-Some.file = copies_are site h c.args.path c.in-Some.file n live (copies_told site c.site-2.result.now c.args.path c.as_bytes-2.result.now n c.copies_of-copies.ensures c.site-2.ensures c.as_bytes-2.ensures) in
    stand_told site c.site-3.result.now h c.ready_delete.new.history.value c.args.parts.now.tapes.value n (lines_in c.args.parts.now.pools.value) (lines_in c.args.parts.now.recalls.value) (jobs_of_file site h c.in-Some.file) c.as_slice-3.result.now
    c.site-3.ensures c.in-Ok.ensures.history (c.as_slice-3.ensures ∙ c.in-Ok.ensures.jobs ∙ jobs_are site h (book_in c.args.parts.now.book.value) c.in-Some.file n c.requires.kept.stand.jobs.book count)
    (all_stand site h c.args.parts.now.tapes.value c.in-Some.file n (lines_in c.args.parts.now.pools.value) (lines_in c.args.parts.now.recalls.value) c.requires.legal c.requires.kept.stand.jobs.pools c.requires.kept.stand.jobs.recalls c.requires.kept.stand.space.tapes.places count)

pub push-requires-clause-few : goal.push-requires-clause-few
push-requires-clause-few c = entries_fit c.args.site.now c.args.history.now.value _ c.stays_short.ensures c.requires.legal (subst IsWellFormed c.site.ensures c.keeps_rules.ensures.parts) (ap (λ (h : History). length h) c.in-Ok.ensures.history)

pub returns-clause-carried : goal.returns-clause-carried
returns-clause-carried c =
    let site = c.args.site.now in
    let h = c.args.history.now.value in
    let n = c.copies_of-copies.result in
    let live : live_file h c.args.path ≡ Some c.in-Some.file = named_live h c.args.parts.now.names c.args.path c.as_bytes.result.now c.in-Some.file c.requires.kept.stand.space.names c.in-Some.ensures c.as_bytes.ensures in
    let count : n ≡ copies_of_file site h c.in-Some.file = copies_are site h c.args.path c.in-Some.file n live (copies_told site c.site-2.result.now c.args.path c.as_bytes-2.result.now n c.copies_of-copies.ensures c.site-2.ensures c.as_bytes-2.ensures) in
    let listed = c.in-Ok.ensures.jobs ∙ jobs_are site h (book_in c.args.parts.now.book.value) c.in-Some.file n c.requires.kept.stand.jobs.book count in
    let waits = c.in-Ok.ensures.ids ∙ ap waiting_for (c.requires.kept.stand.jobs.book.recall c.in-Some.file) in
    delete_carried site h c.ready_delete.new.history.value c.push.new.self.value c.args.at c.moment_of-now.result c.args.who c.in-Ok.ready.actor c.args.path c.as_bytes-3.result.now c.in-Some.file n c.as_slice.result.now c.as_slice-2.result.now c.as_slice-3.result.now
    c.as_slice-4.result.now c.args.parts.now c.remove-named.new.self c.drop_file.new.self c.remove.new.self c.fail_all.new.requests c.end_writers.new.repacks c.end_readers.new.repacks c.end_all.new.book c.leave_all.new.pools c.leave_all.new.recalls c.take_file.new.self
    c.kept_parts_move.ensures c.requires live count c.moment_of-now.ensures c.as_bytes-3.ensures (c.as_slice.ensures ∙ waits) (c.as_slice-2.ensures ∙ waits) (c.as_slice-3.ensures ∙ listed) (c.as_slice-4.ensures ∙ listed)
    c.remove-named.ensures.removed c.drop_file.ensures.table c.drop_file.ensures.tapes c.remove.ensures.held c.remove.ensures.contents c.fail_all.ensures c.end_writers.ensures.gone c.end_writers.ensures.names c.end_readers.ensures.gone c.end_readers.ensures.names
    c.end_all.ensures c.leave_all.ensures.pools c.leave_all.ensures.pool_keys c.leave_all.ensures.recalls c.leave_all.ensures.tape_keys c.take_file.ensures.value c.push.ensures.value c.in-Ok.ensures.actor c.in-Ok.ensures.history
