use Rattle.std.proofs.Common.{◌≡◌, ◌∙◌, ◌+◌, ◌*◌, ◌<◌, ◌≤◌, ◌^◌, ℕ, List, ◌++◌, length, sym, ap, subst, arith, true, false}
use Rattle.std.specs.List.{AllByRecursion}
use Rattle.cta_site.specs.declared.site.Site.{Site}
use Rattle.cta_site.specs.ValidSite.{IsValidSite}
use Rattle.cta_site.specs.WellFormed.{IsWellFormed}
use Rattle.cta_model.specs.declared.answers.Answer.TheVariants as answer
use Rattle.cta_model.specs.declared.asks.Direction.TheVariants as direction
use Rattle.cta_model.specs.declared.asks.Job.{Job}
use Rattle.cta_model.specs.Answers.{names_twice}
use Rattle.cta_model.specs.History.{History, entry_of}
use Rattle.cta_model.specs.Mounts.{has_job}
use Rattle.cta_model.specs.Queues.{key_of}
use Rattle.cta_laws.specs.Claims.{size_of_jobs}
use Rattle.kept_history.specs.Puts.{is_put}
use Rattle.job_queues.specs.Waiting.{bytes_of}
use Rattle.cta_model.specs.Files.{copies_of_file}
use Rattle.part_model.specs.Held.{HeldAgree, set_all}
use Rattle.part_model.specs.Tapes.{safe_in}
use Rattle.part_model.specs.JobBook.{TellSame, charge_jobs, end_jobs, give_back_jobs}
use Rattle.part_model.specs.JobRows.{book_in}
use Rattle.part_model.specs.Queues.{lines_in}
use Rattle.part_laws.specs.Lines.{line_of}
use Rattle.part_moves.specs.Flags.{job_files}
use Rattle.fault_asks.specs.Failing.{CanQueue, add_by, jobs_live}
use Rattle.archive_parts.proofs.Behind.{kept_behind}
use Rattle.fault_asks.proofs.FailFacts.{IsFailure, done_is, failed, entries_fit, opened, small_files}
use Rattle.part_moves.proofs.MountRows.{row_there}
use Rattle.fault_asks.proofs.WriteFacts.{IsWrite, can_fail, charged_copies, charged_fits, charged_once, charged_puts, charged_queue, charges_few, ended_few, returned_copies, returned_fits, returned_puts, returned_queue, sizes_fit, tape_low, writes_way}
use Rattle.fault_asks.proofs.WrittenCalls.{IsWritten, written_called}
use Rattle.fault_asks.proofs.writes.carry_out.Goals as goal

pub mount_at-mounted-requires : goal.mount_at-mounted-requires
mount_at-mounted-requires c =
    let f : IsFailure c.args.site.now c.args.history.now.value c.args.at c.args.mount c.args.fault c.args.charged.items c.args.returned.items = record { legal = c.requires.carrying.legal; within = c.requires.carrying.at; fit = c.requires.carrying.fit; accepted = c.requires.carrying.accepted } in
    row_there c.args.site.now c.args.history.now.value c.args.parts.now.mounts.value.rows c.args.mount c.requires.carrying.kept.stand.mounts (opened c.args.site.now c.args.history.now.value c.args.at c.args.mount c.args.fault c.args.charged.items c.args.returned.items f)

pub bytes_of-requires-clause-puts : goal.bytes_of-requires-clause-puts
bytes_of-requires-clause-puts c =
    let f : IsFailure c.args.site.now c.args.history.now.value c.args.at c.args.mount c.args.fault c.args.charged.items c.args.returned.items = record { legal = c.requires.carrying.legal; within = c.requires.carrying.at; fit = c.requires.carrying.fit; accepted = c.requires.carrying.accepted } in
    let w : IsWrite c.args.site.now c.args.history.now.value c.args.at c.args.mount c.args.fault c.args.charged.items c.args.returned.items c.args.ended.now c.mount_at-mounted.result c.args.parts.now = record {
      failure = f;
      valid = subst IsValidSite c.site-rules.ensures c.keeps_rules.ensures.valid;
      good = subst IsWellFormed c.site-rules.ensures c.keeps_rules.ensures.parts;
      kept = c.requires.carrying.kept;
      mount = c.mount_at-mounted.ensures c.args.site.now c.args.history.now.value c.requires.carrying.kept.stand.mounts;
      way = c.requires.writes;
      over = c.requires.ended;
    } in
    subst (λ (js : List Job). AllByRecursion (λ (j : Job). is_put (entry_of c.args.history.now.value j.file) ≡ true) js) (sym c.as_slice-fewer.ensures) (charged_puts c.args.site.now c.args.history.now.value c.args.at c.args.mount c.args.fault c.args.charged.items c.args.returned.items c.args.ended.now c.mount_at-mounted.result c.args.parts.now w)

pub bytes_of-requires-clause-fits : goal.bytes_of-requires-clause-fits
bytes_of-requires-clause-fits c =
    let f : IsFailure c.args.site.now c.args.history.now.value c.args.at c.args.mount c.args.fault c.args.charged.items c.args.returned.items = record { legal = c.requires.carrying.legal; within = c.requires.carrying.at; fit = c.requires.carrying.fit; accepted = c.requires.carrying.accepted } in
    let w : IsWrite c.args.site.now c.args.history.now.value c.args.at c.args.mount c.args.fault c.args.charged.items c.args.returned.items c.args.ended.now c.mount_at-mounted.result c.args.parts.now = record {
      failure = f;
      valid = subst IsValidSite c.site-rules.ensures c.keeps_rules.ensures.valid;
      good = subst IsWellFormed c.site-rules.ensures c.keeps_rules.ensures.parts;
      kept = c.requires.carrying.kept;
      mount = c.mount_at-mounted.ensures c.args.site.now c.args.history.now.value c.requires.carrying.kept.stand.mounts;
      way = c.requires.writes;
      over = c.requires.ended;
    } in
    subst (λ (js : List Job). size_of_jobs c.args.history.now.value js < 2 ^ 64) (sym c.as_slice-fewer.ensures) (sizes_fit c.args.site.now c.args.history.now.value c.args.at c.args.mount c.args.fault c.args.charged.items c.args.returned.items c.args.ended.now c.mount_at-mounted.result c.args.parts.now w c.files_fit_buffer.ensures).0

pub bytes_of-requires-2-clause-puts : goal.bytes_of-requires-2-clause-puts
bytes_of-requires-2-clause-puts c =
    let f : IsFailure c.args.site.now c.args.history.now.value c.args.at c.args.mount c.args.fault c.args.charged.items c.args.returned.items = record { legal = c.requires.carrying.legal; within = c.requires.carrying.at; fit = c.requires.carrying.fit; accepted = c.requires.carrying.accepted } in
    let w : IsWrite c.args.site.now c.args.history.now.value c.args.at c.args.mount c.args.fault c.args.charged.items c.args.returned.items c.args.ended.now c.mount_at-mounted.result c.args.parts.now = record {
      failure = f;
      valid = subst IsValidSite c.site-rules.ensures c.keeps_rules.ensures.valid;
      good = subst IsWellFormed c.site-rules.ensures c.keeps_rules.ensures.parts;
      kept = c.requires.carrying.kept;
      mount = c.mount_at-mounted.ensures c.args.site.now c.args.history.now.value c.requires.carrying.kept.stand.mounts;
      way = c.requires.writes;
      over = c.requires.ended;
    } in
    subst (λ (js : List Job). AllByRecursion (λ (j : Job). is_put (entry_of c.args.history.now.value j.file) ≡ true) js) (sym c.as_slice-others.ensures) (returned_puts c.args.site.now c.args.history.now.value c.args.at c.args.mount c.args.fault c.args.charged.items c.args.returned.items c.args.ended.now c.mount_at-mounted.result c.args.parts.now w)

pub bytes_of-requires-2-clause-fits : goal.bytes_of-requires-2-clause-fits
bytes_of-requires-2-clause-fits c =
    let f : IsFailure c.args.site.now c.args.history.now.value c.args.at c.args.mount c.args.fault c.args.charged.items c.args.returned.items = record { legal = c.requires.carrying.legal; within = c.requires.carrying.at; fit = c.requires.carrying.fit; accepted = c.requires.carrying.accepted } in
    let w : IsWrite c.args.site.now c.args.history.now.value c.args.at c.args.mount c.args.fault c.args.charged.items c.args.returned.items c.args.ended.now c.mount_at-mounted.result c.args.parts.now = record {
      failure = f;
      valid = subst IsValidSite c.site-rules.ensures c.keeps_rules.ensures.valid;
      good = subst IsWellFormed c.site-rules.ensures c.keeps_rules.ensures.parts;
      kept = c.requires.carrying.kept;
      mount = c.mount_at-mounted.ensures c.args.site.now c.args.history.now.value c.requires.carrying.kept.stand.mounts;
      way = c.requires.writes;
      over = c.requires.ended;
    } in
    subst (λ (js : List Job). size_of_jobs c.args.history.now.value js < 2 ^ 64) (sym c.as_slice-others.ensures) (sizes_fit c.args.site.now c.args.history.now.value c.args.at c.args.mount c.args.fault c.args.charged.items c.args.returned.items c.args.ended.now c.mount_at-mounted.result c.args.parts.now w c.files_fit_buffer.ensures).1

pub overflow_add-bytes : goal.overflow_add-bytes
overflow_add-bytes c =
    let f : IsFailure c.args.site.now c.args.history.now.value c.args.at c.args.mount c.args.fault c.args.charged.items c.args.returned.items = record { legal = c.requires.carrying.legal; within = c.requires.carrying.at; fit = c.requires.carrying.fit; accepted = c.requires.carrying.accepted } in
    let w : IsWrite c.args.site.now c.args.history.now.value c.args.at c.args.mount c.args.fault c.args.charged.items c.args.returned.items c.args.ended.now c.mount_at-mounted.result c.args.parts.now = record {
      failure = f;
      valid = subst IsValidSite c.site-rules.ensures c.keeps_rules.ensures.valid;
      good = subst IsWellFormed c.site-rules.ensures c.keeps_rules.ensures.parts;
      kept = c.requires.carrying.kept;
      mount = c.mount_at-mounted.ensures c.args.site.now c.args.history.now.value c.requires.carrying.kept.stand.mounts;
      way = c.requires.writes;
      over = c.requires.ended;
    } in
    let a : c.bytes_of.result ≡ size_of_jobs c.args.history.now.value c.args.charged.items = c.bytes_of.ensures ∙ ap (size_of_jobs c.args.history.now.value) c.as_slice-fewer.ensures in
    let b : c.bytes_of-2.result ≡ size_of_jobs c.args.history.now.value c.args.returned.items = c.bytes_of-2.ensures ∙ ap (size_of_jobs c.args.history.now.value) c.as_slice-others.ensures in
    let fits : size_of_jobs c.args.history.now.value c.args.charged.items + size_of_jobs c.args.history.now.value c.args.returned.items < 2 ^ 64 = (sizes_fit c.args.site.now c.args.history.now.value c.args.at c.args.mount c.args.fault c.args.charged.items c.args.returned.items c.args.ended.now c.mount_at-mounted.result c.args.parts.now w c.files_fit_buffer.ensures).2 in
    omega (arith, a, b, fits)

pub add_failed-requires-clause-room : goal.add_failed-requires-clause-room
add_failed-requires-clause-room c =
    let f : IsFailure c.args.site.now c.args.history.now.value c.args.at c.args.mount c.args.fault c.args.charged.items c.args.returned.items = record { legal = c.requires.carrying.legal; within = c.requires.carrying.at; fit = c.requires.carrying.fit; accepted = c.requires.carrying.accepted } in
    let w : IsWrite c.args.site.now c.args.history.now.value c.args.at c.args.mount c.args.fault c.args.charged.items c.args.returned.items c.args.ended.now c.mount_at-mounted.result c.args.parts.now = record {
      failure = f;
      valid = subst IsValidSite c.site-rules.ensures c.keeps_rules.ensures.valid;
      good = subst IsWellFormed c.site-rules.ensures c.keeps_rules.ensures.parts;
      kept = c.requires.carrying.kept;
      mount = c.mount_at-mounted.ensures c.args.site.now c.args.history.now.value c.requires.carrying.kept.stand.mounts;
      way = c.requires.writes;
      over = c.requires.ended;
    } in
    let few : length c.args.ended.now ≤ length c.args.charged.items = ended_few c.args.site.now c.args.history.now.value c.args.at c.args.mount c.args.fault c.args.charged.items c.args.returned.items c.args.ended.now c.mount_at-mounted.result c.args.parts.now w in let room = c.requires.failed in omega (arith, few, room)

pub add_failed-requires-clause-apart : goal.add_failed-requires-clause-apart
add_failed-requires-clause-apart c =
    let f : IsFailure c.args.site.now c.args.history.now.value c.args.at c.args.mount c.args.fault c.args.charged.items c.args.returned.items = record { legal = c.requires.carrying.legal; within = c.requires.carrying.at; fit = c.requires.carrying.fit; accepted = c.requires.carrying.accepted } in
    let w : IsWrite c.args.site.now c.args.history.now.value c.args.at c.args.mount c.args.fault c.args.charged.items c.args.returned.items c.args.ended.now c.mount_at-mounted.result c.args.parts.now = record {
      failure = f;
      valid = subst IsValidSite c.site-rules.ensures c.keeps_rules.ensures.valid;
      good = subst IsWellFormed c.site-rules.ensures c.keeps_rules.ensures.parts;
      kept = c.requires.carrying.kept;
      mount = c.mount_at-mounted.ensures c.args.site.now c.args.history.now.value c.requires.carrying.kept.stand.mounts;
      way = c.requires.writes;
      over = c.requires.ended;
    } in
    can_fail c.args.site.now c.args.history.now.value c.args.at c.args.mount c.args.fault c.args.charged.items c.args.returned.items c.args.ended.now c.mount_at-mounted.result c.args.parts.now w

pub unclaim-requires : goal.unclaim-requires
unclaim-requires c =
    let f : IsFailure c.args.site.now c.args.history.now.value c.args.at c.args.mount c.args.fault c.args.charged.items c.args.returned.items = record { legal = c.requires.carrying.legal; within = c.requires.carrying.at; fit = c.requires.carrying.fit; accepted = c.requires.carrying.accepted } in
    let w : IsWrite c.args.site.now c.args.history.now.value c.args.at c.args.mount c.args.fault c.args.charged.items c.args.returned.items c.args.ended.now c.mount_at-mounted.result c.args.parts.now = record {
      failure = f;
      valid = subst IsValidSite c.site-rules.ensures c.keeps_rules.ensures.valid;
      good = subst IsWellFormed c.site-rules.ensures c.keeps_rules.ensures.parts;
      kept = c.requires.carrying.kept;
      mount = c.mount_at-mounted.ensures c.args.site.now c.args.history.now.value c.requires.carrying.kept.stand.mounts;
      way = c.requires.writes;
      over = c.requires.ended;
    } in
    tape_low c.args.site.now c.args.history.now.value c.args.at c.args.mount c.args.fault c.args.charged.items c.args.returned.items c.args.ended.now c.mount_at-mounted.result c.args.parts.now w

pub resolve-requires-clause-once : goal.resolve-requires-clause-once
resolve-requires-clause-once c =
    let f : IsFailure c.args.site.now c.args.history.now.value c.args.at c.args.mount c.args.fault c.args.charged.items c.args.returned.items = record { legal = c.requires.carrying.legal; within = c.requires.carrying.at; fit = c.requires.carrying.fit; accepted = c.requires.carrying.accepted } in
    let w : IsWrite c.args.site.now c.args.history.now.value c.args.at c.args.mount c.args.fault c.args.charged.items c.args.returned.items c.args.ended.now c.mount_at-mounted.result c.args.parts.now = record {
      failure = f;
      valid = subst IsValidSite c.site-rules.ensures c.keeps_rules.ensures.valid;
      good = subst IsWellFormed c.site-rules.ensures c.keeps_rules.ensures.parts;
      kept = c.requires.carrying.kept;
      mount = c.mount_at-mounted.ensures c.args.site.now c.args.history.now.value c.requires.carrying.kept.stand.mounts;
      way = c.requires.writes;
      over = c.requires.ended;
    } in
    subst (λ (js : List Job). names_twice js ≡ false) (sym c.as_slice-fewer.ensures) (charged_once c.args.site.now c.args.history.now.value c.args.at c.args.mount c.args.fault c.args.charged.items c.args.returned.items c.args.ended.now c.mount_at-mounted.result c.args.parts.now w)

pub resolve-requires-clause-few : goal.resolve-requires-clause-few
resolve-requires-clause-few c =
    let f : IsFailure c.args.site.now c.args.history.now.value c.args.at c.args.mount c.args.fault c.args.charged.items c.args.returned.items = record { legal = c.requires.carrying.legal; within = c.requires.carrying.at; fit = c.requires.carrying.fit; accepted = c.requires.carrying.accepted } in
    let w : IsWrite c.args.site.now c.args.history.now.value c.args.at c.args.mount c.args.fault c.args.charged.items c.args.returned.items c.args.ended.now c.mount_at-mounted.result c.args.parts.now = record {
      failure = f;
      valid = subst IsValidSite c.site-rules.ensures c.keeps_rules.ensures.valid;
      good = subst IsWellFormed c.site-rules.ensures c.keeps_rules.ensures.parts;
      kept = c.requires.carrying.kept;
      mount = c.mount_at-mounted.ensures c.args.site.now c.args.history.now.value c.requires.carrying.kept.stand.mounts;
      way = c.requires.writes;
      over = c.requires.ended;
    } in
    λ j there. charges_few c.args.site.now c.args.history.now.value c.args.at c.args.mount c.args.fault c.args.charged.items c.args.returned.items c.args.ended.now c.mount_at-mounted.result c.args.parts.now w j (subst (λ (js : List Job). has_job j js ≡ true) c.as_slice-fewer.ensures there)

pub queue_writes-requires-clause-writes : goal.queue_writes-requires-clause-writes
queue_writes-requires-clause-writes c =
    let f : IsFailure c.args.site.now c.args.history.now.value c.args.at c.args.mount c.args.fault c.args.charged.items c.args.returned.items = record { legal = c.requires.carrying.legal; within = c.requires.carrying.at; fit = c.requires.carrying.fit; accepted = c.requires.carrying.accepted } in
    let w : IsWrite c.args.site.now c.args.history.now.value c.args.at c.args.mount c.args.fault c.args.charged.items c.args.returned.items c.args.ended.now c.mount_at-mounted.result c.args.parts.now = record {
      failure = f;
      valid = subst IsValidSite c.site-rules.ensures c.keeps_rules.ensures.valid;
      good = subst IsWellFormed c.site-rules.ensures c.keeps_rules.ensures.parts;
      kept = c.requires.carrying.kept;
      mount = c.mount_at-mounted.ensures c.args.site.now c.args.history.now.value c.requires.carrying.kept.stand.mounts;
      way = c.requires.writes;
      over = c.requires.ended;
    } in
    subst (λ (js : List Job). AllByRecursion (λ (j : Job). 1 ≤ j.copy) js) (sym c.as_slice-others.ensures) (returned_copies c.args.site.now c.args.history.now.value c.args.at c.args.mount c.args.fault c.args.charged.items c.args.returned.items c.args.ended.now c.mount_at-mounted.result c.args.parts.now w)

pub queue_writes-requires-clause-jobs : goal.queue_writes-requires-clause-jobs
queue_writes-requires-clause-jobs c =
    let f : IsFailure c.args.site.now c.args.history.now.value c.args.at c.args.mount c.args.fault c.args.charged.items c.args.returned.items = record { legal = c.requires.carrying.legal; within = c.requires.carrying.at; fit = c.requires.carrying.fit; accepted = c.requires.carrying.accepted } in
    let w : IsWrite c.args.site.now c.args.history.now.value c.args.at c.args.mount c.args.fault c.args.charged.items c.args.returned.items c.args.ended.now c.mount_at-mounted.result c.args.parts.now = record {
      failure = f;
      valid = subst IsValidSite c.site-rules.ensures c.keeps_rules.ensures.valid;
      good = subst IsWellFormed c.site-rules.ensures c.keeps_rules.ensures.parts;
      kept = c.requires.carrying.kept;
      mount = c.mount_at-mounted.ensures c.args.site.now c.args.history.now.value c.requires.carrying.kept.stand.mounts;
      way = c.requires.writes;
      over = c.requires.ended;
    } in
    let resolved : TellSame (book_in c.resolve.new.book.value) (end_jobs c.args.ended.now (charge_jobs c.args.charged.items (record { drive = c.mount_at-mounted.result.drive; tape = c.mount_at-mounted.result.tape; fault = c.args.fault }) (give_back_jobs (c.args.charged.items ++ c.args.returned.items) (book_in c.args.parts.now.book.value)))) =
    rw (c.as_slice-fewer.ensures, c.as_slice-others.ensures) at c.resolve.ensures in
    subst (λ (s : Site). CanQueue s c.args.history.now.value (book_in c.resolve.new.book.value) (lines_in c.args.parts.now.pools.value) c.as_slice-others.result.now) (sym c.site-rules.ensures) (subst (λ (js : List Job). CanQueue c.args.site.now c.args.history.now.value (book_in c.resolve.new.book.value) (lines_in c.args.parts.now.pools.value) js) (sym c.as_slice-others.ensures) (returned_queue c.args.site.now c.args.history.now.value c.args.at c.args.mount c.args.fault c.args.charged.items c.args.returned.items c.args.ended.now c.mount_at-mounted.result c.args.parts.now w c.resolve.new.book.value resolved))

pub queue_writes-requires-clause-small : goal.queue_writes-requires-clause-small
queue_writes-requires-clause-small c =
    let f : IsFailure c.args.site.now c.args.history.now.value c.args.at c.args.mount c.args.fault c.args.charged.items c.args.returned.items = record { legal = c.requires.carrying.legal; within = c.requires.carrying.at; fit = c.requires.carrying.fit; accepted = c.requires.carrying.accepted } in
    let w : IsWrite c.args.site.now c.args.history.now.value c.args.at c.args.mount c.args.fault c.args.charged.items c.args.returned.items c.args.ended.now c.mount_at-mounted.result c.args.parts.now = record {
      failure = f;
      valid = subst IsValidSite c.site-rules.ensures c.keeps_rules.ensures.valid;
      good = subst IsWellFormed c.site-rules.ensures c.keeps_rules.ensures.parts;
      kept = c.requires.carrying.kept;
      mount = c.mount_at-mounted.ensures c.args.site.now c.args.history.now.value c.requires.carrying.kept.stand.mounts;
      way = c.requires.writes;
      over = c.requires.ended;
    } in
    small_files c.files_fit_buffer.ensures c.args.site.now c.args.history.now.value w.good f.legal

pub queue_writes-requires-clause-fits : goal.queue_writes-requires-clause-fits
queue_writes-requires-clause-fits c =
    let f : IsFailure c.args.site.now c.args.history.now.value c.args.at c.args.mount c.args.fault c.args.charged.items c.args.returned.items = record { legal = c.requires.carrying.legal; within = c.requires.carrying.at; fit = c.requires.carrying.fit; accepted = c.requires.carrying.accepted } in
    let w : IsWrite c.args.site.now c.args.history.now.value c.args.at c.args.mount c.args.fault c.args.charged.items c.args.returned.items c.args.ended.now c.mount_at-mounted.result c.args.parts.now = record {
      failure = f;
      valid = subst IsValidSite c.site-rules.ensures c.keeps_rules.ensures.valid;
      good = subst IsWellFormed c.site-rules.ensures c.keeps_rules.ensures.parts;
      kept = c.requires.carrying.kept;
      mount = c.mount_at-mounted.ensures c.args.site.now c.args.history.now.value c.requires.carrying.kept.stand.mounts;
      way = c.requires.writes;
      over = c.requires.ended;
    } in
    let resolved : TellSame (book_in c.resolve.new.book.value) (end_jobs c.args.ended.now (charge_jobs c.args.charged.items (record { drive = c.mount_at-mounted.result.drive; tape = c.mount_at-mounted.result.tape; fault = c.args.fault }) (give_back_jobs (c.args.charged.items ++ c.args.returned.items) (book_in c.args.parts.now.book.value)))) =
    rw (c.as_slice-fewer.ensures, c.as_slice-others.ensures) at c.resolve.ensures in
    λ k. subst (λ (js : List Job). bytes_of (lines_in c.args.parts.now.pools.value k) + 2147483648 * length js < 2 ^ 64) (sym c.as_slice-others.ensures) (returned_fits c.args.site.now c.args.history.now.value c.args.at c.args.mount c.args.fault c.args.charged.items c.args.returned.items c.args.ended.now c.mount_at-mounted.result c.args.parts.now w c.resolve.new.book.value resolved c.lines_are_small.ensures k)

pub queue_writes-requires-2-clause-writes : goal.queue_writes-requires-2-clause-writes
queue_writes-requires-2-clause-writes c =
    let f : IsFailure c.args.site.now c.args.history.now.value c.args.at c.args.mount c.args.fault c.args.charged.items c.args.returned.items = record { legal = c.requires.carrying.legal; within = c.requires.carrying.at; fit = c.requires.carrying.fit; accepted = c.requires.carrying.accepted } in
    let w : IsWrite c.args.site.now c.args.history.now.value c.args.at c.args.mount c.args.fault c.args.charged.items c.args.returned.items c.args.ended.now c.mount_at-mounted.result c.args.parts.now = record {
      failure = f;
      valid = subst IsValidSite c.site-rules.ensures c.keeps_rules.ensures.valid;
      good = subst IsWellFormed c.site-rules.ensures c.keeps_rules.ensures.parts;
      kept = c.requires.carrying.kept;
      mount = c.mount_at-mounted.ensures c.args.site.now c.args.history.now.value c.requires.carrying.kept.stand.mounts;
      way = c.requires.writes;
      over = c.requires.ended;
    } in
    subst (λ (js : List Job). AllByRecursion (λ (j : Job). 1 ≤ j.copy) js) (sym c.as_slice-fewer.ensures) (charged_copies c.args.site.now c.args.history.now.value c.args.at c.args.mount c.args.fault c.args.charged.items c.args.returned.items c.args.ended.now c.mount_at-mounted.result c.args.parts.now w)

pub queue_writes-requires-2-clause-jobs : goal.queue_writes-requires-2-clause-jobs
queue_writes-requires-2-clause-jobs c =
    let f : IsFailure c.args.site.now c.args.history.now.value c.args.at c.args.mount c.args.fault c.args.charged.items c.args.returned.items = record { legal = c.requires.carrying.legal; within = c.requires.carrying.at; fit = c.requires.carrying.fit; accepted = c.requires.carrying.accepted } in
    let w : IsWrite c.args.site.now c.args.history.now.value c.args.at c.args.mount c.args.fault c.args.charged.items c.args.returned.items c.args.ended.now c.mount_at-mounted.result c.args.parts.now = record {
      failure = f;
      valid = subst IsValidSite c.site-rules.ensures c.keeps_rules.ensures.valid;
      good = subst IsWellFormed c.site-rules.ensures c.keeps_rules.ensures.parts;
      kept = c.requires.carrying.kept;
      mount = c.mount_at-mounted.ensures c.args.site.now c.args.history.now.value c.requires.carrying.kept.stand.mounts;
      way = c.requires.writes;
      over = c.requires.ended;
    } in
    let resolved : TellSame (book_in c.resolve.new.book.value) (end_jobs c.args.ended.now (charge_jobs c.args.charged.items (record { drive = c.mount_at-mounted.result.drive; tape = c.mount_at-mounted.result.tape; fault = c.args.fault }) (give_back_jobs (c.args.charged.items ++ c.args.returned.items) (book_in c.args.parts.now.book.value)))) =
    rw (c.as_slice-fewer.ensures, c.as_slice-others.ensures) at c.resolve.ensures in
    let added : (k : ℕ) → lines_in c.queue_writes.new.pools.value k ≡ add_by (key_of c.args.site.now c.args.history.now.value) (line_of c.args.site.now c.args.history.now.value direction.Archive) (jobs_live (book_in c.resolve.new.book.value) c.args.returned.items) (lines_in c.args.parts.now.pools.value) k =
    λ k. subst (λ (s : Site). lines_in c.queue_writes.new.pools.value k ≡ add_by (key_of s c.args.history.now.value) (line_of s c.args.history.now.value direction.Archive) (jobs_live (book_in c.resolve.new.book.value) c.args.returned.items) (lines_in c.args.parts.now.pools.value) k) c.site-rules.ensures
    (subst (λ (js : List Job). lines_in c.queue_writes.new.pools.value k ≡ add_by (key_of c.site-rules.result.now c.args.history.now.value) (line_of c.site-rules.result.now c.args.history.now.value direction.Archive) (jobs_live (book_in c.resolve.new.book.value) js) (lines_in c.args.parts.now.pools.value) k) c.as_slice-others.ensures (c.queue_writes.ensures.lines k)) in
    subst (λ (s : Site). CanQueue s c.args.history.now.value (book_in c.resolve.new.book.value) (lines_in c.queue_writes.new.pools.value) c.as_slice-fewer.result.now) (sym c.site-rules.ensures) (subst (λ (js : List Job). CanQueue c.args.site.now c.args.history.now.value (book_in c.resolve.new.book.value) (lines_in c.queue_writes.new.pools.value) js) (sym c.as_slice-fewer.ensures) (charged_queue c.args.site.now c.args.history.now.value c.args.at c.args.mount c.args.fault c.args.charged.items c.args.returned.items c.args.ended.now c.mount_at-mounted.result c.args.parts.now w c.resolve.new.book.value resolved (lines_in c.queue_writes.new.pools.value) added))

pub queue_writes-requires-2-clause-small : goal.queue_writes-requires-2-clause-small
queue_writes-requires-2-clause-small c =
    let f : IsFailure c.args.site.now c.args.history.now.value c.args.at c.args.mount c.args.fault c.args.charged.items c.args.returned.items = record { legal = c.requires.carrying.legal; within = c.requires.carrying.at; fit = c.requires.carrying.fit; accepted = c.requires.carrying.accepted } in
    let w : IsWrite c.args.site.now c.args.history.now.value c.args.at c.args.mount c.args.fault c.args.charged.items c.args.returned.items c.args.ended.now c.mount_at-mounted.result c.args.parts.now = record {
      failure = f;
      valid = subst IsValidSite c.site-rules.ensures c.keeps_rules.ensures.valid;
      good = subst IsWellFormed c.site-rules.ensures c.keeps_rules.ensures.parts;
      kept = c.requires.carrying.kept;
      mount = c.mount_at-mounted.ensures c.args.site.now c.args.history.now.value c.requires.carrying.kept.stand.mounts;
      way = c.requires.writes;
      over = c.requires.ended;
    } in
    small_files c.files_fit_buffer.ensures c.args.site.now c.args.history.now.value w.good f.legal

pub queue_writes-requires-2-clause-fits : goal.queue_writes-requires-2-clause-fits
queue_writes-requires-2-clause-fits c =
    let f : IsFailure c.args.site.now c.args.history.now.value c.args.at c.args.mount c.args.fault c.args.charged.items c.args.returned.items = record { legal = c.requires.carrying.legal; within = c.requires.carrying.at; fit = c.requires.carrying.fit; accepted = c.requires.carrying.accepted } in
    let w : IsWrite c.args.site.now c.args.history.now.value c.args.at c.args.mount c.args.fault c.args.charged.items c.args.returned.items c.args.ended.now c.mount_at-mounted.result c.args.parts.now = record {
      failure = f;
      valid = subst IsValidSite c.site-rules.ensures c.keeps_rules.ensures.valid;
      good = subst IsWellFormed c.site-rules.ensures c.keeps_rules.ensures.parts;
      kept = c.requires.carrying.kept;
      mount = c.mount_at-mounted.ensures c.args.site.now c.args.history.now.value c.requires.carrying.kept.stand.mounts;
      way = c.requires.writes;
      over = c.requires.ended;
    } in
    let resolved : TellSame (book_in c.resolve.new.book.value) (end_jobs c.args.ended.now (charge_jobs c.args.charged.items (record { drive = c.mount_at-mounted.result.drive; tape = c.mount_at-mounted.result.tape; fault = c.args.fault }) (give_back_jobs (c.args.charged.items ++ c.args.returned.items) (book_in c.args.parts.now.book.value)))) =
    rw (c.as_slice-fewer.ensures, c.as_slice-others.ensures) at c.resolve.ensures in
    let added : (k : ℕ) → lines_in c.queue_writes.new.pools.value k ≡ add_by (key_of c.args.site.now c.args.history.now.value) (line_of c.args.site.now c.args.history.now.value direction.Archive) (jobs_live (book_in c.resolve.new.book.value) c.args.returned.items) (lines_in c.args.parts.now.pools.value) k =
    λ k. subst (λ (s : Site). lines_in c.queue_writes.new.pools.value k ≡ add_by (key_of s c.args.history.now.value) (line_of s c.args.history.now.value direction.Archive) (jobs_live (book_in c.resolve.new.book.value) c.args.returned.items) (lines_in c.args.parts.now.pools.value) k) c.site-rules.ensures
    (subst (λ (js : List Job). lines_in c.queue_writes.new.pools.value k ≡ add_by (key_of c.site-rules.result.now c.args.history.now.value) (line_of c.site-rules.result.now c.args.history.now.value direction.Archive) (jobs_live (book_in c.resolve.new.book.value) js) (lines_in c.args.parts.now.pools.value) k) c.as_slice-others.ensures (c.queue_writes.ensures.lines k)) in
    λ k. subst (λ (js : List Job). bytes_of (lines_in c.queue_writes.new.pools.value k) + 2147483648 * length js < 2 ^ 64) (sym c.as_slice-fewer.ensures) (charged_fits c.args.site.now c.args.history.now.value c.args.at c.args.mount c.args.fault c.args.charged.items c.args.returned.items c.args.ended.now c.mount_at-mounted.result c.args.parts.now w c.resolve.new.book.value resolved c.lines_are_small.ensures c.files_fit_buffer.ensures (lines_in c.queue_writes.new.pools.value) added k)

pub append_failed-requires-clause-few : goal.append_failed-requires-clause-few
append_failed-requires-clause-few c =
    let f : IsFailure c.args.site.now c.args.history.now.value c.args.at c.args.mount c.args.fault c.args.charged.items c.args.returned.items = record { legal = c.requires.carrying.legal; within = c.requires.carrying.at; fit = c.requires.carrying.fit; accepted = c.requires.carrying.accepted } in
    let w : IsWrite c.args.site.now c.args.history.now.value c.args.at c.args.mount c.args.fault c.args.charged.items c.args.returned.items c.args.ended.now c.mount_at-mounted.result c.args.parts.now = record {
      failure = f;
      valid = subst IsValidSite c.site-rules.ensures c.keeps_rules.ensures.valid;
      good = subst IsWellFormed c.site-rules.ensures c.keeps_rules.ensures.parts;
      kept = c.requires.carrying.kept;
      mount = c.mount_at-mounted.ensures c.args.site.now c.args.history.now.value c.requires.carrying.kept.stand.mounts;
      way = c.requires.writes;
      over = c.requires.ended;
    } in
    entries_fit c.args.site.now c.args.history.now.value w.good f.legal

pub returns-clause-kept : goal.returns-clause-kept
returns-clause-kept c =
    let f : IsFailure c.args.site.now c.args.history.now.value c.args.at c.args.mount c.args.fault c.args.charged.items c.args.returned.items = record { legal = c.requires.carrying.legal; within = c.requires.carrying.at; fit = c.requires.carrying.fit; accepted = c.requires.carrying.accepted } in
    let w : IsWrite c.args.site.now c.args.history.now.value c.args.at c.args.mount c.args.fault c.args.charged.items c.args.returned.items c.args.ended.now c.mount_at-mounted.result c.args.parts.now = record {
      failure = f;
      valid = subst IsValidSite c.site-rules.ensures c.keeps_rules.ensures.valid;
      good = subst IsWellFormed c.site-rules.ensures c.keeps_rules.ensures.parts;
      kept = c.requires.carrying.kept;
      mount = c.mount_at-mounted.ensures c.args.site.now c.args.history.now.value c.requires.carrying.kept.stand.mounts;
      way = c.requires.writes;
      over = c.requires.ended;
    } in
    let resolved : TellSame (book_in c.resolve.new.book.value) (end_jobs c.args.ended.now (charge_jobs c.args.charged.items (record { drive = c.mount_at-mounted.result.drive; tape = c.mount_at-mounted.result.tape; fault = c.args.fault }) (give_back_jobs (c.args.charged.items ++ c.args.returned.items) (book_in c.args.parts.now.book.value)))) =
    rw (c.as_slice-fewer.ensures, c.as_slice-others.ensures) at c.resolve.ensures in
    let added : (k : ℕ) → lines_in c.queue_writes.new.pools.value k ≡ add_by (key_of c.args.site.now c.args.history.now.value) (line_of c.args.site.now c.args.history.now.value direction.Archive) (jobs_live (book_in c.resolve.new.book.value) c.args.returned.items) (lines_in c.args.parts.now.pools.value) k =
    λ k. subst (λ (s : Site). lines_in c.queue_writes.new.pools.value k ≡ add_by (key_of s c.args.history.now.value) (line_of s c.args.history.now.value direction.Archive) (jobs_live (book_in c.resolve.new.book.value) c.args.returned.items) (lines_in c.args.parts.now.pools.value) k) c.site-rules.ensures
    (subst (λ (js : List Job). lines_in c.queue_writes.new.pools.value k ≡ add_by (key_of c.site-rules.result.now c.args.history.now.value) (line_of c.site-rules.result.now c.args.history.now.value direction.Archive) (jobs_live (book_in c.resolve.new.book.value) js) (lines_in c.args.parts.now.pools.value) k) c.as_slice-others.ensures (c.queue_writes.ensures.lines k)) in
    let site : Site = c.args.site.now in
    let h : History = c.args.history.now.value in
    let waits : (k : ℕ) → lines_in c.queue_writes-2.new.pools.value k ≡ add_by (key_of c.args.site.now c.args.history.now.value) (line_of c.args.site.now c.args.history.now.value direction.Archive) (jobs_live (book_in c.resolve.new.book.value) c.args.charged.items) (lines_in c.queue_writes.new.pools.value) k =
    λ k. subst (λ (s : Site). lines_in c.queue_writes-2.new.pools.value k ≡ add_by (key_of s c.args.history.now.value) (line_of s c.args.history.now.value direction.Archive) (jobs_live (book_in c.resolve.new.book.value) c.args.charged.items) (lines_in c.queue_writes.new.pools.value) k) c.site-rules.ensures
    (subst (λ (js : List Job). lines_in c.queue_writes-2.new.pools.value k ≡ add_by (key_of c.site-rules.result.now c.args.history.now.value) (line_of c.site-rules.result.now c.args.history.now.value direction.Archive) (jobs_live (book_in c.resolve.new.book.value) js) (lines_in c.queue_writes.new.pools.value) k) c.as_slice-fewer.ensures (c.queue_writes-2.ensures.lines k)) in
    let done : IsWritten c.args.site.now c.args.history.now.value c.args.at c.args.mount c.args.fault c.args.charged.items c.args.returned.items c.args.ended.now c.mount_at-mounted.result (c.bytes_of.result + c.bytes_of-2.result) c.args.parts.now c.add_failed.new.failed c.unclaim.new.self c.resolve.new.book c.queue_writes.new.pools c.queue_writes-2.new.pools c.set_flags.new.buffer c.end_copies.new.buffer c.end_copies.new.repacks = record {
      failure = f;
      some = w.good.limits.tries_from;
      kept = c.requires.carrying.kept;
      mount = w.mount;
      way = writes_way c.args.site.now c.args.history.now.value c.args.at c.args.mount c.args.fault c.args.charged.items c.args.returned.items c.args.ended.now c.mount_at-mounted.result c.args.parts.now w;
      over = c.requires.ended;
      lost = c.add_failed.ensures.value;
      bytes =
          ap (λ (k : ℕ). k + c.bytes_of-2.result) (c.bytes_of.ensures ∙ ap (size_of_jobs c.args.history.now.value) c.as_slice-fewer.ensures)
          ∙ ap (λ (k : ℕ). size_of_jobs c.args.history.now.value c.args.charged.items + k) (c.bytes_of-2.ensures ∙ ap (size_of_jobs c.args.history.now.value) c.as_slice-others.ensures);
      unclaimed = c.unclaim.ensures.table;
      sized = c.unclaim.ensures.tapes;
      resolved = resolved;
      others = added;
      waits = waits;
      keys = c.queue_writes-2.ensures.keys ∙ c.queue_writes.ensures.keys;
      flags =
          subst (λ (s : Site). HeldAgree c.set_flags.new.buffer.held.value (set_all (λ f. safe_in c.unclaim.new.self.value (book_in c.resolve.new.book.value).archive f (copies_of_file s c.args.history.now.value f)) (job_files c.args.charged.items) c.args.parts.now.buffer.held.value)) c.site-rules.ensures
          (subst (λ (js : List Job). HeldAgree c.set_flags.new.buffer.held.value (set_all (λ f. safe_in c.unclaim.new.self.value (book_in c.resolve.new.book.value).archive f (copies_of_file c.site-rules.result.now c.args.history.now.value f)) (job_files js) c.args.parts.now.buffer.held.value)) c.as_slice-fewer.ensures
          c.set_flags.ensures.held);
      same = c.set_flags.ensures.contents;
      finished = c.end_copies.ensures.repacks;
      named = c.end_copies.ensures.names;
      pins = c.end_copies.ensures.pins;
      still = c.end_copies.ensures.contents;
    } in
    kept_behind site h c.append_failed.new.history.value c.args.at (failed c.args.mount c.args.fault c.args.charged.items c.args.returned.items) answer.Done c.args.parts.now _ c.kept_parts_move.ensures c.requires.carrying.legal c.requires.carrying.kept c.requires.carrying.at c.requires.carrying.fit
    (done_is c.args.site.now c.args.history.now.value c.args.at c.args.mount c.args.fault c.args.charged.items c.args.returned.items f) c.requires.carrying.accepted
    (written_called c.args.site.now c.args.history.now.value c.args.at c.args.mount c.args.fault c.args.charged.items c.args.returned.items c.args.ended.now c.mount_at-mounted.result (c.bytes_of.result + c.bytes_of-2.result) c.args.parts.now c.add_failed.new.failed c.unclaim.new.self c.resolve.new.book c.queue_writes.new.pools c.queue_writes-2.new.pools c.set_flags.new.buffer c.end_copies.new.buffer c.end_copies.new.repacks done)
    c.append_failed.ensures
