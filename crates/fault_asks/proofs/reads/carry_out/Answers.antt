use Rattle.std.proofs.Common.{◌≡◌, ◌∙◌, ◌+◌, ◌*◌, ◌<◌, ◌^◌, ℕ, List, ◌++◌, length, sym, ap, subst, arith, true, false}
use Rattle.std.specs.List.{AllByRecursion}
use Rattle.cta_site.specs.declared.site.Site.{Site}
use Rattle.cta_site.specs.Laws.{ClassesAreKnown}
use Rattle.cta_site.specs.ValidSite.{IsValidSite}
use Rattle.cta_site.specs.WellFormed.{IsWellFormed}
use Rattle.cta_model.specs.declared.answers.Answer.TheVariants as answer
use Rattle.cta_model.specs.declared.asks.Direction.TheVariants as direction
use Rattle.cta_model.specs.declared.asks.Job.{Job}
use Rattle.cta_model.specs.declared.reports.ItemState.TheVariants as item
use Rattle.cta_model.specs.declared.states.Charge.{Charge}
use Rattle.cta_model.specs.Answers.{names_twice}
use Rattle.cta_model.specs.History.{entry_of}
use Rattle.cta_model.specs.Mounts.{has_job}
use Rattle.cta_laws.specs.Claims.{size_of_jobs}
use Rattle.job_queues.specs.Waiting.{bytes_of}
use Rattle.kept_history.specs.Puts.{is_put}
use Rattle.part_model.specs.JobBook.{TellSame, charge_jobs, end_jobs, give_back_jobs}
use Rattle.part_model.specs.JobRows.{book_in}
use Rattle.part_model.specs.Queues.{lines_in}
use Rattle.part_model.specs.Repacks.{RepacksAgree, set_states}
use Rattle.part_laws.specs.Lines.{line_of}
use Rattle.repack_book.specs.NamedRepacks.{repacks_of}
use Rattle.fault_asks.specs.Failing.{CanQueue, add_by, jobs_live}
use Rattle.fault_asks.specs.Reading.{pair_targets, source_in}
use Rattle.archive_parts.proofs.Behind.{kept_behind}
use Rattle.fault_asks.proofs.FailFacts.{IsFailure, done_is, failed, entries_fit, small_files}
use Rattle.fault_asks.proofs.ReadCalls.{IsReadBack, read_called}
use Rattle.fault_asks.proofs.ReadFacts.{IsRead, aside_has, charged_fits, charged_once, charged_puts, charged_queue, charges_few, keys_low, returned_fits, returned_puts, returned_queue, sizes_fit}
use Rattle.fault_asks.proofs.reads.carry_out.Goals as goal

pub bytes_of-requires-clause-puts : goal.bytes_of-requires-clause-puts
bytes_of-requires-clause-puts c =
    let f : IsFailure c.args.site.now c.args.history.now.value c.args.at c.args.mount c.args.fault c.args.charged.items c.args.returned.items = record { legal = c.requires.carrying.legal; within = c.requires.carrying.at; fit = c.requires.carrying.fit; accepted = c.requires.carrying.accepted } in
    let w : IsRead c.args.site.now c.args.history.now.value c.args.at c.args.mount c.args.fault c.args.charged.items c.args.returned.items c.args.found.ended.items c.args.mounted c.args.parts.now = record {
      failure = f;
      valid = subst IsValidSite c.site-rules.ensures c.keeps_rules.ensures.valid;
      good = subst IsWellFormed c.site-rules.ensures c.keeps_rules.ensures.parts;
      classes = subst ClassesAreKnown c.site-rules.ensures c.numbers_are_known.ensures.classes;
      kept = c.requires.carrying.kept;
      mount = c.requires.mounted;
      way = c.requires.reads;
      over = c.requires.ended;
    } in
    subst (λ (js : List Job). AllByRecursion (λ (j : Job). is_put (entry_of c.args.history.now.value j.file) ≡ true) js) (sym c.as_slice-fewer.ensures) (charged_puts c.args.site.now c.args.history.now.value c.args.at c.args.mount c.args.fault c.args.charged.items c.args.returned.items c.args.found.ended.items c.args.mounted c.args.parts.now w)

pub bytes_of-requires-clause-fits : goal.bytes_of-requires-clause-fits
bytes_of-requires-clause-fits c =
    let f : IsFailure c.args.site.now c.args.history.now.value c.args.at c.args.mount c.args.fault c.args.charged.items c.args.returned.items = record { legal = c.requires.carrying.legal; within = c.requires.carrying.at; fit = c.requires.carrying.fit; accepted = c.requires.carrying.accepted } in
    let w : IsRead c.args.site.now c.args.history.now.value c.args.at c.args.mount c.args.fault c.args.charged.items c.args.returned.items c.args.found.ended.items c.args.mounted c.args.parts.now = record {
      failure = f;
      valid = subst IsValidSite c.site-rules.ensures c.keeps_rules.ensures.valid;
      good = subst IsWellFormed c.site-rules.ensures c.keeps_rules.ensures.parts;
      classes = subst ClassesAreKnown c.site-rules.ensures c.numbers_are_known.ensures.classes;
      kept = c.requires.carrying.kept;
      mount = c.requires.mounted;
      way = c.requires.reads;
      over = c.requires.ended;
    } in
    subst (λ (js : List Job). size_of_jobs c.args.history.now.value js < 2 ^ 64) (sym c.as_slice-fewer.ensures) (sizes_fit c.args.site.now c.args.history.now.value c.args.at c.args.mount c.args.fault c.args.charged.items c.args.returned.items c.args.found.ended.items c.args.mounted c.args.parts.now w c.files_fit_buffer.ensures).0

pub bytes_of-requires-2-clause-puts : goal.bytes_of-requires-2-clause-puts
bytes_of-requires-2-clause-puts c =
    let f : IsFailure c.args.site.now c.args.history.now.value c.args.at c.args.mount c.args.fault c.args.charged.items c.args.returned.items = record { legal = c.requires.carrying.legal; within = c.requires.carrying.at; fit = c.requires.carrying.fit; accepted = c.requires.carrying.accepted } in
    let w : IsRead c.args.site.now c.args.history.now.value c.args.at c.args.mount c.args.fault c.args.charged.items c.args.returned.items c.args.found.ended.items c.args.mounted c.args.parts.now = record {
      failure = f;
      valid = subst IsValidSite c.site-rules.ensures c.keeps_rules.ensures.valid;
      good = subst IsWellFormed c.site-rules.ensures c.keeps_rules.ensures.parts;
      classes = subst ClassesAreKnown c.site-rules.ensures c.numbers_are_known.ensures.classes;
      kept = c.requires.carrying.kept;
      mount = c.requires.mounted;
      way = c.requires.reads;
      over = c.requires.ended;
    } in
    subst (λ (js : List Job). AllByRecursion (λ (j : Job). is_put (entry_of c.args.history.now.value j.file) ≡ true) js) (sym c.as_slice-others.ensures) (returned_puts c.args.site.now c.args.history.now.value c.args.at c.args.mount c.args.fault c.args.charged.items c.args.returned.items c.args.found.ended.items c.args.mounted c.args.parts.now w)

pub bytes_of-requires-2-clause-fits : goal.bytes_of-requires-2-clause-fits
bytes_of-requires-2-clause-fits c =
    let f : IsFailure c.args.site.now c.args.history.now.value c.args.at c.args.mount c.args.fault c.args.charged.items c.args.returned.items = record { legal = c.requires.carrying.legal; within = c.requires.carrying.at; fit = c.requires.carrying.fit; accepted = c.requires.carrying.accepted } in
    let w : IsRead c.args.site.now c.args.history.now.value c.args.at c.args.mount c.args.fault c.args.charged.items c.args.returned.items c.args.found.ended.items c.args.mounted c.args.parts.now = record {
      failure = f;
      valid = subst IsValidSite c.site-rules.ensures c.keeps_rules.ensures.valid;
      good = subst IsWellFormed c.site-rules.ensures c.keeps_rules.ensures.parts;
      classes = subst ClassesAreKnown c.site-rules.ensures c.numbers_are_known.ensures.classes;
      kept = c.requires.carrying.kept;
      mount = c.requires.mounted;
      way = c.requires.reads;
      over = c.requires.ended;
    } in
    subst (λ (js : List Job). size_of_jobs c.args.history.now.value js < 2 ^ 64) (sym c.as_slice-others.ensures) (sizes_fit c.args.site.now c.args.history.now.value c.args.at c.args.mount c.args.fault c.args.charged.items c.args.returned.items c.args.found.ended.items c.args.mounted c.args.parts.now w c.files_fit_buffer.ensures).1

pub overflow_add-bytes : goal.overflow_add-bytes
overflow_add-bytes c =
    let f : IsFailure c.args.site.now c.args.history.now.value c.args.at c.args.mount c.args.fault c.args.charged.items c.args.returned.items = record { legal = c.requires.carrying.legal; within = c.requires.carrying.at; fit = c.requires.carrying.fit; accepted = c.requires.carrying.accepted } in
    let w : IsRead c.args.site.now c.args.history.now.value c.args.at c.args.mount c.args.fault c.args.charged.items c.args.returned.items c.args.found.ended.items c.args.mounted c.args.parts.now = record {
      failure = f;
      valid = subst IsValidSite c.site-rules.ensures c.keeps_rules.ensures.valid;
      good = subst IsWellFormed c.site-rules.ensures c.keeps_rules.ensures.parts;
      classes = subst ClassesAreKnown c.site-rules.ensures c.numbers_are_known.ensures.classes;
      kept = c.requires.carrying.kept;
      mount = c.requires.mounted;
      way = c.requires.reads;
      over = c.requires.ended;
    } in
    let a : c.bytes_of.result ≡ size_of_jobs c.args.history.now.value c.args.charged.items = c.bytes_of.ensures ∙ ap (size_of_jobs c.args.history.now.value) c.as_slice-fewer.ensures in
    let b : c.bytes_of-2.result ≡ size_of_jobs c.args.history.now.value c.args.returned.items = c.bytes_of-2.ensures ∙ ap (size_of_jobs c.args.history.now.value) c.as_slice-others.ensures in
    let fits : size_of_jobs c.args.history.now.value c.args.charged.items + size_of_jobs c.args.history.now.value c.args.returned.items < 2 ^ 64 = (sizes_fit c.args.site.now c.args.history.now.value c.args.at c.args.mount c.args.fault c.args.charged.items c.args.returned.items c.args.found.ended.items c.args.mounted c.args.parts.now w c.files_fit_buffer.ensures).2 in
    omega (arith, a, b, fits)

pub unhold-requires : goal.unhold-requires
unhold-requires c =
    let f : IsFailure c.args.site.now c.args.history.now.value c.args.at c.args.mount c.args.fault c.args.charged.items c.args.returned.items = record { legal = c.requires.carrying.legal; within = c.requires.carrying.at; fit = c.requires.carrying.fit; accepted = c.requires.carrying.accepted } in
    let w : IsRead c.args.site.now c.args.history.now.value c.args.at c.args.mount c.args.fault c.args.charged.items c.args.returned.items c.args.found.ended.items c.args.mounted c.args.parts.now = record {
      failure = f;
      valid = subst IsValidSite c.site-rules.ensures c.keeps_rules.ensures.valid;
      good = subst IsWellFormed c.site-rules.ensures c.keeps_rules.ensures.parts;
      classes = subst ClassesAreKnown c.site-rules.ensures c.numbers_are_known.ensures.classes;
      kept = c.requires.carrying.kept;
      mount = c.requires.mounted;
      way = c.requires.reads;
      over = c.requires.ended;
    } in
    let a : c.bytes_of.result ≡ size_of_jobs c.args.history.now.value c.args.charged.items = c.bytes_of.ensures ∙ ap (size_of_jobs c.args.history.now.value) c.as_slice-fewer.ensures in
    let b : c.bytes_of-2.result ≡ size_of_jobs c.args.history.now.value c.args.returned.items = c.bytes_of-2.ensures ∙ ap (size_of_jobs c.args.history.now.value) c.as_slice-others.ensures in
    let low = aside_has c.args.site.now c.args.history.now.value c.args.at c.args.mount c.args.fault c.args.charged.items c.args.returned.items c.args.found.ended.items c.args.mounted c.args.parts.now w c.claimed_bytes_move.ensures in
    omega (arith, a, b, low)

pub resolve-requires-clause-once : goal.resolve-requires-clause-once
resolve-requires-clause-once c =
    let f : IsFailure c.args.site.now c.args.history.now.value c.args.at c.args.mount c.args.fault c.args.charged.items c.args.returned.items = record { legal = c.requires.carrying.legal; within = c.requires.carrying.at; fit = c.requires.carrying.fit; accepted = c.requires.carrying.accepted } in
    let w : IsRead c.args.site.now c.args.history.now.value c.args.at c.args.mount c.args.fault c.args.charged.items c.args.returned.items c.args.found.ended.items c.args.mounted c.args.parts.now = record {
      failure = f;
      valid = subst IsValidSite c.site-rules.ensures c.keeps_rules.ensures.valid;
      good = subst IsWellFormed c.site-rules.ensures c.keeps_rules.ensures.parts;
      classes = subst ClassesAreKnown c.site-rules.ensures c.numbers_are_known.ensures.classes;
      kept = c.requires.carrying.kept;
      mount = c.requires.mounted;
      way = c.requires.reads;
      over = c.requires.ended;
    } in
    subst (λ (js : List Job). names_twice js ≡ false) (sym c.as_slice-fewer.ensures) (charged_once c.args.site.now c.args.history.now.value c.args.at c.args.mount c.args.fault c.args.charged.items c.args.returned.items c.args.found.ended.items c.args.mounted c.args.parts.now w)

pub resolve-requires-clause-few : goal.resolve-requires-clause-few
resolve-requires-clause-few c =
    let f : IsFailure c.args.site.now c.args.history.now.value c.args.at c.args.mount c.args.fault c.args.charged.items c.args.returned.items = record { legal = c.requires.carrying.legal; within = c.requires.carrying.at; fit = c.requires.carrying.fit; accepted = c.requires.carrying.accepted } in
    let w : IsRead c.args.site.now c.args.history.now.value c.args.at c.args.mount c.args.fault c.args.charged.items c.args.returned.items c.args.found.ended.items c.args.mounted c.args.parts.now = record {
      failure = f;
      valid = subst IsValidSite c.site-rules.ensures c.keeps_rules.ensures.valid;
      good = subst IsWellFormed c.site-rules.ensures c.keeps_rules.ensures.parts;
      classes = subst ClassesAreKnown c.site-rules.ensures c.numbers_are_known.ensures.classes;
      kept = c.requires.carrying.kept;
      mount = c.requires.mounted;
      way = c.requires.reads;
      over = c.requires.ended;
    } in
    λ j there. charges_few c.args.site.now c.args.history.now.value c.args.at c.args.mount c.args.fault c.args.charged.items c.args.returned.items c.args.found.ended.items c.args.mounted c.args.parts.now w j (subst (λ (js : List Job). has_job j js ≡ true) c.as_slice-fewer.ensures there)

pub queue_reads-requires-clause-keys : goal.queue_reads-requires-clause-keys
queue_reads-requires-clause-keys c =
    let f : IsFailure c.args.site.now c.args.history.now.value c.args.at c.args.mount c.args.fault c.args.charged.items c.args.returned.items = record { legal = c.requires.carrying.legal; within = c.requires.carrying.at; fit = c.requires.carrying.fit; accepted = c.requires.carrying.accepted } in
    let w : IsRead c.args.site.now c.args.history.now.value c.args.at c.args.mount c.args.fault c.args.charged.items c.args.returned.items c.args.found.ended.items c.args.mounted c.args.parts.now = record {
      failure = f;
      valid = subst IsValidSite c.site-rules.ensures c.keeps_rules.ensures.valid;
      good = subst IsWellFormed c.site-rules.ensures c.keeps_rules.ensures.parts;
      classes = subst ClassesAreKnown c.site-rules.ensures c.numbers_are_known.ensures.classes;
      kept = c.requires.carrying.kept;
      mount = c.requires.mounted;
      way = c.requires.reads;
      over = c.requires.ended;
    } in
    keys_low c.args.site.now c.args.history.now.value c.args.at c.args.mount c.args.fault c.args.charged.items c.args.returned.items c.args.found.ended.items c.args.mounted c.args.parts.now w c.places_are_on_site.ensures

pub queue_reads-requires-clause-jobs : goal.queue_reads-requires-clause-jobs
queue_reads-requires-clause-jobs c =
    let f : IsFailure c.args.site.now c.args.history.now.value c.args.at c.args.mount c.args.fault c.args.charged.items c.args.returned.items = record { legal = c.requires.carrying.legal; within = c.requires.carrying.at; fit = c.requires.carrying.fit; accepted = c.requires.carrying.accepted } in
    let w : IsRead c.args.site.now c.args.history.now.value c.args.at c.args.mount c.args.fault c.args.charged.items c.args.returned.items c.args.found.ended.items c.args.mounted c.args.parts.now = record {
      failure = f;
      valid = subst IsValidSite c.site-rules.ensures c.keeps_rules.ensures.valid;
      good = subst IsWellFormed c.site-rules.ensures c.keeps_rules.ensures.parts;
      classes = subst ClassesAreKnown c.site-rules.ensures c.numbers_are_known.ensures.classes;
      kept = c.requires.carrying.kept;
      mount = c.requires.mounted;
      way = c.requires.reads;
      over = c.requires.ended;
    } in
    let resolved : TellSame (book_in c.resolve.new.book.value) (end_jobs c.args.found.ended.items (charge_jobs c.args.charged.items (record { drive = c.args.mounted.drive; tape = c.args.mounted.tape; fault = c.args.fault }) (give_back_jobs (c.args.charged.items ++ c.args.returned.items) (book_in c.args.parts.now.book.value)))) =
    subst (λ (x : Charge). TellSame (book_in c.resolve.new.book.value) (end_jobs c.args.found.ended.items (charge_jobs c.args.charged.items x (give_back_jobs (c.args.charged.items ++ c.args.returned.items) (book_in c.args.parts.now.book.value))))) c.charge_of-charge.ensures
    (subst (λ (js : List Job). TellSame (book_in c.resolve.new.book.value) (end_jobs js (charge_jobs c.args.charged.items c.charge_of-charge.result (give_back_jobs (c.args.charged.items ++ c.args.returned.items) (book_in c.args.parts.now.book.value))))) c.as_slice.ensures.value
    (subst (λ (js : List Job). TellSame (book_in c.resolve.new.book.value) (end_jobs c.as_slice.result.now (charge_jobs js c.charge_of-charge.result (give_back_jobs (js ++ c.args.returned.items) (book_in c.args.parts.now.book.value))))) c.as_slice-fewer.ensures
    (subst (λ (js : List Job). TellSame (book_in c.resolve.new.book.value) (end_jobs c.as_slice.result.now (charge_jobs c.as_slice-fewer.result.now c.charge_of-charge.result (give_back_jobs (c.as_slice-fewer.result.now ++ js) (book_in c.args.parts.now.book.value))))) c.as_slice-others.ensures c.resolve.ensures))) in
    subst (λ (s : Site). CanQueue s c.args.history.now.value (book_in c.resolve.new.book.value) (lines_in c.args.parts.now.recalls.value) c.as_slice-others.result.now) (sym c.site-rules.ensures) (subst (λ (js : List Job). CanQueue c.args.site.now c.args.history.now.value (book_in c.resolve.new.book.value) (lines_in c.args.parts.now.recalls.value) js) (sym c.as_slice-others.ensures) (returned_queue c.args.site.now c.args.history.now.value c.args.at c.args.mount c.args.fault c.args.charged.items c.args.returned.items c.args.found.ended.items c.args.mounted c.args.parts.now w c.resolve.new.book.value resolved))

pub queue_reads-requires-clause-small : goal.queue_reads-requires-clause-small
queue_reads-requires-clause-small c =
    let f : IsFailure c.args.site.now c.args.history.now.value c.args.at c.args.mount c.args.fault c.args.charged.items c.args.returned.items = record { legal = c.requires.carrying.legal; within = c.requires.carrying.at; fit = c.requires.carrying.fit; accepted = c.requires.carrying.accepted } in
    let w : IsRead c.args.site.now c.args.history.now.value c.args.at c.args.mount c.args.fault c.args.charged.items c.args.returned.items c.args.found.ended.items c.args.mounted c.args.parts.now = record {
      failure = f;
      valid = subst IsValidSite c.site-rules.ensures c.keeps_rules.ensures.valid;
      good = subst IsWellFormed c.site-rules.ensures c.keeps_rules.ensures.parts;
      classes = subst ClassesAreKnown c.site-rules.ensures c.numbers_are_known.ensures.classes;
      kept = c.requires.carrying.kept;
      mount = c.requires.mounted;
      way = c.requires.reads;
      over = c.requires.ended;
    } in
    small_files c.files_fit_buffer.ensures c.args.site.now c.args.history.now.value w.good f.legal

pub queue_reads-requires-clause-fits : goal.queue_reads-requires-clause-fits
queue_reads-requires-clause-fits c =
    let f : IsFailure c.args.site.now c.args.history.now.value c.args.at c.args.mount c.args.fault c.args.charged.items c.args.returned.items = record { legal = c.requires.carrying.legal; within = c.requires.carrying.at; fit = c.requires.carrying.fit; accepted = c.requires.carrying.accepted } in
    let w : IsRead c.args.site.now c.args.history.now.value c.args.at c.args.mount c.args.fault c.args.charged.items c.args.returned.items c.args.found.ended.items c.args.mounted c.args.parts.now = record {
      failure = f;
      valid = subst IsValidSite c.site-rules.ensures c.keeps_rules.ensures.valid;
      good = subst IsWellFormed c.site-rules.ensures c.keeps_rules.ensures.parts;
      classes = subst ClassesAreKnown c.site-rules.ensures c.numbers_are_known.ensures.classes;
      kept = c.requires.carrying.kept;
      mount = c.requires.mounted;
      way = c.requires.reads;
      over = c.requires.ended;
    } in
    let resolved : TellSame (book_in c.resolve.new.book.value) (end_jobs c.args.found.ended.items (charge_jobs c.args.charged.items (record { drive = c.args.mounted.drive; tape = c.args.mounted.tape; fault = c.args.fault }) (give_back_jobs (c.args.charged.items ++ c.args.returned.items) (book_in c.args.parts.now.book.value)))) =
    subst (λ (x : Charge). TellSame (book_in c.resolve.new.book.value) (end_jobs c.args.found.ended.items (charge_jobs c.args.charged.items x (give_back_jobs (c.args.charged.items ++ c.args.returned.items) (book_in c.args.parts.now.book.value))))) c.charge_of-charge.ensures
    (subst (λ (js : List Job). TellSame (book_in c.resolve.new.book.value) (end_jobs js (charge_jobs c.args.charged.items c.charge_of-charge.result (give_back_jobs (c.args.charged.items ++ c.args.returned.items) (book_in c.args.parts.now.book.value))))) c.as_slice.ensures.value
    (subst (λ (js : List Job). TellSame (book_in c.resolve.new.book.value) (end_jobs c.as_slice.result.now (charge_jobs js c.charge_of-charge.result (give_back_jobs (js ++ c.args.returned.items) (book_in c.args.parts.now.book.value))))) c.as_slice-fewer.ensures
    (subst (λ (js : List Job). TellSame (book_in c.resolve.new.book.value) (end_jobs c.as_slice.result.now (charge_jobs c.as_slice-fewer.result.now c.charge_of-charge.result (give_back_jobs (c.as_slice-fewer.result.now ++ js) (book_in c.args.parts.now.book.value))))) c.as_slice-others.ensures c.resolve.ensures))) in
    λ k. subst (λ (js : List Job). bytes_of (lines_in c.args.parts.now.recalls.value k) + 2147483648 * length js < 2 ^ 64) (sym c.as_slice-others.ensures) (returned_fits c.args.site.now c.args.history.now.value c.args.at c.args.mount c.args.fault c.args.charged.items c.args.returned.items c.args.found.ended.items c.args.mounted c.args.parts.now w c.resolve.new.book.value resolved c.lines_are_small.ensures k)

pub queue_reads-requires-2-clause-keys : goal.queue_reads-requires-2-clause-keys
queue_reads-requires-2-clause-keys c =
    let f : IsFailure c.args.site.now c.args.history.now.value c.args.at c.args.mount c.args.fault c.args.charged.items c.args.returned.items = record { legal = c.requires.carrying.legal; within = c.requires.carrying.at; fit = c.requires.carrying.fit; accepted = c.requires.carrying.accepted } in
    let w : IsRead c.args.site.now c.args.history.now.value c.args.at c.args.mount c.args.fault c.args.charged.items c.args.returned.items c.args.found.ended.items c.args.mounted c.args.parts.now = record {
      failure = f;
      valid = subst IsValidSite c.site-rules.ensures c.keeps_rules.ensures.valid;
      good = subst IsWellFormed c.site-rules.ensures c.keeps_rules.ensures.parts;
      classes = subst ClassesAreKnown c.site-rules.ensures c.numbers_are_known.ensures.classes;
      kept = c.requires.carrying.kept;
      mount = c.requires.mounted;
      way = c.requires.reads;
      over = c.requires.ended;
    } in
    λ g n q at. (let low = keys_low c.args.site.now c.args.history.now.value c.args.at c.args.mount c.args.fault c.args.charged.items c.args.returned.items c.args.found.ended.items c.args.mounted c.args.parts.now w c.places_are_on_site.ensures g n q at in let same = c.queue_reads.ensures.keys in omega (arith, low, same))

pub queue_reads-requires-2-clause-jobs : goal.queue_reads-requires-2-clause-jobs
queue_reads-requires-2-clause-jobs c =
    let f : IsFailure c.args.site.now c.args.history.now.value c.args.at c.args.mount c.args.fault c.args.charged.items c.args.returned.items = record { legal = c.requires.carrying.legal; within = c.requires.carrying.at; fit = c.requires.carrying.fit; accepted = c.requires.carrying.accepted } in
    let w : IsRead c.args.site.now c.args.history.now.value c.args.at c.args.mount c.args.fault c.args.charged.items c.args.returned.items c.args.found.ended.items c.args.mounted c.args.parts.now = record {
      failure = f;
      valid = subst IsValidSite c.site-rules.ensures c.keeps_rules.ensures.valid;
      good = subst IsWellFormed c.site-rules.ensures c.keeps_rules.ensures.parts;
      classes = subst ClassesAreKnown c.site-rules.ensures c.numbers_are_known.ensures.classes;
      kept = c.requires.carrying.kept;
      mount = c.requires.mounted;
      way = c.requires.reads;
      over = c.requires.ended;
    } in
    let resolved : TellSame (book_in c.resolve.new.book.value) (end_jobs c.args.found.ended.items (charge_jobs c.args.charged.items (record { drive = c.args.mounted.drive; tape = c.args.mounted.tape; fault = c.args.fault }) (give_back_jobs (c.args.charged.items ++ c.args.returned.items) (book_in c.args.parts.now.book.value)))) =
    subst (λ (x : Charge). TellSame (book_in c.resolve.new.book.value) (end_jobs c.args.found.ended.items (charge_jobs c.args.charged.items x (give_back_jobs (c.args.charged.items ++ c.args.returned.items) (book_in c.args.parts.now.book.value))))) c.charge_of-charge.ensures
    (subst (λ (js : List Job). TellSame (book_in c.resolve.new.book.value) (end_jobs js (charge_jobs c.args.charged.items c.charge_of-charge.result (give_back_jobs (c.args.charged.items ++ c.args.returned.items) (book_in c.args.parts.now.book.value))))) c.as_slice.ensures.value
    (subst (λ (js : List Job). TellSame (book_in c.resolve.new.book.value) (end_jobs c.as_slice.result.now (charge_jobs js c.charge_of-charge.result (give_back_jobs (js ++ c.args.returned.items) (book_in c.args.parts.now.book.value))))) c.as_slice-fewer.ensures
    (subst (λ (js : List Job). TellSame (book_in c.resolve.new.book.value) (end_jobs c.as_slice.result.now (charge_jobs c.as_slice-fewer.result.now c.charge_of-charge.result (give_back_jobs (c.as_slice-fewer.result.now ++ js) (book_in c.args.parts.now.book.value))))) c.as_slice-others.ensures c.resolve.ensures))) in
    let added : (k : ℕ) → lines_in c.queue_reads.new.recalls.value k ≡ add_by (source_in c.args.parts.now.tapes.value (book_in c.resolve.new.book.value)) (line_of c.args.site.now c.args.history.now.value direction.Retrieve) (jobs_live (book_in c.resolve.new.book.value) c.args.returned.items) (lines_in c.args.parts.now.recalls.value) k =
    λ k. subst (λ (s : Site). lines_in c.queue_reads.new.recalls.value k ≡ add_by (source_in c.args.parts.now.tapes.value (book_in c.resolve.new.book.value)) (line_of s c.args.history.now.value direction.Retrieve) (jobs_live (book_in c.resolve.new.book.value) c.args.returned.items) (lines_in c.args.parts.now.recalls.value) k) c.site-rules.ensures
    (subst (λ (js : List Job). lines_in c.queue_reads.new.recalls.value k ≡ add_by (source_in c.args.parts.now.tapes.value (book_in c.resolve.new.book.value)) (line_of c.site-rules.result.now c.args.history.now.value direction.Retrieve) (jobs_live (book_in c.resolve.new.book.value) js) (lines_in c.args.parts.now.recalls.value) k) c.as_slice-others.ensures (c.queue_reads.ensures.lines k)) in
    subst (λ (s : Site). CanQueue s c.args.history.now.value (book_in c.resolve.new.book.value) (lines_in c.queue_reads.new.recalls.value) c.as_slice-fewer.result.now) (sym c.site-rules.ensures) (subst (λ (js : List Job). CanQueue c.args.site.now c.args.history.now.value (book_in c.resolve.new.book.value) (lines_in c.queue_reads.new.recalls.value) js) (sym c.as_slice-fewer.ensures) (charged_queue c.args.site.now c.args.history.now.value c.args.at c.args.mount c.args.fault c.args.charged.items c.args.returned.items c.args.found.ended.items c.args.mounted c.args.parts.now w c.resolve.new.book.value resolved (lines_in c.queue_reads.new.recalls.value) added))

pub queue_reads-requires-2-clause-small : goal.queue_reads-requires-2-clause-small
queue_reads-requires-2-clause-small c =
    let f : IsFailure c.args.site.now c.args.history.now.value c.args.at c.args.mount c.args.fault c.args.charged.items c.args.returned.items = record { legal = c.requires.carrying.legal; within = c.requires.carrying.at; fit = c.requires.carrying.fit; accepted = c.requires.carrying.accepted } in
    let w : IsRead c.args.site.now c.args.history.now.value c.args.at c.args.mount c.args.fault c.args.charged.items c.args.returned.items c.args.found.ended.items c.args.mounted c.args.parts.now = record {
      failure = f;
      valid = subst IsValidSite c.site-rules.ensures c.keeps_rules.ensures.valid;
      good = subst IsWellFormed c.site-rules.ensures c.keeps_rules.ensures.parts;
      classes = subst ClassesAreKnown c.site-rules.ensures c.numbers_are_known.ensures.classes;
      kept = c.requires.carrying.kept;
      mount = c.requires.mounted;
      way = c.requires.reads;
      over = c.requires.ended;
    } in
    small_files c.files_fit_buffer.ensures c.args.site.now c.args.history.now.value w.good f.legal

pub queue_reads-requires-2-clause-fits : goal.queue_reads-requires-2-clause-fits
queue_reads-requires-2-clause-fits c =
    let f : IsFailure c.args.site.now c.args.history.now.value c.args.at c.args.mount c.args.fault c.args.charged.items c.args.returned.items = record { legal = c.requires.carrying.legal; within = c.requires.carrying.at; fit = c.requires.carrying.fit; accepted = c.requires.carrying.accepted } in
    let w : IsRead c.args.site.now c.args.history.now.value c.args.at c.args.mount c.args.fault c.args.charged.items c.args.returned.items c.args.found.ended.items c.args.mounted c.args.parts.now = record {
      failure = f;
      valid = subst IsValidSite c.site-rules.ensures c.keeps_rules.ensures.valid;
      good = subst IsWellFormed c.site-rules.ensures c.keeps_rules.ensures.parts;
      classes = subst ClassesAreKnown c.site-rules.ensures c.numbers_are_known.ensures.classes;
      kept = c.requires.carrying.kept;
      mount = c.requires.mounted;
      way = c.requires.reads;
      over = c.requires.ended;
    } in
    let resolved : TellSame (book_in c.resolve.new.book.value) (end_jobs c.args.found.ended.items (charge_jobs c.args.charged.items (record { drive = c.args.mounted.drive; tape = c.args.mounted.tape; fault = c.args.fault }) (give_back_jobs (c.args.charged.items ++ c.args.returned.items) (book_in c.args.parts.now.book.value)))) =
    subst (λ (x : Charge). TellSame (book_in c.resolve.new.book.value) (end_jobs c.args.found.ended.items (charge_jobs c.args.charged.items x (give_back_jobs (c.args.charged.items ++ c.args.returned.items) (book_in c.args.parts.now.book.value))))) c.charge_of-charge.ensures
    (subst (λ (js : List Job). TellSame (book_in c.resolve.new.book.value) (end_jobs js (charge_jobs c.args.charged.items c.charge_of-charge.result (give_back_jobs (c.args.charged.items ++ c.args.returned.items) (book_in c.args.parts.now.book.value))))) c.as_slice.ensures.value
    (subst (λ (js : List Job). TellSame (book_in c.resolve.new.book.value) (end_jobs c.as_slice.result.now (charge_jobs js c.charge_of-charge.result (give_back_jobs (js ++ c.args.returned.items) (book_in c.args.parts.now.book.value))))) c.as_slice-fewer.ensures
    (subst (λ (js : List Job). TellSame (book_in c.resolve.new.book.value) (end_jobs c.as_slice.result.now (charge_jobs c.as_slice-fewer.result.now c.charge_of-charge.result (give_back_jobs (c.as_slice-fewer.result.now ++ js) (book_in c.args.parts.now.book.value))))) c.as_slice-others.ensures c.resolve.ensures))) in
    let added : (k : ℕ) → lines_in c.queue_reads.new.recalls.value k ≡ add_by (source_in c.args.parts.now.tapes.value (book_in c.resolve.new.book.value)) (line_of c.args.site.now c.args.history.now.value direction.Retrieve) (jobs_live (book_in c.resolve.new.book.value) c.args.returned.items) (lines_in c.args.parts.now.recalls.value) k =
    λ k. subst (λ (s : Site). lines_in c.queue_reads.new.recalls.value k ≡ add_by (source_in c.args.parts.now.tapes.value (book_in c.resolve.new.book.value)) (line_of s c.args.history.now.value direction.Retrieve) (jobs_live (book_in c.resolve.new.book.value) c.args.returned.items) (lines_in c.args.parts.now.recalls.value) k) c.site-rules.ensures
    (subst (λ (js : List Job). lines_in c.queue_reads.new.recalls.value k ≡ add_by (source_in c.args.parts.now.tapes.value (book_in c.resolve.new.book.value)) (line_of c.site-rules.result.now c.args.history.now.value direction.Retrieve) (jobs_live (book_in c.resolve.new.book.value) js) (lines_in c.args.parts.now.recalls.value) k) c.as_slice-others.ensures (c.queue_reads.ensures.lines k)) in
    λ k. subst (λ (js : List Job). bytes_of (lines_in c.queue_reads.new.recalls.value k) + 2147483648 * length js < 2 ^ 64) (sym c.as_slice-fewer.ensures) (charged_fits c.args.site.now c.args.history.now.value c.args.at c.args.mount c.args.fault c.args.charged.items c.args.returned.items c.args.found.ended.items c.args.mounted c.args.parts.now w c.resolve.new.book.value resolved c.lines_are_small.ensures c.files_fit_buffer.ensures (lines_in c.queue_reads.new.recalls.value) added k)

pub append_failed-requires-clause-few : goal.append_failed-requires-clause-few
append_failed-requires-clause-few c =
    let f : IsFailure c.args.site.now c.args.history.now.value c.args.at c.args.mount c.args.fault c.args.charged.items c.args.returned.items = record { legal = c.requires.carrying.legal; within = c.requires.carrying.at; fit = c.requires.carrying.fit; accepted = c.requires.carrying.accepted } in
    let w : IsRead c.args.site.now c.args.history.now.value c.args.at c.args.mount c.args.fault c.args.charged.items c.args.returned.items c.args.found.ended.items c.args.mounted c.args.parts.now = record {
      failure = f;
      valid = subst IsValidSite c.site-rules.ensures c.keeps_rules.ensures.valid;
      good = subst IsWellFormed c.site-rules.ensures c.keeps_rules.ensures.parts;
      classes = subst ClassesAreKnown c.site-rules.ensures c.numbers_are_known.ensures.classes;
      kept = c.requires.carrying.kept;
      mount = c.requires.mounted;
      way = c.requires.reads;
      over = c.requires.ended;
    } in
    entries_fit c.args.site.now c.args.history.now.value w.good f.legal

pub returns-clause-kept : goal.returns-clause-kept
returns-clause-kept c =
    let f : IsFailure c.args.site.now c.args.history.now.value c.args.at c.args.mount c.args.fault c.args.charged.items c.args.returned.items = record { legal = c.requires.carrying.legal; within = c.requires.carrying.at; fit = c.requires.carrying.fit; accepted = c.requires.carrying.accepted } in
    let w : IsRead c.args.site.now c.args.history.now.value c.args.at c.args.mount c.args.fault c.args.charged.items c.args.returned.items c.args.found.ended.items c.args.mounted c.args.parts.now = record {
      failure = f;
      valid = subst IsValidSite c.site-rules.ensures c.keeps_rules.ensures.valid;
      good = subst IsWellFormed c.site-rules.ensures c.keeps_rules.ensures.parts;
      classes = subst ClassesAreKnown c.site-rules.ensures c.numbers_are_known.ensures.classes;
      kept = c.requires.carrying.kept;
      mount = c.requires.mounted;
      way = c.requires.reads;
      over = c.requires.ended;
    } in
    let resolved : TellSame (book_in c.resolve.new.book.value) (end_jobs c.args.found.ended.items (charge_jobs c.args.charged.items (record { drive = c.args.mounted.drive; tape = c.args.mounted.tape; fault = c.args.fault }) (give_back_jobs (c.args.charged.items ++ c.args.returned.items) (book_in c.args.parts.now.book.value)))) =
    subst (λ (x : Charge). TellSame (book_in c.resolve.new.book.value) (end_jobs c.args.found.ended.items (charge_jobs c.args.charged.items x (give_back_jobs (c.args.charged.items ++ c.args.returned.items) (book_in c.args.parts.now.book.value))))) c.charge_of-charge.ensures
    (subst (λ (js : List Job). TellSame (book_in c.resolve.new.book.value) (end_jobs js (charge_jobs c.args.charged.items c.charge_of-charge.result (give_back_jobs (c.args.charged.items ++ c.args.returned.items) (book_in c.args.parts.now.book.value))))) c.as_slice.ensures.value
    (subst (λ (js : List Job). TellSame (book_in c.resolve.new.book.value) (end_jobs c.as_slice.result.now (charge_jobs js c.charge_of-charge.result (give_back_jobs (js ++ c.args.returned.items) (book_in c.args.parts.now.book.value))))) c.as_slice-fewer.ensures
    (subst (λ (js : List Job). TellSame (book_in c.resolve.new.book.value) (end_jobs c.as_slice.result.now (charge_jobs c.as_slice-fewer.result.now c.charge_of-charge.result (give_back_jobs (c.as_slice-fewer.result.now ++ js) (book_in c.args.parts.now.book.value))))) c.as_slice-others.ensures c.resolve.ensures))) in
    let added : (k : ℕ) → lines_in c.queue_reads.new.recalls.value k ≡ add_by (source_in c.args.parts.now.tapes.value (book_in c.resolve.new.book.value)) (line_of c.args.site.now c.args.history.now.value direction.Retrieve) (jobs_live (book_in c.resolve.new.book.value) c.args.returned.items) (lines_in c.args.parts.now.recalls.value) k =
    λ k. subst (λ (s : Site). lines_in c.queue_reads.new.recalls.value k ≡ add_by (source_in c.args.parts.now.tapes.value (book_in c.resolve.new.book.value)) (line_of s c.args.history.now.value direction.Retrieve) (jobs_live (book_in c.resolve.new.book.value) c.args.returned.items) (lines_in c.args.parts.now.recalls.value) k) c.site-rules.ensures
    (subst (λ (js : List Job). lines_in c.queue_reads.new.recalls.value k ≡ add_by (source_in c.args.parts.now.tapes.value (book_in c.resolve.new.book.value)) (line_of c.site-rules.result.now c.args.history.now.value direction.Retrieve) (jobs_live (book_in c.resolve.new.book.value) js) (lines_in c.args.parts.now.recalls.value) k) c.as_slice-others.ensures (c.queue_reads.ensures.lines k)) in
    let again : (k : ℕ) → lines_in c.queue_reads-2.new.recalls.value k ≡ add_by (source_in c.args.parts.now.tapes.value (book_in c.resolve.new.book.value)) (line_of c.args.site.now c.args.history.now.value direction.Retrieve) (jobs_live (book_in c.resolve.new.book.value) c.args.charged.items) (lines_in c.queue_reads.new.recalls.value) k =
    λ k. subst (λ (s : Site). lines_in c.queue_reads-2.new.recalls.value k ≡ add_by (source_in c.args.parts.now.tapes.value (book_in c.resolve.new.book.value)) (line_of s c.args.history.now.value direction.Retrieve) (jobs_live (book_in c.resolve.new.book.value) c.args.charged.items) (lines_in c.queue_reads.new.recalls.value) k) c.site-rules.ensures
    (subst (λ (js : List Job). lines_in c.queue_reads-2.new.recalls.value k ≡ add_by (source_in c.args.parts.now.tapes.value (book_in c.resolve.new.book.value)) (line_of c.site-rules.result.now c.args.history.now.value direction.Retrieve) (jobs_live (book_in c.resolve.new.book.value) js) (lines_in c.queue_reads.new.recalls.value) k) c.as_slice-fewer.ensures (c.queue_reads-2.ensures.lines k)) in
    let a : c.bytes_of.result ≡ size_of_jobs c.args.history.now.value c.args.charged.items = c.bytes_of.ensures ∙ ap (size_of_jobs c.args.history.now.value) c.as_slice-fewer.ensures in
    let b : c.bytes_of-2.result ≡ size_of_jobs c.args.history.now.value c.args.returned.items = c.bytes_of-2.ensures ∙ ap (size_of_jobs c.args.history.now.value) c.as_slice-others.ensures in
    let done : IsReadBack c.args.site.now c.args.history.now.value c.args.at c.args.mount c.args.fault c.args.charged.items c.args.returned.items c.args.found.ended.items c.args.mounted (c.bytes_of.result + c.bytes_of-2.result) c.moment_of-now.result c.args.found.waiters.items c.args.found.endings.items c.args.parts.now c.unhold.new.self c.resolve.new.book c.queue_reads.new.recalls c.queue_reads-2.new.recalls c.fail_readers.new.repacks c.fail_requests.new.requests = record {
      read = w;
      moment = c.moment_of-now.ensures;
      bytes = ap (λ (k : ℕ). k + c.bytes_of-2.result) a ∙ ap (λ (k : ℕ). size_of_jobs c.args.history.now.value c.args.charged.items + k) b;
      waits = c.requires.waiters;
      told = c.requires.endings;
      free = c.unhold.ensures.held;
      still = c.unhold.ensures.contents;
      resolved = resolved;
      others = added;
      back = again;
      keys = c.queue_reads-2.ensures.keys ∙ c.queue_reads.ensures.keys;
      failed = subst (λ (xs : List (ℕ × ℕ)). RepacksAgree (repacks_of c.fail_readers.new.repacks) (set_states item.Failed (pair_targets xs) (repacks_of c.args.parts.now.repacks))) c.as_slice-2.ensures.value c.fail_readers.ensures.repacks;
      named = c.fail_readers.ensures.names;
      files = c.fail_requests.ensures;
    } in
    kept_behind c.args.site.now c.args.history.now.value c.append_failed.new.history.value c.args.at (failed c.args.mount c.args.fault c.args.charged.items c.args.returned.items) answer.Done c.args.parts.now _ c.kept_parts_move.ensures c.requires.carrying.legal c.requires.carrying.kept c.requires.carrying.at c.requires.carrying.fit
    (done_is c.args.site.now c.args.history.now.value c.args.at c.args.mount c.args.fault c.args.charged.items c.args.returned.items f) c.requires.carrying.accepted
    (read_called c.places_are_of_copies.ensures c.places_are_on_site.ensures c.args.site.now c.args.history.now.value c.args.at c.args.mount c.args.fault c.args.charged.items c.args.returned.items c.args.found.ended.items c.args.mounted (c.bytes_of.result + c.bytes_of-2.result) c.moment_of-now.result c.args.found.waiters.items c.args.found.endings.items c.args.parts.now c.unhold.new.self c.resolve.new.book c.queue_reads.new.recalls c.queue_reads-2.new.recalls c.fail_readers.new.repacks c.fail_requests.new.requests done)
    c.append_failed.ensures
