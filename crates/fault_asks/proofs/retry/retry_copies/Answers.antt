use Rattle.std.proofs.Common.{◌≡◌, ◌∙◌, ◌+◌, ◌*◌, ◌<◌, ◌≤◌, ◌^◌, ◌∷◌, ℕ, List, length, ap, refl, sym, subst}
use Rattle.std.specs.List.{AllByRecursion}
use Rattle.cta_site.specs.declared.site.Site.{Site}
use Rattle.cta_site.specs.Listed.{rows}
use Rattle.cta_site.specs.ValidSite.{IsValidSite}
use Rattle.cta_site.specs.WellFormed.{IsWellFormed}
use Rattle.cta_model.specs.declared.answers.Answer.TheVariants as answer
use Rattle.cta_model.specs.declared.asks.Job.{Job}
use Rattle.cta_model.specs.Answers.{names_twice}
use Rattle.cta_model.specs.History.{History}
use Rattle.cta_model.specs.Legal.{IsLegal}
use Rattle.job_queues.specs.Waiting.{bytes_of}
use Rattle.part_model.specs.Queues.{lines_in}
use Rattle.fault_asks.specs.Retrying.{CanQueue}
use Rattle.archive_parts.proofs.Behind.{few_entries}
use Rattle.fault_asks.proofs.RetryFacts.{IsRetry, born, can, copies_kept, few, fits, found_so, longer, once, pushed_so, retry_carried, retry_entry}
use Rattle.fault_asks.proofs.retry.retry_copies.Goals as goal
use Rattle.part_moves.proofs.NewJobs.{sizes_small}

pub make_ready-requires : goal.make_ready-requires
make_ready-requires c = copies_kept c.args.site.now c.args.history.now.value c.args.parts.now c.requires.kept

pub needs_of-requires : goal.needs_of-requires
needs_of-requires c =
    let site : Site = c.args.site.now in
    let h : History = c.args.history.now.value in
    let ps : List (List ℕ) = c.args.paths.items in
    let jobs : List Job = c.in-Ok.ready.jobs.items in
    let r : IsRetry site h c.args.at c.next_number-number.result c.args.who ps c.args.parts.now jobs = record {
      legal = c.requires.legal;
      within = c.requires.at;
      accepted = c.requires.accepted;
      kept = c.requires.kept;
      tells = c.parts_tell_operators.ensures;
      number = c.next_number-number.ensures.number;
      found = found_so c.args.parts.now c.args.parts.now c.next_number-number.result ps c.as_slice.result.now jobs c.in-Ok.ensures.jobs c.as_slice.ensures refl refl;
    } in
    let top : site.limits.history ≤ 1000000 = (subst IsWellFormed c.site-rules.ensures c.keeps_rules.ensures.parts).limits.history_to in
    subst (λ (js : List Job). length js ≤ 1000000) (sym c.as_slice-2.ensures.value) (few site h c.args.at c.next_number-number.result c.args.who ps c.args.parts.now jobs r top)

pub append-requires-clause-few : goal.append-requires-clause-few
append-requires-clause-few c =
    subst (λ (g : History). length g + 2 < 2 ^ 32) (sym c.in-Ok.ensures.entries) (few_entries c.args.site.now c.args.history.now.value c.stays_short.ensures (subst IsWellFormed c.site-rules.ensures c.keeps_rules.ensures.parts) c.requires.legal)

pub settle_retry-requires-clause-births : goal.settle_retry-requires-clause-births
settle_retry-requires-clause-births c =
    let site : Site = c.args.site.now in
    let h : History = c.args.history.now.value in
    let ps : List (List ℕ) = c.args.paths.items in
    let jobs : List Job = c.in-Ok.ready.jobs.items in
    let r : IsRetry site h c.args.at c.next_number-number.result c.args.who ps c.reserve.new.self jobs = record {
      legal = c.requires.legal;
      within = c.requires.at;
      accepted = c.requires.accepted;
      kept = c.same_parts_are_kept.ensures site h c.args.parts.now c.reserve.new.self c.reserve.ensures.same c.requires.kept;
      tells = c.parts_tell_operators.ensures;
      number = c.next_number-number.ensures.number;
      found = found_so c.args.parts.now c.reserve.new.self c.next_number-number.result ps c.as_slice.result.now jobs c.in-Ok.ensures.jobs c.as_slice.ensures c.reserve.ensures.same.names c.reserve.ensures.same.failed;
    } in
    subst (λ (js : List Job). AllByRecursion (λ (j : Job). j.birth ≡ c.next_number-number.result) js) (sym c.as_slice-3.ensures.value) (born site h c.args.at c.next_number-number.result c.args.who ps c.reserve.new.self jobs r)

pub settle_retry-requires-clause-can : goal.settle_retry-requires-clause-can
settle_retry-requires-clause-can c =
    let site : Site = c.args.site.now in
    let h : History = c.args.history.now.value in
    let ps : List (List ℕ) = c.args.paths.items in
    let jobs : List Job = c.in-Ok.ready.jobs.items in
    let r : IsRetry site h c.args.at c.next_number-number.result c.args.who ps c.reserve.new.self jobs = record {
      legal = c.requires.legal;
      within = c.requires.at;
      accepted = c.requires.accepted;
      kept = c.same_parts_are_kept.ensures site h c.args.parts.now c.reserve.new.self c.reserve.ensures.same c.requires.kept;
      tells = c.parts_tell_operators.ensures;
      number = c.next_number-number.ensures.number;
      found = found_so c.args.parts.now c.reserve.new.self c.next_number-number.result ps c.as_slice.result.now jobs c.in-Ok.ensures.jobs c.as_slice.ensures c.reserve.ensures.same.names c.reserve.ensures.same.failed;
    } in
    let is : c.append.new.self.value ≡ retry_entry h c.args.at c.args.who ps jobs ∷ h = pushed_so h c.make_ready.new.history.value c.append.new.self.value c.args.at c.args.who ps c.of.result.items c.in-Ok.ready.told.items jobs c.append.ensures c.in-Ok.ensures.entries c.of.ensures.items c.in-Ok.ensures.told in
    subst (λ (s : Site). AllByRecursion (CanQueue s c.append.new.self.value (lines_in c.reserve.new.self.pools.value)) c.as_slice-3.result.now) (sym c.site-rules.ensures)
    (subst (λ (g : History). AllByRecursion (CanQueue site g (lines_in c.reserve.new.self.pools.value)) c.as_slice-3.result.now) (sym is)
    (subst (λ (js : List Job). AllByRecursion (CanQueue site (retry_entry h c.args.at c.args.who ps jobs ∷ h) (lines_in c.reserve.new.self.pools.value)) js) (sym c.as_slice-3.ensures.value) (can site h c.args.at c.next_number-number.result c.args.who ps c.reserve.new.self jobs r)))

pub settle_retry-requires-clause-once : goal.settle_retry-requires-clause-once
settle_retry-requires-clause-once c =
    let site : Site = c.args.site.now in
    let h : History = c.args.history.now.value in
    let ps : List (List ℕ) = c.args.paths.items in
    let jobs : List Job = c.in-Ok.ready.jobs.items in
    let r : IsRetry site h c.args.at c.next_number-number.result c.args.who ps c.reserve.new.self jobs = record {
      legal = c.requires.legal;
      within = c.requires.at;
      accepted = c.requires.accepted;
      kept = c.same_parts_are_kept.ensures site h c.args.parts.now c.reserve.new.self c.reserve.ensures.same c.requires.kept;
      tells = c.parts_tell_operators.ensures;
      number = c.next_number-number.ensures.number;
      found = found_so c.args.parts.now c.reserve.new.self c.next_number-number.result ps c.as_slice.result.now jobs c.in-Ok.ensures.jobs c.as_slice.ensures c.reserve.ensures.same.names c.reserve.ensures.same.failed;
    } in
    ap names_twice c.as_slice-3.ensures.value ∙ once site h c.args.at c.next_number-number.result c.args.who ps c.reserve.new.self jobs r

pub settle_retry-requires-clause-small : goal.settle_retry-requires-clause-small
settle_retry-requires-clause-small c =
    let site : Site = c.args.site.now in
    let h : History = c.args.history.now.value in
    let ps : List (List ℕ) = c.args.paths.items in
    let jobs : List Job = c.in-Ok.ready.jobs.items in
    let r : IsRetry site h c.args.at c.next_number-number.result c.args.who ps c.reserve.new.self jobs = record {
      legal = c.requires.legal;
      within = c.requires.at;
      accepted = c.requires.accepted;
      kept = c.same_parts_are_kept.ensures site h c.args.parts.now c.reserve.new.self c.reserve.ensures.same c.requires.kept;
      tells = c.parts_tell_operators.ensures;
      number = c.next_number-number.ensures.number;
      found = found_so c.args.parts.now c.reserve.new.self c.next_number-number.result ps c.as_slice.result.now jobs c.in-Ok.ensures.jobs c.as_slice.ensures c.reserve.ensures.same.names c.reserve.ensures.same.failed;
    } in
    let is : c.append.new.self.value ≡ retry_entry h c.args.at c.args.who ps jobs ∷ h = pushed_so h c.make_ready.new.history.value c.append.new.self.value c.args.at c.args.who ps c.of.result.items c.in-Ok.ready.told.items jobs c.append.ensures c.in-Ok.ensures.entries c.of.ensures.items c.in-Ok.ensures.told in
    sizes_small c.files_fit_buffer.ensures site c.append.new.self.value (subst IsWellFormed c.site-rules.ensures c.keeps_rules.ensures.parts)
    (subst (λ (g : History). IsLegal site g) (sym is) (longer site h c.args.at c.next_number-number.result c.args.who ps c.reserve.new.self jobs r))

pub settle_retry-requires-clause-fits : goal.settle_retry-requires-clause-fits
settle_retry-requires-clause-fits c =
    let site : Site = c.args.site.now in
    let h : History = c.args.history.now.value in
    let ps : List (List ℕ) = c.args.paths.items in
    let jobs : List Job = c.in-Ok.ready.jobs.items in
    let r : IsRetry site h c.args.at c.next_number-number.result c.args.who ps c.reserve.new.self jobs = record {
      legal = c.requires.legal;
      within = c.requires.at;
      accepted = c.requires.accepted;
      kept = c.same_parts_are_kept.ensures site h c.args.parts.now c.reserve.new.self c.reserve.ensures.same c.requires.kept;
      tells = c.parts_tell_operators.ensures;
      number = c.next_number-number.ensures.number;
      found = found_so c.args.parts.now c.reserve.new.self c.next_number-number.result ps c.as_slice.result.now jobs c.in-Ok.ensures.jobs c.as_slice.ensures c.reserve.ensures.same.names c.reserve.ensures.same.failed;
    } in
    let top : site.limits.history ≤ 1000000 = (subst IsWellFormed c.site-rules.ensures c.keeps_rules.ensures.parts).limits.history_to in
    λ k. subst (λ (js : List Job). bytes_of (lines_in c.reserve.new.self.pools.value k) + 2147483648 * length js < 2 ^ 64) (sym c.as_slice-3.ensures.value)
    (fits site h c.args.at c.next_number-number.result c.args.who ps c.reserve.new.self jobs r c.lines_are_small.ensures (subst IsValidSite c.site-rules.ensures c.keeps_rules.ensures.valid) top k)

pub returns-clause-carried : goal.returns-clause-carried
returns-clause-carried c =
    let site : Site = c.args.site.now in
    let h : History = c.args.history.now.value in
    let ps : List (List ℕ) = c.args.paths.items in
    let jobs : List Job = c.in-Ok.ready.jobs.items in
    let r : IsRetry site h c.args.at c.next_number-number.result c.args.who ps c.reserve.new.self jobs = record {
      legal = c.requires.legal;
      within = c.requires.at;
      accepted = c.requires.accepted;
      kept = c.same_parts_are_kept.ensures site h c.args.parts.now c.reserve.new.self c.reserve.ensures.same c.requires.kept;
      tells = c.parts_tell_operators.ensures;
      number = c.next_number-number.ensures.number;
      found = found_so c.args.parts.now c.reserve.new.self c.next_number-number.result ps c.as_slice.result.now jobs c.in-Ok.ensures.jobs c.as_slice.ensures c.reserve.ensures.same.names c.reserve.ensures.same.failed;
    } in
    let is : c.append.new.self.value ≡ retry_entry h c.args.at c.args.who ps jobs ∷ h = pushed_so h c.make_ready.new.history.value c.append.new.self.value c.args.at c.args.who ps c.of.result.items c.in-Ok.ready.told.items jobs c.append.ensures c.in-Ok.ensures.entries c.of.ensures.items c.in-Ok.ensures.told in
    retry_carried site c.site-rules.result.now h c.append.new.self.value c.args.at c.next_number-number.result c.args.who ps (answer.Retried c.of-2.result) c.reserve.new.self c.settle_retry.new.parts jobs c.as_slice-3.result.now c.kept_parts_move.ensures r c.site-rules.ensures c.as_slice-3.ensures.value (ap (λ (js : List Job). answer.Retried (rows js)) c.of-2.ensures.items) is c.settle_retry.ensures
