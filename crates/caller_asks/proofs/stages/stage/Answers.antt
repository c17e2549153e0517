use Rattle.std.proofs.Common.{◌≡◌, ◌∙◌, ◌+◌, ◌<◌, ◌≤◌, ◌^◌, ◌∷◌, ℕ, List, [], length, map, ap, sym, subst, arith, true, refl}
use Rattle.std.specs.List.{AllByRecursion}
use Rattle.cta_site.specs.declared.site.Limits.{Limits}
use Rattle.cta_site.specs.declared.site.Site.{Site}
use Rattle.cta_site.specs.Listed.{rows}
use Rattle.cta_site.specs.ValidSite.{IsValidSite}
use Rattle.cta_site.specs.WellFormed.{IsWellFormed}
use Rattle.cta_model.specs.declared.answers.Answer.TheVariants as answer
use Rattle.cta_model.specs.declared.asks.Ask.TheVariants as ask
use Rattle.cta_model.specs.declared.asks.Wanted.{Wanted}
use Rattle.cta_model.specs.declared.states.StageFile.{StageFile}
use Rattle.cta_model.specs.Files.{size_of}
use Rattle.cta_model.specs.History.{History, entry_of}
use Rattle.cta_model.specs.Legal.{IsLegal, new_entry}
use Rattle.cta_model.specs.Stages.{first_named, stage_files}
use Rattle.cta_laws.specs.Stages.{files_staged}
use Rattle.kept_history.specs.Puts.{is_put}
use Rattle.part_model.specs.Requests.{Requests, RequestsAgree, add_request}
use Rattle.stage_book.specs.Requested.{AreApart, ArePathsApart}
use Rattle.archive_parts.specs.Called.{AreKeptCalled}
use Rattle.archive_parts.specs.PartsKept.{ArePartsKept}
use Rattle.caller_asks.specs.Wanted.{asked_in}
use Rattle.archive_parts.proofs.Behind.{can_over, carried_behind, few_entries, not_carried}
use Rattle.caller_asks.proofs.StageCalls.{stage_answered, stage_entry}
use Rattle.caller_asks.proofs.StageFacts.{bearing_few, bearing_once, bytes_few, files_apart, files_few, files_found, jobs_few, lacks_new, numbers_found, paths_apart, puts_there, recalled_once, sources_low, stage_legal}
use Rattle.caller_asks.proofs.StagedFiles.{wanted_few}
use Rattle.caller_asks.proofs.stages.stage.Goals as goal
use Rattle.part_moves.proofs.NewJobs.{sizes_small}

pub add-requires-clause-apart : goal.add-requires-clause-apart
add-requires-clause-apart c =
    let site : Site = c.args.site.now in
    let h : History = c.args.history.now.value in
    let ws : List Wanted = c.args.wanted.items in
    let p = c.make_ready.new.parts in
    let kept : ArePartsKept site h c.make_ready.new.parts = c.same_parts_are_kept.ensures site h c.args.parts.now c.make_ready.new.parts c.in-Ok.ensures.parts c.requires.kept in
    let lifetime = ap (λ (l : Limits). l.lifetime) c.limits-lifetime.ensures.value ∙ ap (λ (s : Site). s.limits.lifetime) c.site-rules.ensures in
    let are : c.in-Ok.asked.files.items ≡ stage_files site h ws =
    files_found site h p.names c.limits-lifetime.result.lifetime ws c.in-Ok.asked.files.items kept.stand.space.names lifetime (c.in-Ok.ensures.files ∙ ap (λ (xs : List Wanted). map (asked_in p.names c.limits-lifetime.result.lifetime) (first_named [] xs)) c.as_slice.ensures) in
    subst AreApart (sym c.of.ensures.items) (files_apart site h ws c.in-Ok.asked.files.items are)

pub add-requires-clause-paths : goal.add-requires-clause-paths
add-requires-clause-paths c =
    let site : Site = c.args.site.now in
    let h : History = c.args.history.now.value in
    let ws : List Wanted = c.args.wanted.items in
    let p = c.make_ready.new.parts in
    let kept : ArePartsKept site h c.make_ready.new.parts = c.same_parts_are_kept.ensures site h c.args.parts.now c.make_ready.new.parts c.in-Ok.ensures.parts c.requires.kept in
    let lifetime = ap (λ (l : Limits). l.lifetime) c.limits-lifetime.ensures.value ∙ ap (λ (s : Site). s.limits.lifetime) c.site-rules.ensures in
    let are : c.in-Ok.asked.files.items ≡ stage_files site h ws =
    files_found site h p.names c.limits-lifetime.result.lifetime ws c.in-Ok.asked.files.items kept.stand.space.names lifetime (c.in-Ok.ensures.files ∙ ap (λ (xs : List Wanted). map (asked_in p.names c.limits-lifetime.result.lifetime) (first_named [] xs)) c.as_slice.ensures) in
    subst ArePathsApart (sym c.of.ensures.items) (paths_apart site h ws c.in-Ok.asked.files.items are)

pub returns-in-Err-add-clause-carried : goal.returns-in-Err-add-clause-carried
returns-in-Err-add-clause-carried c =
    let site : Site = c.args.site.now in
    let h : History = c.args.history.now.value in
    let kept : ArePartsKept site h c.make_ready.new.parts = c.same_parts_are_kept.ensures site h c.args.parts.now c.make_ready.new.parts c.in-Ok.ensures.parts c.requires.kept in
    not_carried site h c.make_ready.new.history.value c.args.at (ask.Stage c.args.who (rows c.args.wanted.items)) _ _ c.in-Ok.ensures.entries
    (subst (λ (r : Requests). ArePartsKept site h (record c.make_ready.new.parts { requests = r })) (sym c.in-Err-add.ensures.unchanged) kept)

pub append-requires-clause-few : goal.append-requires-clause-few
append-requires-clause-few c =
    subst (λ (g : History). length g + 2 < 2 ^ 32) (sym c.in-Ok.ensures.entries)
    (few_entries c.args.site.now c.args.history.now.value c.stays_short.ensures (subst IsWellFormed c.site-rules.ensures c.keeps_rules.ensures.parts) c.requires.legal)

pub settle_stage-requires-clause-recalled_once : goal.settle_stage-requires-clause-recalled_once
settle_stage-requires-clause-recalled_once c =
    let site : Site = c.args.site.now in
    let h : History = c.args.history.now.value in
    let ws : List Wanted = c.args.wanted.items in
    let p = c.make_ready.new.parts in
    let kept : ArePartsKept site h c.make_ready.new.parts = c.same_parts_are_kept.ensures site h c.args.parts.now c.make_ready.new.parts c.in-Ok.ensures.parts c.requires.kept in
    let lifetime = ap (λ (l : Limits). l.lifetime) c.limits-lifetime.ensures.value ∙ ap (λ (s : Site). s.limits.lifetime) c.site-rules.ensures in
    let are : c.in-Ok.asked.files.items ≡ stage_files site h ws =
    files_found site h p.names c.limits-lifetime.result.lifetime ws c.in-Ok.asked.files.items kept.stand.space.names lifetime (c.in-Ok.ensures.files ∙ ap (λ (xs : List Wanted). map (asked_in p.names c.limits-lifetime.result.lifetime) (first_named [] xs)) c.as_slice.ensures) in
    let named : c.in-Ok.asked.numbers.items ≡ files_staged site h ws = numbers_found site h ws c.in-Ok.asked.files.items c.in-Ok.asked.numbers.items are c.in-Ok.ensures.numbers in
    recalled_once site h ws p c.in-Ok.asked.numbers.items c.in-Ok.asked.sorted named c.in-Ok.ensures.sorted

pub settle_stage-requires-clause-bearing_once : goal.settle_stage-requires-clause-bearing_once
settle_stage-requires-clause-bearing_once c =
    let site : Site = c.args.site.now in
    let h : History = c.args.history.now.value in
    let ws : List Wanted = c.args.wanted.items in
    let p = c.make_ready.new.parts in
    let kept : ArePartsKept site h c.make_ready.new.parts = c.same_parts_are_kept.ensures site h c.args.parts.now c.make_ready.new.parts c.in-Ok.ensures.parts c.requires.kept in
    let lifetime = ap (λ (l : Limits). l.lifetime) c.limits-lifetime.ensures.value ∙ ap (λ (s : Site). s.limits.lifetime) c.site-rules.ensures in
    let are : c.in-Ok.asked.files.items ≡ stage_files site h ws =
    files_found site h p.names c.limits-lifetime.result.lifetime ws c.in-Ok.asked.files.items kept.stand.space.names lifetime (c.in-Ok.ensures.files ∙ ap (λ (xs : List Wanted). map (asked_in p.names c.limits-lifetime.result.lifetime) (first_named [] xs)) c.as_slice.ensures) in
    let named : c.in-Ok.asked.numbers.items ≡ files_staged site h ws = numbers_found site h ws c.in-Ok.asked.files.items c.in-Ok.asked.numbers.items are c.in-Ok.ensures.numbers in
    bearing_once site h ws p c.in-Ok.asked.numbers.items c.in-Ok.asked.sorted named c.in-Ok.ensures.sorted

pub settle_stage-requires-clause-jobs : goal.settle_stage-requires-clause-jobs
settle_stage-requires-clause-jobs c =
    let site : Site = c.args.site.now in
    let h : History = c.args.history.now.value in
    let ws : List Wanted = c.args.wanted.items in
    let p = c.make_ready.new.parts in
    let kept : ArePartsKept site h c.make_ready.new.parts = c.same_parts_are_kept.ensures site h c.args.parts.now c.make_ready.new.parts c.in-Ok.ensures.parts c.requires.kept in
    let lifetime = ap (λ (l : Limits). l.lifetime) c.limits-lifetime.ensures.value ∙ ap (λ (s : Site). s.limits.lifetime) c.site-rules.ensures in
    let are : c.in-Ok.asked.files.items ≡ stage_files site h ws =
    files_found site h p.names c.limits-lifetime.result.lifetime ws c.in-Ok.asked.files.items kept.stand.space.names lifetime (c.in-Ok.ensures.files ∙ ap (λ (xs : List Wanted). map (asked_in p.names c.limits-lifetime.result.lifetime) (first_named [] xs)) c.as_slice.ensures) in
    let named : c.in-Ok.asked.numbers.items ≡ files_staged site h ws = numbers_found site h ws c.in-Ok.asked.files.items c.in-Ok.asked.numbers.items are c.in-Ok.ensures.numbers in
    let few = jobs_few site h ws p c.in-Ok.asked.numbers.items c.in-Ok.asked.sorted named c.in-Ok.ensures.sorted in
    let room : length ws ≤ p.book.room = subst (λ (xs : List Wanted). length xs ≤ p.book.room) c.as_slice.ensures c.in-Ok.ensures.jobs in
    omega (arith, few, room)

pub settle_stage-requires-clause-reads : goal.settle_stage-requires-clause-reads
settle_stage-requires-clause-reads c =
    let site : Site = c.args.site.now in
    let h : History = c.args.history.now.value in
    let ws : List Wanted = c.args.wanted.items in
    let p = c.make_ready.new.parts in
    let kept : ArePartsKept site h c.make_ready.new.parts = c.same_parts_are_kept.ensures site h c.args.parts.now c.make_ready.new.parts c.in-Ok.ensures.parts c.requires.kept in
    let lifetime = ap (λ (l : Limits). l.lifetime) c.limits-lifetime.ensures.value ∙ ap (λ (s : Site). s.limits.lifetime) c.site-rules.ensures in
    let are : c.in-Ok.asked.files.items ≡ stage_files site h ws =
    files_found site h p.names c.limits-lifetime.result.lifetime ws c.in-Ok.asked.files.items kept.stand.space.names lifetime (c.in-Ok.ensures.files ∙ ap (λ (xs : List Wanted). map (asked_in p.names c.limits-lifetime.result.lifetime) (first_named [] xs)) c.as_slice.ensures) in
    let named : c.in-Ok.asked.numbers.items ≡ files_staged site h ws = numbers_found site h ws c.in-Ok.asked.files.items c.in-Ok.asked.numbers.items are c.in-Ok.ensures.numbers in
    let few = bearing_few site h ws p c.in-Ok.asked.numbers.items c.in-Ok.asked.sorted named c.in-Ok.ensures.sorted in
    let room : length ws ≤ p.recalls.room = subst (λ (xs : List Wanted). length xs ≤ p.recalls.room) c.as_slice.ensures c.in-Ok.ensures.reads in
    omega (arith, few, room)

pub settle_stage-requires-clause-pins : goal.settle_stage-requires-clause-pins
settle_stage-requires-clause-pins c =
    let site : Site = c.args.site.now in
    let h : History = c.args.history.now.value in
    let ws : List Wanted = c.args.wanted.items in
    let p = c.make_ready.new.parts in
    let kept : ArePartsKept site h c.make_ready.new.parts = c.same_parts_are_kept.ensures site h c.args.parts.now c.make_ready.new.parts c.in-Ok.ensures.parts c.requires.kept in
    let lifetime = ap (λ (l : Limits). l.lifetime) c.limits-lifetime.ensures.value ∙ ap (λ (s : Site). s.limits.lifetime) c.site-rules.ensures in
    let are : c.in-Ok.asked.files.items ≡ stage_files site h ws =
    files_found site h p.names c.limits-lifetime.result.lifetime ws c.in-Ok.asked.files.items kept.stand.space.names lifetime (c.in-Ok.ensures.files ∙ ap (λ (xs : List Wanted). map (asked_in p.names c.limits-lifetime.result.lifetime) (first_named [] xs)) c.as_slice.ensures) in
    let named : c.in-Ok.asked.numbers.items ≡ files_staged site h ws = numbers_found site h ws c.in-Ok.asked.files.items c.in-Ok.asked.numbers.items are c.in-Ok.ensures.numbers in
    let few = files_few site h ws p c.in-Ok.asked.numbers.items c.in-Ok.asked.sorted named c.in-Ok.ensures.sorted in
    let room : length ws ≤ p.buffer.held.room = subst (λ (xs : List Wanted). length xs ≤ p.buffer.held.room) c.as_slice.ensures c.in-Ok.ensures.pins in
    subst (λ (xs : List ℕ). length xs ≤ p.buffer.held.room) (sym c.as_slice-2.ensures.value) (omega (arith, few, room))

pub settle_stage-requires-clause-puts : goal.settle_stage-requires-clause-puts
settle_stage-requires-clause-puts c =
    let site : Site = c.args.site.now in
    let h : History = c.args.history.now.value in
    let ws : List Wanted = c.args.wanted.items in
    let p = c.make_ready.new.parts in
    let kept : ArePartsKept site h c.make_ready.new.parts = c.same_parts_are_kept.ensures site h c.args.parts.now c.make_ready.new.parts c.in-Ok.ensures.parts c.requires.kept in
    let lifetime = ap (λ (l : Limits). l.lifetime) c.limits-lifetime.ensures.value ∙ ap (λ (s : Site). s.limits.lifetime) c.site-rules.ensures in
    let are : c.in-Ok.asked.files.items ≡ stage_files site h ws =
    files_found site h p.names c.limits-lifetime.result.lifetime ws c.in-Ok.asked.files.items kept.stand.space.names lifetime (c.in-Ok.ensures.files ∙ ap (λ (xs : List Wanted). map (asked_in p.names c.limits-lifetime.result.lifetime) (first_named [] xs)) c.as_slice.ensures) in
    let named : c.in-Ok.asked.numbers.items ≡ files_staged site h ws = numbers_found site h ws c.in-Ok.asked.files.items c.in-Ok.asked.numbers.items are c.in-Ok.ensures.numbers in
    let is : c.append.new.self.value ≡ stage_entry h c.args.at c.args.who ws c.next_number-number.result ∷ h =
    subst (λ (g : History). c.append.new.self.value ≡ new_entry g c.args.at (ask.Stage c.args.who (rows c.args.wanted.items)) (answer.Staged c.next_number-number.result) ∷ g) c.in-Ok.ensures.entries c.append.ensures in
    subst (λ (g : History). AllByRecursion (λ (f : ℕ). is_put (entry_of g f) ≡ true) c.in-Ok.asked.sorted.bearing.items) (sym is)
    (puts_there site h (stage_entry h c.args.at c.args.who ws c.next_number-number.result) c.args.who ws p c.in-Ok.asked.numbers.items c.in-Ok.asked.sorted named c.in-Ok.ensures.sorted)

pub settle_stage-requires-clause-keys : goal.settle_stage-requires-clause-keys
settle_stage-requires-clause-keys c =
    let site : Site = c.args.site.now in
    let h : History = c.args.history.now.value in
    let kept : ArePartsKept site h c.make_ready.new.parts = c.same_parts_are_kept.ensures site h c.args.parts.now c.make_ready.new.parts c.in-Ok.ensures.parts c.requires.kept in
    sources_low c.places_are_on_site.ensures site h c.make_ready.new.parts c.requires.legal kept

pub settle_stage-requires-clause-lacks : goal.settle_stage-requires-clause-lacks
settle_stage-requires-clause-lacks c =
    let site : Site = c.args.site.now in
    let h : History = c.args.history.now.value in
    let kept : ArePartsKept site h c.make_ready.new.parts = c.same_parts_are_kept.ensures site h c.args.parts.now c.make_ready.new.parts c.in-Ok.ensures.parts c.requires.kept in
    lacks_new site h c.make_ready.new.parts c.next_number-number.result c.requires.legal kept c.next_number-number.ensures.number

pub settle_stage-requires-clause-small : goal.settle_stage-requires-clause-small
settle_stage-requires-clause-small c =
    let site : Site = c.args.site.now in
    let h : History = c.args.history.now.value in
    let ws : List Wanted = c.args.wanted.items in
    let well : IsWellFormed site = subst IsWellFormed c.site-rules.ensures c.keeps_rules.ensures.parts in
    let is : c.append.new.self.value ≡ stage_entry h c.args.at c.args.who ws c.next_number-number.result ∷ h =
    subst (λ (g : History). c.append.new.self.value ≡ new_entry g c.args.at (ask.Stage c.args.who (rows c.args.wanted.items)) (answer.Staged c.next_number-number.result) ∷ g) c.in-Ok.ensures.entries c.append.ensures in
    let legal : IsLegal site (stage_entry h c.args.at c.args.who ws c.next_number-number.result ∷ h) = stage_legal site h c.args.at c.next_number-number.result c.args.who ws c.requires.legal c.requires.at c.next_number-number.ensures.number c.requires.accepted in
    subst (λ (g : History). (f : ℕ) → size_of g f ≤ 2147483648) (sym is) (sizes_small c.files_fit_buffer.ensures site (stage_entry h c.args.at c.args.who ws c.next_number-number.result ∷ h) well legal)

pub settle_stage-requires-clause-bytes : goal.settle_stage-requires-clause-bytes
settle_stage-requires-clause-bytes c =
    let site : Site = c.args.site.now in
    let h : History = c.args.history.now.value in
    let ws : List Wanted = c.args.wanted.items in
    let p = c.make_ready.new.parts in
    let kept : ArePartsKept site h c.make_ready.new.parts = c.same_parts_are_kept.ensures site h c.args.parts.now c.make_ready.new.parts c.in-Ok.ensures.parts c.requires.kept in
    let lifetime = ap (λ (l : Limits). l.lifetime) c.limits-lifetime.ensures.value ∙ ap (λ (s : Site). s.limits.lifetime) c.site-rules.ensures in
    let are : c.in-Ok.asked.files.items ≡ stage_files site h ws =
    files_found site h p.names c.limits-lifetime.result.lifetime ws c.in-Ok.asked.files.items kept.stand.space.names lifetime (c.in-Ok.ensures.files ∙ ap (λ (xs : List Wanted). map (asked_in p.names c.limits-lifetime.result.lifetime) (first_named [] xs)) c.as_slice.ensures) in
    let named : c.in-Ok.asked.numbers.items ≡ files_staged site h ws = numbers_found site h ws c.in-Ok.asked.files.items c.in-Ok.asked.numbers.items are c.in-Ok.ensures.numbers in
    let well : IsWellFormed site = subst IsWellFormed c.site-rules.ensures c.keeps_rules.ensures.parts in
    let valid : IsValidSite site = subst IsValidSite c.site-rules.ensures c.keeps_rules.ensures.valid in
    let few : length c.in-Ok.asked.sorted.bearing.items ≤ length ws = bearing_few site h ws p c.in-Ok.asked.numbers.items c.in-Ok.asked.sorted named c.in-Ok.ensures.sorted in
    let most : length ws ≤ 1000000 = wanted_few site h c.args.at c.args.who ws well.limits.history_to c.requires.accepted in
    λ k. bytes_few c.lines_are_small.ensures site h p c.in-Ok.asked.sorted.bearing.items k valid c.requires.legal kept (omega (arith, few, most))

pub returns-clause-carried : goal.returns-clause-carried
returns-clause-carried c =
    let site : Site = c.args.site.now in
    let h : History = c.args.history.now.value in
    let ws : List Wanted = c.args.wanted.items in
    let p = c.make_ready.new.parts in
    let kept : ArePartsKept site h c.make_ready.new.parts = c.same_parts_are_kept.ensures site h c.args.parts.now c.make_ready.new.parts c.in-Ok.ensures.parts c.requires.kept in
    let lifetime = ap (λ (l : Limits). l.lifetime) c.limits-lifetime.ensures.value ∙ ap (λ (s : Site). s.limits.lifetime) c.site-rules.ensures in
    let are : c.in-Ok.asked.files.items ≡ stage_files site h ws =
    files_found site h p.names c.limits-lifetime.result.lifetime ws c.in-Ok.asked.files.items kept.stand.space.names lifetime (c.in-Ok.ensures.files ∙ ap (λ (xs : List Wanted). map (asked_in p.names c.limits-lifetime.result.lifetime) (first_named [] xs)) c.as_slice.ensures) in
    let named : c.in-Ok.asked.numbers.items ≡ files_staged site h ws = numbers_found site h ws c.in-Ok.asked.files.items c.in-Ok.asked.numbers.items are c.in-Ok.ensures.numbers in
    let is : c.append.new.self.value ≡ stage_entry h c.args.at c.args.who ws c.next_number-number.result ∷ h =
    subst (λ (g : History). c.append.new.self.value ≡ new_entry g c.args.at (ask.Stage c.args.who (rows c.args.wanted.items)) (answer.Staged c.next_number-number.result) ∷ g) c.in-Ok.ensures.entries c.append.ensures in
    let legal : IsLegal site (stage_entry h c.args.at c.args.who ws c.next_number-number.result ∷ h) = stage_legal site h c.args.at c.next_number-number.result c.args.who ws c.requires.legal c.requires.at c.next_number-number.ensures.number c.requires.accepted in
    let n = c.next_number-number.result in
    let called : AreKeptCalled site h (stage_entry h c.args.at c.args.who ws n) p c.settle_stage.new.parts =
    subst (λ (s : Site). AreKeptCalled s h (stage_entry h c.args.at c.args.who ws n) p c.settle_stage.new.parts) c.site-rules.ensures
    (c.settle_stage.ensures h c.args.at c.args.who ws p.requests (subst (λ (s : Site). IsLegal s (stage_entry h c.args.at c.args.who ws n ∷ h)) (sym c.site-rules.ensures) legal) is c.moment_of-now.ensures c.next_number-number.ensures.number
    (subst (λ (s : Site). ArePartsKept s h p) (sym c.site-rules.ensures) kept)
    (subst (λ (s : Site). RequestsAgree c.add.new.self (add_request n c.moment_of-now.result (stage_files s h ws) p.requests)) (sym c.site-rules.ensures)
    (subst (λ (xs : List StageFile). RequestsAgree c.add.new.self (add_request n c.moment_of-now.result xs p.requests)) (c.of.ensures.items ∙ are) c.in_default.ensures.added))
    (subst (λ (s : Site). c.as_slice-2.result.now ≡ files_staged s h ws) (sym c.site-rules.ensures) (c.as_slice-2.ensures.value ∙ named))) in
    carried_behind site h c.append.new.self.value c.args.at (ask.Stage c.args.who (rows c.args.wanted.items)) (answer.Staged c.next_number-number.result) c.make_ready.new.parts c.settle_stage.new.parts c.kept_parts_move.ensures (can_over site h h c.args.parts.now c.make_ready.new.parts c.args.at (ask.Stage c.args.who (rows c.args.wanted.items)) c.requires kept refl)
    (stage_answered site h c.args.at c.args.who ws c.next_number-number.result c.next_number-number.ensures.number c.requires.accepted)
    called is
