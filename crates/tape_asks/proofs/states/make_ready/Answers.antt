use Rattle.std.proofs.Common.{◌≡◌, ◌≤◌, length, ap, subst, arith}
use Rattle.cta_site.specs.ValidSite.{IsValidSite}
use Rattle.cta_site.specs.WellFormed.{IsWellFormed}
use Rattle.part_model.specs.JobRows.{book_in}
use Rattle.part_moves.proofs.WaitLists.{waiting_fits}
use Rattle.tape_asks.proofs.FoundLists.{found_are, fseqs_low, moved_few}
use Rattle.tape_asks.proofs.TapeItems.{HasOnePlace, one_place}
use Rattle.tape_asks.proofs.states.make_ready.Goals as goal

pub find_all-requires-clause-fseqs : goal.find_all-requires-clause-fseqs
find_all-requires-clause-fseqs c =
    let good : IsWellFormed c.args.site.now = subst IsWellFormed c.site.ensures c.keeps_rules.ensures.parts in
    fseqs_low c.args.site.now c.args.history.now.value c.args.parts.now.tapes.value c.places_below.ensures c.fseqs_are_low.ensures good c.requires.legal c.requires.kept.stand.space.tapes

pub find_all-requires-clause-waiting : goal.find_all-requires-clause-waiting
find_all-requires-clause-waiting c =
    let good : IsWellFormed c.args.site.now = subst IsWellFormed c.site.ensures c.keeps_rules.ensures.parts in
    λ f. waiting_fits c.args.site.now c.args.history.now.value f _ c.subscribers_wait.ensures c.stays_short.ensures c.requires.legal good (c.requires.kept.stand.jobs.book.recall f)

pub needs_of-requires : goal.needs_of-requires
needs_of-requires c =
    let good : IsWellFormed c.args.site.now = subst IsWellFormed c.site.ensures c.keeps_rules.ensures.parts in
    let few : length c.in_ok-found.found.moved.items ≤ 1000000 =
    moved_few c.args.site.now c.args.history.now.value c.args.parts.now.tapes.value (book_in c.args.parts.now.book.value) c.args.tape c.in_ok-found.found.items.items c.in_ok-found.found.moved.items c.fseqs_are_low.ensures good c.requires.legal c.requires.kept.stand.space.tapes
    c.in_ok-found.ensures.items c.in_ok-found.ensures.moved in
    let same : length c.as_slice.result.now ≡ length c.in_ok-found.found.moved.items = ap length c.as_slice.ensures.value in
    omega (arith, few, same)

pub returns-clause-found : goal.returns-clause-found
returns-clause-found c =
    let valid : IsValidSite c.args.site.now = subst IsValidSite c.site.ensures c.keeps_rules.ensures.valid in
    let one : HasOnePlace c.args.parts.now.tapes.value c.args.tape = one_place c.one_place_on_tape.ensures c.args.site.now c.args.history.now.value c.args.parts.now.tapes.value c.args.tape valid c.requires.legal c.requires.kept.stand.space.tapes in
    found_are c.args.site.now c.args.history.now.value c.args.parts.now.tapes.value c.reserve.new.self.tapes.value (book_in c.args.parts.now.book.value) c.args.tape c.args.state c.in_ok-found.found c.requires.legal c.requires.kept.stand.space.tapes c.requires.kept.stand.jobs.book
    c.in_ok-reserve.ensures.same.table one c.in_ok-found.ensures.items c.in_ok-found.ensures.moved c.in_ok-found.ensures.ended c.in_ok-found.ensures.waiters c.in_ok-found.ensures.many c.in_ok-found.ensures.same
