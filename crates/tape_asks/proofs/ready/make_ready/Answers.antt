use Rattle.std.proofs.Common.{◌∙◌, List, ap, subst}
use Rattle.std.specs.Prelude.{map}
use Rattle.cta_site.specs.Laws.{ClassesAreKnown}
use Rattle.cta_site.specs.ValidSite.{IsValidSite}
use Rattle.cta_site.specs.WellFormed.{IsWellFormed}
use Rattle.cta_model.specs.declared.asks.Job.{Job}
use Rattle.cta_model.specs.Files.{path_of}
use Rattle.part_model.specs.JobRows.{book_in}
use Rattle.tape_asks.proofs.FoundLists.{fseqs_low}
use Rattle.tape_asks.proofs.TapeItems.{HasOnePlace, one_place}
use Rattle.tape_asks.specs.Lists.{joined_by, newborn_by, written_by}
use Rattle.tape_asks.proofs.RepackFacts.{IsPacking}
use Rattle.tape_asks.proofs.TakenFacts.{items_are, made_few, taken_are}
use Rattle.tape_asks.proofs.ready.make_ready.Goals as goal

pub find_all-requires : goal.find_all-requires
find_all-requires c =
    let w : IsPacking c.args.site.now c.args.history.now.value c.args.at c.args.who.now c.args.tape c.args.parts.now = record {
      legal = c.requires.carrying.legal;
      within = c.requires.carrying.at;
      accepted = c.requires.carrying.accepted;
      kept = c.requires.carrying.kept;
      valid = subst IsValidSite c.site-rules.ensures c.keeps_rules.ensures.valid;
      good = subst IsWellFormed c.site-rules.ensures c.keeps_rules.ensures.parts;
      classes = subst ClassesAreKnown c.site-rules.ensures c.numbers_are_known.ensures.classes;
    } in
    fseqs_low c.args.site.now c.args.history.now.value c.args.parts.now.tapes.value c.places_below.ensures c.fseqs_are_low.ensures w.good w.legal w.kept.stand.space.tapes

pub needs_of-requires-clause-joined : goal.needs_of-requires-clause-joined
needs_of-requires-clause-joined c =
    let w : IsPacking c.args.site.now c.args.history.now.value c.args.at c.args.who.now c.args.tape c.args.parts.now = record {
      legal = c.requires.carrying.legal;
      within = c.requires.carrying.at;
      accepted = c.requires.carrying.accepted;
      kept = c.requires.carrying.kept;
      valid = subst IsValidSite c.site-rules.ensures c.keeps_rules.ensures.valid;
      good = subst IsWellFormed c.site-rules.ensures c.keeps_rules.ensures.parts;
      classes = subst ClassesAreKnown c.site-rules.ensures c.numbers_are_known.ensures.classes;
    } in
    made_few c.args.site.now c.args.history.now.value c.args.tape (joined_by (book_in c.args.parts.now.book.value)) c.in_ok-found.found.items.items c.in_ok-found.found.joined.items c.fseqs_are_low.ensures w.good w.legal (items_are c.args.site.now c.args.history.now.value c.args.at c.args.who.now c.args.tape c.args.parts.now w c.in_ok-found.found.items.items c.in_ok-found.ensures.items) c.in_ok-found.ensures.joined

pub needs_of-requires-clause-newborn : goal.needs_of-requires-clause-newborn
needs_of-requires-clause-newborn c =
    let w : IsPacking c.args.site.now c.args.history.now.value c.args.at c.args.who.now c.args.tape c.args.parts.now = record {
      legal = c.requires.carrying.legal;
      within = c.requires.carrying.at;
      accepted = c.requires.carrying.accepted;
      kept = c.requires.carrying.kept;
      valid = subst IsValidSite c.site-rules.ensures c.keeps_rules.ensures.valid;
      good = subst IsWellFormed c.site-rules.ensures c.keeps_rules.ensures.parts;
      classes = subst ClassesAreKnown c.site-rules.ensures c.numbers_are_known.ensures.classes;
    } in
    made_few c.args.site.now c.args.history.now.value c.args.tape (newborn_by c.args.parts.now.buffer.held.value (book_in c.args.parts.now.book.value) c.args.number) c.in_ok-found.found.items.items c.in_ok-found.found.newborn.items c.fseqs_are_low.ensures w.good w.legal (items_are c.args.site.now c.args.history.now.value c.args.at c.args.who.now c.args.tape c.args.parts.now w c.in_ok-found.found.items.items c.in_ok-found.ensures.items) c.in_ok-found.ensures.newborn

pub needs_of-requires-clause-written : goal.needs_of-requires-clause-written
needs_of-requires-clause-written c =
    let w : IsPacking c.args.site.now c.args.history.now.value c.args.at c.args.who.now c.args.tape c.args.parts.now = record {
      legal = c.requires.carrying.legal;
      within = c.requires.carrying.at;
      accepted = c.requires.carrying.accepted;
      kept = c.requires.carrying.kept;
      valid = subst IsValidSite c.site-rules.ensures c.keeps_rules.ensures.valid;
      good = subst IsWellFormed c.site-rules.ensures c.keeps_rules.ensures.parts;
      classes = subst ClassesAreKnown c.site-rules.ensures c.numbers_are_known.ensures.classes;
    } in
    made_few c.args.site.now c.args.history.now.value c.args.tape (written_by c.args.parts.now.buffer.held.value c.args.number) c.in_ok-found.found.items.items c.in_ok-found.found.written.items c.fseqs_are_low.ensures w.good w.legal (items_are c.args.site.now c.args.history.now.value c.args.at c.args.who.now c.args.tape c.args.parts.now w c.in_ok-found.found.items.items c.in_ok-found.ensures.items) c.in_ok-found.ensures.written

pub returns-clause-taken : goal.returns-clause-taken
returns-clause-taken c =
    let w : IsPacking c.args.site.now c.args.history.now.value c.args.at c.args.who.now c.args.tape c.args.parts.now = record {
      legal = c.requires.carrying.legal;
      within = c.requires.carrying.at;
      accepted = c.requires.carrying.accepted;
      kept = c.requires.carrying.kept;
      valid = subst IsValidSite c.site-rules.ensures c.keeps_rules.ensures.valid;
      good = subst IsWellFormed c.site-rules.ensures c.keeps_rules.ensures.parts;
      classes = subst ClassesAreKnown c.site-rules.ensures c.numbers_are_known.ensures.classes;
    } in
    let one : HasOnePlace c.args.parts.now.tapes.value c.args.tape = one_place c.one_place_on_tape.ensures c.args.site.now c.args.history.now.value c.args.parts.now.tapes.value c.args.tape w.valid w.legal w.kept.stand.space.tapes in
    taken_are c.args.site.now c.args.history.now.value c.args.at c.args.who.now c.args.tape c.args.parts.now w c.fseqs_are_low.ensures c.args.number c.in_ok-found.found one c.requires.number c.in_ok-found.ensures.items c.in_ok-found.ensures.joined c.in_ok-found.ensures.newborn c.in_ok-found.ensures.written

pub returns-clause-paths : goal.returns-clause-paths
returns-clause-paths c = c.in_ok-told.ensures.paths ∙ ap (λ (js : List Job). map (λ (j : Job). path_of c.args.history.now.value j.file) js) c.as_slice.ensures.value
