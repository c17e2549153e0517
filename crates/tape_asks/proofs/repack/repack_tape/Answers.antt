use Rattle.std.proofs.Common.{◌≡◌, ◌∙◌, ◌+◌, ◌<◌, ◌^◌, ◌∷◌, ℕ, List, length, sym, ap, subst, arith, refl}
use Rattle.cta_site.specs.declared.site.Site.{Site}
use Rattle.cta_site.specs.Laws.{ClassesAreKnown}
use Rattle.cta_site.specs.Listed.{rows}
use Rattle.cta_site.specs.ValidSite.{IsValidSite}
use Rattle.cta_site.specs.WellFormed.{IsWellFormed}
use Rattle.cta_model.specs.declared.answers.Answer.TheVariants as answer
use Rattle.cta_model.specs.declared.asks.Job.{Job}
use Rattle.cta_model.specs.History.{History}
use Rattle.cta_model.specs.Legal.{new_entry}
use Rattle.part_model.specs.Repacks.{RepacksAgree, add_repack}
use Rattle.repack_book.specs.NamedRepacks.{repacks_of}
use Rattle.archive_parts.specs.PartsKept.{ArePartsKept}
use Rattle.archive_parts.proofs.Behind.{can_over, carried_with, few_entries}
use Rattle.tape_asks.specs.Settled.{AreSettled, CanSettle}
use Rattle.tape_asks.specs.RepackTakings.{IsTaken}
use Rattle.tape_asks.proofs.RepackCalls.{IsRepacked, packed_called}
use Rattle.tape_asks.proofs.RepackDone.{grown, new_repack, told_is}
use Rattle.tape_asks.proofs.RepackFacts.{IsPacking, answered, packed, packed_answer, packed_entry}
use Rattle.tape_asks.proofs.TakenFacts.{can_settle}
use Rattle.tape_asks.proofs.repack.repack_tape.Goals as goal
use Rattle.tape_asks.proofs.FoundLists.{items_few}

pub add-requires-clause-new : goal.add-requires-clause-new
add-requires-clause-new c =
    let kept : ArePartsKept c.args.site.now c.args.history.now.value c.make_ready.new.parts = c.same_parts_are_kept.ensures c.args.site.now c.args.history.now.value c.args.parts.now c.make_ready.new.parts c.make_ready.ensures.parts c.requires.kept in
    let w : IsPacking c.args.site.now c.args.history.now.value c.args.at c.args.who c.args.tape c.make_ready.new.parts = record {
      legal = c.requires.legal;
      within = c.requires.at;
      accepted = c.requires.accepted;
      kept = kept;
      valid = subst IsValidSite c.site-rules.ensures c.keeps_rules.ensures.valid;
      good = subst IsWellFormed c.site-rules.ensures c.keeps_rules.ensures.parts;
      classes = subst ClassesAreKnown c.site-rules.ensures c.numbers_are_known.ensures.classes;
    } in
    let number : c.next_number-number.result ≡ length c.args.history.now.value + 1 = c.next_number-number.ensures.number in
    let taken : IsTaken c.args.site.now c.args.history.now.value c.args.who c.args.tape c.in-Ok.ready.found = c.in-Ok.ensures.taken in
    new_repack c.args.site.now c.args.history.now.value c.make_ready.new.parts c.next_number-number.result kept number

pub add-requires-clause-few : goal.add-requires-clause-few
add-requires-clause-few c =
    let kept : ArePartsKept c.args.site.now c.args.history.now.value c.make_ready.new.parts = c.same_parts_are_kept.ensures c.args.site.now c.args.history.now.value c.args.parts.now c.make_ready.new.parts c.make_ready.ensures.parts c.requires.kept in
    let w : IsPacking c.args.site.now c.args.history.now.value c.args.at c.args.who c.args.tape c.make_ready.new.parts = record {
      legal = c.requires.legal;
      within = c.requires.at;
      accepted = c.requires.accepted;
      kept = kept;
      valid = subst IsValidSite c.site-rules.ensures c.keeps_rules.ensures.valid;
      good = subst IsWellFormed c.site-rules.ensures c.keeps_rules.ensures.parts;
      classes = subst ClassesAreKnown c.site-rules.ensures c.numbers_are_known.ensures.classes;
    } in
    let number : c.next_number-number.result ≡ length c.args.history.now.value + 1 = c.next_number-number.ensures.number in
    let taken : IsTaken c.args.site.now c.args.history.now.value c.args.who c.args.tape c.in-Ok.ready.found = c.in-Ok.ensures.taken in
    let low = items_few c.args.site.now c.args.history.now.value c.args.tape c.fseqs_are_low.ensures w.good w.legal in
    let same = ap length (c.in-Ok.ensures.told_book ∙ taken.items) in
    omega (arith, low, same)

pub settle-requires : goal.settle-requires
settle-requires c =
    let kept : ArePartsKept c.args.site.now c.args.history.now.value c.make_ready.new.parts = c.same_parts_are_kept.ensures c.args.site.now c.args.history.now.value c.args.parts.now c.make_ready.new.parts c.make_ready.ensures.parts c.requires.kept in
    let w : IsPacking c.args.site.now c.args.history.now.value c.args.at c.args.who c.args.tape c.make_ready.new.parts = record {
      legal = c.requires.legal;
      within = c.requires.at;
      accepted = c.requires.accepted;
      kept = kept;
      valid = subst IsValidSite c.site-rules.ensures c.keeps_rules.ensures.valid;
      good = subst IsWellFormed c.site-rules.ensures c.keeps_rules.ensures.parts;
      classes = subst ClassesAreKnown c.site-rules.ensures c.numbers_are_known.ensures.classes;
    } in
    let number : c.next_number-number.result ≡ length c.args.history.now.value + 1 = c.next_number-number.ensures.number in
    let taken : IsTaken c.args.site.now c.args.history.now.value c.args.who c.args.tape c.in-Ok.ready.found = c.in-Ok.ensures.taken in
    let long : c.append.new.self.value ≡ packed_entry c.args.history.now.value c.args.at c.args.who c.args.tape ∷ c.args.history.now.value =
    grown c.args.history.now.value c.append.new.self.value c.args.at c.args.who c.args.tape c.next_number-number.result c.in-Ok.ready.told.entry.items
    (subst (λ (g : History). c.append.new.self.value ≡ new_entry g c.args.at (packed c.args.who c.args.tape) (answer.Repacking c.next_number-number.result (rows c.in-Ok.ready.told.entry.items)) ∷ g) c.in-Ok.ensures.entries c.append.ensures) number (c.in-Ok.ensures.told_entry ∙ taken.items) in
    let can : CanSettle c.args.site.now (packed_entry c.args.history.now.value c.args.at c.args.who c.args.tape ∷ c.args.history.now.value) c.in-Ok.ready.found.joined.items c.in-Ok.ready.found.newborn.items c.in-Ok.ready.found.written.items (record c.make_ready.new.parts { repacks = c.add.new.self }) =
    can_settle c.args.site.now c.args.history.now.value c.args.at c.args.who c.args.tape c.make_ready.new.parts w c.in-Ok.ready.found taken c.files_fit_buffer.ensures c.lines_are_small.ensures c.places_are_on_site.ensures c.add.new.self c.in-Ok.ensures.jobs c.in-Ok.ensures.reads c.in-Ok.ensures.writes c.in-Ok.ensures.files in
    subst (λ (x : Site). CanSettle x c.append.new.self.value c.as_slice-2.result.now c.as_slice-3.result.now c.as_slice-4.result.now (record c.make_ready.new.parts { repacks = c.add.new.self })) (sym c.site-rules.ensures)
    (subst (λ (g : History). CanSettle c.args.site.now g c.as_slice-2.result.now c.as_slice-3.result.now c.as_slice-4.result.now (record c.make_ready.new.parts { repacks = c.add.new.self })) (sym long)
    (subst (λ (fs : List ℕ). CanSettle c.args.site.now (packed_entry c.args.history.now.value c.args.at c.args.who c.args.tape ∷ c.args.history.now.value) fs c.as_slice-3.result.now c.as_slice-4.result.now (record c.make_ready.new.parts { repacks = c.add.new.self })) (sym c.as_slice-2.ensures.value)
    (subst (λ (js : List Job). CanSettle c.args.site.now (packed_entry c.args.history.now.value c.args.at c.args.who c.args.tape ∷ c.args.history.now.value) c.in-Ok.ready.found.joined.items js c.as_slice-4.result.now (record c.make_ready.new.parts { repacks = c.add.new.self })) (sym c.as_slice-3.ensures.value)
    (subst (λ (js : List Job). CanSettle c.args.site.now (packed_entry c.args.history.now.value c.args.at c.args.who c.args.tape ∷ c.args.history.now.value) c.in-Ok.ready.found.joined.items c.in-Ok.ready.found.newborn.items js (record c.make_ready.new.parts { repacks = c.add.new.self })) (sym c.as_slice-4.ensures.value) can))))

pub returns-clause-carried : goal.returns-clause-carried
returns-clause-carried c =
    let kept : ArePartsKept c.args.site.now c.args.history.now.value c.make_ready.new.parts = c.same_parts_are_kept.ensures c.args.site.now c.args.history.now.value c.args.parts.now c.make_ready.new.parts c.make_ready.ensures.parts c.requires.kept in
    let w : IsPacking c.args.site.now c.args.history.now.value c.args.at c.args.who c.args.tape c.make_ready.new.parts = record {
      legal = c.requires.legal;
      within = c.requires.at;
      accepted = c.requires.accepted;
      kept = kept;
      valid = subst IsValidSite c.site-rules.ensures c.keeps_rules.ensures.valid;
      good = subst IsWellFormed c.site-rules.ensures c.keeps_rules.ensures.parts;
      classes = subst ClassesAreKnown c.site-rules.ensures c.numbers_are_known.ensures.classes;
    } in
    let number : c.next_number-number.result ≡ length c.args.history.now.value + 1 = c.next_number-number.ensures.number in
    let taken : IsTaken c.args.site.now c.args.history.now.value c.args.who c.args.tape c.in-Ok.ready.found = c.in-Ok.ensures.taken in
    let long : c.append.new.self.value ≡ packed_entry c.args.history.now.value c.args.at c.args.who c.args.tape ∷ c.args.history.now.value =
    grown c.args.history.now.value c.append.new.self.value c.args.at c.args.who c.args.tape c.next_number-number.result c.in-Ok.ready.told.entry.items
    (subst (λ (g : History). c.append.new.self.value ≡ new_entry g c.args.at (packed c.args.who c.args.tape) (answer.Repacking c.next_number-number.result (rows c.in-Ok.ready.told.entry.items)) ∷ g) c.in-Ok.ensures.entries c.append.ensures) number (c.in-Ok.ensures.told_entry ∙ taken.items) in
    let settled : AreSettled c.args.site.now (packed_entry c.args.history.now.value c.args.at c.args.who c.args.tape ∷ c.args.history.now.value) c.next_number-number.result c.in-Ok.ready.found.items.items c.in-Ok.ready.found.joined.items c.in-Ok.ready.found.newborn.items c.in-Ok.ready.found.written.items (record c.make_ready.new.parts { repacks = c.add.new.self }) c.settle.new.parts =
    subst (λ (x : Site). AreSettled x (packed_entry c.args.history.now.value c.args.at c.args.who c.args.tape ∷ c.args.history.now.value) c.next_number-number.result c.in-Ok.ready.found.items.items c.in-Ok.ready.found.joined.items c.in-Ok.ready.found.newborn.items c.in-Ok.ready.found.written.items (record c.make_ready.new.parts { repacks = c.add.new.self }) c.settle.new.parts) c.site-rules.ensures
    (subst (λ (g : History). AreSettled c.site-rules.result.now g c.next_number-number.result c.in-Ok.ready.found.items.items c.in-Ok.ready.found.joined.items c.in-Ok.ready.found.newborn.items c.in-Ok.ready.found.written.items (record c.make_ready.new.parts { repacks = c.add.new.self }) c.settle.new.parts) long
    (subst (λ (js : List Job). AreSettled c.site-rules.result.now c.append.new.self.value c.next_number-number.result js c.in-Ok.ready.found.joined.items c.in-Ok.ready.found.newborn.items c.in-Ok.ready.found.written.items (record c.make_ready.new.parts { repacks = c.add.new.self }) c.settle.new.parts) c.as_slice.ensures.value
    (subst (λ (fs : List ℕ). AreSettled c.site-rules.result.now c.append.new.self.value c.next_number-number.result c.as_slice.result.now fs c.in-Ok.ready.found.newborn.items c.in-Ok.ready.found.written.items (record c.make_ready.new.parts { repacks = c.add.new.self }) c.settle.new.parts) c.as_slice-2.ensures.value
    (subst (λ (js : List Job). AreSettled c.site-rules.result.now c.append.new.self.value c.next_number-number.result c.as_slice.result.now c.as_slice-2.result.now js c.in-Ok.ready.found.written.items (record c.make_ready.new.parts { repacks = c.add.new.self }) c.settle.new.parts) c.as_slice-3.ensures.value
    (subst (λ (js : List Job). AreSettled c.site-rules.result.now c.append.new.self.value c.next_number-number.result c.as_slice.result.now c.as_slice-2.result.now c.as_slice-3.result.now js (record c.make_ready.new.parts { repacks = c.add.new.self }) c.settle.new.parts) c.as_slice-4.ensures.value c.settle.ensures))))) in
    let done : IsRepacked c.args.site.now c.args.history.now.value c.args.at c.args.who c.args.tape c.next_number-number.result c.in-Ok.ready.found c.in-Ok.ready.told.vid c.in-Ok.ready.told.paths.items c.make_ready.new.parts c.add.new.self c.settle.new.parts = record {
      packing = w;
      number = number;
      taken = taken;
      vid_is = c.in-Ok.ensures.vid;
      paths_are = c.in-Ok.ensures.paths;
      there = subst (λ (js : List Job). RepacksAgree (repacks_of c.add.new.self) (add_repack c.next_number-number.result c.args.tape js (repacks_of c.make_ready.new.parts.repacks))) c.in-Ok.ensures.told_book c.in_default.ensures.repacks;
      names = c.in_default.ensures.names;
      settled = settled;
    } in
    carried_with c.args.site.now c.args.history.now.value c.append.new.self.value c.args.at (packed c.args.who c.args.tape) (answer.Repacking c.next_number-number.result c.in-Ok.ready.told.answer) (packed_answer c.args.history.now.value c.args.tape) c.make_ready.new.parts c.settle.new.parts c.kept_parts_move.ensures
    (can_over c.args.site.now c.args.history.now.value c.args.history.now.value c.args.parts.now c.make_ready.new.parts c.args.at (packed c.args.who c.args.tape) c.requires kept refl) (told_is c.args.history.now.value c.args.tape c.next_number-number.result c.in-Ok.ready.told.answer.items number (c.in-Ok.ensures.told_answer ∙ taken.items))
    (answered c.args.site.now c.args.history.now.value c.args.at c.args.who c.args.tape c.make_ready.new.parts w)
    (packed_called c.places_are_of_copies.ensures c.places_are_on_site.ensures c.args.site.now c.args.history.now.value c.args.at c.args.who c.args.tape c.next_number-number.result c.in-Ok.ready.found c.in-Ok.ready.told.vid c.in-Ok.ready.told.paths.items c.make_ready.new.parts c.add.new.self c.settle.new.parts done)
    long

pub append-requires-clause-few : goal.append-requires-clause-few
append-requires-clause-few c =
    let kept : ArePartsKept c.args.site.now c.args.history.now.value c.make_ready.new.parts = c.same_parts_are_kept.ensures c.args.site.now c.args.history.now.value c.args.parts.now c.make_ready.new.parts c.make_ready.ensures.parts c.requires.kept in
    let w : IsPacking c.args.site.now c.args.history.now.value c.args.at c.args.who c.args.tape c.make_ready.new.parts = record {
      legal = c.requires.legal;
      within = c.requires.at;
      accepted = c.requires.accepted;
      kept = kept;
      valid = subst IsValidSite c.site-rules.ensures c.keeps_rules.ensures.valid;
      good = subst IsWellFormed c.site-rules.ensures c.keeps_rules.ensures.parts;
      classes = subst ClassesAreKnown c.site-rules.ensures c.numbers_are_known.ensures.classes;
    } in
    let number : c.next_number-number.result ≡ length c.args.history.now.value + 1 = c.next_number-number.ensures.number in
    let taken : IsTaken c.args.site.now c.args.history.now.value c.args.who c.args.tape c.in-Ok.ready.found = c.in-Ok.ensures.taken in
    subst (λ (g : History). length g + 2 < 2 ^ 32) (sym c.in-Ok.ensures.entries) (few_entries c.args.site.now c.args.history.now.value c.stays_short.ensures w.good w.legal)
