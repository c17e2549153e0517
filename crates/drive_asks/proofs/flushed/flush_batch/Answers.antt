use Rattle.std.proofs.Common.{◌≡◌, ◌≤◌, ◌∙◌, ◌∷◌, List, length, sym, ap, subst}
use Rattle.cta_site.specs.Listed.{rows}
use Rattle.cta_site.specs.WellFormed.{IsWellFormed}
use Rattle.cta_model.specs.declared.answers.Answer.TheVariants as answer
use Rattle.cta_model.specs.declared.asks.Fate.{Fate}
use Rattle.cta_model.specs.declared.asks.Item.{Item}
use Rattle.cta_model.specs.History.{History}
use Rattle.cta_model.specs.Legal.{new_entry}
use Rattle.drive_asks.specs.Items.{fates_told}
use Rattle.drive_asks.proofs.Called.{fates_right}
use Rattle.drive_asks.proofs.Lawful.{IsFlush, few_items, told_is}
use Rattle.cta_model.specs.declared.asks.Ask.TheVariants as ask
use Rattle.archive_parts.specs.PartsKept.{ArePartsKept}
use Rattle.archive_parts.proofs.Behind.{can_over}
use Rattle.drive_asks.proofs.flushed.flush_batch.Goals as goal

pub make_room-requires : goal.make_room-requires
make_room-requires c =
    let f : IsFlush c.args.site.now c.args.history.now.value c.args.at c.args.mount c.args.items.items = record { legal = c.requires.legal; within = c.requires.at; fit = c.requires.fit; accepted = c.requires.accepted } in
    subst (λ (xs : List Item). length xs ≤ 1000) (sym c.as_slice.ensures) (few_items c.args.site.now c.args.history.now.value c.args.at c.args.mount c.args.items.items (subst IsWellFormed c.site.ensures c.keeps_rules.ensures.parts) f)

pub carry_out-requires-clause-carrying : goal.carry_out-requires-clause-carrying
carry_out-requires-clause-carrying c =
    let kept : ArePartsKept c.args.site.now c.args.history.now.value c.make_room.new.parts = c.same_parts_are_kept.ensures c.args.site.now c.args.history.now.value c.args.parts.now c.make_room.new.parts c.make_room.ensures.parts c.requires.kept in
    can_over c.args.site.now c.args.history.now.value c.make_room.new.history.value c.args.parts.now c.make_room.new.parts c.args.at (ask.Flushed c.args.mount (rows c.args.items.items)) c.requires kept c.make_room.ensures.history

pub returns-in-Ok-clause-carried : goal.returns-in-Ok-clause-carried
returns-in-Ok-clause-carried c =
    let f : IsFlush c.args.site.now c.args.history.now.value c.args.at c.args.mount c.args.items.items = record { legal = c.requires.legal; within = c.requires.at; fit = c.requires.fit; accepted = c.requires.accepted } in
    let kept = c.same_parts_are_kept.ensures c.args.site.now c.args.history.now.value c.args.parts.now c.make_room.new.parts c.make_room.ensures.parts c.requires.kept in
    let told = c.in-Ok.ensures.told ∙ ap (fates_told c.make_room.new.parts.book.value) c.as_slice.ensures in
    let same : c.in-Ok.room.kept.items ≡ c.in-Ok.room.told.items = c.in-Ok.ensures.kept ∙ sym c.in-Ok.ensures.told in
    let entry : c.carry_out.new.history.value ≡ new_entry c.args.history.now.value c.args.at (ask.Flushed c.args.mount (rows c.args.items.items)) (answer.Told (rows c.in-Ok.room.kept.items)) ∷ c.args.history.now.value =
    subst (λ (g : History). c.carry_out.new.history.value ≡ new_entry g c.args.at (ask.Flushed c.args.mount (rows c.args.items.items)) (answer.Told (rows c.in-Ok.room.kept.items)) ∷ g) c.make_room.ensures.history c.carry_out.ensures.entry in
    record {
      answer =
          ap (λ (fs : List Fate). answer.Told (rows fs)) (fates_right c.args.site.now c.args.history.now.value c.args.items.items _ c.make_room.new.parts kept told)
          ∙ sym (told_is c.args.site.now c.args.history.now.value c.args.at c.args.mount c.args.items.items f);
      entry = entry ∙ ap (λ (fs : List Fate). new_entry c.args.history.now.value c.args.at (ask.Flushed c.args.mount (rows c.args.items.items)) (answer.Told (rows fs)) ∷ c.args.history.now.value) same;
      kept = c.carry_out.ensures.kept;
      same = tt;
      still = tt;
    }
