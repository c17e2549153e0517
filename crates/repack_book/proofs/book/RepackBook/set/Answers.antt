use Rattle.std.proofs.Common.{rules, ap, ◌∙◌, ◌≡◌, true, false}
use Rattle.std.specs.Prelude.{if◌then◌else◌, ◌==◌, option_map}
use Rattle.cta_model.specs.Repacks.{is_live_item}
use Rattle.repack_book.specs.NamedRepacks.{NamedRepacks, kept_in, set_in}
use Rattle.repack_book.proofs.Books.{set_agrees, indexed_ends, indexed_stays}
use Rattle.repack_book.proofs.book.RepackBook.set.Goals as goal

pub returns-in_default-clause-repacks : goal.returns-in_default-clause-repacks
returns-in_default-clause-repacks c =
    set_agrees c.args.self.now c.set_row.new.rows.entries c.args.id c.args.file c.args.copy c.args.state
    (λ q. (c.set_row.ensures.rows q ∙ ap (λ (v : NamedRepacks). if c.args.id == q then option_map (set_in c.args.file c.args.copy c.args.state) (kept_in v q) else kept_in v q) c.self.view_is))

pub returns-then-not-is_live-clause-repacks : goal.returns-then-not-is_live-clause-repacks
returns-then-not-is_live-clause-repacks c =
    set_agrees c.args.self.now c.set_row.new.rows.entries c.args.id c.args.file c.args.copy c.args.state
    (λ q. (c.set_row.ensures.rows q ∙ ap (λ (v : NamedRepacks). if c.args.id == q then option_map (set_in c.args.file c.args.copy c.args.state) (kept_in v q) else kept_in v q) c.self.view_is))

pub returns-else-not-is_live-clause-repacks : goal.returns-else-not-is_live-clause-repacks
returns-else-not-is_live-clause-repacks c =
    set_agrees c.args.self.now c.set_row.new.rows.entries c.args.id c.args.file c.args.copy c.args.state
    (λ q. (c.set_row.ensures.rows q ∙ ap (λ (v : NamedRepacks). if c.args.id == q then option_map (set_in c.args.file c.args.copy c.args.state) (kept_in v q) else kept_in v q) c.self.view_is))

pub invariant_of-self-then-not-is_live : goal.invariant_of-self-then-not-is_live
invariant_of-self-then-not-is_live c =
    let dead : is_live_item c.args.state ≡ false = search rules in
    indexed_ends c.self.inside.rows.entries c.set_row.new.rows.entries c.self.inside.items.value c.take.new.self.value c.self.inside.holders.value c.take-then-not-is_live.new.self.value c.args.id c.in-Some.tape c.args.file c.args.copy c.args.state
    dead c.in-Some.ensures.tape c.set_row.ensures.rows c.take.ensures.items c.take-then-not-is_live.ensures.holders c.self.invariant

pub invariant_of-self-else-not-is_live : goal.invariant_of-self-else-not-is_live
invariant_of-self-else-not-is_live c =
    let live : is_live_item c.args.state ≡ true = search rules in
    indexed_stays c.self.inside.rows.entries c.set_row.new.rows.entries c.self.inside.items.value c.self.inside.holders.value c.args.id c.args.file c.args.copy c.args.state live c.set_row.ensures.rows c.self.invariant
