use Rattle.std.proofs.Common.{rules, ◌||◌, ap, ◌∙◌, ◌≡◌, None, Some}
use Rattle.cta_model.specs.Mounts.{has_copy}
use Rattle.repack_book.specs.Order.{has_item, has_holder}
use Rattle.std.specs.Prelude.{Option, ◌&&◌, if◌then◌else◌, ◌==◌}
use Rattle.repack_book.specs.NamedRepacks.{NamedRepacks, KeptRepack, kept_in, names_of}
use Rattle.repack_book.proofs.Books.{add_agrees, add_names, same_agrees, same_names, indexed_added, indexed_at, new_kept}
use Rattle.repack_book.proofs.book.RepackBook.add.Goals as goal

pub invariant_of-self-in_err-make_room : goal.invariant_of-self-in_err-make_room
invariant_of-self-in_err-make_room c = indexed_at c.self.inside.rows.entries c.make_room.new.map.entries c.self.inside.items.value c.reserve.new.self.value c.self.inside.holders.value c.reserve-2.new.self.value c.make_room.ensures.values (search rules) (search rules) c.self.invariant

pub returns-in_err-make_room-clause-unchanged : goal.returns-in_err-make_room-clause-unchanged
returns-in_err-make_room-clause-unchanged c = search (rules, same_agrees c.args.self.now c.make_room.new.map.entries (λ q. (c.make_room.ensures.values q ∙ ap (λ (v : NamedRepacks). kept_in v q) c.self.view_is)))

pub returns-in_err-make_room-clause-names_unchanged : goal.returns-in_err-make_room-clause-names_unchanged
returns-in_err-make_room-clause-names_unchanged c = search (rules, same_names c.args.self.now c.make_room.new.map.entries (λ q. (c.make_room.ensures.values q ∙ ap (λ (v : NamedRepacks). kept_in v q) c.self.view_is)))

pub invariant_of-self-in_err-states : goal.invariant_of-self-in_err-states
invariant_of-self-in_err-states c = indexed_at c.self.inside.rows.entries c.make_room.new.map.entries c.self.inside.items.value c.reserve.new.self.value c.self.inside.holders.value c.reserve-2.new.self.value c.make_room.ensures.values (search rules) (search rules) c.self.invariant

pub returns-in_err-states-clause-unchanged : goal.returns-in_err-states-clause-unchanged
returns-in_err-states-clause-unchanged c = search (rules, same_agrees c.args.self.now c.make_room.new.map.entries (λ q. (c.make_room.ensures.values q ∙ ap (λ (v : NamedRepacks). kept_in v q) c.self.view_is)))

pub returns-in_err-states-clause-names_unchanged : goal.returns-in_err-states-clause-names_unchanged
returns-in_err-states-clause-names_unchanged c = search (rules, same_names c.args.self.now c.make_room.new.map.entries (λ q. (c.make_room.ensures.values q ∙ ap (λ (v : NamedRepacks). kept_in v q) c.self.view_is)))

pub invariant_of-self-2 : goal.invariant_of-self-2
invariant_of-self-2 c =
    let repack = ap (λ (k : KeptRepack). k.repack) c.of-row.ensures in
    let new : kept_in c.self.inside.rows.entries c.args.id ≡ None = ap (λ (v : NamedRepacks). kept_in v c.args.id) c.self.view_is ∙ new_kept c.args.self.now c.args.id c.requires.new in
    indexed_added c.self.inside.rows.entries c.put.new.map.entries c.self.inside.items.value c.note.new.items.value c.self.inside.holders.value c.note.new.holders.value c.args.id c.args.tape c.args.items.items c.of-row.result repack new
    (λ q. (c.put.ensures.values q ∙ ap (λ (o : Option KeptRepack). if c.args.id == q then Some c.of-row.result else o) (c.make_room.ensures.values q)))
    (λ t r g k. (c.note.ensures.items t r g k ∙ (λ i. ((t == c.args.tape && r == c.args.id) && has_copy g k (c.as_slice-2.ensures i)) || has_item (c.reserve.ensures.value i) t r g k)))
    (λ g k r. (c.note.ensures.holders g k r ∙ (λ i. (r == c.args.id && has_copy g k (c.as_slice-2.ensures i)) || has_holder (c.reserve-2.ensures.value i) g k r)))
    c.self.invariant

pub returns-clause-repacks : goal.returns-clause-repacks
returns-clause-repacks c =
    add_agrees c.args.self.now c.put.new.map.entries c.args.id c.args.tape c.args.items.items c.of-row.result (ap (λ (k : KeptRepack). k.repack) c.of-row.ensures)
    (λ q. (c.put.ensures.values q ∙ ap (λ (o : Option KeptRepack). if c.args.id == q then Some c.of-row.result else o) (c.make_room.ensures.values q ∙ ap (λ (v : NamedRepacks). kept_in v q) c.self.view_is)))

pub returns-clause-names : goal.returns-clause-names
returns-clause-names c =
    add_names c.args.self.now c.put.new.map.entries c.args.id c.of-row.result (record { vid = c.args.vid; paths = c.args.paths.items }) (ap names_of c.of-row.ensures)
    (λ q. (c.put.ensures.values q ∙ ap (λ (o : Option KeptRepack). if c.args.id == q then Some c.of-row.result else o) (c.make_room.ensures.values q ∙ ap (λ (v : NamedRepacks). kept_in v q) c.self.view_is)))
