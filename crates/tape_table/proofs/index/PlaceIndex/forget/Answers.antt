use Rattle.std.proofs.Common.{◌∙◌, ap, sym}
use Rattle.part_model.specs.Tapes.{place_among}
use Rattle.tape_table.specs.Indexed.{Indexed}
use Rattle.tape_table.proofs.Trees.{taken_within, index_taken, places_taken}
use Rattle.tape_table.proofs.index.PlaceIndex.forget.Goals as goal

pub sum-requires : goal.sum-requires
sum-requires c = record { tree = taken_within c.self.inside.forest.trees c.self.inside.map.entries c.args.file c.args.copy c.in-Some.place c.self.invariant.1 (c.in-Some.ensures ∙ ap (λ (v : Indexed). place_among v.places c.args.file c.args.copy) (sym c.self.view_is)) }

pub take-requires : goal.take-requires
take-requires c = record { tree = taken_within c.self.inside.forest.trees c.self.inside.map.entries c.args.file c.args.copy c.in-Some.place c.self.invariant.1 (c.in-Some.ensures ∙ ap (λ (v : Indexed). place_among v.places c.args.file c.args.copy) (sym c.self.view_is)) }

pub invariant_of-self : goal.invariant_of-self
invariant_of-self c = (c.take_out.ensures.unique, index_taken c.self.inside.forest.trees c.take.new.self.trees c.self.inside.map.entries c.take_out.new.places.entries c.args.file c.args.copy c.in-Some.place c.self.invariant.1 (c.in-Some.ensures ∙ ap (λ (v : Indexed). place_among v.places c.args.file c.args.copy) (sym c.self.view_is)) c.sum.ensures.sorted c.take.ensures.trees c.take_out.ensures.places)

pub returns-clause-places : goal.returns-clause-places
returns-clause-places c = places_taken c.self.inside.forest.trees c.take.new.self.trees c.self.inside.map.entries c.args.self.now.places c.args.file c.args.copy c.in-Some.place c.self.invariant.1 (ap (λ (v : Indexed). v.places) c.self.view_is) (c.in-Some.ensures ∙ ap (λ (v : Indexed). place_among v.places c.args.file c.args.copy) (sym c.self.view_is)) c.sum.ensures.sorted c.take.ensures.trees

pub returns-clause-distinct : goal.returns-clause-distinct
returns-clause-distinct c = (index_taken c.self.inside.forest.trees c.take.new.self.trees c.self.inside.map.entries c.take_out.new.places.entries c.args.file c.args.copy c.in-Some.place c.self.invariant.1 (c.in-Some.ensures ∙ ap (λ (v : Indexed). place_among v.places c.args.file c.args.copy) (sym c.self.view_is)) c.sum.ensures.sorted c.take.ensures.trees c.take_out.ensures.places).distinct
