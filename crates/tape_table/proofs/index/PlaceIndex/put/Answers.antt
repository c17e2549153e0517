use Rattle.std.proofs.Common.{◌∙◌, ◌<◌, ap, sym, subst}
use Rattle.part_model.specs.Tapes.{place_among}
use Rattle.tape_table.specs.Indexed.{Indexed, IsBehind}
use Rattle.tape_table.proofs.Trees.{lacks_later, behind_left, left_none, index_put, places_put}
use Rattle.tape_table.proofs.index.PlaceIndex.put.Goals as goal

pub insert-requires-clause-lacks : goal.insert-requires-clause-lacks
insert-requires-clause-lacks c =
    let view = ap (λ (v : Indexed). v.places) c.self.view_is in
    let behind = behind_left c.args.self.now.places c.forget.new.self.places c.args.file c.args.place.copy c.args.place.tape c.args.place.fseq c.forget.ensures.places c.requires.behind in
    lacks_later c.self.inside.forest.trees c.self.inside.map.entries c.args.place.tape c.args.place.fseq c.args.file c.args.place.copy c.self.invariant.1
    (subst (λ n. c.args.place.tape < n) (sym c.forget.ensures.tapes ∙ sym (ap (λ (v : Indexed). v.tapes) c.self.view_is)) c.requires.tape)
    (subst (λ l. IsBehind l c.args.place.tape c.args.place.fseq) (sym view) behind)

pub invariant_of-self : goal.invariant_of-self
invariant_of-self c = (
  c.put_in.ensures.unique,
  index_put c.self.inside.forest.trees c.insert.new.self.trees c.self.inside.map.entries c.put_in.new.places.entries c.args.file c.args.place c.self.invariant.1
      (subst (λ n. c.args.place.tape < n) (sym c.forget.ensures.tapes ∙ sym (ap (λ (v : Indexed). v.tapes) c.self.view_is)) c.requires.tape)
      (ap (λ (v : Indexed). place_among v.places c.args.file c.args.place.copy) c.self.view_is ∙ left_none c.forget.new.self.places c.args.self.now.places c.args.file c.args.place.copy c.forget.ensures.places)
      c.insert.ensures.trees c.put_in.ensures.places,
)

pub returns-clause-places : goal.returns-clause-places
returns-clause-places c = places_put c.self.inside.forest.trees c.insert.new.self.trees c.self.inside.map.entries c.args.self.now.places c.args.file c.args.place c.self.invariant.1
    (subst (λ n. c.args.place.tape < n) (sym c.forget.ensures.tapes ∙ sym (ap (λ (v : Indexed). v.tapes) c.self.view_is)) c.requires.tape)
    (λ f k. ap (λ (v : Indexed). place_among v.places f k) c.self.view_is ∙ c.forget.ensures.places f k)
    c.insert.ensures.trees

pub returns-clause-distinct : goal.returns-clause-distinct
returns-clause-distinct c = (index_put c.self.inside.forest.trees c.insert.new.self.trees c.self.inside.map.entries c.put_in.new.places.entries c.args.file c.args.place c.self.invariant.1
    (subst (λ n. c.args.place.tape < n) (sym c.forget.ensures.tapes ∙ sym (ap (λ (v : Indexed). v.tapes) c.self.view_is)) c.requires.tape)
    (ap (λ (v : Indexed). place_among v.places c.args.file c.args.place.copy) c.self.view_is ∙ left_none c.forget.new.self.places c.args.self.now.places c.args.file c.args.place.copy c.forget.ensures.places)
    c.insert.ensures.trees c.put_in.ensures.places).distinct
