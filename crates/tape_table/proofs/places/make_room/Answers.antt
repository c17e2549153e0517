use Rattle.tape_table.proofs.places.make_room.Goals as goal

pub returns-clause-places : goal.returns-clause-places
returns-clause-places c = λ f k. c.reserve.ensures.entries.2 (f, k)
