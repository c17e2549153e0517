use Rattle.tape_table.proofs.places.put_in.Goals as goal

pub returns-clause-places : goal.returns-clause-places
returns-clause-places c = λ f k. c.in-Ok.ensures.updates.0 (f, k)
