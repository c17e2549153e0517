use Rattle.tape_table.proofs.places.take_out.Goals as goal

pub returns-clause-places : goal.returns-clause-places
returns-clause-places c = λ f k. c.remove.ensures.updates.0 (f, k)
