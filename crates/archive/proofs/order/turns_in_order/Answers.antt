use Rattle.archive.proofs.Orders as law
use Rattle.archive.proofs.order.turns_in_order.Goals as goal

pub returns : goal.returns
returns g c = record {
  grows = law.grows g.M.Told.told c.call_adds_or_keeps.ensures;
  sounds = law.sounds g.M.Told.told c.play_keeps_legal.ensures;
  topics = law.topics g.M.Told.told c.call_adds_or_keeps.ensures c.entries_name_their_mounts.ensures;
  opens = law.opens c.opens_by_its_number.ensures;
  stays = law.stays g.M.Told.told c.fit_call_stays.ensures;
}
