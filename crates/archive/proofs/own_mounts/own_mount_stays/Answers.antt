use Rattle.archive.proofs.OwnMounts as law
use Rattle.archive.proofs.own_mounts.own_mount_stays.Goals as goal

pub returns : goal.returns
returns g c = record {
  next = law.next_opens g.M.Told.told c.topics_stay_opened.ensures.opens c.entries_name_their_mounts.ensures;
  turns = law.own_over_turns g.M.Told.told c.topics_stay_opened.ensures.stays;
  joins = law.own_over_joins g.M.Told.told c.topics_stay_opened.ensures.joins;
  stays = law.own_mount_stays g.M.Told.told c.topics_stay_opened.ensures.apart c.mount_is_kept.ensures;
}
