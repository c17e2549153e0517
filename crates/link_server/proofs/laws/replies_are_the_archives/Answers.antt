use Rattle.link_server.proofs.Replying.{fixed_replies, replies_at}
use Rattle.link_server.proofs.laws.replies_are_the_archives.Goals as goal

pub returns-clause-replies : goal.returns-clause-replies
returns-clause-replies g c = replies_at g.M.Told.told c.callers_are_served.ensures.replies c.callers_are_served.ensures.none c.turns_in_order.ensures.grows c.callers_ask.ensures

pub returns-clause-fixed : goal.returns-clause-fixed
returns-clause-fixed g c = fixed_replies
