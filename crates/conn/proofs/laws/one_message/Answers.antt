use Rattle.conn.proofs.Uniqueness.{message_unique}
use Rattle.conn.proofs.laws.one_message.Goals as goal

pub returns : goal.returns
returns c = message_unique
