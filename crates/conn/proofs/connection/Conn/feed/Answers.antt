use Rattle.conn.proofs.Feeding.{over_more, piece_more}
use Rattle.conn.proofs.connection.Conn.feed.Goals as goal

pub returns-then-is_over-clause-fed : goal.returns-then-is_over-clause-fed
returns-then-is_over-clause-fed c = λ fed given s. over_more _ _ _ c.args.piece.now fed given (c.is_over.ensures.over c.if-is_over.true) s

pub returns-clause-fed : goal.returns-clause-fed
returns-clause-fed c = λ fed given s. piece_more c.append.result _ _ _ _ c.args.piece.now fed given c.append.ensures.unread s
