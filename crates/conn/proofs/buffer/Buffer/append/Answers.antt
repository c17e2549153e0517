use Rattle.std.proofs.Common.{arith, length}
use Rattle.conn.proofs.buffer.Buffer.append.Goals as goal

pub returns-in_err-extend_from_slice-clause-space : goal.returns-in_err-extend_from_slice-clause-space
returns-in_err-extend_from_slice-clause-space c = λ space. absurd (omega (arith, c.drop_half.ensures.space (length c.args.piece.now) space, c.in_err-extend_from_slice.ensures.full))
