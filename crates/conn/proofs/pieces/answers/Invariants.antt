use Rattle.std.proofs.Common.{◌≡◌, take}
use Rattle.std.specs.List.{flat_map}
use Rattle.conn.specs.Stands.{Stands, Settled, given_by, limit_of}
use Rattle.conn.proofs.pieces.answers.Given as goal

abbrev pub invariant-loop-piece : goal.invariant-loop-piece
invariant-loop-piece l = record {
  limit : limit_of l.conn ≡ l.file_limit;
  stands : Stands l.conn (flat_map (λ piece. piece.items) (take l.piece-index l.pieces)) (given_by l.out.items);
  settled : Settled l.file_limit (flat_map (λ piece. piece.items) (take l.piece-index l.pieces)) (given_by l.out.items);
}
