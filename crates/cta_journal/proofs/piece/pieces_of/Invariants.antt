use Rattle.std.proofs.Common.{◌≡◌, All, take, map}
use Rattle.cta_journal.specs.Log.{records}
use Rattle.cta_journal.proofs.piece.pieces_of.Given as goal

abbrev pub invariant-loop-one : goal.invariant-loop-one
invariant-loop-one g l =
    record {
      bytes : l.pieces.items ≡ records (map g.R.Record.body (take l.one-index l.kept));
      fit : All g.R.Record.fits (take l.one-index l.kept);
    }
