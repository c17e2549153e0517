-- A failing call leaves a front of the piece: its first half, or nothing where memory is wanted.
use Rattle.std.proofs.Common.{◌≡◌, ◌/◌, List, ℕ, Bool, true, false, cond, [], ◌++◌, Some, length, sym, ◌∙◌, refl, append-nil, take-append-drop}
use Rattle.std.specs.Prelude.{is_ok}
use Rattle.outside.specs.Streams.{AppendsFront}
use Rattle.outside.proofs.memory_sink.MemSinkSink.write_all_of.Goals as goal

front_kept : (b : Bool) (new old half rest piece : List ℕ) → new ≡ cond b (old ++ half) old → piece ≡ half ++ rest → AppendsFront (Some old) (Some new) piece
front_kept true new old half rest piece e h = (half, e, (rest, h))
front_kept false new old half rest piece e h = ([], e ∙ sym (append-nil old), (piece, refl))

pub returns-then-contains-clause-bytes : goal.returns-then-contains-clause-bytes
returns-then-contains-clause-bytes c =
    let piece = c.args.piece.now in
    front_kept (is_ok c.extend_from_slice.result) _ _ _ _ piece c.extend_from_slice.ensures.items (sym (take-append-drop (length piece / 2) piece))
