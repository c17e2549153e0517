-- What the index of places tells, and how its trees and its map hold it.
use Rattle.std.specs.Prelude.{ℕ, suc, ◌≡◌, ◌<◌, List, [], ◌∷◌, ◌++◌, Some, None, map, length}
use Rattle.std.specs.List.{slice_get}
use Rattle.std.specs.Map.{lookup}
use Rattle.cta_model.specs.declared.states.Place.{Place}
use Rattle.part_model.specs.declared.space.Placed.{Placed}
use Rattle.part_model.specs.declared.space.TapeRow.{TapeRow}
use Rattle.part_model.specs.Tapes.{AreDistinct, place_among, row_or}
use Rattle.tape_table.specs.Rows.{CopyKey, same_copy}
use Rattle.tape_table.specs.declared.live.LiveCopy.{LiveCopy}

-- the copies that have a place, how many tapes there are, and for how many more places there is room
pub record Indexed : Type 0 where
  pub places : List Placed
  pub tapes : ℕ
  pub room : ℕ

-- a copy with its place on a tape
abbrev pub placed_at : ℕ → LiveCopy → Placed
placed_at tape x = record { file = x.file; copy = x.copy; place = record { copy = x.copy; tape = tape; fseq = x.fseq } }

-- the copies of the trees, the first tree being that of this tape
abbrev pub placed_from : ℕ → List (List LiveCopy) → List Placed
placed_from tape [] = []
placed_from tape (xs ∷ trees) = map (placed_at tape) xs ++ placed_from (suc tape) trees

-- the map tells the places that the trees have, each copy once
pub record IsIndex (trees : List (List LiveCopy)) (es : List (CopyKey × Place)) : Type 0 where
  pub distinct : AreDistinct (placed_from 0 trees)
  pub told : (f c : ℕ) → lookup (same_copy (f, c)) es ≡ place_among (placed_from 0 trees) f c

-- no copy has its place on the tape at the fSeq or behind it
abbrev pub IsBehind : List Placed → ℕ → ℕ → Type 0
IsBehind places tape fseq = (f c : ℕ) (p : Place) → place_among places f c ≡ Some p → p.tape ≡ tape → p.fseq < fseq

-- each tape has its row, each fSeq is below the next one of its tape, and only the copies from 1 to 4 have places, each one
pub record AreFiled (rows : List TapeRow) (x : Indexed) : Type 0 where
  pub as_many : x.tapes ≡ length rows
  pub distinct : AreDistinct x.places
  pub below : (tape : ℕ) → IsBehind x.places tape (row_or (slice_get rows tape)).next
  pub none : (f : ℕ) → place_among x.places f 0 ≡ None
  pub few : (f c : ℕ) → 4 < c → place_among x.places f c ≡ None
