-- Between two rounds no drive is loaded.
use Rattle.std.specs.Prelude.{◌≡◌, length}
use Rattle.turn_hall.specs.Handles.{IsPassOf, first_of}
use Rattle.mill_crew.specs.Contents.{file_sums}
use Rattle.mill_crew.specs.Posts.{AreDrives}
use Rattle.mill_crew.proofs.rounds.recall_all.Given as goal

abbrev pub invariant-loop-round : goal.invariant-loop-round
invariant-loop-round g l = record {
  here : IsPassOf g.T.Keeps.site l.hall l.pass;
  drives : AreDrives g.D.TapeDrive.seen (length (g.X.DriveFront.site (g.T.Keeps.site (first_of l.hall))).drives.items) l.drives.items;
  sums : l.sums.items ≡ file_sums l.at.seed 0 (length l.sums.items);
}
