-- Refusals of asks of files.
use Rattle.std.specs.Prelude.{Option, Some, None, Bool, true, false}
use Rattle.cta_model.specs.declared.answers.Refusal.{Refusal}
use Rattle.cta_model.specs.declared.answers.Refusal.TheVariants as refusal

-- the first refusal of a Put by these tests: no path, no directory, a path taken, no space, the history full
abbrev pub put_refusal : Bool → Bool → Bool → Bool → Bool → Option Refusal
put_refusal true foreign taken full heavy = Some refusal.BadPath
put_refusal false true taken full heavy = Some refusal.NoDirectory
put_refusal false false true full heavy = Some refusal.PathTaken
put_refusal false false false true heavy = Some refusal.NoSpace
put_refusal false false false false true = Some refusal.HistoryFull
put_refusal false false false false false = None

-- the first refusal of a Delete by these tests: no file, the history full
abbrev pub delete_refusal : Bool → Bool → Option Refusal
delete_refusal true heavy = Some refusal.NoFile
delete_refusal false true = Some refusal.HistoryFull
delete_refusal false false = None
