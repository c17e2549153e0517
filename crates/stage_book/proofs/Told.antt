-- What is told of the files of a request.
use Rattle.std.proofs.Common.{◌≡◌, List, [], ◌∷◌, refl, ap}
use Rattle.std.specs.Prelude.{map}
use Rattle.cta_model.specs.declared.states.RequestFile.{RequestFile}
use Rattle.cta_model.specs.Reports.{earlier_of, greatest_finish, later_of, least_start}
use Rattle.stage_book.specs.Reports.{file_told, greatest_told, least_told}

pub least_is : (files : List RequestFile) → least_told (map file_told files) ≡ least_start files
least_is [] = refl
least_is (s ∷ ss) = ap (earlier_of s.started) (least_is ss)

pub greatest_is : (files : List RequestFile) → greatest_told (map file_told files) ≡ greatest_finish files
greatest_is [] = refl
greatest_is (s ∷ []) = refl
greatest_is (s ∷ r ∷ ss) = ap (later_of s.finished) (greatest_is (r ∷ ss))
