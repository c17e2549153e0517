-- What is told of the files at the places that the loop has passed.
use Rattle.std.proofs.Common.{◌≡◌, take}
use Rattle.std.specs.Prelude.{map}
use Rattle.part_model.specs.Requests.{request_in}
use Rattle.part_laws.specs.Told.{file_told}
use Rattle.stage_book.specs.Reports.{files_of}
use Rattle.archive_state.proofs.requests.mark_all.Given as goal

abbrev pub invariant-loop-at : goal.invariant-loop-at
invariant-loop-at l = l.files.items ≡ map (file_told l.buffer.held.value) (take l.at (files_of (request_in l.requests l.id)))
