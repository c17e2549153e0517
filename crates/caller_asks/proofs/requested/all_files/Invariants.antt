-- The files at the places that the loop has passed.
use Rattle.std.proofs.Common.{◌≡◌, take, true}
use Rattle.std.specs.List.{filter_map}
use Rattle.part_model.specs.Requests.{request_in}
use Rattle.part_laws.specs.BufferCalls.{file_where}
use Rattle.stage_book.specs.Reports.{files_of}
use Rattle.caller_asks.proofs.requested.all_files.Given as goal

abbrev pub invariant-loop-at : goal.invariant-loop-at
invariant-loop-at l = l.files.items ≡ filter_map (file_where (λ p. true)) (take l.at (files_of (request_in l.requests l.id)))
