-- The files that the paths name which the loop has passed.
use Rattle.std.proofs.Common.{◌≡◌, take}
use Rattle.std.specs.List.{filter_map}
use Rattle.cta_model.specs.declared.states.RequestFile.{RequestFile}
use Rattle.part_model.specs.Names.{file_in}
use Rattle.part_model.specs.Requests.{request_in}
use Rattle.stage_book.specs.Reports.{files_of}
use Rattle.caller_asks.proofs.named.named_now.Given as goal

abbrev pub invariant-loop-at : goal.invariant-loop-at
invariant-loop-at l = l.files.items ≡ filter_map (λ (s : RequestFile). file_in l.names s.path) (take l.at (files_of (request_in l.requests l.id)))
