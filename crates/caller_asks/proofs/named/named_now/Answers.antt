use Rattle.std.proofs.Common.{◌∙◌, ◌<◌, ℕ, arith, ap}
use Rattle.std.specs.Global.{Vec}
use Rattle.cta_model.specs.declared.states.RequestFile.{RequestFile}
use Rattle.part_model.specs.Names.{file_in}
use Rattle.part_model.specs.Requests.{request_in}
use Rattle.stage_book.specs.Reports.{files_of}
use Rattle.stage_book.specs.Requested.{count_of}
use Rattle.caller_asks.proofs.FileLists.{name_at, place_passed, place_taken, within}
use Rattle.caller_asks.proofs.named.named_now.Goals as goal
use Rattle.caller_asks.proofs.named.named_now.Goals.{in-Some+in_ok-push, in_default}

pub loop-at-preserved : goal.loop-at-preserved
loop-at-preserved c =
    let o = request_in c.args.requests.now c.args.id in
    let low : c.loop-at.at < count_of (request_in c.args.requests.now c.args.id) = (let test = c.loop-at-test.true in let count = c.count-at-end.ensures in omega arith) in
    elim c.match-file.branch [
      | in-Some+in_ok-push w ↦
          place_taken (λ (s : RequestFile). file_in c.args.names.now s.path) (files_of o) c.loop-at.at w.in-Some.file c.loop-at.files.items c.match-file.files.items (within o c.loop-at.at low) c.loop-at.invariant
          (name_at c.args.names.now o c.loop-at.at c.path.result.now _ low c.path.ensures w.in-Some.ensures) (ap (λ (v : Vec ℕ). v.items) w.files-is ∙ w.in_ok-push.ensures.items)
      | in_default w ↦
          ap (λ (v : Vec ℕ). v.items) w.files-is
          ∙ place_passed (λ (s : RequestFile). file_in c.args.names.now s.path) (files_of o) c.loop-at.at c.loop-at.files.items (within o c.loop-at.at low) c.loop-at.invariant
          (name_at c.args.names.now o c.loop-at.at c.path.result.now _ low c.path.ensures w.in_default.ensures)
    ]
