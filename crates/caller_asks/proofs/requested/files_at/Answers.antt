use Rattle.std.proofs.Common.{◌≡◌, ◌∙◌, ◌<◌, ◌≤◌, ℕ, arith, ap, true}
use Rattle.std.specs.Prelude.{slice_get}
use Rattle.std.specs.Global.{Vec}
use Rattle.cta_model.specs.History.{has_text}
use Rattle.part_model.specs.Requests.{request_in}
use Rattle.part_laws.specs.BufferCalls.{file_where}
use Rattle.stage_book.specs.Reports.{files_of}
use Rattle.stage_book.specs.Requested.{count_of}
use Rattle.caller_asks.proofs.FileLists.{all_taken, beyond, file_passed, file_taken, files_are, known_is, place_passed, place_taken, within}
use Rattle.caller_asks.proofs.requested.files_at.Goals as goal
use Rattle.caller_asks.proofs.requested.files_at.Goals.{in-Some+in_ok-push, in_default}

pub loop-at-preserved-then-not-contains : goal.loop-at-preserved-then-not-contains
loop-at-preserved-then-not-contains c =
    let o = request_in c.args.requests.now c.args.id in
    let low : c.loop-at.at < count_of (request_in c.args.requests.now c.args.id) = (let test = c.loop-at-test.true in let count = c.count-at-end.ensures in omega arith) in
    place_passed (file_where (λ p. has_text p c.args.paths.now)) (files_of o) c.loop-at.at c.loop-at.files.items (within o c.loop-at.at low) c.loop-at.invariant
    (file_passed (λ p. has_text p c.args.paths.now) (slice_get (files_of o) c.loop-at.at) c.path.result.now c.path.ensures (known_is _ _ _ _ (c.in_ok-known.ensures c.path.result.now) c.contains.ensures c.if-not-contains.true))

pub loop-at-preserved : goal.loop-at-preserved
loop-at-preserved c =
    let o = request_in c.args.requests.now c.args.id in
    let low : c.loop-at.at < count_of (request_in c.args.requests.now c.args.id) = (let test = c.loop-at-test.true in let count = c.count-at-end.ensures in omega arith) in
    let on : has_text c.path.result.now c.args.paths.now ≡ true = known_is _ _ _ _ (c.in_ok-known.ensures c.path.result.now) c.contains.ensures c.if-not-contains.false in
    elim c.match-file.branch [
      | in-Some+in_ok-push w ↦
          place_taken (file_where (λ p. has_text p c.args.paths.now)) (files_of o) c.loop-at.at w.in-Some.file c.loop-at.files.items c.match-file.files.items (within o c.loop-at.at low) c.loop-at.invariant
          (file_taken (λ p. has_text p c.args.paths.now) (slice_get (files_of o) c.loop-at.at) c.path.result.now _ c.path.ensures on w.in-Some.ensures) (ap (λ (v : Vec ℕ). v.items) w.files-is ∙ w.in_ok-push.ensures.items)
      | in_default w ↦
          ap (λ (v : Vec ℕ). v.items) w.files-is
          ∙ place_passed (file_where (λ p. has_text p c.args.paths.now)) (files_of o) c.loop-at.at c.loop-at.files.items (within o c.loop-at.at low) c.loop-at.invariant
          (file_taken (λ p. has_text p c.args.paths.now) (slice_get (files_of o) c.loop-at.at) c.path.result.now _ c.path.ensures on w.in_default.ensures)
    ]

pub returns : goal.returns
returns c =
    let o = request_in c.args.requests.now c.args.id in
    let high : count_of (request_in c.args.requests.now c.args.id) ≤ c.loop-at.at = (let test = c.loop-at-test.false in let count = c.count-at-end.ensures in omega arith) in
    files_are (λ p. has_text p c.args.paths.now) o c.loop-at.files.items (all_taken (file_where (λ p. has_text p c.args.paths.now)) (files_of o) c.loop-at.at c.loop-at.files.items (beyond o c.loop-at.at high) c.loop-at.invariant)
