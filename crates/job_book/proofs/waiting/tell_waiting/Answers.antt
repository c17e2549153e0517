use Rattle.std.proofs.Common.{rules, arith, ◌≡◌, ◌≤◌, ◌+◌, length, Some}
use Rattle.job_book.specs.Maps.{waits_at, waiting_in}
use Rattle.job_book.proofs.Looks.{waiting_grows, waiting_in-some}
use Rattle.job_book.proofs.waiting.tell_waiting.Goals as goal

pub push-requires : goal.push-requires
push-requires c =
    let here : waits_at c.args.waiting.now.entries c.args.file c.loop-at.at ≡ Some c.in-Some.owner = search rules in
    let more : length (waiting_in (waits_at c.args.waiting.now.entries c.args.file) (c.loop-at.at + 1)) ≡ length (waiting_in (waits_at c.args.waiting.now.entries c.args.file) c.loop-at.at) + 1 = waiting_in-some (waits_at c.args.waiting.now.entries c.args.file) c.loop-at.at c.in-Some.owner here in
    let grows : length (waiting_in (waits_at c.args.waiting.now.entries c.args.file) (c.loop-at.at + 1)) ≤ length (waiting_in (waits_at c.args.waiting.now.entries c.args.file) c.args.places) = waiting_grows (waits_at c.args.waiting.now.entries c.args.file) (c.loop-at.at + 1) c.args.places (omega arith) in
    omega arith
