use Rattle.std.proofs.Common.{◌≡◌, ◌<◌, length, refl, ap, ◌∙◌, arith, inl, inr}
use Rattle.std.specs.Prelude.{Err}
use Rattle.std.proofs.lemmas.List.{length-take, take_all}
use Rattle.wire_http.specs.Errors.{by_error}
use Rattle.wire_http.proofs.Heads.{never_of_front, exceeds_of_front, begins_of_front, judged_of}
use Rattle.wire_http.proofs.head.judge_head.Goals as goal

pub judge_whole-requires-clause-small : goal.judge_whole-requires-clause-small
judge_whole-requires-clause-small c = omega (arith, ap length c.front-window.ensures, length-take 16384 c.args.bytes.now)

pub returns-then-window-lt-MOST_HEAD : goal.returns-then-window-lt-MOST_HEAD
returns-then-window-lt-MOST_HEAD c =
    let short : length c.args.bytes.now < 16384 = omega (arith, ap length c.front-window.ensures, length-take 16384 c.args.bytes.now) in
    let same : c.front-window.result.now ≡ c.args.bytes.now = c.front-window.ensures ∙ take_all 16384 c.args.bytes.now (omega arith) in
    record {
      within = short;
      not_yet = rw same at (rw c.in-Ok-Partial.field-0-is at c.in-Ok-Partial.ensures.partial);
      may = rw same at (rw c.in-Ok-Partial.field-0-is at c.in-Ok-Partial.ensures.unfinished);
    }

pub returns-else-window-lt-MOST_HEAD : goal.returns-else-window-lt-MOST_HEAD
returns-else-window-lt-MOST_HEAD c =
    inl (refl, inr (inr (omega (arith, ap length c.front-window.ensures, length-take 16384 c.args.bytes.now), rw c.front-window.ensures at (rw c.in-Ok-Partial.field-0-is at c.in-Ok-Partial.ensures.partial))))

pub returns-in-Err : goal.returns-in-Err
returns-in-Err c =
    inl (
      refl,
      elim (by_error c.in-Err.field-0 (Err c.in-Err.field-0) refl c.in-Err.ensures.invalid c.in-Err.ensures.too_many) [
        | inl never ↦ inl (never_of_front 16384 c.args.bytes.now (rw c.front-window.ensures at never))
        | inr exceeds ↦ inr (inl (exceeds_of_front 64 16384 c.args.bytes.now (rw c.front-window.ensures at exceeds)))
      ],
    )

pub returns-in-Ok-Complete : goal.returns-in-Ok-Complete
returns-in-Ok-Complete c =
    let within = rw (c.in-Ok-Complete.field-0-is, c.front-window.ensures) at c.in-Ok-Complete.ensures.within in
    let complete = rw (c.in-Ok-Complete.field-0-is, c.front-window.ensures) at c.in-Ok-Complete.ensures.complete in
    let reads = rw c.front-window.ensures at c.judge_whole.ensures in
    judged_of c.args.file_limit c.args.bytes.now _ complete.0 _ (begins_of_front 16384 c.args.bytes.now _ _ _ refl (omega arith) within complete.1) (reads complete.0 complete.1)
