use Rattle.std.proofs.Common.{◌≡◌, ◌∙◌, false, is_ok, ap, arith, rules}
use Rattle.file_media.specs.Names.{record_name}
use Rattle.file_media.proofs.Writes.{fails_as, removed_all, removed_failed, removed_more}
use Rattle.file_media.proofs.records.cut.Goals as goal

pub returns-in_err-remove-clause-done : goal.returns-in_err-remove-clause-done
returns-in_err-remove-clause-done g c =
    let bad : is_ok c.from_residual.result ≡ false = search rules in
    let kept = c.loop-medium.invariant in
    let w = c.loop-medium.medium.written in
    fails_as _ _ _ _ _ _ bad (removed_failed c.args.medium.now.vid _ c.args.fseq w c.args.medium.now.written _ _ _ (omega (arith, c.loop-medium-test.true)) kept.1
    (c.record.ensures ∙ ap (λ v. record_name v w) kept.2) kept.7 c.in_err-remove.ensures)

pub loop-medium-preserved : goal.loop-medium-preserved
loop-medium-preserved g c =
    let kept = c.loop-medium.invariant in
    let w = c.loop-medium.medium.written in (
      omega (arith, c.loop-medium-test.true),
      omega (arith, kept.1),
      kept.2,
      kept.3,
      kept.4,
      kept.5,
      kept.6,
      removed_more c.args.medium.now.vid _ w c.args.medium.now.written _ _ _ (omega (arith, c.requires.from, c.loop-medium-test.true)) kept.1
          (c.record.ensures ∙ ap (λ v. record_name v w) kept.2) kept.7 c.in_ok-remove.ensures,
    )

pub returns-clause-done : goal.returns-clause-done
returns-clause-done g c =
    let kept = c.loop-medium.invariant in
    removed_all c.args.medium.now.vid c.args.fseq c.loop-medium.medium.written c.args.medium.now.written _ _ (omega (arith, c.loop-medium-test.false)) kept.0 kept.1 kept.7
