use Rattle.std.proofs.Common.{◌≡◌, ◌∙◌, ◌++◌, ℕ, List, ap, sym, true, false}
use Rattle.cta_site.proofs.Sets.{false_from_not, holds, true_from_not}
use Rattle.part_model.specs.Names.{file_in}
use Rattle.part_laws.specs.Operators.{retried_with}
use Rattle.cta_model.specs.History.{has_text}
use Rattle.std.proofs.Common.{take}
use Rattle.fault_asks.proofs.NamedJobs.{made_again, made_new, seen_more}
use Rattle.fault_asks.proofs.copies.retried_jobs.Goals as goal

pub loop-path-preserved-then-not-branch : goal.loop-path-preserved-then-not-branch
loop-path-preserved-then-not-branch c =
    let hit : holds c.loop-path.seen c.as_bytes.result.now ≡ true = true_from_not _ (sym c.in_ok-insert.ensures.added ∙ c.if-not-branch.true) in
    let path = c.as_bytes.ensures ∙ c.path-item.is in
    record {
      seen = seen_more c.args.paths.now c.loop-path.path-index _ c.as_bytes.result c.loop-path.seen c.insert.new.self c.loop-path-test.true path c.in_ok-insert.ensures.updates c.loop-path.invariant.seen;
      made = made_again c.args.names.now c.args.failed.now.value c.args.number c.loop-path.path-index _ c.args.paths.now c.loop-path.jobs.items _ c.loop-path-test.true
          (ap (λ (p : List ℕ). has_text p (take c.loop-path.path-index c.args.paths.now)) (sym path) ∙ sym (c.loop-path.invariant.seen c.as_bytes.result.now) ∙ hit) c.loop-path.invariant.made;
    }

pub loop-path-preserved : goal.loop-path-preserved
loop-path-preserved c =
    let miss : holds c.loop-path.seen c.as_bytes.result.now ≡ false = false_from_not _ (sym c.in_ok-insert.ensures.added ∙ c.if-not-branch.false) in
    let path = c.as_bytes.ensures ∙ c.path-item.is in
    let pushed = c.in_ok-add_named.ensures ∙ ap (λ (p : List ℕ). c.loop-path.jobs.items ++ retried_with c.args.number c.args.failed.now.value (file_in c.args.names.now p)) (c.as_bytes-in-loop-path.ensures ∙ c.path-item.is) in
    record {
      seen = seen_more c.args.paths.now c.loop-path.path-index _ c.as_bytes.result c.loop-path.seen c.insert.new.self c.loop-path-test.true path c.in_ok-insert.ensures.updates c.loop-path.invariant.seen;
      made = made_new c.args.names.now c.args.failed.now.value c.args.number c.loop-path.path-index _ c.args.paths.now c.loop-path.jobs.items _ _ c.loop-path-test.true
          (ap (λ (p : List ℕ). has_text p (take c.loop-path.path-index c.args.paths.now)) (sym path) ∙ sym (c.loop-path.invariant.seen c.as_bytes.result.now) ∙ miss) pushed c.loop-path.invariant.made;
    }
