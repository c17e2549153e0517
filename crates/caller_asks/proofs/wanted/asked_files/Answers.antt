use Rattle.std.proofs.Common.{◌≡◌, ◌∙◌, ◌++◌, ◌∷◌, ℕ, List, [], sym, ap, true, false}
use Rattle.cta_site.proofs.Sets.{false_from_not, holds, true_from_not}
use Rattle.cta_model.specs.declared.asks.Wanted.{Wanted}
use Rattle.cta_model.specs.declared.states.StageFile.{StageFile}
use Rattle.cta_model.specs.History.{has_text}
use Rattle.caller_asks.specs.Wanted.{asked_in}
use Rattle.caller_asks.proofs.WantedLists.{made_new, passed_again, paths_in, seen_again, seen_new}
use Rattle.caller_asks.proofs.wanted.asked_files.Goals as goal

pub loop-one-preserved-then-not-branch : goal.loop-one-preserved-then-not-branch
loop-one-preserved-then-not-branch c =
    let hit : holds c.loop-one.seen c.as_bytes.result.now ≡ true = true_from_not _ (sym c.in_ok-insert.ensures.added ∙ c.if-not-branch.true) in
    let path = c.as_bytes.ensures ∙ ap (λ (w : Wanted). w.path) c.one-item.is in
    record {
      seen = seen_again c.as_bytes.result c.loop-one.seen c.insert.new.self (paths_in c.loop-one.files.items) _ c.as_bytes.ensures c.in_ok-insert.ensures.updates c.loop-one.invariant.seen hit;
      made = passed_again c.args.names.now c.args.lifetime c.loop-one.one-index _ c.args.wanted.now c.loop-one.files.items _ c.loop-one-test.true (ap (λ (p : List ℕ). has_text p (paths_in c.loop-one.files.items)) (sym path) ∙ sym (c.loop-one.invariant.seen c.as_bytes.result.now) ∙ hit) c.loop-one.invariant.made;
    }

pub loop-one-preserved : goal.loop-one-preserved
loop-one-preserved c =
    let miss : holds c.loop-one.seen c.as_bytes.result.now ≡ false = false_from_not _ (sym c.in_ok-insert.ensures.added ∙ c.if-not-branch.false) in
    let path = c.as_bytes.ensures ∙ ap (λ (w : Wanted). w.path) c.one-item.is in
    let pushed = c.in_ok-push.ensures.items ∙ ap (λ (s : StageFile). c.loop-one.files.items ++ s ∷ []) (c.in_ok-file.ensures ∙ ap (asked_in c.args.names.now c.args.lifetime) c.one-item.is) in
    record {
      seen = seen_new c.as_bytes.result c.loop-one.seen c.insert.new.self c.loop-one.files.items c.push.new.self.items _ pushed path c.in_ok-insert.ensures.updates c.loop-one.invariant.seen;
      made = made_new c.args.names.now c.args.lifetime c.loop-one.one-index _ c.args.wanted.now c.loop-one.files.items c.push.new.self.items _ c.loop-one-test.true (ap (λ (p : List ℕ). has_text p (paths_in c.loop-one.files.items)) (sym path) ∙ sym (c.loop-one.invariant.seen c.as_bytes.result.now) ∙ miss) pushed c.loop-one.invariant.made;
    }
