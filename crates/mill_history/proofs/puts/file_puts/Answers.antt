use Rattle.std.specs.Prelude.{◌≡◌, refl, ◌+◌, ◌<◌, [], length, take, nat_lt}
use Rattle.std.specs.List.{list_all}
use Rattle.std.proofs.Common.{arith, ap, sym, subst, ◌∙◌}
use Rattle.std.proofs.lemmas.List.{take_all}
use Rattle.cta_model.specs.History.{History, next_number}
use Rattle.cta_model.specs.Bare.{bare_entry}
use Rattle.cta_model.specs.Newest.{history_in}
use Rattle.cta_model.proofs.Newest.{history_in-none, history_in-read, history_in-taken}
use Rattle.mill_history.specs.Puts.{put_in}
use Rattle.mill_history.specs.Found.{AreFound, IsPutNoted}
use Rattle.mill_history.proofs.Found.{found_none, found_next, found_all}
use Rattle.mill_history.proofs.puts.file_puts.Goals as goal

pub loop-entry-init : goal.loop-entry-init
loop-entry-init c = (
  subst (λ (h : History). AreFound h c.args.sums.now c.in_ok-numbers.numbers.items) (sym history_in-none) (subst (λ ns. AreFound [] c.args.sums.now ns) (sym c.in_ok-numbers.ensures) (found_none c.args.sums.now)),
  refl,
)

pub loop-entry-preserved : goal.loop-entry-preserved
loop-entry-preserved c =
    let within : c.loop-entry.entry-index < length c.args.entries.now = omega (arith, c.loop-entry-test.true) in
    let next : c.loop-entry.number + 1 ≡ next_number (history_in (take c.loop-entry.entry-index c.args.entries.now)) = omega (arith, c.loop-entry.invariant.1, history_in-taken c.args.entries.now c.loop-entry.entry-index (omega (arith, within))) in
    let noted : IsPutNoted c.loop-entry.numbers.items c.noted.new.numbers.items (c.loop-entry.number + 1) (put_in (bare_entry c.entry-item.result).ask) c.args.sums.now = c.noted.ensures c.if-not-noted.false in (
      subst (λ (h : History). AreFound h c.args.sums.now c.noted.new.numbers.items) (sym (history_in-read c.args.entries.now c.loop-entry.entry-index c.entry-item.result within c.entry-item.is))
          (found_next (bare_entry c.entry-item.result) (history_in (take c.loop-entry.entry-index c.args.entries.now)) c.args.sums.now c.loop-entry.numbers.items c.noted.new.numbers.items c.requires.few
          (subst (λ n. IsPutNoted c.loop-entry.numbers.items c.noted.new.numbers.items n (put_in (bare_entry c.entry-item.result).ask) c.args.sums.now) next noted) c.loop-entry.invariant.0),
      omega (arith, c.loop-entry.invariant.1),
    )

pub returns-then-are_some : goal.returns-then-are_some
returns-then-are_some c =
    let whole : take c.loop-entry.entry-index c.args.entries.now ≡ c.args.entries.now = take_all _ c.args.entries.now (omega (arith, c.loop-entry-test.false)) in
    found_all (history_in c.args.entries.now) c.args.sums.now c.loop-entry.numbers.items (ap (λ xs. list_all (λ n. nat_lt 0 n) xs) (sym c.deref.ensures.value) ∙ (sym c.are_some.ensures ∙ c.if-are_some.true))
    (subst (λ xs. AreFound (history_in xs) c.args.sums.now c.loop-entry.numbers.items) whole c.loop-entry.invariant.0)
