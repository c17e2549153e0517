use Rattle.std.proofs.Common.{◌≡◌, ◌∙◌, ◌-◌, ◌++◌, ◌∷◌, ap, sym, subst, rules, arith, map, take, drop, length, List, ℕ, All}
use Rattle.std.proofs.lemmas.Grind.{common_steps}
use Rattle.std.proofs.lemmas.List.Elements.{All-push}
use Rattle.cta_journal.specs.Log.{records}
use Rattle.cta_journal.proofs.Pieces.{log_goes_on}
use Rattle.cta_journal.proofs.reading.read_log.Goals as goal

pub loop-rest-preserved : goal.loop-rest-preserved
loop-rest-preserved g c =
    let body = g.R.Record.body in
    let rest = c.loop-rest.rest.now in
    let after = take (length rest - 1) (drop 1 rest) in
    let gate : rest ≡ 1 ∷ after = first_of (search rules, grind (arith, common_steps)) in
    let split = c.loop-rest.invariant.split ∙ ap (λ (l : List ℕ). records (map body c.loop-rest.found.items) ++ l) gate in
    let more = log_goes_on body c.args.bytes.now after c.in-Ok.next.1.now c.loop-rest.found.items c.in-Ok.next.0 split c.in-Ok.ensures.found.1 in
    record {
      split = more ∙ ap (λ l. records (map body l) ++ c.in-Ok.next.1.now) (sym c.in-Ok-push.ensures.items);
      more = c.in-Ok.ensures.found.2;
      fit = subst (λ l. All g.R.Record.fits l) (sym c.in-Ok-push.ensures.items) (All-push g.R.Record.fits c.loop-rest.found.items c.in-Ok.next.0 c.loop-rest.invariant.fit c.in-Ok.ensures.found.0);
      few = first_of (search rules, grind (arith, common_steps));
    }
