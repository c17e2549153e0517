use Rattle.std.proofs.Common.{◌≡◌, sym, ap, ◌&&◌, false}
use Rattle.std.specs.Prelude.{bytes_eq}
use Rattle.cta_site.specs.Lookups.{is_rule_for}
use Rattle.cta_site.proofs.Found.{place_next, place_same}
use Rattle.cta_site.proofs.index.rules_of.Goals as goal
use Rattle.cta_site.proofs.index.rules_of.Goals.{then-is_of_kind+in_ok-add, else-is_of_kind}

pub loop-place-preserved : goal.loop-place-preserved
loop-place-preserved c =
    elim c.if-is_of_kind.branch [
      | then-is_of_kind+in_ok-add w ↦ rw w.places-is (λ name.
          let passes : is_rule_for c.args.kind name c.index-rules-place.result ≡ bytes_eq c.index-rules-place.result.name name = ap (λ b. b && bytes_eq c.index-rules-place.result.name name) (sym w.if-is_of_kind.ensures) in
          place_next (is_rule_for c.args.kind name) c.args.rules.now c.loop-place.place c.index-rules-place.result _ _ _ c.loop-place-test.true c.index-rules-place.is passes (c.loop-place.invariant name) (rw w.as_bytes.ensures at w.in_ok-add.ensures name))
      | else-is_of_kind w ↦ rw w.places-is (λ name.
          let fails : is_rule_for c.args.kind name c.index-rules-place.result ≡ false = ap (λ b. b && bytes_eq c.index-rules-place.result.name name) (sym w.if-is_of_kind.ensures) in
          place_same (is_rule_for c.args.kind name) c.args.rules.now c.loop-place.place c.index-rules-place.result _ c.loop-place-test.true c.index-rules-place.is fails (c.loop-place.invariant name))
    ]
