use Rattle.std.proofs.Common.{refl}
use Rattle.std.specs.Prelude.{bytes_eq}
use Rattle.cta_site.proofs.Found.{place_next}
use Rattle.cta_site.proofs.index.places_of.Goals as goal

pub loop-place-preserved : goal.loop-place-preserved
loop-place-preserved g c = λ key. place_next (λ x. bytes_eq (g.T.Named.name_of x) key) c.args.items.now c.loop-place.place c.index-items-place.result _ _ _ c.loop-place-test.true c.index-items-place.is refl (c.loop-place.invariant key) (rw c.name.ensures at c.in_ok-add.ensures key)
