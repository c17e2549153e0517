use Rattle.std.proofs.Common.{◌≡◌, ◌∙◌, ap, arith}
use Rattle.part_model.specs.Held.{bytes_of, pins_in, unpin}
use Rattle.disk_buffer.specs.Stays.{residents}
use Rattle.disk_buffer.specs.Stored.{Stored}
use Rattle.disk_buffer.proofs.Held.{ends_as, ends_set, residents_end, unset_others}
use Rattle.disk_buffer.proofs.buffer.DiskBuffer.unpin.Goals as goal

pub invariant_of-self : goal.invariant_of-self
invariant_of-self c = (
  omega (arith, c.self.invariant.0, c.set_end.ensures.room),
  omega (arith, c.self.invariant.1, c.unset.ensures.room),
  (let e : bytes_of (residents c.set_end.new.self.stays) ≡ bytes_of (residents c.self.inside.arrivals.stays) = ap (λ l. bytes_of (residents l)) c.set_end.ensures.stays ∙ ap bytes_of (residents_end c.args.file c.end-end.result c.self.inside.arrivals.stays) in omega (arith, c.self.invariant.2)),
  ends_as _ _ _ c.set_end.ensures.stays (ends_set c.self.inside.pins.value c.unset.new.self.value c.args.file c.end-end.result c.self.inside.arrivals.stays (unset_others c.self.inside.pins.value c.unset.new.self.value c.args.file c.args.owner c.unset.ensures.value) c.end-end.ensures c.self.invariant.3),
)

pub returns-clause-held : goal.returns-clause-held
returns-clause-held c = record {
  size = ap (λ (v : Stored). v.held.value.size) c.self.view_is;
  files = ap residents c.set_end.ensures.stays ∙ residents_end c.args.file c.end-end.result c.self.inside.arrivals.stays ∙ ap (λ (v : Stored). v.held.value.files) c.self.view_is;
  aside = ap (λ (v : Stored). v.held.value.aside) c.self.view_is;
  pins = λ t f id. ap (λ l. pins_in l t f id) (c.unset.ensures.value ∙ ap (λ (v : Stored). (unpin v.held.value c.args.file c.args.owner).pins) c.self.view_is);
}
