use Rattle.std.proofs.Common.{◌≡◌, ◌∙◌, ◌∷◌, ap, arith}
use Rattle.part_model.specs.Held.{bytes_of, pins_in}
use Rattle.disk_buffer.specs.Stays.{residents}
use Rattle.disk_buffer.specs.Stored.{Stored}
use Rattle.disk_buffer.proofs.Held.{ends_as, ends_set, residents_end, set_others}
use Rattle.disk_buffer.proofs.buffer.DiskBuffer.pin.Goals as goal

pub invariant_of-self : goal.invariant_of-self
invariant_of-self c = (
  omega (arith, c.self.invariant.0, c.set_end.ensures.room),
  omega (arith, c.self.invariant.1, c.set.ensures.room),
  (let e : bytes_of (residents c.set_end.new.self.stays) ≡ bytes_of (residents c.self.inside.arrivals.stays) = ap (λ l. bytes_of (residents l)) c.set_end.ensures.stays ∙ ap bytes_of (residents_end c.args.file c.end-end.result c.self.inside.arrivals.stays) in omega (arith, c.self.invariant.2)),
  ends_as _ _ _ c.set_end.ensures.stays (ends_set c.self.inside.pins.value c.set.new.self.value c.args.file c.end-end.result c.self.inside.arrivals.stays (set_others c.self.inside.pins.value c.set.new.self.value c.args.file c.args.owner c.args.until c.set.ensures.ends) c.end-end.ensures c.self.invariant.3),
)

pub returns-clause-held : goal.returns-clause-held
returns-clause-held c = record {
  size = ap (λ (v : Stored). v.held.value.size) c.self.view_is;
  files = ap residents c.set_end.ensures.stays ∙ residents_end c.args.file c.end-end.result c.self.inside.arrivals.stays ∙ ap (λ (v : Stored). v.held.value.files) c.self.view_is;
  aside = ap (λ (v : Stored). v.held.value.aside) c.self.view_is;
  pins = λ t f id. c.set.ensures.pins t f id ∙ ap (λ (v : Stored). pins_in (record { file = c.args.file; owner = c.args.owner; until = c.args.until } ∷ v.held.value.pins) t f id) c.self.view_is;
}
