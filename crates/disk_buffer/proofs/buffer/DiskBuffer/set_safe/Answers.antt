use Rattle.std.proofs.Common.{◌≡◌, ◌∙◌, ap, arith}
use Rattle.part_model.specs.Held.{bytes_of, pins_in, set_safe}
use Rattle.disk_buffer.specs.Stays.{residents}
use Rattle.disk_buffer.specs.Stored.{Stored}
use Rattle.disk_buffer.proofs.Held.{ends_as, ends_flag, flag_bytes, residents_flag}
use Rattle.disk_buffer.proofs.buffer.DiskBuffer.set_safe.Goals as goal

pub invariant_of-self : goal.invariant_of-self
invariant_of-self c = (
  omega (arith, c.self.invariant.0, c.set_flag.ensures.room),
  c.self.invariant.1,
  (let e : bytes_of (residents c.set_flag.new.self.stays) ≡ bytes_of (residents c.self.inside.arrivals.stays) = ap (λ l. bytes_of (residents l)) c.set_flag.ensures.stays ∙ flag_bytes c.args.file c.args.safe c.self.inside.arrivals.stays in omega (arith, c.self.invariant.2)),
  ends_as _ _ _ c.set_flag.ensures.stays (ends_flag c.self.inside.pins.value c.args.file c.args.safe c.self.inside.arrivals.stays c.self.invariant.3),
)

pub returns-clause-held : goal.returns-clause-held
returns-clause-held c = record {
  size = ap (λ (v : Stored). v.held.value.size) c.self.view_is;
  files = ap residents c.set_flag.ensures.stays ∙ residents_flag c.args.file c.args.safe c.self.inside.arrivals.stays ∙ ap (λ (v : Stored). (set_safe v.held.value c.args.file c.args.safe).files) c.self.view_is;
  aside = ap (λ (v : Stored). v.held.value.aside) c.self.view_is;
  pins = λ t f id. ap (λ (v : Stored). pins_in v.held.value.pins t f id) c.self.view_is;
}
