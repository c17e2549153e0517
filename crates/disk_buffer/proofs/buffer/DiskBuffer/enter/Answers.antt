use Rattle.std.proofs.Common.{◌≡◌, ◌∙◌, ◌+◌, length, ap, arith}
use Rattle.part_model.specs.Held.{bytes_of}
use Rattle.disk_buffer.specs.Stays.{residents}
use Rattle.disk_buffer.specs.Stored.{Stored}
use Rattle.disk_buffer.proofs.Held.{ends_as, ends_last, last_bytes}
use Rattle.disk_buffer.proofs.buffer.DiskBuffer.enter.Goals as goal

pub invariant_of-self : goal.invariant_of-self
invariant_of-self c = (
  omega (arith, c.self.invariant.0, c.push.ensures.room),
  omega (arith, c.self.invariant.1),
  (let e : bytes_of (residents c.push.new.self.stays) ≡ bytes_of (residents c.self.inside.arrivals.stays) + length c.args.blob.value = ap (λ l. bytes_of (residents l)) c.push.ensures.stays ∙ last_bytes _ c.self.inside.arrivals.stays in
      let f : bytes_of (residents c.self.inside.arrivals.stays) ≡ bytes_of c.args.self.now.held.value.files = ap (λ (v : Stored). bytes_of v.held.value.files) c.self.view_is in
      let a : c.self.inside.aside ≡ c.args.self.now.held.value.aside = ap (λ (v : Stored). v.held.value.aside) c.self.view_is in
      omega (arith, c.requires.fits)),
  ends_as _ _ _ c.push.ensures.stays (ends_last c.self.inside.pins.value _ c.self.inside.arrivals.stays c.self.invariant.3 c.end-until.ensures),
)
