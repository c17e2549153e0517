use Rattle.std.proofs.Common.{◌≡◌, ◌∙◌, ◌∷◌, [], ap, arith}
use Rattle.part_model.specs.Held.{bytes_of, pins_without, without}
use Rattle.disk_buffer.specs.Stays.{residents, without_file}
use Rattle.disk_buffer.specs.Stored.{Stored}
use Rattle.disk_buffer.proofs.Held.{ends_as, ends_without, residents_without, without_bytes}
use Rattle.disk_buffer.proofs.buffer.DiskBuffer.take_out.Goals as goal

pub invariant_of-self : goal.invariant_of-self
invariant_of-self c = (
  omega (arith, c.self.invariant.0, c.remove.ensures.room),
  omega (arith, c.self.invariant.1, c.unset_all.ensures.room),
  (let e : bytes_of (residents c.remove.new.self.stays) ≡ bytes_of (residents (without_file c.args.file c.self.inside.arrivals.stays)) = ap (λ l. bytes_of (residents l)) c.remove.ensures.stays in
      let less = without_bytes c.args.file c.self.inside.arrivals.stays in omega (arith, c.self.invariant.2)),
  ends_as _ _ _ c.remove.ensures.stays (ends_without c.self.inside.pins.value c.unset_all.new.self.value c.args.file c.self.inside.arrivals.stays c.unset_all.ensures.value c.self.invariant.3),
)

pub returns-clause-held : goal.returns-clause-held
returns-clause-held c = (λ i. record {
  size = ap (λ (v : Stored). v.held.value.size) c.self.view_is i;
  files = (ap residents c.remove.ensures.stays ∙ residents_without c.args.file c.self.inside.arrivals.stays ∙ ap (λ (v : Stored). without (c.args.file ∷ []) v.held.value.files) c.self.view_is) i;
  aside = ap (λ (v : Stored). v.held.value.aside) c.self.view_is i;
  pins = (c.unset_all.ensures.value ∙ ap (λ (v : Stored). pins_without (c.args.file ∷ []) v.held.value.pins) c.self.view_is) i;
})
