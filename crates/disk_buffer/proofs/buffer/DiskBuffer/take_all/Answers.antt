use Rattle.std.proofs.Common.{◌∙◌, ◌∷◌, [], None, refl, sym, ap, arith, take}
use Rattle.std.specs.Prelude.{if◌then◌else◌}
use Rattle.cta_model.specs.History.{has_number}
use Rattle.disk_buffer.specs.Stays.{content_in}
use Rattle.disk_buffer.proofs.Held.{gone_step, held_all, held_two, held_without, take_all, take_next}
use Rattle.disk_buffer.proofs.buffer.DiskBuffer.take_all.Goals as goal

pub loop-file-init : goal.loop-file-init
loop-file-init c = (held_all c.args.self.now.held.value, λ f. refl, omega arith)

pub loop-file-preserved : goal.loop-file-preserved
loop-file-preserved c =
    let next = take_next c.args.files.now c.loop-file.file-index _ c.loop-file-test.true in (
      c.take_out.ensures.held
          ∙ ap (held_without (_ ∷ [])) c.loop-file.invariant.0
          ∙ held_two (take c.loop-file.file-index c.args.files.now) (_ ∷ []) c.args.self.now.held.value
          ∙ ap (λ l. held_without l c.args.self.now.held.value) (sym next),
      λ f. gone_step f (take c.loop-file.file-index c.args.files.now) _ _ _ _ (c.take_out.ensures.contents f) (c.loop-file.invariant.1 f) ∙ ap (λ l. if has_number f l then None else content_in c.args.self.now.contents f) (sym next),
      omega (arith, c.loop-file.invariant.2, c.take_out.ensures.room),
    )

pub returns-clause-held : goal.returns-clause-held
returns-clause-held c = c.loop-file.invariant.0 ∙ ap (λ l. held_without l c.args.self.now.held.value) (take_all c.args.files.now c.loop-file.file-index c.loop-file-test.false)

pub returns-clause-contents : goal.returns-clause-contents
returns-clause-contents c = λ f. c.loop-file.invariant.1 f ∙ ap (λ l. if has_number f l then None else content_in c.args.self.now.contents f) (take_all c.args.files.now c.loop-file.file-index c.loop-file-test.false)

pub returns-clause-room : goal.returns-clause-room
returns-clause-room c = c.loop-file.invariant.2
