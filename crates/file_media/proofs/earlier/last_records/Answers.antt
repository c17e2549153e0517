use Rattle.std.proofs.Common.{◌∙◌, ℕ, ap}
use Rattle.std.specs.Prelude.{Vec}
use Rattle.std.specs.declared.alloc.Global.{Global}
use Rattle.file_media.proofs.Noted.{listed, noted_more}
use Rattle.file_media.proofs.earlier.last_records.Goals as goal

pub loop-name-preserved : goal.loop-name-preserved
loop-name-preserved g c = (
  c.note.ensures.len ∙ c.loop-name.invariant.0,
  noted_more c.args.site.now c.deref-name-items.result.now c.loop-name.name-index c.name-item.result c.as_slice.result.now _ _ c.loop-name-test.true
      (c.as_slice.ensures.value ∙ ap (λ (v : Vec ℕ Global). v.items) c.name-item.is) c.loop-name.invariant.1 c.note.ensures.noted,
)

pub returns-clause-listed : goal.returns-clause-listed
returns-clause-listed g c =
    listed c.args.site.now _ _ c.in_ok-names.names c.deref-name-items.result.now c.loop-name.name-index c.loop-name.last c.deref-name-items.ensures.value c.loop-name-test.false c.in_ok-names.ensures c.loop-name.invariant.0
    c.loop-name.invariant.1
