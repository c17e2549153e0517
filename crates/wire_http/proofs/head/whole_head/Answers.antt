use Rattle.std.proofs.Common.{refl, ap, ◌∙◌}
use Rattle.wire_http.specs.Rules.{before_query}
use Rattle.wire_http.proofs.Heads.{head_of}
use Rattle.wire_http.proofs.head.whole_head.Goals as goal

pub returns : goal.returns
returns c = λ h at.
    let judged = c.in-Passes.ensures h at in (
      judged.0,
      head_of c.args.limit c.of.result.now c.before_query.result.now _ h c.in-Passes.frame _ at.reads.0 (c.of.ensures ∙ at.method)
          (c.before_query.ensures ∙ ap before_query (c.of-2.ensures ∙ at.path)) at.fields judged.1
          c.in_ok-method.ensures c.in_ok-target.ensures c.in_ok-who.ensures refl refl refl refl,
    )
