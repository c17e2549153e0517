use Rattle.std.proofs.Common.{◌∙◌, refl, true≢false, sym}
use Rattle.tape_json.proofs.Items.{body_data-text, body_data-none}
use Rattle.tape_json.proofs.body.body_value.Goals as goal

pub returns-in-Ok-clause-value : goal.returns-in-Ok-clause-value
returns-in-Ok-clause-value c = body_data-text c.args.bytes.now c.in-Ok.ensures.ok.0 ∙ c.in-Ok.ensures.ok.1

pub returns-else-is_memory-clause-cause : goal.returns-else-is_memory-clause-cause
returns-else-is_memory-clause-cause c other =
    (refl, body_data-none c.args.bytes.now (c.in-Err.ensures.err (λ memory. true≢false (sym (c.is_memory.ensures.1 memory) ∙ c.if-is_memory.false))))
