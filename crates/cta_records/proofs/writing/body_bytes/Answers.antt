use Rattle.std.proofs.Common.{◌∙◌, ◌++◌, [], sym, ap}
use Rattle.std.proofs.lemmas.List.{append-nil}
use Rattle.cta_records.specs.Records.{body_of}
use Rattle.cta_records.proofs.writing.body_bytes.Goals as goal

pub returns-clause-body : goal.returns-clause-body
returns-clause-body c =
    sym (append-nil _) ∙ c.in_ok-put_kept.ensures.bytes [] ∙ ap (λ xs. xs ++ body_of c.args.kept.now) c.new-body.ensures.items
